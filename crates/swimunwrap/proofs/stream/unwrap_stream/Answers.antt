use Rattle.std.proofs.Common.{◌∙◌, ap}
use Rattle.swimunwrap.specs.Stream.{what_of_stream}
use Rattle.swimunwrap.proofs.Streams.{IsOwn, own}
use Rattle.swimunwrap.proofs.stream.unwrap_stream.Goals as goal

pub returns-in-Err-clause-refuses : goal.returns-in-Err-clause-refuses
returns-in-Err-clause-refuses c = λ seen within.
    c.in-Err.ensures.refuses (λ memory. seen (c.what_of_stream.ensures ∙ ap what_of_stream memory))

pub returns-in-Err-clause-reason : goal.returns-in-Err-clause-reason
returns-in-Err-clause-reason c = λ seen within. (
  c.in-Err.fault,
  c.in-Err.ensures.reason (λ memory. seen (c.what_of_stream.ensures ∙ ap what_of_stream memory)),
  c.what_of_stream.ensures,
)

pub returns-in-Err-clause-no_device : goal.returns-in-Err-clause-no_device
returns-in-Err-clause-no_device c = let is : IsOwn c.what_of_stream.result = rw c.what_of_stream.ensures (own c.in-Err.fault) in is.0
