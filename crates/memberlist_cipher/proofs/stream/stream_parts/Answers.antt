use Rattle.std.proofs.Common.{◌≡◌, length, ◌∙◌, arith}
use Rattle.memberlist_cipher.proofs.Streams.{stream_is}
use Rattle.memberlist_cipher.proofs.stream.stream_parts.Goals as goal

pub returns-clause-stream : goal.returns-clause-stream
returns-clause-stream c =
    let n : length c.split_at.result.1.now ≡ c.from_be_bytes-announced.result = omega arith in
    (stream_is c.args.bytes.now c.split_at.result.0.now c.split_at.result.1.now c.split_at.ensures.front
    c.split_at.ensures.back (omega arith) (omega arith)
    (λ i. omega (arith, c.type_inv.bytes i)) (n ∙ c.from_be_bytes-announced.ensures) (omega arith)).1

pub returns-clause-head : goal.returns-clause-head
returns-clause-head c =
    let n : length c.split_at.result.1.now ≡ c.from_be_bytes-announced.result = omega arith in
    (stream_is c.args.bytes.now c.split_at.result.0.now c.split_at.result.1.now c.split_at.ensures.front
    c.split_at.ensures.back (omega arith) (omega arith)
    (λ i. omega (arith, c.type_inv.bytes i)) (n ∙ c.from_be_bytes-announced.ensures) (omega arith)).0
