use Rattle.std.proofs.Common.{◌≡◌, ◌≢◌, ◌∙◌, [], inr, Err, sym, ap, eqb-true, rules}
use Rattle.std.proofs.lemmas.List.{nil_from_length}
use Rattle.std.proofs.lemmas.Result.{err_from_is_err_and}
use Rattle.swim_wire.specs.Streams.{StreamText}
use Rattle.swim_table.proofs.WholeStreams.{refused_whole, refused_front, trailing_whole, all_taken, no_dump}
use Rattle.swim_table.proofs.stream_reader.read_dump_into.Goals as goal

pub returns-in_err-read-clause-refuses : goal.returns-in_err-read-clause-refuses
returns-in_err-read-clause-refuses c =
    let p = err_from_is_err_and c.from_residual.result c.from_residual.ensures.1 in
    let why = c.in_err-read.ensures in
    rw (p.1, p.2) (refused_whole c.in_err-read.field-0.0 c.args.bytes.now
    (rw c.new-inlet.ensures at why.lacks) (λ e. absurd (search rules)))

pub returns-in_err-read-clause-reason : goal.returns-in_err-read-clause-reason
returns-in_err-read-clause-reason c =
    let p = err_from_is_err_and c.from_residual.result c.from_residual.ensures.1 in
    let why = c.in_err-read.ensures in
    rw (p.1, p.2) (no_dump c.in_err-read.field-0.0 c.args.bytes.now (λ e. absurd (search rules)) (rw c.new-inlet.ensures at why.reason))

pub returns-else-is_empty-clause-reason : goal.returns-else-is_empty-clause-reason
returns-else-is_empty-clause-reason c =
    let read = c.in_ok-read.ensures.takes in
    let more : c.read_stream_into.new.inlet ≢ [] = search rules in
    (read.2.0, c.read_stream_into.new.inlet, read.0, c.in_ok-read.read.1, read.2.1, more, sym c.new-inlet.ensures ∙ read.2.2)

pub returns-in_err-read-clause-after : goal.returns-in_err-read-clause-after
returns-in_err-read-clause-after c front rest claims join text more parts =
    let p = err_from_is_err_and c.from_residual.result c.from_residual.ensures.1 in
    let why = c.in_err-read.ensures in
    let memory =
    refused_front c.in_err-read.field-0.0 c.args.bytes.now front rest claims join (rw c.new-inlet.ensures at why.lacks)
    (λ e. absurd (search rules)) text parts in
    inr (p.1 ∙ ap Err (p.2 ∙ memory))

pub returns-then-is_empty-clause-after : goal.returns-then-is_empty-clause-after
returns-then-is_empty-clause-after c front rest claims join text more parts =
    let read = c.in_ok-read.ensures.takes in
    let none : c.read_stream_into.new.inlet ≡ [] = sym c.rest.ensures
    ∙ nil_from_length c.rest.result.now (eqb-true _ _ (sym c.if-is_empty.ensures)) in
    let whole : StreamText c.args.bytes.now read.0 c.in_ok-read.read.1 =
    all_taken c.args.bytes.now read.2.0 c.read_stream_into.new.inlet read.0 c.in_ok-read.read.1 read.2.1
    (sym c.new-inlet.ensures ∙ read.2.2) none in
    absurd (trailing_whole c.args.bytes.now front rest claims read.0 join c.in_ok-read.read.1 text parts more whole)

pub returns-else-is_empty-clause-refuses : goal.returns-else-is_empty-clause-refuses
returns-else-is_empty-clause-refuses c other claims join whole =
    let read = c.in_ok-read.ensures.takes in
    let more : c.read_stream_into.new.inlet ≢ [] = search rules in
    trailing_whole c.args.bytes.now read.2.0 c.read_stream_into.new.inlet read.0 claims c.in_ok-read.read.1 join read.2.1
    (sym c.new-inlet.ensures ∙ read.2.2) more whole

pub returns-then-is_empty-clause-reads : goal.returns-then-is_empty-clause-reads
returns-then-is_empty-clause-reads c =
    let read = c.in_ok-read.ensures.takes in
    let none : c.read_stream_into.new.inlet ≡ [] = sym c.rest.ensures
    ∙ nil_from_length c.rest.result.now (eqb-true _ _ (sym c.if-is_empty.ensures)) in (
      read.0,
      read.1,
      all_taken c.args.bytes.now read.2.0 c.read_stream_into.new.inlet read.0 c.in_ok-read.read.1 read.2.1
          (sym c.new-inlet.ensures ∙ read.2.2) none,
    )
