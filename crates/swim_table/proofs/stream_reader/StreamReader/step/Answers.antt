use Rattle.std.proofs.Common.{◌≡◌, ◌≢◌, ◌+◌, ◌-◌, ◌++◌, ◌∷◌, [], List, subst, refl, arith}
use Rattle.std.proofs.lemmas.Result.{err_from_is_err_and}
use Rattle.swim_claim.specs.declared.claim.Claim.{Claim}
use Rattle.swim_pack.specs.Ends.{Source, ConsumesText}
use Rattle.swim_wire.specs.Texts.{StateText}
use Rattle.swim_table.specs.declared.stream_reader.Step.TheVariants.{More}
use Rattle.swim_table.specs.Streaming.{Streaming}
use Rattle.swim_table.specs.Steps.{Steps}
use Rattle.swim_table.specs.Steps.Steps.{record_of}
use Rattle.swim_table.specs.Table.{Entries, TableOf, Reduced}
use Rattle.swim_table.proofs.Streams.{user_reason, record_asks}
use Rattle.swim_table.proofs.stream_reader.StreamReader.step.Goals as goal

one_record : (reader inside : Streaming) (old new : Source) (c : Claim) (table : Entries) → inside ≡ reader → inside.left ≢ 0
    → ConsumesText old new (λ b. StateText b c)
    → TableOf table (Reduced inside.table ++ c ∷ [])
    → ((claims : List Claim) → TableOf inside.table claims → TableOf table (claims ++ c ∷ []))
    → Steps reader old new (More (record { header = inside.header; left = inside.left - 1; table = table }))
one_record reader inside old new c table same some taken reduced all =
    let sum : inside.left ≡ (inside.left - 1) + 1 = omega (arith, some) in
    subst (λ (r : Streaming). Steps r old new (More (record { header = inside.header; left = inside.left - 1; table = table }))) same
    (record_of c (record { header = inside.header; left = inside.left - 1; table = table }) refl sum taken reduced all refl)

pub returns-in-Ok-clause-takes : goal.returns-in-Ok-clause-takes
returns-in-Ok-clause-takes g c =
    let inside : Streaming = record { header = c.self.inside.header; left = c.self.inside.left; table = c.self.inside.table } in
    let same : inside ≡ c.args.self = cc in
    one_record c.args.self inside _ _ c.in_ok-claim.claim c.take.new.self same c.if-left-eq0.false c.in_ok-claim.ensures.takes
    c.in-Ok.ensures.ok c.in-Ok.ensures.all

pub returns-in_err-skip_user-clause-reason : goal.returns-in_err-skip_user-clause-reason
returns-in_err-skip_user-clause-reason g c =
    let p = err_from_is_err_and c.from_residual.result c.from_residual.ensures.1 in
    let inside : Streaming = record { header = c.self.inside.header; left = c.self.inside.left; table = c.self.inside.table } in
    let same : inside ≡ c.args.self = cc in
    let why = c.in_err-skip_user.ensures in
    rw (p.1, p.2)
    (user_reason c.args.self inside c.in_err-skip_user.field-0.0
    (g.I.Inlet.seen c.args.inlet.now) same c.if-left-eq0.true why.refusals why.lacks)

pub returns-in-Err-clause-reason : goal.returns-in-Err-clause-reason
returns-in-Err-clause-reason g c =
    let inside : Streaming = record { header = c.self.inside.header; left = c.self.inside.left; table = c.self.inside.table } in
    let same : inside ≡ c.args.self = cc in
    record_asks c.args.self inside (g.I.Inlet.seen c.args.inlet.now)
    (g.I.Inlet.seen c.read_state.new.inlet) c.in_ok-claim.claim same c.if-left-eq0.false
    c.in_ok-claim.ensures.takes
