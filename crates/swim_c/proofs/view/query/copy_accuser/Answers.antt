use Rattle.std.proofs.Common.{◌≡◌, ◌∙◌, ℕ, List, Some, slice_get, subst, rules}
use Rattle.swim_c.specs.Buffers.{Copied}
use Rattle.swim_c.specs.ViewMembers.{Accuses, accusers}
use Rattle.swim_c.proofs.view.query.copy_accuser.Goals as goal

pub returns-in-Some : goal.returns-in-Some
returns-in-Some c =
    let there : slice_get (accusers c.args.state.now) c.args.i ≡ Some c.in-Some.name.now = search rules in
    let same : c.bytes.result.now ≡ c.in-Some.name.now = c.bytes.ensures.bytes ∙ c.name.ensures in
    Accuses.given c.in-Some.name.now there
    (subst (λ (b : List ℕ). Copied b c.args.out.now c.copy_out.new.out c.copy_out.result.status
    c.copy_out.result.len) same c.copy_out.ensures)
