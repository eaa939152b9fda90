use Rattle.std.proofs.Common.{◌≡◌, ◌≢◌, ℕ, Option, Some, List, refl, sym, ap, subst}
use Rattle.memberlist_view.specs.declared.heard.Said.TheVariants.{Dead}
use Rattle.swim_laws.specs.State.{Node, NodeState as node, DeadNode, Handles, Handles as handles, TimesOut, TimesOut as times_out}
use Rattle.swim_laws.proofs.laws.state_go_has_one_answer.Goals as goal

-- a timer's end is a death in the member's own name
said_dead : (name own : List ℕ) (time : ℕ) (n : Node) (new : Option Node) → own ≢ name → TimesOut time (Some n) new
    → Handles name time (Dead name n.inc (Some own)) (Some n) new
said_dead name own time n new other (times_out.failed m is s d) =
    handles.said_dead n.inc own refl other
    (subst (λ i. DeadNode node.dead time i (Some n) new) (sym (ap (λ (k : Node). k.inc) (unwrapped n m is))) d)
  where
    unwrapped : (a b : Node) → Some a ≡ Some b → a ≡ b
    unwrapped a b h = cc (h)

pub returns-clause-timer : goal.returns-clause-timer
returns-clause-timer c = said_dead
