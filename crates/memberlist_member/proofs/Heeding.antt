-- What was heeded stays heeded while a member goes on.
use Rattle.std.proofs.Common.{◌≡◌, ℕ, ◌≤◌, ◌+◌, ◌<◌, List, length, take, get_or, sym, ◌∙◌, arith, Result, Ok, Err, OnOk}
use Rattle.std.proofs.lemmas.List.Elements.{All-more}
use Rattle.std.specs.List.{All}
use Rattle.memberlist_member.specs.Staying.{KeepsAnswered}
use Rattle.memberlist_member.specs.Steps.{IsHeededAck, IsOutdoneIn}
use Rattle.memberlist_member.specs.declared.member.Member.{Member}
use Rattle.memberlist_member.specs.declared.own.Own.{Own}

pub outdone_later : (old new : Own) → new.name ≡ old.name → new.is_leaving ≡ old.is_leaving → old.inc ≤ new.inc
    → (message : List ℕ) → IsOutdoneIn old message → IsOutdoneIn new message
outdone_later old new name leaving rises message before packet is stays about none below =
    let less = before packet is (sym leaving ∙ stays) (about ∙ name) none below in
    omega (arith, less, rises)

pub answered_later : (old new : Member) → KeepsAnswered old new → (message : List ℕ) → IsHeededAck old message
    → IsHeededAck new message
answered_later old new keeps message before ack is = keeps ack.seq_no (before ack is)

-- what holds of the first ones holds of one more
pub one_more : {X : Type 0} (P Q : X → Type 0) (xs : List X) (k : ℕ) (d : X) → k < length xs
    → ((x : X) → P x → Q x) → All P (take k xs) → Q (get_or xs k d) → All Q (take (k + 1) xs)
one_more P Q xs k d less later before here = All-more Q xs k d less (λ i e within. later _ (before i e within)) here

pub on_ok : {T E P Q : Type 0} (r : Result T E) → (P → Q) → OnOk r P → OnOk r Q
on_ok (Ok x) f p = f p
on_ok (Err e) f p = p

pub always_ok : {T E P : Type 0} (r : Result T E) → P → OnOk r P
always_ok (Ok x) p = p
always_ok (Err e) p = tt
