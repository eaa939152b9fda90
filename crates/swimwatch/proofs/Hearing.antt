-- One more thing is heard.
use Rattle.std.proofs.Common.{◌≡◌, ℕ, Bool, List, [], ◌∷◌, ◌++◌, Result, Ok, Err, refl, ap, subst, ◌∙◌}
use Rattle.std.specs.Result.{OnOk}
use Rattle.swim_claim.specs.declared.claim.Claim.{Claim}
use Rattle.memberlist_message.specs.declared.message.Message.{Message}
use Rattle.memberlist_view.specs.Told.{ViewValue, view_after}
use Rattle.swimwatch.specs.Told.{record_told, heard_of}
use Rattle.swimwatch.specs.Views.{HearsMessage, HearsMessages, HearsRecords}

-- the last message is heard last
pub message_heard : (time : ℕ) (all past : List Message) (m : Message) (old mid new : ViewValue) → HearsMessages time all past old mid
    → HearsMessage time all m mid new → HearsMessages time all (past ++ m ∷ []) old new
message_heard time all [] m old mid new same last =
    (new, subst (λ (v : ViewValue). HearsMessage time all m v new) same last, refl)
message_heard time all (first ∷ past) m old mid new (next, heard, later) last =
    (next, heard, message_heard time all past m next mid new later last)

-- the last record is heard last
pub record_heard : (time : ℕ) (past : List Claim) (c : Claim) (joins : Bool) (old mid new : ViewValue) → HearsRecords time past old mid
    → new ≡ view_after mid (heard_of time (record_told c joins)) → HearsRecords time (past ++ c ∷ []) old new
record_heard time [] c joins old mid new same last =
    (joins, last ∙ ap (λ (v : ViewValue). view_after v (heard_of time (record_told c joins))) same)
record_heard time (first ∷ past) c joins old mid new (joined, later) last =
    (joined, record_heard time past c joins (view_after old (heard_of time (record_told first joined))) mid new later last)

pub on_ok : {T E : Type 0} (r : Result T E) {P : Type 0} → P → OnOk r P
on_ok (Ok v) h = h
on_ok (Err e) h = tt
