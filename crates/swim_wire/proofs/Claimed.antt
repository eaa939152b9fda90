-- What the checks of a message as a whole return, and for which messages.
use Rattle.std.proofs.Common.{◌≡◌, inl, inr, ℕ, eqb, ltb, ◌||◌, List, [], ◌∷◌, length, Option, Result, Ok, Err, refl, ap, sym, ◌∙◌}
use Rattle.std.specs.Prelude.{IfErr}
use Rattle.std.specs.Result.{result_map_both}
use Rattle.swim_claim.specs.declared.claim.Claim.{Claim}
use Rattle.swim_claim.specs.Details.{DetailsValue}
use Rattle.swim_pack.specs.Composing.Cause.{by_bytes, by_memory}
use Rattle.swim_wire.specs.declared.fault.WireFault.{WireFault}
use Rattle.swim_wire.specs.declared.fault.WireFault.TheVariants.{Memory}
use Rattle.swim_wire.specs.declared.message.Accusation.{Accusation}
use Rattle.swim_wire.specs.declared.message.Alive.{Alive}
use Rattle.swim_wire.specs.declared.message.PushNodeState.{PushNodeState}
use Rattle.swim_wire.specs.declared.message.PushPullHeader.{PushPullHeader}
use Rattle.swim_wire.specs.declared.state_record.StateRecord.{StateRecord}
use Rattle.swim_wire.specs.declared.stream.Header.{Header}
use Rattle.swim_wire.specs.Limits.{max_nodes, max_user_state_len}
use Rattle.swim_wire.specs.Message.{HasAliveFields, HasAccusationFields, HasHeaderFields, HasStateFields}
use Rattle.swim_wire.specs.Message.{slots_of_alive, slots_of_accusation, slots_of_header, slots_of_state}
use Rattle.swim_wire.specs.Places.{header_nodes, header_user_state_len, state_name, state_state}
use Rattle.swim_wire.specs.Reading.{Slots, wire_cause, AnswersUnlessMemory, number_in, raw_in, with_name, with_details}
use Rattle.swim_wire.specs.Reading.{alive_of, suspect_of, dead_of, header_of, state_of, claim_of_state, told_of}
use Rattle.swim_wire.specs.Reading.{with_told, record_of}
use Rattle.swim_wire.proofs.Checking.{split}

pub unless_ok : {A : Type 0} (wanted : Result A WireFault) (x : A) → AnswersUnlessMemory wanted (Ok x) → wanted ≡ Ok x
unless_ok wanted x (inl e) = sym e
unless_ok wanted x (inr e) = absurd cc

-- ---- a check refuses because of the bytes

pub record IsCheck {A : Type 0} (r : Result A WireFault) : Type 0 where
  pub by : IfErr r (λ error. wire_cause error ≡ by_bytes)

name_check : {A : Type 0} (name : List ℕ) (r : Result A WireFault) → IsCheck r → IsCheck (with_name name r)
name_check [] r h = record { by = refl }
name_check (byte ∷ bytes) r h = h

details_check : {A : Type 0} (d : DetailsValue) (f : DetailsValue → A) → IsCheck (with_details d f)
details_check {A} d f =
    split (eqb (length d.addr) 4 || eqb (length d.addr) 16) P _ _
    (λ _. split (eqb (length d.vsn) 0 || eqb (length d.vsn) 6) P _ _ (λ _. record { by = tt }) (λ _. record { by = refl }))
    (λ _. record { by = refl })
  where
    P : Result A WireFault → Type 0
    P r = IsCheck r

ok_check : {A : Type 0} (x : A) → IsCheck {A = A} (Ok x)
ok_check x = record { by = tt }

pub alive_check : (slots : Slots) → IsCheck (alive_of slots)
alive_check slots = search (name_check, details_check)

pub suspect_check : (slots : Slots) → IsCheck (suspect_of slots)
suspect_check slots = search (name_check, ok_check)

pub dead_check : (slots : Slots) → IsCheck (dead_of slots)
dead_check slots = search (name_check, ok_check)

claim_check : (slots : Slots) (state : ℕ) → IsCheck (claim_of_state slots state)
claim_check slots state =
    split (eqb state 0) P _ _ (λ _. search details_check)
    (λ _. split (eqb state 1) P _ _ (λ _. record { by = tt })
    (λ _. split (eqb state 2) P _ _ (λ _. record { by = tt })
    (λ _. split (eqb state 3) P _ _ (λ _. record { by = tt }) (λ _. record { by = refl }))))
  where
    P : Result Claim WireFault → Type 0
    P r = IsCheck r

pub state_check : (slots : Slots) → IsCheck (state_of slots)
state_check slots = name_check (raw_in slots state_name) (claim_of_state slots (number_in slots state_state))
    (claim_check slots (number_in slots state_state))

pub header_check : (slots : Slots) → IsCheck (header_of slots)
header_check slots =
    split (ltb max_nodes (number_in slots header_nodes)) P _ _ (λ _. record { by = refl })
    (λ _. split (ltb max_user_state_len (number_in slots header_user_state_len)) P _ _
    (λ _. record { by = refl }) (λ _. record { by = tt }))
  where
    P : Result Header WireFault → Type 0
    P r = IsCheck r

bytes≢memory : by_memory ≡ by_bytes → ⊥
bytes≢memory e = cc

abbrev pub err : (A : Type 0) → WireFault → Result A WireFault
err A error = Err error

pub memory_cause : {A : Type 0} (error : WireFault) → err A error ≡ err A Memory → wire_cause error ≡ by_memory
memory_cause error is =
    let same : error ≡ Memory = cc in
    ap wire_cause same

-- so a check that needs no memory is not refused with `Memory`
pub no_memory : {A : Type 0} (wanted result : Result A WireFault) → IsCheck wanted → result ≡ wanted → ¬ (result ≡ Err Memory)
no_memory (Ok x) result check e is = cc
no_memory {A} (Err error) result check e is =
    let same : err A error ≡ err A Memory = sym e ∙ is in
    bytes≢memory (sym (memory_cause error same) ∙ check.by)

-- ---- what the slots of a map mean

pub alive_said : (slots : Slots) (alive : Alive) → HasAliveFields slots alive → alive_of (slots_of_alive alive) ≡ alive_of slots
alive_said slots alive says = rw (says.addr, says.incarnation, says.meta, says.node, says.port, says.vsn) refl

pub suspect_said : (slots : Slots) (suspect : Accusation) → HasAccusationFields slots suspect
    → suspect_of (slots_of_accusation suspect) ≡ suspect_of slots
suspect_said slots suspect says = rw (says.from, says.incarnation, says.node) refl

pub dead_said : (slots : Slots) (dead : Accusation) → HasAccusationFields slots dead → dead_of (slots_of_accusation dead) ≡ dead_of slots
dead_said slots dead says = rw (says.from, says.incarnation, says.node) refl

pub header_said : (slots : Slots) (header : PushPullHeader) → HasHeaderFields slots header
    → header_of (slots_of_header header) ≡ header_of slots
header_said slots header says = rw (says.join, says.nodes, says.user_state_len) refl

pub state_said : (slots : Slots) (state : PushNodeState) → HasStateFields slots state → state_of (slots_of_state state) ≡ state_of slots
state_said slots state says = rw (says.addr, says.incarnation, says.meta, says.name, says.port, says.number, says.vsn) refl

-- ---- records with all that they say

pub record_said : (slots : Slots) (state : PushNodeState) → HasStateFields slots state → record_of (slots_of_state state) ≡ record_of slots
record_said slots state says = rw (says.addr, says.incarnation, says.meta, says.name, says.port, says.number, says.vsn) refl

told_check : (told : Option DetailsValue) (r : Result Claim WireFault) → IsCheck r → IsCheck (with_told told r)
told_check told (Ok claim) h = record { by = tt }
told_check told (Err error) h = record { by = h.by }

pub record_check : (slots : Slots) → IsCheck (record_of slots)
record_check slots = told_check (told_of slots) (state_of slots) (state_check slots)

-- the claim of what was read
abbrev pub claim_in : Result StateRecord WireFault → Result Claim WireFault
claim_in r = result_map_both (λ r. r.claim) (λ fault. fault) r

claim_kept : (told : Option DetailsValue) (r : Result Claim WireFault) → claim_in (with_told told r) ≡ r
claim_kept told (Ok claim) = refl
claim_kept told (Err error) = refl

pub claim_answered : (slots : Slots) (r : Result StateRecord WireFault) → AnswersUnlessMemory (record_of slots) r
    → AnswersUnlessMemory (state_of slots) (claim_in r)
claim_answered slots r (inl e) = inl (ap claim_in e ∙ claim_kept (told_of slots) (state_of slots))
claim_answered slots r (inr e) = inr (ap claim_in e)
