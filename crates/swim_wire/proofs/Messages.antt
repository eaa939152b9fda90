-- A map, and then the checks of its values as a whole.
use Rattle.std.proofs.Common.{◌≡◌, List, ℕ, ◌++◌, Result, ap, sym, ◌∙◌}
use Rattle.swim_pack.specs.Composing.{◌>>=◌}
use Rattle.swim_wire.specs.declared.fault.WireFault.{WireFault}
use Rattle.swim_wire.specs.Checks.{BeginsFailing}
use Rattle.swim_wire.specs.Layout.{Layout, Pairs, MapText}
use Rattle.swim_wire.specs.Reading.{Reading, Slots, checked, map_at}
use Rattle.swim_wire.proofs.Checking.{passed, failed, checked_ok, checked_err}
use Rattle.swim_wire.proofs.Filling.{HoldsSlots}
use Rattle.swim_wire.proofs.Keys.{IsLegalLayout}
use Rattle.swim_wire.proofs.MapFaults.{IsMapFault, map_refusal}
use Rattle.swim_wire.proofs.Maps.{map_takes, map_again}
use Rattle.swim_wire.proofs.Readings.{read, refused, then_ok, then_err, parts_to}

-- what is made of the slots is made of the pairs that they hold
pub record IsMessage {A : Type 0} (layout : Layout) (of_slots : Slots → Result A WireFault) (of_pairs : Pairs
    → Result A WireFault) : Type 0 where
  pub legal : IsLegalLayout layout
  pub same : (pairs : Pairs) (slots : Slots) → HoldsSlots layout pairs slots → of_slots slots ≡ of_pairs pairs

abbrev pub message_at : {A : Type 0} → Layout → (Slots → Result A WireFault) → Reading A
message_at layout of_slots = map_at layout >>= (λ slots. checked (of_slots slots))

-- a message that was read
pub message_takes : {A : Type 0} {layout : Layout} {of_slots : Slots → Result A WireFault} {of_pairs : Pairs → Result A WireFault}
    → IsMessage layout of_slots of_pairs → (bytes : List ℕ) (x : A) (rest : List ℕ) → message_at layout of_slots bytes ≡ read x rest
    → (m : List ℕ) × (pairs : Pairs) × MapText layout m pairs × (of_pairs pairs ≡ passed x) × (bytes ≡ m ++ rest)
message_takes {layout} {of_slots} message bytes x rest e =
    let t = then_ok (map_at layout bytes) (λ slots. checked (of_slots slots)) x rest e in
    let m = map_takes layout bytes t.0 t.1 message.legal t.2 in
    let c = checked_ok (of_slots t.0) t.1 x rest t.3 in
    (m.0, m.1, m.2, sym (message.same m.1 t.0 m.4) ∙ c.0, parts_to m.0 m.3 c.1)

-- a text of a message is read
pub message_again : {A : Type 0} {layout : Layout} {of_slots : Slots → Result A WireFault} {of_pairs : Pairs → Result A WireFault}
    → IsMessage layout of_slots of_pairs → (m rest : List ℕ) (pairs : Pairs) (x : A) → MapText layout m pairs → of_pairs pairs ≡ passed x
    → message_at layout of_slots (m ++ rest) ≡ read x rest
message_again {A} {layout} message m rest pairs x text e =
    let a = map_again layout m pairs rest message.legal text in
    rw a.1 (ap (λ (r : Result A WireFault). checked r rest) (message.same pairs a.0 a.2 ∙ e))

-- the map is refused, or its pairs fail a check
pub message_refusal : {A : Type 0} {layout : Layout} {of_slots : Slots → Result A WireFault} {of_pairs : Pairs → Result A WireFault}
    → IsMessage layout of_slots of_pairs → (bytes : List ℕ) (error : WireFault) → message_at layout of_slots bytes ≡ refused A error
    → (P : Type 0) → (IsMapFault error → P)
    → ((pairs : Pairs) → of_pairs pairs ≡ failed A error → ((F : Pairs → Type 0) → F pairs → BeginsFailing layout F bytes) → P) → P
message_refusal {layout} {of_slots} message bytes error e P by_map by_check =
    then_err (map_at layout bytes) (λ slots. checked (of_slots slots)) error e P (λ map. by_map (map_refusal layout bytes error map))
    (λ slots mid ok check. let m = map_takes layout bytes slots mid message.legal ok in
    by_check m.1 (sym (message.same m.1 slots m.4) ∙ checked_err (of_slots slots) mid error check)
    (λ F h. record { map_text = m.0; pairs = m.1; rest = mid; text = m.2; parts = m.3; failing = h }))
