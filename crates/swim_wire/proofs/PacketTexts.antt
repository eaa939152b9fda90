-- A packet that is read is a text of its value, each text is read, and what a refusal means for the
-- bytes.
use Rattle.std.proofs.Common.{◌≡◌, ◌≢◌, ◌⊎◌, inl, inr, ℕ, Bool, true, false, eqb, List, [], ◌∷◌, ◌++◌, Result, Ok, refl}
use Rattle.std.proofs.Common.{sym, ap, subst, ◌∙◌, append-nil, eqb-true, arith}
use Rattle.std.proofs.lemmas.Bool.Decides.{nat_tests}
use Rattle.std.specs.Str.{bytes_eq}
use Rattle.swim_claim.specs.declared.claim.Claim.TheVariants.{Alive, Suspect}
use Rattle.swim_claim.specs.Details.{DetailsValue}
use Rattle.swim_pack.proofs.Composing.{ConsumedText}
use Rattle.swim_pack.specs.Composing.{refuses}
use Rattle.swim_wire.specs.declared.fault.WireFault.{WireFault}
use Rattle.swim_wire.specs.declared.fault.WireFault.TheVariants.{Ended, Memory, NameEmpty, BadAddress, BadVersions, WrongType, Trailing}
use Rattle.swim_wire.specs.declared.layout.Key.TheVariants as keys
use Rattle.swim_wire.specs.Checks.{AliveFails, AccusationFails, ReasonForPacket, ReasonForWhole}
use Rattle.swim_wire.specs.Layout.{Pairs, MapText, number_of, raw_of, alive_layout, accusation_layout}
use Rattle.swim_wire.specs.Packet.{PacketValue}
use Rattle.swim_wire.specs.Reading.{Reading, Slots, with_name, with_details, alive_of, suspect_of, dead_of, dead_claim}
use Rattle.swim_wire.specs.Reading.{alive_at, suspect_at, dead_at, packet_at, nothing_after, whole_packet}
use Rattle.swim_wire.specs.Texts.{PacketText, told_details}
use Rattle.swim_wire.specs.Texts.PacketText.{alive, suspect, leave, confirm}
use Rattle.swim_wire.proofs.Readings.{read, refused}
use Rattle.swim_wire.proofs.Keys.{alive_legal, accusation_legal, same_key, key_same, other_key, false≢true}
use Rattle.swim_wire.proofs.MapFaults.{explained_by_map}
use Rattle.swim_wire.proofs.Messages.{IsMessage, message_at, message_takes, message_again, message_refusal}
use Rattle.swim_wire.proofs.Checking.{passed, passed_is, failed, split, nothing_after_ok, nothing_after_err}
use Rattle.swim_wire.proofs.Checking.{with_name_ok, with_name_again, with_name_err, with_details_ok, with_details_again}
use Rattle.swim_wire.proofs.Checking.{with_details_err}

-- ---- the packet in the pairs of a map, or the first check that they fail

-- the packet of an alive message with these details
abbrev alive_with : Pairs → DetailsValue → PacketValue
alive_with pairs details = record { claim = Alive (raw_of keys.Node pairs) (number_of keys.Incarnation pairs) details; from = [] }

abbrev alive_from : Pairs → Result PacketValue WireFault
alive_from pairs = with_name (raw_of keys.Node pairs) (with_details (told_details pairs) (alive_with pairs))

alive_message : IsMessage alive_layout alive_of alive_from
alive_message = record {
  legal = alive_legal;
  same = λ pairs slots holds. rw (
    holds 0 (omega arith),
    holds 1 (omega arith),
    holds 2 (omega arith),
    holds 3 (omega arith),
    holds 4 (omega arith),
    holds 5 (omega arith),
  ) refl;
}

abbrev suspect_packet : Pairs → PacketValue
suspect_packet pairs = record { claim = Suspect (raw_of keys.Node pairs) (number_of keys.Incarnation pairs); from = raw_of keys.From pairs }

abbrev suspect_from : Pairs → Result PacketValue WireFault
suspect_from pairs = with_name (raw_of keys.Node pairs) (Ok (suspect_packet pairs))

suspect_message : IsMessage accusation_layout suspect_of suspect_from
suspect_message = record {
  legal = accusation_legal;
  same = λ pairs slots holds. rw (holds 0 (omega arith), holds 1 (omega arith), holds 2 (omega arith)) refl;
}

abbrev dead_packet : Bool → Pairs → PacketValue
dead_packet own pairs =
    record { claim = dead_claim own (raw_of keys.Node pairs) (number_of keys.Incarnation pairs); from = raw_of keys.From pairs }

abbrev dead_from : Pairs → Result PacketValue WireFault
dead_from pairs = with_name (raw_of keys.Node pairs) (Ok (dead_packet (bytes_eq (raw_of keys.From pairs) (raw_of keys.Node pairs)) pairs))

dead_message : IsMessage accusation_layout dead_of dead_from
dead_message = record {
  legal = accusation_legal;
  same = λ pairs slots holds. rw (holds 0 (omega arith), holds 1 (omega arith), holds 2 (omega arith)) refl;
}

-- ---- a packet that was read

alive_takes : (first : ℕ) (bytes : List ℕ) (p : PacketValue) (rest : List ℕ) → first ≡ 4 → alive_at bytes ≡ read p rest
    → ConsumedText (λ b. PacketText b p) (first ∷ bytes) rest
unfolding alive_at
alive_takes first bytes p rest type e =
    let m = message_takes alive_message bytes p rest e in
    let named = with_name_ok (raw_of keys.Node m.1) _ p m.3 in
    let legal = with_details_ok (told_details m.1) (alive_with m.1) p named.1 in
    record {
      text = first ∷ m.0;
      is = alive m.0 m.1 (ap (λ (x : ℕ). x ∷ m.0) type) m.2 named.0 (legal.0, legal.1) legal.2;
      parts = ap (λ (r : List ℕ). first ∷ r) m.4;
    }

suspect_takes : (first : ℕ) (bytes : List ℕ) (p : PacketValue) (rest : List ℕ) → first ≡ 3 → suspect_at bytes ≡ read p rest
    → ConsumedText (λ b. PacketText b p) (first ∷ bytes) rest
unfolding suspect_at
suspect_takes first bytes p rest type e =
    let m = message_takes suspect_message bytes p rest e in
    let named = with_name_ok (raw_of keys.Node m.1) _ p m.3 in
    record {
      text = first ∷ m.0;
      is = suspect m.0 m.1 (ap (λ (x : ℕ). x ∷ m.0) type) m.2 named.0 (passed_is (suspect_packet m.1) p named.1);
      parts = ap (λ (r : List ℕ). first ∷ r) m.4;
    }

dead_takes : (first : ℕ) (bytes : List ℕ) (p : PacketValue) (rest : List ℕ) → first ≡ 5 → dead_at bytes ≡ read p rest
    → ConsumedText (λ b. PacketText b p) (first ∷ bytes) rest
unfolding dead_at
dead_takes first bytes p rest type e =
    let m = message_takes dead_message bytes p rest e in
    let named = with_name_ok (raw_of keys.Node m.1) _ p m.3 in
    record {
      text = first ∷ m.0;
      is =
          by m.0 m.1 (bytes_eq (raw_of keys.From m.1) (raw_of keys.Node m.1)) refl
          (ap (λ (x : ℕ). x ∷ m.0) type) m.2 named.0 (passed_is _ p named.1);
      parts = ap (λ (r : List ℕ). first ∷ r) m.4;
    }
  where
    by : (m : List ℕ) (pairs : Pairs) (own : Bool) → bytes_eq (raw_of keys.From pairs) (raw_of keys.Node pairs) ≡ own → first ∷ m ≡ 5 ∷ m
        → MapText accusation_layout m pairs → raw_of keys.Node pairs ≢ [] → p ≡ dead_packet own pairs → PacketText (first ∷ m) p
    by m pairs true own b text named is = leave m pairs b text named (same_key _ _ own) is
    by m pairs false own b text named is = confirm m pairs b text named (λ same. false≢true (sym own ∙ key_same _ _ same)) is

pub packet_takes : (bytes : List ℕ) (p : PacketValue) (rest : List ℕ) → packet_at bytes ≡ read p rest
    → ConsumedText (λ b. PacketText b p) bytes rest
unfolding packet_at
packet_takes [] p rest e = absurd cc
packet_takes (first ∷ bytes) p rest e =
    split (eqb first 4) P alive_at _ (λ t. alive_takes first bytes p rest (eqb-true _ _ t))
    (λ _. split (eqb first 3) P suspect_at _ (λ t. suspect_takes first bytes p rest (eqb-true _ _ t))
    (λ _. split (eqb first 5) P dead_at _ (λ t. dead_takes first bytes p rest (eqb-true _ _ t)) (λ _ none. absurd cc))) e
  where
    P : Reading PacketValue → Type 0
    P reading = reading bytes ≡ read p rest → ConsumedText (λ b. PacketText b p) (first ∷ bytes) rest

-- ---- a text is read

pub packet_again : (b rest : List ℕ) (p : PacketValue) → PacketText b p → packet_at (b ++ rest) ≡ read p rest
unfolding packet_at alive_at suspect_at dead_at
packet_again b rest p (alive m pairs type text named legal is) =
    let value = with_name_again _ _ named
    ∙ with_details_again (told_details pairs) (alive_with pairs) legal.0 legal.1 ∙ ap passed (sym is)
    in
    rw type (message_again alive_message m rest pairs p text value)
packet_again b rest p (suspect m pairs type text named is) =
    rw type (message_again suspect_message m rest pairs p text (with_name_again _ _ named ∙ ap passed (sym is)))
packet_again b rest p (leave m pairs type text named own is) =
    let left = ap (λ (same : Bool). passed (dead_packet same pairs)) (key_same (raw_of keys.From pairs) (raw_of keys.Node pairs) own) in
    rw type (message_again dead_message m rest pairs p text (with_name_again _ _ named ∙ left ∙ ap passed (sym is)))
packet_again b rest p (confirm m pairs type text named other is) =
    let confirmed = ap (λ (same : Bool). passed (dead_packet same pairs))
    (other_key (raw_of keys.From pairs) (raw_of keys.Node pairs) other) in
    rw type (message_again dead_message m rest pairs p text (with_name_again _ _ named ∙ confirmed ∙ ap passed (sym is)))

-- ---- a refusal

alive_refusal : (first : ℕ) (bytes : List ℕ) (error : WireFault) → error ≢ Memory → first ≡ 4 → alive_at bytes ≡ refused PacketValue error
    → ReasonForPacket error (first ∷ bytes)
unfolding alive_at
alive_refusal first bytes error other type e =
    message_refusal alive_message bytes error e (ReasonForPacket error (first ∷ bytes))
    (λ map. (explained_by_map error (first ∷ bytes) other map).0)
    (λ pairs fails begins. with_name_err (raw_of keys.Node pairs) (with_details (told_details pairs) (alive_with pairs)) error fails
    (ReasonForPacket error (first ∷ bytes))
    (λ empty is. subst (λ f. ReasonForPacket f (first ∷ bytes)) is (inl (type, begins (AliveFails NameEmpty) empty)))
    (λ named more. with_details_err (told_details pairs) (alive_with pairs) error more (ReasonForPacket error (first ∷ bytes))
    (λ address is. subst (λ f. ReasonForPacket f (first ∷ bytes)) is (inl (type, begins (AliveFails BadAddress) (named, address))))
    (λ address versions is. subst (λ f. ReasonForPacket f (first ∷ bytes)) is
    (inl (type, begins (AliveFails BadVersions) (named, (address, versions)))))))

-- a suspect or dead message, whose only check is that of its name
accusation_refusal : (value : Pairs → PacketValue) (of_slots : Slots → Result PacketValue WireFault)
    → IsMessage accusation_layout of_slots (λ pairs. with_name (raw_of keys.Node pairs) (Ok (value pairs)))
    → (first : ℕ) (bytes : List ℕ) (error : WireFault) → error ≢ Memory → (first ≡ 3) ⊎ (first ≡ 5)
    → message_at accusation_layout of_slots bytes ≡ refused PacketValue error → ReasonForPacket error (first ∷ bytes)
accusation_refusal value of_slots message first bytes error other type e =
    message_refusal message bytes error e (ReasonForPacket error (first ∷ bytes))
    (λ map. (explained_by_map error (first ∷ bytes) other map).0)
    (λ pairs fails begins. with_name_err (raw_of keys.Node pairs) (passed (value pairs)) error fails (ReasonForPacket error (first ∷ bytes))
    (λ empty is. subst (λ f. ReasonForPacket f (first ∷ bytes)) is
    (inr (type, begins (AccusationFails NameEmpty) empty))) (λ named more. absurd cc))

ended : (error : WireFault) → Ended ≡ error → ReasonForPacket error []
ended error is = subst (λ f. ReasonForPacket f []) is tt

wrong_type : (first : ℕ) (bytes : List ℕ) (error : WireFault) → eqb first 4 ≡ false → eqb first 3 ≡ false
    → eqb first 5 ≡ false → refuses (WrongType first) bytes ≡ refused PacketValue error
    → ReasonForPacket error (first ∷ bytes)
wrong_type first bytes error four three five e =
    let is : WrongType first ≡ error = cc in
    subst (λ f. ReasonForPacket f (first ∷ bytes)) is ((bytes, refl), (differs 3 three, differs 4 four, differs 5 five))
  where
    differs : (n : ℕ) → eqb first n ≡ false → first ≢ n
    differs n no_match same = grind (arith, nat_tests)

pub packet_refusal : (bytes : List ℕ) (error : WireFault) → error ≢ Memory
    → packet_at bytes ≡ refused PacketValue error → ReasonForPacket error bytes
unfolding packet_at suspect_at dead_at
packet_refusal [] error other e = ended error cc
packet_refusal (first ∷ bytes) error other e =
    split (eqb first 4) P alive_at _ (λ t. alive_refusal first bytes error other (eqb-true _ _ t))
    (λ four. split (eqb first 3) P suspect_at _ (λ t. suspects (inl (eqb-true _ _ t)))
    (λ three. split (eqb first 5) P dead_at _ (λ t. deads (inr (eqb-true _ _ t))) (λ five. wrong_type first bytes error four three five))) e
  where
    P : Reading PacketValue → Type 0
    P reading = reading bytes ≡ refused PacketValue error → ReasonForPacket error (first ∷ bytes)

    suspects : (first ≡ 3) ⊎ (first ≡ 5) → P suspect_at
    suspects type = accusation_refusal suspect_packet suspect_of suspect_message first bytes error other type

    deads : (first ≡ 3) ⊎ (first ≡ 5) → P dead_at
    deads type =
        accusation_refusal (λ pairs. dead_packet (bytes_eq (raw_of keys.From pairs) (raw_of keys.Node pairs)) pairs)
        dead_of dead_message first bytes error other type

-- ---- packets with nothing after them

pub whole_takes : (b : List ℕ) (p : PacketValue) → whole_packet b ≡ passed p → PacketText b p
whole_takes b p e =
    let t = packet_takes b p [] (nothing_after_ok (packet_at b) p e) in
    subst (λ text. PacketText text p) (sym (t.parts ∙ append-nil t.text)) t.is

pub whole_again : (b : List ℕ) (p : PacketValue) → PacketText b p → whole_packet b ≡ passed p
whole_again b p text = ap nothing_after (ap packet_at (sym (append-nil b)) ∙ packet_again b [] p text)

pub whole_lacks : (b : List ℕ) (error : WireFault) → whole_packet b ≡ failed PacketValue error → (p : PacketValue) → PacketText b p → ⊥
whole_lacks b error e p text = let read_again = whole_again b p text in cc

pub whole_refusal : (b : List ℕ) (error : WireFault) → error ≢ Memory → whole_packet b ≡ failed PacketValue error → ReasonForWhole error b
whole_refusal b error memory e =
    nothing_after_err (packet_at b) error e (ReasonForWhole error b) (λ fails. as_whole error (packet_refusal b error memory fails))
    (λ q byte rest ok is. let t = packet_takes b q (byte ∷ rest) ok in
    subst (λ f. ReasonForWhole f b) is (t.text, q, byte, rest, t.is, t.parts))
  where
    as_whole : (f : WireFault) → ReasonForPacket f b → ReasonForWhole f b
    as_whole Trailing h = absurd h
    as_whole f h = h
