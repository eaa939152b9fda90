-- A claim in a datagram in the clear.
use Rattle.std.proofs.Common.{◌≡◌, ◌≢◌, ◌<◌, ◌≤◌, ◌==◌, ℕ, Bool, true, false, List, [], ◌∷◌, get_or, length, Ok, None, refl, sym, ap, subst}
use Rattle.std.proofs.Common.{inl, inr, arith, if◌then◌else◌}
use Rattle.std.specs.Prelude.{MatchBool}
use Rattle.std.proofs.lemmas.Bool.{eqb-true}
use Rattle.std.proofs.lemmas.Bool.Decides.{nat_tests}
use Rattle.swim_claim.specs.declared.claim.Claim.{Claim}
use Rattle.swim_wire.specs.Packet.{PacketValue}
use Rattle.memberlist_cipher.specs.Encryption.{Encryption}
use Rattle.memberlist_keyring.specs.Opening.{Opens}
use Rattle.memberlist_message.specs.declared.message.Message.{Message}
use Rattle.memberlist_message.specs.Compounds.{compound_of}
use Rattle.memberlist_message.specs.Leaves.{AreLeaves}
use Rattle.memberlist_message.specs.Messages.{MessageValue, makes_claim, message_of}
use Rattle.memberlist_transport.specs.declared.in_the_clear.InTheClear.{InTheClear}
use Rattle.memberlist_transport.specs.declared.in_the_clear.InTheClear.TheVariants.{Refused}
use Rattle.memberlist_transport.specs.InTheClear.{AcceptsClear}
use Rattle.memberlist_transport.specs.Unwrapped.{IsInside}
use Rattle.memberlist_view.specs.Told.{ViewValue, view_after}
use Rattle.memberlist_wrap.specs.Wrapping.{Wrapper, Unwraps, kind}
use Rattle.swimwatch.specs.Datagrams.{Gives, IsReadAs, Unpacks, if_read, values}
use Rattle.swimwatch.specs.Told.{heard_of, packet_told}
use Rattle.swimwatch.specs.Views.{HearsDatagram, is_warning_of}
use Rattle.swimwatch.proofs.Authentic.{forged}

-- ---- the type of a claim

in_range : (first : ℕ) (three four : Bool) → (first == 3) ≡ three → (first == 4) ≡ four
    → (if three then true else (if four then true else first == 5)) ≡ true → (2 < first) × (first < 6)
in_range first true four a b is = let same = eqb-true first 3 a in (omega arith, omega arith)
in_range first false true a b is = let same = eqb-true first 4 b in (omega arith, omega arith)
in_range first false false a b is = let same = eqb-true first 5 is in (omega arith, omega arith)

range : (first : ℕ) → makes_claim first ≡ true → (2 < first) × (first < 6)
range first is = in_range first (first == 3) (first == 4) refl refl is

-- ---- no key opens it

-- an encryption begins with its version
no_encryption : (key aad : List ℕ) (first : ℕ) (body plain : List ℕ) → 2 < first → ¬ Encryption key aad (first ∷ body) plain
no_encryption key aad first body plain above e = elim e.text [
  | inl zero ↦ (let is : first ≡ 0 = ap (λ (l : List ℕ). get_or l 0 first) zero in omega arith)
  | inr one ↦ (let is : first ≡ 1 = ap (λ (l : List ℕ). get_or l 0 first) one in omega arith)
]

no_key : (keys : List (List ℕ)) (first : ℕ) (body plain : List ℕ) → 2 < first → first < 6 → ¬ Opens keys (first ∷ body) plain
no_key keys first body plain above below o = elim o.labelled [
  | inl bare ↦ no_encryption o.key o.label first body plain above
      (subst (λ (b : List ℕ). Encryption o.key o.label b plain) (sym bare.1) o.encryption)
  | inr labelled ↦ (let is : first ≡ 244 = ap (λ (l : List ℕ). get_or l 0 first) labelled.1 in omega arith)
]

-- ---- it is read

no_wrapper : (w : Wrapper) (first : ℕ) (body rest : List ℕ) → first < 6 → first ∷ body ≢ kind w ∷ rest
no_wrapper Wrapper.compression first body rest below same =
    let is : first ≡ 9 = ap (λ (l : List ℕ). get_or l 0 first) same in
    omega arith
no_wrapper Wrapper.checksum first body rest below same =
    let is : first ≡ 12 = ap (λ (l : List ℕ). get_or l 0 first) same in
    omega arith
no_wrapper Wrapper.label first body rest below same =
    let is : first ≡ 244 = ap (λ (l : List ℕ). get_or l 0 first) same in
    omega arith

bare : (first : ℕ) (body : List ℕ) → first < 6 → length (first ∷ body) ≤ 1048576 → Unwraps 1048576 (first ∷ body) (first ∷ body)
bare first body below short = record {
  wrappers = [];
  few = omega arith;
  wraps = record { wrapped = refl; bare = λ w rest. no_wrapper w first body rest below; within = short };
}

no_compound : (first : ℕ) (body : List ℕ) → first < 6 → compound_of (first ∷ body) ≡ None
no_compound first [] below = refl
no_compound first (count ∷ rest) below =
    let other : (first == 7) ≡ false = grind (arith, nat_tests) in
    rw other refl

gives : (room first : ℕ) (body : List ℕ) (packet : PacketValue) → first < 6 → message_of (first ∷ body) ≡ Ok (MessageValue.claim packet)
    → Gives room (first ∷ body) [] (values (Message.Claim packet ∷ [])) room
gives room first body packet below is =
    let other : (first == 9) ≡ false = grind (arith, nat_tests) in
    subst
    (λ (b : Bool). MatchBool b (Unpacks room (first ∷ body) [] (values (Message.Claim packet ∷ [])) room)
    ((values (Message.Claim packet ∷ []) ≡ if_read (message_of (first ∷ body))) × (room ≡ room)))
    (sym other) (ap if_read (sym is), refl)

read : (first : ℕ) (body : List ℕ) (packet : PacketValue) → first < 6 → message_of (first ∷ body) ≡ Ok (MessageValue.claim packet)
    → IsReadAs (first ∷ body) (values (Message.Claim packet ∷ []))
read first body packet below is = (
  (first ∷ body) ∷ [],
  0,
  1048576,
  AreLeaves.leaf (first ∷ body) [] [] 0 (no_compound first body below) AreLeaves.none,
  (values (Message.Claim packet ∷ []), 1048576, gives 1048576 first body packet below is, (refl, refl)),
)

-- ---- it is heard

no_warning : (packet : PacketValue) (from : List ℕ) (claim : Claim) → is_warning_of (Message.Claim packet ∷ []) from claim ≡ false
no_warning packet from (Claim.Alive name inc details) = refl
no_warning packet from (Claim.Suspect name inc) = refl
no_warning packet from (Claim.Confirm name inc) = refl
no_warning packet from (Claim.Leave name inc) = refl

pub accepted : (policy : InTheClear) (keys : List (List ℕ)) (first : ℕ) (body : List ℕ) (packet : PacketValue) (time : ℕ)
    (old : ViewValue) → AcceptsClear policy keys → makes_claim first ≡ true → message_of (first ∷ body) ≡ Ok (MessageValue.claim packet)
    → length (first ∷ body) ≤ 1048576
    → HearsDatagram policy keys [] (first ∷ body) time old (view_after old (heard_of time (packet_told packet)))
accepted policy keys first body packet time old accepts claims is short =
    let within = range first claims in
    let new = view_after old (heard_of time (packet_told packet)) in
    HearsDatagram.messages (Message.Claim packet ∷ []) (inl refl) (
      first ∷ body,
      IsInside.clear accepts (λ plain. no_key keys first body plain within.0 within.1) (bare first body within.1 short),
      read first body packet within.1 is,
    )
    (new, subst (λ (b : Bool). MatchBool b (new ≡ old) (new ≡ new)) (sym (no_warning packet packet.from packet.claim)) refl, refl)

pub refused : (keys : List (List ℕ)) (label : List ℕ) (first : ℕ) (body : List ℕ) (time : ℕ) (old new : ViewValue) → keys ≢ []
    → makes_claim first ≡ true → HearsDatagram Refused keys label (first ∷ body) time old new → new ≡ old
refused keys label first body time old new some claims hears =
    let within = range first claims in
    forged keys label (first ∷ body) time old new some (λ plain. no_key keys first body plain within.0 within.1) hears
