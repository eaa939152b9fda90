-- A push/pull stream of which some records were read.
use Rattle.std.proofs.Common.{◌≡◌, ℕ, ◌-◌, ◌<◌, List, [], ◌∷◌, ◌++◌, length, take, Some, refl, sym, ap, ◌∙◌}
use Rattle.std.proofs.Common.{append_assoc, append-nil, arith}
use Rattle.std.proofs.Math.Seq.{take-append_seam}
use Rattle.swim_claim.specs.declared.claim.Claim.{Claim}
use Rattle.swim_pack.specs.Composing.{UnlessFailed}
use Rattle.swim_pack.specs.Composing.Cause.{by_inlet}
use Rattle.swim_pack.specs.Ends.{ConsumesKnownText, CountsFault}
use Rattle.swim_wire.specs.declared.fault.WireFault.{WireFault}
use Rattle.swim_wire.specs.declared.fault.WireFault.TheVariants.{Fault, Memory}
use Rattle.swim_wire.specs.Reading.{wire_cause}
use Rattle.swim_wire.specs.declared.stream.Header.{Header}
use Rattle.swim_wire.specs.Streams.StateTexts.{none}
use Rattle.swim_wire.specs.Texts.{HeaderText, StateText}
use Rattle.swim_table.specs.Steps.{IsWanted, BeginText}
use Rattle.swim_table.specs.Steps.{IsWanted as wants}
use Rattle.swim_table.specs.Streaming.{Streaming}
use Rattle.swim_table.proofs.Streams.{begun_more, wanted, whole}
use Rattle.swimwatch.specs.Records.{BeginsWithState, BeginsWithStream}

-- the header and the records of these claims were read, and these bytes are left now
pub record ReadSome (bytes now : List ℕ) (header : Header) (claims : List Claim) : Type 0 where
  pub front : List ℕ
  pub begun : BeginText front header claims
  pub parts : bytes ≡ front ++ now

pub started : (bytes now : List ℕ) (header : Header)
    → ConsumesKnownText (Some bytes) (Some now) (λ b. HeaderText b header) → ReadSome bytes now header []
started bytes now header taken = record {
  front = taken.0;
  begun =
      record { head = taken.0; records = []; bytes = sym (append-nil taken.0); head_text = taken.1; record_texts = none };
  parts = taken.2;
}

pub one_more : (bytes mid now : List ℕ) (header : Header) (claims : List Claim) (c : Claim) → ReadSome bytes mid header claims
    → ConsumesKnownText (Some mid) (Some now) (λ b. StateText b c) → ReadSome bytes now header (claims ++ c ∷ [])
one_more bytes mid now header claims c some taken = record {
  front = some.front ++ taken.0;
  begun = begun_more header claims c some.front taken.0 some.begun taken.1;
  parts = some.parts ∙ ap (λ (z : List ℕ). some.front ++ z) taken.2 ∙ sym (append_assoc some.front taken.0 now);
}

pub ended : (bytes mid now : List ℕ) (header : Header) (claims : List Claim) → length claims ≡ header.nodes
    → ReadSome bytes mid header claims
    → ConsumesKnownText (Some mid) (Some now) (λ b. length b ≡ header.user_len) → BeginsWithStream bytes claims
ended bytes mid now header claims count some taken = (
  some.front ++ taken.0,
  now,
  header.join,
  whole header claims some.front taken.0 count some.begun taken.1,
  some.parts ∙ ap (λ (z : List ℕ). some.front ++ z) taken.2 ∙ sym (append_assoc some.front taken.0 now),
)

-- what was taken behind the records is the user state
pub ended_with : (bytes mid now : List ℕ) (header : Header) (claims : List Claim)
    → length claims ≡ header.nodes → ReadSome bytes mid header claims
    → ConsumesKnownText (Some mid) (Some now) (λ b. length b ≡ header.user_len) → BeginsWithState bytes claims (take header.user_len mid)
ended_with bytes mid now header claims count some taken = (
  some.front ++ taken.0,
  now,
  header.join,
  record {
    header = header;
    head = some.begun.head;
    records = some.begun.records;
    user = taken.0;
    bytes = ap (λ (z : List ℕ). z ++ taken.0) some.begun.bytes;
    head_text = some.begun.head_text;
    flag = refl;
    nodes = count;
    record_texts = some.begun.record_texts;
    user_len = taken.1;
  },
  sym (ap (λ (z : List ℕ). take header.user_len z) taken.2
      ∙ ap (λ (n : ℕ). take n (taken.0 ++ now)) (sym taken.1) ∙ take-append_seam taken.0 now),
  some.parts ∙ ap (λ (z : List ℕ). some.front ++ z) taken.2 ∙ sym (append_assoc some.front taken.0 now),
)

-- ---- bytes in memory never fail

pub no_rise : CountsFault 0 0 → ⊥
no_rise h = omega (arith, h)

pub no_fault : (fault : WireFault) → (wire_cause fault ≡ by_inlet → CountsFault 0 0) → fault ≡ Fault → ⊥
no_fault fault rises is = no_rise (rises (ap wire_cause is))

-- what is reported unless the inlet failed or memory ran out
pub told : (fault : WireFault) {P : Type 0} → (fault ≡ Fault → ⊥) → (fault ≡ Memory → ⊥) → UnlessFailed (wire_cause fault) P → P
told Fault other more h = absurd (other refl)
told Memory other more h = absurd (more refl)
told error other more h = h

-- ---- the bytes do not begin with a stream

in_parts : (head records user rest : List ℕ) → (head ++ records ++ user) ++ rest ≡ head ++ (records ++ (user ++ rest))
in_parts head records user rest = simp append_assoc

pub no_header : (bytes : List ℕ) → ((text rest : List ℕ) → ((h : Header) × HeaderText text h) → bytes ≡ text ++ rest → ⊥)
    → (claims : List Claim) → ¬ BeginsWithStream bytes claims
no_header bytes lacks claims (front, rest, join, text, parts) =
    lacks text.head (text.records ++ (text.user ++ rest)) (text.header, text.head_text)
    (parts ∙ ap (λ (z : List ℕ). z ++ rest) text.bytes ∙ in_parts text.head text.records text.user rest)

pub no_record : (bytes now : List ℕ) (header : Header) (claims : List Claim)
    → ReadSome bytes now header claims → length claims < header.nodes
    → ((text rest : List ℕ) → ((c : Claim) × StateText text c) → now ≡ text ++ rest → ⊥)
    → (all : List Claim) → ¬ BeginsWithStream bytes all
no_record bytes now header claims some fewer lacks all (front, rest, join, text, parts) =
    let reader : Streaming = record { header = header; left = header.nodes - length claims; table = [] } in
    let w =
    wanted reader claims all join some.front now front rest some.begun (omega (arith, fewer)) text (sym some.parts ∙ parts) in
    refuse reader w.0 w.1 (omega (arith, fewer)) w.2 w.3
  where
    refuse : (reader : Streaming) (text back : List ℕ) → 0 < reader.left → IsWanted reader text → now ≡ text ++ back → ⊥
    refuse reader text back left (wants.record_of c more state) e = lacks text back (c, state) e
    refuse reader text back left (wants.user_state over long) e = absurd (omega (arith, left, over))

pub no_user : (bytes now : List ℕ) (header : Header) (claims : List Claim) → ReadSome bytes now header claims → length claims ≡ header.nodes
    → ((text rest : List ℕ) → length text ≡ header.user_len → now ≡ text ++ rest → ⊥)
    → (all : List Claim) → ¬ BeginsWithStream bytes all
no_user bytes now header claims some count lacks all (front, rest, join, text, parts) =
    let reader : Streaming = record { header = header; left = 0; table = [] } in
    let w =
    wanted reader claims all join some.front now front rest some.begun (omega (arith, count)) text (sym some.parts ∙ parts) in
    refuse reader w.0 w.1 (omega arith) (λ (t : List ℕ) (r : List ℕ) (e : length t ≡ reader.header.user_len). lacks t r e) w.2 w.3
  where
    refuse : (reader : Streaming) (text back : List ℕ) → reader.left ≡ 0
        → ((text rest : List ℕ) → length text ≡ reader.header.user_len → now ≡ text ++ rest → ⊥)
        → IsWanted reader text → now ≡ text ++ back → ⊥
    refuse reader text back over lack (wants.record_of c more state) e = absurd (omega (arith, over, more))
    refuse reader text back over lack (wants.user_state same long) e = lack text back long e
