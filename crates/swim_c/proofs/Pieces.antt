-- Streams that come in pieces: how far one is read, and why it is not whole.
use Rattle.std.proofs.Common.{◌≡◌, ◌≢◌, ◌∙◌, ℕ, ◌+◌, ◌-◌, ◌<◌, ◌≤◌, true, false, List, [], ◌∷◌, ◌++◌, length, take}
use Rattle.std.proofs.Common.{drop, inl, inr, refl, sym, ap, subst, append-nil, append_assoc, arith}
use Rattle.std.proofs.Math.Seq.{drop-append_seam}
use Rattle.std.proofs.lemmas.List.{length-append, length-take-le, take-append-drop}
use Rattle.swim_claim.specs.declared.claim.Claim.{Claim}
use Rattle.swim_pack.proofs.Composing.{UnlessFailed-weaker}
use Rattle.swim_pack.specs.Composing.{UnlessFailed}
use Rattle.swim_pack.specs.Composing.Cause.{by_inlet}
use Rattle.swim_pack.specs.Ends.{NoTextAtFront, CountsFault, ConsumesText}
use Rattle.swim_wire.specs.declared.fault.WireFault.{WireFault}
use Rattle.swim_wire.specs.declared.fault.WireFault.TheVariants as wire
use Rattle.swim_wire.specs.declared.stream.Header.{Header}
use Rattle.swim_wire.proofs.Reasons.{memory_or}
use Rattle.swim_wire.specs.Fault.{wire_number}
use Rattle.swim_wire.specs.Reading.{wire_cause}
use Rattle.swim_wire.specs.Streams.{StateTexts}
use Rattle.swim_wire.specs.Texts.{HeaderText, StateText}
use Rattle.swim_table.proofs.Streams.{ReadSome, begun_more, none_wanted, step_reason, whole}
use Rattle.swim_table.proofs.Changed.{join_of_none}
use Rattle.swim_table.proofs.Tables.{Join-comm, TableOf-Join, TableOf-Reduced, TableOf-table_of}
use Rattle.swim_table.proofs.WholeStreams.{HasNone}
use Rattle.swim_table.specs.Join.{table_of}
use Rattle.swim_table.specs.Steps.{BeginText, IsWanted, ReasonForBegin, ReasonForRecord, ReasonForStep, ReasonForStream}
use Rattle.swim_table.specs.Streaming.{Streaming}
use Rattle.swim_table.specs.Table.{TakesIn, TableOf}
use Rattle.swim_c.specs.declared.progress.Progress.{Progress}
use Rattle.swim_c.specs.Exchanges.{HoldsNoStream}
use Rattle.swim_c.specs.Progressing.{progress, HasBegun, IsProgressIn, StopsAt, TakesRecord, WholeDone}
use Rattle.swim_c.proofs.Faults.{memory, lacks}

-- ---- what is read, and what is not

-- a table of no claims took in those that the table of them has
took : (claims : List Claim) → TakesIn [] (table_of claims) claims
took claims taken of =
    let is = TableOf-table_of claims in
    subst (λ t. TableOf t (taken ++ claims))
    (Join-comm [] (table_of claims) ∙ join_of_none (table_of claims) [] (TableOf-Reduced (table_of claims) claims is) refl)
    (TableOf-Join [] (table_of claims) taken claims of is)

-- what progress says was read is what reading step by step reads
read_some : (bytes front rest : List ℕ) (header : Header) (claims : List Claim) (left : ℕ)
    → BeginText front header claims → bytes ≡ front ++ rest
    → length claims + left ≡ header.nodes
    → ReadSome (memory bytes) (memory rest) []
    (record { header = header; left = left; table = table_of claims })
read_some bytes front rest header claims left begun parts sum = record {
  claims = claims;
  table = took claims;
  counted = sum;
  taken = (front, begun, parts);
}

unread : (bytes front rest : List ℕ) (p : Progress) (user : ℕ) → bytes ≡ front ++ rest
    → p ≡ progress (length front) p.left user true → drop p.at bytes ≡ rest
unread bytes front rest p user parts is =
    ap (λ (q : Progress). drop q.at bytes) is ∙ ap (λ (b : List ℕ). drop (length front) b) parts ∙ drop-append_seam front rest

has_one : (p : Progress) (at left user : ℕ) → p ≡ progress at left user true → p.has_header ≡ false → ⊥
has_one p at left user is fresh = let begun_it : p.has_header ≡ true = ap (λ (q : Progress). q.has_header) is
    in let both : true ≡ false = sym begun_it ∙ fresh in cc

has_none : (p : Progress) → p ≡ progress 0 0 0 false → p.has_header ≡ true → ⊥
has_none p is begun_it = let fresh : p.has_header ≡ false = ap (λ (q : Progress). q.has_header) is
    in let both : true ≡ false = sym begun_it ∙ fresh in cc

-- the offset after what was read
place : (bytes front rest : List ℕ) → bytes ≡ front ++ rest → length bytes - length rest ≡ length front
place bytes front rest parts = let sum : length bytes ≡ length front + length rest = ap length parts
    ∙ length-append front rest in omega (arith, sum)

-- the header is read
pub header_read : (bytes rest : List ℕ) (old new : Progress) (h : Header) → old.has_header ≡ false
    → ConsumesText (memory (drop old.at bytes)) (memory rest) (λ b. HeaderText b h)
    → new ≡ progress (length bytes - length rest) h.nodes h.user_len true → IsProgressIn bytes old → IsProgressIn bytes new
header_read bytes rest old new h fresh taken is (IsProgressIn.none was) =
    let parts : bytes ≡ taken.0 ++ rest = sym (ap (λ (q : Progress). drop q.at bytes) was) ∙ taken.2 in
    let left : new.left ≡ h.nodes = ap (λ (q : Progress). q.left) is in
    IsProgressIn.some taken.0 rest h []
    (record {
      head = taken.0;
      records = [];
      bytes = sym (append-nil taken.0);
      head_text = taken.1;
      record_texts = StateTexts.none;
    })
    parts (omega (arith, left)) (is ∙ (λ i. progress (place bytes taken.0 rest parts i) (sym left i) h.user_len true))
header_read bytes rest old new h fresh taken is
    (IsProgressIn.some front more header claims begun parts sum was) = absurd
    (has_one old _ _ _ was fresh)

pub header_begun : (bytes rest : List ℕ) (old new : Progress) (h : Header) → old.has_header ≡ false
    → ConsumesText (memory (drop old.at bytes)) (memory rest) (λ b. HeaderText b h)
    → new ≡ progress (length bytes - length rest) h.nodes h.user_len true → HasBegun bytes old new
header_begun bytes rest old new h fresh taken is = HasBegun.now taken.0 rest h fresh taken.1 taken.2 is

pub record_taken : (bytes rest : List ℕ) (old new : Progress) (c : Claim) → 0 < old.left
    → ConsumesText (memory (drop old.at bytes)) (memory rest) (λ b. StateText b c)
    → new ≡ progress (length bytes - length rest) (old.left - 1) old.user_len true → TakesRecord bytes old new c
record_taken bytes rest old new c some taken is = (taken.0, rest, taken.1, some, taken.2, is)

-- one more record is read
pub record_read : (bytes rest : List ℕ) (old new : Progress) (c : Claim) → old.has_header ≡ true → old.left ≡ new.left + 1
    → ConsumesText (memory (drop old.at bytes)) (memory rest) (λ b. StateText b c)
    → new ≡ progress (length bytes - length rest) new.left old.user_len true → IsProgressIn bytes old → IsProgressIn bytes new
record_read bytes rest old new c begun_it left taken is (IsProgressIn.none was) = absurd (has_none old was begun_it)
record_read bytes rest old new c begun_it left taken is (IsProgressIn.some front more header claims begun parts sum was) =
    let behind : more ≡ taken.0 ++ rest = sym (unread bytes front more old header.user_len parts was) ∙ taken.2 in
    let parts' : bytes ≡ (front ++ taken.0) ++ rest = parts ∙ ap
    (λ (m : List ℕ). front ++ m) behind ∙ sym (append_assoc front taken.0 rest) in
    let count = length-append claims (c ∷ []) in
    let user : old.user_len ≡ header.user_len = ap (λ (q : Progress). q.user_len) was in
    IsProgressIn.some (front ++ taken.0) rest header (claims ++ c ∷ []) (begun_more header claims c front taken.0 begun taken.1) parts'
    (omega (arith, count, sum, left)) (is ∙ (λ i. progress (place bytes (front ++ taken.0) rest parts' i) new.left (user i) true))

-- ---- why there is no stream

-- no stream is there, and this is why
none_there : (bytes : List ℕ) (fault : WireFault) → fault ≢ wire.Memory
    → (wire_cause fault ≡ by_inlet → CountsFault 0 0) → UnlessFailed (wire_cause fault) (HasNone bytes)
    → ReasonForStream fault bytes → HoldsNoStream bytes fault
none_there bytes fault no_memory failed none why =
    lacks bytes [] fault (record { no_memory = no_memory; lacks = none; reason = why; failed = λ e. failed (ap wire_cause e) })

in_parts : (head records user more : List ℕ) → (head ++ records ++ user) ++ more ≡ head ++ (records ++ (user ++ more))
in_parts head records user more = simp append_assoc

no_stream : (bytes : List ℕ) → NoTextAtFront (memory bytes) (λ b. (h : Header) × HeaderText b h) → HasNone bytes
no_stream bytes none text rest is parts =
    let s = is.2 in
    none s.head (s.records ++ (s.user ++ rest)) (s.header, s.head_text)
    (parts ∙ ap (λ (t : List ℕ). t ++ rest) s.bytes ∙ in_parts s.head s.records s.user rest)

pub header_missing : (bytes : List ℕ) (p : Progress) (fault : WireFault) → fault ≢ wire.Memory
    → (wire_cause fault ≡ by_inlet → CountsFault 0 0)
    → UnlessFailed (wire_cause fault) (NoTextAtFront (memory (drop p.at bytes))
    (λ b. (h : Header) × HeaderText b h)) → ReasonForBegin fault (drop p.at bytes)
    → p.has_header ≡ false → IsProgressIn bytes p → HoldsNoStream bytes fault
header_missing bytes p error no_memory failed none why fresh (IsProgressIn.none is) =
    let all : drop p.at bytes ≡ bytes = ap (λ (q : Progress). drop q.at bytes) is in
    none_there bytes error no_memory failed
    (UnlessFailed-weaker (wire_cause error) (λ (n : NoTextAtFront (memory (drop p.at bytes)) (λ b. (h : Header) × HeaderText b h)).
    no_stream bytes (subst (λ (b : List ℕ). NoTextAtFront (memory b) (λ b. (h : Header) × HeaderText b h)) all n)) none)
    (ReasonForStream.header (subst (λ (b : List ℕ). ReasonForBegin error b) all why))
header_missing bytes p error no_memory failed none why fresh
    (IsProgressIn.some front more header claims begun parts sum is) = absurd (has_one p _ _ _ is fresh)

not_next : (header : Header) (left : ℕ) (claims : List Claim) (rest : List ℕ) → 0 < left
    → NoTextAtFront (memory rest) (λ b. (c : Claim) × StateText b c)
    → NoTextAtFront (memory rest) (IsWanted (record { header = header; left = left; table = table_of claims }))
not_next header left claims rest some none text more (IsWanted.record_of c lt is) parts = none text more (c, is) parts
not_next header left claims rest some none text more (IsWanted.user_state over long) parts = absurd (omega (arith, some, over))

pub record_missing : (bytes : List ℕ) (p : Progress) (fault : WireFault) → fault ≢ wire.Memory
    → (wire_cause fault ≡ by_inlet → CountsFault 0 0)
    → UnlessFailed (wire_cause fault) (NoTextAtFront (memory (drop p.at bytes))
    (λ b. (c : Claim) × StateText b c)) → ReasonForRecord fault (drop p.at bytes)
    → p.has_header ≡ true → 0 < p.left → IsProgressIn bytes p → HoldsNoStream bytes fault
record_missing bytes p error no_memory failed none why begun_it more (IsProgressIn.none is) = absurd (has_none p is begun_it)
record_missing bytes p error no_memory failed none why begun_it more (IsProgressIn.some front rest header claims begun parts sum is) =
    let here = unread bytes front rest p header.user_len parts is in
    let reader : Streaming = record { header = header; left = p.left; table = table_of claims } in
    let some = read_some bytes front rest header claims p.left begun parts sum in
    none_there bytes error no_memory failed
    (UnlessFailed-weaker (wire_cause error) (λ (n : NoTextAtFront (memory (drop p.at bytes)) (λ b. (c : Claim) × StateText b c)).
    none_wanted (memory bytes) (memory rest) [] reader some
    (not_next header p.left claims rest more
    (subst (λ (b : List ℕ). NoTextAtFront (memory b) (λ b. (c : Claim) × StateText b c)) here n)))
    none)
    (step_reason error (memory bytes) (memory rest) [] reader some
    (ReasonForStep.record_of more (subst (λ (b : List ℕ). ReasonForRecord error b) here why)))

not_enough : (header : Header) (claims : List Claim) (rest : List ℕ) → length rest < header.user_len
    → NoTextAtFront (memory rest) (IsWanted (record { header = header; left = 0; table = table_of claims }))
not_enough header claims rest short text more (IsWanted.record_of c lt is) parts = absurd (omega (arith, lt))
not_enough header claims rest short text more (IsWanted.user_state over long) parts =
    let sum : length rest ≡ length text + length more = ap length parts ∙ length-append text more
    in absurd (omega (arith, sum, long, short))

pub user_missing : (bytes : List ℕ) (p : Progress) → length (drop p.at bytes) < p.user_len
    → p.has_header ≡ true → p.left ≡ 0 → IsProgressIn bytes p
    → HoldsNoStream bytes wire.Ended
user_missing bytes p short begun_it over (IsProgressIn.none is) = absurd (has_none p is begun_it)
user_missing bytes p short begun_it over (IsProgressIn.some front rest header claims begun parts sum is) =
    let here = unread bytes front rest p header.user_len parts is in
    let user : p.user_len ≡ header.user_len = ap (λ (q : Progress). q.user_len) is in
    let size = ap length here in
    let few : length rest < header.user_len = omega (arith, short, user, size) in
    let some = read_some bytes front rest header claims 0 begun parts (omega (arith, sum, over)) in
    let reader : Streaming = record { header = header; left = 0; table = table_of claims } in
    none_there bytes wire.Ended (λ e. cc) (λ e. cc)
    (none_wanted (memory bytes) (memory rest) [] reader some (not_enough header claims rest few))
    (step_reason wire.Ended (memory bytes) (memory rest) [] reader some (ReasonForStep.user_state refl (inl (refl, few))))

-- ---- a whole stream

pub whole_there : (bytes : List ℕ) (p : Progress) → p.user_len ≤ length (drop p.at bytes)
    → p.has_header ≡ true → p.left ≡ 0 → IsProgressIn bytes p
    → WholeDone bytes p 0
whole_there bytes p enough begun_it over (IsProgressIn.none is) = absurd (has_none p is begun_it)
whole_there bytes p enough begun_it over (IsProgressIn.some front rest header claims begun parts sum is) =
    let here = unread bytes front rest p header.user_len parts is in
    let user : p.user_len ≡ header.user_len = ap (λ (q : Progress). q.user_len) is in
    let at : p.at ≡ length front = ap (λ (q : Progress). q.at) is in
    let size = ap length here in
    let long : length (take header.user_len rest) ≡ header.user_len = length-take-le header.user_len rest
    (omega (arith, enough, user, size)) in
    let sizes = length-append front (take header.user_len rest) in
    WholeDone.whole header.join refl over (
      claims,
      record {
        text = front ++ take header.user_len rest;
        rest = drop header.user_len rest;
        front = parts ∙ ap (λ (r : List ℕ). front ++ r) (sym (take-append-drop header.user_len rest))
            ∙ sym (append_assoc front (take header.user_len rest) (drop header.user_len rest));
        used_is = omega (arith, at, user, long, sizes);
        stream = whole header claims front (take header.user_len rest) (omega (arith, sum, over)) begun long;
      },
    )

-- ---- what a call returns

pub stopped : (bytes : List ℕ) (p : Progress) (fault : WireFault) (status : ℕ) → status ≡ wire_number fault
    → (fault ≢ wire.Memory → HoldsNoStream bytes fault)
    → StopsAt p fault bytes → WholeDone bytes p status
stopped bytes p fault status is none why = elim (memory_or fault) [
  | inl wants ↦ WholeDone.memory (is ∙ ap wire_number wants) (subst (λ (f : WireFault). StopsAt p f bytes) wants why)
  | inr other ↦ WholeDone.refused fault is (none other) why
]

-- ---- more bytes

pub carries_on : (bytes more : List ℕ) (p : Progress) → IsProgressIn bytes p → IsProgressIn (bytes ++ more) p
carries_on bytes more p (IsProgressIn.none is) = IsProgressIn.none is
carries_on bytes more p (IsProgressIn.some front rest header claims begun parts sum is) =
    IsProgressIn.some front (rest ++ more) header claims begun (ap (λ (b : List ℕ). b ++ more) parts ∙ append_assoc front rest more) sum is
