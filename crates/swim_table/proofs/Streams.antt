-- A push/pull stream of which a part was read.
use Rattle.std.proofs.Common.{◌≡◌, ◌≢◌, ℕ, ◌+◌, ◌≤◌, ◌<◌, ◌⊎◌, inl, inr, Bool, List, [], ◌∷◌, ◌++◌, length, take, drop}
use Rattle.std.proofs.Common.{Option, Some, None, refl, sym, ap, subst, ◌∙◌, append_assoc, append-nil, length-append}
use Rattle.std.proofs.Common.{arith}
use Rattle.std.proofs.Math.Nat.{lt_of_not-le}
use Rattle.std.specs.Prelude.{IfSome}
use Rattle.std.proofs.lemmas.List.{append_cancel_left, length-take-le, take-append-drop}
use Rattle.swim_claim.specs.declared.claim.Claim.{Claim}
use Rattle.swim_pack.specs.Composing.{UnlessFailed}
use Rattle.swim_pack.specs.Ends.{Source, ConsumesText, ConsumesKnownText, NoTextAtFront}
use Rattle.swim_pack.proofs.Composing.{ConsumesText-both, ConsumesText-mono}
use Rattle.swim_wire.specs.declared.fault.WireFault.{WireFault}
use Rattle.swim_wire.specs.declared.fault.WireFault.TheVariants.{Ended, Fault, Memory}
use Rattle.swim_wire.specs.declared.stream.Header.{Header}
use Rattle.swim_wire.specs.Asking.{MapAsks}
use Rattle.swim_wire.specs.Layout.{state_layout}
use Rattle.swim_wire.specs.Reading.{wire_cause}
use Rattle.swim_wire.specs.Streams.{StateTexts, StreamText}
use Rattle.swim_wire.specs.Streams.StateTexts.{none, one}
use Rattle.swim_wire.specs.Texts.{HeaderText, StateText}
use Rattle.swim_wire.proofs.Asking.{StateText-asks}
use Rattle.swim_wire.proofs.OneMessage.{header_one, state_one}
use Rattle.swim_table.specs.declared.stream_reader.Step.TheVariants.{More, End}
use Rattle.swim_table.specs.Steps.{Steps, IsWanted, BeginText, ReasonForStep, ReasonForStream}
use Rattle.swim_table.specs.Steps.{Steps as steps, IsWanted as wants, ReasonForStep as why_step, ReasonForStream as why_stream}
use Rattle.swim_table.specs.Streaming.{Streaming}
use Rattle.swim_table.specs.Table.{Entries, TableOf, TakesIn}

-- ---- records one after another

-- one more record
StateTexts-push : (records b : List ℕ) (claims : List Claim) (c : Claim) → StateTexts records claims → StateText b c
    → StateTexts (records ++ b) (claims ++ c ∷ [])
StateTexts-push _ b _ c none text = subst (λ (r : List ℕ). StateTexts r (c ∷ [])) (append-nil b) (one b [] c [] text none)
StateTexts-push _ b _ c (one a rest d claims first texts) text =
    subst (λ (r : List ℕ). StateTexts r (d ∷ claims ++ c ∷ [])) (sym (append_assoc a rest b))
    (one a (rest ++ b) d (claims ++ c ∷ []) first (StateTexts-push rest b claims c texts text))

-- texts with the same start have the same rest
behind : (a b x y : List ℕ) → a ≡ b → a ++ x ≡ b ++ y → x ≡ y
behind a b x y same e = append_cancel_left b x y (ap (λ (z : List ℕ). z ++ x) (sym same) ∙ e)

-- the records still to come, if some were read
to_come : (a b x y : List ℕ) (claims others : List Claim) → StateTexts a claims → StateTexts b others
    → length claims ≤ length others → a ++ x ≡ b ++ y
    → (rest : List ℕ) × (more : List Claim) × StateTexts rest more × (length claims + length more ≡ length others) × (x ≡ rest ++ y)
to_come _ b x y _ others none texts le e = (b, others, texts, omega arith, e)
to_come _ _ x y _ _ (one a rest c claims text texts) none le e = absurd (omega arith)
to_come _ _ x y _ _ (one a left c claims text texts) (one b right d others text' texts') le e =
    let parts : a ++ (left ++ x) ≡ b ++ (right ++ y) = sym (append_assoc a left x) ∙ e ∙ append_assoc b right y in
    let first = state_one a b (left ++ x) (right ++ y) c d text text' parts in
    let fewer : length claims ≤ length others = omega arith in
    let rest = to_come left right x y claims others texts texts' fewer (behind a b (left ++ x) (right ++ y) first.0 parts) in
    let sum = rest.3 in
    (rest.0, rest.1, rest.2, omega (arith, sum), rest.4)

-- ---- what follows the part that was read

by_records : (reader : Streaming) (now user rest records : List ℕ) (more : List Claim) → StateTexts records more → reader.left ≡ length more
    → length user ≡ reader.header.user_len → now ≡ records ++ (user ++ rest) → (front : List ℕ) × (back : List ℕ)
    × IsWanted reader front × (now ≡ front ++ back)
by_records reader now user rest _ _ none left long parts = (user, rest, wants.user_state left long, parts)
by_records reader now user rest _ _ (one b records c claims text texts) left long parts =
    (b, records ++ (user ++ rest), wants.record_of c (omega (arith, left)) text, parts ∙ append_assoc b records (user ++ rest))

in_parts : (head records user more : List ℕ) → (head ++ records ++ user) ++ more ≡ head ++ (records ++ (user ++ more))
in_parts head records user more = simp append_assoc

-- in a stream it is what the next step expects
pub wanted : (reader : Streaming) (claims all : List Claim) (join : Bool) (begun now text rest : List ℕ)
    → BeginText begun reader.header claims → length claims + reader.left ≡ reader.header.nodes
    → StreamText text all join → begun ++ now ≡ text ++ rest
    → (front : List ℕ) × (back : List ℕ) × IsWanted reader front × (now ≡ front ++ back)
wanted reader claims all join begun now text rest b counted t e =
    let parts : b.head ++ (b.records ++ now) ≡ t.head ++ (t.records ++ (t.user ++ rest)) =
    sym (append_assoc b.head b.records now) ∙ ap (λ (z : List ℕ). z ++ now) (sym b.bytes) ∙ e
    ∙ ap (λ (z : List ℕ). z ++ rest) t.bytes ∙ in_parts t.head t.records t.user rest in
    let heads = header_one b.head t.head _ _ reader.header t.header b.head_text t.head_text parts in
    let nodes : reader.header.nodes ≡ t.header.nodes = ap (λ (h : Header). h.nodes) heads.1 in
    let promised = t.nodes in
    let le : length claims ≤ length all = omega (arith, counted, nodes, promised) in
    let left = to_come b.records t.records now (t.user ++ rest) claims all b.record_texts t.record_texts le
    (behind b.head t.head _ _ heads.0 parts) in
    let sum = left.3 in
    by_records reader now t.user rest left.0 left.1 left.2 (omega (arith, counted, nodes, promised, sum))
    (t.user_len ∙ sym (ap (λ (h : Header). h.user_len) heads.1)) left.4

-- ---- reads one after another

-- What was taken since the stream began: its header, and the records of some claims, which the
-- table took in.
pub record ReadSome (old new : Source) (before : Entries) (reader : Streaming) : Type 0 where
  pub claims : List Claim
  pub table : TakesIn before reader.table claims
  pub counted : length claims + reader.left ≡ reader.header.nodes
  pub taken : ConsumesText old new (λ b. BeginText b reader.header claims)

pub started : (old new : Source) (before : Entries) (reader : Streaming) → ConsumesText old new (λ b. HeaderText b reader.header) →
    (reader.left ≡ reader.header.nodes) × (reader.table ≡ before) → ReadSome old new before reader
started old new before reader taken fresh = record {
  claims = [];
  table = λ taken of. subst (TableOf reader.table) (sym (append-nil taken)) (subst (λ (t : Entries). TableOf t taken) (sym fresh.1) of);
  counted = omega (arith, fresh.0);
  taken =
      ConsumesText-mono old.coming new.coming _ _
      (λ b text. record {
        head = b;
        records = [];
        bytes = sym (append-nil b);
        head_text = text;
        record_texts = none;
      }) taken;
}

-- one more record was read
pub begun_more : (header : Header) (claims : List Claim) (c : Claim) (x y : List ℕ) → BeginText x header claims → StateText y c
    → BeginText (x ++ y) header (claims ++ c ∷ [])
begun_more header claims c x y begun text = record {
  head = begun.head;
  records = begun.records ++ y;
  bytes = ap (λ (z : List ℕ). z ++ y) begun.bytes ∙ append_assoc begun.head begun.records y;
  head_text = begun.head_text;
  record_texts = StateTexts-push begun.records y claims c begun.record_texts text;
}

stepped_to : (old mid new : Source) (before : Entries) (reader next : Streaming) (c : Claim) → ReadSome old mid before reader
    → reader.left ≡ next.left + 1 → ConsumesText mid new (λ b. StateText b c)
    → ((claims : List Claim) → TableOf reader.table claims → TableOf next.table (claims ++ c ∷ []))
    → next.header ≡ reader.header → ReadSome old new before next
stepped_to old mid new before reader next c some left taken table header =
    let count = length-append some.claims (c ∷ []) in
    let nodes : next.header.nodes ≡ reader.header.nodes = ap (λ (h : Header). h.nodes) header in
    let sum = some.counted in
    record {
      claims = some.claims ++ c ∷ [];
      table = λ all of. subst (TableOf next.table) (append_assoc all some.claims (c ∷ [])) (table (all ++ some.claims) (some.table all of));
      counted = omega (arith, count, nodes, sum, left);
      taken =
          subst (λ (h : Header). ConsumesText old new (λ b. BeginText b h (some.claims ++ c ∷ []))) (sym header)
          (ConsumesText-both old.coming mid.coming new.coming _ _ _ (begun_more reader.header some.claims c) some.taken taken);
    }

pub stepped : (old mid new : Source) (before : Entries) (reader next : Streaming) → ReadSome old mid before reader
    → Steps reader mid new (More next) → ReadSome old new before next
stepped old mid new before reader next some (steps.record_of c to is left taken table all header) =
    let same : to ≡ next = cc in
    subst (ReadSome old new before) same (stepped_to old mid new before reader to c some left taken all header)
stepped old mid new before reader next some (steps.user_state is left taken) = absurd cc

-- the user state was read
pub whole : (header : Header) (claims : List Claim) (x y : List ℕ) → length claims ≡ header.nodes → BeginText x header claims
    → length y ≡ header.user_len → StreamText (x ++ y) claims header.join
whole header claims x y count begun long = record {
  header = header;
  head = begun.head;
  records = begun.records;
  user = y;
  bytes = ap (λ (z : List ℕ). z ++ y) begun.bytes;
  head_text = begun.head_text;
  flag = refl;
  nodes = count;
  record_texts = begun.record_texts;
  user_len = long;
}

pub ended : (old mid new : Source) (before : Entries) (reader : Streaming) (table : Entries) (join : Bool) → ReadSome old mid before reader
    → Steps reader mid new (End table join)
    → (claims : List Claim) × TakesIn before table claims
    × ConsumesText old new (λ b. StreamText b claims join)
ended old mid new before reader table join some (steps.record_of c to is left taken of all header) = absurd cc
ended old mid new before reader table join some (steps.user_state is left taken) =
    let the_table : reader.table ≡ table = cc in
    let the_flag : reader.header.join ≡ join = cc in
    let sum = some.counted in
    let count : length some.claims ≡ reader.header.nodes = omega (arith, sum, left) in (
      some.claims,
      λ all of. subst (λ (t : Entries). TableOf t (all ++ some.claims)) the_table (some.table all of),
      subst (λ (j : Bool). ConsumesText old new (λ b. StreamText b some.claims j)) the_flag
          (ConsumesText-both old.coming mid.coming new.coming _ _ _ (λ x y. whole reader.header some.claims x y count) some.taken taken),
    )

-- ---- the bytes do not begin with a stream, and why

abbrev IsStream : List ℕ → Type 0
IsStream b = (claims : List Claim) × (join : Bool) × StreamText b claims join

pub none_wanted : (old mid : Source) (before : Entries) (reader : Streaming) → ReadSome old mid before reader
    → NoTextAtFront mid (IsWanted reader) → NoTextAtFront old IsStream
none_wanted old mid before reader some lacks = known old.coming mid.coming some.taken lacks
  where
    known : (old mid : Option (List ℕ)) → ConsumesKnownText old mid (λ b. BeginText b reader.header some.claims) → IfSome mid
        (λ bytes. (text rest : List ℕ) → IsWanted reader text → bytes ≡ text ++ rest → ⊥)
        → IfSome old (λ bytes. (text rest : List ℕ) → IsStream text → bytes ≡ text ++ rest → ⊥)
    known None mid taken lacks = tt
    known (Some bytes) None taken lacks = absurd taken
    known (Some bytes) (Some now) taken lacks = λ text rest is parts.
        let w = wanted reader some.claims is.0 is.1 taken.0 now text rest taken.1 some.counted is.2 (sym taken.2 ∙ parts) in
        lacks w.0 w.1 w.2 w.3

pub step_reason : (fault : WireFault) (old mid : Source) (before : Entries) (reader : Streaming)
    → ReadSome old mid before reader → IfSome mid.coming
    (ReasonForStep reader fault) → IfSome old.coming (ReasonForStream fault)
step_reason fault old mid before reader some says = known old.coming mid.coming some.taken says
  where
    because : (bytes front now : List ℕ) → BeginText front reader.header some.claims → bytes ≡ front ++ now
        → ReasonForStep reader fault now → ReasonForStream fault bytes
    because bytes front now begun parts (why_step.record_of more why) =
        let sum = some.counted in
        why_stream.record_of front now reader.header some.claims begun (omega (arith, sum, more)) parts why
    because bytes front now begun parts (why_step.user_state over why) =
        let sum = some.counted in
        why_stream.user_state front now reader.header some.claims begun (omega (arith, sum, over)) parts why

    known : (old mid : Option (List ℕ)) → ConsumesKnownText old mid (λ b. BeginText b reader.header some.claims) → IfSome mid
        (ReasonForStep reader fault) → IfSome old (ReasonForStream fault)
    known None mid taken says = tt
    known (Some bytes) None taken says = absurd taken
    known (Some bytes) (Some now) taken says = because bytes taken.0 now taken.1 taken.2 says

-- ---- which refusal

-- a record that was read requested memory
pub record_asks : (reader inside : Streaming) (old new : Source) (c : Claim) → inside ≡ reader
    → inside.left ≢ 0 → ConsumesText old new (λ b. StateText b c)
    → IfSome old.coming (ReasonForStep reader Memory)
record_asks reader inside old new c same some taken =
    subst (λ (r : Streaming). IfSome old.coming (ReasonForStep r Memory)) same (known old.coming new.coming taken)
  where
    known : (old new : Option (List ℕ)) → ConsumesKnownText old new (λ b. StateText b c) → IfSome old (ReasonForStep inside Memory)
    known None new taken = tt
    known (Some bytes) None taken = absurd taken
    known (Some bytes) (Some rest) taken =
        why_step.record_of (omega (arith, some)) (subst (MapAsks state_layout) (sym taken.2) (StateText-asks taken.0 rest c taken.1), tt)

-- there are fewer than n bytes if they do not begin with n
fewer : (bytes : List ℕ) (n : ℕ) → ((text rest : List ℕ) → length text ≡ n → bytes ≡ text ++ rest → ⊥) → length bytes < n
fewer bytes n lacks = lt_of_not-le (λ le. lacks (take n bytes) (drop n bytes) (length-take-le n bytes le) (sym (take-append-drop n bytes)))

pub user_reason : (reader inside : Streaming) (fault : WireFault) (old : Source) → inside ≡ reader
    → inside.left ≡ 0 → (fault ≡ Ended) ⊎ (fault ≡ Fault)
    → UnlessFailed (wire_cause fault) (NoTextAtFront old (λ b. length b ≡ inside.header.user_len))
    → IfSome old.coming (ReasonForStep reader fault)
user_reason reader inside fault old same over which lacks =
    subst (λ (r : Streaming). IfSome old.coming (ReasonForStep r fault)) same (known old.coming which lacks)
  where
    known : (old : Option (List ℕ)) → (fault ≡ Ended) ⊎ (fault ≡ Fault)
        → UnlessFailed (wire_cause fault) (IfSome old
        (λ bytes. (text rest : List ℕ) → length text ≡ inside.header.user_len → bytes ≡ text ++ rest
        → ⊥))
        → IfSome old (ReasonForStep inside fault)
    known None which lacks = tt
    known (Some bytes) (inl is) lacks =
        let short =
        subst
        (λ (f : WireFault). UnlessFailed (wire_cause f) ((text rest : List ℕ)
        → length text ≡ inside.header.user_len → bytes ≡ text ++ rest → ⊥))
        is lacks in
        why_step.user_state over (inl (is, fewer bytes inside.header.user_len short))
    known (Some bytes) (inr is) lacks = why_step.user_state over (inr is)
