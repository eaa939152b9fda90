-- Reads of the next bytes, by one pull.
use Rattle.std.proofs.Common.{◌≡◌, ℕ, ◌<◌, ◌≤◌, true, false, ltb, List, [], ◌∷◌, ◌++◌, length, take, drop, get_or}
use Rattle.std.proofs.Common.{Option, Some, None, Ok, Err, refl, sym, ap, ◌∙◌, length-append, arith}
use Rattle.std.proofs.lemmas.Bool.{lt-ltb, le-ltb}
use Rattle.std.proofs.lemmas.List.{take_at, drop_at}
use Rattle.std.specs.Io.KnownBytes.{Consumes}
use Rattle.swim_pack.specs.declared.fault.PackFault.{PackFault}
use Rattle.swim_pack.specs.declared.fault.PackFault.TheVariants.{Ended, Fault}
use Rattle.swim_pack.specs.declared.fault.PullFault.{PullFault}
use Rattle.swim_pack.specs.declared.fault.PullFault.TheVariants as pulls
use Rattle.swim_pack.specs.Composing.{Answers, IsIncomplete, ConsumesMinimalPrefix, same}
use Rattle.swim_pack.specs.Ends.{Source, ConsumesSome, ConsumesKnownText, IsShorter, CountsFault}
use Rattle.swim_pack.specs.Numbers.{pack_fault}
use Rattle.swim_pack.specs.Reading.{Reads, cause_of, next_byte, next_bytes}
use Rattle.swim_pack.proofs.Composing.{ConsumesText-consumed, ConsumesText-mono, UnlessFailed-weaker}

pub next_bytes-whole : (n : ℕ) (text more : List ℕ) → length text ≡ n → next_bytes n (text ++ more) ≡ Ok (text, more)
next_bytes-whole n text more long =
    let enough : ltb (length (text ++ more)) n ≡ false = le-ltb _ _ (omega (arith, length-append text more, long)) in
    rw (enough, take_at text more n long, drop_at text more n long) refl

pub next_bytes-short : (n : ℕ) (front : List ℕ) → length front < n → next_bytes n front ≡ Err Ended
next_bytes-short n front below = let cut : ltb (length front) n ≡ true = lt-ltb _ _ below in rw cut refl

-- the pull gave them
pub Reads-pulled : {X : Type 0} {a b : Source} {x : X} (n : ℕ) (got : List ℕ) → length got ≡ n
    → Consumes a.coming b.coming got → a.faults ≤ b.faults
    → Reads (λ (_ : X). got) (next_bytes n) a b (Ok x)
Reads-pulled {X} {a} {b} {x} n got long gone stay = record {
  rest = (got, gone);
  answer = answered a.coming b.coming gone;
  takes = ConsumesText-consumed a.coming b.coming _ got
      (record {
        determines = λ more. next_bytes-whole n got more long;
        waits = λ free front more parts some. rw (next_bytes-short n front
            (omega (arith, long, ap length parts ∙ length-append front more, some))) refl;
      }) gone;
  fault = tt;
  faults_stay = stay;
}
  where
    answered : (old new : Option (List ℕ)) → Consumes old new got → Answers {X = X} cause_of (λ _. got) (next_bytes n) old new (Ok x)
    answered None new gone = tt
    answered (Some bytes) None gone = absurd gone
    answered (Some bytes) (Some rest) gone = ap (next_bytes n) gone ∙ next_bytes-whole n got rest long

-- the bytes ended before
pub Reads-ended : {X : Type 0} {view : X → List ℕ} {a b : Source} (n : ℕ) → IsShorter a.coming n
    → ConsumesSome a.coming b.coming → a.faults ≤ b.faults
    → Reads {X = X} view (next_bytes n) a b (Err Ended)
Reads-ended {X} {view} {a} {b} n short over stay = record {
  rest = over;
  answer = answered a.coming b.coming short;
  takes = taken a.coming b.coming short over;
  fault = λ e. absurd cc;
  faults_stay = stay;
}
  where
    answered : (old new : Option (List ℕ)) → IsShorter old n → Answers {X = X} cause_of view (next_bytes n) old new (Err Ended)
    answered None new short = tt
    answered (Some bytes) new short = next_bytes-short n bytes short

    no_more : (text : List ℕ) → length text ≤ n → ConsumesMinimalPrefix {X = X} cause_of view (next_bytes n) (Err Ended) text
    no_more text few = record {
      determines = λ by. absurd cc;
      waits = λ free front more parts some. rw (next_bytes-short n front
          (omega (arith, few, ap length parts ∙ length-append front more, some))) refl;
    }

    taken : (old new : Option (List ℕ)) → IsShorter old n → ConsumesSome old new → ConsumesKnownText old new
        (ConsumesMinimalPrefix {X = X} cause_of view (next_bytes n) (Err Ended))
    taken None new short over = ([], no_more [] (omega arith))
    taken (Some bytes) None short over = absurd over.1
    taken (Some bytes) (Some rest) short over =
        (over.0, no_more over.0 (omega (arith, short, ap length over.1 ∙ length-append over.0 rest)), over.1)

-- the inlet failed
pub Reads-failed : {X : Type 0} {view : X → List ℕ} {a b : Source} (n : ℕ) → CountsFault a.faults b.faults
    → ConsumesSome a.coming b.coming → a.faults ≤ b.faults
    → Reads {X = X} view (next_bytes n) a b (Err Fault)
Reads-failed {X} {view} {a} {b} n rose over stay = record {
  rest = over;
  answer = answered a.coming b.coming;
  takes = ConsumesText-consumed a.coming b.coming _ over.0
      (record { determines = λ by. absurd cc; waits = λ free. absurd (free refl) }) over.1;
  fault = λ e. rose;
  faults_stay = stay;
}
  where
    answered : (old new : Option (List ℕ)) → Answers {X = X} cause_of view (next_bytes n) old new (Err Fault)
    answered None new = tt
    answered (Some bytes) new = tt

-- the pull was refused
pub Reads-refused : {X : Type 0} {view : X → List ℕ} {a b : Source} (n : ℕ) (pull : PullFault) → (pull ≡ pulls.Ended → IsShorter a.coming n)
    → (pull ≡ pulls.Fault → CountsFault a.faults b.faults) → ConsumesSome a.coming b.coming → a.faults ≤ b.faults
    → Reads {X = X} view (next_bytes n) a b (Err (pack_fault pull))
Reads-refused n pulls.Ended short rose over stay = Reads-ended n (short refl) over stay
Reads-refused n pulls.Fault short rose over stay = Reads-failed n (rose refl) over stay

-- ---- one byte

byte_refused : (bytes : List ℕ) (error : PackFault) → next_bytes 1 bytes ≡ Err error → next_byte bytes ≡ Err error
byte_refused [] error e = cc
byte_refused (first ∷ bytes) error e =
    let some : ltb (length (first ∷ bytes)) 1 ≡ false = le-ltb _ _ (omega arith) in
    let read : next_bytes 1 (first ∷ bytes) ≡ Ok (take 1 (first ∷ bytes), drop 1 (first ∷ bytes)) = rw some refl in
    absurd cc

byte_cut : (bytes : List ℕ) → IsIncomplete cause_of (next_bytes 1 bytes) → IsIncomplete cause_of (next_byte bytes)
byte_cut [] h = refl
byte_cut (first ∷ bytes) h =
    let some : ltb (length (first ∷ bytes)) 1 ≡ false = le-ltb _ _ (omega arith) in
    absurd (rw some at h)

one_of : (got : List ℕ) (d : ℕ) → length got ≡ 1 → got ≡ get_or got 0 d ∷ []
one_of [] d one = absurd (omega (arith, one))
one_of (byte ∷ []) d one = refl
one_of (byte ∷ next ∷ rest) d one = absurd (omega (arith, one))

byte_waits : (byte : ℕ) (front more : List ℕ) → byte ∷ [] ≡ front ++ more → 0 < length more → IsIncomplete cause_of (next_byte front)
byte_waits byte [] more parts some = refl
byte_waits byte (x ∷ front) more parts some = absurd (omega (arith, ap length parts ∙ length-append (x ∷ front) more, some))

-- the pull gave it
pub Reads-byte : {a b : Source} (got : List ℕ) (d : ℕ) → length got ≡ 1 → Consumes a.coming b.coming got → a.faults ≤ b.faults
    → Reads same next_byte a b (Ok (get_or got 0 d))
Reads-byte {a} {b} got d one gone stay = record {
  rest = (got, gone);
  answer = answered a.coming b.coming gone;
  takes = ConsumesText-consumed a.coming b.coming _ got
      (record {
        determines = λ more. ap (λ (bytes : List ℕ). next_byte (bytes ++ more)) (one_of got d one);
        waits = λ free front more parts some. byte_waits (get_or got 0 d) front more (sym (one_of got d one) ∙ parts) some;
      }) gone;
  fault = tt;
  faults_stay = stay;
}
  where
    answered : (old new : Option (List ℕ)) → Consumes old new got → Answers {X = ℕ} cause_of same next_byte old new (Ok (get_or got 0 d))
    answered None new gone = tt
    answered (Some bytes) None gone = absurd gone
    answered (Some bytes) (Some rest) gone = ap next_byte (gone ∙ ap (λ (first : List ℕ). first ++ rest) (one_of got d one))

-- if one byte is refused as a list, so is the byte
pub Reads-no_byte : {X : Type 0} {view : X → List ℕ} {a b : Source} {error : PackFault} → Reads {X = X} view (next_bytes 1) a b (Err error)
    → Reads {X = ℕ} same next_byte a b (Err error)
Reads-no_byte {X} {view} {a} {b} {error} p = record {
  rest = p.rest;
  answer = answered a.coming p.answer;
  takes = ConsumesText-mono a.coming b.coming _ _ no_more p.takes;
  fault = p.fault;
  faults_stay = p.faults_stay;
}
  where
    answered : (old : Option (List ℕ)) → Answers {X = X} cause_of view (next_bytes 1) old b.coming (Err error)
        → Answers {X = ℕ} cause_of same next_byte old b.coming (Err error)
    answered None h = tt
    answered (Some bytes) h = UnlessFailed-weaker (cause_of error) (byte_refused bytes error) h

    no_more : (taken : List ℕ) → ConsumesMinimalPrefix {X = X} cause_of view (next_bytes 1) (Err error) taken
        → ConsumesMinimalPrefix {X = ℕ} cause_of same next_byte (Err error) taken
    no_more taken h = record {
      determines = λ by more. byte_refused (taken ++ more) error (h.determines by more);
      waits = λ free front more parts some. byte_cut front (h.waits free front more parts some);
    }
