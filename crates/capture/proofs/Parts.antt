-- Parts of a record that are consumed from an inlet, whole or piece by piece.
use Rattle.std.proofs.Common.{◌≡◌, ℕ, ◌+◌, ◌<◌, ◌≤◌, true, false, ltb, List, [], ◌∷◌, ◌++◌, length, Option, Some, None}
use Rattle.std.proofs.Common.{Result, Ok, Err, refl, sym, ap, subst, ◌∙◌, append_assoc, length-append, arith}
use Rattle.std.proofs.lemmas.Bool.{lt-ltb, le-ltb}
use Rattle.std.proofs.KnownBytes.{Consumes-trans}
use Rattle.std.proofs.lemmas.List.{take_at, drop_at}
use Rattle.std.specs.Io.KnownBytes.{Consumes}
use Rattle.swim_pack.proofs.Composing.{Reads-exit, Reads-then, Reads-gives, Reads-refuses, Reads-some, Reads-none}
use Rattle.swim_pack.specs.declared.fault.PullFault.{PullFault}
use Rattle.swim_pack.specs.declared.fault.PullFault.TheVariants as pulls
use Rattle.swim_pack.specs.Composing.{◌>>=◌, gives, Reading, Cause, Answers, ConsumesMinimalPrefix, ReadsAs, IsIncomplete}
use Rattle.swim_pack.specs.Ends.{Source, ConsumesSome, ConsumesKnownText, IsShorter, CountsFault}
use Rattle.capture.specs.declared.capture_fault.CaptureFault.TheVariants.{Cut, Device, Memory, TooLong}
use Rattle.capture.specs.declared.stop.Stop.{Stop}
use Rattle.capture.specs.declared.stop.Stop.TheVariants.{Fault}
use Rattle.capture.specs.Taking.{stop_cause, stop_of_pull, next_part, first_byte, captured_at}

pub next_part-cut : (n : ℕ) (bytes : List ℕ) → length bytes < n → next_part n bytes ≡ Err (Fault Cut)
next_part-cut n bytes short = let e : ltb (length bytes) n ≡ true = lt-ltb _ _ short in rw e refl

pub next_part-whole : (n : ℕ) (part more : List ℕ) → length part ≡ n → next_part n (part ++ more) ≡ Ok (part, more)
next_part-whole n part more long =
    let fits : ltb (length (part ++ more)) n ≡ false = le-ltb _ _ (omega (arith, length-append part more)) in
    rw (fits, take_at part more n long, drop_at part more n long) refl

next_part-front : (n : ℕ) (text front more : List ℕ) → length text ≤ n → text ≡ front ++ more → 0 < length more
    → IsIncomplete stop_cause (next_part n front)
next_part-front n text front more long parts some =
    let sum = ap length parts in
    let lengths = length-append front more in
    rw (next_part-cut n front (omega (arith, sum, lengths))) refl

-- a text is consumed that determines the value
pub Reads-text : {E X V : Type 0} {cause : E → Cause} {view : X → V} {reading : Reading E V} {a b : Source} {x : X} (text : List ℕ)
    → ConsumesMinimalPrefix cause view reading (Ok x) text → Consumes a.coming b.coming text → a.faults ≤ b.faults
    → ReadsAs cause view reading a b (Ok x)
Reads-text {E} {X} {V} {cause} {view} {reading} {a} {b} {x} text h gone stay = record {
  rest = (text, gone);
  answer = answers a.coming b.coming gone;
  takes = takes a.coming b.coming gone;
  fault = tt;
  faults_stay = stay;
}
  where
    answers : (old new : Option (List ℕ)) → Consumes old new text → Answers cause view reading old new (Ok x)
    answers None new gone = tt
    answers (Some bytes) None gone = absurd gone
    answers (Some bytes) (Some rest) gone = ap reading gone ∙ h.determines rest

    takes : (old new : Option (List ℕ)) → Consumes old new text
        → ConsumesKnownText old new (ConsumesMinimalPrefix cause view reading (Ok x))
    takes None new gone = (text, h)
    takes (Some bytes) None gone = absurd gone
    takes (Some bytes) (Some rest) gone = (text, h, gone)

-- the first byte is there
pub first-taken : {X : Type 0} {view : X → List ℕ} {a b : Source} {x : X} (got : List ℕ) → length got ≡ 1 → view x ≡ got
    → Consumes a.coming b.coming got → a.faults ≤ b.faults → ReadsAs stop_cause view first_byte a b (Ok x)
first-taken {X} {view} {a} {b} {x} got one is gone stay = Reads-text got
    (record { determines = determines got one is; waits = waits }) gone stay
  where
    determines : (got : List ℕ) → length got ≡ 1 → view x ≡ got → (more : List ℕ) → first_byte (got ++ more) ≡ Ok (view x, more)
    determines [] one is more = absurd (omega arith)
    determines (byte ∷ []) one is more = rw is refl
    determines (byte ∷ (next ∷ rest)) one is more = absurd (omega arith)

    waits : (_ : Unit {0}) (front more : List ℕ) → got ≡ front ++ more → 0 < length more → IsIncomplete stop_cause (first_byte front)
    waits free [] more parts some = refl
    waits free (byte ∷ front) more parts some =
        let sum = ap length parts in
        let lengths = length-append (byte ∷ front) more in
        absurd (omega (arith, sum, lengths, one))

-- a whole part is consumed
pub part-taken : {X : Type 0} {view : X → List ℕ} {a b : Source} {x : X} (n : ℕ) (got : List ℕ) → length got ≡ n → view x ≡ got
    → Consumes a.coming b.coming got → a.faults ≤ b.faults → ReadsAs stop_cause view (next_part n) a b (Ok x)
part-taken {X} {view} {a} {b} {x} n got long is gone stay =
    Reads-text got (record {
      determines = λ more. rw is (next_part-whole n got more long);
      waits = λ free front more parts some. next_part-front n got front more (omega arith) parts some;
    })
    gone stay

-- ---- pieces were consumed, and then no more

takes-over : (x y z : Option (List ℕ)) (got more : List ℕ) (P : List ℕ → Type 0) (Q : Option (List ℕ) → Type 0)
    → Consumes x y got → Consumes y z more
    → ((bytes left rest : List ℕ) → bytes ≡ got ++ left → left ≡ more ++ rest → Q (Some left) → P (got ++ more))
    → Q y → P got → ConsumesKnownText x z P
takes-over None y z got more P Q gone over f q own = (got, own)
takes-over (Some bytes) None z got more P Q gone over f q own = absurd gone
takes-over (Some bytes) (Some left) None got more P Q gone over f q own = absurd over
takes-over (Some bytes) (Some left) (Some rest) got more P Q gone over f q own =
    (got ++ more, f bytes left rest gone over q, gone ∙ ap (λ (r : List ℕ). got ++ r) over ∙ sym (append_assoc got more rest))

-- the pull of the next piece found too few bytes
pub part-cut : {X : Type 0} {view : X → List ℕ} {a b : Source} (m : Source) (n k : ℕ) (got : List ℕ) → length got + k ≤ n
    → Consumes a.coming m.coming got → a.faults ≤ m.faults → IsShorter m.coming k → ConsumesSome m.coming b.coming → m.faults ≤ b.faults
    → ReadsAs {X = X} stop_cause view (next_part n) a b (Err (Fault Cut))
part-cut {X} {view} {a} {b} m n k got long gone before short over after = record {
  rest = (got ++ over.0, Consumes-trans a.coming m.coming b.coming got over.0 gone over.1);
  answer = answers a.coming m.coming b.coming gone short;
  takes = takes-over a.coming m.coming b.coming got over.0 _ (λ known. IsShorter known k) gone over.1 no_more short own;
  fault = λ e. absurd cc;
  faults_stay = omega arith;
}
  where
    answers : (x y z : Option (List ℕ)) → Consumes x y got → IsShorter y k
        → Answers {X = X} stop_cause view (next_part n) x z (Err (Fault Cut))
    answers None y z gone short = tt
    answers (Some bytes) None z gone short = absurd gone
    answers (Some bytes) (Some left) z gone short = next_part-cut n bytes
        (omega (arith, ap length gone, length-append got left, short, long))

    own : ConsumesMinimalPrefix {X = X} stop_cause view (next_part n) (Err (Fault Cut)) got
    own = record {
      determines = λ by more. absurd cc;
      waits = λ free front more parts some. next_part-front n got front more
          (omega (arith, long)) parts some;
    }

    no_more : (bytes left rest : List ℕ) → bytes ≡ got ++ left → left ≡ over.0 ++ rest → length left < k
        → ConsumesMinimalPrefix {X = X} stop_cause view (next_part n) (Err (Fault Cut)) (got ++ over.0)
    no_more bytes left rest gone over_left short = record {
      determines = λ by more. absurd cc;
      waits = λ free front more parts some.
          next_part-front n (got ++ over.0) front more
          (omega (arith, length-append got over.0, ap length over_left, length-append over.0 rest, short, long)) parts some;
    }

-- the inlet failed at the next piece
pub part-failed : {X : Type 0} {view : X → List ℕ} {a b : Source} (m : Source) (n : ℕ) (got : List ℕ)
    → Consumes a.coming m.coming got → a.faults ≤ m.faults → CountsFault m.faults b.faults
    → ConsumesSome m.coming b.coming → m.faults ≤ b.faults
    → ReadsAs {X = X} stop_cause view (next_part n) a b (Err (Fault Device))
part-failed {X} {view} {a} {b} m n got gone before rise over after = record {
  rest = (got ++ over.0, Consumes-trans a.coming m.coming b.coming got over.0 gone over.1);
  answer = answers a.coming b.coming;
  takes =
      takes-over a.coming m.coming b.coming got over.0 _ (λ known. Unit {0}) gone over.1
      (λ bytes left rest gone behind q. no_more (got ++ over.0)) tt
      (no_more got);
  fault = λ e. omega arith;
  faults_stay = omega arith;
}
  where
    answers : (x z : Option (List ℕ)) → Answers {X = X} stop_cause view (next_part n) x z (Err (Fault Device))
    answers None z = tt
    answers (Some bytes) z = tt

    no_more : (taken : List ℕ) → ConsumesMinimalPrefix {X = X} stop_cause view (next_part n) (Err (Fault Device)) taken
    no_more taken = record { determines = λ by more. absurd cc; waits = λ free front more parts some. absurd (free refl) }

-- not enough memory for a piece that was read
pub part-memory : {X : Type 0} {view : X → List ℕ} {a b : Source} (n : ℕ) (got : List ℕ) → length got ≤ n
    → Consumes a.coming b.coming got → a.faults ≤ b.faults → ReadsAs {X = X} stop_cause view (next_part n) a b (Err (Fault Memory))
part-memory {X} {view} {a} {b} n got long gone stay = record {
  rest = (got, gone);
  answer = answers a.coming b.coming;
  takes = takes a.coming b.coming gone;
  fault = λ e. absurd cc;
  faults_stay = stay;
}
  where
    answers : (x z : Option (List ℕ)) → Answers {X = X} stop_cause view (next_part n) x z (Err (Fault Memory))
    answers None z = tt
    answers (Some bytes) z = tt

    own : ConsumesMinimalPrefix {X = X} stop_cause view (next_part n) (Err (Fault Memory)) got
    own = record {
      determines = λ by more. absurd cc;
      waits = λ free front more parts some. next_part-front n got front more long parts some;
    }

    takes : (x z : Option (List ℕ)) → Consumes x z got
        → ConsumesKnownText x z (ConsumesMinimalPrefix {X = X} stop_cause view (next_part n)
        (Err (Fault Memory)))
    takes None z gone = (got, own)
    takes (Some bytes) None gone = absurd gone
    takes (Some bytes) (Some rest) gone =
        (got, own, gone)

-- the pull of the next piece was refused
pub part-stopped : {X : Type 0} {view : X → List ℕ} {a b : Source} (m : Source) (n k : ℕ) (got : List ℕ) (pull : PullFault)
    → length got + k ≤ n → Consumes a.coming m.coming got → a.faults ≤ m.faults → (pull ≡ pulls.Ended → IsShorter m.coming k)
    → (pull ≡ pulls.Fault → CountsFault m.faults b.faults) → ConsumesSome m.coming b.coming → m.faults ≤ b.faults
    → ReadsAs {X = X} stop_cause view (next_part n) a b (Err (stop_of_pull pull))
part-stopped m n k got pulls.Ended long gone before ended failed over after = part-cut m n k got long gone before (ended refl) over after
part-stopped m n k got pulls.Fault long gone before ended failed over after = part-failed m n got gone before (failed refl) over after

-- ---- what is made from a value that was read

pub Reads-is : {E X V : Type 0} {cause : E → Cause} {view : X → V} {a : Source} (x : X) (value : V) → view x ≡ value
    → ReadsAs cause view (gives value) a a (Ok x)
Reads-is {E} {X} {V} {cause} {view} {a} x value is = subst (λ v. ReadsAs cause view (gives v) a a (Ok x)) is (Reads-gives {view = view} x)

pub Reads-mapped : {E X V W : Type 0} {cause : E → Cause} {view : X → V} {seen : X → W} {reading : Reading E V} {a b : Source}
    (r : Result X E) (f : V → W) → ((x : X) → seen x ≡ f (view x)) → ReadsAs cause view reading a b r
    → ReadsAs cause seen (reading >>= (λ v. gives (f v))) a b r
Reads-mapped (Ok x) f is h = Reads-then _ h (Reads-is x _ (is x))
Reads-mapped (Err error) f is h = Reads-exit _ h

-- ---- the captured bytes of a record

pub captured-long : {X : Type 0} {view : X → List ℕ} {a : Source} (n : ℕ) → 262144 < n
    → ReadsAs {X = X} stop_cause view (captured_at n) a a (Err (Fault (TooLong n)))
unfolding captured_at
captured-long n long = let e : ltb 262144 n ≡ true = lt-ltb _ _ long in rw e (Reads-refuses (Fault (TooLong n)) refl)

pub captured-short : {X : Type 0} {view : X → List ℕ} {a b : Source} (n : ℕ) (r : Result X Stop) → n ≤ 262144
    → ReadsAs stop_cause view (next_part n) a b r → ReadsAs stop_cause view (captured_at n) a b r
unfolding captured_at
captured-short n r short h = let e : ltb 262144 n ≡ false = le-ltb _ _ short in rw e h

-- the steps of a reader that is written as its reading is
pub ruleset reads = (Reads-exit, Reads-then, Reads-gives, Reads-is, Reads-refuses, Reads-some, Reads-none, Reads-mapped)
