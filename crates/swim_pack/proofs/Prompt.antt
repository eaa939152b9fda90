-- Readings that consume no more than determines their value.
use Rattle.std.proofs.Common.{◌≡◌, ℕ, ◌-◌, ◌*◌, ◌^◌, ◌<◌, Bool, true, false, ltb, nat_lt, List, [], ◌∷◌, ◌++◌, length}
use Rattle.std.proofs.Common.{take, drop, Option, Some, None, Result, Ok, Err, refl, sym, ap, ◌∙◌, append_assoc}
use Rattle.std.proofs.Common.{length-append, if◌then◌else◌, arith}
use Rattle.std.proofs.lemmas.Bool.{lt-ltb, le-ltb, ltb-false}
use Rattle.std.proofs.lemmas.List.{take-append-drop, length-take-le, take_at, drop_at}
use Rattle.swim_pack.specs.declared.fault.PackFault.{PackFault}
use Rattle.swim_pack.specs.declared.fault.PackFault.TheVariants.{Ended}
use Rattle.swim_pack.specs.declared.form.Form.{Form}
use Rattle.swim_pack.specs.declared.form.Form.TheVariants.{Fixed, Unsigned, Signed}
use Rattle.swim_pack.specs.Composing.{Reading, then_read, ◌>>=◌, gives, refuses, some_or, within, lift, lift_error}
use Rattle.swim_pack.specs.Composing.{Cause, ConsumesMinimalPrefix, same}
use Rattle.swim_pack.specs.Reading.{cause_of, next_bytes, next_byte, big_at, positive_at, after_form, head_at}
use Rattle.swim_pack.specs.Reading.{number_form, raw_form, count_form, uint_at, count_at, raw_len_at, raw_at}
use Rattle.swim_pack.specs.Reading.{flag_of_byte, flag_at}
use Rattle.swim_pack.proofs.Composing.{ConsumedText, ConsumesMinimalPrefix-then, ConsumesMinimalPrefix-lift, none_shorter}
use Rattle.swim_pack.proofs.Pulls.{next_bytes-whole, next_bytes-short}

-- if the reading returns a value, what it consumed determines it, and no shorter prefix does
pub record IsPrompt {E V : Type 0} (cause : E → Cause) (reading : Reading E V) : Type 0 where
  pub by : (bytes : List ℕ) (value : V) (rest : List ℕ) → reading bytes ≡ Ok (value, rest) → ConsumedText
      (ConsumesMinimalPrefix {X = V} cause same reading (Ok value)) bytes rest

abbrev pair_of : {A : Type 0} → A → List ℕ → A × List ℕ
pair_of x r = (x, r)

abbrev read : {E A : Type 0} → A → List ℕ → Result (A × List ℕ) E
read value rest = Ok (value, rest)

same_value : {E A : Type 0} (x y : A) (r s : List ℕ) → read {E = E} x r ≡ read y s → x ≡ y
same_value {E} {A} x y r s e = let pairs : pair_of x r ≡ pair_of y s = cc in ap (λ (p : A × List ℕ). p.0) pairs

same_rest : {E A : Type 0} (x y : A) (r s : List ℕ) → read {E = E} x r ≡ read y s → r ≡ s
same_rest {E} {A} x y r s e = let pairs : pair_of x r ≡ pair_of y s = cc in ap (λ (p : A × List ℕ). p.1) pairs

-- ---- one after the other

pub prompt-then : {E V W : Type 0} {cause : E → Cause} {first : Reading E V} {next : V → Reading E W} → IsPrompt cause first →
    ((value : V) → IsPrompt cause (next value)) → IsPrompt cause (first >>= next)
prompt-then {E} {V} {W} {cause} {first} {next} p q = record { by = λ bytes value rest e. by_first bytes value rest (first bytes) refl e }
  where
    by_first : (bytes : List ℕ) (value : W) (rest : List ℕ) (r : Result (V × List ℕ) E) → first bytes ≡ r
        → then_read next r ≡ Ok (value, rest)
        → ConsumedText (ConsumesMinimalPrefix {X = W} cause same (first >>= next) (Ok value)) bytes rest
    by_first bytes value rest (Ok r) is e =
        let front = p.by bytes r.0 r.1 is in
        let back = (q r.0).by r.1 value rest e in
        record {
          text = front.text ++ back.text;
          is = ConsumesMinimalPrefix-then cause same same first next r.0 (Ok value) front.text back.text front.is back.is;
          parts = front.parts ∙ ap (λ (r : List ℕ). front.text ++ r) back.parts ∙ sym (append_assoc front.text back.text rest);
        }
    by_first bytes value rest (Err error) is e = absurd cc

pub prompt-gives : {E V : Type 0} {cause : E → Cause} (value : V) → IsPrompt cause (gives {E = E} value)
prompt-gives {E} {V} {cause} value = record {
  by = λ bytes other rest e. record {
    text = [];
    is = record {
      determines = λ more. ap (λ v. read v more) (same_value {E = E} value other bytes rest e);
      waits = λ free front more parts some. absurd (none_shorter front more parts some);
    };
    parts = same_rest {E = E} value other bytes rest e;
  };
}

pub prompt-refuses : {E V : Type 0} {cause : E → Cause} (error : E) → IsPrompt cause (refuses {E = E} {A = V} error)
prompt-refuses error = record { by = λ bytes value rest e. absurd cc }

pub prompt-some_or : {E V : Type 0} {cause : E → Cause} (error : E) (o : Option V) → IsPrompt cause (some_or error o)
prompt-some_or error None = prompt-refuses error
prompt-some_or error (Some value) = prompt-gives value

pub prompt-if : {E V : Type 0} {cause : E → Cause} (b : Bool) {yes no : Reading E V} → IsPrompt cause yes → IsPrompt cause no
    → IsPrompt cause (if b then yes else no)
prompt-if true p q = p
prompt-if false p q = q

pub prompt-lift : {E F V : Type 0} {cause : E → Cause} {above : F → Cause} {reading : Reading E V} (f : E → F) →
    ((error : E) → above (f error) ≡ cause error) → IsPrompt cause reading → IsPrompt above (lift f reading)
prompt-lift {E} {F} {V} {cause} {above} {reading} f same_cause p = record
    { by = λ bytes value rest e. by_read bytes value rest (reading bytes) refl e }
  where
    by_read : (bytes : List ℕ) (value : V) (rest : List ℕ) (r : Result (V × List ℕ) E) → reading bytes ≡ r
        → lift_error f r ≡ Ok (value, rest)
        → ConsumedText (ConsumesMinimalPrefix {X = V} above same (lift f reading) (Ok value)) bytes rest
    by_read bytes value rest (Ok r) is e =
        let t = p.by bytes value rest (is ∙ cc) in
        record { text = t.text; is = ConsumesMinimalPrefix-lift above f same_cause (Ok value) t.text t.is; parts = t.parts }
    by_read bytes value rest (Err error) is e = absurd cc

-- ---- the values of MessagePack

prompt-next_byte : IsPrompt cause_of next_byte
prompt-next_byte = record { by = taken }
  where
    waiting : (first : ℕ) (front more : List ℕ) → first ∷ [] ≡ front ++ more → 0 < length more → front ≡ []
    waiting first [] more parts some = refl
    waiting first (x ∷ front) more parts some = absurd (omega (arith, ap length parts ∙ length-append (x ∷ front) more, some))

    taken : (bytes : List ℕ) (value : ℕ) (rest : List ℕ) → next_byte bytes ≡ Ok (value, rest) → ConsumedText
        (ConsumesMinimalPrefix {X = ℕ} cause_of same next_byte (Ok value)) bytes rest
    taken [] value rest e = absurd cc
    taken (first ∷ bytes) value rest e = record {
      text = first ∷ [];
      is = record {
        determines = λ more. ap (λ v. read v more) (same_value {E = PackFault} first value bytes rest e);
        waits = λ free front more parts some. rw (waiting first front more parts some) refl;
      };
      parts = ap (λ (r : List ℕ). first ∷ r) (same_rest {E = PackFault} first value bytes rest e);
    }

prompt-next_bytes : (n : ℕ) → IsPrompt cause_of (next_bytes n)
prompt-next_bytes n = record { by = λ bytes value rest e. by_length bytes value rest (ltb (length bytes) n) refl e }
  where
    by_length : (bytes value rest : List ℕ) (b : Bool) → ltb (length bytes) n ≡ b →
        (if b then Err Ended else read {E = PackFault} (take n bytes) (drop n bytes)) ≡ Ok (value, rest)
        → ConsumedText (ConsumesMinimalPrefix {X = List ℕ} cause_of same (next_bytes n) (Ok value)) bytes rest
    by_length bytes value rest true is e = absurd cc
    by_length bytes value rest false is e =
        let long : length (take n bytes) ≡ n = length-take-le n bytes (ltb-false _ _ is) in
        record {
          text = take n bytes;
          is = record {
            determines =
                λ more. next_bytes-whole n (take n bytes) more long ∙ ap (λ (v : List ℕ). read v more)
                (same_value {E = PackFault} (take n bytes) value (drop n bytes) rest e);
            waits = λ free front more parts some. rw (next_bytes-short n front
                (omega (arith, long, ap length parts ∙ length-append front more, some))) refl;
          };
          parts =
              sym (take-append-drop n bytes) ∙ ap
              (λ (r : List ℕ). take n bytes ++ r)
              (same_rest {E = PackFault} (take n bytes) value (drop n bytes) rest e);
        }

pub prompt-within : {E : Type 0} {cause : E → Cause} (error : E) (max v : ℕ) → IsPrompt cause (within error max v)
prompt-within error max v = prompt-if (nat_lt max v) (prompt-refuses error) (prompt-gives v)

prompt-big : (n : ℕ) → IsPrompt cause_of (big_at n)
unfolding big_at
prompt-big n = prompt-then (prompt-next_bytes n) (λ bytes. prompt-gives _)

prompt-positive : (n : ℕ) → IsPrompt cause_of (positive_at n)
unfolding positive_at
prompt-positive n = prompt-then (prompt-big n) (λ v. prompt-if (nat_lt v (2 ^ (8 * n - 1))) (prompt-gives v) (prompt-refuses _))

prompt-after : (form : Form) → IsPrompt cause_of (after_form form)
unfolding after_form
prompt-after (Fixed v) = prompt-gives v
prompt-after (Unsigned n) = prompt-big n
prompt-after (Signed n) = prompt-positive n

prompt-head : (error : PackFault) (form_of : ℕ → Option Form) → IsPrompt cause_of (head_at error form_of)
prompt-head error form_of = prompt-then prompt-next_byte (λ first. prompt-then (prompt-some_or error (form_of first)) prompt-after)

pub prompt-uint : (max : ℕ) → IsPrompt cause_of (uint_at max)
unfolding uint_at
prompt-uint max = prompt-then (prompt-head _ number_form) (λ v. prompt-within _ max v)

pub prompt-count : (max : ℕ) → IsPrompt cause_of (count_at max)
unfolding count_at
prompt-count max = prompt-then (prompt-head _ count_form) (λ n. prompt-within _ max n)

pub prompt-raw : (limit : ℕ) → IsPrompt cause_of (raw_at limit)
unfolding raw_at raw_len_at
prompt-raw limit = prompt-then (prompt-then (prompt-head _ raw_form) (λ n. prompt-within _ limit n)) prompt-next_bytes

pub prompt-flag : IsPrompt cause_of flag_at
unfolding flag_at
prompt-flag = prompt-then prompt-next_byte (λ first. prompt-some_or _ (flag_of_byte first))

pub prompt-first : IsPrompt cause_of next_byte
prompt-first = prompt-next_byte
