-- Values that Serf writes are passed over.
use Rattle.std.proofs.Common.{◌≡◌, ℕ, suc, ◌+◌, ◌-◌, ◌*◌, ◌<◌, ◌≤◌, ◌^◌, true, false, ltb, eqb, List, [], ◌∷◌, ◌++◌}
use Rattle.std.proofs.Common.{length, Some, Ok, refl, sym, ap, ◌∙◌, append_assoc, append-nil, arith, length-append}
use Rattle.std.proofs.lemmas.Bool.{lt-ltb, le-ltb, ltb-true, eqb-true}
use Rattle.std.proofs.Math.Seq.{take-append_seam}
use Rattle.std.specs.List.{AllByRecursion, flat_map}
use Rattle.byteorder.specs.Endian.{big_bytes}
use Rattle.byteorder.specs.Numbers.{length-bytes_high_first}
use Rattle.std.proofs.lemmas.List.{nil_from_length}
use Rattle.swim_pack.specs.Composing.{◌>>=◌}
use Rattle.swim_pack.specs.Spelling.{number_text, raw_text, count_text}
use Rattle.serf_message.specs.declared.form.Count.TheVariants.{Fixed}
use Rattle.serf_message.specs.declared.form.Form.TheVariants as forms
use Rattle.serf_message.specs.Keys.{key_text}
use Rattle.serf_message.specs.Writing.{Entry, value_text, entry_text, entries_text, bytes_text, list_len_text, list_text, IsShortList}
use Rattle.serf_message.specs.Forms.{form_of, long_form_of}
use Rattle.serf_message.specs.Reading.{bytes_at, count_at, inside, outside_at, values_within, values_at, whole_at, Reading, without_rest}
use Rattle.serf_message.specs.Many.{many_at, list_len_of, list_len_at, listed, fresh_bytes_at}
use Rattle.serf_message.proofs.Again.{read, split, bytes_again, two_again, short_form, map_form, fixed_again, field_bytes_again}
use Rattle.serf_message.proofs.Passed.{none_left, one_value}

-- the bytes t are n values, which are passed over in so many steps
pub record ArePassed (n : ℕ) (t : List ℕ) : Type 0 where
  pub steps : ℕ
  pub few : steps ≤ length t
  pub many : n ≤ length t
  pub passes : (more others : ℕ) (rest : List ℕ) → others ≤ length rest
      → values_within (steps + more) (n + others) (t ++ rest) ≡ values_within more others rest

-- no values
pub none_passed : ArePassed 0 []
none_passed = record {
  steps = 0;
  few = omega arith;
  many = omega arith;
  passes = λ more others rest le. let a : 0 + more ≡ more = omega arith in let b : 0 + others ≡ others = omega arith in rw (a, b) refl;
}

-- values behind others
pub both_passed : (n m : ℕ) (s t : List ℕ) → ArePassed n s → ArePassed m t → ArePassed (n + m) (s ++ t)
both_passed n m s t a b = record {
  steps = a.steps + b.steps;
  few = omega (arith, a.few, b.few, length-append s t);
  many = omega (arith, a.many, b.many, length-append s t);
  passes = λ more others rest le.
      let i : (a.steps + b.steps) + more ≡ a.steps + (b.steps + more) = omega arith in
      let j : (n + m) + others ≡ n + (m + others) = omega arith in
      let k : m + others ≤ length (t ++ rest) = omega (arith, b.many, le, length-append t rest) in
      rw (i, j, append_assoc s t rest) (a.passes (b.steps + more) (m + others) (t ++ rest) k ∙ b.passes more others rest le);
}

-- a list or a map: what announces n values, and they
pub all_passed : (n : ℕ) (h t : List ℕ) → 0 < length h
    → ((rest : List ℕ) → outside_at (h ++ rest) ≡ Ok (n, rest)) → ArePassed n t → ArePassed 1 (h ++ t)
all_passed n h t some announces a = record {
  steps = suc a.steps;
  few = omega (arith, a.few, some, length-append h t);
  many = omega (arith, some, length-append h t);
  passes = λ more others rest le.
      let i : suc a.steps + more ≡ suc (a.steps + more) = omega arith in
      let j : 1 + others ≡ suc others = omega arith in
      let k : 1 + others ≤ length (h ++ (t ++ rest)) = omega (arith, le, some, length-append t rest, length-append h (t ++ rest)) in
      let l : others + n ≡ n + others = omega arith in
      rw (append_assoc h t rest)
      (one_value (suc a.steps + more) (1 + others) (a.steps + more) others n (h ++ (t ++ rest)) (t ++ rest) i j k (announces (t ++ rest))
      ∙ ap (λ (x : ℕ). values_within (a.steps + more) x (t ++ rest)) l ∙ a.passes more others rest le);
}

-- a value with no others in it
pub leaf_passed : (t : List ℕ) → 0 < length t → ((rest : List ℕ) → outside_at (t ++ rest) ≡ Ok (0, rest)) → ArePassed 1 t
leaf_passed t some announces =
    let P : List ℕ → Type 0 = λ xs. ArePassed 1 xs in
    let e : t ++ [] ≡ t = append-nil t in
    let whole = all_passed 0 t [] some announces none_passed in
    rw e at whole

-- many values, each passed over
pub each_passed : {A : Type 0} (text : A → List ℕ) (P : A → Type 0) → ((x : A) → P x → ArePassed 1 (text x))
    → (xs : List A) → AllByRecursion P xs → ArePassed (length xs) (flat_map text xs)
each_passed text P one [] all = none_passed
each_passed text P one (x ∷ xs) all =
    let e : 1 + length xs ≡ suc (length xs) = omega arith in
    let both = both_passed 1 (length xs) (text x) (flat_map text xs) (one x all.0) (each_passed text P one xs all.1) in
    rw e at both

-- what is passed over is a whole value
pub whole_again : (t rest : List ℕ) → ArePassed 1 t → whole_at (t ++ rest) ≡ read t rest
unfolding whole_at values_at
whole_again t rest a =
    let all : length (t ++ rest) ≡ a.steps + (length (t ++ rest) - a.steps) = omega (arith, a.few, length-append t rest) in
    let one : 1 ≡ 1 + 0 = omega arith in
    let passed = ap (λ (k : ℕ). values_within k 1 (t ++ rest)) all ∙ ap
    (λ (n : ℕ). values_within (a.steps + (length (t ++ rest) - a.steps)) n (t ++ rest)) one
    ∙ a.passes (length (t ++ rest) - a.steps) 0 rest (omega arith) ∙ none_left (length (t ++ rest) - a.steps) 0 rest refl in
    let front : length (t ++ rest) - length rest ≡ length t = omega (arith, length-append t rest) in
    rw (passed, front, take-append_seam t rest) refl

-- ---- the values that are written

nothing_at : (rest : List ℕ) → bytes_at 0 rest ≡ read [] rest
nothing_at rest = bytes_again [] rest

digits_at : (n v : ℕ) (rest : List ℕ) → bytes_at n (big_bytes n v ++ rest) ≡ read (big_bytes n v) rest
digits_at n v rest = ap (λ k. bytes_at k (big_bytes n v ++ rest)) (sym (length-bytes_high_first n v)) ∙ bytes_again (big_bytes n v) rest

tiny_outside : (v : ℕ) (rest : List ℕ) → v < 128 → outside_at (v ∷ rest) ≡ Ok (0, rest)
unfolding outside_at inside form_of
tiny_outside v rest lt = let a : ltb v 0x80 ≡ true = lt-ltb _ _ lt in rw (a, nothing_at rest) refl

number_outside : (v : ℕ) (rest : List ℕ) → outside_at (number_text v ++ rest) ≡ Ok (0, rest)
unfolding outside_at inside form_of long_form_of number_text
number_outside v rest =
    let P : List ℕ → Type 0 = λ t. outside_at (t ++ rest) ≡ Ok (0, rest) in
    split (ltb v 128) P _ _ (λ e. tiny_outside v rest (ltb-true _ _ e)) (λ _.
    split (ltb v (2 ^ 8)) P _ _ (λ _. rw (digits_at 1 v rest) refl) (λ _.
    split (ltb v (2 ^ 16)) P _ _ (λ _. rw (digits_at 2 v rest) refl) (λ _.
    split (ltb v (2 ^ 32)) P _ _ (λ _. rw (digits_at 4 v rest) refl) (λ _. rw (digits_at 8 v rest) refl))))

some_number : (v : ℕ) → 0 < length (number_text v)
unfolding number_text
some_number v =
    let P : List ℕ → Type 0 = λ t. 0 < length t in
    split (ltb v 128) P _ _ (λ _. omega arith) (λ _.
    split (ltb v (2 ^ 8)) P _ _ (λ _. omega arith) (λ _.
    split (ltb v (2 ^ 16)) P _ _ (λ _. omega arith) (λ _.
    split (ltb v (2 ^ 32)) P _ _ (λ _. omega arith) (λ _. omega arith))))

pub number_passed : (v : ℕ) → ArePassed 1 (number_text v)
number_passed v = leaf_passed (number_text v) (some_number v) (number_outside v)

raw_outside : (s rest : List ℕ) → length s < 2 ^ 16 → outside_at (raw_text s ++ rest) ≡ Ok (0, rest)
unfolding outside_at inside form_of long_form_of raw_text count_at
raw_outside s rest lt =
    split (ltb (length s) 32) (λ head. outside_at ((head ++ s) ++ rest) ≡ Ok (0, rest))
    ((0xa0 + length s) ∷ []) (0xda ∷ big_bytes 2 (length s))
    (λ e. short_outside s rest (ltb-true _ _ e)) (λ _. long_outside s rest lt)
  where
    short_outside : (s rest : List ℕ) → length s < 32 → outside_at (((0xa0 + length s) ∷ [] ++ s) ++ rest) ≡ Ok (0, rest)
    short_outside s rest lt = rw (short_form (length s) lt, bytes_again s rest) refl

    long_outside : (s rest : List ℕ) → length s < 2 ^ 16 → outside_at ((0xda ∷ big_bytes 2 (length s) ++ s) ++ rest) ≡ Ok (0, rest)
    long_outside s rest lt = rw (append_assoc (big_bytes 2 (length s)) s rest, two_again (length s) (s ++ rest) lt, bytes_again s rest) refl

some_raw : (s : List ℕ) → 0 < length (raw_text s)
unfolding raw_text
some_raw s =
    split (ltb (length s) 32) (λ head. 0 < length (head ++ s)) ((0xa0 + length s) ∷ [])
    (0xda ∷ big_bytes 2 (length s)) (λ _. omega arith) (λ _. omega arith)

pub raw_passed : (s : List ℕ) → length s < 2 ^ 16 → ArePassed 1 (raw_text s)
raw_passed s lt = leaf_passed (raw_text s) (some_raw s) (λ rest. raw_outside s rest lt)

nil_outside : (rest : List ℕ) → outside_at (0xc0 ∷ rest) ≡ Ok (0, rest)
unfolding outside_at inside form_of
nil_outside rest = refl

pub nil_passed : ArePassed 1 (0xc0 ∷ [])
nil_passed = leaf_passed (0xc0 ∷ []) (omega arith) nil_outside

-- ---- lists of bytes

pub bytes_passed : (s : List ℕ) → length s < 2 ^ 16 → ArePassed 1 (bytes_text s)
bytes_passed s lt = split (eqb (length s) 0) (λ (t : List ℕ). ArePassed 1 t) (0xc0 ∷ []) (raw_text s)
    (λ _. nil_passed) (λ _. raw_passed s lt)

list_form : (n : ℕ) → n < 16 → form_of (0x90 + n) ≡ Some (forms.List (Fixed n))
unfolding form_of
list_form n lt =
    let a : ltb (0x90 + n) 0x80 ≡ false = le-ltb _ _ (omega arith) in
    let b : ltb (0x90 + n) 0x90 ≡ false = le-ltb _ _ (omega arith) in
    let c : ltb (0x90 + n) 0xa0 ≡ true = lt-ltb _ _ (omega arith) in
    let e : 0x90 + n - 0x90 ≡ n = omega arith in
    rw (a, b, c, e) refl

list_len_again : (n : ℕ) (rest : List ℕ) → n < 2 ^ 16 → list_len_at (list_len_text n ++ rest) ≡ read n rest
unfolding list_len_at list_len_of form_of long_form_of
list_len_again n rest lt =
    split (ltb n 16) (λ (t : List ℕ). list_len_at (t ++ rest) ≡ read n rest) ((0x90 + n) ∷ []) (0xdc ∷ big_bytes 2 n)
    (λ e. rw (list_form n (ltb-true _ _ e)) (fixed_again n rest)) (λ _. two_again n rest lt)

list_len_outside : (n : ℕ) (rest : List ℕ) → n < 2 ^ 16 → outside_at (list_len_text n ++ rest) ≡ Ok (n, rest)
unfolding outside_at inside form_of long_form_of
list_len_outside n rest lt =
    split (ltb n 16) (λ (t : List ℕ). outside_at (t ++ rest) ≡ Ok (n, rest)) ((0x90 + n) ∷ []) (0xdc ∷ big_bytes 2 n)
    (λ e. rw (list_form n (ltb-true _ _ e)) (fixed_again n rest)) (λ _. two_again n rest lt)

some_list_len : (n : ℕ) → 0 < length (list_len_text n)
some_list_len n = split (ltb n 16) (λ (t : List ℕ). 0 < length t) ((0x90 + n) ∷ []) (0xdc ∷ big_bytes 2 n)
    (λ _. omega arith) (λ _. omega arith)

-- a list whose values are passed over
pub list_passed : {A : Type 0} (text : A → List ℕ) (P : A → Type 0) → ((x : A) → P x → ArePassed 1 (text x))
    → (xs : List A) → AllByRecursion P xs → length xs < 2 ^ 16
    → ArePassed 1 (list_len_text (length xs) ++ flat_map text xs)
list_passed text P one xs all lt =
    all_passed (length xs) (list_len_text (length xs)) (flat_map text xs) (some_list_len (length xs))
    (λ rest. list_len_outside (length xs) rest lt) (each_passed text P one xs all)

-- a list of bytes is passed over
pub list_text_passed : (xs : List (List ℕ)) → IsShortList xs → ArePassed 1 (list_text xs)
list_text_passed xs short =
    split (eqb (length xs) 0) (λ (t : List ℕ). ArePassed 1 t) (0xc0 ∷ []) (list_len_text (length xs) ++ flat_map bytes_text xs)
    (λ _. nil_passed) (λ _. list_passed bytes_text (λ (x : List ℕ). length x < 2 ^ 16) bytes_passed xs short.1 short.0)

-- many values are read back
pub many_again : {A : Type 0} (reading : Reading A) (text : A → List ℕ) (P : A → Type 0)
    → ((x : A) (rest : List ℕ) → P x → reading (text x ++ rest) ≡ read x rest)
    → (xs : List A) (rest : List ℕ) → AllByRecursion P xs → many_at reading (length xs) (flat_map text xs ++ rest) ≡ read xs rest
unfolding many_at
many_again reading text P one [] rest all = refl
many_again reading text P one (x ∷ xs) rest all =
    let first = one x (flat_map text xs ++ rest) all.0 in
    let others = many_again reading text P one xs rest all.1 in
    rw (append_assoc (text x) (flat_map text xs) rest, first, others) refl

listed_is : {A : Type 0} (reading : Reading A) (whole : List ℕ) → 0 < length whole
    → listed reading whole ≡ without_rest ((list_len_at >>= many_at reading) whole)
listed_is reading [] some = absurd (omega arith)
listed_is reading (first ∷ rest) some = refl

-- a list whose values are read back
pub listed_again : {A : Type 0} (reading : Reading A) (text : A → List ℕ) (P : A → Type 0)
    → ((x : A) (rest : List ℕ) → P x → reading (text x ++ rest) ≡ read x rest)
    → (xs : List A) → AllByRecursion P xs → length xs < 2 ^ 16 → listed reading (list_len_text (length xs) ++ flat_map text xs) ≡ Ok xs
listed_again reading text P one xs all lt =
    let whole = list_len_text (length xs) ++ flat_map text xs in
    listed_is reading whole (omega (arith, some_list_len (length xs), length-append (list_len_text (length xs)) (flat_map text xs)))
    ∙ rw (list_len_again (length xs) (flat_map text xs) lt)
    (ap (λ (t : List ℕ). without_rest (many_at reading (length xs) t)) (sym (append-nil (flat_map text xs)))
    ∙ ap without_rest (many_again reading text P one xs [] all))

no_list_again : (xs : List (List ℕ)) → length xs ≡ 0 → listed fresh_bytes_at (0xc0 ∷ []) ≡ Ok xs
unfolding list_len_at list_len_of form_of many_at
no_list_again xs e = let none : xs ≡ [] = nil_from_length xs e in rw none refl

-- a list of bytes is read back
pub list_text_again : (xs : List (List ℕ)) → IsShortList xs → listed fresh_bytes_at (list_text xs) ≡ Ok xs
list_text_again xs short =
    split (eqb (length xs) 0) (λ (t : List ℕ). listed fresh_bytes_at t ≡ Ok xs) (0xc0 ∷ [])
    (list_len_text (length xs) ++ flat_map bytes_text xs)
    (λ e. no_list_again xs (eqb-true _ _ e))
    (λ _. listed_again fresh_bytes_at bytes_text (λ (x : List ℕ). length x < 2 ^ 16)
    (λ x rest lt. field_bytes_again [] x rest lt) xs short.1 short.0)

-- ---- maps of fields

-- the value of a field is passed over
abbrev pub IsEntryPassed : Entry → Type 0
IsEntryPassed entry = (length (key_text entry.0) < 2 ^ 16) × ArePassed 1 (value_text entry.1)

entries_passed : (entries : List Entry) → AllByRecursion IsEntryPassed entries
    → ArePassed (2 * length entries) (flat_map entry_text entries)
entries_passed [] all = none_passed
entries_passed (entry ∷ entries) all =
    let one = both_passed 1 1 (raw_text (key_text entry.0)) (value_text entry.1) (raw_passed (key_text entry.0) all.0.0) all.0.1 in
    let both = both_passed 2 (2 * length entries) (entry_text entry) (flat_map entry_text entries) one (entries_passed entries all.1) in
    let e : 2 + 2 * length entries ≡ 2 * suc (length entries) = omega arith in
    rw e at both

map_outside : (n : ℕ) (rest : List ℕ) → n < 16 → outside_at (count_text n ++ rest) ≡ Ok (2 * n, rest)
unfolding outside_at inside count_at
map_outside n rest lt = rw (map_form n lt) refl

-- a map of fields is passed over
pub map_passed : (entries : List Entry) → length entries < 16 → AllByRecursion IsEntryPassed entries → ArePassed 1 (entries_text entries)
map_passed entries lt all =
    all_passed (2 * length entries) (count_text (length entries)) (flat_map entry_text entries) (omega arith)
    (λ rest. map_outside (length entries) rest lt) (entries_passed entries all)
