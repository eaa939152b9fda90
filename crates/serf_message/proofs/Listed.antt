-- The steps of reading a list of numbers over earlier bytes.
use Rattle.std.proofs.Common.{◌≡◌, ℕ, suc, ◌+◌, ◌≤◌, List, [], ◌∷◌, ◌++◌, length, take, drop, Result, Ok, Err, refl}
use Rattle.std.proofs.Common.{sym, ap, ◌∙◌, append_assoc, arith, length-append}
use Rattle.std.proofs.lemmas.List.{length-take, take-append-drop, append-nil}
use Rattle.std.proofs.Math.Seq.{take-append-add, drop-append-add}
use Rattle.swim_pack.specs.Composing.{gives, then_read}
use Rattle.serf_message.specs.declared.fault.SerfFault.{SerfFault}
use Rattle.serf_message.specs.Reading.{number_at, numbers_at, numbers_over, over}

abbrev pub Numbers : Type 0
Numbers = Result (List ℕ × List ℕ) SerfFault

-- these numbers before those that are read
abbrev pub behind : List ℕ → Numbers → Numbers
behind front (Ok read) = Ok (front ++ read.0, read.1)
behind front (Err error) = Err error

abbrev ok_pair : List ℕ → List ℕ → Numbers
ok_pair xs rest = Ok (xs, rest)

pub behind_none : (r : Numbers) → behind [] r ≡ r
behind_none (Ok read) = refl
behind_none (Err error) = refl

behind_both : (front back : List ℕ) (r : Numbers) → behind front (behind back r) ≡ behind (front ++ back) r
behind_both front back (Ok read) = ap (λ (xs : List ℕ). Ok (xs, read.1)) (sym (append_assoc front back read.0))
behind_both front back (Err error) = refl

first_of_all : (first : ℕ) (r : Numbers) → then_read (λ others. gives (first ∷ others)) r ≡ behind (first ∷ []) r
first_of_all first (Ok read) = refl
first_of_all first (Err error) = refl

-- one number
pub one_number : (n next first : ℕ) (bytes after : List ℕ) → n ≡ suc next → number_at 255 bytes ≡ Ok (first, after)
    → numbers_at n bytes ≡ behind (first ∷ []) (numbers_at next after)
unfolding numbers_at
one_number n next first bytes after e read = rw (e, read) (first_of_all first (numbers_at next after))

-- a number that is refused
pub bad_number : (n next : ℕ) (bytes : List ℕ) (error : SerfFault) → n ≡ suc next → number_at 255 bytes ≡ Err error
    → numbers_at n bytes ≡ Err error
unfolding numbers_at
bad_number n next bytes error e read = rw (e, read) refl

-- one more number behind those before it
pub one_more : (n i next first : ℕ) (front bytes after start : List ℕ) → numbers_at n start ≡ behind front (numbers_at (suc next) bytes)
    → number_at 255 bytes ≡ Ok (first, after) → numbers_at n start ≡ behind (front ++ first ∷ []) (numbers_at next after)
one_more n i next first front bytes after start e read =
    e ∙ ap (behind front) (one_number _ _ _ _ _ refl read) ∙ behind_both front (first ∷ []) (numbers_at next after)

-- the bytes up to one that is written, and those behind it
pub written_front : (i b : ℕ) (xs ys : List ℕ) → i ≤ length xs → ys ≡ take i xs ++ b ∷ drop (i + 1) xs
    → take (i + 1) ys ≡ take i xs ++ b ∷ []
written_front i b xs ys le e =
    let long : length (take i xs) ≡ i = omega (arith, length-take i xs) in
    rw e (ap (λ k. take (k + 1) (take i xs ++ b ∷ drop (i + 1) xs)) (sym long) ∙ take-append-add (take i xs) (b ∷ drop (i + 1) xs) 1)

pub written_back : (i b : ℕ) (xs ys : List ℕ) → i ≤ length xs → ys ≡ take i xs ++ b ∷ drop (i + 1) xs → drop (i + 1) ys ≡ drop (i + 1) xs
written_back i b xs ys le e =
    let long : length (take i xs) ≡ i = omega (arith, length-take i xs) in
    rw e (ap (λ k. drop (k + 1) (take i xs ++ b ∷ drop (i + 1) xs)) (sym long) ∙ drop-append-add (take i xs) (b ∷ drop (i + 1) xs) 1)

pub written_long : (i b : ℕ) (xs ys : List ℕ) → i ≤ length xs → ys ≡ take i xs ++ b ∷ drop (i + 1) xs → i + 1 ≤ length ys
written_long i b xs ys le e =
    omega (arith, length-take i xs, ap length e ∙ length-append (take i xs) (b ∷ drop (i + 1) xs))

-- all numbers
pub all_numbers : (n i : ℕ) (old written start rest : List ℕ) → n ≡ i → i ≤ length written
    → numbers_at n start ≡ behind (take i written) (numbers_at 0 rest) → drop i written ≡ drop i old
    → numbers_over old n start ≡ Ok (written, rest)
unfolding numbers_over numbers_at
all_numbers n i old written start rest same le e kept =
    let long : length (take i written) ≡ i = omega (arith, length-take i written) in
    let whole : over old (take i written) ≡ written = ap (λ k. take i written ++ drop k old) long ∙ ap
    (λ (d : List ℕ). take i written ++ d) (sym kept) ∙ take-append-drop i written in
    rw (e, append-nil (take i written)) (ap (λ (w : List ℕ). ok_pair w rest) whole)

-- a list that is refused
pub bad_list : (n : ℕ) (old start : List ℕ) (error : SerfFault) → numbers_at n start ≡ Err error → numbers_over old n start ≡ Err error
unfolding numbers_over
bad_list n old start error e = rw e refl
