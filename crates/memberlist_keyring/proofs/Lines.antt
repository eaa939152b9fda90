-- The lines of a file, counted as they are read.
use Rattle.std.proofs.Common.{◌≡◌, inl, inr, ℕ, zero, suc, ◌+◌, ◌<◌, ◌++◌, ◌∙◌, List, [], ◌∷◌, Option, Some, length}
use Rattle.std.proofs.Common.{map, take, drop, get_or, length-take-le, Bor, refl, sym, ap, ap₂, arith}
use Rattle.std.proofs.lemmas.Iterator.{YieldsList}
use Rattle.std.proofs.lemmas.Iterator.Consumers.{YieldsList-so_far, YieldsList-turn}
use Rattle.std.proofs.lemmas.List.FromFn.{length-enumerate_from, get_or-enumerate_from}
use Rattle.std.proofs.Math.Seq.{split_at}
use Rattle.std.specs.Iterator.{Yields}
use Rattle.std.specs.List.{enumerate_from}
use Rattle.std.specs.Str.Lines.{strip_carriage_return}
use Rattle.std.proofs.lemmas.List.{length-append}
use Rattle.memberlist_keyring.specs.declared.fault.KeyFileFault.TheVariants.{Memory}
use Rattle.memberlist_keyring.specs.KeyFile.{HasKeySize, HoldInOrder, LineHolds, lines_of, IsFirstKeyless, IsKeySized}
use Rattle.memberlist_keyring.specs.KeyFile.{IsKeyFile, KeyFileCause}
use Rattle.memberlist_keyring.proofs.Keys.{key_size}

-- the lines of the first items of a count
first_counted : (xs : List (ℕ × Bor (List ℕ))) (k n : ℕ) (lines : List (List ℕ)) → map (λ p. (p.0, p.1.now)) xs ≡ take n
    (enumerate_from k lines) → map (λ p. p.1.now) xs ≡ take n lines
first_counted [] k zero lines e = refl
first_counted [] k (suc n) [] e = refl
first_counted [] k (suc n) (line ∷ lines) e = absurd (omega (arith, ap length e))
first_counted (x ∷ xs) k zero lines e = absurd (omega (arith, ap length e))
first_counted (x ∷ xs) k (suc n) [] e = absurd (omega (arith, ap length e))
first_counted (x ∷ xs) k (suc n) (line ∷ lines) e =
    let here = ap (λ l. get_or l 0 (k, line)) e in
    let rest = first_counted xs (k + 1) n lines (ap (drop 1) e) in
    ap₂ (λ a b. a ∷ b) (ap (λ p. p.1) here) rest

-- the lines that a count visits
pub counted_lines : (xs : List (ℕ × Bor (List ℕ))) (n : ℕ) (lines : List (List ℕ)) → map
    (λ p. (p.0, p.1.now)) xs ≡ enumerate_from n lines → map (λ p. p.1.now) xs ≡ lines
counted_lines [] n [] e = refl
counted_lines [] n (line ∷ lines) e = absurd (omega (arith, ap length e))
counted_lines (x ∷ xs) n [] e = absurd (omega (arith, ap length e))
counted_lines (x ∷ xs) n (line ∷ lines) e =
    let here = ap (λ l. get_or l 0 (n, line)) e in
    let rest = counted_lines xs (n + 1) lines (ap (drop 1) e) in
    ap (λ p. p.1 ∷ map (λ p. p.1.now) xs) here ∙ ap (λ t. line ∷ t) rest

-- a line that is read, after those that were read before
line_at : {S : Type 0} {steps : S → Option (ℕ × Bor (List ℕ)) → S → Type 0} {s : S}
    (lines : List (List ℕ)) (e : YieldsList steps (λ p. (p.0, p.1.now)) s (enumerate_from 0 lines))
    (xs : List (ℕ × Bor (List ℕ))) (t : S) (y : Yields steps s xs t) → (r : Option (ℕ × Bor (List ℕ))) (u : S) (x : ℕ × Bor (List ℕ))
    → r ≡ Some x → steps t r u
    → (after : List (List ℕ)) × (lines ≡ map (λ p. p.1.now) xs ++ x.1.now ∷ after) × (x.0 ≡ length (map (λ p. p.1.now) xs))
line_at lines e xs t y r u x is p =
    let here = YieldsList-turn e xs t y r u x is p in
    let n = length xs in
    let front = first_counted xs 0 n lines (YieldsList-so_far e xs t y) in
    let within : n < length lines = omega (arith, here.0, length-enumerate_from 0 lines) in
    let at : (x.0, x.1.now) ≡ (0 + n, get_or lines n x.1.now) = here.1 ∙ get_or-enumerate_from 0 lines n (x.0, x.1.now) within in
    let counted : x.0 ≡ 0 + n = ap (λ (p : ℕ × List ℕ). p.0) at in
    let many : length (map (λ p. p.1.now) xs) ≡ n = ap length front ∙ length-take-le n lines (omega (arith, within)) in (
      drop (suc n) lines,
      split_at lines n x.1.now within ∙ ap₂ (λ ls l. ls ++ l ∷ drop (suc n) lines) (sym front) (sym (ap (λ (p : ℕ × List ℕ). p.1) at)),
      omega (arith, counted, many),
    )

-- a line that holds no key, after lines that are right
pub first_wrong_line : {S : Type 0} {steps : S → Option (ℕ × Bor (List ℕ)) → S → Type 0} {s : S} (Holds : List ℕ → List (List ℕ) → Type 0)
    (lines : List (List ℕ)) (e : YieldsList steps (λ p. (p.0, p.1.now)) s (enumerate_from 0 lines))
    (xs : List (ℕ × Bor (List ℕ))) (t : S) (y : Yields steps s xs t) → (r : Option (ℕ × Bor (List ℕ))) (u : S) (x : ℕ × Bor (List ℕ))
    → r ≡ Some x → steps t r u → (keys : List (List ℕ)) → HoldInOrder Holds (map (λ p. p.1.now) xs) keys
    → ((held : List (List ℕ)) → ¬ Holds x.1.now held) → IsFirstKeyless Holds lines (x.0 + 1)
first_wrong_line Holds lines e xs t y r u x is p keys right lacks =
    let here = line_at lines e xs t y r u x is p in record {
      before = map (λ p. p.1.now) xs;
      wrong = x.1.now;
      after = here.0;
      keys = keys;
      parts = here.1;
      place = omega (arith, here.2);
      right = right;
      nothing = lacks;
    }

-- a line with as many characters as a key's, after lines that are right
pub sized_line : {S : Type 0} {steps : S → Option (ℕ × Bor (List ℕ)) → S → Type 0} {s : S}
    (lines : List (List ℕ)) (e : YieldsList steps (λ p. (p.0, p.1.now)) s (enumerate_from 0 lines))
    (xs : List (ℕ × Bor (List ℕ))) (t : S) (y : Yields steps s xs t) → (r : Option (ℕ × Bor (List ℕ))) (u : S) (x : ℕ × Bor (List ℕ))
    → r ≡ Some x → steps t r u → (keys : List (List ℕ)) → HoldInOrder LineHolds (map (λ p. p.1.now) xs) keys
    → HasKeySize (strip_carriage_return x.1.now) → IsKeySized lines
sized_line lines e xs t y r u x is p keys right sized =
    let here = line_at lines e xs t y r u x is p in record {
      before = map (λ p. p.1.now) xs;
      line = x.1.now;
      after = here.0;
      keys = keys;
      parts = here.1;
      right = right;
      sized = sized;
    }

-- among lines that hold keys, one has as many characters as a key's
sized_of : (lines keys : List (List ℕ)) → HoldInOrder LineHolds lines keys → 0 < length keys → IsKeySized lines
sized_of [] keys h some = absurd (omega (arith, ap length h))
sized_of (l ∷ ls) keys h some = elim h.2 [
  | inl none ↦
      let more = sized_of ls h.1 h.3 (omega (arith, ap length h.4, ap length none.1, length-append h.0 h.1)) in record {
        before = l ∷ more.before;
        line = more.line;
        after = more.after;
        keys = h.0 ++ more.keys;
        parts = ap (λ t. l ∷ t) more.parts;
        right = (h.0, more.keys, h.2, more.right, refl);
        sized = more.sized;
      }
  | inr one ↦ record {
    before = [];
    line = l;
    after = ls;
    keys = [];
    parts = refl;
    right = refl;
    sized = key_size (strip_carriage_return l) one.0 one.1;
  }
]

-- the keys of a file take memory
pub keys_take_memory : (text : List ℕ) (keys : List (List ℕ)) → IsKeyFile text keys → 0 < length keys → KeyFileCause Memory text
keys_take_memory text keys (inl h) some = inl h.0
keys_take_memory text keys (inr h) some = inr (sized_of (lines_of text) keys h.1 some)
