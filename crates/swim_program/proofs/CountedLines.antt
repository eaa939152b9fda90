-- Lines by their index, counted as they are read.
use Rattle.std.proofs.Common.{◌≡◌, ℕ, zero, suc, ◌+◌, ◌<◌, ◌∙◌, List, [], ◌∷◌, Option, Some, length, map, take, drop}
use Rattle.std.proofs.Common.{get_or, Bor, refl, ap, ap₂, arith}
use Rattle.std.proofs.lemmas.Iterator.{YieldsList}
use Rattle.std.proofs.lemmas.Iterator.Consumers.{YieldsList-from_enumerate, YieldsList-from_first, YieldsList-so_far, YieldsList-turn}
use Rattle.std.specs.Iterator.{Yields, YieldsFirstRef}
use Rattle.std.specs.Iterator.Adapters.{enumerate_count, enumerate_source, enumerate_steps}
use Rattle.std.specs.List.{enumerate_from}
use Rattle.std.specs.declared.iter.Enumerate.{Enumerate}
use Rattle.swim_program.specs.Lines.{input_lines}

-- what is known about a yielded item, and about those before it
pub yielded_at : {S A B : Type 0} {steps : S → Option A → S → Type 0} {v : A → B} {s : S} {all : List B}
    (e : YieldsList steps v s all) (xs : List A) (t : S) (y : Yields steps s xs t)
    → (r : Option A) (u : S) (x : A) → r ≡ Some x → steps t r u → (length xs < length all) × (v x ≡ get_or all (length xs) (v x))
    × (map v xs ≡ take (length xs) all)
yielded_at e xs t y r u x is p = let here = YieldsList-turn e xs t y r u x is p in (here.0, here.1, YieldsList-so_far e xs t y)

-- the lines of the first items of a count
pub first_counted : (xs : List (ℕ × Bor (List ℕ))) (k n : ℕ) (lines : List (List ℕ)) → map (λ p. (p.0, p.1.now)) xs ≡ take n
    (enumerate_from k lines) → map (λ p. p.1.now) xs ≡ take n lines
first_counted [] k zero lines e = refl
first_counted [] k (suc n) [] e = refl
first_counted [] k (suc n) (line ∷ lines) e = absurd (omega (arith, ap length e))
first_counted (x ∷ xs) k zero lines e = absurd (omega (arith, ap length e))
first_counted (x ∷ xs) k (suc n) [] e = absurd (omega (arith, ap length e))
first_counted (x ∷ xs) k (suc n) (line ∷ lines) e =
    let here = ap (λ l. get_or l 0 (k, line)) e in
    let rest = first_counted xs (k + 1) n lines (ap (drop 1) e) in
    ap₂ (λ a b. a ∷ b) (ap (λ p. p.1) here) rest

-- the lines that a count visits
pub counted_lines : (xs : List (ℕ × Bor (List ℕ))) (n : ℕ) (lines : List (List ℕ)) → map
    (λ p. (p.0, p.1.now)) xs ≡ enumerate_from n lines → map (λ p. p.1.now) xs ≡ lines
counted_lines [] n [] e = refl
counted_lines [] n (line ∷ lines) e = absurd (omega (arith, ap length e))
counted_lines (x ∷ xs) n [] e = absurd (omega (arith, ap length e))
counted_lines (x ∷ xs) n (line ∷ lines) e =
    let here = ap (λ l. get_or l 0 (n, line)) e in
    let rest = counted_lines xs (n + 1) lines (ap (drop 1) e) in
    ap (λ p. p.1 ∷ map (λ p. p.1.now) xs) here ∙ ap (λ t. line ∷ t) rest

-- the lines of an input are counted from 0
pub lines_counted : {s : Enumerate (List (List ℕ))} (input : List ℕ) → enumerate_source s ≡ input_lines input → enumerate_count s ≡ 0
    → YieldsList {B = ℕ × List ℕ} (enumerate_steps (YieldsFirstRef {S = List (List ℕ)} (λ rest. rest)))
    (λ p. (p.0, p.1.now)) s (enumerate_from 0 (input_lines input))
lines_counted input source count = YieldsList-from_enumerate
    (YieldsList-from_first (λ x. x.now) (λ rest. rest) (input_lines input) source) count
