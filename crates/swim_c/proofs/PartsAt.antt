-- The parts of a compound message, by index.
use Rattle.std.proofs.Common.{◌≡◌, ℕ, zero, suc, ◌+◌, ◌-◌, ◌*◌, ◌<◌, ◌≤◌, Bool, true, false, List, [], ◌∷◌, ◌++◌}
use Rattle.std.proofs.Common.{length, take, drop, slice_get, Option, Some, None, refl, sym, ap, subst, ◌∙◌, nat_lt}
use Rattle.std.proofs.Common.{◌==◌, if◌then◌else◌, arith}
use Rattle.std.proofs.lemmas.List.{drop-drop}
use Rattle.std.proofs.lemmas.Bool.Decides.{nat_tests}
use Rattle.std.proofs.Math.Seq.{drop-append_seam, take-append_seam, length-take-le}
use Rattle.swim_c.specs.Parts.{parts_or_none}
use Rattle.memberlist_message.proofs.Divided.{length_of_lengths}
use Rattle.memberlist_message.specs.Compounds.{PartsValue, lengths_in, counted, compound_of, parts_in}

-- one part is passed over
pub next_same : (parts rest : List (List ℕ)) (part : List ℕ) (left : ℕ) → parts ≡ part ∷ rest → 0 < left
    → slice_get parts left ≡ slice_get rest (left - 1)
next_same parts rest part zero is more = absurd (omega (arith, more))
next_same parts rest part (suc left) is more =
    ap (λ (p : List (List ℕ)). slice_get p (suc left)) is ∙ ap (slice_get rest) (sym (omega arith))

-- the bytes behind it
pub next_behind : (all bytes rest part : List ℕ) (at : ℕ) → drop at all ≡ bytes → bytes ≡ part ++ rest → drop (at + length part) all ≡ rest
next_behind all bytes rest part at is parts =
    sym (drop-drop (length part) at all) ∙ ap (drop (length part)) (is ∙ parts) ∙ drop-append_seam part rest

-- the part here
pub part_here : (all bytes rest part : List ℕ) (at : ℕ) → drop at all ≡ bytes → bytes ≡ part ++ rest
    → take (length part) (drop at all) ≡ part
part_here all bytes rest part at is parts = ap (take (length part)) (is ∙ parts) ∙ take-append_seam part rest

-- two bytes a length
lengths : (n : ℕ) (lens : List ℕ) → length lens ≡ 2 * n → length (lengths_in lens) ≡ n
lengths n lens long = omega (arith, length_of_lengths lens, long)

-- behind the lengths of a compound message are its parts
behind_count : (count : ℕ) (rest : List ℕ) (p : PartsValue) → counted count rest ≡ Some p → drop (2 * length p.lens) rest ≡ p.bytes
behind_count count rest p is = by_test (nat_lt (length rest) (2 * count)) refl is
  where
    parts : PartsValue
    parts = record { lens = lengths_in (take (2 * count) rest); bytes = drop (2 * count) rest }

    by_test : (b : Bool) → nat_lt (length rest) (2 * count) ≡ b → (if b then None else Some parts) ≡ Some p
        → drop (2 * length p.lens) rest ≡ p.bytes
    by_test true less h = absurd (cc (h))
    by_test false enough h =
        let e : parts ≡ p = cc (h) in
        let le : 2 * count ≤ length rest = grind (arith, nat_tests) in
        let many : length (lengths_in (take (2 * count) rest)) ≡ count = lengths count
        (take (2 * count) rest) (length-take-le (2 * count) rest le) in
        let here : drop (2 * length (lengths_in (take (2 * count) rest))) rest ≡ drop (2 * count) rest = ap
        (λ (n : ℕ). drop (2 * n) rest) many in
        subst (λ (q : PartsValue). drop (2 * length q.lens) rest ≡ q.bytes) e here

pub behind_lengths : (text : List ℕ) (p : PartsValue) → compound_of text ≡ Some p → drop (2 + 2 * length p.lens) text ≡ p.bytes
behind_lengths [] p is = absurd (cc (is))
behind_lengths (first ∷ []) p is = absurd (cc (is))
behind_lengths (first ∷ count ∷ rest) p is = by_test (first == 7) refl is
  where
    by_test : (b : Bool) → (first == 7) ≡ b → (if b then counted count rest else None) ≡ Some p
        → drop (2 + 2 * length p.lens) (first ∷ count ∷ rest) ≡ p.bytes
    by_test true seven h =
        let text : List ℕ = first ∷ count ∷ rest in
        let two : drop 2 text ≡ rest = refl in
        sym (drop-drop (2 * length p.lens) 2 text) ∙ ap (drop (2 * length p.lens)) two ∙ behind_count count rest p h
    by_test false other h = absurd (cc (h))

-- a part of these is a part of the message
pub part_in_all : (text : List ℕ) (p : PartsValue) (i at len : ℕ) → compound_of text ≡ Some p
    → slice_get (parts_in p.lens p.bytes) i ≡ Some (take len (drop at p.bytes))
    → slice_get (parts_or_none (compound_of text)) i ≡ Some (take len (drop (2 + 2 * length p.lens + at) text))
part_in_all text p i at len is there =
    ap (λ (o : Option PartsValue). slice_get (parts_or_none o) i) is ∙ there
    ∙ ap (λ (b : List ℕ). Some (take len (drop at b))) (sym (behind_lengths text p is))
    ∙ ap (λ (b : List ℕ). Some (take len b)) (drop-drop at (2 + 2 * length p.lens) text)

-- the next part, after the ones that were passed over
pub here : (all bytes rest part : List ℕ) (parts now later : List (List ℕ)) (at i : ℕ)
    → slice_get parts i ≡ slice_get now 0 → now ≡ part ∷ later
    → drop at all ≡ bytes → bytes ≡ part ++ rest → slice_get parts i ≡ Some (take (length part) (drop at all))
here all bytes rest part parts now later at i same is behind front =
    same ∙ ap (λ (n : List (List ℕ)). slice_get n 0) is ∙ ap Some (sym (part_here all bytes rest part at behind front))
