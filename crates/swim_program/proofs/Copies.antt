-- Words, one after the other.
use Rattle.std.proofs.Common.{◌≡◌, ◌<◌, ◌∙◌, ℕ, List, [], ◌∷◌, ◌++◌, length, map, take, get_or, ap, sym, subst, suc, ◌+◌, arith}
use Rattle.std.proofs.Math.ListN.{get_or-map}
use Rattle.std.proofs.Math.Seq.{take-suc}
use Rattle.std.proofs.lemmas.List.{length-map}

-- one more of them
pub one_more : {V : Type 0} (f : V → List ℕ) (files : List V) (k : ℕ) (v : V) (file : List ℕ)
    → k < length files → v ≡ get_or files k v → file ≡ f v
    → take (k + 1) (map f files) ≡ take k (map f files) ++ file ∷ []
one_more f files k v file l here is =
    let same : get_or (map f files) k (f v) ≡ file = get_or-map f files k v ∙ ap f (sym here) ∙ sym is in
    let after : k + 1 ≡ suc k = omega arith in
    ap (λ n. take n (map f files)) after
    ∙ subst (λ t. take (suc k) (map f files) ≡ take k (map f files) ++ t ∷ []) same
    (take-suc (map f files) k (f v) (omega (arith, l, length-map files f)))
