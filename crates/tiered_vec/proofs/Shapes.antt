-- The vectors of blocks, and the lists in them.
use Rattle.std.proofs.Common.{◌≡◌, ℕ, ◌<◌, List, [], ◌∷◌, ◌++◌, length, get_or, set, take, drop, suc, All, sym, ap, subst, ◌∙◌}
use Rattle.std.specs.List.{insert, remove}
use Rattle.std.proofs.lemmas.List.{map-set, get_or-map, map-append, take-map, drop-map, length-map}
use Rattle.std.proofs.lemmas.List.Elements.{All-get_or}
use Rattle.std.specs.declared.vec.Vec.{Vec}
use Rattle.tiered_vec.specs.Sound.{shape}
use Rattle.tiered_vec.specs.Tiers.{IsBlock}

module _ {X Z : Type 0} where
  pub shape-set : (bs : List (Vec X Z)) (k : ℕ) (b : Vec X Z) → shape (set bs k b) ≡ set (shape bs) k b.items
  shape-set bs k b = map-set (λ (v : Vec X Z). v.items) bs k b

  pub block_read : (bs : List (Vec X Z)) (k : ℕ) (b : Vec X Z) → k < length bs → b ≡ get_or bs k b → b.items ≡ get_or (shape bs) k []
  block_read bs k b h e = ap (λ (v : Vec X Z). v.items) e ∙ sym (get_or-map (λ (v : Vec X Z). v.items) bs k b [] h)

  pub shape-insert : (bs : List (Vec X Z)) (i : ℕ) (b : Vec X Z) → shape (insert bs i b) ≡ insert (shape bs) i b.items
  shape-insert bs i b =
      map-append (λ (v : Vec X Z). v.items) (take i bs) (b ∷ drop i bs)
      ∙ ap (λ xs. xs ++ b.items ∷ shape (drop i bs)) (sym (take-map (λ (v : Vec X Z). v.items) i bs))
      ∙ ap (λ xs. take i (shape bs) ++ b.items ∷ xs) (sym (drop-map (λ (v : Vec X Z). v.items) i bs))

  pub shape-remove : (bs : List (Vec X Z)) (i : ℕ) → shape (remove bs i) ≡ remove (shape bs) i
  shape-remove bs i =
      map-append (λ (v : Vec X Z). v.items) (take i bs) (drop (suc i) bs)
      ∙ ap (λ xs. xs ++ shape (drop (suc i) bs)) (sym (take-map (λ (v : Vec X Z). v.items) i bs))
      ∙ ap (λ xs. take i (shape bs) ++ xs) (sym (drop-map (λ (v : Vec X Z). v.items) (suc i) bs))

  pub block_good : (bs : List (Vec X Z)) (k : ℕ) (b : Vec X Z) → k < length bs → b ≡ get_or bs k b
      → All IsBlock (shape bs) → IsBlock b.items
  block_good bs k b h e a =
      subst IsBlock (sym (block_read bs k b h e))
      (All-get_or IsBlock (shape bs) k []
      (subst (λ n. k < n) (sym (length-map bs (λ (v : Vec X Z). v.items))) h) a)
