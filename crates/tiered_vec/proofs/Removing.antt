-- What removing an element from a block does to the list of all elements.
use Rattle.std.proofs.Common.{◌≡◌, ℕ, zero, suc, ◌+◌, ◌-◌, ◌<◌, ◌≤◌, List, [], ◌∷◌, ◌++◌, All, length, set, take, drop}
use Rattle.std.proofs.Common.{refl, sym, ap, subst, ◌∙◌, arith, get_or-set_same}
use Rattle.std.specs.List.{remove}
use Rattle.std.proofs.lemmas.List.{length-set}
use Rattle.std.proofs.lemmas.List.Edits.{length-remove, remove-append_left, remove-append_right}
use Rattle.std.proofs.lemmas.List.Elements.{All-append, All-take, All-drop, All-set, All-get_or}
use Rattle.tiered_vec.specs.Tiers.{IsBlock, flatten, start, block_at, without, overfull, load, half_size, block_size, cut_room, end_room}
use Rattle.tiered_vec.proofs.Flat.{flatten-parts, flatten-set}

module _ {X : Type 0} where
  nothing : (xs : List X) → length xs ≡ 0 → xs ≡ []
  nothing [] e = refl
  nothing (x ∷ xs) e = absurd (omega (arith, e))

  -- taking an element out of a block removes it from the whole list
  flatten-without : (s : List (List X)) (k at : ℕ) → k < length s → at < length (block_at s k) → flatten (without s k at) ≡ remove
      (flatten s) (start s k + at)
  flatten-without s k at h a =
      let front = flatten (take k s) in
      let rest = flatten (drop (suc k) s) in
      let n : (length front + at) - length front ≡ at = omega arith in
      flatten-set s k (remove (block_at s k) at) h
      ∙ ap (λ xs. front ++ xs) (sym (remove-append_left (block_at s k) rest at a))
      ∙ ap (λ i. front ++ remove (block_at s k ++ rest) i) (sym n)
      ∙ sym (remove-append_right front (block_at s k ++ rest) (length front) (length front + at) refl (omega arith))
      ∙ ap (λ xs. remove xs (start s k + at)) (sym (flatten-parts s k h))

  -- an empty block has none of the elements
  flatten-remove : (s : List (List X)) (k : ℕ) → k < length s → block_at s k ≡ [] → flatten (remove s k) ≡ flatten s
  flatten-remove [] k h e = absurd (omega arith)
  flatten-remove (b ∷ s) zero h e = ap (λ xs. xs ++ flatten s) (sym e)
  flatten-remove (b ∷ s) (suc k) h e = ap (λ xs. b ++ xs) (flatten-remove s k (omega arith) e)

  remove-set : (s : List (List X)) (k : ℕ) (c : List X) → remove (set s k c) k ≡ remove s k
  remove-set [] k c = refl
  remove-set (b ∷ s) zero c = refl
  remove-set (b ∷ s) (suc k) c = ap (λ t. b ∷ t) (remove-set s k c)

  -- the blocks that are left, with or without the one from which it was taken
  each-without : (s : List (List X)) (k at : ℕ) → at < length (block_at s k) → 1 < length (block_at s k)
      → length (block_at s k) ≤ block_size
      → All IsBlock s → All IsBlock (without s k at)
  each-without s k at a more fits each =
      let n = length-remove (block_at s k) at a in
      All-set IsBlock s k (remove (block_at s k) at) (record { filled = omega (arith, n); fits = omega (arith, n) }) each

  each-spared : (s : List (List X)) (k at : ℕ) → All IsBlock s → All IsBlock (remove (without s k at) k)
  each-spared s k at each =
      subst (All IsBlock) (sym (remove-set s k (remove (block_at s k) at)))
      (All-append IsBlock (take k s) (drop (suc k) s) (All-take IsBlock k s each) (All-drop IsBlock (suc k) s each))

  overfull-less : (s : List (List X)) (k : ℕ) (c : List X) → length c ≤ length (block_at s k) → overfull (set s k c) ≤ overfull s
  overfull-less [] k c less = omega arith
  overfull-less (b ∷ s) zero c less = omega arith
  overfull-less (b ∷ s) (suc k) c less = omega (arith, overfull-less s k c less)

  load-less : (s : List (List X)) (k : ℕ) (c : List X) → length c ≤ length (block_at s k) → load (set s k c) ≤ load s
  load-less [] k c less = omega arith
  load-less (b ∷ s) zero c less = overfull-less (b ∷ s) zero c less
  load-less (b ∷ s) (suc k) c less = overfull-less (b ∷ s) (suc k) c less

  overfull-remove : (s : List (List X)) (k : ℕ) → overfull (remove s k) ≤ overfull s
  overfull-remove [] zero = omega arith
  overfull-remove [] (suc k) = omega arith
  overfull-remove (b ∷ s) zero = omega arith
  overfull-remove (b ∷ s) (suc k) = omega (arith, overfull-remove s k)

  load-remove : (s : List (List X)) (k : ℕ) → load (remove s k) ≤ load s + half_size
  load-remove [] zero = omega arith
  load-remove [] (suc k) = omega arith
  load-remove (b ∷ []) zero = omega arith
  load-remove (b ∷ c ∷ s) zero = omega arith
  load-remove (b ∷ s) (suc k) = omega (arith, overfull-remove s k)

  block-less : (s : List (List X)) (k : ℕ) (c : List X) (j : ℕ) → length c ≤ length (block_at s k)
      → length (block_at (set s k c) j) ≤ length (block_at s j)
  block-less [] k c j less = omega arith
  block-less (b ∷ s) zero c zero less = less
  block-less (b ∷ s) zero c (suc j) less = omega arith
  block-less (b ∷ s) (suc k) c zero less = omega arith
  block-less (b ∷ s) (suc k) c (suc j) less = block-less s k c j less

  -- room does not shrink
  cut_room-without : (s : List (List X)) (k at n : ℕ) → at < length (block_at s k) → cut_room s n ≤ cut_room (without s k at) n
  cut_room-without s k at n a =
      let less = length-remove (block_at s k) at a in
      omega (arith, load-less s k (remove (block_at s k) at) (omega (arith, less)))

  end_room-without : (s : List (List X)) (k at n : ℕ) → at < length (block_at s k) → end_room s n ≤ end_room (without s k at) n
  end_room-without s k at n a =
      let c = remove (block_at s k) at in
      let less = length-remove (block_at s k) at a in
      let same = length-set s k c in
      let last : length (block_at (set s k c) (length (set s k c) - 1)) ≤ length (block_at s (length s - 1)) =
      subst (λ m. length (block_at (set s k c) (m - 1)) ≤ length (block_at s (length s - 1))) (sym same)
      (block-less s k c (length s - 1) (omega (arith, less))) in
      omega (arith, last, same)

  cut_room-spared : (s : List (List X)) (k at n m : ℕ) → m ≡ n + 1 → cut_room s n ≤ cut_room (remove (without s k at) k) m
  cut_room-spared s k at n m more =
      omega (arith, more, load-remove s k, ap load (remove-set s k (remove (block_at s k) at)))

  end_room-spared : (s t : List (List X)) (n m : ℕ) → m ≡ n + 1 → end_room s n ≤ end_room t m
  end_room-spared s t n m more = omega (arith, more)

-- an element was taken out of the blocks s, with n spare ones, and t are left, with m spare ones
pub record IsTakenOut {X : Type 0} (s t : List (List X)) (n m k at : ℕ) : Type 0 where
  pub items : flatten t ≡ remove (flatten s) (start s k + at)
  pub each : All IsBlock t
  pub room : cut_room s n ≤ cut_room t m
  pub end_room : end_room s n ≤ end_room t m

module _ {X : Type 0} (s t : List (List X)) (k at : ℕ) (h : k < length s) (a : at < length (block_at s k))
    (each : All IsBlock s) (e : t ≡ without s k at) where
  shorter : length (block_at t k) + 1 ≡ length (block_at s k)
  shorter =
      let c = remove (block_at s k) at in
      let there = ap (λ u. length (block_at u k)) e ∙ ap length (get_or-set_same s k c [] h) in
      omega (arith, there, length-remove (block_at s k) at a)

  -- the block is not empty
  pub block_stays : (n : ℕ) → 0 < length (block_at t k) → IsTakenOut s t n n k at
  block_stays n some =
      let block = All-get_or IsBlock s k [] h each in
      subst (λ u. IsTakenOut s u n n k at) (sym e) (record {
        items = flatten-without s k at h a;
        each = each-without s k at a (omega (arith, shorter, some)) block.fits each;
        room = cut_room-without s k at n a;
        end_room = end_room-without s k at n a;
      })

  -- the block is empty, and becomes a spare one
  pub block_spared : (u : List (List X)) (n m : ℕ) → length (block_at t k) ≡ 0 → u ≡ remove t k → m ≡ n + 1 → IsTakenOut s u n m k at
  block_spared u n m none is more =
      let is' : u ≡ remove (without s k at) k = is ∙ ap (λ v. remove v k) e in
      let long = length-set s k (remove (block_at s k) at) in
      let empty : block_at (without s k at) k ≡ [] = nothing _ (sym (ap (λ v. length (block_at v k)) e) ∙ none) in
      subst (λ v. IsTakenOut s v n m k at) (sym is') (record {
        items = flatten-remove (without s k at) k (omega (arith, long, h)) empty ∙ flatten-without s k at h a;
        each = each-spared s k at each;
        room = cut_room-spared s k at n m more;
        end_room = end_room-spared s (remove (without s k at) k) n m more;
      })
