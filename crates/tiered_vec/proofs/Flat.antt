-- Blocks one after another, and what an edit of a block does to the list of all elements.
use Rattle.std.proofs.Common.{◌≡◌, ℕ, max, min, ◌/◌, zero, suc, ◌+◌, ◌-◌, ◌*◌, ◌<◌, ◌≤◌, List, [], ◌∷◌, ◌++◌, All, Some}
use Rattle.std.proofs.Common.{slice_get, length, get_or, set, take, drop, refl, sym, ap, subst, ◌∙◌, arith}
use Rattle.std.proofs.Common.{length-append, append_assoc}
use Rattle.std.specs.List.{insert}
use Rattle.std.proofs.lemmas.Option.{slice_get-get_or}
use Rattle.std.proofs.lemmas.List.{take-append-drop, length-take-le, length-drop, take_all, length-set, get_or_default}
use Rattle.std.proofs.lemmas.List.{get_or_push, take_at, set_at, append-nil, length-map, set-append_left}
use Rattle.std.proofs.lemmas.List.{set-append_right}
use Rattle.std.specs.declared.vec.Vec.{Vec}
use Rattle.std.specs.Vec.{with_item}
use Rattle.tiered_vec.specs.Sound.{shape, HasRoom, IsSound}
use Rattle.tiered_vec.proofs.Shapes.{shape-set, block_read, block_good}
use Rattle.std.proofs.lemmas.List.Concat.{flat_map-append, get_or-flat_map}
use Rattle.std.proofs.lemmas.List.Edits.{insert-append_left, insert-append_right, length-insert}
use Rattle.std.proofs.lemmas.List.Elements.{All-cons, All-head, All-tail, All-set, All-get_or, All-push}
use Rattle.tiered_vec.specs.Place.{Position}
use Rattle.tiered_vec.specs.Tiers.{Tiers, room, with_item_at, flatten, start, block_at, cut, overfull, load, IsBlock}
use Rattle.tiered_vec.specs.Tiers.{IsGap, IsPlace, IsOpened, index_of, block_size, half_size}

module _ {X : Type 0} where
  -- the elements are those before a block, those in it, and those after it
  pub flatten-parts : (s : List (List X)) (k : ℕ) → k < length s
      → flatten s ≡ flatten (take k s) ++ (block_at s k ++ flatten (drop (suc k) s))
  flatten-parts [] k h = absurd (omega arith)
  flatten-parts (b ∷ s) zero h = refl
  flatten-parts (b ∷ s) (suc k) h =
      ap (λ xs. b ++ xs) (flatten-parts s k (omega arith))
      ∙ sym (append_assoc b (flatten (take k s)) (block_at s k ++ flatten (drop (suc k) s)))

  pub flatten-set : (s : List (List X)) (k : ℕ) (c : List X) → k < length s
      → flatten (set s k c) ≡ flatten (take k s) ++ (c ++ flatten (drop (suc k) s))
  flatten-set [] k c h = absurd (omega arith)
  flatten-set (b ∷ s) zero c h = refl
  flatten-set (b ∷ s) (suc k) c h =
      ap (λ xs. b ++ xs) (flatten-set s k c (omega arith)) ∙ sym (append_assoc b (flatten (take k s)) (c ++ flatten (drop (suc k) s)))

  -- putting an element into a block puts it into the whole list
  pub flatten-put : (s : List (List X)) (k at : ℕ) (x : X) → k < length s → at ≤ length (block_at s k) → flatten
      (set s k (insert (block_at s k) at x)) ≡ insert (flatten s) (start s k + at) x
  flatten-put s k at x h a =
      let front = flatten (take k s) in
      let rest = flatten (drop (suc k) s) in
      let n : (length front + at) - length front ≡ at = omega arith in
      flatten-set s k (insert (block_at s k) at x) h
      ∙ ap (λ xs. front ++ xs) (sym (insert-append_left (block_at s k) rest at x a))
      ∙ ap (λ i. front ++ insert (block_at s k ++ rest) i x) (sym n)
      ∙ sym (insert-append_right front (block_at s k ++ rest) (length front) (length front + at) x refl (omega arith))
      ∙ ap (λ xs. insert xs (start s k + at) x) (sym (flatten-parts s k h))

  -- an element of a block in the whole list
  pub placed : (s : List (List X)) (k j : ℕ) (d : X) → k < length s → j < length (block_at s k) → get_or (flatten s)
      (start s k + j) d ≡ get_or (block_at s k) j d
  placed s k j d h l = get_or-flat_map (λ (b : List X). b) s k j [] d h l

  pub start-suc : (s : List (List X)) (k : ℕ) → k < length s → start s (suc k) ≡ start s k + length (block_at s k)
  start-suc [] k h = absurd (omega arith)
  start-suc (b ∷ s) zero h = omega (arith, length-append b [])
  start-suc (b ∷ s) (suc k) h = omega (
    arith,
    length-append b (flatten (take (suc k) s)),
    length-append b (flatten (take k s)),
    start-suc s k (omega arith),
  )

  pub start-all : (s : List (List X)) → start s (length s) ≡ length (flatten s)
  start-all s = ap (λ t. length (flatten t)) (take_all (length s) s (omega arith))

  cut-is : (s : List (List X)) (k : ℕ) → k < length s
      → insert (set s k (take half_size (block_at s k))) (suc k) (drop half_size (block_at s k)) ≡ cut s k
  cut-is [] k h = absurd (omega arith)
  cut-is (b ∷ s) zero h = refl
  cut-is (b ∷ s) (suc k) h = ap (λ t. b ∷ t) (cut-is s k (omega arith))

  -- the last element of the last block is the last of all
  pub last_item : (s : List (List X)) (b : List X) (k : ℕ) → k + 1 ≡ length s → b ≡ block_at s k → 0 < length b → slice_get b
      (length b - 1) ≡ slice_get (flatten s) (length (flatten s) - 1)
  last_item s [] k n e h = absurd (omega arith)
  last_item s (d ∷ rest) k n e h =
      let b = d ∷ rest in
      let within : k < length s = omega (arith, n) in
      let one : suc k ≡ length s = omega (arith, n) in
      let long : length (flatten s) ≡ start s k + length (block_at s k) = sym (start-all s)
      ∙ ap (start s) (sym one) ∙ start-suc s k within in
      let at : start s k + (length b - 1) ≡ length (flatten s) - 1 = omega (arith, long, ap length e, h) in
      slice_get-get_or b (length b - 1) d (omega (arith, h))
      ∙ ap Some
      (ap (λ c. get_or c (length b - 1) d) e
      ∙ sym (placed s k (length b - 1) d within (omega (arith, ap length e, h))) ∙ ap
      (λ i. get_or (flatten s) i d) at)
      ∙ sym (slice_get-get_or (flatten s) (length (flatten s) - 1) d (omega (arith, long, ap length e, h)))

  -- cutting a block keeps its lower half and inserts the upper one after it
  pub cut-insert : (s : List (List X)) (k : ℕ) → k < length s → insert (set s k (take half_size (block_at s k))) (k + 1)
      (drop half_size (block_at s k)) ≡ cut s k
  cut-insert s k h =
      let n : k + 1 ≡ suc k = omega arith in
      ap (λ i. insert (set s k (take half_size (block_at s k))) i (drop half_size (block_at s k))) n ∙ cut-is s k h

  pub flatten-cut : (s : List (List X)) (k : ℕ) → flatten (cut s k) ≡ flatten s
  flatten-cut [] k = refl
  flatten-cut (b ∷ s) zero = sym (append_assoc (take half_size b) (drop half_size b) (flatten s)) ∙ ap
      (λ c. c ++ flatten s) (take-append-drop half_size b)
  flatten-cut (b ∷ s) (suc k) = ap (λ xs. b ++ xs) (flatten-cut s k)

  pub length-cut : (s : List (List X)) (k : ℕ) → k < length s → length (cut s k) ≡ length s + 1
  length-cut [] k h = absurd (omega arith)
  length-cut (b ∷ s) zero h = omega arith
  length-cut (b ∷ s) (suc k) h = omega (arith, length-cut s k (omega arith))

  pub start-cut : (s : List (List X)) (k : ℕ) → start (cut s k) k ≡ start s k
  start-cut [] k = refl
  start-cut (b ∷ s) zero = refl
  start-cut (b ∷ s) (suc k) = omega (
    arith,
    length-append b (flatten (take k (cut s k))),
    length-append b (flatten (take k s)),
    start-cut s k,
  )

  pub lower-cut : (s : List (List X)) (k : ℕ) → k < length s → block_at (cut s k) k ≡ take half_size (block_at s k)
  lower-cut [] k h = absurd (omega arith)
  lower-cut (b ∷ s) zero h = refl
  lower-cut (b ∷ s) (suc k) h = lower-cut s k (omega arith)

  pub upper-cut : (s : List (List X)) (k : ℕ) → k < length s → block_at (cut s k) (suc k) ≡ drop half_size (block_at s k)
  upper-cut [] k h = absurd (omega arith)
  upper-cut (b ∷ s) zero h = refl
  upper-cut (b ∷ s) (suc k) h = upper-cut s k (omega arith)

  pub All-cut : (s : List (List X)) (k : ℕ) → k < length s → length (block_at s k) ≡ block_size → All IsBlock s → All IsBlock (cut s k)
  All-cut [] k h full a = absurd (omega arith)
  All-cut (b ∷ s) zero h full a =
      let low : IsBlock (take half_size b) =
      record {
        filled = omega (arith, length-take-le half_size b (omega arith));
        fits = omega (arith, length-take-le half_size b (omega arith));
      } in
      let high : IsBlock (drop half_size b) = record {
        filled = omega (arith, length-drop half_size b);
        fits = omega (arith, length-drop half_size b);
      } in
      All-cons IsBlock (take half_size b) (drop half_size b ∷ s) low (All-cons IsBlock (drop half_size b) s high (All-tail IsBlock b s a))
  All-cut (b ∷ s) (suc k) h full a = All-cons IsBlock b (cut s k) (All-head IsBlock b s a)
      (All-cut s k (omega arith) full (All-tail IsBlock b s a))

  pub overfull-cut : (s : List (List X)) (k : ℕ) → k < length s → length (block_at s k) ≡ block_size
      → overfull (cut s k) + half_size ≡ overfull s
  overfull-cut [] k h full = absurd (omega arith)
  overfull-cut (b ∷ s) zero h full = omega (arith, length-take-le half_size b (omega arith), length-drop half_size b)
  overfull-cut (b ∷ s) (suc k) h full = omega (arith, overfull-cut s k (omega arith) full)

  pub load-cut : (s : List (List X)) (k : ℕ) → k < length s → length (block_at s k) ≡ block_size → load (cut s k) + half_size ≡ load s
  load-cut [] k h full = absurd (omega arith)
  load-cut (b ∷ s) zero h full = overfull-cut (b ∷ s) zero h full
  load-cut (b ∷ s) (suc k) h full = overfull-cut (b ∷ s) (suc k) h full

  -- one more element in a block
  pub overfull-set : (s : List (List X)) (k : ℕ) (c : List X) → k < length s
      → length c ≡ length (block_at s k) + 1 → overfull (set s k c) ≤ overfull s + 1
  overfull-set [] k c h more = absurd (omega arith)
  overfull-set (b ∷ s) zero c h more = omega arith
  overfull-set (b ∷ s) (suc k) c h more = omega (arith, overfull-set s k c (omega arith) more)

  pub load-set : (s : List (List X)) (k : ℕ) (c : List X) → k < length s
      → length c ≡ length (block_at s k) + 1 → load (set s k c) ≤ load s + 1
  load-set [] k c h more = absurd (omega arith)
  load-set (b ∷ s) zero c h more = overfull-set (b ∷ s) zero c h more
  load-set (b ∷ s) (suc k) c h more = overfull-set (b ∷ s) (suc k) c h more

  pub length-flatten : (s : List (List X)) → All IsBlock s → length (flatten s) ≤ block_size * length s
  length-flatten [] a = omega arith
  length-flatten (b ∷ s) a =
      let first = All-head IsBlock b s a in
      omega (arith, length-append b (flatten s), length-flatten s (All-tail IsBlock b s a), first.fits)

module _ {X : Type 0} (s t : List (List X)) (k : ℕ) (h : k < length s) (full : length (block_at s k) ≡ block_size) (each : All IsBlock s)
    (e : t ≡ cut s k) where
  pub load-is_cut : load t + half_size ≡ load s
  load-is_cut = ap (λ u. load u + half_size) e ∙ load-cut s k h full

  pub opened-lower : (at : ℕ) → at ≤ half_size → IsOpened s t (start s k + at) (record { block = k; at = at })
  unfolding index_of
  opened-lower at low = subst (λ u. IsOpened s u (start s k + at) (record { block = k; at = at })) (sym e) (record {
    in_block = omega (arith, length-cut s k h);
    in_range = omega (arith, ap length (lower-cut s k h), length-take-le half_size (block_at s k) (omega arith));
    fits = omega (arith, ap length (lower-cut s k h), length-take-le half_size (block_at s k) (omega arith));
    same = flatten-cut s k;
    index = ap (λ n. n + at) (start-cut s k);
    each = λ b good. All-set IsBlock (cut s k) k b good (All-cut s k h full each);
  })

  pub opened-upper : (at : ℕ) → half_size < at → at ≤ block_size
      → IsOpened s t (start s k + at) (record { block = k + 1; at = at - half_size })
  unfolding index_of
  opened-upper at high low =
      let n : suc k ≡ k + 1 = omega arith in
      let before = start-suc (cut s k) k (omega (arith, length-cut s k h)) in
      let lower = ap length (lower-cut s k h) in
      let cut_at = length-take-le half_size (block_at s k) (omega arith) in
      let upper = ap length (upper-cut s k h) in
      let rest = length-drop half_size (block_at s k) in
      subst (λ i. IsOpened s t (start s k + at) (record { block = i; at = at - half_size })) n
      (subst (λ u. IsOpened s u (start s k + at) (record { block = suc k; at = at - half_size })) (sym e) (record {
        in_block = omega (arith, length-cut s k h);
        in_range = omega (arith, upper, rest);
        fits = omega (arith, upper, rest);
        same = flatten-cut s k;
        index = omega (arith, before, start-cut s k, lower, cut_at);
        each = λ b good. All-set IsBlock (cut s k) (suc k) b good (All-cut s k h full each);
      }))

-- the result of putting an element at an opened place
module _ {X : Type 0} (s t : List (List X)) (n : ℕ) (p : Position) (x : X) (o : IsOpened s t n p) where
  pub put_flatten : flatten (set t p.block (insert (block_at t p.block) p.at x)) ≡ insert (flatten s) n x
  unfolding index_of
  put_flatten = flatten-put t p.block p.at x o.in_block o.in_range ∙ (λ i. insert (o.same i) (o.index i) x)

  pub put_each : All IsBlock (set t p.block (insert (block_at t p.block) p.at x))
  put_each =
      let n = length-insert (block_at t p.block) p.at x o.in_range in
      o.each (insert (block_at t p.block) p.at x) (record { filled = omega (arith, n); fits = omega (arith, n, o.fits) })

  pub put_load : load (set t p.block (insert (block_at t p.block) p.at x)) ≤ load t + 1
  put_load = load-set t p.block (insert (block_at t p.block) p.at x) o.in_block (length-insert (block_at t p.block) p.at x o.in_range)

none_before : (X : Type 0) (k : ℕ) → length (flatten {T = X} (take k [])) ≡ 0
none_before X zero = refl
none_before X (suc k) = refl

-- a place that is not the end is in range in the whole list
module _ {X : Type 0} (s : List (List X)) (p : Position) where
  pub index_in_range : IsPlace s p → index_of s p < length (flatten s)
  unfolding index_of
  index_in_range h =
      omega (
        arith,
        ap length (flatten-parts s p.block h.in_block),
        length-append (flatten (take p.block s)) (block_at s p.block ++ flatten (drop (suc p.block) s)),
        length-append (block_at s p.block) (flatten (drop (suc p.block) s)),
        h.in_range,
      )

  pub index_in_gap : IsGap s p → index_of s p ≤ length (flatten s)
  unfolding index_of
  index_in_gap h = by_blocks s refl
    where
      by_blocks : (u : List (List X)) → u ≡ s → index_of s p ≤ length (flatten s)
      by_blocks [] e =
          let none : length s ≡ 0 = omega (arith, ap length e) in
          let here : length (block_at s p.block) ≡ 0 = subst (λ v. length (block_at v p.block) ≡ 0) e refl in
          let front : length (flatten (take p.block s)) ≡ 0 = subst
          (λ v. length (flatten (take p.block v)) ≡ 0) e (none_before X p.block) in
          omega (arith, h.in_range)
      by_blocks (b ∷ u) e =
          let some : p.block < length s = omega (arith, ap length e, h.in_block) in
          omega (
            arith,
            ap length (flatten-parts s p.block some),
            length-append (flatten (take p.block s)) (block_at s p.block ++ flatten (drop (suc p.block) s)),
            length-append (block_at s p.block) (flatten (drop (suc p.block) s)),
            h.in_range,
          )

-- an insertion leaves room for one less
pub room_left : (os ns old mid new : ℕ) → half_size * os - old ≤ half_size * ns - mid → new ≤ mid + 1 → os ≤ ns + 1 → max os
    (half_size * os - old) ≤ max ns (half_size * ns - new) + 1
room_left os ns old mid new h l m = omega arith

module _ {X : Type 0} where
  overfull-most : (s : List (List X)) → All IsBlock s → overfull s ≤ half_size * length s
  overfull-most [] a = omega arith
  overfull-most (b ∷ s) a = let first = All-head IsBlock b s a in omega (arith, first.fits, overfull-most s (All-tail IsBlock b s a))

  pub load-most : (s : List (List X)) → All IsBlock s → load s ≤ half_size * length s + half_size
  load-most [] a = omega arith
  load-most (b ∷ s) a = omega (arith, overfull-most (b ∷ s) a)

  -- the element that a read of a block's start returns
  pub first_of : (s : List (List X)) (k : ℕ) (b : List X) (x : X) → k < length s → b ≡ block_at s k → 0 < length b
      → x ≡ get_or b 0 x → (d : X) → x ≡ get_or (flatten s) (start s k) d
  first_of s k b x h e l r d =
      let n : start s k + 0 ≡ start s k = omega arith in
      r ∙ get_or_default b 0 x d l ∙ ap (λ c. get_or c 0 d) e
      ∙ sym (placed s k 0 d h (subst (λ c. 0 < length c) e l)) ∙ ap (λ i. get_or (flatten s) i d) n

  pub block_within : (s : List (List X)) (k : ℕ) → k < length s → start s k + length (block_at s k) ≤ length (flatten s)
  block_within s k h =
      omega (
        arith,
        ap length (flatten-parts s k h),
        length-append (flatten (take k s)) (block_at s k ++ flatten (drop (suc k) s)),
        length-append (block_at s k) (flatten (drop (suc k) s)),
      )

  -- a new block at the end is open
  pub opened-new : (s t : List (List X)) (n : ℕ) → All IsBlock s → t ≡ s ++ [] ∷ [] → n ≡ length s → IsOpened s t
      (length (flatten s)) (record { block = n; at = 0 })
  unfolding index_of
  opened-new s t n a e m = subst (λ u. IsOpened s u (length (flatten s)) (record { block = n; at = 0 })) (sym e)
      (let here : block_at (s ++ [] ∷ []) n ≡ [] = get_or_push s [] [] n (sym m) in
      let longer = length-append s ([] ∷ []) in
      let front : take n (s ++ [] ∷ []) ≡ s = take_at s ([] ∷ []) n (sym m) in
      let before : start (s ++ [] ∷ []) n ≡ length (flatten s) = ap (λ u. length (flatten u)) front in
      record {
        in_block = omega (arith, longer);
        in_range = omega arith;
        fits = omega (arith, ap length here);
        same = flat_map-append (λ (b : List X). b) s ([] ∷ []) ∙ append-nil (flatten s);
        index = omega (arith, before);
        each = λ b good. subst (All IsBlock) (sym (set_at s [] [] b n (sym m))) (All-push IsBlock s b a good);
      })

-- this many blocks are enough for n insertions anywhere
pub room_enough : (n spares filled len : ℕ) → filled ≤ half_size * len + half_size → min n (len + n / half_size + 2) ≤ spares
    → n ≤ max spares (half_size * spares - filled)
room_enough n spares filled len h e = omega arith

module _ {X : Type 0} where
  -- changing an element of a block changes it in the whole list
  pub flatten-set_at : (s : List (List X)) (k at : ℕ) (x : X) → k < length s → at < length (block_at s k) → flatten
      (set s k (set (block_at s k) at x)) ≡ set (flatten s) (start s k + at) x
  flatten-set_at s k at x h a =
      let front = flatten (take k s) in
      let rest = flatten (drop (suc k) s) in
      let n : (length front + at) - length front ≡ at = omega arith in
      flatten-set s k (set (block_at s k) at x) h
      ∙ ap (λ xs. front ++ xs) (sym (set-append_left (block_at s k) rest at x a))
      ∙ ap (λ i. front ++ set (block_at s k ++ rest) i x) (sym n)
      ∙ sym (set-append_right front (block_at s k ++ rest) (length front) (length front + at) x refl (omega arith))
      ∙ ap (λ xs. set xs (start s k + at) x) (sym (flatten-parts s k h))

  pub set_sound : {Z Y : Type 0} (len : ℕ) (blocks spares : Vec (Vec X Z) Y) (k j : ℕ) (b : Vec X Z) (w : X)
      → IsSound len blocks spares → k < length blocks.items → b ≡ get_or blocks.items k b → j < length b.items → IsSound len
      (with_item blocks k (with_item b j w)) spares
  set_sound len blocks spares k j b w i h e l =
      let bs = blocks.items in
      let c = with_item b j w in
      let long = length-set bs k c in
      let room : HasRoom b = subst HasRoom (sym e) (All-get_or HasRoom bs k b h i.vectors.rooms) in
      let good = block_good bs k b h e i.each in
      let same = length-set b.items j w in
      let h' : k < length (shape bs) = omega (arith, length-map bs (λ v. v.items)) in
      let is = shape-set bs k c ∙ ap (λ xs. set (shape bs) k (set xs j w)) (block_read bs k b h e) in
      let l' : j < length (block_at (shape bs) k) = omega (arith, ap length (block_read bs k b h e)) in
      record {
        vectors =
            record {
              rooms = All-set HasRoom bs k c room i.vectors.rooms;
              empties = i.vectors.empties;
              places = omega (arith, long, i.vectors.places);
              spare_places = omega (arith, long, i.vectors.spare_places);
              few = omega (arith, long, i.vectors.few);
            };
        each =
            subst (All IsBlock) (sym (shape-set bs k c))
            (All-set IsBlock (shape bs) k c.items
            (record {
              filled = omega (arith, same, good.filled);
              fits = omega (arith, same, good.fits);
            }) i.each);
        count =
            omega (
              arith,
              i.count,
              ap length (ap flatten is ∙ flatten-set_at (shape bs) k j w h' l'),
              length-set (flatten (shape bs)) (start (shape bs) k + j) w,
            );
      }

  overfull-set_same : (s : List (List X)) (k : ℕ) (c : List X) → length c ≡ length (block_at s k) → overfull (set s k c) ≡ overfull s
  overfull-set_same [] k c e = refl
  overfull-set_same (b ∷ s) zero c e = omega arith
  overfull-set_same (b ∷ s) (suc k) c e = omega (arith, overfull-set_same s k c e)

  pub load-set_same : (s : List (List X)) (k : ℕ) (c : List X) → length c ≡ length (block_at s k) → load (set s k c) ≡ load s
  load-set_same [] k c e = refl
  load-set_same (b ∷ s) zero c e = overfull-set_same (b ∷ s) zero c e
  load-set_same (b ∷ s) (suc k) c e = overfull-set_same (b ∷ s) (suc k) c e

  -- it does not change the room
  pub room-with_item_at : (v : Tiers X) (p : Position) (x : X) → room (with_item_at v p x) ≡ room v
  unfolding room with_item_at
  room-with_item_at v p x =
      ap (λ l. max v.spares (half_size * v.spares - l))
      (load-set_same v.blocks p.block (set (block_at v.blocks p.block) p.at x) (length-set (block_at v.blocks p.block) p.at x))
