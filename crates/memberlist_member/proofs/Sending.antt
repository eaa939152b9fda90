-- Broadcasts were sent once more.
use Rattle.std.proofs.Common.{◌≡◌, ℕ, zero, suc, ◌+◌, ◌^◌, ◌<◌, ◌≤◌, min, nat_lt, nat_eq, ◌⊎◌, inl, inr, Bool, true, false, not, ◌||◌, cond, if◌then◌else◌, List, [], ◌∷◌, ◌++◌, map, take, drop, length, slice_index_or, slice_set, refl, sym, ap, ◌∙◌, arith, ltb-true, ltb-false}
use Rattle.std.proofs.lemmas.Bool.Decides.{nat_tests}
use Rattle.std.proofs.lemmas.List.{take-append-le, take_all}
use Rattle.std.specs.List.{All, filter, list_any}
use Rattle.memberlist_member.specs.declared.queue.Broadcast.{Broadcast}
use Rattle.memberlist_member.specs.Queues.{after_sending, left_of, sent_again}
use Rattle.memberlist_member.proofs.Members.{In, all_from, in_flat_map, of_all}

-- ---- the first so many are replaced

module _ {X : Type 0} (f : X → X) where
  abbrev pub part_done : ℕ → List X → List X
  part_done zero xs = xs
  part_done (suc i) [] = []
  part_done (suc i) (x ∷ xs) = f x ∷ part_done i xs

  pub part_at : (i : ℕ) (xs : List X) (d : X) → slice_index_or (part_done i xs) i d ≡ slice_index_or xs i d
  part_at zero xs d = refl
  part_at (suc i) [] d = refl
  part_at (suc i) (x ∷ xs) d = part_at i xs d

  pub part_more : (i : ℕ) (xs : List X) (d : X) → i < length xs
      → slice_set (part_done i xs) i (f (slice_index_or xs i d)) ≡ part_done (suc i) xs
  part_more i [] d less = absurd (omega (arith, less))
  part_more zero (x ∷ xs) d less = refl
  part_more (suc i) (x ∷ xs) d less = ap (λ l. f x ∷ l) (part_more i xs d (omega (arith, less)))

  pub part_all : (i : ℕ) (xs : List X) → length xs ≤ i → part_done i xs ≡ map f xs
  part_all zero [] all = refl
  part_all zero (x ∷ xs) all = absurd (omega (arith, all))
  part_all (suc i) [] all = refl
  part_all (suc i) (x ∷ xs) all = ap (λ l. f x ∷ l) (part_all i xs (omega (arith, all)))

-- ---- what the code makes of one

abbrev pub has : List ℕ → ℕ → Bool
has ids id = list_any (λ i. nat_eq i id) ids

-- one that was counted, up to the greatest number
abbrev pub raised : Broadcast → Broadcast
raised b = record { subject = b.subject; bytes = b.bytes; sent = min (b.sent + 1) 4294967295; id = b.id }

abbrev pub counted : List ℕ → Broadcast → Broadcast
counted ids b = if has ids b.id then raised b else b

abbrev pub stays : ℕ → List ℕ → Broadcast → Bool
stays limit ids b = nat_lt b.sent limit || not (has ids b.id)

or_true : (b : Bool) → (b || true) ≡ true
or_true true = refl
or_true false = refl

or_false : (b : Bool) → (b || false) ≡ b
or_false true = refl
or_false false = refl

not_less : (m n : ℕ) → n ≤ m → nat_lt m n ≡ false
not_less m n le = grind (arith, nat_tests)

kept_one : (limit : ℕ) → limit < 2 ^ 32 → (ids : List ℕ) (b : Broadcast) (rest : List Broadcast)
    → cond (stays limit ids (counted ids b)) (counted ids b ∷ rest) rest ≡ left_of limit ids b ++ rest
kept_one limit small ids b rest = cases (has ids b.id) refl (nat_lt (b.sent + 1) limit) refl where
  cases : (t : Bool) → has ids b.id ≡ t → (u : Bool) → nat_lt (b.sent + 1) limit ≡ u
      → cond (stays limit ids (counted ids b)) (counted ids b ∷ rest) rest ≡ left_of limit ids b ++ rest
  cases false isnt u is =
      let one : counted ids b ≡ b = ap (λ t. if t then raised b else b) isnt in
      let stay : stays limit ids (counted ids b) ≡ true =
      ap (stays limit ids) one ∙ ap (λ t. nat_lt b.sent limit || not t) isnt ∙ or_true (nat_lt b.sent limit) in
      let left : left_of limit ids b ≡ b ∷ [] =
      ap (λ t. if t then (if nat_lt (b.sent + 1) limit then sent_again b ∷ [] else []) else b ∷ []) isnt in
      ap (λ t. cond t (counted ids b ∷ rest) rest) stay ∙ ap (λ x. x ∷ rest) one ∙ sym (ap (λ l. l ++ rest) left)
  cases true known true below =
      let less : b.sent + 1 < limit = ltb-true (b.sent + 1) limit below in
      let number : min (b.sent + 1) 4294967295 ≡ b.sent + 1 = omega (arith, less, small) in
      let again : raised b ≡ sent_again b = ap (λ n. record { subject = b.subject; bytes = b.bytes; sent = n; id = b.id }) number in
      let one : counted ids b ≡ sent_again b = ap (λ t. if t then raised b else b) known ∙ again in
      let stay : stays limit ids (counted ids b) ≡ true =
      ap (stays limit ids) one ∙ ap (λ t. nat_lt (b.sent + 1) limit || not t) known ∙ ap (λ t. t || false) below in
      let left : left_of limit ids b ≡ sent_again b ∷ [] =
      ap (λ t. if t then (if nat_lt (b.sent + 1) limit then sent_again b ∷ [] else []) else b ∷ []) known
      ∙ ap (λ t. if t then sent_again b ∷ [] else []) below in
      ap (λ t. cond t (counted ids b ∷ rest) rest) stay ∙ ap (λ x. x ∷ rest) one ∙ sym (ap (λ l. l ++ rest) left)
  cases true known false reached =
      let at : limit ≤ b.sent + 1 = ltb-false (b.sent + 1) limit reached in
      let over : nat_lt (min (b.sent + 1) 4294967295) limit ≡ false =
      not_less (min (b.sent + 1) 4294967295) limit (omega (arith, at, small)) in
      let one : counted ids b ≡ raised b = ap (λ t. if t then raised b else b) known in
      let go : stays limit ids (counted ids b) ≡ false =
      ap (stays limit ids) one ∙ ap (λ t. nat_lt (min (b.sent + 1) 4294967295) limit || not t) known ∙ ap (λ t. t || false) over in
      let left : left_of limit ids b ≡ [] =
      ap (λ t. if t then (if nat_lt (b.sent + 1) limit then sent_again b ∷ [] else []) else b ∷ []) known
      ∙ ap (λ t. if t then sent_again b ∷ [] else []) reached in
      ap (λ t. cond t (counted ids b ∷ rest) rest) go ∙ sym (ap (λ l. l ++ rest) left)

-- it is one of them
pub count_one : (ids : List ℕ) (old items : List Broadcast) (i : ℕ) (d : Broadcast) (sent : ℕ) → items ≡ part_done (counted ids) i old
    → i < length old → has ids (slice_index_or items i d).id ≡ true → sent ≡ min ((slice_index_or items i d).sent + 1) 4294967295
    → slice_set items i (record {
      subject = (slice_index_or items i d).subject;
      bytes = (slice_index_or items i d).bytes;
      sent = sent;
      id = (slice_index_or items i d).id;
    }) ≡ part_done (counted ids) (i + 1) old
count_one ids old items i d sent so_far within known more =
    let x = slice_index_or items i d in
    let was : x ≡ slice_index_or old i d = ap (λ l. slice_index_or l i d) so_far ∙ part_at (counted ids) i old d in
    let here : counted ids x ≡ record { subject = x.subject; bytes = x.bytes; sent = sent; id = x.id } =
    ap (λ t. if t then raised x else x) known ∙ ap (λ n. record { subject = x.subject; bytes = x.bytes; sent = n; id = x.id }) (sym more) in
    let next : suc i ≡ i + 1 = omega arith in
    ap (λ y. slice_set items i y) (sym here ∙ ap (counted ids) was) ∙ ap (λ l. slice_set l i (counted ids (slice_index_or old i d))) so_far
    ∙ part_more (counted ids) i old d within ∙ ap (λ n. part_done (counted ids) n old) next

-- it is not
pub pass_one : (ids : List ℕ) (old items : List Broadcast) (i : ℕ) (d : Broadcast) → items ≡ part_done (counted ids) i old
    → i < length old → has ids (slice_index_or items i d).id ≡ false
    → slice_set items i (slice_index_or items i d) ≡ part_done (counted ids) (i + 1) old
pass_one ids old items i d so_far within isnt =
    let x = slice_index_or items i d in
    let was : x ≡ slice_index_or old i d = ap (λ l. slice_index_or l i d) so_far ∙ part_at (counted ids) i old d in
    let here : counted ids x ≡ x = ap (λ t. if t then raised x else x) isnt in
    let next : suc i ≡ i + 1 = omega arith in
    ap (λ y. slice_set items i y) (sym here ∙ ap (counted ids) was) ∙ ap (λ l. slice_set l i (counted ids (slice_index_or old i d))) so_far
    ∙ part_more (counted ids) i old d within ∙ ap (λ n. part_done (counted ids) n old) next

-- a slice is put back into its vector
pub put_back : {X : Type 0} (len : ℕ) (items old : List X) → len ≡ length old → length items ≡ length old
    → take len (items ++ drop (length items) old) ≡ items
put_back len items old len_is same =
    let rest : length old ≤ length items = omega (arith, same) in
    let le : len ≤ length items = omega (arith, len_is, same) in
    let ge : length items ≤ len = omega (arith, len_is, same) in
    take-append-le len items (drop (length items) old) le ∙ take_all len items ge

pub kept_all : (limit : ℕ) → limit < 2 ^ 32 → (ids : List ℕ) (waiting : List Broadcast)
    → filter (stays limit ids) (map (counted ids) waiting) ≡ after_sending limit ids waiting
kept_all limit small ids [] = refl
kept_all limit small ids (b ∷ bs) =
    kept_one limit small ids b (filter (stays limit ids) (map (counted ids) bs))
    ∙ ap (λ l. left_of limit ids b ++ l) (kept_all limit small ids bs)

-- ---- what is left of one

pub record IsLeft (limit : ℕ) (ids : List ℕ) (b left : Broadcast) : Type 0 where
  pub subject : left.subject ≡ b.subject
  pub id : left.id ≡ b.id
  pub sent : ((has ids b.id ≡ false) × (left.sent ≡ b.sent)) ⊎ ((has ids b.id ≡ true) × (left.sent ≡ b.sent + 1) × (b.sent + 1 < limit))

pub left_one : (limit : ℕ) (ids : List ℕ) (b left : Broadcast) → In left (left_of limit ids b) → IsLeft limit ids b left
left_one limit ids b left within = cases (has ids b.id) refl (nat_lt (b.sent + 1) limit) refl within where
  cases : (t : Bool) → has ids b.id ≡ t → (u : Bool) → nat_lt (b.sent + 1) limit ≡ u
      → In left (if t then (if u then sent_again b ∷ [] else []) else b ∷ []) → IsLeft limit ids b left
  cases true known true below (inl same) = record {
    subject = sym (ap (λ x. x.subject) same);
    id = sym (ap (λ x. x.id) same);
    sent = inr (known, sym (ap (λ x. x.sent) same), ltb-true (b.sent + 1) limit below);
  }
  cases true known true below (inr none) = absurd none
  cases true known false reached none = absurd none
  cases false isnt u is (inl same) =
      record { subject = sym (ap (λ x. x.subject) same); id = sym (ap (λ x. x.id) same); sent = inl (isnt, sym (ap (λ x. x.sent) same)) }
  cases false isnt u is (inr none) = absurd none

-- each that is left was there
pub left_in : (limit : ℕ) (ids : List ℕ) (waiting : List Broadcast) (left : Broadcast) → In left (after_sending limit ids waiting)
    → (b : Broadcast) × In b waiting × IsLeft limit ids b left
left_in limit ids waiting left within =
    let (b, there, here) = in_flat_map (left_of limit ids) waiting left within in (b, there, left_one limit ids b left here)

-- all were sent less often than the limit says
pub still_below : (limit : ℕ) (ids : List ℕ) (waiting : List Broadcast) → All (λ b. b.sent < limit) waiting
    → All (λ b. b.sent < limit) (after_sending limit ids waiting)
still_below limit ids waiting all = all_from (λ b. b.sent < limit) (after_sending limit ids waiting) (λ left within. (
    let (b, there, is) = left_in limit ids waiting left within in
    below left b (of_all (λ x. x.sent < limit) waiting all b there) is.sent)) where
      below : (left b : Broadcast) → b.sent < limit
          → ((has ids b.id ≡ false) × (left.sent ≡ b.sent)) ⊎ ((has ids b.id ≡ true) × (left.sent ≡ b.sent + 1) × (b.sent + 1 < limit))
          → left.sent < limit
      below left b was (inl (isnt, same)) = omega (arith, was, same)
      below left b was (inr (known, more, less)) = omega (arith, more, less)

pub still_numbered : (next limit : ℕ) (ids : List ℕ) (waiting : List Broadcast) → All (λ b. b.id < next) waiting
    → All (λ b. b.id < next) (after_sending limit ids waiting)
still_numbered next limit ids waiting all = all_from (λ b. b.id < next) (after_sending limit ids waiting) (λ left within. (
    let (b, there, is) = left_in limit ids waiting left within in
    let was = of_all (λ x. x.id < next) waiting all b there in
    let same = is.id in
    omega (arith, was, same)))
