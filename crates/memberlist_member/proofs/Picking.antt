-- Which broadcasts are picked for a datagram.
use Rattle.std.proofs.Common.{◌≡◌, ◌≢◌, ℕ, ◌+◌, ◌-◌, ◌<◌, ◌≤◌, nat_lt, nat_eq, inl, inr, Bool, true, false, not, List, [], ◌∷◌, ◌++◌, map, length, slice_index_or, Option, None, Some, IfSome, refl, sym, subst, ap, ◌∙◌, arith, append_assoc, ltb-true, ltb-false}
use Rattle.std.proofs.lemmas.Bool.{eqb-true}
use Rattle.std.proofs.lemmas.List.Sums.{sum_by-cons}
use Rattle.std.proofs.lemmas.Option.{slice_get_within}
use Rattle.std.specs.List.{All, AllPairs, slice_get}
use Rattle.memberlist_member.specs.declared.queue.Broadcast.{Broadcast}
use Rattle.memberlist_member.specs.Compound.{total}
use Rattle.memberlist_member.specs.Queues.{ArePicked, CanFollow, GoesBefore, IsFirstOf, IsNext, Picks, cost, ids_of, parts_of, without}
use Rattle.memberlist_member.specs.Queues.GoesBefore.{fewer, longer, newer}
use Rattle.memberlist_member.proofs.Members.{In, all_from, at_from_in, contains_from_in, filter_in, get_from_in, in_filter, in_from_contains, in_from_get}
use Rattle.memberlist_member.proofs.Queueing.{not_itself, one, through}

-- ---- of two with different numbers one goes first

is_same : (m n : ℕ) → nat_lt m n ≡ false → nat_lt n m ≡ false → m ≡ n
is_same m n low high =
    let le : n ≤ m = ltb-false m n low in
    let ge : m ≤ n = ltb-false n m high in
    omega (arith, le, ge)

goes_behind : (a b : Broadcast) → a.id ≢ b.id → ¬ GoesBefore b a → GoesBefore a b
goes_behind a b other behind = by_sent (nat_lt a.sent b.sent) refl (nat_lt b.sent a.sent) refl where
  by_id : a.sent ≡ b.sent → length a.bytes.items ≡ length b.bytes.items
      → (x : Bool) → nat_lt b.id a.id ≡ x → (y : Bool) → nat_lt a.id b.id ≡ y → GoesBefore a b
  by_id sent len true x y is = newer sent len (ltb-true b.id a.id x)
  by_id sent len false x true y = absurd (behind (newer (sym sent) (sym len) (ltb-true a.id b.id y)))
  by_id sent len false x false y = absurd (other (is_same a.id b.id y x))

  by_length : a.sent ≡ b.sent → (x : Bool) → nat_lt (length b.bytes.items) (length a.bytes.items) ≡ x
      → (y : Bool) → nat_lt (length a.bytes.items) (length b.bytes.items) ≡ y → GoesBefore a b
  by_length sent true x y is = longer sent (ltb-true (length b.bytes.items) (length a.bytes.items) x)
  by_length sent false x true y = absurd (behind (longer (sym sent) (ltb-true (length a.bytes.items) (length b.bytes.items) y)))
  by_length sent false x false y =
      by_id sent (is_same (length a.bytes.items) (length b.bytes.items) y x) (nat_lt b.id a.id) refl (nat_lt a.id b.id) refl

  by_sent : (x : Bool) → nat_lt a.sent b.sent ≡ x → (y : Bool) → nat_lt b.sent a.sent ≡ y → GoesBefore a b
  by_sent true x y is = fewer (ltb-true a.sent b.sent x)
  by_sent false x true y = absurd (behind (fewer (ltb-true b.sent a.sent y)))
  by_sent false x false y =
      by_length (is_same a.sent b.sent x y) (nat_lt (length b.bytes.items) (length a.bytes.items)) refl
      (nat_lt (length a.bytes.items) (length b.bytes.items)) refl

-- ---- numbers

-- of one number there is one
pub same_one : (waiting : List Broadcast) → AllPairs (λ a b. a.id ≢ b.id) waiting → (a b : Broadcast)
    → In a waiting → In b waiting → a.id ≡ b.id → a ≡ b
same_one waiting distinct a b a_in b_in same =
    let (i, i_less, a_is) = at_from_in waiting a a a_in in
    let (j, j_less, b_is) = at_from_in waiting b a b_in in
    cases i j i_less a_is j_less b_is (nat_lt i j) refl (nat_lt j i) refl where
      cases : (i j : ℕ) → i < length waiting → slice_index_or waiting i a ≡ a → j < length waiting
          → slice_index_or waiting j a ≡ b → (x : Bool) → nat_lt i j ≡ x → (y : Bool) → nat_lt j i ≡ y → a ≡ b
      cases i j i_less a_is j_less b_is true x y is =
          absurd (distinct i j a (ltb-true i j x) j_less (ap (λ z. z.id) a_is ∙ same ∙ sym (ap (λ z. z.id) b_is)))
      cases i j i_less a_is j_less b_is false x true y =
          absurd (distinct j i a (ltb-true j i y) i_less (ap (λ z. z.id) b_is ∙ sym same ∙ sym (ap (λ z. z.id) a_is)))
      cases i j i_less a_is j_less b_is false x false y =
          sym a_is ∙ ap (λ k. slice_index_or waiting k a) (is_same i j x y) ∙ b_is

false_not : (t : Bool) → not t ≡ true → t ≡ false
false_not true is = absurd (cc (is))
false_not false is = refl

not_false : (t : Bool) → ¬ (t ≡ true) → not t ≡ true
not_false true no_way = absurd (no_way refl)
not_false false no_way = refl

pub in_without : (id : ℕ) (waiting : List Broadcast) (b : Broadcast) → In b (without id waiting) → In b waiting × (id ≢ b.id)
in_without id waiting b within =
    let (there, passes) = in_filter (λ x. not (nat_eq id x.id)) waiting b within in
    (there, λ same. let no = false_not (nat_eq id b.id) passes in absurd (cc (no, yes id b.id same))) where
      yes : (m n : ℕ) → m ≡ n → nat_eq m n ≡ true
      yes m n e = grind (arith, e)

pub without_in : (id : ℕ) (waiting : List Broadcast) (b : Broadcast) → In b waiting → id ≢ b.id → In b (without id waiting)
without_in id waiting b within other =
    filter_in (λ x. not (nat_eq id x.id)) waiting b within
    (not_false (nat_eq id b.id) (λ yes. other (eqb-true id b.id yes)))

-- ---- what was picked so far

pub record Picking (overhead room most : ℕ) (waiting : List Broadcast) (last : Option ℕ) (left count : ℕ) (ids : List ℕ) (parts : List (List ℕ)) : Type 0 where
  pub picked : List Broadcast
  pub numbers : ids ≡ ids_of picked
  pub bytes : parts ≡ parts_of picked
  -- those that were not picked
  pub others : List Broadcast
  -- what is picked of them makes the whole
  pub whole : (rest : List Broadcast) → Picks overhead left (most - count) others rest
      → Picks overhead room most waiting (picked ++ rest)
  -- of those that fit, they are the ones that go after the last one
  pub can : (b : Broadcast) → In b others → cost overhead b ≤ left → In b waiting × CanFollow waiting last overhead left b
  pub stay : (b : Broadcast) → In b waiting → CanFollow waiting last overhead left b → In b others
  pub there : IfSome last (λ before. before < length waiting)

pub none_picked : (overhead room most : ℕ) (waiting : List Broadcast) → Picking overhead room most waiting None room 0 [] []
none_picked overhead room most waiting = record {
  picked = [];
  numbers = refl;
  bytes = refl;
  others = waiting;
  whole = λ rest picks. (let same : most - 0 ≡ most = omega arith in subst (λ m. Picks overhead room m waiting rest) same picks);
  can = λ b within fits. (within, fits);
  stay = λ b within can. within;
  there = tt;
}

fits_of : (waiting : List Broadcast) (last : Option ℕ) (overhead left : ℕ) (b : Broadcast)
    → CanFollow waiting last overhead left b → cost overhead b ≤ left
fits_of waiting None overhead left b can = can
fits_of waiting (Some i) overhead left b can = can.0

pub found_fits : (waiting : List Broadcast) (last : Option ℕ) (overhead left count index : ℕ) (b : Broadcast)
    → slice_get waiting index ≡ Some b → IsFirstOf (CanFollow waiting last overhead left) waiting count index
    → cost overhead b ≤ left
found_fits waiting last overhead left count index b is (f, at, can, first) =
    fits_of waiting last overhead left b (subst (λ x. CanFollow waiting last overhead left x) (one waiting index b f is at) can)

follows : (waiting : List Broadcast) (last : Option ℕ) (overhead left : ℕ) (b c : Broadcast)
    → CanFollow waiting last overhead left b → GoesBefore b c → cost overhead c ≤ left
    → CanFollow waiting last overhead left c
follows waiting None overhead left b c can before fits = fits
follows waiting (Some i) overhead left b c (b_fits, (l, is, first)) before fits = (fits, (l, is, through l b c first before))

pub map_push : {X Y : Type 0} (f : X → Y) (xs : List X) (x : X) → map f xs ++ f x ∷ [] ≡ map f (xs ++ x ∷ [])
map_push f [] x = refl
map_push f (y ∷ ys) x = ap (λ l. f y ∷ l) (map_push f ys x)

module _ (overhead room most : ℕ) (waiting : List Broadcast) (distinct : AllPairs (λ a b. a.id ≢ b.id) waiting)
    (last : Option ℕ) (left count : ℕ) (ids : List ℕ) (parts : List (List ℕ))
    (so_far : Picking overhead room most waiting last left count ids parts) where
  -- one more is picked
  pub picked_next : count < most → (index : ℕ) (b : Broadcast) → slice_get waiting index ≡ Some b
      → CanFollow waiting last overhead left b
      → ((other : ℕ) (c : Broadcast) → other < length waiting → slice_get waiting other ≡ Some c
      → CanFollow waiting last overhead left c → ¬ GoesBefore c b)
      → Picking overhead room most waiting (Some index) (left - cost overhead b) (count + 1) (ids ++ b.id ∷ []) (parts ++ b.bytes.items ∷ [])
  picked_next more index b is can first = record {
    picked = so_far.picked ++ b ∷ [];
    numbers = ap (λ l. l ++ b.id ∷ []) so_far.numbers ∙ map_push (λ x. x.id) so_far.picked b;
    bytes = ap (λ l. l ++ b.bytes.items ∷ []) so_far.bytes ∙ map_push (λ x. x.bytes.items) so_far.picked b;
    others = rest_of;
    whole = λ rest picks. (
        let same : most - (count + 1) ≡ most - count - 1 = omega (arith, more) in
        let some : 0 < most - count = omega (arith, more) in
        let all = so_far.whole (b ∷ rest) (some, next, subst (λ m. Picks overhead (left - cost overhead b) m rest_of rest) same picks) in
        subst (λ l. Picks overhead room most waiting l) (sym (append_assoc so_far.picked (b ∷ []) rest)) all);
    can = λ c within fits. (
        let (stays, other) = in_without b.id so_far.others c within in
        let less : cost overhead c ≤ left = omega (arith, fits) in
        let known = so_far.can c stays less in
        (known.0, (fits, (b, is, after c stays other less))));
    stay = λ c within (fits, (l, l_is, before)). (
        let one : l ≡ b = (let same : Some l ≡ Some b = sym l_is ∙ is in cc (same)) in
        let b_before : GoesBefore b c = subst (λ x. GoesBefore x c) one before in
        let less : cost overhead c ≤ left = omega (arith, fits) in
        without_in b.id so_far.others c
        (so_far.stay c within (follows waiting last overhead left b c can b_before less))
        (λ same. not_itself b (subst (λ x. GoesBefore b x) (sym (same_one waiting distinct b c here within same)) b_before)));
    there = slice_get_within waiting index b is;
  } where
    here : In b waiting
    here = in_from_get waiting index b is

    rest_of : List Broadcast
    rest_of = without b.id so_far.others

    after : (c : Broadcast) → In c so_far.others → b.id ≢ c.id → cost overhead c ≤ left → GoesBefore b c
    after c within other fits =
        let known = so_far.can c within fits in
        let (k, less, c_is) = get_from_in waiting c known.0 in
        goes_behind b c other (first k c less c_is known.1)

    next : IsNext overhead left so_far.others b
    next = record {
      waits = contains_from_in so_far.others b (so_far.stay b here can);
      fits = fits_of waiting last overhead left b can;
      first = all_from (λ c. cost overhead c ≤ left → GoesBefore b c) (without b.id so_far.others)
          (λ c within fits. let (stays, other) = in_without b.id so_far.others c within in after c stays other fits);
    }

  pub picked_found : count < most → (index : ℕ) (b : Broadcast) → slice_get waiting index ≡ Some b
      → IsFirstOf (CanFollow waiting last overhead left) waiting (length waiting) index
      → Picking overhead room most waiting (Some index) (left - cost overhead b) (count + 1) (ids ++ b.id ∷ []) (parts ++ b.bytes.items ∷ [])
  picked_found more index b is (f, at, can, first) =
      let same : f ≡ b = one waiting index b f is at in
      picked_next more index b is (subst (λ x. CanFollow waiting last overhead left x) same can)
      (λ other c less there c_can. subst (λ x. ¬ GoesBefore c x) same (first other c less there c_can))

  finished : Picks overhead left (most - count) so_far.others [] → ArePicked overhead room most waiting ids parts
  finished ends = record {
    picked = so_far.picked ++ [];
    which = so_far.whole [] ends;
    numbers = so_far.numbers ∙ sym (ap ids_of (append_nil so_far.picked));
    bytes = so_far.bytes ∙ sym (ap parts_of (append_nil so_far.picked));
  } where
    append_nil : (l : List Broadcast) → l ++ [] ≡ l
    append_nil [] = refl
    append_nil (x ∷ xs) = ap (λ l. x ∷ l) (append_nil xs)

  -- as many as may be were picked
  pub enough : most ≤ count → ArePicked overhead room most waiting ids parts
  enough all = finished (inl (omega (arith, all)))

  -- none of the others fits
  pub no_more : ((other : ℕ) (c : Broadcast) → other < length waiting → slice_get waiting other ≡ Some c
      → ¬ CanFollow waiting last overhead left c) → ArePicked overhead room most waiting ids parts
  no_more none = finished (inr (all_from (λ b. left < cost overhead b) so_far.others long)) where
    long : (b : Broadcast) → In b so_far.others → left < cost overhead b
    long b within = cases (nat_lt left (cost overhead b)) refl where
      cases : (x : Bool) → nat_lt left (cost overhead b) ≡ x → left < cost overhead b
      cases true x = ltb-true left (cost overhead b) x
      cases false x =
          let known = so_far.can b within (ltb-false left (cost overhead b) x) in
          let (k, less, b_is) = get_from_in waiting b known.0 in
          absurd (none k b less b_is known.1)

pub picking_same : (overhead room most : ℕ) (waiting : List Broadcast) (last : Option ℕ) (left left' count : ℕ) (ids ids' : List ℕ)
    (parts parts' : List (List ℕ)) → left ≡ left' → ids ≡ ids' → parts ≡ parts'
    → Picking overhead room most waiting last left count ids parts → Picking overhead room most waiting last left' count ids' parts'
picking_same overhead room most waiting last left left' count ids ids' parts parts' a b c picking =
    subst (λ x. Picking overhead room most waiting last x count ids' parts') a
    (subst (λ x. Picking overhead room most waiting last left count x parts') b
    (subst (λ x. Picking overhead room most waiting last left count ids x) c picking))

-- ---- the room and the number

pub picks_total : (overhead room most : ℕ) (waiting picked : List Broadcast) → Picks overhead room most waiting picked
    → total overhead (parts_of picked) ≤ room
picks_total overhead room most waiting [] picks = omega arith
picks_total overhead room most waiting (b ∷ picked) (some, next, rest) =
    let later = picks_total overhead (room - cost overhead b) (most - 1) (without b.id waiting) picked rest in
    let fits = next.fits in
    let sum = sum_by-cons (λ part. overhead + length part) b.bytes.items (parts_of picked) in
    omega (arith, later, fits, sum)

pub picks_count : (overhead room most : ℕ) (waiting picked : List Broadcast) → Picks overhead room most waiting picked
    → length picked ≤ most
picks_count overhead room most waiting [] picks = omega arith
picks_count overhead room most waiting (b ∷ picked) (some, next, rest) =
    let later = picks_count overhead (room - cost overhead b) (most - 1) (without b.id waiting) picked rest in
    omega (arith, later, some)

-- where all have room, each has
pub each_fits : {X : Type 0} (f : X → List ℕ) (overhead room : ℕ) (parts : List X) → total overhead (map f parts) ≤ room
    → All (λ part. overhead + length (f part) ≤ room) parts
each_fits f overhead room parts sum = all_from (λ part. overhead + length (f part) ≤ room) parts (each parts sum) where
  each : (parts : List _) → total overhead (map f parts) ≤ room → (part : _) → In part parts → overhead + length (f part) ≤ room
  each [] sum part none = absurd none
  each (first ∷ rest) sum part (inl same) =
      let whole = sum_by-cons (λ p. overhead + length p) (f first) (map f rest) in
      let len = ap (λ p. length (f p)) same in
      omega (arith, whole, sum, len)
  each (first ∷ rest) sum part (inr later) =
      let whole = sum_by-cons (λ p. overhead + length p) (f first) (map f rest) in
      each rest (omega (arith, whole, sum)) part later

-- each pick waited
pub picks_wait : (overhead room most : ℕ) (waiting picked : List Broadcast) → Picks overhead room most waiting picked
    → (b : Broadcast) → In b picked → In b waiting
picks_wait overhead room most waiting [] picks b within = absurd within
picks_wait overhead room most waiting (c ∷ picked) (some, next, rest) b (inl same) =
    subst (λ x. In x waiting) same (in_from_contains waiting c next.waits)
picks_wait overhead room most waiting (c ∷ picked) (some, next, rest) b (inr later) =
    (in_without c.id waiting b (picks_wait overhead (room - cost overhead c) (most - 1) (without c.id waiting) picked rest b later)).0
