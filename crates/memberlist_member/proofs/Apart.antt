-- Broadcasts about different members, with different numbers.
use Rattle.std.proofs.Common.{◌≡◌, ◌≢◌, ℕ, zero, suc, ◌+◌, ◌<◌, ◌⊎◌, inl, inr, Bool, true, false, if◌then◌else◌, nat_lt, List, [], ◌∷◌, ◌++◌, slice_index_or, refl, sym, subst, ap, ◌∙◌, arith}
use Rattle.std.proofs.lemmas.Slice.Eq.{bytes_eq-Decides}
use Rattle.std.specs.List.{All, AllPairs}
use Rattle.std.specs.Str.{bytes_eq}
use Rattle.memberlist_member.specs.declared.queue.Broadcast.{Broadcast}
use Rattle.memberlist_member.specs.Queues.{AreApart, after_sending, put, sent_again}
use Rattle.memberlist_member.proofs.Members.{In, all_from, at_from_in, in_from_at, of_all}
use Rattle.memberlist_member.proofs.Queueing.{not_true}
use Rattle.memberlist_member.proofs.Sending.{has, left_in}

-- two broadcasts are about one member
abbrev pub about_one : Broadcast → Broadcast → Bool
about_one a b = bytes_eq a.subject.items b.subject.items

other_way : (a b : Broadcast) → about_one a b ≡ false → about_one b a ≡ false
other_way a b differ = not_true (about_one b a) (λ same.
    let is = (bytes_eq-Decides b.subject.items a.subject.items).0 same in
    let back = (bytes_eq-Decides a.subject.items b.subject.items).1 (sym is) in
    absurd (cc (differ, back)))

-- one that is about another member than x is about another than b, if x is about the same as b
past : (c x b : Broadcast) → about_one c x ≡ false → about_one x b ≡ true → about_one c b ≡ false
past c x b differ same =
    let is = (bytes_eq-Decides x.subject.items b.subject.items).0 same in
    subst (λ s. bytes_eq c.subject.items s ≡ false) is differ

pub in_put : (b : Broadcast) (waiting : List Broadcast) (c : Broadcast) → In c (put b waiting) → (b ≡ c) ⊎ In c waiting
in_put b [] c (inl same) = inl same
in_put b [] c (inr none) = absurd none
in_put b (x ∷ xs) c within = cases (in_put b xs c) (about_one x b) within where
  cases : (In c (put b xs) → (b ≡ c) ⊎ In c xs) → (t : Bool) → In c (if t then b ∷ xs else x ∷ put b xs) → (b ≡ c) ⊎ In c (x ∷ xs)
  cases later true (inl same) = inl same
  cases later true (inr there) = inr (inr there)
  cases later false (inl same) = inr (inl same)
  cases later false (inr there) = elim (later there) [ inl same ↦ inl same | inr rest ↦ inr (inr rest) ]

-- ---- each and the later ones

module _ (R : Broadcast → Broadcast → Type 0) where
  abbrev pub Pairs : List Broadcast → Type 0
  Pairs [] = Unit {0}
  Pairs (b ∷ bs) = ((c : Broadcast) → In c bs → R b c) × Pairs bs

  pub pairs_from : (waiting : List Broadcast) → AllPairs R waiting → Pairs waiting
  pairs_from [] all = tt
  pairs_from (b ∷ bs) all = (
    λ c within. (
        let (k, less, is) = at_from_in bs c c within in
        subst (λ x. R b x) is (all zero (suc k) c (omega arith) (omega (arith, less)))),
    pairs_from bs (λ i j d less within. all (suc i) (suc j) d (omega (arith, less)) (omega (arith, within))),
  )

  pub pairs_to : (waiting : List Broadcast) → Pairs waiting → AllPairs R waiting
  pairs_to [] pairs i j d less within = absurd (omega (arith, within))
  pairs_to (b ∷ bs) (first, pairs) i zero d less within = absurd (omega (arith, less))
  pairs_to (b ∷ bs) (first, pairs) zero (suc j) d less within =
      first (slice_index_or bs j d) (in_from_at bs j (slice_index_or bs j d) d (omega (arith, within)) refl)
  pairs_to (b ∷ bs) (first, pairs) (suc i) (suc j) d less within = pairs_to bs pairs i j d (omega (arith, less)) (omega (arith, within))

  -- those that are left
  pub pairs_left : (limit : ℕ) (ids : List ℕ)
      → ((b c left_b left_c : Broadcast) → left_b.id ≡ b.id → left_c.id ≡ c.id → left_b.subject ≡ b.subject
      → left_c.subject ≡ c.subject → R b c → R left_b left_c)
      → (waiting : List Broadcast) → Pairs waiting → Pairs (after_sending limit ids waiting)
  pairs_left limit ids keeps [] pairs = tt
  pairs_left limit ids keeps (b ∷ bs) (first, pairs) =
      cases (pairs_left limit ids keeps bs pairs) (has ids b.id) refl (nat_lt (b.sent + 1) limit) refl where
        with_first : (left : Broadcast) → left.id ≡ b.id → left.subject ≡ b.subject
            → Pairs (after_sending limit ids bs) → Pairs (left ∷ after_sending limit ids bs)
        with_first left id subject rest = (
          λ c within. (
              let (was, there, is) = left_in limit ids bs c within in
              keeps b was left c id is.id subject is.subject (first was there)),
          rest,
        )

        cases : Pairs (after_sending limit ids bs) → (t : Bool) → has ids b.id ≡ t → (u : Bool) → nat_lt (b.sent + 1) limit ≡ u
            → Pairs (after_sending limit ids (b ∷ bs))
        cases rest true known u is =
            subst (λ t. Pairs ((if t then (if nat_lt (b.sent + 1) limit then sent_again b ∷ [] else []) else b ∷ []) ++ after_sending limit ids bs))
            (sym known) (
            subst (λ v. Pairs ((if v then sent_again b ∷ [] else []) ++ after_sending limit ids bs)) (sym is) (at u))
          where
            at : (v : Bool) → Pairs ((if v then sent_again b ∷ [] else []) ++ after_sending limit ids bs)
            at true = with_first (sent_again b) refl refl rest
            at false = rest
        cases rest false isnt u is =
            subst (λ t. Pairs ((if t then (if nat_lt (b.sent + 1) limit then sent_again b ∷ [] else []) else b ∷ []) ++ after_sending limit ids bs))
            (sym isnt) (with_first b refl refl rest)

  -- a new one
  pub pairs_put : (b : Broadcast) (waiting : List Broadcast) → ((c : Broadcast) → In c waiting → R b c × R c b)
      → Pairs waiting → Pairs (put b waiting)
  pairs_put b [] each pairs = (λ c none. absurd none, tt)
  pairs_put b (x ∷ xs) each (first, pairs) =
      cases (pairs_put b xs (λ c within. each c (inr within)) pairs) (about_one x b) refl where
        cases : Pairs (put b xs) → (t : Bool) → about_one x b ≡ t → Pairs (put b (x ∷ xs))
        cases rest true is =
            subst (λ t. Pairs (if t then b ∷ xs else x ∷ put b xs)) (sym is) (λ c within. (each c (inr within)).0, pairs)
        cases rest false is =
            subst (λ t. Pairs (if t then b ∷ xs else x ∷ put b xs)) (sym is) (
              λ c within. elim (in_put b xs c within) [ inl same ↦ subst (λ y. R x y) same (each x (inl refl)).1 | inr there ↦ first c there ],
              rest,
            )

-- ---- one about each member

apart_from : (waiting : List Broadcast) → AreApart waiting → Pairs (λ a b. about_one b a ≡ false) waiting
apart_from [] apart = tt
apart_from (b ∷ bs) (first, apart) =
    (of_all (λ other. about_one other b ≡ false) bs first, apart_from bs apart)

apart_to : (waiting : List Broadcast) → Pairs (λ a b. about_one b a ≡ false) waiting → AreApart waiting
apart_to [] pairs = tt
apart_to (b ∷ bs) (first, pairs) =
    (all_from (λ other. about_one other b ≡ false) bs first, apart_to bs pairs)

pub apart_left : (limit : ℕ) (ids : List ℕ) (waiting : List Broadcast) → AreApart waiting → AreApart (after_sending limit ids waiting)
apart_left limit ids waiting apart =
    apart_to (after_sending limit ids waiting) (pairs_left (λ a b. about_one b a ≡ false) limit ids
    (λ b c left_b left_c id_b id_c same_b same_c differ.
    subst (λ s. bytes_eq s.items left_b.subject.items ≡ false) (sym same_c)
    (subst (λ s. bytes_eq c.subject.items s.items ≡ false) (sym same_b) differ))
    waiting (apart_from waiting apart))

-- the others are about other members
pub in_put_apart : (b : Broadcast) (waiting : List Broadcast) → AreApart waiting → (c : Broadcast) → In c (put b waiting)
    → (b ≡ c) ⊎ (In c waiting × (about_one c b ≡ false))
in_put_apart b [] apart c (inl same) = inl same
in_put_apart b [] apart c (inr none) = absurd none
in_put_apart b (x ∷ xs) (first, apart) c within = cases (in_put_apart b xs apart c) (about_one x b) refl within where
  cases : (In c (put b xs) → (b ≡ c) ⊎ (In c xs × (about_one c b ≡ false))) → (t : Bool) → about_one x b ≡ t
      → In c (if t then b ∷ xs else x ∷ put b xs) → (b ≡ c) ⊎ (In c (x ∷ xs) × (about_one c b ≡ false))
  cases later true is (inl same) = inl same
  cases later true is (inr there) = inr (inr there, past c x b (of_all (λ other. about_one other x ≡ false) xs first c there) is)
  cases later false is (inl same) = inr (inl same, subst (λ y. about_one y b ≡ false) same is)
  cases later false is (inr there) = elim (later there) [ inl same ↦ inl same | inr rest ↦ inr (inr rest.0, rest.1) ]

pub apart_put : (b : Broadcast) (waiting : List Broadcast) → AreApart waiting → AreApart (put b waiting)
apart_put b [] apart = (all_from (λ other. about_one other b ≡ false) [] (λ c none. absurd none), tt)
apart_put b (x ∷ xs) (first, apart) = cases (apart_put b xs apart) (about_one x b) refl where
  cases : AreApart (put b xs) → (t : Bool) → about_one x b ≡ t → AreApart (put b (x ∷ xs))
  cases later true is =
      subst (λ t. AreApart (if t then b ∷ xs else x ∷ put b xs)) (sym is) (
        all_from (λ other. about_one other b ≡ false) xs
            (λ c there. past c x b (of_all (λ other. about_one other x ≡ false) xs first c there) is),
        apart,
      )
  cases later false is =
      subst (λ t. AreApart (if t then b ∷ xs else x ∷ put b xs)) (sym is) (
        all_from (λ other. about_one other x ≡ false) (put b xs) (λ c within. elim (in_put b xs c within) [
          | inl same ↦ subst (λ y. about_one y x ≡ false) same (other_way x b is)
          | inr there ↦ of_all (λ other. about_one other x ≡ false) xs first c there
        ]),
        later,
      )

-- ---- numbers

pub distinct_left : (limit : ℕ) (ids : List ℕ) (waiting : List Broadcast) → AllPairs (λ a b. a.id ≢ b.id) waiting
    → AllPairs (λ a b. a.id ≢ b.id) (after_sending limit ids waiting)
distinct_left limit ids waiting distinct =
    pairs_to (λ a b. a.id ≢ b.id) (after_sending limit ids waiting) (pairs_left (λ a b. a.id ≢ b.id) limit ids
    (λ b c left_b left_c id_b id_c same_b same_c other same. other (sym id_b ∙ same ∙ id_c))
    waiting (pairs_from (λ a b. a.id ≢ b.id) waiting distinct))

pub numbered_put : (b : Broadcast) (next : ℕ) (waiting : List Broadcast) → b.id ≡ next → All (λ x. x.id < next) waiting
    → All (λ x. x.id < next + 1) (put b waiting)
numbered_put b next waiting is all = all_from (λ x. x.id < next + 1) (put b waiting) (λ c within. elim (in_put b waiting c within) [
  | inl same ↦ (let id = ap (λ x. x.id) same in omega (arith, id, is))
  | inr there ↦ (let less = of_all (λ x. x.id < next) waiting all c there in omega (arith, less))
])

pub distinct_put : (b : Broadcast) (next : ℕ) (waiting : List Broadcast) → b.id ≡ next → All (λ x. x.id < next) waiting
    → AllPairs (λ x y. x.id ≢ y.id) waiting → AllPairs (λ x y. x.id ≢ y.id) (put b waiting)
distinct_put b next waiting is all distinct =
    pairs_to (λ x y. x.id ≢ y.id) (put b waiting) (pairs_put (λ x y. x.id ≢ y.id) b waiting
    (λ c there. (
    let less = of_all (λ x. x.id < next) waiting all c there in
    (λ same. absurd (omega (arith, less, same, is)), λ same. absurd (omega (arith, less, same, is)))))
    (pairs_from (λ x y. x.id ≢ y.id) waiting distinct))
