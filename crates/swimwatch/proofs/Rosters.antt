-- Lists of members: what is noted over an earlier entry, and at the end.
use Rattle.std.proofs.Common.{◌≡◌, ℕ, ◌<◌, ◌≤◌, length, arith, Bool, true, false, List, [], ◌∷◌, ◌++◌, cond, Option, Some, None, is_some, ◌||◌, ◌&&◌, unwrap_or, ◌⊎◌, inl, inr, refl, sym, ap, ◌∙◌}
use Rattle.std.specs.BTreeMap.{insert_entry, is_at}
use Rattle.std.specs.Prelude.{⊤}
use Rattle.std.specs.List.{AllByRecursion, slice_get}
use Rattle.std.specs.Map.{keys_of, set_value}
use Rattle.std.specs.Ordering.{is_eq, ordering_reverse}
use Rattle.std.specs.declared.cmp.Ordering.{Ordering}
use Rattle.std.specs.declared.cmp.Ordering.TheVariants.{Less, Equal, Greater}
use Rattle.std.proofs.lemmas.Cmp.{nat_list_cmp_total, eq_by_cmp_equiv, tied_itself}
use Rattle.std.proofs.lemmas.Map.{NonePasses, lookup-none, none_passes_from_lookup}
use Rattle.std.proofs.lemmas.Map.Entries.{none_below_head, none_past_head, lookup_from_place}
use Rattle.std.proofs.lemmas.Map.Keys.{sorted_head, sorted_tail, IsDistinct-from_sorted}
use Rattle.std.proofs.lemmas.Bool.{false≢true}
use Rattle.std.proofs.lemmas.Bool.Decides.{nat_tests}
use Rattle.std.proofs.lemmas.Map.Text.{is_eq-slice_cmp}
use Rattle.std.proofs.lemmas.Slice.Eq.{bytes_eq-Decides}
use Rattle.swim_claim.specs.declared.fault.ClaimFault.{ClaimFault}
use Rattle.swim_claim.specs.declared.fault.ClaimFault.TheVariants.{NameEmpty, NameTooLong}
use Rattle.swim_claim.specs.declared.claim.Kind.{Kind}
use Rattle.swim_claim.specs.declared.claim.Kind.TheVariants as kinds
use Rattle.memberlist_view.specs.Rules.{has_name, name_cmp}
use Rattle.memberlist_view.specs.Told.{Entries, IsAscending}
use Rattle.memberlist_view.specs.declared.entry.Entry.{Entry}
use Rattle.serf_view.specs.Intents.{Beliefs, intent_of, leaving_of}
use Rattle.swimwatch.specs.declared.view.known.Known.{Known}
use Rattle.swimwatch.specs.Knowing.{as_left, known_of_entry, with_intent}
use Rattle.swimwatch.specs.Rosters.{Members, IsInOrder, is_left, is_name, left_at, noted, said_of, shown_members, with_details_of, with_left}

-- ---- what is noted over what was written

set_none : (test : List ℕ → Bool) (es : Members) (w : Known) → NonePasses test es → set_value test es w ≡ es
set_none test [] w none = refl
set_none test (e ∷ es) w none =
    rw none.0 (ap (λ (z : Members). e ∷ z) (set_none test es w none.1))

pub insert_over : (es : Members) (name : List ℕ) (v w : Known) → IsInOrder es
    → insert_entry name_cmp (set_value (is_at (name_cmp name)) es w) name v ≡ insert_entry name_cmp es name v
insert_over [] name v w sorted = refl
insert_over (e ∷ es) name v w sorted =
    by_order (insert_over es name v w (sorted_tail name_cmp e.0 (keys_of es) sorted)) (name_cmp name e.0) refl
  where
    by_order : insert_entry name_cmp (set_value (is_at (name_cmp name)) es w) name v ≡ insert_entry name_cmp es name v
        → (o : Ordering) → name_cmp name e.0 ≡ o
        → insert_entry name_cmp (set_value (is_at (name_cmp name)) (e ∷ es) w) name v ≡ insert_entry name_cmp (e ∷ es) name v
    by_order again Less p =
        ap (λ (z : Members). insert_entry name_cmp z name v)
        (set_none (is_at (name_cmp name)) (e ∷ es) w (none_below_head nat_list_cmp_total name e es sorted p))
    by_order again Equal p = rw (p, p) refl
    by_order again Greater p = rw (p, p) (ap (λ (z : Members). e ∷ z) again)

-- ---- what is noted at the end

abbrev pub AreBelow : List ℕ → Members → Type 0
AreBelow name [] = ⊤
AreBelow name (e ∷ es) = (name_cmp name e.0 ≡ Greater) × AreBelow name es

said_none : (ms : Members) (name : List ℕ) → AreBelow name ms → said_of ms name ≡ None
said_none [] name below = refl
said_none (e ∷ es) name below = rw below.0 (said_none es name below.1)

insert_last : (ms : Members) (name : List ℕ) (k : Known) → AreBelow name ms
    → insert_entry name_cmp ms name k ≡ ms ++ (name, k) ∷ []
insert_last [] name k below = refl
insert_last (e ∷ es) name k below =
    rw below.0 (ap (λ (z : Members). e ∷ z) (insert_last es name k below.1))

pub noted_last : (ms : Members) (name : List ℕ) (k : Known) → AreBelow name ms
    → noted ms name k ≡ ms ++ (name, k) ∷ []
noted_last ms name k below =
    ap (λ (o : Option Known). insert_entry name_cmp ms name (with_details_of o k)) (said_none ms name below)
    ∙ insert_last ms name k below

-- each name before one in order is below it
picked : (P : List ℕ → Type 0) (es : Entries) (e : List ℕ × Entry) (rest : Entries)
    → AllByRecursion P (keys_of (es ++ e ∷ rest)) → P e.0
picked P [] e rest all = all.0
picked P (f ∷ es) e rest all = picked P es e rest all.1

turned : (a b : List ℕ) → name_cmp a b ≡ Less → name_cmp b a ≡ Greater
turned a b p = nat_list_cmp_total.antisymm b a ∙ ap ordering_reverse p

pub before_last : (intents : Beliefs) (es : Entries) (e : List ℕ × Entry) (rest : Entries) → IsAscending (es ++ e ∷ rest)
    → AreBelow e.0 (shown_members intents es)
before_last intents [] e rest sorted = tt
before_last intents (f ∷ es) e rest sorted = (
  turned f.0 e.0 (picked (λ y. name_cmp f.0 y ≡ Less) es e rest (sorted_head name_cmp f.0 (keys_of (es ++ e ∷ rest)) sorted)),
  before_last intents es e rest (sorted_tail name_cmp f.0 (keys_of (es ++ e ∷ rest)) sorted),
)

shown_more : (intents : Beliefs) (es : Entries) (e : List ℕ × Entry)
    → shown_members intents (es ++ e ∷ []) ≡ shown_members intents es ++ (e.0, known_of_entry e.1 (leaving_of (intent_of intents e.0))) ∷ []
shown_more intents [] e = refl
shown_more intents (f ∷ es) e =
    ap (λ (z : Members). (f.0, known_of_entry f.1 (leaving_of (intent_of intents f.0))) ∷ z) (shown_more intents es e)

-- what is shown of one more entry is noted
pub shown_next : (intents : Beliefs) (es : Entries) (e : List ℕ × Entry) (rest : Entries) → IsAscending (es ++ e ∷ rest)
    → noted (shown_members intents es) e.0 (known_of_entry e.1 (leaving_of (intent_of intents e.0)))
    ≡ shown_members intents (es ++ e ∷ [])
shown_next intents es e rest sorted =
    noted_last (shown_members intents es) e.0 (known_of_entry e.1 (leaving_of (intent_of intents e.0))) (before_last intents es e rest sorted)
    ∙ sym (shown_more intents es e)

-- ---- what is found

-- the name at each place has what stands there
pub said_at : (all : Members) (i : ℕ) (name : List ℕ) (k : Known) → IsInOrder all → slice_get all i ≡ Some (name, k)
    → said_of all name ≡ Some k
said_at all i name k sorted there =
    lookup_from_place (eq_by_cmp_equiv nat_list_cmp_total) all i name k (IsDistinct-from_sorted name_cmp (keys_of all) sorted) there

-- whether one more makes a name known
pub known_more : (seen : Members) (name : List ℕ) (k : Known) (q : List ℕ)
    → is_some (said_of (seen ++ (name, k) ∷ []) q) ≡ (is_some (said_of seen q) || is_eq (name_cmp q name))
known_more [] name k q = by_test (is_eq (name_cmp q name))
  where
    by_test : (b : Bool) → is_some (cond b (Some k) None) ≡ b
    by_test true = refl
    by_test false = refl
known_more (e ∷ es) name k q = by_test (known_more es name k q) (is_eq (name_cmp q e.0))
  where
    by_test : is_some (said_of (es ++ (name, k) ∷ []) q) ≡ (is_some (said_of es q) || is_eq (name_cmp q name))
        → (b : Bool) → is_some (cond b (Some e.1) (said_of (es ++ (name, k) ∷ []) q))
        ≡ (is_some (cond b (Some e.1) (said_of es q)) || is_eq (name_cmp q name))
    by_test again true = refl
    by_test again false = again

pub itself : (name : List ℕ) → name_cmp name name ≡ Equal
itself name = tied_itself nat_list_cmp_total name

-- ---- who left

none_left : (name : List ℕ) (es : Members) → NonePasses (is_at (name_cmp name)) es → left_at es name ≡ es
none_left name [] none = refl
none_left name (e ∷ es) none = rw none.0 (ap (λ (z : Members). e ∷ z) (none_left name es none.1))

pub nobody_left : (es : Members) (name : List ℕ) → said_of es name ≡ None → left_at es name ≡ es
nobody_left es name none = none_left name es (none_passes_from_lookup (is_at (name_cmp name)) es none)

some_or_none : (k : Known) → None ≡ Some k → ⊥
some_or_none k e = false≢true (ap is_some e)

pub one_left : (es : Members) (name : List ℕ) (k : Known) → IsInOrder es → said_of es name ≡ Some k
    → set_value (is_at (name_cmp name)) es (as_left k) ≡ left_at es name
one_left [] name k sorted there = refl
one_left (e ∷ es) name k sorted there =
    by_order (one_left es name k (sorted_tail name_cmp e.0 (keys_of es) sorted)) (name_cmp name e.0) refl
  where
    later : name_cmp name e.0 ≡ Greater → said_of (e ∷ es) name ≡ said_of es name
    later p = rw p refl

    is_it : said_of (e ∷ es) name ≡ Some k → name_cmp name e.0 ≡ Equal → k ≡ e.1
    is_it found p =
        let e : said_of (e ∷ es) name ≡ Some e.1 = rw p refl in
        ap (λ (o : Option Known). unwrap_or o k) (sym found ∙ e)

    by_order : (said_of es name ≡ Some k → set_value (is_at (name_cmp name)) es (as_left k) ≡ left_at es name)
        → (o : Ordering) → name_cmp name e.0 ≡ o
        → set_value (is_at (name_cmp name)) (e ∷ es) (as_left k) ≡ left_at (e ∷ es) name
    by_order again Less p =
        absurd (some_or_none k (sym (lookup-none (is_at (name_cmp name)) (e ∷ es) (none_below_head nat_list_cmp_total name e es sorted p)) ∙ there))
    by_order again Equal p =
        rw p (ap (λ (w : Known). (e.0, as_left w) ∷ es) (is_it there p)
        ∙ ap (λ (z : Members). (e.0, as_left e.1) ∷ z)
        (sym (none_left name es (none_past_head (eq_by_cmp_equiv nat_list_cmp_total) name e es (IsDistinct-from_sorted name_cmp (keys_of (e ∷ es)) sorted) (ap is_eq p)))))
    by_order again Greater p =
        rw p (ap (λ (z : Members). e ∷ z) (again (sym (later p) ∙ there)))

left_twice : (k : Known) → as_left (as_left k) ≡ as_left k
left_twice k = by_kind k.kind
  where
    by_kind : (kind : Kind) → (record k { kind = with_intent true (with_intent true kind) }) ≡ (record k { kind = with_intent true kind })
    by_kind kinds.Alive = refl
    by_kind kinds.Suspect = refl
    by_kind kinds.Confirm = refl
    by_kind kinds.Leave = refl

-- names that compare as equal are the same
pub same_name : (a b : List ℕ) → is_eq (name_cmp a b) ≡ true → a ≡ b
same_name a b e = (bytes_eq-Decides a b).0 (sym (is_eq-slice_cmp a b) ∙ e)

has_more : (q n : List ℕ) (seen : List (List ℕ)) → has_name q (seen ++ n ∷ []) ≡ (has_name q seen || is_eq (name_cmp n q))
has_more q n [] = by_test (is_eq (name_cmp n q))
  where
    by_test : (b : Bool) → (b || false) ≡ (false || b)
    by_test true = refl
    by_test false = refl
has_more q n (m ∷ seen) = by_test (has_more q n seen) (is_eq (name_cmp m q))
  where
    by_test : has_name q (seen ++ n ∷ []) ≡ (has_name q seen || is_eq (name_cmp n q)) → (b : Bool)
        → (b || has_name q (seen ++ n ∷ [])) ≡ ((b || has_name q seen) || is_eq (name_cmp n q))
    by_test again true = refl
    by_test again false = again

-- a member after one more name
one_member : (seen : List (List ℕ)) (n q : List ℕ) (k : Known) → is_name n ≡ true
    → cond (is_left (seen ++ n ∷ []) q) (as_left k) k
    ≡ cond (is_eq (name_cmp n q)) (as_left (cond (is_left seen q) (as_left k) k)) (cond (is_left seen q) (as_left k) k)
one_member seen n q k legal =
    rw (has_more q n seen) (by_test (is_eq (name_cmp n q)) (is_name q) (has_name q seen) (λ e. ap is_name (sym (same_name n q e)) ∙ legal))
  where
    by_test : (b name has : Bool) → (b ≡ true → name ≡ true)
        → cond (name && (has || b)) (as_left k) k
        ≡ cond b (as_left (cond (name && has) (as_left k) k)) (cond (name && has) (as_left k) k)
    by_test true true true is = sym (left_twice k)
    by_test true true false is = refl
    by_test true false has is = absurd (false≢true (is refl))
    by_test false true true is = refl
    by_test false true false is = refl
    by_test false false has is = refl

other_member : (seen : List (List ℕ)) (n q : List ℕ) → is_name n ≡ false → is_left (seen ++ n ∷ []) q ≡ is_left seen q
other_member seen n q illegal =
    rw (has_more q n seen) (by_test (is_eq (name_cmp n q)) (is_name q) (has_name q seen) (λ e. ap is_name (sym (same_name n q e)) ∙ illegal))
  where
    by_test : (b name has : Bool) → (b ≡ true → name ≡ false) → (name && (has || b)) ≡ (name && has)
    by_test true true has is = absurd (false≢true (sym (is refl)))
    by_test true false has is = refl
    by_test false true true is = refl
    by_test false true false is = refl
    by_test false false has is = refl

-- one more name that a member can have
pub left_more : (seen : List (List ℕ)) (n : List ℕ) (ms : Members) → is_name n ≡ true
    → left_at (with_left seen ms) n ≡ with_left (seen ++ n ∷ []) ms
left_more seen n [] legal = refl
left_more seen n (e ∷ ms) legal =
    ap (λ (k : Known). (e.0, k) ∷ left_at (with_left seen ms) n) (sym (one_member seen n e.0 e.1 legal))
    ∙ ap (λ (z : Members). (e.0, cond (is_left (seen ++ n ∷ []) e.0) (as_left e.1) e.1) ∷ z) (left_more seen n ms legal)

-- one more that no member can have
pub left_same : (seen : List (List ℕ)) (n : List ℕ) (ms : Members) → is_name n ≡ false
    → with_left seen ms ≡ with_left (seen ++ n ∷ []) ms
left_same seen n [] illegal = refl
left_same seen n (e ∷ ms) illegal =
    ap (λ (b : Bool). (e.0, cond b (as_left e.1) e.1) ∷ with_left seen ms) (sym (other_member seen n e.0 illegal))
    ∙ ap (λ (z : Members). (e.0, cond (is_left (seen ++ n ∷ []) e.0) (as_left e.1) e.1) ∷ z) (left_same seen n ms illegal)

-- nobody is left at the start
pub none_yet : (ms : Members) → ms ≡ with_left [] ms
none_yet [] = refl
none_yet (e ∷ ms) = by_test (is_name e.0) (none_yet ms)
  where
    by_test : (b : Bool) → ms ≡ with_left [] ms → (e ∷ ms) ≡ (e.0, cond (b && false) (as_left e.1) e.1) ∷ with_left [] ms
    by_test true again = ap (λ (z : Members). e ∷ z) again
    by_test false again = ap (λ (z : Members). e ∷ z) again

pub legal_name : (name : List ℕ) → 1 ≤ length name → length name ≤ 1024 → is_name name ≡ true
legal_name name least most = grind (arith, nat_tests)

pub empty_name : (name : List ℕ) → name ≡ [] → is_name name ≡ false
empty_name name e = ap is_name e

pub long_name : (name : List ℕ) → 1024 < length name → is_name name ≡ false
long_name name over = grind (arith, nat_tests)

pub no_name : (name : List ℕ) (fault : ClaimFault) → (fault ≡ NameEmpty) ⊎ (fault ≡ NameTooLong)
    → (fault ≡ NameEmpty → name ≡ []) → (fault ≡ NameTooLong → 1024 < length name) → is_name name ≡ false
no_name name fault (inl e) empty long = empty_name name (empty e)
no_name name fault (inr e) empty long = long_name name (long e)
