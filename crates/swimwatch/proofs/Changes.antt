-- The names about which two differ, found one after the other; and tags read one after the other.
use Rattle.std.proofs.Common.{◌≡◌, ◌↔◌, ℕ, zero, suc, ◌+◌, Bool, true, false, not, ◌||◌, ◌&&◌, List, [], ◌∷◌, ◌++◌, length, cond, Option, Some, None, is_some, IsTrue, Bor, nat_eq, refl, sym, ap, ◌∙◌, arith}
use Rattle.std.specs.BTreeMap.{is_at}
use Rattle.std.specs.List.{list_all}
use Rattle.std.specs.Map.{lookup}
use Rattle.std.specs.Option.{option_copied, option_eq}
use Rattle.std.specs.Ordering.{is_eq}
use Rattle.std.specs.Str.{bytes_eq}
use Rattle.std.proofs.lemmas.Bool.{false≢true}
use Rattle.std.proofs.lemmas.Bool.Decides.{nat_tests}
use Rattle.std.proofs.lemmas.Cmp.{nat_list_cmp_total, eq_by_cmp_equiv}
use Rattle.memberlist_view.specs.Rules.{name_cmp}
use Rattle.swimwatch.specs.declared.view.known.Known.{Known}
use Rattle.swimwatch.specs.Knowing.{Tag, has_all, has_tag, is_value, read_or_none, tag_at, tags_after, value_of, whole_tags}
use Rattle.swimwatch.specs.Rosters.{Members, differs, is_new, is_other_now, said_of}
use Rattle.swimwatch.proofs.Rosters.{itself, known_more, same_name}

-- ---- names, one after the other

by_bool : {P : Type 0} (b : Bool) → (b ≡ true → P) → (b ≡ false → P) → P
by_bool true at_true at_false = at_true refl
by_bool false at_true at_false = at_false refl

-- a name that is not noted, since what is tested is false of it
pub passed : (D : List ℕ → Bool) (seen : Members) (name : List ℕ) (k : Known) (old f : List ℕ → Bool)
    → ((q : List ℕ) → f q ≡ (old q || (is_some (said_of seen q) && D q))) → D name ≡ false
    → (q : List ℕ) → f q ≡ (old q || (is_some (said_of (seen ++ (name, k) ∷ []) q) && D q))
passed D seen name k old f so_far not_it q =
    rw (known_more seen name k q) (by_bool (is_eq (name_cmp q name)) at_it apart)
  where
    at_it : is_eq (name_cmp q name) ≡ true → f q ≡ (old q || ((is_some (said_of seen q) || is_eq (name_cmp q name)) && D q))
    at_it e =
        let none : D q ≡ false = ap D (same_name q name e) ∙ not_it in
        let before = so_far q in
        grind (arith, none, before)

    apart : is_eq (name_cmp q name) ≡ false → f q ≡ (old q || ((is_some (said_of seen q) || is_eq (name_cmp q name)) && D q))
    apart e = let before = so_far q in grind (arith, e, before)

-- a name that is noted, since what is tested is true of it
pub added : (D : List ℕ → Bool) (seen : Members) (name : List ℕ) (k : Known) (old f g : List ℕ → Bool)
    → ((q : List ℕ) → f q ≡ (old q || (is_some (said_of seen q) && D q))) → D name ≡ true
    → ((q : List ℕ) → g q ≡ cond (is_eq (name_cmp name q)) true (f q))
    → (q : List ℕ) → g q ≡ (old q || (is_some (said_of (seen ++ (name, k) ∷ []) q) && D q))
added D seen name k old f g so_far it now q =
    rw (known_more seen name k q) (by_bool (is_eq (name_cmp q name)) at_it apart)
  where
    turned : is_eq (name_cmp name q) ≡ is_eq (name_cmp q name)
    turned = (eq_by_cmp_equiv nat_list_cmp_total).symm name q

    at_it : is_eq (name_cmp q name) ≡ true → g q ≡ (old q || ((is_some (said_of seen q) || is_eq (name_cmp q name)) && D q))
    at_it e =
        let holds : D q ≡ true = ap D (same_name q name e) ∙ it in
        let new = now q in
        let other = turned in
        grind (arith, e, holds, new, other)

    apart : is_eq (name_cmp q name) ≡ false → g q ≡ (old q || ((is_some (said_of seen q) || is_eq (name_cmp q name)) && D q))
    apart e =
        let before = so_far q in
        let new = now q in
        let other = turned in
        grind (arith, e, before, new, other)

-- ---- the names of the two

pub other_within : (was is : Option Known) → (is_some was && is_other_now was is) ≡ is_other_now was is
other_within None is = refl
other_within (Some was) is = refl

pub new_within : (was is : Option Known) → (is_some is && is_new was is) ≡ is_new was is
new_within None None = refl
new_within None (Some is) = refl
new_within (Some was) None = refl
new_within (Some was) (Some is) = refl

pub both_kinds : (was is : Option Known) → (is_other_now was is || is_new was is) ≡ differs was is
both_kinds None None = refl
both_kinds None (Some is) = refl
both_kinds (Some was) None = refl
both_kinds (Some was) (Some is) = by_test (differs (Some was) (Some is))
  where
    by_test : (b : Bool) → (b || false) ≡ b
    by_test true = refl
    by_test false = refl

has_first : {X : Type 0} (e : List ℕ × X) (es : List (List ℕ × X)) → is_some (lookup (is_at (name_cmp e.0)) (e ∷ es)) ≡ true
has_first e es = rw (itself e.0) refl

-- entries that have exactly the names of which this is true are none just if it is true of none
pub some_name : {X : Type 0} (es : List (List ℕ × X)) (D : List ℕ → Bool) (empty : Bool)
    → ((q : List ℕ) → is_some (lookup (is_at (name_cmp q)) es) ≡ D q) → (IsTrue empty ↔ (length es ≡ 0))
    → IsTrue (not empty) ↔ ((q : List ℕ) × IsTrue (D q))
some_name [] D true has is_empty = (λ e. absurd (false≢true e), λ w. absurd (false≢true (has w.0 ∙ w.1)))
some_name [] D false has is_empty = absurd (false≢true (is_empty.1 refl))
some_name (e ∷ es) D true has is_empty = absurd (omega (arith, is_empty.0 refl))
some_name (e ∷ es) D false has is_empty = (λ _. (e.0, sym (has e.0) ∙ has_first e es), λ _. refl)

-- ---- tags, one after the other

pub no_tags : (n : ℕ) (bytes : List ℕ) → read_or_none (tag_at bytes) ≡ None → whole_tags n bytes ≡ []
no_tags zero bytes e = refl
no_tags (suc n) bytes e = ap (tags_after (whole_tags n)) e

pub next_tag : (n m : ℕ) (bytes : List ℕ) (tag : Tag) (rest : List ℕ) → m ≡ n + 1
    → read_or_none (tag_at bytes) ≡ Some (tag, rest) → whole_tags m bytes ≡ tag ∷ whole_tags n rest
next_tag n zero bytes tag rest e read = absurd (omega (arith, e))
next_tag n (suc m) bytes tag rest e read =
    ap (tags_after (whole_tags m)) read ∙ ap (λ (z : ℕ). tag ∷ whole_tags z rest) (omega (arith, e))

-- none of so many tags: not all are whole
pub none_left : (n m : ℕ) (own : List Tag) → m ≡ n + 1 → has_all m own [] ≡ false
none_left n m own e = grind (arith, nat_tests, e)

-- the next tag is there, and then the others
pub one_left : (n m : ℕ) (own : List Tag) (tag : Tag) (tags : List Tag) → m ≡ n + 1
    → has_all m own (tag ∷ tags) ≡ (has_tag own tag && has_all n own tags)
one_left n m own tag tags e =
    by_tests (nat_eq (length (tag ∷ tags)) m) (nat_eq (length tags) n) (has_tag own tag) (list_all (has_tag own) tags) (grind (arith, nat_tests, e))
  where
    by_tests : (a b c d : Bool) → a ≡ b → (a && (c && d)) ≡ (c && (b && d))
    by_tests true true true d e = refl
    by_tests true true false d e = refl
    by_tests false false true d e = refl
    by_tests false false false d e = refl
    by_tests true false c d e = absurd (false≢true (sym e))
    by_tests false true c d e = absurd (false≢true e)

-- the value that was found is the tag's just if these tags have the tag
pub test_of_value : (found : Option (Bor (List ℕ))) (value : Bor (List ℕ)) (tags : List Tag) (key : List ℕ)
    → option_copied found ≡ value_of tags key
    → option_eq (λ (x y : Bor (List ℕ)). bytes_eq x.now y.now) found (Some value) ≡ has_tag tags (key, value.now)
test_of_value None value tags key e = ap (is_value value.now) e
test_of_value (Some other) value tags key e = ap (is_value value.now) e

twice : (b : Bool) → b ≡ not (not b)
twice true = refl
twice false = refl

-- what a test that it is not so says
pub opposite : (b r t h : Bool) → r ≡ not t → t ≡ h → r ≡ b → h ≡ not b
opposite b r t h e f g = sym f ∙ twice t ∙ ap not (sym e ∙ g)
