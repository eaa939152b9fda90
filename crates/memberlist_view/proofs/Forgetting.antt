-- A view without the members that it forgets is the view of what was heard about the others.
use Rattle.std.proofs.Common.{◌≡◌, ◌≢◌, ℕ, Bool, true, false, not, cond, Option, Some, None, List, [], ◌∷◌}
use Rattle.std.proofs.Common.{if◌then◌else◌, refl, sym, ap, ◌∙◌}
use Rattle.std.specs.List.{filter}
use Rattle.std.specs.Map.{keys_of}
use Rattle.std.specs.Ordering.{is_eq}
use Rattle.std.specs.declared.cmp.Ordering.{Ordering}
use Rattle.std.specs.declared.cmp.Ordering.TheVariants.{Less, Equal, Greater}
use Rattle.std.proofs.lemmas.Cmp.{eq_by_cmp_equiv, nat_list_cmp_total}
use Rattle.std.proofs.lemmas.Map.Entries.{option_filter, lookup-filter-values}
use Rattle.std.proofs.lemmas.Map.Keys.{IsDistinct-from_sorted}
use Rattle.std.proofs.lemmas.Map.Lookups.{exact_bytes}
use Rattle.memberlist_view.specs.declared.entry.Entry.{Entry}
use Rattle.memberlist_view.specs.declared.heard.Heard.{Heard}
use Rattle.memberlist_view.specs.Heard.{about}
use Rattle.memberlist_view.specs.Member.{about_others, forgets, is_any_dropped, is_dropped, view_without_dropped}
use Rattle.memberlist_view.specs.Rules.{name_cmp, change}
use Rattle.memberlist_view.specs.Shown.{changed, shown, shown_next, shown_from}
use Rattle.memberlist_view.specs.Told.{Entries, ViewValue, IsAscending, IsViewOf, entry_at, entry_of}
use Rattle.memberlist_view.proofs.Inserting.{IsBelowAll, IsAscending-head, IsAscending-tail, IsAscending-cons, IsAscending-nil}

-- ---- the entries that stay

IsBelowAll-filter : (p : List ℕ × Entry → Bool) (es : Entries) (name : List ℕ) → IsBelowAll name es → IsBelowAll name (filter p es)
IsBelowAll-filter p [] name all = tt
IsBelowAll-filter p (e ∷ es) name all = by_test (IsBelowAll-filter p es name all.1) (p e)
  where
    by_test : IsBelowAll name (filter p es) → (b : Bool) → IsBelowAll name (cond b (e ∷ filter p es) (filter p es))
    by_test later true = (all.0, later)
    by_test later false = later

pub IsAscending-filter : (p : List ℕ × Entry → Bool) (es : Entries) → IsAscending es → IsAscending (filter p es)
IsAscending-filter p [] up = IsAscending-nil
IsAscending-filter p (e ∷ es) up = by_test (IsAscending-filter p es (IsAscending-tail e es up)) (p e)
  where
    by_test : IsAscending (filter p es) → (b : Bool) → IsAscending (cond b (e ∷ filter p es) (filter p es))
    by_test later true = IsAscending-cons e (filter p es) (IsBelowAll-filter p es e.0 (IsAscending-head e es up)) later
    by_test later false = later

pub entry_at-filter : (p : Entry → Bool) (es : Entries) (name : List ℕ) → IsAscending es
    → entry_at (filter (λ e. p e.1) es) name ≡ option_filter p (entry_at es name)
entry_at-filter p es name up =
    lookup-filter-values (eq_by_cmp_equiv nat_list_cmp_total) p name es (IsDistinct-from_sorted name_cmp (keys_of es) up)

-- ---- what was heard about the others

-- what is said of another name changes nothing
apart : (wait : ℕ) (name : List ℕ) (old : Option Entry) (heard : Heard) → name ≢ about heard.said → shown_next wait name old heard ≡ old
apart wait name old heard other = by_answer (name_cmp name (about heard.said)) refl
  where
    by_answer : (o : Ordering) → name_cmp name (about heard.said) ≡ o → (if is_eq o then changed old (change wait old heard) else old) ≡ old
    by_answer Less e = refl
    by_answer Greater e = refl
    by_answer Equal e = absurd (other (exact_bytes name (about heard.said) e))

differ : (keep : List ℕ → Bool) (name other : List ℕ) (b : Bool) → keep name ≡ b → keep other ≡ not b → name ≢ other
differ keep name other true h g same = cc (h, g, ap keep same)
differ keep name other false h g same = cc (h, g, ap keep same)

kept : (keep : List ℕ → Bool) (wait : ℕ) (name : List ℕ) (past : List Heard) (old : Option Entry) → keep name ≡ true
    → shown_from wait name old (filter (λ h. keep (about h.said)) past) ≡ shown_from wait name old past
kept keep wait name [] old h = refl
kept keep wait name (heard ∷ past) old h = by_test (λ o. kept keep wait name past o h) (keep (about heard.said)) refl
  where
    by_test : ((o : Option Entry) → shown_from wait name o (filter (λ h. keep (about h.said)) past) ≡ shown_from wait name o past)
        → (b : Bool) → keep (about heard.said) ≡ b
        → shown_from wait name old (cond b (heard ∷ filter (λ h. keep (about h.said)) past) (filter (λ h. keep (about h.said)) past))
        ≡ shown_from wait name (shown_next wait name old heard) past
    by_test later true e = later (shown_next wait name old heard)
    by_test later false e =
        later old ∙ ap (λ o. shown_from wait name o past) (sym (apart wait name old heard (differ keep name (about heard.said) true h e)))

gone : (keep : List ℕ → Bool) (wait : ℕ) (name : List ℕ) (past : List Heard) (old : Option Entry) → keep name ≡ false
    → shown_from wait name old (filter (λ h. keep (about h.said)) past) ≡ old
gone keep wait name [] old h = refl
gone keep wait name (heard ∷ past) old h = by_test (λ o. gone keep wait name past o h) (keep (about heard.said)) refl
  where
    by_test : ((o : Option Entry) → shown_from wait name o (filter (λ h. keep (about h.said)) past) ≡ o)
        → (b : Bool) → keep (about heard.said) ≡ b
        → shown_from wait name old (cond b (heard ∷ filter (λ h. keep (about h.said)) past) (filter (λ h. keep (about h.said)) past)) ≡ old
    by_test later true e = later (shown_next wait name old heard)
        ∙ apart wait name old heard (differ keep name (about heard.said) false h e)
    by_test later false e = later old

-- ---- the view

pub IsViewOf-others : (view : ViewValue) (time : ℕ) (past : List Heard) → IsViewOf view past
    → IsViewOf (view_without_dropped view time) (about_others view time past)
IsViewOf-others view time past v = record {
  ascending = IsAscending-filter (λ e. not (is_dropped view.wait time e.1)) view.entries v.ascending;
  each = λ name.
      entry_at-filter stays view.entries name v.ascending ∙ by_entry name (entry_of view name) refl;
}
  where
    stays : Entry → Bool
    stays entry = not (is_dropped view.wait time entry)

    keep : List ℕ → Bool
    keep name = not (forgets view time name)

    by_forgotten : (name : List ℕ) (entry : Entry) → entry_of view name ≡ Some entry → (b : Bool) → is_dropped view.wait time entry ≡ b
        → cond (not b) (Some entry) None ≡ shown view.wait (about_others view time past) name
    by_forgotten name entry is true e =
        let out : keep name ≡ false = ap (λ o. not (is_any_dropped view.wait time o)) is ∙ ap not e in
        sym (gone keep view.wait name past None out)
    by_forgotten name entry is false e =
        let in_ : keep name ≡ true = ap (λ o. not (is_any_dropped view.wait time o)) is ∙ ap not e in
        sym is ∙ v.each name ∙ sym (kept keep view.wait name past None in_)

    by_entry : (name : List ℕ) (o : Option Entry) → entry_of view name ≡ o
        → option_filter stays o ≡ shown view.wait (about_others view time past) name
    by_entry name None is =
        let in_ : keep name ≡ true = ap (λ o. not (is_any_dropped view.wait time o)) is in
        sym is ∙ v.each name ∙ sym (kept keep view.wait name past None in_)
    by_entry name (Some entry) is = by_forgotten name entry is (is_dropped view.wait time entry) refl
