use Rattle.std.proofs.Common.{◌≡◌, ℕ, List, Option, Some, Result, Ok, Err, IsSome, OnErr, refl, sym, ap, subst, ◌∙◌}
use Rattle.std.specs.BTreeMap.{insert_entry}
use Rattle.memberlist_view.specs.declared.entry.Entry.{Entry}
use Rattle.memberlist_view.specs.declared.event.Event.{Event}
use Rattle.memberlist_view.specs.declared.heard.Heard.{Heard}
use Rattle.memberlist_view.specs.Heard.{about}
use Rattle.memberlist_view.specs.Rules.{Change, name_cmp, change}
use Rattle.memberlist_view.specs.Shown.{told}
use Rattle.memberlist_view.specs.Told.{Entries, ViewValue, entry_at, entry_of, entries_with, change_of, view_after}
use Rattle.memberlist_view.proofs.view.View.take.Goals as goal

-- a change of what is found by the name
changed : (view : ViewValue) (heard : Heard) (wait : ℕ) (entries : Entries) (name : List ℕ) (found : Option Entry) (what : Change)
    → view ≡ record { wait = wait; entries = entries } → name ≡ about heard.said
    → found ≡ entry_at entries name → what ≡ change wait found heard → what ≡ change_of view heard
changed view heard wait entries name found what v n f h =
    h ∙ (ap (λ o. change wait o heard) f ∙ (ap (λ m. change wait (entry_at entries m) heard) n ∙ sym (ap (λ w. change_of w heard) v)))

after : (view new : ViewValue) (heard : Heard) (name : List ℕ) (entry : Entry) (event : Event)
    → name ≡ about heard.said → Some (entry, event) ≡ change_of view heard
    → new ≡ record { wait = view.wait; entries = insert_entry name_cmp view.entries name entry } → new ≡ view_after view heard
after view new heard name entry event n what h =
    h ∙ (ap (λ m. record { wait = view.wait; entries = insert_entry name_cmp view.entries m entry }) n
    ∙ ap (λ (q : Change). record { wait = view.wait; entries = entries_with view.entries (about heard.said) q }) what)

on_err : {A E : Type 0} (r : Result A E) (P : Type 0) → P → OnErr r P
on_err (Ok x) P p = tt
on_err (Err e) P p = p

pub returns-clause-event : goal.returns-clause-event
returns-clause-event c =
    ap told (changed c.args.self.now c.args.heard.now c.self.inside.wait c.self.inside.entries.entries
    c.name-name.result.now _ _ (sym c.self.view_is) c.name-name.ensures c.get.ensures.value
    (sym c.in-Some.is ∙ c.in_ok-entry.ensures.ok))

pub returns-in_err-entry-clause-asks : goal.returns-in_err-entry-clause-asks
returns-in_err-entry-clause-asks c =
    on_err c.from_residual.result _
    (subst IsSome (changed c.args.self.now c.args.heard.now c.self.inside.wait c.self.inside.entries.entries
    c.name-name.result.now _ _ (sym c.self.view_is) c.name-name.ensures c.get.ensures.value refl)
    c.in_err-entry.ensures.asks)

pub returns-in_err-name-clause-asks : goal.returns-in_err-name-clause-asks
returns-in_err-name-clause-asks c =
    on_err c.from_residual-in_err-name.result _
    (subst IsSome (changed c.args.self.now c.args.heard.now c.self.inside.wait c.self.inside.entries.entries
    c.name-name.result.now _ (Some (c.in-Some.entry, c.in-Some.event))
    (sym c.self.view_is) c.name-name.ensures c.get.ensures.value
    (sym c.in-Some.is ∙ c.in_ok-entry.ensures.ok)) refl)

pub returns-in_err-before-clause-asks : goal.returns-in_err-before-clause-asks
returns-in_err-before-clause-asks c =
    on_err c.from_residual-in_err-before.result _
    (subst IsSome (changed c.args.self.now c.args.heard.now c.self.inside.wait c.self.inside.entries.entries
    c.name-name.result.now _ (Some (c.in-Some.entry, c.in-Some.event))
    (sym c.self.view_is) c.name-name.ensures c.get.ensures.value
    (sym c.in-Some.is ∙ c.in_ok-entry.ensures.ok)) refl)

pub returns-clause-step : goal.returns-clause-step
returns-clause-step c =
    after c.args.self.now c.put.new.self c.args.heard.now c.in_ok-name.name c.in-Some.entry c.in-Some.event
    (c.in_ok-name.ensures ∙ c.name-name.ensures)
    (changed c.args.self.now c.args.heard.now c.self.inside.wait c.self.inside.entries.entries
    c.name-name.result.now _ _ (sym c.self.view_is) c.name-name.ensures c.get.ensures.value
    (sym c.in-Some.is ∙ c.in_ok-entry.ensures.ok)) c.in_ok-before.ensures.ok

pub returns-clause-before : goal.returns-clause-before
returns-clause-before c =
    c.in_ok-before.ensures.old ∙ ap (entry_of c.args.self.now) (c.in_ok-name.ensures ∙ c.name-name.ensures)
