use Rattle.std.proofs.Common.{rules, ◌≡◌, ◌∙◌, ℕ, not, sym, ap, subst}
use Rattle.std.specs.List.{filter}
use Rattle.std.proofs.lemmas.Map.Made.{filter_same_pairs}
use Rattle.memberlist_view.specs.Member.{about_others, is_dropped, view_without_dropped}
use Rattle.memberlist_view.specs.Told.{Entries, ViewValue, IsViewOf}
use Rattle.memberlist_view.proofs.Forgetting.{IsViewOf-others}
use Rattle.memberlist_view.proofs.view.View.forget.Goals as goal

-- the entries that the map retains
without : (view : ViewValue) (wait time : ℕ) (entries left : Entries) → view ≡ record { wait = wait; entries = entries }
    → left ≡ filter (λ e. not (is_dropped wait time e.1)) entries → record { wait = wait; entries = left } ≡ view_without_dropped view time
without view wait time entries left is h = ap (λ l. record { wait = wait; entries = l }) h ∙ ap (λ v. view_without_dropped v time) (sym is)

pub returns-clause-forgets : goal.returns-clause-forgets
returns-clause-forgets c =
    without c.args.self.now c.self.inside.wait c.args.time c.self.inside.entries.entries c.retain.new.self.entries (sym c.self.view_is)
    (filter_same_pairs _ (λ e. not (is_dropped c.self.inside.wait c.args.time e.1)) _
    (λ k v b w f' t. (search rules, search rules, search rules)) _ _
    c.retain.ensures.filtered)

pub returns-clause-view : goal.returns-clause-view
returns-clause-view c = λ past v.
    subst (λ w. IsViewOf w (about_others c.args.self.now c.args.time past)) (sym (returns-clause-forgets c))
    (IsViewOf-others c.args.self.now c.args.time past v)
