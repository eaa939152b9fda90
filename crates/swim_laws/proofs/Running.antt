-- What a member shows after any list of things heard is a run of state.go.
use Rattle.std.proofs.Common.{◌≡◌, ◌≢◌, ℕ, Bool, true, false, Option, None, List, [], ◌∷◌, if◌then◌else◌, refl, sym, ap, subst}
use Rattle.std.proofs.Common.{◌∙◌, ◌⊎◌, inl, inr, arith}
use Rattle.std.specs.declared.cmp.Ordering.{Ordering}
use Rattle.std.specs.declared.cmp.Ordering.TheVariants.{Less, Equal, Greater}
use Rattle.std.proofs.lemmas.Map.Lookups.{exact_bytes}
use Rattle.memberlist_view.specs.declared.heard.Heard.{Heard}
use Rattle.memberlist_view.specs.Heard.{about}
use Rattle.memberlist_view.specs.Member.{is_heeded, member_view_after}
use Rattle.memberlist_view.specs.Rules.{name_cmp}
use Rattle.memberlist_view.specs.Told.{ViewValue, entry_of, view_after}
use Rattle.memberlist_view.proofs.Inserting.{itself}
use Rattle.swim_laws.specs.Nodes.{node_at, IsOfMember, Becomes}
use Rattle.swim_laws.specs.Runs.{Runs, Runs as runs, AreInOrder, last_time, view_by_member, member_view}
use Rattle.swim_laws.specs.State.{Node}
use Rattle.swim_laws.proofs.Members.{member_steps, others_stay, member_kept, waits}

same_wait : (view : ViewValue) (heard : Heard) → (member_view_after view heard).wait ≡ view.wait
same_wait view heard = by_bool (is_heeded view heard)
  where
    by_bool : (b : Bool) → (if b then view_after view heard else view).wait ≡ view.wait
    by_bool true = refl
    by_bool false = refl

module _ (wait : ℕ) (name : List ℕ) where
  abbrev pub at : ℕ → ViewValue → Option Node
  at time view = node_at wait time (entry_of view name)

  heard_next : (view : ViewValue) (h : Heard) → view.wait ≡ wait → about h.said ≡ name → IsOfMember (entry_of view name)
      → Becomes wait h.time name h.said (at h.time view) (at h.time (member_view_after view h))
  heard_next view h same of_it ok = subst (λ w. Becomes w h.time name h.said (node_at w h.time (entry_of view name))
      (node_at w h.time (entry_of (member_view_after view h) name))) same (member_steps view h name of_it ok)

  by_name : (o p : List ℕ) → (o ≡ p) ⊎ (o ≢ p)
  by_name o p = by_answer (name_cmp o p) refl
    where
      by_answer : (a : Ordering) → name_cmp o p ≡ a → (o ≡ p) ⊎ (o ≢ p)
      by_answer Equal e = inl (exact_bytes o p e)
      by_answer Less e = inr (λ same. absurd (cc (sym (ap (name_cmp o) (sym same)) ∙ e, itself o)))
      by_answer Greater e = inr (λ same. absurd (cc (sym (ap (name_cmp o) (sym same)) ∙ e, itself o)))

  abbrev pub RunsOn : List Heard → ℕ → ViewValue → Type 0
  RunsOn heard time view =
      Runs wait name time (at time view) heard (last_time time heard) (at (last_time time heard) (view_by_member view heard))

  -- one thing, and then the rest
  run_first : (view : ViewValue) (h : Heard) (heard : List Heard) → view.wait ≡ wait → IsOfMember (entry_of view name)
      → RunsOn heard h.time (member_view_after view h) → RunsOn (h ∷ heard) h.time view
  run_first view h heard same ok rest = elim (by_name (about h.said) name) [ inl is ↦ own is | inr other ↦ apart other ]
    where
      own : about h.said ≡ name → RunsOn (h ∷ heard) h.time view
      own is =
          let b = heard_next view h same is ok in
          runs.hears (last_time h.time heard) (at h.time view) b.0
          (at (last_time h.time heard) (view_by_member (member_view_after view h) heard))
          h heard is b.1
          (runs.waits h.time h.time (last_time h.time heard) b.0 (at h.time (member_view_after view h))
          (at (last_time h.time heard) (view_by_member (member_view_after view h) heard)) heard (omega arith) b.2 rest)

      apart : about h.said ≢ name → RunsOn (h ∷ heard) h.time view
      apart other =
          runs.passes (last_time h.time heard) (at h.time view)
          (at (last_time h.time heard) (view_by_member (member_view_after view h) heard)) h heard other
          (subst (λ o. Runs wait name h.time (node_at wait h.time o) heard (last_time h.time heard)
          (at (last_time h.time heard) (view_by_member (member_view_after view h) heard))) (others_stay view h name other) rest)

  running : (heard : List Heard) (view : ViewValue) (time : ℕ) → view.wait ≡ wait → IsOfMember (entry_of view name)
      → AreInOrder time heard → RunsOn heard time view
  running [] view time same ok order = runs.ends time (at time view)
  running (h ∷ heard) view time same ok order =
      runs.waits time h.time (last_time h.time heard) (at time view) (at h.time view)
      (at (last_time h.time heard) (view_by_member (member_view_after view h) heard)) (h ∷ heard) order.0
      (waits wait time h.time (entry_of view name) order.0)
      (run_first view h heard same ok
      (running heard (member_view_after view h) h.time (same_wait view h ∙ same) (member_kept view h name ok) order.1))

  pub member_runs : (heard : List Heard) → AreInOrder 0 heard
      → Runs wait name 0 None heard (last_time 0 heard) (at (last_time 0 heard) (member_view wait heard))
  member_runs heard order = running heard (record { wait = wait; entries = [] }) 0 refl tt order
