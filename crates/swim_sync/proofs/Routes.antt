-- Each claim that a node has heard came to it by a path, and what has a path to a node is heard
-- there.
use Rattle.std.proofs.Common.{◌≡◌, ◌⊎◌, ℕ, zero, suc, ◌≤◌, Some, List, [], ◌∷◌, length, Contains, refl, sym, subst, inl, inr, arith}
use Rattle.swim_claim.specs.declared.claim.Claim.{Claim}
use Rattle.swim_sync.specs.declared.event.Event.{Event}
use Rattle.swim_sync.specs.Heard.{Member, heard_by, after, heard}
use Rattle.swim_sync.specs.Paths.{Leads, Path, there, by, Brings, Entered, Reaches}
use Rattle.swim_sync.proofs.Runs.{length-after, arrives, stays, led, brought}

-- ---- paths past the first event

-- a path among the later events
later : (nodes : ℕ) (event : Event) (events : List Event) {p m k : ℕ} → Path nodes events p m k → Path nodes (event ∷ events) (suc p) m k
later nodes event events there = there
later nodes event events (by place x e above at leads path) = by (suc place) x e
    (omega (arith, above)) at leads (later nodes event events path)

sooner : (nodes : ℕ) (events : List Event) {p q m k : ℕ} → q ≤ p → Path nodes events p m k → Path nodes events q m k
sooner nodes events le there = there
sooner nodes events le (by place x e above at leads path) = by place x e (omega (arith, le, above)) at leads path

-- a path that starts after the first event
past : (nodes : ℕ) (event : Event) (events : List Event) {p m k : ℕ} → Path nodes (event ∷ events) p m k
    → (q : ℕ) → p ≡ suc q → Path nodes events q m k
past nodes event events there q is = there
past nodes event events (by zero x e above at leads path) q is = absurd (omega (arith, above, is))
past nodes event events (by (suc place) x e above at leads path) q is =
    by place x e (omega (arith, above, is)) at leads (past nodes event events path (suc place) refl)

-- a path of all events uses the first one or does not
first : (nodes : ℕ) (event : Event) (events : List Event) {p m k : ℕ} → Path nodes (event ∷ events) p m k
    → Path nodes events zero m k ⊎ ((x : ℕ) × Leads nodes event m x × Path nodes events zero x k)
first nodes event events there = inl there
first nodes event events {m = m} (by zero x e above at leads path) =
    let same : event ≡ e = cc (at) in
    inr (x, subst (λ f. Leads nodes f m x) (sym same) leads, past nodes event events path zero refl)
first nodes event events (by (suc place) x e above at leads path) = inl
    (by place x e (omega arith) at leads (past nodes event events path (suc place) refl))

-- ---- the first event of a run

module _ (members : List Member) (c : Claim) (k : ℕ) where
  entered_before : (start : List (List Claim)) (event : Event) (events : List Event) (m p : ℕ) → Entered members
      (after members start event) events c m p → Path (length start) events p m k → Reaches members start (event ∷ events) c k
  entered_before start event events m zero entered path = elim (arrives members start c event m entered) [
    | inl old ↦ (m, zero, old, sooner (length start) (event ∷ events) (omega arith) (later (length start) event events path))
    | inr new ↦
        elim new [
          | inl from ↦ (from.0, zero, from.2, by zero m event (omega arith) refl from.1 (later (length start) event events path))
          | inr brings ↦ (m, suc zero, (event, refl, brings), later (length start) event events path)
        ]
  ]
  entered_before start event events m (suc place) entered path = (m, suc (suc place), entered, later (length start) event events path)

  entered_after : (start : List (List Claim)) (event : Event) (events : List Event) (m p : ℕ) → Entered members start
      (event ∷ events) c m p → Path (length start) (event ∷ events) p m k → (m' : ℕ) × (p' : ℕ) × Entered members
      (after members start event) events c m' p' × Path (length start) events p' m' k
  entered_after start event events m zero entered path = elim (first (length start) event events path) [
    | inl rest ↦ (m, zero, stays members start c event m entered, rest)
    | inr hop ↦ (hop.0, zero, led members start c event m hop.0 hop.1 entered, hop.2)
  ]
  entered_after start event events m (suc zero) entered path =
      let at : Some event ≡ Some entered.0 = entered.1 in
      let same : event ≡ entered.0 = cc (at) in (
        m,
        zero,
        brought members start c event m
            (subst (λ e. Brings members start e c m) (sym same) entered.2),
        past (length start) event events path zero refl,
      )
  entered_after start event events m
      (suc (suc place)) entered path = (
        m,
        suc place,
        entered,
        past (length start) event events path (suc place) refl,
      )

  -- ---- whole runs

  pub came : (start : List (List Claim)) (events : List Event)
      → Contains (heard_by (heard members start events) k) c → Reaches members start events c k
  came start [] made = (k, zero, made, there)
  came start (event ∷ events) made =
      let next : Reaches members (after members start event) events c k = came (after members start event) events made in
      entered_before start event events next.0 next.1 next.2
      (subst (λ n. Path n events next.1 next.0 k) (length-after members start event) next.3)

  pub reached : (start : List (List Claim)) (events : List Event) → Reaches members start events c k
      → Contains (heard_by (heard members start events) k) c
  reached start [] way = at_once way.0 way.1 way.2 way.3
    where
      at_once : (m p : ℕ) → Entered members start [] c m p → Path (length start) [] p m k → Contains (heard_by start k) c
      at_once m zero entered path = at_rest path entered
        where
          at_rest : {p m j : ℕ} → Path (length start) [] p m j → Contains (heard_by start m) c → Contains (heard_by start j) c
          at_rest there made = made
          at_rest (by place x e above at leads path) made = absurd (cc (at))
      at_once m (suc place) entered path = absurd (let at = entered.1 in cc (at))
  reached start (event ∷ events) way =
      let next = entered_after start event events way.0 way.1 way.2 way.3 in
      reached (after members start event) events
      (next.0, next.1, next.2, subst (λ n. Path n events next.1 next.0 k) (sym (length-after members start event)) next.3)
