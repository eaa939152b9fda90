-- Open flows, and those that are handed over, are put together from the segments that were captured.
use Rattle.std.proofs.Common.{◌≡◌, ℕ, ◌<◌, ◌==◌, Bool, true, false, if◌then◌else◌, List, [], ◌∷◌, ◌++◌, Option, Some, None}
use Rattle.std.proofs.Common.{IfSome, IfNone, Result, Ok, Err, IfOk, refl, sym, ◌∙◌, ap, arith}
use Rattle.std.proofs.Math.Path.{subst}
use Rattle.std.specs.Cmp.{IsTotalOrder}
use Rattle.std.specs.HashMap.Eq.{lookup_congr}
use Rattle.std.specs.Option.{option_map}
use Rattle.std.specs.Ordering.{is_eq, ordering_reverse}
use Rattle.std.specs.declared.cmp.Ordering.{Ordering}
use Rattle.std.specs.declared.cmp.Ordering.TheVariants.{Less, Equal, Greater}
use Rattle.std.proofs.lemmas.List.{append_assoc, append-nil}
use Rattle.capture.specs.contracts.ends.EndsOrd.TheImpl.Laws.{total-law}
use Rattle.capture.specs.declared.ends.Ends.{Ends}
use Rattle.capture.specs.declared.fate.Fate.{Fate}
use Rattle.capture.specs.declared.flow.Flow.{Flow}
use Rattle.capture.specs.declared.flows.Heard.{Heard}
use Rattle.capture.specs.Captured.{Captured, captured, place_of, AreSome, IsFlowOf, IsPairOf, AreFlowsOf}
use Rattle.capture.specs.Captured.AreSome.{none, passed_over, has}
use Rattle.capture.specs.Flows.{FlowText}
use Rattle.capture.specs.FlowTexts.{OpenText, PairText, flow_text, counts, is_over}
use Rattle.capture.specs.Packets.{TcpText}
use Rattle.capture.specs.OpenFlows.{OpenFlows, ends_cmp, flow_at, begun, alone, first_of, newer_of, settled, IsAfter, GoesOn, Hears}
use Rattle.capture.specs.OpenFlows.GoesOn.{aside, replaces, takes}
use Rattle.capture.specs.OpenFlows.Hears.{passed_over as passes_over, began, went_on}

-- ---- none of the segments

none_after : (ends : Ends) (start : ℕ) (before all : List Captured) → AreSome ends start before []
    → AreSome ends start (before ++ all) []
none_after ends start before [] some = subst (λ l. AreSome ends start l []) (sym (append-nil before)) some
none_after ends start before (c ∷ all) some =
    subst (λ l. AreSome ends start l []) (append_assoc before (c ∷ []) all)
    (none_after ends start (before ++ c ∷ []) all (passed_over before [] c some))

less_nil : (k : ℕ) → k < 0 → ⊥
less_nil k less = search arith

pub begun_of : (all : List Captured) (ends : Ends) (start : ℕ) → IsFlowOf all ends (begun start).flow
begun_of all ends start =
    ([], none_after ends start [] all none, record { front = λ k less. absurd (less_nil k less); behind = λ place _. refl })

-- ---- one more segment

-- with `ends` between the same endpoints as the segment
module _ (all : List Captured) (c : Captured) (ends : Ends) (same : is_eq (ends_cmp ends c.ends) ≡ true) where
  pub later : (flow : FlowText) → IsFlowOf all ends flow → IsFlowOf (all ++ c ∷ []) ends flow
  later flow of = (of.0, passed_over all of.0 c of.1, of.2)

  -- a flow that took it, or left it out
  took : (old new : OpenText) (taken : Fate) → IsFlowOf all ends old.flow
      → IsAfter old (first_of c.segment) c.segment taken new → (b : Bool) → counts taken ≡ b
      → IsFlowOf (all ++ c ∷ []) ends new.flow
  took old new taken of after true is = (
    of.0 ++ place_of old.flow.start c ∷ [],
    subst (λ start. AreSome ends start (all ++ c ∷ []) (of.0 ++ place_of old.flow.start c ∷ [])) (sym after.starts)
        (has all of.0 c same of.1),
    after.said is of.0 of.2,
  )
  took old new taken of after false is =
      subst (λ flow. IsFlowOf (all ++ c ∷ []) ends flow) (sym (after.left_out is)) (later old.flow of)

  takes_one : (old new : OpenText) (taken : Fate) → IsFlowOf all ends old.flow
      → IsAfter old (first_of c.segment) c.segment taken new → IsFlowOf (all ++ c ∷ []) ends new.flow
  takes_one old new taken of after = took old new taken of after (counts taken) refl

  if_later : (newer : Option OpenText) → IfSome newer (λ n. IsFlowOf all ends n.flow)
      → IfSome newer (λ n. IsFlowOf (all ++ c ∷ []) ends n.flow)
  if_later None of = of
  if_later (Some n) of = later n.flow of

  pair_later : (p : PairText) → IsPairOf all ends p → IsPairOf (all ++ c ∷ []) ends p
  pair_later p of = (later p.older.flow of.0, if_later p.newer of.1)

  pub pairs_later : (o : Option PairText) → IfSome o (IsPairOf all ends) → IfSome o (IsPairOf (all ++ c ∷ []) ends)
  pairs_later None of = of
  pairs_later (Some p) of = pair_later p of

  of_begun : (n : OpenText) (first : ℕ) (b : Bool) → IsFlowOf all ends n.flow
      → IsFlowOf all ends (if b then n else begun first).flow
  of_begun n first true of = of
  of_begun n first false of = begun_of all ends first

  of_newer : (newer : Option OpenText) (first : ℕ) → IfSome newer (λ n. IsFlowOf all ends n.flow)
      → IsFlowOf all ends (newer_of newer first).flow
  of_newer None first of = begun_of all ends first
  of_newer (Some n) first of = of_begun n first (n.flow.start == first) of

  -- the flows between its endpoints, and the one that was replaced
  goes_on : (p new : PairText) (taken : Fate) (replaced : Option FlowText) → IsPairOf all ends p
      → GoesOn p (first_of c.segment) c.segment taken replaced new
      → IsPairOf (all ++ c ∷ []) ends new × IfSome replaced (IsFlowOf (all ++ c ∷ []) ends)
  goes_on p new taken replaced of (aside other older after newer is gone) = (
    (
      subst (λ o. IsFlowOf (all ++ c ∷ []) ends o.flow) (sym older) (later p.older.flow of.0),
      subst (λ o. IfSome o (λ n. IsFlowOf (all ++ c ∷ []) ends n.flow)) (sym newer)
          (takes_one (newer_of p.newer (first_of c.segment)) after taken (of_newer p.newer (first_of c.segment) of.1) is),
    ),
    subst (λ r. IfSome r (IsFlowOf (all ++ c ∷ []) ends)) (sym gone) tt,
  )
  goes_on p new taken replaced of (replaces other n newer confirmed is none_newer was) = (
    (
      takes_one n new.older taken (subst (λ o. IfSome o (λ n. IsFlowOf all ends n.flow)) newer of.1) is,
      subst (λ o. IfSome o (λ n. IsFlowOf (all ++ c ∷ []) ends n.flow)) (sym none_newer) tt,
    ),
    subst (λ r. IfSome r (IsFlowOf (all ++ c ∷ []) ends)) (sym was) (later p.older.flow of.0),
  )
  goes_on p new taken replaced of (takes other unconfirmed is newer gone) = (
    (
      takes_one p.older new.older taken of.0 is,
      subst (λ o. IfSome o (λ n. IsFlowOf (all ++ c ∷ []) ends n.flow)) (sym newer) (if_later p.newer of.1),
    ),
    subst (λ r. IfSome r (IsFlowOf (all ++ c ∷ []) ends)) (sym gone) tt,
  )

  alone_of : (newer : Option OpenText) → IfSome newer (λ n. IsFlowOf (all ++ c ∷ []) ends n.flow)
      → IfSome (option_map alone newer) (IsPairOf (all ++ c ∷ []) ends)
  alone_of None of = tt
  alone_of (Some n) of = (of, tt)

  -- what is complete, and what stays
  settles : (p : PairText) (b : Bool) → is_over p.older ≡ b → IsPairOf (all ++ c ∷ []) ends p
      → IfSome (settled p).0 (IsFlowOf (all ++ c ∷ []) ends)
      × IfSome (settled p).1 (IsPairOf (all ++ c ∷ []) ends)
  settles p true is of = rw is (of.0, alone_of p.newer of.1)
  settles p false is of = rw is (tt, of)

  settled_of : (p : PairText) (complete : Option FlowText) (new : Option PairText) → (complete, new) ≡ settled p
      → IsPairOf (all ++ c ∷ []) ends p
      → IfSome new (IsPairOf (all ++ c ∷ []) ends) × IfSome complete (IsFlowOf (all ++ c ∷ []) ends)
  settled_of p complete new is of =
      let two = settles p (is_over p.older) refl of in (
        subst (λ o. IfSome o (IsPairOf (all ++ c ∷ []) ends)) (sym (ap (λ t. t.1) is)) two.1,
        subst (λ o. IfSome o (IsFlowOf (all ++ c ∷ []) ends)) (sym (ap (λ t. t.0) is)) two.0,
      )

  -- what a segment does
  pub hears_of : (old new : Option PairText) (taken : Option Fate) (replaced complete : Option FlowText)
      → IfSome old (IsPairOf all ends) → Hears old c.segment taken replaced complete new
      → IfSome new (IsPairOf (all ++ c ∷ []) ends) × IfSome replaced (IsFlowOf (all ++ c ∷ []) ends)
      × IfSome complete (IsFlowOf (all ++ c ∷ []) ends)
  hears_of old new taken replaced complete of (passes_over a b d unreplaced uncompleted gone) = (
    subst (λ o. IfSome o (IsPairOf (all ++ c ∷ []) ends)) (sym gone) tt,
    subst (λ r. IfSome r (IsFlowOf (all ++ c ∷ []) ends)) (sym unreplaced) tt,
    subst (λ r. IfSome r (IsFlowOf (all ++ c ∷ []) ends)) (sym uncompleted) tt,
  )
  hears_of old new taken replaced complete of (began a b what after is told unreplaced left) =
      let two = settled_of (alone after) complete new left
      (takes_one (begun (first_of c.segment)) after what (begun_of all ends (first_of c.segment)) is, tt) in
      (two.0, subst (λ r. IfSome r (IsFlowOf (all ++ c ∷ []) ends)) (sym unreplaced) tt, two.1)
  hears_of old new taken replaced complete of (went_on p was what after goes told left) =
      let there = subst (λ o. IfSome o (IsPairOf all ends)) was of in
      let both = goes_on p after what replaced there goes in
      let two = settled_of after complete new left both.0 in
      (two.0, both.1, two.1)

-- ---- by the endpoints

ends_total : IsTotalOrder ends_cmp
ends_total = total-law

equal_ends : (o : Ordering) → is_eq o ≡ true → o ≡ Equal
equal_ends Less not_so = absurd (cc (not_so))
equal_ends Equal is = refl
equal_ends Greater not_so = absurd (cc (not_so))

pub ends_sym : (a b : Ends) → is_eq (ends_cmp a b) ≡ true → is_eq (ends_cmp b a) ≡ true
ends_sym a b is = ap is_eq (ends_total.antisymm b a ∙ ap ordering_reverse (equal_ends (ends_cmp a b) is))

pub ends_refl : (a : Ends) → is_eq (ends_cmp a a) ≡ true
ends_refl a = own (ends_cmp a a) (ends_total.antisymm a a)
  where
    own : (o : Ordering) → o ≡ ordering_reverse o → is_eq o ≡ true
    own Less is = absurd (cc (is))
    own Equal is = refl
    own Greater is = absurd (cc (is))

alike : (x y z : Ends) → is_eq (ends_cmp x y) ≡ true → is_eq (ends_cmp x z) ≡ is_eq (ends_cmp y z)
alike x y z is = ap is_eq (ends_total.congr x y z (equal_ends (ends_cmp x y) is))

-- between the same endpoints there is the same flow
pub flow_at_same : (flows : OpenFlows) (a b : Ends) → is_eq (ends_cmp a b) ≡ true → flow_at flows a ≡ flow_at flows b
flow_at_same flows a b is = lookup_congr (λ x y. is_eq (ends_cmp x y)) alike flows a b is

-- all open flows after a segment
module _ (all : List Captured) (c : Captured) (old new : OpenFlows) (taken : Option Fate) (replaced complete : Option FlowText)
    (of : AreFlowsOf all old) (hears : Hears (flow_at old c.ends) c.segment taken replaced complete (flow_at new c.ends))
    (others : (other : Ends) → is_eq (ends_cmp c.ends other) ≡ false → flow_at new other ≡ flow_at old other) where
  at : (ends : Ends) (b : Bool) → is_eq (ends_cmp c.ends ends) ≡ b
      → IfSome (flow_at new ends) (IsPairOf (all ++ c ∷ []) ends)
  at ends false is = rw (others ends is) (stays (flow_at old ends) (of ends))
    where
      one : (newer : Option OpenText) → IfSome newer (λ n. IsFlowOf all ends n.flow)
          → IfSome newer (λ n. IsFlowOf (all ++ c ∷ []) ends n.flow)
      one None of = of
      one (Some n) of = (of.0, passed_over all of.0 c of.1, of.2)

      stays : (o : Option PairText) → IfSome o (IsPairOf all ends) → IfSome o (IsPairOf (all ++ c ∷ []) ends)
      stays None of = of
      stays (Some p) of = ((of.0.0, passed_over all of.0.0 c of.0.1, of.0.2), one p.newer of.1)
  at ends true is =
      let same = ends_sym c.ends ends is in
      let before = subst (λ o. IfSome o (IsPairOf all ends)) (flow_at_same old ends c.ends same) (of ends) in
      let after = (hears_of all c ends same _ _ taken replaced complete before hears).0 in
      subst (λ o. IfSome o (IsPairOf (all ++ c ∷ []) ends)) (sym (flow_at_same new ends c.ends same)) after

  pub flows_of : AreFlowsOf (all ++ c ∷ []) new
  flows_of ends = at ends (is_eq (ends_cmp c.ends ends)) refl

  pub handed_of : IfSome replaced (IsFlowOf (all ++ c ∷ []) c.ends) × IfSome complete (IsFlowOf (all ++ c ∷ []) c.ends)
  handed_of =
      let three = hears_of all c c.ends (ends_refl c.ends) _ _ taken replaced complete (of c.ends) hears in
      (three.1, three.2)

-- ---- flows that are closed

module _ (all : List Captured) (old new : OpenFlows) (ends : Ends) (of : AreFlowsOf all old)
    (others : (other : Ends) → is_eq (ends_cmp ends other) ≡ false → flow_at new other ≡ flow_at old other) where
  alone_stays : (other : Ends) (newer : Option OpenText) → IfSome newer (λ n. IsFlowOf all other n.flow)
      → IfSome (option_map alone newer) (IsPairOf all other)
  alone_stays other None of = tt
  alone_stays other (Some n) of = (of, tt)

  -- the newer flow stays
  module _ (newer : IfSome (flow_at old ends) (λ p. flow_at new ends ≡ option_map alone p.newer))
      (unchanged : (flow_at old ends ≡ None) → new ≡ old) where
    here : (other : Ends) (o n : Option PairText) → IfSome o (IsPairOf all other)
        → IfSome o (λ p. n ≡ option_map alone p.newer) → ((o ≡ None) → n ≡ o) → IfSome n (IsPairOf all other)
    here other None n of is gone = subst (λ x. IfSome x (IsPairOf all other)) (sym (gone refl)) tt
    here other (Some p) n of is gone =
        subst (λ x. IfSome x (IsPairOf all other)) (sym is) (alone_stays other p.newer of.1)

    at_closed : (other : Ends) (b : Bool) → is_eq (ends_cmp ends other) ≡ b → IfSome (flow_at new other) (IsPairOf all other)
    at_closed other false is = rw (others other is) (of other)
    at_closed other true is =
        let same = ends_sym ends other is in
        let before = subst (λ o. IfSome o (IsPairOf all other)) (flow_at_same old other ends same) (of other) in
        subst (λ o. IfSome o (IsPairOf all other)) (sym (flow_at_same new other ends same))
        (here other (flow_at old ends) (flow_at new ends) before newer (λ gone. ap (λ flows. flow_at flows ends) (unchanged gone)))

    pub closed_of : AreFlowsOf all new
    closed_of other = at_closed other (is_eq (ends_cmp ends other)) refl

  older_of : (o : Option PairText) → IfSome o (IsPairOf all ends)
      → IfSome (option_map (λ p. p.older.flow) o) (IsFlowOf all ends)
  older_of None of = tt
  older_of (Some p) of = of.0

  pub out_of : (closed : Option FlowText) → closed ≡ option_map (λ p. p.older.flow) (flow_at old ends)
      → IfSome closed (IsFlowOf all ends)
  out_of closed is = subst (λ x. IfSome x (IsFlowOf all ends)) (sym is) (older_of (flow_at old ends) (of ends))

  -- both are taken out
  module _ (gone : flow_at new ends ≡ None) where
    at_gone : (other : Ends) (b : Bool) → is_eq (ends_cmp ends other) ≡ b → IfSome (flow_at new other) (IsPairOf all other)
    at_gone other false is = rw (others other is) (of other)
    at_gone other true is =
        subst (λ o. IfSome o (IsPairOf all other)) (sym (flow_at_same new other ends (ends_sym ends other is) ∙ gone)) tt

    pub gone_of : AreFlowsOf all new
    gone_of other = at_gone other (is_eq (ends_cmp ends other)) refl

-- ---- what calls return

pub takes_of : {E : Type 0} (all : List Captured) (old new : OpenFlows) (ends : Ends) (s : TcpText) (r : Result Heard E)
    → AreFlowsOf all old
    → IfOk r (λ heard. Hears (flow_at old ends) s heard.taken (option_map flow_text heard.replaced)
    (option_map flow_text heard.complete) (flow_at new ends))
    → ((other : Ends) → is_eq (ends_cmp ends other) ≡ false → flow_at new other ≡ flow_at old other)
    → IfOk r (λ heard. AreFlowsOf (all ++ captured ends s ∷ []) new
    × IfSome (option_map flow_text heard.replaced) (IsFlowOf (all ++ captured ends s ∷ []) ends)
    × IfSome (option_map flow_text heard.complete) (IsFlowOf (all ++ captured ends s ∷ []) ends))
takes_of all old new ends s (Ok heard) of hears others =
    let handed = handed_of all (captured ends s) old new heard.taken _ _ of hears others in
    (flows_of all (captured ends s) old new heard.taken _ _ of hears others, handed.0, handed.1)
takes_of all old new ends s (Err e) of hears others = tt

no_flows : (all : List Captured) (flows : OpenFlows) → flows ≡ [] → AreFlowsOf all flows
no_flows all flows is ends = subst (λ l. IfSome (flow_at l ends) (IsPairOf all ends)) (sym is) tt

first_at : (ends : Ends) (p : PairText) (others : OpenFlows) → flow_at ((ends, p) ∷ others) ends ≡ Some p
first_at ends p others = rw (ends_refl ends) refl

if_flow : (all : List Captured) (ends : Ends) (newer : Option OpenText) → IfSome newer (λ n. IsFlowOf all ends n.flow)
    → IfSome (option_map (λ n. n.flow) newer) (IsFlowOf all ends)
if_flow all ends None of = tt
if_flow all ends (Some n) of = of

pub finishes_of : (all : List Captured) (old new : OpenFlows) (r : Option (Ends × Flow × Option Flow)) → AreFlowsOf all old
    → IfNone r (new ≡ [])
    → IfSome r (λ t. (p : PairText) × (old ≡ (t.0, p) ∷ new) × (flow_text t.1 ≡ p.older.flow)
    × (option_map flow_text t.2 ≡ option_map (λ n. n.flow) p.newer))
    → IfSome r (λ t. flow_at new t.0 ≡ None)
    → IfSome r (λ t. (ends : Ends) → is_eq (ends_cmp t.0 ends) ≡ false → flow_at new ends ≡ flow_at old ends)
    → AreFlowsOf all new × IfSome r (λ t. IsFlowOf all t.0 (flow_text t.1)
    × IfSome (option_map flow_text t.2) (IsFlowOf all t.0))
finishes_of all old new None of empty out gone others = (no_flows all new empty, tt)
finishes_of all old new (Some t) of empty out gone others =
    let there : flow_at old t.0 ≡ Some out.0 = ap (λ l. flow_at l t.0) out.1 ∙ first_at t.0 out.0 new in
    let pair = subst (λ o. IfSome o (IsPairOf all t.0)) there (of t.0) in (
      gone_of all old new t.0 of others gone,
      (
        subst (IsFlowOf all t.0) (sym out.2) pair.0,
        subst (λ o. IfSome o (IsFlowOf all t.0)) (sym out.3) (if_flow all t.0 out.0.newer pair.1),
      ),
    )
