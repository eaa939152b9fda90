-- Connections that move on, and what is kept of them.
use Rattle.std.proofs.Common.{◌≡◌, ℕ, Bool, List, [], ◌∷◌, ◌++◌, ◌⊎◌, inl, inr, Contains, Option, Some, None, IfSome, true, false, if◌then◌else◌, refl, sym, ap, arith, ◌∙◌}
use Rattle.std.proofs.Math.Path.{subst}
use Rattle.std.proofs.lemmas.List.Elements.{Contains-append_left, Contains-append_right}
use Rattle.std.specs.Prelude.{◌==◌, length}
use Rattle.std.specs.Option.{is_none, option_map}
use Rattle.std.specs.Ordering.{is_eq}
use Rattle.capture.specs.declared.ends.Ends.{Ends}
use Rattle.capture.specs.declared.fate.Fate.{Fate}
use Rattle.capture.specs.Captured.{Captured, IsFlowOf, IsPairOf, AreFlowsOf}
use Rattle.capture.specs.Captured.AreSome.{passed_over}
use Rattle.capture.specs.Flows.{FlowText}
use Rattle.capture.specs.FlowTexts.{OpenText, PairText, is_over}
use Rattle.capture.specs.OpenFlows.{OpenFlows, Hears, GoesOn, alone, ends_cmp, first_of, flow_at, settled}
use Rattle.capture.specs.Packets.{TcpText}
use Rattle.capture.proofs.SameEnds.{ends_same}
use Rattle.memberlist_transport.specs.declared.in_the_clear.InTheClear.{InTheClear}
use Rattle.memberlist_view.specs.Told.{ViewValue}
use Rattle.swimwatch.specs.declared.listening.progress.Progress.{Progress}
use Rattle.swimwatch.specs.Connected.{AllProgress, AreOthers, AreRead, AreReadBut, Direction, HearsAny, HearsFlow, IsRead, IsReadBy}
use Rattle.swimwatch.specs.Connected.{MovesOn, MovesOn as moves, Past, direction, past_of, progress_at}
use Rattle.swimwatch.specs.Views.{HearsStream}
use Rattle.swimwatch.specs.Ways.{PacketText}

module _ (clear : InTheClear) (keys : List (List ℕ)) where
  -- one move after the other
  pub chained : (a b c : Past) → MovesOn clear keys a b → MovesOn clear keys b c → MovesOn clear keys a c
  chained a b _ first moves.nothing = first
  chained a b _ first (moves.closes p ends pair flows mid view before is gone others older newer) =
      moves.closes p ends pair flows mid view (chained a b p first before) is gone others older newer
  chained a b _ first (moves.reads p ends pair time view before is of hears) =
      moves.reads p ends pair time view (chained a b p first before) is of hears

-- either the same endpoints, or others
pub of_ends : (P : Ends → Type 0) (a b : Ends) → (is_eq (ends_cmp a b) ≡ false → P b) → P a → P b
of_ends P a b other same = cases (is_eq (ends_cmp a b)) refl where
  cases : (e : Bool) → is_eq (ends_cmp a b) ≡ e → P b
  cases true is = subst P ((ends_same a b).0 is) same
  cases false is = other is

-- ---- which flows were read

module _ (read : List Direction) where
  pub of_false : (flows : OpenFlows) (ends : Ends) (p : Progress) → p.is_read ≡ false → IsRead read flows ends p
  of_false flows ends p idle_so is = absurd (cc (idle_so, is))

  -- the progress of a direction, which may be one of which nothing was kept
  pub of_kept : (flows : OpenFlows) (all : AllProgress) (ends : Ends) (p : Progress) → AreRead read flows all
      → IfSome (progress_at all ends) (λ q. p ≡ q) → (progress_at all ends ≡ None → p.is_read ≡ false) → IsRead read flows ends p
  of_kept flows all ends p are some none =
      cases (progress_at all ends) refl (are ends) some where
        cases : (o : Option Progress) → progress_at all ends ≡ o → IfSome o (IsRead read flows ends) → IfSome o (λ q. p ≡ q)
            → IsRead read flows ends p
        cases None at has same = of_false flows ends p (none at)
        cases (Some q) at has same = subst (IsRead read flows ends) (sym same) has

  -- one more is kept
  pub one_kept : (flows : OpenFlows) (old new : AllProgress) (ends : Ends) (p : Progress) → progress_at new ends ≡ Some p
      → ((other : Ends) → is_eq (ends_cmp ends other) ≡ false → progress_at new other ≡ progress_at old other)
      → AreReadBut ends read flows old → IsRead read flows ends p → AreRead read flows new
  one_kept flows old new ends p there others but is other =
      of_ends (λ e. IfSome (progress_at new e) (IsRead read flows e)) ends other
      (λ e. subst (λ o. IfSome o (IsRead read flows other)) (sym (others other e)) (but other e))
      (subst (λ o. IfSome o (IsRead read flows ends)) (sym there) is)

  -- none is kept
  pub none_kept : (flows : OpenFlows) (old new : AllProgress) (ends : Ends) → progress_at new ends ≡ None
      → ((other : Ends) → is_eq (ends_cmp ends other) ≡ false → progress_at new other ≡ progress_at old other)
      → AreReadBut ends read flows old → AreRead read flows new
  none_kept flows old new ends gone others but other =
      of_ends (λ e. IfSome (progress_at new e) (IsRead read flows e)) ends other
      (λ e. subst (λ o. IfSome o (IsRead read flows other)) (sym (others other e)) (but other e))
      (subst (λ o. IfSome o (IsRead read flows ends)) (sym gone) tt)

  -- the flows between other endpoints stay
  pub others_read : (before flows : OpenFlows) (all : AllProgress) (ends : Ends) → AreOthers ends before flows
      → AreReadBut ends read before all → AreReadBut ends read flows all
  others_read before flows all ends others but other e =
      each (progress_at all other) (but other e) where
        each : (o : Option Progress) → IfSome o (IsRead read before other) → IfSome o (IsRead read flows other)
        each None has = tt
        each (Some p) has = λ is. let h = has is in (h.0, others other e ∙ h.1, h.2)

  -- a flow that is over
  pub of_over : (segments : List Captured) (flows : OpenFlows) (ends : Ends) (a : Option FlowText) (p : Progress)
      → IfSome a (IsFlowOf segments ends) → a ≡ option_map (λ pair. pair.older.flow) (flow_at flows ends)
      → IsRead read flows ends p
      → IfSome a (λ f. IsFlowOf segments ends f × (p.is_read ≡ true → Contains read (direction ends f.start)))
  of_over segments flows ends None p of same is = tt
  of_over segments flows ends (Some f) p of same is = (
    of,
    λ e. let h = is e in
        let one : Some f ≡ Some h.0.older.flow = same ∙ ap (option_map (λ pair. pair.older.flow)) h.1 in
        let start : h.0.older.flow.start ≡ f.start = cc in
        subst (λ n. Contains read (direction ends n)) start h.2,
  )

  pub of_both : (segments : List Captured) (flows : OpenFlows) (ends : Ends) (a : Option FlowText) (p : Progress)
      → IsReadBy read flows ends a p → IfSome a (IsFlowOf segments ends)
      → IfSome a (λ f. IsFlowOf segments ends f × (p.is_read ≡ true → Contains read (direction ends f.start)))
  of_both segments flows ends None p is of = tt
  of_both segments flows ends (Some f) p is of = (of, is)

  pub zipped : (P Q : FlowText → Type 0) (a : Option FlowText) → IfSome a P → IfSome a Q → IfSome a (λ f. P f × Q f)
  zipped P Q None p q = tt
  zipped P Q (Some f) p q = (p, q)

  pub of_same : (flows : OpenFlows) (ends : Ends) (a : Option FlowText) (p q : Progress) → q.is_read ≡ p.is_read
      → IsReadBy read flows ends a p → IsReadBy read flows ends a q
  of_same flows ends None p q same is = λ e. is (sym same ∙ e)
  of_same flows ends (Some f) p q same is = λ e. is (sym same ∙ e)

  -- the one after it
  pub of_next : (segments : List Captured) (ends : Ends) (a b : Option FlowText) (left p : Progress)
      → IfSome b (IsFlowOf segments ends) → IfSome a (λ f. left.is_read ≡ false) → (a ≡ None → b ≡ None)
      → IfSome b (λ f. IsFlowOf segments ends f × (left.is_read ≡ true → Contains read (direction ends f.start)))
  of_next segments ends a None left p of newer none = tt
  of_next segments ends None (Some f) left p of newer none = absurd (cc (none refl))
  of_next segments ends (Some x) (Some f) left p of newer none =
      (of, λ e. absurd (cc (newer, e)))

  -- ---- a segment is put in its flow

  abbrev outcome : Option FlowText → Option PairText → Option FlowText × Option PairText
  outcome complete left = (complete, left)

  settles : (p : PairText) (complete : Option FlowText) (new : Option PairText) → outcome complete new ≡ settled p
      → (complete ≡ Some p.older.flow) ⊎ ((complete ≡ None) × (new ≡ Some p))
  settles p complete new is = cases (is_over p.older) refl where
    cases : (b : Bool) → is_over p.older ≡ b → (complete ≡ Some p.older.flow) ⊎ ((complete ≡ None) × (new ≡ Some p))
    cases true e =
        let over = subst (λ b. outcome complete new ≡ if b then (Some p.older.flow, option_map alone p.newer) else (None, Some p)) e is in
        inl (ap (λ q. q.0) over)
    cases false e =
        let stays = subst (λ b. outcome complete new ≡ if b then (Some p.older.flow, option_map alone p.newer) else (None, Some p)) e is in
        inr (ap (λ q. q.0) stays, ap (λ q. q.1) stays)

  by_settled : (flows : OpenFlows) (ends : Ends) (left : Progress) (p : PairText) (complete : Option FlowText)
      → outcome complete (flow_at flows ends) ≡ settled p → (left.is_read ≡ true → Contains read (direction ends p.older.flow.start))
      → IsReadBy read flows ends complete left
  by_settled flows ends left p complete is has = cases (settles p complete (flow_at flows ends) is) where
    cases : (complete ≡ Some p.older.flow) ⊎ ((complete ≡ None) × (flow_at flows ends ≡ Some p)) → IsReadBy read flows ends complete left
    cases (inl over) = subst (λ o. IsReadBy read flows ends o left) (sym over) has
    cases (inr (none, there)) = subst (λ o. IsReadBy read flows ends o left) (sym none) (λ e. (p, there, has e))

  same_pair : (before : OpenFlows) (ends : Ends) (p : PairText) (progress : Progress) → flow_at before ends ≡ Some p
      → IsRead read before ends progress → progress.is_read ≡ true → Contains read (direction ends p.older.flow.start)
  same_pair before ends p progress there is e =
      let h = is e in
      let one : Some h.0 ≡ Some p = sym h.1 ∙ there in
      let start : h.0.older.flow.start ≡ p.older.flow.start = cc in
      subst (λ n. Contains read (direction ends n)) start h.2

  pub replaced_read : (before : OpenFlows) (ends : Ends) (t : TcpText) (taken : Option Fate) (replaced complete : Option FlowText)
      (new : Option PairText) (progress : Progress) → Hears (flow_at before ends) t taken replaced complete new
      → IsRead read before ends progress
      → IfSome replaced (λ f. progress.is_read ≡ true → Contains read (direction ends f.start))
  replaced_read before ends t taken replaced complete new progress (Hears.passed_over none idle_so was r c left) is =
      subst (λ o. IfSome o (λ f. progress.is_read ≡ true → Contains read (direction ends f.start))) (sym r) tt
  replaced_read before ends t taken replaced complete new progress (Hears.began none begins_it what after is_after was r c) is =
      subst (λ o. IfSome o (λ f. progress.is_read ≡ true → Contains read (direction ends f.start))) (sym r) tt
  replaced_read before ends t taken replaced complete new progress (Hears.went_on p there what after goes was c) is = of_goes goes where
    of_goes : GoesOn p (first_of t) t what replaced after
        → IfSome replaced (λ f. progress.is_read ≡ true → Contains read (direction ends f.start))
    of_goes (GoesOn.aside other same n newer was_after r) = subst (λ o. IfSome o (λ f. progress.is_read ≡ true → Contains read (direction ends f.start))) (sym r) tt
    of_goes (GoesOn.replaces other n newer confirmed was_after none r) =
        subst (λ o. IfSome o (λ f. progress.is_read ≡ true → Contains read (direction ends f.start))) (sym r)
        (same_pair before ends p progress there is)
    of_goes (GoesOn.takes other none was_after newer r) = subst (λ o. IfSome o (λ f. progress.is_read ≡ true → Contains read (direction ends f.start))) (sym r) tt

  pub still_read : (before flows : OpenFlows) (ends : Ends) (t : TcpText) (taken : Option Fate)
      (replaced complete : Option FlowText) (progress left : Progress)
      → Hears (flow_at before ends) t taken replaced complete (flow_at flows ends)
      → IsRead read before ends progress → (replaced ≡ None → left.is_read ≡ progress.is_read)
      → IfSome replaced (λ f. left.is_read ≡ false) → IsReadBy read flows ends complete left
  still_read before flows ends t taken replaced complete progress left (Hears.passed_over none idle_so was r c gone) is same newer =
      subst (λ o. IsReadBy read flows ends o left) (sym c)
      (λ e. let h = is (sym (same r) ∙ e) in absurd (cc (none, h.1)))
  still_read before flows ends t taken replaced complete progress left (Hears.began none begins_it what after is_after was r c) is same newer =
      by_settled flows ends left (alone after) complete c
      (λ e. let h = is (sym (same r) ∙ e) in absurd (cc (none, h.1)))
  still_read before flows ends t taken replaced complete progress left (Hears.went_on p there what after goes was c) is same newer =
      by_settled flows ends left after complete c (of_goes goes) where
        of_goes : GoesOn p (first_of t) t what replaced after → left.is_read ≡ true
            → Contains read (direction ends after.older.flow.start)
        of_goes (GoesOn.aside other kept n after_n was_after r) e =
            subst (λ n. Contains read (direction ends n)) (sym (ap (λ o. o.flow.start) kept))
            (same_pair before ends p progress there is (sym (same r) ∙ e))
        of_goes (GoesOn.replaces other n newer_n confirmed was_after none r) e =
            absurd (cc (subst (λ o. IfSome o (λ f. left.is_read ≡ false)) r newer, e))
        of_goes (GoesOn.takes other none was_after newer_n r) e =
            subst (λ n. Contains read (direction ends n)) (sym was_after.starts)
            (same_pair before ends p progress there is (sym (same r) ∙ e))

  -- a segment that is none of a flow
  pub idle : (before flows : OpenFlows) (ends : Ends) (t : TcpText) (replaced complete : Option FlowText) (all : AllProgress)
      → Hears (flow_at before ends) t None replaced complete (flow_at flows ends) → AreOthers ends before flows
      → AreRead read before all → (replaced ≡ None) × (complete ≡ None) × AreRead read flows all
  idle before flows ends t replaced complete all (Hears.passed_over none idle_so was r c gone) others are = (
    r,
    c,
    λ other. of_ends (λ e. IfSome (progress_at all e) (IsRead read flows e)) ends other
        (others_read before flows all ends others (λ o e. are o) other) (at (progress_at all ends) (are ends)),
  ) where
    at : (o : Option Progress) → IfSome o (IsRead read before ends) → IfSome o (IsRead read flows ends)
    at None has = tt
    at (Some p) has = λ is. let h = has is in absurd (cc (none, h.1))
  idle before flows ends t replaced complete all (Hears.began none begins_it what after is_after was r c) others are =
      absurd (cc (was))
  idle before flows ends t replaced complete all (Hears.went_on p there what after goes was c) others are =
      absurd (cc (was))

-- more directions were read
pub wider_but : (read more : List Direction) (flows : OpenFlows) (all : AllProgress) (ends : Ends)
    → ((d : Direction) → Contains read d → Contains more d) → AreReadBut ends read flows all → AreReadBut ends more flows all
wider_but read more flows all ends wider but other e = each (progress_at all other) (but other e) where
  each : (o : Option Progress) → IfSome o (IsRead read flows other) → IfSome o (IsRead more flows other)
  each None has = tt
  each (Some p) has = λ is. let h = has is in (h.0, h.1, wider (direction other h.0.older.flow.start) h.2)

-- ---- connections that are closed

module _ (clear : InTheClear) (keys : List (List ℕ)) (segments : List Captured) (packets : List PacketText)
    (read : List Direction) (ends : Ends) where
  abbrev Any : Option FlowText → ViewValue → ViewValue → Type 0
  Any = HearsAny clear keys segments read ends

  abbrev Moves : OpenFlows → ViewValue → OpenFlows → ViewValue → Type 0
  Moves f v g w = MovesOn clear keys (past_of segments packets read f v) (past_of segments packets read g w)

  stays : (f g : OpenFlows) (v w : ViewValue) → g ≡ f → w ≡ v → Moves f v g w
  stays f g v w same still =
      subst (λ x. Moves f v x w) (sym same) (subst (λ x. Moves f v f x) (sym still) moves.nothing)

  -- both flows between the endpoints, one after the other
  pub closed : (f0 f1 f2 : OpenFlows) (a b : Option FlowText) (old mid new : ViewValue)
      → a ≡ option_map (λ p. p.older.flow) (flow_at f0 ends)
      → IfSome (flow_at f0 ends) (λ p. flow_at f1 ends ≡ option_map alone p.newer)
      → (flow_at f0 ends ≡ None → f1 ≡ f0) → AreOthers ends f0 f1
      → b ≡ option_map (λ p. p.older.flow) (flow_at f1 ends)
      → IfSome (flow_at f1 ends) (λ p. flow_at f2 ends ≡ option_map alone p.newer)
      → (flow_at f1 ends ≡ None → f2 ≡ f1) → AreOthers ends f1 f2
      → Any a old mid → Any b mid new → Moves f0 old f2 new
  closed f0 f1 f2 a b old mid new a_is a_left a_none a_others b_is b_left b_none b_others hears_a hears_b =
      cases (flow_at f0 ends) refl a_left where
        others : AreOthers ends f0 f2
        others other e = b_others other e ∙ a_others other e

        none_left : flow_at f1 ends ≡ None → (b ≡ None) × (f2 ≡ f1) × (new ≡ mid)
        none_left none =
            let b_none_is : b ≡ None = b_is ∙ ap (option_map (λ p. p.older.flow)) none in
            (b_none_is, b_none none, subst (λ o. Any o mid new) b_none_is hears_b)

        of_newer : (p : PairText) (n : Option OpenText) → p.newer ≡ n → flow_at f0 ends ≡ Some p → flow_at f1 ends ≡ option_map alone n
            → Moves f0 old f2 new
        of_newer p None is there left =
            let no_more = none_left left in
            let a_some : a ≡ Some p.older.flow = a_is ∙ ap (option_map (λ q. q.older.flow)) there in
            let gone : flow_at f2 ends ≡ None = ap (λ f. flow_at f ends) no_more.1 ∙ left in
            let newer : option_map (λ n. n.flow) p.newer ≡ None = ap (option_map (λ n. n.flow)) is in
            moves.closes _ ends p f2 mid new moves.nothing there gone others (subst (λ o. Any o old mid) a_some hears_a)
            (subst (λ o. Any o mid new) (sym newer) no_more.2)
        of_newer p (Some n) is there left =
            let a_some : a ≡ Some p.older.flow = a_is ∙ ap (option_map (λ q. q.older.flow)) there in
            let b_some : b ≡ Some n.flow = b_is ∙ ap (option_map (λ q. q.older.flow)) left in
            let gone : flow_at f2 ends ≡ None = subst (λ o. IfSome o (λ q. flow_at f2 ends ≡ option_map alone q.newer)) left b_left in
            let newer : option_map (λ n. n.flow) p.newer ≡ Some n.flow = ap (option_map (λ n. n.flow)) is in
            moves.closes _ ends p f2 mid new moves.nothing there gone others (subst (λ o. Any o old mid) a_some hears_a)
            (subst (λ o. Any o mid new) (b_some ∙ sym newer) hears_b)

        cases : (o : Option PairText) → flow_at f0 ends ≡ o → IfSome o (λ p. flow_at f1 ends ≡ option_map alone p.newer)
            → Moves f0 old f2 new
        cases None none left =
            let same = a_none none in
            let no_more = none_left (ap (λ f. flow_at f ends) same ∙ none) in
            let a_none_is : a ≡ None = a_is ∙ ap (option_map (λ p. p.older.flow)) none in
            stays f0 f2 old new (no_more.1 ∙ same) (no_more.2 ∙ subst (λ o. Any o old mid) a_none_is hears_a)
        cases (Some p) there left = of_newer p p.newer refl there left

  -- of no older flow there is no newer one
  pub none_next : (f0 f1 : OpenFlows) (a b : Option FlowText) → a ≡ option_map (λ p. p.older.flow) (flow_at f0 ends)
      → (flow_at f0 ends ≡ None → f1 ≡ f0) → b ≡ option_map (λ p. p.older.flow) (flow_at f1 ends) → a ≡ None → b ≡ None
  none_next f0 f1 a b a_is a_none b_is none = cases (flow_at f0 ends) refl where
    cases : (o : Option PairText) → flow_at f0 ends ≡ o → b ≡ None
    cases None is = b_is ∙ ap (λ f. option_map (λ p. p.older.flow) (flow_at f ends)) (a_none is)
        ∙ ap (option_map (λ p. p.older.flow)) is
    cases (Some p) is =
        let some : a ≡ Some p.older.flow = a_is ∙ ap (option_map (λ q. q.older.flow)) is in
        absurd (cc (none, some))

  pub at_first : (f0 f1 : OpenFlows) (p : PairText) → f0 ≡ (ends, p) ∷ f1 → flow_at f0 ends ≡ Some p
  at_first f0 f1 p is =
      let itself : is_eq (ends_cmp ends ends) ≡ true = (ends_same ends ends).1 refl in
      ap (λ f. flow_at f ends) is ∙ ap (λ b. if b then Some p else flow_at f1 ends) itself

  -- the first of all
  pub first_closed : (f0 f1 : OpenFlows) (p : PairText) (older : FlowText) (newer : Option FlowText) (old mid new : ViewValue)
      → f0 ≡ (ends, p) ∷ f1 → older ≡ p.older.flow → newer ≡ option_map (λ n. n.flow) p.newer → flow_at f1 ends ≡ None
      → AreOthers ends f0 f1 → Any (Some older) old mid → Any newer mid new → Moves f0 old f1 new
  first_closed f0 f1 p older newer old mid new is older_is newer_is gone others hears_a hears_b =
      let there = at_first f0 f1 p is in
      moves.closes _ ends p f1 mid new moves.nothing there gone others
      (subst (λ f. HearsFlow clear keys segments read ends f old mid) older_is hears_a)
      (subst (λ o. Any o mid new) newer_is hears_b)

  -- a stream of an open flow, or none
  pub tried : (flows : OpenFlows) (flow : FlowText) (bytes : List ℕ) (time : ℕ) (whole : Bool) (old new : ViewValue)
      → bytes ≡ flow.text → Some flow ≡ option_map (λ p. p.older.flow) (flow_at flows ends) → AreFlowsOf segments flows
      → HearsStream clear keys bytes time whole old new → (more : List Direction)
      × MovesOn clear keys (past_of segments packets read flows old) (past_of segments packets more flows new)
      × (whole ≡ true → (pair : PairText) × (flow_at flows ends ≡ Some pair) × Contains more (direction ends pair.older.flow.start))
      × ((d : Direction) → Contains read d → Contains more d)
  tried flows flow bytes time true old new text is of hears = cases (flow_at flows ends) refl is (of ends) where
    cases : (o : Option PairText) → flow_at flows ends ≡ o → Some flow ≡ option_map (λ p. p.older.flow) o
        → IfSome o (IsPairOf segments ends) → (more : List Direction)
        × MovesOn clear keys (past_of segments packets read flows old) (past_of segments packets more flows new)
        × (true ≡ true → (pair : PairText) × (flow_at flows ends ≡ Some pair)
        × Contains more (direction ends pair.older.flow.start)) × ((d : Direction) → Contains read d → Contains more d)
    cases None there same pair_of = absurd (cc (same))
    cases (Some pair) there same pair_of =
        let d = direction ends pair.older.flow.start in
        let one : flow ≡ pair.older.flow = cc in
        let bytes_is : bytes ≡ pair.older.flow.text = text ∙ ap (λ f. f.text) one in (
          read ++ d ∷ [],
          moves.reads (past_of segments packets read flows old) ends pair time new moves.nothing there pair_of.0
              (subst (λ b. HearsStream clear keys b time true old new) bytes_is hears),
          λ e. (pair, there, Contains-append_right read (d ∷ []) d (0, omega arith, refl)),
          λ x has. Contains-append_left read (d ∷ []) x has,
        )
  tried flows flow bytes time false old new text is of (none, same) = (
    read,
    subst (λ v. MovesOn clear keys (past_of segments packets read flows old) (past_of segments packets read flows v)) (sym same)
        moves.nothing,
    λ e. absurd cc,
    λ d has. has,
  )

pub empty_of : (bytes text : List ℕ) → bytes ≡ text → length bytes ≡ 0 → text ≡ []
empty_of [] text same e = sym same
empty_of (b ∷ bytes) text same e = absurd (omega arith)

pub some_left : {T U P : Type 0} (f : T → U) (a : Option T) → is_none a ≡ false → IfSome (option_map f a) (λ x. P) → P
some_left f None none left = absurd (cc (none))
some_left f (Some x) some left = left
