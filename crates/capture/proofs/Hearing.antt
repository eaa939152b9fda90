-- What a segment does to the flows between its endpoints, by whether one is open.
use Rattle.std.proofs.Common.{◌≡◌, ℕ, true, false, Option, Some, None, IsSome, IfSome, Result, Ok, Err, OnErr, refl, ◌∙◌, ap}
use Rattle.std.proofs.Math.Path.{subst}
use Rattle.capture.specs.declared.fate.Fate.{Fate}
use Rattle.capture.specs.Flows.{FlowText}
use Rattle.capture.specs.FlowTexts.{OpenText, PairText}
use Rattle.capture.specs.OpenFlows.{alone, begins, begun, first_of, settled, is_other, confirms_newer}
use Rattle.capture.specs.OpenFlows.{newer_of, IsAfter, GoesOn, Hears}
use Rattle.capture.specs.OpenFlows.GoesOn.{aside, replaces, takes}
use Rattle.capture.specs.OpenFlows.Hears.{began, went_on}
use Rattle.capture.specs.Packets.{TcpText}

pub on_err : {T E P Q : Type 0} (r : Result T E) → (P → Q) → OnErr r P → OnErr r Q
on_err (Ok x) f h = tt
on_err (Err e) f h = f h

module _ (s : TcpText) (what : Fate) (taken : Option Fate) (complete : Option FlowText) (new : Option PairText)
    (first : ℕ) (is : first ≡ first_of s) (told : taken ≡ Some what) where
  -- a flow starts
  pub hears_begun : (old mid : Option PairText) (before after : OpenText) → old ≡ None → begins s ≡ true
      → before ≡ begun first → IsAfter before first s what after → mid ≡ Some (alone after)
      → IfSome mid (λ p. (complete, new) ≡ settled p)
      → Hears old s taken None complete new
  hears_begun old None before after none starts bare took mid_is left = absurd (cc (mid_is))
  hears_begun old (Some p) before after none starts bare took mid_is left =
      let p_is : p ≡ alone after = cc in
      began none starts what after
      (subst (λ n. IsAfter (begun n) n s what after) is (subst (λ o. IsAfter o first s what after) bare took)) told refl
      (left ∙ ap settled p_is)

  -- the open flows go on
  pub hears_own : (old mid : Option PairText) (replaced : Option FlowText) → IsSome old → IsSome mid
      → IfSome old (λ p. IfSome mid (λ after. GoesOn p first s what replaced after))
      → IfSome mid (λ p. (complete, new) ≡ settled p)
      → Hears old s taken replaced complete new
  hears_own None mid replaced some some2 goes left = absurd (cc (some))
  hears_own (Some p) None replaced some some2 goes left = absurd (cc (some2))
  hears_own (Some p) (Some after) replaced some some2 goes left =
      went_on p refl what after (subst (λ n. GoesOn p n s what replaced after) is goes) told left

module _ (p : PairText) (first : ℕ) (s : TcpText) (taken : Fate) where
  -- a SYN of another flow
  pub goes_aside : (newer : Option OpenText) (new : PairText) → new.older ≡ p.older → new.newer ≡ newer
      → is_other p.older s ≡ true → IsSome newer
      → IfSome newer (λ after. IsAfter (newer_of p.newer first) first s taken after)
      → GoesOn p first s taken None new
  goes_aside None new same is other some after = absurd (cc (some))
  goes_aside (Some after) new same is other some took = aside other same after is took refl

  -- a newer flow takes the place of the open one
  pub goes_replaced : (newer : Option OpenText) (new : PairText) (replaced : FlowText) → p.newer ≡ newer
      → is_other p.older s ≡ false → confirms_newer p.older newer s ≡ true
      → IfSome newer (λ n. IsAfter n first s taken new.older) → new.newer ≡ None → replaced ≡ p.older.flow
      → GoesOn p first s taken (Some replaced) new
  goes_replaced None new replaced is own confirmed took none older = absurd (cc (confirmed))
  goes_replaced (Some n) new replaced is own confirmed took none older =
      replaces own n is confirmed took none (ap (λ f. Some f) older)

  -- the open flow takes it
  pub goes_on : (new : PairText) → is_other p.older s ≡ false → confirms_newer p.older p.newer s ≡ false
      → IsAfter p.older first s taken new.older → new.newer ≡ p.newer → GoesOn p first s taken None new
  goes_on new own unconfirmed took same = takes own unconfirmed took same refl
