-- The records that are read step by step, by equations.
use Rattle.std.proofs.Common.{◌≡◌, ℕ, List, [], ◌∷◌, Option, Some, None, Result, Ok, Err, refl, sym, ap, ap₂, subst, ◌∙◌}
use Rattle.swim_pack.specs.Ends.{Source}
use Rattle.swim_pack.specs.Composing.{Answers, ReadsAs, lift, lift_error, same}
use Rattle.capture.specs.declared.stop.Stop.{Stop}
use Rattle.capture.specs.declared.stop.Stop.TheVariants.{End}
use Rattle.capture.specs.Captures.{CaptureState, Passes, Step, begin_at, step_at, fault_of, fault_cause}
use Rattle.capture.specs.Captures.Passes.{none, more}
use Rattle.capture.specs.Pcap.{RecordText}
use Rattle.capture.specs.Taking.{stop_cause}
use Rattle.capture.specs.Whole.{ReadsRecords, ReadsWhole}
use Rattle.capture.specs.Whole.ReadsRecords.{ended, found}
use Rattle.capture.proofs.Inverting.{some_same}
use Rattle.capture.proofs.Prompting.{same_value, same_rest}

-- the steps read these records, and then there is no more to read
pub data Yields : CaptureState → List ℕ → List RecordText → Type 0 where
  at_end : (at : CaptureState) (bytes : List ℕ) → step_at at bytes ≡ Err End → Yields at bytes []
  skips : (at next : CaptureState) (bytes rest : List ℕ) (records : List RecordText)
      → step_at at bytes ≡ Ok ((next, None), rest) → Yields next rest records → Yields at bytes records
  finds : (at next : CaptureState) (bytes rest : List ℕ) (r : RecordText) (records : List RecordText)
      → step_at at bytes ≡ Ok ((next, Some r), rest) → Yields next rest records → Yields at bytes (r ∷ records)

-- what is read of known bytes
record Answered (at next : CaptureState) (seen : Option RecordText) (bytes : List ℕ) (new : Source) : Type 0 where
  rest : List ℕ
  coming : new.coming ≡ Some rest
  step : step_at at bytes ≡ Ok ((next, seen), rest)

answered : (at next : CaptureState) (seen : Option RecordText) (bytes : List ℕ) (from new : Source) → from.coming ≡ Some bytes
    → ReadsAs {X = Step} stop_cause same (step_at at) from new (Ok (next, seen)) → Answered at next seen bytes new
answered at next seen bytes from new known h = by_new new.coming refl (rw known at h.answer)
  where
    by_new : (o : Option (List ℕ)) → new.coming ≡ o
        → Answers {X = Step} stop_cause same (step_at at) (Some bytes) o (Ok (next, seen)) → Answered at next seen bytes new
    by_new None is e = absurd e
    by_new (Some rest) is e = record { rest = rest; coming = is; step = e }

-- from the first place to the second one no record was read
record Passed (start : CaptureState) (first : List ℕ) (at : CaptureState) (from : Source) : Type 0 where
  bytes : List ℕ
  coming : from.coming ≡ Some bytes
  yields : (records : List RecordText) → Yields at bytes records → Yields start first records

passed : (start : CaptureState) (old : Source) (first : List ℕ) (n : ℕ) (at : CaptureState) (from : Source)
    → old.coming ≡ Some first → Passes start old n at from → Passed start first at from
passed start old first n at from known none = record { bytes = first; coming = known; yields = λ records behind. behind }
passed start old first n last end known (more m at from next new before step) =
    let p = passed start old first m at from known before in
    let a = answered at next None p.bytes from new p.coming step in
    record {
      bytes = a.rest;
      coming = a.coming;
      yields = λ records behind. p.yields records (skips at next p.bytes a.rest records a.step behind);
    }

-- all bytes are gone at the end
gone : (at : CaptureState) (bytes : List ℕ) (from new : Source) → from.coming ≡ Some bytes
    → ReadsAs {X = Step} stop_cause same (step_at at) from new (Err End) → step_at at bytes ≡ Err End
gone at bytes from new known h = rw known at h.answer

records_yielded : (at : CaptureState) (from : Source) (bytes : List ℕ) (records : List RecordText) → from.coming ≡ Some bytes
    → ReadsRecords at from records → Yields at bytes records
records_yielded at from bytes records known (ended start next old new captured h all) =
    let p = passed at from bytes h.count h.at h.from known h.passed in
    p.yields [] (at_end h.at p.bytes (gone h.at p.bytes h.from new p.coming h.last.0))
records_yielded at from bytes records known (found start next old new head captured behind h later) =
    let p = passed at from bytes h.count h.at h.from known h.passed in
    let a = answered h.at next (Some (head, captured)) p.bytes h.from new p.coming h.last in
    p.yields ((head, captured) ∷ behind) (finds h.at next p.bytes a.rest (head, captured) behind a.step
    (records_yielded next new a.rest behind a.coming later))

-- ---- one way to read them

one_step : (at next other : CaptureState) (bytes rest left : List ℕ) (x y : Option RecordText)
    → step_at at bytes ≡ Ok ((next, x), rest) → step_at at bytes ≡ Ok ((other, y), left)
    → (next ≡ other) × (x ≡ y) × (rest ≡ left)
one_step at next other bytes rest left x y e f =
    let s : Step = (next, x) in
    let t : Step = (other, y) in
    let v : s ≡ t = same_value s t rest left (sym e ∙ f) in
    (ap (λ (s : Step). s.0) v, ap (λ (s : Step). s.1) v, same_rest s t rest left (sym e ∙ f))

moved : (next other : CaptureState) (rest left : List ℕ) (records : List RecordText) → next ≡ other → rest ≡ left
    → Yields other left records → Yields next rest records
moved next other rest left records same_state same_bytes y =
    subst (λ (s : CaptureState). Yields s rest records) (sym same_state)
    (subst (λ (l : List ℕ). Yields other l records) (sym same_bytes) y)

pub yields_same : (at : CaptureState) (bytes : List ℕ) (a b : List RecordText) → Yields at bytes a → Yields at bytes b → a ≡ b
yields_same at bytes a b (at_end s l e) (at_end t m f) = refl
yields_same at bytes a b (at_end s l e) (skips t next m rest records f y) = let k = sym e ∙ f in absurd cc
yields_same at bytes a b (at_end s l e) (finds t next m rest r records f y) = let k = sym e ∙ f in absurd cc
yields_same at bytes a b (skips s next l rest records e x) (at_end t m f) = let k = sym e ∙ f in absurd cc
yields_same at bytes a b (skips s next l rest records e x) (skips t other m left b_records f y) =
    let k = one_step s next other l rest left None None e f in
    yields_same next rest records b_records x (moved next other rest left b_records k.0 k.2 y)
yields_same at bytes a b (skips s next l rest records e x) (finds t other m left r b_records f y) =
    let k = one_step s next other l rest left None (Some r) e f in
    let none_some : None ≡ Some r = k.1 in absurd cc
yields_same at bytes a b (finds s next l rest r records e x) (at_end t m f) = let k = sym e ∙ f in absurd cc
yields_same at bytes a b (finds s next l rest r records e x) (skips t other m left b_records f y) =
    let k = one_step s next other l rest left (Some r) None e f in
    let some_none : Some r ≡ None = k.1 in absurd cc
yields_same at bytes a b (finds s next l rest q records e x) (finds t other m left r b_records f y) =
    let k = one_step s next other l rest left (Some q) (Some r) e f in
    ap₂ (λ (h : RecordText) (t : List RecordText). h ∷ t) (some_same q r k.1)
    (yields_same next rest records b_records x (moved next other rest left b_records k.0 k.2 y))

-- ---- from the first byte on

-- the reading below a lifted one
lowered : (bytes rest : List ℕ) (at : CaptureState) → lift fault_of begin_at bytes ≡ Ok (at, rest) → begin_at bytes ≡ Ok (at, rest)
lowered bytes rest at e = by_read (begin_at bytes) refl e
  where
    by_read : (r : Result (CaptureState × List ℕ) Stop) → begin_at bytes ≡ r → lift_error fault_of r ≡ Ok (at, rest)
        → begin_at bytes ≡ Ok (at, rest)
    by_read (Ok r) is e = is ∙ cc
    by_read (Err stop) is e = absurd cc

-- a capture that is read, by equations
pub record Whole (bytes : List ℕ) (records : List RecordText) : Type 0 where
  pub at : CaptureState
  pub rest : List ℕ
  pub begins : begin_at bytes ≡ Ok (at, rest)
  pub yields : Yields at rest records

pub whole_yields : (bytes : List ℕ) (records : List RecordText) → ReadsWhole bytes records → Whole bytes records
whole_yields bytes records whole = by_new whole.1.coming refl whole.2.answer
  where
    by_new : (o : Option (List ℕ)) → whole.1.coming ≡ o
        → Answers {X = CaptureState} fault_cause same (lift fault_of begin_at) (Some bytes) o (Ok whole.0) → Whole bytes records
    by_new None is e = absurd e
    by_new (Some rest) is e = record {
      at = whole.0;
      rest = rest;
      begins = lowered bytes rest whole.0 e;
      yields = records_yielded whole.0 whole.1 rest records is whole.3;
    }

-- bytes are read in one way
pub one_reading : (bytes : List ℕ) (a b : List RecordText) → ReadsWhole bytes a → ReadsWhole bytes b → a ≡ b
one_reading bytes a b first second =
    let x = whole_yields bytes a first in
    let y = whole_yields bytes b second in
    let state : x.at ≡ y.at = same_value x.at y.at x.rest y.rest (sym x.begins ∙ y.begins) in
    let left : x.rest ≡ y.rest = same_rest x.at y.at x.rest y.rest (sym x.begins ∙ y.begins) in
    yields_same x.at x.rest a b x.yields (moved x.at y.at x.rest y.rest b state left y.yields)
