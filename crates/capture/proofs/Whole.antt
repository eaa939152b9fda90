-- Captures that are read from their first byte to their last, by equations.
use Rattle.std.proofs.Common.{◌≡◌, ℕ, ◌+◌, List, [], ◌∷◌, Ok, Err, Some, None, refl}
use Rattle.swim_pack.specs.Ends.{Source}
use Rattle.capture.specs.declared.stop.Stop.TheVariants.{End}
use Rattle.capture.specs.Captures.{CaptureState, Passes, step_at, begin_at, Passes as passes}
use Rattle.capture.specs.Pcap.{RecordText}
use Rattle.capture.specs.Whole.{ReadsRecords, ReadsWhole, holding}
use Rattle.capture.specs.Whole.ReadsRecords.{ended, found}
use Rattle.capture.proofs.Prompting.{begins_known, steps_known, end_known}

-- steps without a record, to here
pub record Reached (start : CaptureState) (old : Source) (at : CaptureState) (bytes : List ℕ) : Type 0 where
  pub count : ℕ
  pub passed : Passes start old count at (holding bytes)

pub here : (at : CaptureState) (bytes : List ℕ) → Reached at (holding bytes) at bytes
here at bytes = record { count = 0; passed = passes.none }

pub skip : {start : CaptureState} {old : Source} (at next : CaptureState) (bytes rest : List ℕ) → Reached start old at bytes
    → step_at at bytes ≡ Ok ((next, None), rest) → Reached start old next rest
skip {start} {old} at next bytes rest r e = record {
  count = r.count + 1;
  passed = passes.more r.count at (holding bytes) next (holding rest) r.passed (steps_known at next bytes rest None e);
}

pub stop : {start : CaptureState} {old : Source} (at : CaptureState) → Reached start old at [] → step_at at [] ≡ Err End
    → ReadsRecords start old []
stop {start} {old} at r e = ended start at old (holding [])
    [] (record { count = r.count; at = at; from = holding []; passed = r.passed; last = (end_known at e, refl) }) refl

pub find : {start : CaptureState} {old : Source} {records : List RecordText} (at next : CaptureState) (bytes rest : List ℕ) (r : RecordText)
    → Reached start old at bytes → step_at at bytes ≡ Ok ((next, Some r), rest)
    → ReadsRecords next (holding rest) records → ReadsRecords start old (r ∷ records)
find {start} {old} {records} at next bytes rest r reached e behind = found start next old (holding rest) r.0 r.1 records
    (record {
      count = reached.count;
      at = at;
      from = holding bytes;
      passed = reached.passed;
      last = steps_known at next bytes rest
          (Some r) e;
    }) behind

pub begun : {records : List RecordText} (at : CaptureState) (bytes rest : List ℕ) → begin_at bytes ≡ Ok (at, rest)
    → ReadsRecords at (holding rest) records → ReadsWhole bytes records
begun at bytes rest e behind = (at, holding rest, begins_known at bytes rest e, behind)
