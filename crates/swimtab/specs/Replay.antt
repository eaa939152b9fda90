-- What a script shows: for each node its number, and the listing of the table of what it has heard.
use Rattle.std.specs.Prelude.{◌≡◌, ℕ, ◌+◌, true, Option, Some, None, List, [], ◌∷◌, ◌++◌, codes, decimal, length, map, take, slice_get}
use Rattle.std.specs.List.{AllZip}
use Rattle.swim_claim.specs.declared.claim.Claim.{Claim}
use Rattle.swim_table.specs.Listing.{listing}
use Rattle.swim_table.specs.Node.{NodeValue}
use Rattle.swim_table.specs.Table.{Entries, TableOf}
use Rattle.swim_sync.specs.declared.event.Event.{Event}
use Rattle.swim_sync.specs.declared.stop.Stop.{Stop}
use Rattle.swim_sync.specs.Cluster.{NamesNodes, NamesOneTwice, Dumps, EachCanHappen, Stopped}
use Rattle.swim_sync.specs.Exchanging.{HasTooMany}
use Rattle.swim_sync.specs.Heard.{heard, heard_by}
use Rattle.swim_program.specs.declared.report.Place.TheVariants.{Line}
use Rattle.swim_program.specs.declared.report.Report.{Report}
use Rattle.swim_program.specs.declared.report.What.{What}
use Rattle.swim_program.specs.declared.report.What.TheVariants.{Refused, Device, Memory}
use Rattle.swim_program.specs.Lines.{input_lines}
use Rattle.swim_script.specs.Refusals.{is_of_event}
use Rattle.swim_script.specs.Script.{Start, Script, ComesWith, started_member, start_claims}
use Rattle.swim_script.specs.ScriptReading.{event_line}
use Rattle.swimtab.specs.Faults.{what_of_why}

-- the line with a node's number
abbrev pub node_line : ℕ → List ℕ
node_line k = codes "node " ++ decimal k ++ codes "\n"

-- for each table, starting at node k, the line of its node and the listing
abbrev pub shown_from : ℕ → List Entries → List ℕ
shown_from k [] = []
shown_from k (table ∷ tables) = node_line k ++ listing table ++ shown_from (k + 1) tables

-- each table is that of its list
abbrev pub EachTable : List Entries → List (List Claim) → Type 0
EachTable tables lists = AllZip TableOf tables lists

-- what each node has heard after the events
abbrev pub heard_after : List Start → List Event → List (List Claim)
heard_after starts events = heard (map started_member starts) (map start_claims starts) events

-- The input is a script whose events can all happen, and the text shows what its nodes have heard
-- at its end.
pub record Replays (input text : List ℕ) : Type 0 where
  pub starts : List Start
  pub events : List Event
  pub script : Script input starts events
  pub could : EachCanHappen (map started_member starts) (map start_claims starts) events
  pub tables : List Entries
  pub each : EachTable tables (heard_after starts events)
  pub shown : text ≡ shown_from 0 tables

-- why an event of a script does not happen, by the number of the fault; no value was found with it
abbrev pub Refuses : List (List Claim) → Event → What → Type 0
Refuses lists event (Refused number found) =
    (number ≡ 26 → ¬ NamesNodes (length lists) event)
    × (number ≡ 27 → NamesNodes (length lists) event × NamesOneTwice event)
    × (number ≡ 23 → NamesNodes (length lists) event × (¬ NamesOneTwice event)
    × ((k : ℕ) × (table : Entries) × Dumps event k × TableOf table (heard_by lists k)
    × HasTooMany table))
    × (found ≡ None)
Refuses lists event Device = ⊥
Refuses lists event Memory = Unit {0}

-- The input is a script whose first event that does not happen is this one, on the line that the
-- place names.
pub record RefusedEvent (input : List ℕ) (report : Report) : Type 0 where
  pub starts : List Start
  pub events : List Event
  pub script : Script input starts events
  pub done : ℕ
  pub could : EachCanHappen (map started_member starts) (map start_claims starts)
      (take done events)
  pub event : Event
  pub at : slice_get events done ≡ Some event
  pub refuses : Refuses (heard_after starts (take done events)) event report.what
  pub line : ComesWith (input_lines input) starts events done report.place

-- a run on the nodes of the events, which are on the lines of these numbers, stops with this report
abbrev pub StopsSo : List NodeValue → List Event → List ℕ → Option ℕ → Report → Type 0
StopsSo nodes events numbers level report =
    (new : List NodeValue) × (stop : Stop) × (number : ℕ) × Stopped nodes new events stop
    × (report.what ≡ what_of_why stop.why)
    × (event_line numbers level stop.done ≡ Some number) × (report.place ≡ Line number)

-- it is the fault of an event
abbrev pub IsOfEvent : What → Type 0
IsOfEvent (Refused number found) = is_of_event number ≡ true
IsOfEvent Device = ⊥
IsOfEvent Memory = ⊥
