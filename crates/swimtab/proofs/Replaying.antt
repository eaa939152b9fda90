-- Runs of the events of a script, and what is shown of the nodes.
use Rattle.std.proofs.Common.{◌≡◌, ◌≢◌, ℕ, zero, suc, ◌+◌, ◌<◌, Option, Some, None, List, [], ◌∷◌, ◌++◌, length, map}
use Rattle.std.proofs.Common.{take, get_or, refl, sym, ap, ap₂, subst, ◌∙◌, arith, length-append, append-nil}
use Rattle.std.specs.Prelude.{slice_get}
use Rattle.std.proofs.Math.Seq.{take-append-add}
use Rattle.std.proofs.lemmas.List.{append_assoc, length-map, take_more, take-append-le, length-take-le}
use Rattle.std.proofs.lemmas.Slice.Zip.{AllZip-long}
use Rattle.swim_claim.specs.declared.claim.Claim.{Claim}
use Rattle.swim_table.specs.Listing.{listing}
use Rattle.swim_table.specs.Node.{NodeValue}
use Rattle.swim_table.specs.Table.{Entries, TableOf}
use Rattle.swim_sync.specs.declared.event.Event.{Event}
use Rattle.swim_sync.specs.declared.stop.Stop.{Stop}
use Rattle.swim_sync.specs.declared.stop.Why.{Why}
use Rattle.swim_sync.specs.declared.stop.Why.TheVariants as why
use Rattle.swim_sync.specs.Cluster.{NamesNodes, EachCanHappen, Ran, StopsBy, Stopped, TablesOf, members_of, member_of as node_member}
use Rattle.swim_sync.specs.Heard.{Member, heard, heard_by}
use Rattle.swim_sync.proofs.Clusters.{ran-append}
use Rattle.swim_sync.specs.Levels.{level_list}
use Rattle.swim_sync.proofs.Levelled.{length-ran}
use Rattle.swim_sync.proofs.Levelling.{get-front, get-back}
use Rattle.swim_program.specs.declared.report.Report.{Report}
use Rattle.swim_program.specs.declared.report.What.TheVariants.{Memory}
use Rattle.swim_program.specs.Lines.{input_lines}
use Rattle.swimtab.specs.Faults.{what_of_why}
use Rattle.swimtab.specs.Replay.{IsOfEvent, node_line, shown_from, EachTable, heard_after, Replays, Refuses, RefusedEvent, StopsSo}
use Rattle.swim_script.specs.ScriptReading.{AreNumbered, plan_events}
use Rattle.swim_script.specs.Script.{Start, Script, ComesWith, IsStarted, AreStarted, started_member, start_claims}
use Rattle.swim_script.proofs.ScriptNumbers.{event_line_past}

-- ---- stops of a run in two parts

-- a run that stops in its first part
pub stopped_earlier : (old new : List NodeValue) (events more : List Event) (stop : Stop)
    → Stopped old new events stop → Stopped old new (events ++ more) stop
stopped_earlier old new events more stop s = record {
  before = (let number = length-append events more in let below = s.before in omega (arith, number, below));
  ran = subst (Ran old new) (sym (take-append-le stop.done events more (let below = s.before in omega (arith, below)))) s.ran;
  why = (s.why.0, get-front events more stop.done s.why.0 s.why.1, s.why.2);
}

-- a run that stops in its second part
pub stopped_later : (old mid new : List NodeValue) (events more : List Event) (stop : Stop) → Ran old mid events → Stopped mid new more stop
    → Stopped old new (events ++ more) (record { done = length events + stop.done; why = stop.why })
stopped_later old mid new events more stop r s = record {
  before = (let number = length-append events more in let below = s.before in omega (arith, number, below));
  ran = subst (Ran old new) (sym (take-append-add events more stop.done)) (ran-append old mid new events (take stop.done more) r s.ran);
  why = (s.why.0, get-back events more stop.done ∙ s.why.1, s.why.2);
}

-- a run that stops before the levelling that may end a plan
pub stopped_in_plan : (old new : List NodeValue) (events : List Event) (nodes : ℕ) (level : Option ℕ) (stop : Stop)
    → Stopped old new events stop → Stopped old new (plan_events events nodes level) stop
stopped_in_plan old new events nodes None stop s = s
stopped_in_plan old new events nodes (Some line) stop s = stopped_earlier old new events (level_list nodes) stop s

-- a plan that ends with a levelling
pub ran_plan : (old mid new : List NodeValue) (events : List Event) (level : Option ℕ) (line : ℕ) → level ≡ Some line
    → Ran old mid events → Ran mid new (level_list (length mid))
    → Ran old new (plan_events events (length old) level)
ran_plan old mid new events level line is r s =
    subst (λ (o : Option ℕ). Ran old new (plan_events events (length old) o)) (sym is)
    (ran-append old mid new events (level_list (length old)) r
    (subst (λ (n : ℕ). Ran mid new (level_list n)) (length-ran old mid events r) s))

pub stops_plan : (old mid : List NodeValue) (events : List Event) (numbers : List ℕ) (level : Option ℕ) (line : ℕ)
    (report : Report) → level ≡ Some line → length numbers ≡ length events → Ran old mid events
    → StopsSo mid (level_list (length mid)) [] (Some line) report → StopsSo old (plan_events events (length old) level) numbers level report
stops_plan old mid events numbers level line report is count r (new, stop, number, stopped, same, numbered, named) = (
  new,
  record { done = length events + stop.done; why = stop.why },
  number,
  subst (λ (o : Option ℕ). Stopped old new (plan_events events (length old) o)
      (record { done = length events + stop.done; why = stop.why })) (sym is)
      (stopped_later old mid new events (level_list (length old)) stop r
      (subst (λ (n : ℕ). Stopped mid new (level_list n) stop) (length-ran old mid events r) stopped)),
  same,
  event_line_past numbers level (length events + stop.done) (omega (arith, count)) ∙ is ∙ numbered,
  named,
)

-- ---- what is shown

shown-append : (k : ℕ) (tables : List Entries) (table : Entries) → shown_from k (tables ++ table ∷ []) ≡
    (shown_from k tables ++ node_line (k + length tables)) ++ listing table
shown-append k [] table =
    let same : k ≡ k + 0 = omega arith in
    append-nil (node_line k ++ listing table) ∙ ap (λ (n : ℕ). node_line n ++ listing table) same
shown-append k (first ∷ tables) table =
    let same : k + 1 + length tables ≡ k + suc (length tables) = omega arith in
    let own = node_line k ++ listing first in
    let rest = shown_from (k + 1) tables in
    let name = node_line (k + suc (length tables)) in
    ap (λ (l : List ℕ). own ++ l) (shown-append (k + 1) tables table ∙ ap (λ (n : ℕ). (rest ++ node_line n) ++ listing table) same)
    ∙ sym (append_assoc own (rest ++ name) (listing table))
    ∙ ap (λ (l : List ℕ). l ++ listing table) (sym (append_assoc own rest name))

-- one more table is shown
pub shown_more : (tables : List Entries) (k : ℕ) (table : Entries) → k < length tables → table ≡ get_or tables k table
    → shown_from 0 (take (k + 1) tables) ≡ (shown_from 0 (take k tables) ++ node_line k) ++ listing table
shown_more tables k table below is =
    let number : 0 + length (take k tables) ≡ k = (let size = length-take-le k tables (omega (arith, below)) in omega (arith, size)) in
    ap (shown_from 0) (take_more tables k table below ∙ ap (λ (t : Entries). take k tables ++ t ∷ []) (sym is))
    ∙ shown-append 0 (take k tables) table
    ∙ ap (λ (n : ℕ). (shown_from 0 (take k tables) ++ node_line n) ++ listing table) number

-- ---- nodes at their start

some_same : {X : Type 0} (x y : X) → Some x ≡ Some y → x ≡ y
some_same x y same = cc (same)

pub started_members : (nodes : List NodeValue) (starts : List Start) → AreStarted nodes starts
    → members_of nodes ≡ map started_member starts
started_members [] [] are = refl
started_members [] (start ∷ starts) are = absurd are
started_members (node ∷ nodes) [] are = absurd are
started_members (node ∷ nodes) (start ∷ starts) are =
    let same : node_member node ≡ started_member start = (λ i. record { name = are.0.0 i; details = are.0.1 i }) in
    ap₂ (λ (m : Member) (l : List Member). m ∷ l) same (started_members nodes starts are.1)

started_at : (nodes : List NodeValue) (starts : List Start) → AreStarted nodes starts
    → (k : ℕ) (node : NodeValue) → slice_get nodes k ≡ Some node
    → TableOf node.table (heard_by (map start_claims starts) k)
started_at [] starts are k node at = absurd (let no = at in cc (no))
started_at (first ∷ nodes) [] are k node at = absurd are
started_at (first ∷ nodes) (start ∷ starts) are zero node at =
    subst (λ (n : NodeValue). TableOf n.table (start_claims start)) (some_same first node at) are.0.2
started_at (first ∷ nodes) (start ∷ starts) are (suc k) node at = started_at nodes starts are.1 k node at

started_number : (nodes : List NodeValue) (starts : List Start) → AreStarted nodes starts → length (map start_claims starts) ≡ length nodes
started_number nodes starts are = length-map starts start_claims ∙ AllZip-long IsStarted nodes starts are

pub started_tables : (nodes : List NodeValue) (starts : List Start) → AreStarted nodes starts → TablesOf nodes (map start_claims starts)
started_tables nodes starts are = record { number = started_number nodes starts are; each = started_at nodes starts are }

-- ---- the tables at the end

pub each_table : (nodes : List NodeValue) (lists : List (List Claim)) → TablesOf nodes lists → EachTable (map (λ n. n.table) nodes) lists
each_table [] [] h = tt
each_table [] (claims ∷ rest) h = (let number = h.number in absurd (omega (arith, number)))
each_table (node ∷ nodes) [] h = (let number = h.number in absurd (omega (arith, number)))
each_table (node ∷ nodes) (claims ∷ rest) h = (
  h.each 0 node refl,
  each_table nodes rest
      (record {
        number = (let number = h.number in omega (arith, number));
        each = λ k other at. h.each (suc k) other at;
      }),
)

-- what the nodes have heard
tables_after : (nodes new : List NodeValue) (starts : List Start) (events : List Event) → AreStarted nodes starts
    → Ran nodes new events → TablesOf new (heard_after starts events)
tables_after nodes new starts events are r =
    subst (λ (members : List Member). TablesOf new (heard members (map start_claims starts) events))
    (started_members nodes starts are) (r.tables (map start_claims starts) (started_tables nodes starts are))

-- each of the events could happen
could_happen : (nodes new : List NodeValue) (starts : List Start) (events : List Event) → AreStarted nodes starts
    → Ran nodes new events → EachCanHappen (map started_member starts) (map start_claims starts) events
could_happen nodes new starts events are r =
    subst (λ (members : List Member). EachCanHappen members (map start_claims starts) events) (started_members nodes starts are)
    (r.could (map start_claims starts) (started_tables nodes starts are))

pub replayed : (input text : List ℕ) (nodes new : List NodeValue) (starts : List Start) (events : List Event)
    → AreStarted nodes starts → Script input starts events → Ran nodes new events
    → text ≡ shown_from 0 (map (λ n. n.table) new) → Replays input text
replayed input text nodes new starts events are script r shown = record {
  starts = starts;
  events = events;
  script = script;
  could = could_happen nodes new starts events are r;
  tables = map (λ n. n.table) new;
  each = each_table new (heard_after starts events) (tables_after nodes new starts events are r);
  shown = shown;
}

-- ---- refused events

refuses_so : (new : List NodeValue) (lists : List (List Claim)) (event : Event) (cause : Why) → TablesOf new lists
    → StopsBy new event cause → Refuses lists event (what_of_why cause)
refuses_so new lists event why.NoSuchNode h stops = (
  λ same. subst (λ (n : ℕ). ¬ NamesNodes n event) (sym h.number) stops,
  λ other. absurd (omega (arith, other)),
  λ other. absurd (omega (arith, other)),
  refl,
)
refuses_so new lists event why.SameNode h stops = (
  λ other. absurd (omega (arith, other)),
  λ same. (subst (λ (n : ℕ). NamesNodes n event) (sym h.number) stops.0, stops.1),
  λ other. absurd (omega (arith, other)),
  refl,
)
refuses_so new lists event why.TooManyRecords h stops = (
  λ other. absurd (omega (arith, other)),
  λ other. absurd (omega (arith, other)),
  λ same. (
    subst (λ (n : ℕ). NamesNodes n event) (sym h.number) stops.0,
    stops.1,
    (stops.2.0, stops.2.1.table, stops.2.2, h.each stops.2.0 stops.2.1 stops.2.3, stops.2.4),
  ),
  refl,
)
refuses_so new lists event why.Memory h stops = tt

-- a stop for a cause other than memory is the fault of an event
pub why_of_event : (cause : Why) → what_of_why cause ≢ Memory → IsOfEvent (what_of_why cause)
why_of_event why.NoSuchNode other = refl
why_of_event why.SameNode other = refl
why_of_event why.TooManyRecords other = refl
why_of_event why.Memory other = absurd (other refl)

pub refused_event : (input : List ℕ) (nodes : List NodeValue) (starts : List Start) (events : List Event) (numbers : List ℕ)
    (level : Option ℕ) (report : Report)
    → AreStarted nodes starts → Script input starts events → AreNumbered (input_lines input) starts events numbers level
    → StopsSo nodes events numbers level report → RefusedEvent input report
refused_event input nodes starts events numbers level report are script each (new, stop, number, stopped, is, numbered, named) = record {
  starts = starts;
  events = events;
  script = script;
  done = stop.done;
  could = could_happen nodes new starts (take stop.done events) are stopped.ran;
  event = stopped.why.0;
  at = stopped.why.1;
  refuses = subst (Refuses (heard_after starts (take stop.done events)) stopped.why.0) (sym is)
      (refuses_so new (heard_after starts (take stop.done events)) stopped.why.0 stop.why
      (tables_after nodes new starts (take stop.done events) are stopped.ran) stopped.why.2);
  line = subst (ComesWith (input_lines input) starts events stop.done) (sym named) (each stop.done number stopped.before numbered);
}
