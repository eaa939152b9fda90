-- What was read from a script, line by line.
use Rattle.std.proofs.Common.{◌≡◌, ◌≢◌, ℕ, zero, suc, ◌+◌, ◌<◌, ◌≤◌, Bool, true, false, List, [], ◌∷◌, ◌++◌, Option}
use Rattle.std.proofs.Common.{Some, None, is_some, length, map, take, drop, get_or, Bor, refl, sym, ap, ap₂, subst, ◌∙◌}
use Rattle.std.proofs.Common.{append_assoc, append-nil, eqb-true, ne_eqb, arith}
use Rattle.std.proofs.lemmas.List.Splits.{length-slice_split}
use Rattle.std.proofs.lemmas.Slice.Zip.{AllZip-long, all_zipped_more}
use Rattle.std.proofs.lemmas.List.Sums.{count_by-le-length}
use Rattle.std.proofs.lemmas.List.FromFn.{length-enumerate_from, get_or-enumerate_from}
use Rattle.std.proofs.lemmas.List.{length-append, length-map, map-append}
use Rattle.std.specs.Str.Lines.{strip_carriage_return}
use Rattle.std.specs.Prelude.{◌==◌}
use Rattle.std.specs.List.{enumerate_from}
use Rattle.swim_sync.specs.declared.event.Event.{Event}
use Rattle.swim_sync.specs.Levels.{level_list}
use Rattle.swim_table.specs.Node.{NodeValue}
use Rattle.swim_script.specs.declared.script.Plan.{Plan}
use Rattle.swim_script.specs.declared.script_line.Line.TheVariants as line
use Rattle.swim_script.specs.Script.{Start, IsStarted, AreStarted, LevelWords, NodeLine, NodeLines, EventLine}
use Rattle.swim_script.specs.Script.{EventLines, LastLine, ScriptOf, Script, not_empty, script_lines, words}
use Rattle.swim_script.specs.Refusals.{RefusesLine, IsFirstWrongLine}
use Rattle.swim_program.specs.Lines.{input_lines}
use Rattle.swim_program.specs.declared.report.What.{What}
use Rattle.swim_program.specs.declared.report.Place.{Place}
use Rattle.swim_program.specs.declared.report.Place.TheVariants as place
use Rattle.swim_script.specs.ScriptReading.{Adds, SpellsLine, SpellsNothing, IsOutOfPlace, RefusesNext, plan_events}
use Rattle.swim_script.proofs.ScriptOrder.{Follows, script_follows, after_node, after_event, after_level, nothing_follows}

-- ---- what was read so far

-- either no last line was read, or it is `level`
abbrev EndsWith : List (List ℕ) → Option ℕ → Type 0
EndsWith last None = last ≡ []
EndsWith last (Some number) = (line : List ℕ) × (last ≡ line ∷ []) × LevelWords (words line)

-- these lines, none of them empty, were read into the plan, with nodes that start so
pub record WasRead (lines : List (List ℕ)) (starts : List Start) (plan : Plan) : Type 0 where
  pub node_lines : List (List ℕ)
  pub event_lines : List (List ℕ)
  pub last : List (List ℕ)
  pub whole : lines ≡ node_lines ++ event_lines ++ last
  pub started : AreStarted plan.nodes.items starts
  pub nodes : NodeLines node_lines starts
  pub each : EventLines event_lines plan.events.items
  pub ends : EndsWith last plan.level
  pub count : length plan.lines.items ≡ length plan.events.items
  pub follows : (rest : List (List ℕ)) → Follows true false (lines ++ rest)
      → Follows (length plan.events.items == 0) (is_some plan.level) rest

-- nothing was read yet
pub nothing_read : (plan : Plan) → plan.nodes.items ≡ [] → plan.events.items ≡ [] → plan.lines.items ≡ []
    → plan.level ≡ None → WasRead [] [] plan
nothing_read plan nodes events lines level = record {
  node_lines = [];
  event_lines = [];
  last = [];
  whole = refl;
  started = subst (λ n. AreStarted n []) (sym nodes) tt;
  nodes = tt;
  each = subst (EventLines []) (sym events) tt;
  ends = subst (EndsWith []) (sym level) refl;
  count = ap length lines ∙ sym (ap length events);
  follows = λ rest f. subst (λ e. Follows (length e == 0) (is_some plan.level) rest) (sym events)
      (subst (λ o. Follows true (is_some o) rest) (sym level) f);
}

not_empty_append : (lines others : List (List ℕ)) → not_empty (lines ++ others) ≡ not_empty lines ++ not_empty others
not_empty_append [] others = refl
not_empty_append ([] ∷ lines) others = not_empty_append lines others
not_empty_append ((byte ∷ bytes) ∷ lines) others = ap (λ l. (byte ∷ bytes) ∷ l) (not_empty_append lines others)

-- a line that is not empty is kept
pub not_empty_one : (line : List ℕ) → line ≢ [] → not_empty (line ∷ []) ≡ line ∷ []
not_empty_one [] none = absurd (none refl)
not_empty_one (byte ∷ bytes) none = refl

pub nil_of_length : {A : Type 0} (xs : List A) → length xs ≡ 0 → xs ≡ []
nil_of_length [] l = refl
nil_of_length (x ∷ xs) l = absurd (omega (arith, l))

pushed_some : {A : Type 0} (xs : List A) (x : A) → (length (xs ++ x ∷ []) == 0) ≡ false
pushed_some xs x = ne_eqb (length (xs ++ x ∷ [])) 0 (λ e. omega (arith, e, length-append xs (x ∷ [])))

-- if nothing was read after the lines of nodes, they are all lines
only_nodes : (node_lines event_lines last : List (List ℕ)) → event_lines ≡ [] → last ≡ [] → node_lines ++ event_lines ++ last ≡ node_lines
only_nodes node_lines event_lines last none nothing =
    ap₂ (λ e l. node_lines ++ e ++ l) none nothing ∙ append-nil (node_lines ++ []) ∙ append-nil node_lines

-- the rest after one more line
after_one : (lines : List (List ℕ)) (text : List ℕ) (rest : List (List ℕ)) → Follows true false ((lines ++ text ∷ []) ++ rest)
    → Follows true false (lines ++ text ∷ rest)
after_one lines text rest f = subst (Follows true false) (append_assoc lines (text ∷ []) rest) f

-- a line of a node was read
pub read_node_line : (lines : List (List ℕ)) (text : List ℕ) (starts : List Start) (number : ℕ) (old new : Plan)
    (node : NodeValue) → WasRead lines starts old → old.level ≡ None
    → (spelled : SpellsLine (length old.events.items == 0) (words text) (line.Node node)) → Adds number old (line.Node node) new
    → WasRead (lines ++ text ∷ []) (starts ++ spelled.1 ∷ []) new
read_node_line lines text starts number old new node was unended spelled added =
    let none : length old.events.items ≡ 0 = eqb-true (length old.events.items) 0 spelled.0 in
    let no_events : was.event_lines ≡ [] =
    nil_of_length was.event_lines (sym (AllZip-long EventLine was.event_lines old.events.items was.each) ∙ none) in
    let no_last : was.last ≡ [] = subst (EndsWith was.last) unended was.ends in
    let all = was.whole ∙ only_nodes was.node_lines was.event_lines was.last no_events no_last in
    let level = added.2 ∙ unended in
    record {
      node_lines = was.node_lines ++ text ∷ [];
      event_lines = [];
      last = [];
      whole = ap (λ l. l ++ text ∷ []) all ∙ sym (only_nodes (was.node_lines ++ text ∷ []) [] [] refl refl);
      started =
          subst (λ n. AreStarted n (starts ++ spelled.1 ∷ [])) (sym added.0)
          (all_zipped_more IsStarted old.nodes.items starts node spelled.1 was.started spelled.3);
      nodes = all_zipped_more NodeLine was.node_lines starts text spelled.1 was.nodes spelled.2;
      each = subst (EventLines []) (sym (added.1 ∙ nil_of_length old.events.items none)) tt;
      ends = subst (EndsWith []) (sym level) refl;
      count = ap length added.3 ∙ was.count ∙ sym (ap length added.1);
      follows = λ rest f.
          let next =
          after_node (length old.events.items == 0) (is_some old.level) text rest spelled.1 spelled.2
          (was.follows (text ∷ rest) (after_one lines text rest f)) in
          let here : (length new.events.items == 0) ≡ true = ap (λ e. length e == 0) added.1 ∙ spelled.0 in
          subst (λ b. Follows b (is_some new.level) rest) (sym here) (subst (λ o. Follows true (is_some o) rest) (sym level) next);
    }

-- a line of an event was read
pub read_event_line : (lines : List (List ℕ)) (text : List ℕ) (starts : List Start) (number : ℕ) (old new : Plan)
    (event : Event) → WasRead lines starts old → old.level ≡ None
    → SpellsLine (length old.events.items == 0) (words text) (line.Event event) → Adds number old (line.Event event) new
    → WasRead (lines ++ text ∷ []) starts new
read_event_line lines text starts number old new event was unended spelled added =
    let no_last : was.last ≡ [] = subst (EndsWith was.last) unended was.ends in
    let all : lines ≡ was.node_lines ++ was.event_lines =
    was.whole ∙ ap (λ l. was.node_lines ++ was.event_lines ++ l) no_last ∙ append-nil (was.node_lines ++ was.event_lines) in
    let level = added.2 ∙ unended in
    record {
      node_lines = was.node_lines;
      event_lines = was.event_lines ++ text ∷ [];
      last = [];
      whole =
          ap (λ l. l ++ text ∷ []) all ∙ append_assoc was.node_lines was.event_lines (text ∷ [])
          ∙ sym (append-nil (was.node_lines ++ (was.event_lines ++ text ∷ [])));
      started = subst (λ n. AreStarted n starts) (sym added.0) was.started;
      nodes = was.nodes;
      each = subst (EventLines (was.event_lines ++ text ∷ [])) (sym added.1)
          (all_zipped_more EventLine was.event_lines old.events.items text event was.each spelled);
      ends = subst (EndsWith []) (sym level) refl;
      count =
          ap length added.3 ∙ length-append old.lines.items (number ∷ []) ∙ ap (λ n. n + 1) was.count
          ∙ sym (ap length added.1 ∙ length-append old.events.items (event ∷ []));
      follows = λ rest f.
          let next =
          after_event (length old.events.items == 0) (is_some old.level) text rest event spelled
          (was.follows (text ∷ rest) (after_one lines text rest f)) in
          let here : (length new.events.items == 0) ≡ false = ap (λ e. length e == 0) added.1 ∙ pushed_some old.events.items event in
          subst (λ b. Follows b (is_some new.level) rest) (sym here) (subst (λ o. Follows false (is_some o) rest) (sym level) next);
    }

-- after `level` nothing follows, whatever came before
ended_any : (nodes ended : Bool) (rest : List (List ℕ)) → Follows false true rest → Follows nodes ended rest
ended_any nodes ended [] f = tt
ended_any nodes ended (line ∷ rest) f = let bad : true ≡ false = f.0 in absurd cc

-- `level` was read
pub read_level_line : (lines : List (List ℕ)) (text : List ℕ) (starts : List Start) (number : ℕ)
    (old new : Plan) → WasRead lines starts old → old.level ≡ None
    → SpellsLine (length old.events.items == 0) (words text) line.Level → Adds number old line.Level new
    → WasRead (lines ++ text ∷ []) starts new
read_level_line lines text starts number old new was unended spelled added =
    let no_last : was.last ≡ [] = subst (EndsWith was.last) unended was.ends in
    let all : lines ≡ was.node_lines ++ was.event_lines =
    was.whole ∙ ap (λ l. was.node_lines ++ was.event_lines ++ l) no_last ∙ append-nil (was.node_lines ++ was.event_lines) in
    record {
      node_lines = was.node_lines;
      event_lines = was.event_lines;
      last = text ∷ [];
      whole = ap (λ l. l ++ text ∷ []) all;
      started = subst (λ n. AreStarted n starts) (sym added.0) was.started;
      nodes = was.nodes;
      each = subst (EventLines was.event_lines) (sym added.1) was.each;
      ends = subst (EndsWith (text ∷ [])) (sym added.2) (text, refl, spelled);
      count = ap length added.3 ∙ was.count ∙ sym (ap length added.1);
      follows = λ rest f.
          let next =
          after_level (length old.events.items == 0) (is_some old.level) text rest spelled
          (was.follows (text ∷ rest) (after_one lines text rest f)) in
          ended_any (length new.events.items == 0) (is_some new.level) rest next;
    }

-- ---- all lines

started_length : (nodes : List NodeValue) (starts : List Start) → AreStarted nodes starts → length nodes ≡ length starts
started_length nodes starts each = sym (AllZip-long IsStarted nodes starts each)

spelled_whole : (lines node_lines event_lines last : List (List ℕ)) (starts : List Start)
    (events : List Event) (level : Option ℕ) (count : ℕ)
    → script_lines lines ≡ node_lines ++ event_lines ++ last → NodeLines node_lines starts → EventLines event_lines events
    → EndsWith last level → count ≡ length starts
    → ScriptOf lines starts (plan_events events count level)
spelled_whole lines node_lines event_lines last starts events None count parts nodes each ends same = record {
  node_lines = node_lines;
  event_lines = event_lines;
  last = last;
  told = events;
  levelled = [];
  lines = parts;
  nodes = nodes;
  each = each;
  ends = subst (λ l. LastLine (length starts) l []) (sym ends) refl;
  whole = sym (append-nil events);
}
spelled_whole lines node_lines event_lines last starts events (Some number) count parts nodes each ends same = record {
  node_lines = node_lines;
  event_lines = event_lines;
  last = last;
  told = events;
  levelled = level_list (length starts);
  lines = parts;
  nodes = nodes;
  each = each;
  ends = subst (λ l. LastLine (length starts) l (level_list (length starts))) (sym ends.1) (ends.2, refl, refl);
  whole = ap (λ n. events ++ level_list n) same;
}

-- the plan is that of the script
pub was_read_whole : (lines : List (List ℕ)) (starts : List Start) (plan : Plan) → WasRead (script_lines lines) starts plan
    → ScriptOf lines starts (plan_events plan.events.items (length plan.nodes.items) plan.level)
was_read_whole lines starts plan was =
    spelled_whole lines was.node_lines was.event_lines was.last starts plan.events.items plan.level (length plan.nodes.items)
    was.whole was.nodes was.each was.ends (started_length plan.nodes.items starts was.started)

-- its events before the levelling, and the line of that, are those that were read
whole_parts : (lines node_lines event_lines last : List (List ℕ)) (starts : List Start) (events : List Event) (level : Option ℕ) (count : ℕ)
    (parts : script_lines lines ≡ node_lines ++ event_lines ++ last) (nodes : NodeLines node_lines starts)
    (each : EventLines event_lines events)
    (ends : EndsWith last level) (same : count ≡ length starts)
    → let all : ScriptOf lines starts (plan_events events count level) =
    spelled_whole lines node_lines event_lines last starts events level count parts nodes each ends same in
    (all.told ≡ events) × (all.last ≡ last)
unfolding spelled_whole
whole_parts lines node_lines event_lines last starts events None count parts nodes each ends same = (refl, refl)
whole_parts lines node_lines event_lines last starts events (Some number) count parts nodes each ends same = (refl, refl)

read_parts : (lines : List (List ℕ)) (starts : List Start) (plan : Plan) (was : WasRead (script_lines lines) starts plan)
    → ((was_read_whole lines starts plan was).told ≡ plan.events.items) × ((was_read_whole lines starts plan was).last ≡ was.last)
unfolding was_read_whole
read_parts lines starts plan was =
    whole_parts lines was.node_lines was.event_lines was.last starts plan.events.items plan.level (length plan.nodes.items)
    was.whole was.nodes was.each was.ends (started_length plan.nodes.items starts was.started)

-- there is a number for the line of the levelling exactly if that line was read
ended : (last : List (List ℕ)) (level : Option ℕ) → EndsWith last level → (last ≢ [] → level ≢ None) × (last ≡ [] → level ≡ None)
ended last None ends = (λ some none. some ends, λ none. refl)
ended last (Some number) ends = (λ some none. absurd cc, λ none. let bad : ends.0 ∷ [] ≡ [] = sym ends.1 ∙ none in absurd cc)

-- what is reported about the next line is reported about it as a line of the script
refuses_line : (lines : List (List ℕ)) (starts : List Start) (plan : Plan)
    (was : WasRead (script_lines lines) starts plan) (line text : List ℕ) (what : What)
    → text ≡ strip_carriage_return line → RefusesNext plan text what
    → RefusesLine (was_read_whole lines starts plan was).told (was_read_whole lines starts plan was).last (strip_carriage_return line) what
refuses_line lines starts plan was line text what strips told =
    let parts = read_parts lines starts plan was in
    let ends = ended was.last plan.level was.ends in
    subst (λ (events : List Event). RefusesLine events (was_read_whole lines starts plan was).last
    (strip_carriage_return line) what) (sym parts.0)
    (subst (λ (last : List (List ℕ)). RefusesLine plan.events.items last (strip_carriage_return line) what) (sym parts.1)
    (subst (λ (t : List ℕ). RefusesLine plan.events.items was.last t what) strips
    (record { ended = λ some. told.0 (ends.0 some); open_still = λ none. told.1 (ends.1 none) })))

-- ---- a line that is out of place

no_follow : (nodes : Bool) (level : Option ℕ) (text : List ℕ) (rest : List (List ℕ)) →
    (level ≡ None → SpellsNothing nodes (words text)) → ¬ Follows nodes (is_some level) (text ∷ rest)
no_follow nodes None text rest none f = nothing_follows nodes false text rest (none refl) f
no_follow nodes (Some number) text rest none f = let bad : true ≡ false = f.0 in absurd cc

-- the lines are not a script
no_script : (all lines : List (List ℕ)) (text : List ℕ) (rest : List (List ℕ)) (starts : List Start) (plan : Plan)
    → script_lines all ≡ lines ++ text ∷ rest → WasRead lines starts plan
    → IsOutOfPlace text plan → (nodes : List Start) (events : List Event) → ¬ ScriptOf all nodes events
no_script all lines text rest starts plan parts was wrong nodes events script =
    no_follow (length plan.events.items == 0) plan.level text rest wrong.1
    (was.follows (text ∷ rest) (subst (Follows true false) parts (script_follows all nodes events script)))

-- ---- lines by their places

-- the number of the item that is yielded
pub number_of_line : (xs : List (ℕ × Bor (List ℕ))) (lines : List (List ℕ)) (index : ℕ) (line : List ℕ)
    → (length xs < length (enumerate_from 0 lines)) × ((index, line) ≡ get_or (enumerate_from 0 lines) (length xs) (index, line))
    → index + 1 ≡ length (map (λ p. p.1.now) xs) + 1
number_of_line xs lines index line here =
    let inside : length xs < length lines = omega (arith, here.0, length-enumerate_from 0 lines) in
    let place : index ≡ 0 + length xs = ap (λ p. p.0) (here.1 ∙ get_or-enumerate_from 0 lines (length xs) (index, line) inside) in
    omega (arith, place, length-map xs (λ p. p.1.now))

parts_at : (lines : List (List ℕ)) (n : ℕ) (line : List ℕ) → n < length lines → line ≡ get_or lines n line
    → lines ≡ take n lines ++ line ∷ drop (suc n) lines
parts_at [] n line l e = absurd (omega (arith, l))
parts_at (first ∷ lines) zero line l e = ap (λ w. w ∷ lines) (sym e)
parts_at (first ∷ lines) (suc n) line l e = ap (λ w. first ∷ w) (parts_at lines n line (omega (arith, l)) e)

not_empty_first : (text : List ℕ) (more : List (List ℕ)) → text ≢ [] → not_empty (text ∷ more) ≡ text ∷ not_empty more
not_empty_first [] more some = absurd (some refl)
not_empty_first (byte ∷ bytes) more some = refl

-- the lines of a script around one of them
script_parts : (before : List (List ℕ)) (line text : List ℕ) (after : List (List ℕ)) → text ≡ strip_carriage_return line → text ≢ []
    → script_lines (before ++ line ∷ after) ≡ script_lines before ++ text ∷ script_lines after
script_parts before line text after strips some =
    ap not_empty (map-append strip_carriage_return before (line ∷ after))
    ∙ not_empty_append (map strip_carriage_return before) (strip_carriage_return line ∷ map strip_carriage_return after)
    ∙ ap (λ t. script_lines before ++ not_empty (t ∷ map strip_carriage_return after)) (sym strips)
    ∙ ap (λ l. script_lines before ++ l) (not_empty_first text (map strip_carriage_return after) some)

-- the line that is out of place is the first with which the input is not a script
pub first_wrong_line : (input : List ℕ) (before : List (List ℕ)) (line text : List ℕ) (starts : List Start)
    (plan : Plan) (at : Place) (what : What)
    → before ≡ take (length before) (input_lines input) → length before < length (input_lines input)
    → line ≡ get_or (input_lines input) (length before) line
    → text ≡ strip_carriage_return line → WasRead (script_lines before) starts plan → IsOutOfPlace text plan
    → RefusesNext plan text what → at ≡ place.Line (length before + 1) → IsFirstWrongLine input at what
first_wrong_line input before line text starts plan at what first within here strips was wrong told named =
    let after = drop (suc (length before)) (input_lines input) in
    record {
      before = before;
      line = line;
      after = after;
      parts = parts_at (input_lines input) (length before) line within here ∙ ap (λ b. b ++ line ∷ after) (sym first);
      starts = starts;
      events = plan_events plan.events.items (length plan.nodes.items) plan.level;
      right = was_read_whole before starts plan was;
      wrong =
          λ more nodes events.
          no_script (before ++ line ∷ more) (script_lines before) text (script_lines more) starts plan
          (script_parts before line text more strips wrong.0) was wrong nodes events;
      said = refuses_line before starts plan was line text what strips told;
      named = named;
    }

-- an input with such a line is not a script
pub wrong_line_no_script : (input : List ℕ) (at : Place) (what : What) → IsFirstWrongLine input at what → (starts : List Start)
    (events : List Event) → ¬ Script input starts events
wrong_line_no_script input at what own starts events script = own.wrong own.after starts events
    (subst (λ l. ScriptOf l starts events) own.parts script)

-- the lines that are not empty, with one more line
pub one_more_line : (read : List (List ℕ)) (line text : List ℕ) → text ≡ strip_carriage_return line → script_lines
    (read ++ line ∷ []) ≡ script_lines read ++ not_empty (text ∷ [])
one_more_line read line text strips =
    ap not_empty (map-append strip_carriage_return read (line ∷ []))
    ∙ not_empty_append (map strip_carriage_return read) (strip_carriage_return line ∷ [])
    ∙ ap (λ t. script_lines read ++ not_empty (t ∷ [])) (sym strips)

-- ---- how many nodes there are

few_kept : (lines : List (List ℕ)) → length (not_empty lines) ≤ length lines
few_kept [] = omega arith
few_kept ([] ∷ lines) = omega (arith, few_kept lines)
few_kept ((byte ∷ bytes) ∷ lines) = omega (arith, few_kept lines)

-- at most one more than there are bytes
pub few_nodes : (input : List ℕ) (nodes : List NodeValue) (starts : List Start) (events : List Event)
    → AreStarted nodes starts → Script input starts events → length nodes ≤ length input + 1
few_nodes input nodes starts events started script =
    let kept = few_kept (map strip_carriage_return (input_lines input)) in
    let whole = ap length script.lines in
    let parts = length-append (script.node_lines ++ script.event_lines) script.last in
    let first = length-append script.node_lines script.event_lines in
    omega (
      arith,
      kept,
      whole,
      parts,
      first,
      length-map (input_lines input) strip_carriage_return,
      length-slice_split (λ b. b == 10) input,
      count_by-le-length (λ b. b == 10) input,
      AllZip-long NodeLine script.node_lines starts script.nodes,
      started_length nodes starts started,
    )
