-- The numbers of the lines that the events of a script come with.
use Rattle.std.proofs.Common.{◌≡◌, ◌≢◌, ℕ, zero, suc, ◌+◌, ◌<◌, ◌≤◌, ◌⊎◌, inl, inr, List, [], ◌∷◌, ◌++◌, Option, Some}
use Rattle.std.proofs.Common.{None, length, get_or, refl, sym, ap, ap₂, subst, ◌∙◌, append_assoc, append-nil, eqb-true}
use Rattle.std.proofs.Common.{arith}
use Rattle.std.specs.Str.Lines.{strip_carriage_return}
use Rattle.swim_sync.specs.declared.event.Event.{Event}
use Rattle.swim_sync.specs.Levels.{level_list}
use Rattle.swim_program.specs.declared.report.Place.{Place}
use Rattle.swim_program.specs.declared.report.Place.TheVariants as place
use Rattle.swim_script.specs.declared.script.Plan.{Plan}
use Rattle.swim_script.specs.declared.script_line.Line.TheVariants as line
use Rattle.swim_script.specs.Script.{Start, ScriptOf, ComesWith, not_empty, script_lines}
use Rattle.swim_script.specs.ScriptReading.{AreNumbered, TakesLine, event_line, plan_events}
use Rattle.swim_script.proofs.ScriptRun.{WasRead, nothing_read, read_node_line, read_event_line, read_level_line}
use Rattle.swim_script.proofs.ScriptRun.{was_read_whole, one_more_line, not_empty_one, nil_of_length}

-- ---- the number of the line of an event

-- an event with a line of its own
pub event_line_within : (numbers : List ℕ) (level : Option ℕ) (k d : ℕ) → k < length numbers
    → event_line numbers level k ≡ Some (get_or numbers k d)
event_line_within [] level k d l = absurd (omega (arith, l))
event_line_within (number ∷ numbers) level zero d l = refl
event_line_within (number ∷ numbers) level (suc k) d l = event_line_within numbers level k d (omega (arith, l))

-- an event of the levelling
pub event_line_past : (numbers : List ℕ) (level : Option ℕ) (k : ℕ) → length numbers ≤ k → event_line numbers level k ≡ level
event_line_past [] level k l = refl
event_line_past (number ∷ numbers) level zero l = absurd (omega (arith, l))
event_line_past (number ∷ numbers) level (suc k) l = event_line_past numbers level k (omega (arith, l))

-- the number is that of an earlier line, or of the last
abbrev pub IsEarlierOr : List ℕ → ℕ → ℕ → ℕ → Type 0
IsEarlierOr numbers last k number =
    ((k < length numbers) × (event_line numbers None k ≡ Some number)) ⊎ ((length numbers ≤ k) × (number ≡ last))

number_pushed : (numbers : List ℕ) (last k number : ℕ)
    → event_line (numbers ++ last ∷ []) None k ≡ Some number → IsEarlierOr numbers last k number
number_pushed [] last zero number e = inr (omega arith, cc)
number_pushed [] last (suc k) number e = absurd cc
number_pushed (first ∷ numbers) last zero number e = inl (omega arith, e)
number_pushed (first ∷ numbers) last (suc k) number e = elim (number_pushed numbers last k number e) [
  | inl h ↦ inl (omega (arith, h.0), h.1)
  | inr h ↦ inr (omega (arith, h.0), h.1)
]

number_levelled : (numbers : List ℕ) (last k number : ℕ) → event_line numbers (Some last) k ≡ Some number
    → IsEarlierOr numbers last k number
number_levelled [] last k number e = inr (omega arith, cc)
number_levelled (first ∷ numbers) last zero number e = inl (omega arith, e)
number_levelled (first ∷ numbers) last (suc k) number e = elim (number_levelled numbers last k number e) [
  | inl h ↦ inl (omega (arith, h.0), h.1)
  | inr h ↦ inr (omega (arith, h.0), h.1)
]

-- ---- the line that an event comes with

-- whatever lines and events follow
comes_still : (lines more : List (List ℕ)) (starts : List Start) (events others : List Event) (k : ℕ)
    (at : Place) → ComesWith lines starts events k at
    → ComesWith (lines ++ more) starts (events ++ others) k at
comes_still lines more starts events others k at comes = record {
  before = comes.before;
  line = comes.line;
  after = comes.after ++ more;
  parts = ap (λ l. l ++ more) comes.parts ∙ append_assoc comes.before (comes.line ∷ comes.after) more;
  earlier = comes.earlier;
  own = comes.own;
  later = comes.later ++ others;
  order = ap (λ e. e ++ others) comes.order ∙ append_assoc (comes.earlier ++ comes.own) comes.later others;
  without = comes.without;
  tells = comes.tells;
  not_before = comes.not_before;
  not_after = comes.not_after;
  named = comes.named;
}

-- with the last line
comes_last : (lines : List (List ℕ)) (text : List ℕ) (starts : List Start) (events own : List Event) (k number : ℕ)
    → ScriptOf lines starts events → ScriptOf (lines ++ text ∷ []) starts (events ++ own)
    → length events ≤ k → k < length (events ++ own) → number ≡ length lines + 1
    → ComesWith (lines ++ text ∷ []) starts (events ++ own) k (place.Line number)
comes_last lines text starts events own k number without tells from below counted = record {
  before = lines;
  line = text;
  after = [];
  parts = refl;
  earlier = events;
  own = own;
  later = [];
  order = sym (append-nil (events ++ own));
  without = without;
  tells = tells;
  not_before = from;
  not_after = below;
  named = ap place.Line counted;
}

-- one more line, which describes more events
numbered_more : (lines : List (List ℕ)) (text : List ℕ) (starts : List Start) (events own : List Event)
    (numbers : List ℕ) (last k number : ℕ)
    → AreNumbered lines starts events numbers None → length numbers ≡ length events → last ≡ length lines + 1
    → ScriptOf lines starts events → ScriptOf (lines ++ text ∷ []) starts (events ++ own)
    → k < length (events ++ own) → IsEarlierOr numbers last k number
    → ComesWith (lines ++ text ∷ []) starts (events ++ own) k (place.Line number)
numbered_more lines text starts events own numbers last k number each count counted without tells below (inl (earlier, is)) =
    comes_still lines (text ∷ []) starts events own k (place.Line number) (each k number (omega (arith, earlier, count)) is)
numbered_more lines text starts events own numbers last k number each count counted without tells below (inr (past, same)) =
    comes_last lines text starts events own k number without tells (omega (arith, past, count)) below (same ∙ counted)

-- ---- line by line

-- the events of a plan, with those of its levelling
abbrev pub events_of : Plan → List Event
events_of plan = plan_events plan.events.items (length plan.nodes.items) plan.level

-- these lines were read into the plan
pub record WereRead (lines : List (List ℕ)) (plan : Plan) : Type 0 where
  pub starts : List Start
  pub was : WasRead (script_lines lines) starts plan
  pub numbered : AreNumbered lines starts (events_of plan) plan.lines.items plan.level

-- if there are no numbers, each is right
none_numbered : (lines : List (List ℕ)) (starts : List Start) (events : List Event) (numbers : List ℕ) (level : Option ℕ)
    → numbers ≡ [] → level ≡ None → AreNumbered lines starts events numbers level
none_numbered lines starts events numbers level none unended = λ k number below is.
    let bad : None ≡ Some number = sym (ap₂ (λ (l : List ℕ) (o : Option ℕ). event_line l o k) none unended) ∙ is in absurd cc

-- nothing was read yet
pub none_read : (plan : Plan) → plan.nodes.items ≡ [] → plan.events.items ≡ [] → plan.lines.items ≡ []
    → plan.level ≡ None → WereRead [] plan
none_read plan nodes events lines level = record {
  starts = [];
  was = nothing_read plan nodes events lines level;
  numbered = none_numbered [] [] (events_of plan) plan.lines.items plan.level lines level;
}

-- the lines that are not empty, with one more
one_more : (lines : List (List ℕ)) (raw text : List ℕ) → text ≡ strip_carriage_return raw → text ≢ []
    → script_lines lines ++ text ∷ [] ≡ script_lines (lines ++ raw ∷ [])
one_more lines raw text strips some = sym
    (one_more_line lines raw text strips ∙ ap (λ l. script_lines lines ++ l) (not_empty_one text some))

-- a line that describes events
were_more : (lines : List (List ℕ)) (raw : List ℕ) (starts : List Start) (number : ℕ) (old new : Plan) (own : List Event)
    → WasRead (script_lines lines) starts old → AreNumbered lines starts (events_of old) old.lines.items old.level
    → WasRead (script_lines (lines ++ raw ∷ [])) starts new
    → number ≡ length lines + 1 → old.level ≡ None → events_of new ≡ old.events.items ++ own
    → ((k n : ℕ) → event_line new.lines.items new.level k ≡ Some n → IsEarlierOr old.lines.items number k n)
    → WereRead (lines ++ raw ∷ []) new
were_more lines raw starts number old new own was numbered now counted unended all split =
    let before : ScriptOf lines starts old.events.items =
    subst (λ (o : Option ℕ). ScriptOf lines starts
    (plan_events old.events.items (length old.nodes.items) o)) unended
    (was_read_whole lines starts old was) in
    let tells : ScriptOf (lines ++ raw ∷ []) starts (old.events.items ++ own) =
    subst (ScriptOf (lines ++ raw ∷ []) starts) all (was_read_whole (lines ++ raw ∷ []) starts new now) in
    let each : AreNumbered lines starts old.events.items old.lines.items None =
    subst (λ (o : Option ℕ). AreNumbered lines starts
    (plan_events old.events.items (length old.nodes.items) o) old.lines.items o) unended numbered in
    record {
      starts = starts;
      was = now;
      numbered = λ k n below is. subst (λ (e : List Event). ComesWith (lines ++ raw ∷ []) starts e k (place.Line n)) (sym all)
          (numbered_more lines raw starts old.events.items own old.lines.items number k n each was.count counted before tells
          (subst (λ (e : List Event). k < length e) all below) (split k n is));
    }

-- one more line was read
pub read_more : (lines : List (List ℕ)) (raw text : List ℕ) (number : ℕ) (old new : Plan)
    → text ≡ strip_carriage_return raw → number ≡ length lines + 1
    → WereRead lines old → TakesLine text number old new → WereRead (lines ++ raw ∷ []) new
read_more lines raw text number old new strips counted were (inl (none, same)) =
    let kept : script_lines lines ≡ script_lines (lines ++ raw ∷ []) =
    sym (one_more_line lines raw text strips ∙ ap (λ t. script_lines lines ++ not_empty (t ∷ [])) none ∙ append-nil (script_lines lines)) in
    subst (WereRead (lines ++ raw ∷ [])) (sym same) (record {
      starts = were.starts;
      was = subst (λ l. WasRead l were.starts old) kept were.was;
      numbered = λ k n below is. subst (λ (e : List Event). ComesWith (lines ++ raw ∷ []) were.starts e k
          (place.Line n)) (append-nil (events_of old))
          (comes_still lines (raw ∷ []) were.starts (events_of old) [] k (place.Line n) (were.numbered k n below is));
    })
read_more lines raw text number old new strips counted were (inr (some, unended, (line.Node node, spelled, added))) =
    let none : length old.events.items ≡ 0 = eqb-true (length old.events.items) 0 spelled.0 in
    let starts = were.starts ++ spelled.1 ∷ [] in
    record {
      starts = starts;
      was =
          subst (λ l. WasRead l starts new) (one_more lines raw text strips some)
          (read_node_line (script_lines lines) text were.starts number old new node were.was unended spelled added);
      numbered = none_numbered (lines ++ raw ∷ []) starts (events_of new) new.lines.items new.level
          (added.3 ∙ nil_of_length old.lines.items (were.was.count ∙ none)) (added.2 ∙ unended);
    }
read_more lines raw text number old new strips counted were (inr (some, unended, (line.Event event, spelled, added))) =
    let now =
    subst (λ l. WasRead l were.starts new) (one_more lines raw text strips some)
    (read_event_line (script_lines lines) text were.starts number old new event were.was unended spelled added) in
    let level : new.level ≡ None = added.2 ∙ unended in
    were_more lines raw were.starts number old new (event ∷ []) were.was were.numbered now counted unended
    (ap (plan_events new.events.items (length new.nodes.items)) level ∙ added.1)
    (λ k n is. number_pushed old.lines.items number k n (sym (ap₂ (λ (l : List ℕ) (o : Option ℕ). event_line l o k) added.3 level) ∙ is))
read_more lines raw text number old new strips counted were (inr (some, unended, (line.Level, spelled, added))) =
    let now =
    subst (λ l. WasRead l were.starts new) (one_more lines raw text strips some)
    (read_level_line (script_lines lines) text were.starts number old new were.was unended spelled added) in
    let count = length new.nodes.items in
    were_more lines raw were.starts number old new (level_list count) were.was were.numbered now counted unended
    (ap (plan_events new.events.items count) added.2 ∙ ap (λ (e : List Event). e ++ level_list count) added.1)
    (λ k n is. number_levelled old.lines.items number k n
    (sym (ap₂ (λ (l : List ℕ) (o : Option ℕ). event_line l o k) added.3 added.2) ∙ is))
