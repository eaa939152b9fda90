-- What a reader of scripts knows about the words of one line, and about the lines so far.
use Rattle.std.specs.Prelude.{◌≡◌, ◌≢◌, ℕ, zero, suc, ◌<◌, Bool, true, ◌⊎◌, Option, Some, None, List, [], ◌∷◌, ◌++◌, length, codes, ◌==◌}
use Rattle.swim_claim.specs.Name.{IsLegalName}
use Rattle.swim_sync.specs.declared.event.Event.{Event}
use Rattle.swim_sync.specs.Levels.{level_list}
use Rattle.swim_script.specs.declared.keyword.Keyword.{Keyword}
use Rattle.swim_script.specs.declared.keyword.Keyword.TheVariants as key
use Rattle.swim_script.specs.declared.script_line.Line.{Line}
use Rattle.swim_script.specs.declared.script_line.Line.TheVariants as line
use Rattle.swim_script.specs.declared.script.Plan.{Plan}
use Rattle.swim_program.specs.declared.report.Place.TheVariants as place
use Rattle.swim_program.specs.declared.report.What.{What}
use Rattle.swim_program.specs.declared.report.What.TheVariants.{Refused}
use Rattle.swim_script.specs.Refusals.{NoName, NoDetails, RefusesWords}
use Rattle.swim_script.specs.Script.{SaysNode, Start, IsStarted, NodeWords, EventWords, LevelWords, NodeNumber, ComesWith, words}

-- the first word of a line of this kind
abbrev pub word_of : Keyword → List ℕ
word_of key.Node = codes "node"
word_of key.Hear = codes "hear"
word_of key.Exchange = codes "exchange"
word_of key.Half = codes "half"
word_of key.Refute = codes "refute"
word_of key.Level = codes "level"

-- the words are the numbers of two nodes
abbrev pub TwoNumbers : List (List ℕ) → ℕ → ℕ → Type 0
TwoNumbers fields j k = (first second : List ℕ) × (fields ≡ first ∷ second ∷ [])
    × NodeNumber first j × NodeNumber second k

-- the word is the number of one node
abbrev pub OneNumber : List (List ℕ) → ℕ → Type 0
OneNumber fields k = (word : List ℕ) × (fields ≡ word ∷ []) × NodeNumber word k

-- there are six words after `node`, and they say this
abbrev pub SpellsNode : List (List ℕ) → Start → Type 0
SpellsNode fields start = (name addr port meta vsn inc : List ℕ)
    × (fields ≡ name ∷ addr ∷ port ∷ meta ∷ vsn ∷ inc ∷ [])
    × SaysNode name addr port meta vsn inc start

-- the name is invalid, or else the details are
abbrev pub RefusesStart : Start → What → Type 0
RefusesStart start what = NoName start.name what
    ⊎ (IsLegalName start.name × NoDetails start.details what)

-- what the words of a line say; `nodes` says whether lines of nodes may still come
abbrev pub SpellsLine : Bool → List (List ℕ) → Line → Type 0
SpellsLine nodes words (line.Node node) = (nodes ≡ true) × (start : Start) × NodeWords words start
    × IsStarted node start
SpellsLine nodes words (line.Event event) = EventWords words event
SpellsLine nodes words line.Level = LevelWords words

-- The words of a line say nothing that may come here.
pub record SpellsNothing (nodes : Bool) (words : List (List ℕ)) : Type 0 where
  pub node : nodes ≡ true → (start : Start) → ¬ NodeWords words start
  pub event : (event : Event) → ¬ EventWords words event
  pub level : ¬ LevelWords words

-- ---- line by line

-- the line with this number is added to the plan
abbrev pub Adds : ℕ → Plan → Line → Plan → Type 0
Adds number old (line.Node node) new =
    (new.nodes.items ≡ old.nodes.items ++ node ∷ []) × (new.events.items ≡ old.events.items)
    × (new.level ≡ old.level) × (new.lines.items ≡ old.lines.items)
Adds number old (line.Event event) new =
    (new.nodes.items ≡ old.nodes.items) × (new.events.items ≡ old.events.items ++ event ∷ [])
    × (new.level ≡ old.level) × (new.lines.items ≡ old.lines.items ++ number ∷ [])
Adds number old line.Level new =
    (new.nodes.items ≡ old.nodes.items) × (new.events.items ≡ old.events.items)
    × (new.level ≡ Some number) × (new.lines.items ≡ old.lines.items)

-- an empty line is skipped; any other is added: nodes only before all events, and nothing after
-- `level`
abbrev pub TakesLine : List ℕ → ℕ → Plan → Plan → Type 0
TakesLine text number old new =
    ((text ≡ []) × (new ≡ old))
    ⊎ ((text ≢ []) × (old.level ≡ None)
    × ((said : Line) × SpellsLine (length old.events.items == 0) (words text) said
    × Adds number old said new))

-- the line is not empty, and comes after `level` or says nothing that may come here
abbrev pub IsOutOfPlace : List ℕ → Plan → Type 0
IsOutOfPlace text old = (text ≢ [])
    × (old.level ≡ None → SpellsNothing (length old.events.items == 0) (words text))

-- what is reported about a line that is not empty and may not follow those of the plan
abbrev pub RefusesNext : Plan → List ℕ → What → Type 0
RefusesNext old text what = (old.level ≢ None → what ≡ Refused 31 None)
    × (old.level ≡ None → RefusesWords (length old.events.items == 0) (words text) what)

-- the events of a plan: those of its lines, and then those that level its nodes, if `level` ends it
abbrev pub plan_events : List Event → ℕ → Option ℕ → List Event
plan_events events nodes None = events
plan_events events nodes (Some number) = events ++ level_list nodes

-- the number of the line of event k: its own, or else that of `level`
abbrev pub event_line : List ℕ → Option ℕ → ℕ → Option ℕ
event_line [] level k = level
event_line (number ∷ numbers) level zero = Some number
event_line (number ∷ numbers) level (suc k) = event_line numbers level k

-- each event comes with the line that has its number
abbrev pub AreNumbered : List (List ℕ) → List Start → List Event → List ℕ → Option ℕ → Type 0
AreNumbered lines starts events numbers level =
    (k number : ℕ) → k < length events → event_line numbers level k ≡ Some number
    → ComesWith lines starts events k (place.Line number)
