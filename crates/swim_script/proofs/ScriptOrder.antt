-- Which lines of a script may still follow, whatever else they say.
use Rattle.std.proofs.Common.{◌≡◌, ℕ, ◌⊎◌, inl, inr, Bool, true, false, List, [], ◌∷◌, ◌++◌, length, refl, sym, subst, ◌∙◌, append_assoc}
use Rattle.swim_sync.specs.declared.event.Event.{Event}
use Rattle.swim_script.specs.Script.{Start, NodeWords, EventWords, LevelWords, NodeLines, EventLines, LastLine}
use Rattle.swim_script.specs.Script.{ScriptOf, script_lines, words}
use Rattle.swim_script.specs.ScriptReading.{SpellsNothing}
use Rattle.swim_script.proofs.ScriptLines.{node_first, level_first, node_no_level, event_first_other}

-- lines of nodes if they may come, then lines of events, then `level`, unless it came already
abbrev pub Follows : Bool → Bool → List (List ℕ) → Type 0
Follows nodes ended [] = Unit {0}
Follows nodes ended (line ∷ lines) =
    (ended ≡ false)
    × (((nodes ≡ true) × ((start : Start) × NodeWords (words line) start) × Follows true false lines)
    ⊎ ((((event : Event) × EventWords (words line) event) × Follows false false lines)
    ⊎ (LevelWords (words line) × Follows false true lines)))

follows_last : (nodes : Bool) (count : ℕ) (last : List (List ℕ)) (levelled : List Event)
    → LastLine count last levelled → Follows nodes false last
follows_last nodes count [] levelled own = tt
follows_last nodes count (line ∷ lines) levelled own = (refl, inr (inr (own.0, subst (Follows false true) (sym own.1) tt)))

follows_events : (nodes : Bool) (count : ℕ) (lines last : List (List ℕ)) (told levelled : List Event) → EventLines lines told
    → LastLine count last levelled → Follows nodes false (lines ++ last)
follows_events nodes count [] last [] levelled each own = follows_last nodes count last levelled own
follows_events nodes count [] last (event ∷ told) levelled each own = absurd each
follows_events nodes count (line ∷ lines) last [] levelled each own = absurd each
follows_events nodes count (line ∷ lines) last (event ∷ told) levelled each own =
    (refl, inr (inl ((event, each.0), follows_events false count lines last told levelled each.1 own)))

follows_nodes : (count : ℕ) (first lines last : List (List ℕ)) (starts : List Start) (told levelled : List Event)
    → NodeLines first starts → EventLines lines told → LastLine count last levelled
    → Follows true false (first ++ (lines ++ last))
follows_nodes count [] lines last [] told levelled nodes each own = follows_events true count lines last told levelled each own
follows_nodes count [] lines last (start ∷ starts) told levelled nodes each own = absurd nodes
follows_nodes count (line ∷ first) lines last [] told levelled nodes each own = absurd nodes
follows_nodes count (line ∷ first) lines last (start ∷ starts) told levelled nodes each own =
    (refl, inl (refl, (start, nodes.0), follows_nodes count first lines last starts told levelled nodes.1 each own))

-- a script consists of lines that may follow from the start on
pub script_follows : (lines : List (List ℕ)) (starts : List Start) (events : List Event)
    → ScriptOf lines starts events → Follows true false (script_lines lines)
script_follows lines starts events script =
    subst (Follows true false) (sym (script.lines ∙ append_assoc script.node_lines script.event_lines script.last))
    (follows_nodes (length starts) script.node_lines script.event_lines script.last starts script.told
    script.levelled script.nodes script.each script.ends)

-- after a line of a node the same may follow
pub after_node : (nodes ended : Bool) (line : List ℕ) (lines : List (List ℕ)) (start : Start) → NodeWords (words line) start
    → Follows nodes ended (line ∷ lines) → Follows true false lines
after_node nodes ended line lines start own (e, inl h) = h.2
after_node nodes ended line lines start own (e, inr (inl h)) = absurd
    ((event_first_other (words line) h.0.0 h.0.1).0 (node_first (words line) start own))
after_node nodes ended line lines start own (e, inr (inr h)) = absurd (node_no_level (words line) start own h.0)

-- after a line of an event no node may follow
pub after_event : (nodes ended : Bool) (line : List ℕ) (lines : List (List ℕ)) (event : Event) → EventWords (words line) event
    → Follows nodes ended (line ∷ lines) → Follows false false lines
after_event nodes ended line lines event own (e, inl h) = absurd
    ((event_first_other (words line) event own).0 (node_first (words line) h.1.0 h.1.1))
after_event nodes ended line lines event own (e, inr (inl h)) = h.1
after_event nodes ended line lines event own (e, inr (inr h)) = absurd
    ((event_first_other (words line) event own).1 (level_first (words line) h.0))

-- after `level` nothing may follow
pub after_level : (nodes ended : Bool) (line : List ℕ) (lines : List (List ℕ)) → LevelWords (words line) → Follows nodes ended
    (line ∷ lines) → Follows false true lines
after_level nodes ended line lines own (e, inl h) = absurd (node_no_level (words line) h.1.0 h.1.1 own)
after_level nodes ended line lines own (e, inr (inl h)) = absurd
    ((event_first_other (words line) h.0.0 h.0.1).1 (level_first (words line) own))
after_level nodes ended line lines own (e, inr (inr h)) = h.1

-- a line that says nothing does not follow
pub nothing_follows : (nodes ended : Bool) (line : List ℕ) (lines : List (List ℕ))
    → SpellsNothing nodes (words line) → ¬ Follows nodes ended (line ∷ lines)
nothing_follows nodes ended line lines none (e, inl h) = none.node h.0 h.1.0 h.1.1
nothing_follows nodes ended line lines none (e, inr (inl h)) = none.event h.0.0 h.0.1
nothing_follows nodes ended line lines none (e, inr (inr h)) = none.level h.0
