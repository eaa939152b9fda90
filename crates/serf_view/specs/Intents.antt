-- Serf's rules for intents to leave and to join (serf.go), one name at a time.
use Rattle.std.specs.Prelude.{ℕ, Bool, true, false, nat_lt, if◌then◌else◌, List, map, Option, Some, None}
use Rattle.std.specs.BTreeMap.{is_at}
use Rattle.std.specs.Cmp.Lexicographic.{slice_cmp}
use Rattle.std.specs.Global.{Vec}
use Rattle.std.specs.Map.{lookup}
use Rattle.std.specs.Ordering.{nat_cmp}
use Rattle.std.specs.declared.cmp.Ordering.{Ordering}
use Rattle.serf_view.specs.declared.intents.Intent.{Intent}
use Rattle.serf_view.specs.declared.intents.Standing.{Standing}
use Rattle.serf_view.specs.declared.intents.Standing.TheVariants.{Unknown, Up, Down}

-- the status time: 0 if nothing is known
abbrev pub time_of : Option Intent → ℕ
time_of None = 0
time_of (Some intent) = intent.time

-- whether the member intends to leave
abbrev pub leaving_of : Option Intent → Bool
leaving_of None = false
leaving_of (Some intent) = intent.leaving

-- handleNodeLeaveIntent, handleNodeJoinIntent: an intent is news if its time is greater
abbrev pub is_newer : Option Intent → ℕ → Bool
is_newer known time = nat_lt (time_of known) time

-- handleNodeLeaveIntent: alive becomes leaving, and failed becomes left
abbrev pub leave_after : Option Intent → ℕ → Option Intent
leave_after known time =
    if is_newer known time then Some (record { time = time; leaving = true }) else known

-- handleNodeJoinIntent: leaving becomes alive, and left stays left
abbrev pub leaving_after_join : Standing → Bool → Bool
leaving_after_join Unknown leaving = false
leaving_after_join Up leaving = false
leaving_after_join Down leaving = leaving

-- handleNodeJoinIntent
abbrev pub join_after : Option Intent → ℕ → Standing → Option Intent
join_after known time standing =
    if is_newer known time
    then Some (record { time = time; leaving = leaving_after_join standing (leaving_of known) })
    else known

-- handleNodeJoin: whoever comes back is alive
abbrev pub returned_after : Option Intent → Option Intent
returned_after None = None
returned_after (Some intent) = Some (record intent { leaving = false })

-- byte by byte, and a proper prefix is less
abbrev pub name_cmp : List ℕ → List ℕ → Ordering
name_cmp = slice_cmp nat_cmp

-- each name of which something is believed, in ascending order, with what it is
abbrev pub Beliefs : Type 0
Beliefs = List (List ℕ × Intent)

-- what is believed of a name
abbrev pub intent_of : Beliefs → List ℕ → Option Intent
intent_of beliefs name = lookup (is_at (name_cmp name)) beliefs

-- what these entries of a map say, whose keys are names
abbrev pub beliefs_in : List (Vec ℕ × Intent) → Beliefs
beliefs_in entries = map (λ e. (e.0.items, e.1)) entries
