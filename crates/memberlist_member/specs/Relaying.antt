-- Pings on behalf of others.
use Rattle.std.specs.Prelude.{ℕ, Bool, ◌==◌, nat_le, if◌then◌else◌, List, [], ◌∷◌, Option, Some, None}
use Rattle.std.specs.Option.{option_map}
use Rattle.std.specs.List.{slice_get}
use Rattle.memberlist_member.specs.declared.relays.Relay.{Relay}

-- its ping has this number
abbrev pub has_number : ℕ → Relay → Bool
has_number seq relay = relay.seq == seq

-- the first one, if no answer to it is passed on any more
abbrev pub due_first : ℕ → List Relay → Option Relay
due_first now [] = None
due_first now (relay ∷ relays) = if nat_le relay.due now then Some relay else None

-- until when an answer to the first one is passed on
abbrev pub first_due : List Relay → Option ℕ
first_due relays = option_map (λ relay. relay.due) (slice_get relays 0)
