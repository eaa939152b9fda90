-- What Serf's state at the end of a push/pull stream says.
use Rattle.std.specs.Prelude.{ℕ, List, [], length, nat_lt, if◌then◌else◌, Result, Ok, Err}
use Rattle.serf_message.specs.declared.fault.SerfFault.{SerfFault}
use Rattle.serf_message.specs.States.{StateValue, state_of}

-- the names of the members that left in what was read, or none if that is no state
abbrev left_of : Result StateValue SerfFault → List (List ℕ)
left_of (Ok state) = state.left_members
left_of (Err fault) = []

-- the names of the members that left, as this user state has them; none if it is not Serf's, or too
-- long to be read
abbrev pub left_in : List ℕ → List (List ℕ)
left_in user = if nat_lt 8388608 (length user) then [] else left_of (state_of user)
