-- How much a member puts out.
use Rattle.std.specs.Prelude.{ℕ, ◌+◌, ◌≤◌, Bool, true, false, List, length}
use Rattle.std.specs.List.{filter}
use Rattle.memberlist_member.specs.declared.output.Output.{Output}
use Rattle.memberlist_member.specs.declared.output.Output.TheVariants.{Send, Dial, Write, Close, Changed, Unanswered}
use Rattle.memberlist_member.specs.declared.output.Output.TheVariants.{Untold, Refuted, Exhausted, Forgotten, Departed, Incompatible, User, UserState}

-- it is a datagram
abbrev pub is_datagram : Output → Bool
is_datagram (Send to bytes) = true
is_datagram (Dial conn to) = false
is_datagram (Write conn bytes) = false
is_datagram (Close conn) = false
is_datagram (Changed name event inc by) = false
is_datagram (Unanswered name seq expected nacks) = false
is_datagram (Untold name) = false
is_datagram (Refuted inc) = false
is_datagram Exhausted = false
is_datagram (Forgotten count) = false
is_datagram Departed = false
is_datagram (Incompatible conn) = false
is_datagram (User bytes) = false
is_datagram (UserState bytes join) = false

-- it opens a connection
abbrev pub is_dial : Output → Bool
is_dial (Send to bytes) = false
is_dial (Dial conn to) = true
is_dial (Write conn bytes) = false
is_dial (Close conn) = false
is_dial (Changed name event inc by) = false
is_dial (Unanswered name seq expected nacks) = false
is_dial (Untold name) = false
is_dial (Refuted inc) = false
is_dial Exhausted = false
is_dial (Forgotten count) = false
is_dial Departed = false
is_dial (Incompatible conn) = false
is_dial (User bytes) = false
is_dial (UserState bytes join) = false

-- it writes to a connection
abbrev pub is_write : Output → Bool
is_write (Send to bytes) = false
is_write (Dial conn to) = false
is_write (Write conn bytes) = true
is_write (Close conn) = false
is_write (Changed name event inc by) = false
is_write (Unanswered name seq expected nacks) = false
is_write (Untold name) = false
is_write (Refuted inc) = false
is_write Exhausted = false
is_write (Forgotten count) = false
is_write Departed = false
is_write (Incompatible conn) = false
is_write (User bytes) = false
is_write (UserState bytes join) = false

-- how many of these there are
abbrev pub datagrams : List Output → ℕ
datagrams outputs = length (filter is_datagram outputs)

abbrev pub dials : List Output → ℕ
dials outputs = length (filter is_dial outputs)

abbrev pub writes : List Output → ℕ
writes outputs = length (filter is_write outputs)

-- there are at most so many more datagrams, dials and writes
abbrev pub PutsOutAtMost : ℕ → ℕ → ℕ → List Output → List Output → Type 0
PutsOutAtMost d c w old new =
    (datagrams new ≤ datagrams old + d) × (dials new ≤ dials old + c) × (writes new ≤ writes old + w)
