-- What a member puts out.
use Rattle.std.specs.Prelude.{ℕ, ◌≤◌, length}
use Rattle.memberlist_member.specs.declared.output.Output.{Output}
use Rattle.memberlist_member.specs.declared.output.Output.TheVariants.{Send, Dial, Write, Close, Changed, Unanswered}
use Rattle.memberlist_member.specs.declared.output.Output.TheVariants.{Untold, Refuted, Exhausted, Forgotten, Departed, Incompatible, User, UserState}

-- how many bytes the datagram has, or none if it is none
abbrev pub datagram_len : Output → ℕ
datagram_len (Send to bytes) = length bytes.items
datagram_len (Dial conn to) = 0
datagram_len (Write conn bytes) = 0
datagram_len (Close conn) = 0
datagram_len (Changed name event inc by) = 0
datagram_len (Unanswered name seq expected nacks) = 0
datagram_len (Untold name) = 0
datagram_len (Refuted inc) = 0
datagram_len Exhausted = 0
datagram_len (Forgotten count) = 0
datagram_len Departed = 0
datagram_len (Incompatible conn) = 0
datagram_len (User bytes) = 0
datagram_len (UserState bytes join) = 0

-- a datagram has at most so many bytes
abbrev pub FitsIn : ℕ → Output → Type 0
FitsIn limit output = datagram_len output ≤ limit
