-- The messages of a datagram.
use Rattle.std.specs.Prelude.{◌≡◌, ℕ, List, [], ◌∷◌}
use Rattle.memberlist_message.specs.Leaves.{AreLeaves}
use Rattle.memberlist_member.specs.Covers.{OpensPacket}
use Rattle.memberlist_member.specs.declared.cover.Cover.{Cover}
use Rattle.memberlist_member.specs.declared.cover.Opened.{Opened}
use Rattle.memberlist_member.specs.declared.cover.Opened.TheVariants.{Message, Refused}

-- the messages in what was opened: its leaves, or none if it is refused
abbrev pub AreMessagesOf : Opened → List (List ℕ) → Type 0
AreMessagesOf (Message message) messages = (truncated : ℕ) × AreLeaves (message.items ∷ []) messages truncated
AreMessagesOf Refused messages = messages ≡ []

-- the messages in a datagram
abbrev pub HasMessages : Cover → List ℕ → List (List ℕ) → Type 0
HasMessages cover bytes messages =
    (opened : Opened) × OpensPacket cover bytes opened × AreMessagesOf opened messages
