-- What Serf's messages change: nothing that memberlist shows, and one name's intent at most.
use Rattle.std.specs.Prelude.{◌≡◌, ◌≢◌, ℕ, List, Ok}
use Rattle.serf_message.specs.Messages.{MessageValue, message_of}
use Rattle.serf_message.specs.States.{StateValue, state_of}
use Rattle.serf_view.specs.Intents.{Beliefs, intent_of}

-- the bytes are none of the messages that Serf sends as user messages of memberlist
abbrev pub IsNoMessage : List ℕ → Type 0
IsNoMessage bytes = (message : MessageValue) → ¬ (message_of bytes ≡ Ok message)

-- the bytes are no state of Serf's
abbrev pub IsNoState : List ℕ → Type 0
IsNoState bytes = (state : StateValue) → ¬ (state_of bytes ≡ Ok state)

-- nothing else is believed of any other name
abbrev pub OthersStay : List ℕ → Beliefs → Beliefs → Type 0
OthersStay name old new = (other : List ℕ) → other ≢ name → intent_of new other ≡ intent_of old other
