-- What an agent's handle owns, what the agent has still to give, and what calls do to it.
use base.Fml.{Fml}
use base.Stored.{Coded}
use denote.RawPtr.{Ptr}
use Rattle.std.specs.Prelude.{◌≡◌, ◌⊎◌, ◌*◌, ◌+◌, ◌^◌, ◌≤◌, ℕ, Bool, List, [], ◌∷◌, ◌++◌, Option, Some, None, MatchOption}
use Rattle.std.specs.Coded.{coded_option}
use Rattle.memberlist_member.specs.declared.output.Output.{Output}
use Rattle.swim_c.specs.contracts.agent.held.HeldAgent.{the_row}
use Rattle.swim_c.specs.declared.agent.held.HeldAgent.{HeldAgent}
use Rattle.swim_c.specs.declared.agent.out.Out.{Out}
use Rattle.swim_c.specs.declared.buffer.Buffer.{Buffer}
use Rattle.swim_c.specs.AgentOuts.{HasOutBytes, IsWritten}
use Rattle.swim_c.specs.Handle.{holds}
use Rattle.swim_c.specs.Statuses as statuses

-- how proofs distinguish an agent from another one, and from none
abbrev pub agent_coded : Coded (Option the_row.Denot)
agent_coded = coded_option the_row.coded

-- an agent and the right to free its block, if the handle has one
abbrev pub agent_owns : Ptr → Bool → Option the_row.Denot → Fml
agent_owns = holds the_row

-- what it put out and did not give yet, in its order
abbrev pub to_give : HeldAgent → List Output
to_give a = a.unsent.items ++ a.behind.items ++ a.member.out.list.items

-- it is still to give all that it was to give, and after it what it put out since
abbrev pub GoesOn : HeldAgent → HeldAgent → Type 0
GoesOn old new = (more : List Output) × (to_give new ≡ to_give old ++ more)

-- it was told something, or made to do something: it numbers no stream
pub record Hears (old new : HeldAgent) : Type 0 where
  pub goes_on : GoesOn old new
  pub streams : new.accepted ≡ old.accepted

-- It heeded what it was told (0). Or memory was refused (10), and it heeded a part of it.
abbrev pub Told : ℕ → HeldAgent → HeldAgent → Type 0
Told status old new = (status ≡ 0 ⊎ status ≡ statuses.memory) × Hears old new

-- The same if what it was told is sound. Otherwise it is not told, and the status is this.
pub data ToldIf (Sound : Type 0) (unsound status : ℕ) (old new : HeldAgent) : Type 0 where
  told : Sound → Told status old new → ToldIf Sound unsound status old new
  unsound : (Sound → ⊥) → status ≡ unsound → new ≡ old → ToldIf Sound unsound status old new

-- The same of a message, which may also be too long (6).
abbrev pub Said : ℕ → HeldAgent → HeldAgent → Type 0
Said status old new = (status ≡ 0 ⊎ status ≡ statuses.too_long ⊎ status ≡ statuses.memory) × Hears old new

-- A stream was accepted: its number is odd, and greater than that of each before it (0). Or memory
-- was refused (10), and the number is not used again. Or there are no more numbers (3).
pub data AcceptDone (status before after : ℕ) (old new : HeldAgent) : Type 0 where
  accepted : status ≡ 0 → after ≡ 2 * old.accepted + 1 → new.accepted ≡ old.accepted + 1
      → GoesOn old new → AcceptDone status before after old new
  memory : status ≡ statuses.memory → after ≡ before → new.accepted ≡ old.accepted + 1
      → GoesOn old new → AcceptDone status before after old new
  none : status ≡ statuses.out_of_range → 2 ^ 62 ≤ old.accepted → after ≡ before → new ≡ old
      → AcceptDone status before after old new

-- The first of what is to be given was given, with its bytes (0), and the rest is to be given. Or
-- all was given (71); or memory was refused (10), and all is still to be given.
pub data NextDone (status : ℕ) (out written : Out) (buffer filled : Buffer)
    (old new : HeldAgent) : Type 0 where
  given : (output : Output) → status ≡ 0 → to_give old ≡ output ∷ to_give new
      → IsWritten output written → HasOutBytes output filled → new.accepted ≡ old.accepted
      → NextDone status out written buffer filled old new
  none : status ≡ statuses.no_item → to_give old ≡ [] → to_give new ≡ [] → written ≡ out
      → filled ≡ buffer → new.accepted ≡ old.accepted
      → NextDone status out written buffer filled old new
  memory : status ≡ statuses.memory → to_give new ≡ to_give old → written ≡ out → filled ≡ buffer
      → new.accepted ≡ old.accepted → NextDone status out written buffer filled old new

-- If the handle has an agent, the call does this to it, and the handle keeps it. If it has none, it
-- gets none.
abbrev pub OnAgent : Option HeldAgent → Option HeldAgent → Type 0
    → (HeldAgent → HeldAgent → Type 0) → Type 0
OnAgent None None Without Does = Without
OnAgent None (Some after) Without Does = ⊥
OnAgent (Some before) None Without Does = ⊥
OnAgent (Some before) (Some after) Without Does = Does before after

-- The handle keeps its agent unchanged, and the call says this about it. Or it has none.
pub record OnSameAgent (old new : Option HeldAgent) (Without : Type 0)
    (Tells : HeldAgent → Type 0) : Type 0 where
  pub same : new ≡ old
  pub tells : MatchOption old Without Tells
