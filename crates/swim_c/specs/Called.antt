-- What the contracts of the calls that may change a handle's node say about it, before and after.
-- Of opening see OpenDone.
use Rattle.std.specs.Prelude.{◌≡◌, ℕ, false, List, Option}
use Rattle.swim_claim.specs.Details.{DetailsValue}
use Rattle.swim_table.specs.Node.{NodeValue}
use Rattle.swim_c.specs.declared.buffer.Buffer.{Buffer}
use Rattle.swim_c.specs.declared.exchanging.Exchanged.{Exchanged}
use Rattle.swim_c.specs.declared.refuting.Refuted.{Refuted}
use Rattle.swim_c.specs.declared.take.Taken.{Taken}
use Rattle.swim_c.specs.Exchanges.{FinishDone, AnsweredInForm}
use Rattle.swim_c.specs.Forgetting.{ForgetDone}
use Rattle.swim_c.specs.NewBytes.{AnsweredNew}
use Rattle.swim_c.specs.OnNode.{OnNode}
use Rattle.swim_c.specs.Taking.{TakeDone, RefuteDone}
use Rattle.swim_c.specs.Updating.{UpdateDone, ReadmitDone}
use Rattle.swim_c.specs.Statuses as statuses

-- what calls return that need a node and have none
abbrev pub taken_by_none : Taken
taken_by_none = record { status = statuses.no_node; news = false }

abbrev pub refuted_by_none : Refuted
refuted_by_none = record { status = statuses.no_node; due = false; inc = 0 }

abbrev pub exchanged_by_none : Exchanged
exchanged_by_none =
    record { status = statuses.no_node; join = false; news = false; used = 0; len = 0 }

-- these bytes were given to be taken in
abbrev pub TakeCalled : List ℕ → Taken → Option NodeValue → Option NodeValue → Type 0
TakeCalled bytes result old new =
    OnNode old new (result ≡ taken_by_none) (TakeDone bytes result.status)

-- a refutation was asked for
abbrev pub RefuteCalled : Refuted → Option NodeValue → Option NodeValue → Type 0
RefuteCalled result old new = OnNode old new (result ≡ refuted_by_none)
    (RefuteDone result.status result.due result.inc)

-- the member was given these details
abbrev pub UpdateCalled : DetailsValue → Refuted → Option NodeValue → Option NodeValue → Type 0
UpdateCalled details result old new = OnNode old new (result ≡ refuted_by_none)
    (UpdateDone details result.status result.due result.inc)

-- a stream was to be answered in the form with this number and with this user state, into a buffer
-- of the caller with these bytes before and after
abbrev pub AnswerCalled : ℕ → List ℕ → List ℕ → List ℕ → List ℕ → Exchanged
    → Option NodeValue → Option NodeValue → Type 0
AnswerCalled form user stream was is result old new =
    OnNode old new ((result ≡ exchanged_by_none) × (is ≡ was))
    (AnsweredInForm form user stream was is result.status result.join result.used result.len)

-- the same, into a buffer of the library
abbrev pub AnswerNewCalled : ℕ → List ℕ → List ℕ → Buffer → Buffer → Exchanged
    → Option NodeValue → Option NodeValue → Type 0
AnswerNewCalled form user stream was is result old new =
    OnNode old new ((result ≡ exchanged_by_none) × (is ≡ was))
    (AnsweredNew form user stream was is result.status result.join result.used result.len)

-- a stream was given to be taken in
abbrev pub FinishCalled : List ℕ → Exchanged → Option NodeValue → Option NodeValue → Type 0
FinishCalled stream result old new = OnNode old new (result ≡ exchanged_by_none)
    (FinishDone stream result.status result.join result.used result.len)

-- a name was to be forgotten
abbrev pub ForgetCalled : List ℕ → ℕ → Option NodeValue → Option NodeValue → Type 0
ForgetCalled name status old new = OnNode old new (status ≡ statuses.no_node)
    (ForgetDone name status)

-- the member of a name was to be believed again
abbrev pub ReadmitCalled : List ℕ → ℕ → Option NodeValue → Option NodeValue → Type 0
ReadmitCalled name status old new = OnNode old new (status ≡ statuses.no_node)
    (ReadmitDone name status)
