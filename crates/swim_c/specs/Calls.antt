-- Calls on one handle in a row, each in the words of its contract, and what its node has heard
-- after them.
use Rattle.std.specs.Prelude.{◌≡◌, ◌≢◌, ℕ, Bool, List, [], ◌∷◌, ◌++◌, map, Option, Some, None, MatchOption}
use Rattle.swim_claim.specs.declared.claim.Claim.{Claim}
use Rattle.swim_claim.specs.declared.claim.Claim.TheVariants.{Alive}
use Rattle.swim_claim.specs.Details.{DetailsValue}
use Rattle.swim_table.specs.Node.{NodeValue}
use Rattle.swim_table.specs.Table.{TableOf, about_others}
use Rattle.swim_c.specs.declared.buffer.Buffer.{Buffer}
use Rattle.swim_c.specs.declared.exchanging.Exchanged.{Exchanged}
use Rattle.swim_c.specs.declared.refuting.Refuted.{Refuted}
use Rattle.swim_c.specs.declared.take.Taken.{Taken}
use Rattle.swim_c.specs.Called.{UpdateCalled, TakeCalled, RefuteCalled, AnswerCalled, AnswerNewCalled, FinishCalled}
use Rattle.swim_c.specs.Called.{ForgetCalled, ReadmitCalled}
use Rattle.swim_c.specs.Exchanges.{FinishDone, AnswersOffer, AnswerDone, AnsweredInForm}
use Rattle.swim_c.specs.Forgetting.{ForgetDone}
use Rattle.swim_c.specs.Forms.{Wanted}
use Rattle.swim_c.specs.NewBytes.{AnswersNew, AnsweredNew}
use Rattle.swim_c.specs.OnNode.{OnNode}
use Rattle.swim_c.specs.Opening.{OpenDone}
use Rattle.swim_c.specs.Taking.{TakeDone, RefuteDone}
use Rattle.swim_c.specs.Updating.{with_details, UpdateDone, ReadmitDone}
use Rattle.swim_c.specs.Statuses as statuses

-- ---- calls

-- A call on a handle, with what it was given and what it returned; and what its contract says about
-- the node before and after. A call that is not named here keeps the node: it reads it, or writes
-- packets of its member or streams, or is about the names that it noted.
pub data Call (old new : Option NodeValue) : Type 0 where
  opened : (name : List ℕ) (details : DetailsValue) (inc status : ℕ)
      → OpenDone name details inc old new status → Call old new
  closed : (status : ℕ) → new ≡ None
      → MatchOption old (status ≡ statuses.no_node) (λ held. status ≡ 0) → Call old new
  updated : (details : DetailsValue) (result : Refuted) → UpdateCalled details result old new
      → Call old new
  took : (bytes : List ℕ) (result : Taken) → TakeCalled bytes result old new → Call old new
  refuted : (result : Refuted) → RefuteCalled result old new → Call old new
  answered : (form : ℕ) (user stream was out : List ℕ) (result : Exchanged)
      → AnswerCalled form user stream was out result old new → Call old new
  answered_new : (form : ℕ) (user stream : List ℕ) (was buffer : Buffer) (result : Exchanged)
      → AnswerNewCalled form user stream was buffer result old new → Call old new
  finished : (stream : List ℕ) (result : Exchanged) → FinishCalled stream result old new
      → Call old new
  forgot : (name : List ℕ) (status : ℕ) → ForgetCalled name status old new → Call old new
  readmitted : (name : List ℕ) (status : ℕ) → ReadmitCalled name status old new → Call old new
  kept : new ≡ old → Call old new

-- calls on one handle, one after another
pub data Calls : Option NodeValue → Option NodeValue → Type 0 where
  no_call : (node : Option NodeValue) → Calls node node
  first_call : (old mid new : Option NodeValue) → Call old mid → Calls mid new → Calls old new

-- the call returned another status than 0, or is one of those that keep the node
abbrev pub IsIdle : {old new : Option NodeValue} → Call old new → Type 0
IsIdle (Call.opened _ _ _ status _) = status ≢ 0
IsIdle (Call.closed status _ _) = status ≢ 0
IsIdle (Call.updated _ result _) = result.status ≢ 0
IsIdle (Call.took _ result _) = result.status ≢ 0
IsIdle (Call.refuted result _) = result.status ≢ 0
IsIdle (Call.answered _ _ _ _ _ result _) = result.status ≢ 0
IsIdle (Call.answered_new _ _ _ _ _ result _) = result.status ≢ 0
IsIdle (Call.finished _ result _) = result.status ≢ 0
IsIdle (Call.forgot _ status _) = status ≢ 0
IsIdle (Call.readmitted _ status _) = status ≢ 0
IsIdle (Call.kept _) = Unit {0}

-- ---- what is heard

-- what a node has heard after what was done to it, if it had heard these claims before
abbrev pub Hears : (NodeValue → NodeValue → Type 0) → Type 0
Hears Does = (before after : NodeValue) → Does before after → List Claim → List Claim

-- the claims of a datagram, if it was taken in
abbrev pub hears_datagram : (bytes : List ℕ) (status : ℕ) → Hears (TakeDone bytes status)
hears_datagram bytes status before after (TakeDone.taken _ takes) had =
    had ++ map (λ p. p.claim) takes.packets
hears_datagram bytes status before after (TakeDone.refused _ _ _ _ _) had = had
hears_datagram bytes status before after (TakeDone.memory _ _ _) had = had

-- the member's own Alive, if it refuted
abbrev pub hears_itself : (status : ℕ) (due : Bool) (inc : ℕ) → Hears (RefuteDone status due inc)
hears_itself status due inc before after (RefuteDone.refuted _ _ _ _) had =
    had ++ Alive before.name inc before.details ∷ []
hears_itself status due inc before after (RefuteDone.at_rest _ _ _ _ _) had = had
hears_itself status due inc before after (RefuteDone.exhausted _ _ _ _ _) had = had
hears_itself status due inc before after (RefuteDone.gone _ _ _ _ _ _) had = had
hears_itself status due inc before after (RefuteDone.memory _ _ _ _ _) had = had

-- the same with other details
abbrev pub hears_details : (details : DetailsValue) (status : ℕ) (due : Bool) (inc : ℕ)
    → Hears (UpdateDone details status due inc)
hears_details details status due inc before after (UpdateDone.updated _ refutes) had =
    hears_itself status due inc (with_details before details) after refutes had
hears_details details status due inc before after (UpdateDone.unmade _ _ _ _) had = had
hears_details details status due inc before after (UpdateDone.refused _ _ _) had = had

-- the claims of a stream, if it was taken in
abbrev pub hears_reply : (stream : List ℕ) (status : ℕ) (join : Bool) (used len : ℕ)
    → Hears (FinishDone stream status join used len)
hears_reply stream status join used len before after (FinishDone.finished _ _ takes) had =
    had ++ takes.claims
hears_reply stream status join used len before after (FinishDone.refused _ _ _ _ _) had = had

-- the claims of a stream, if it was taken in and answered
abbrev pub hears_offer : (form : Wanted) (stream was out : List ℕ) (status : ℕ) (join : Bool)
    (used len : ℕ) → Hears (AnswersOffer form stream was out status join used len)
hears_offer form stream was out status join used len before after
    (AnswersOffer.answered _ takes _) had = had ++ takes.claims
hears_offer form stream was out status join used len before after
    (AnswersOffer.too_small _ _ _ _) had = had

abbrev pub hears_wanted : (form : Wanted) (stream was out : List ℕ) (status : ℕ) (join : Bool)
    (used len : ℕ) → Hears (AnswerDone form stream was out status join used len)
hears_wanted form stream was out status join used len before after (AnswerDone.answers says) had =
    hears_offer form stream was out status join used len before after says had
hears_wanted form stream was out status join used len before after
    (AnswerDone.refused _ _ _ _ _ _) had = had

abbrev pub hears_in_form : (number : ℕ) (user stream was out : List ℕ) (status : ℕ) (join : Bool)
    (used len : ℕ) → Hears (AnsweredInForm number user stream was out status join used len)
hears_in_form number user stream was out status join used len before after
    (AnsweredInForm.in_form form _ says) had =
    hears_wanted form stream was out status join used len before after says had
hears_in_form number user stream was out status join used len before after
    (AnsweredInForm.bad_form _ _ _ _) had = had

-- the same where the reply is in the library's memory
abbrev pub hears_wanted_new : (form : Wanted) (stream : List ℕ) (was buffer : Buffer) (status : ℕ)
    (join : Bool) (used len : ℕ) → Hears (AnswersNew form stream was buffer status join used len)
hears_wanted_new form stream was buffer status join used len before after
    (AnswersNew.answered _ takes _ _) had = had ++ takes.claims
hears_wanted_new form stream was buffer status join used len before after
    (AnswersNew.refused _ _ _ _ _ _) had = had

abbrev pub hears_new : (number : ℕ) (user stream : List ℕ) (was buffer : Buffer) (status : ℕ)
    (join : Bool) (used len : ℕ)
    → Hears (AnsweredNew number user stream was buffer status join used len)
hears_new number user stream was buffer status join used len before after
    (AnsweredNew.in_form form _ says) had =
    hears_wanted_new form stream was buffer status join used len before after says had
hears_new number user stream was buffer status join used len before after
    (AnsweredNew.bad_form _ _ _ _) had = had

-- no claim about a name any more, if it was forgotten
abbrev pub hears_no_more : (name : List ℕ) (status : ℕ) → Hears (ForgetDone name status)
hears_no_more name status before after (ForgetDone.forgotten _ _) had = about_others name had
hears_no_more name status before after (ForgetDone.unknown _ _ _) had = had

-- of the claims about a name only its newest Alive, if it was readmitted
abbrev pub hears_again : (name : List ℕ) (status : ℕ) → Hears (ReadmitDone name status)
hears_again name status before after (ReadmitDone.readmitted _ alive _ _ _ _) had =
    about_others name had ++ alive ∷ []
hears_again name status before after (ReadmitDone.unknown _ _ _) had = had
hears_again name status before after (ReadmitDone.not_back _ _ _ _ _) had = had
hears_again name status before after (ReadmitDone.memory _ _ _ _ _) had = had

-- without a node nothing is heard
abbrev pub in_node : (old new : Option NodeValue) (Without : Type 0)
    (Does : NodeValue → NodeValue → Type 0) → Hears Does → OnNode old new Without Does
    → List Claim → List Claim
in_node None None Without Does hears says had = had
in_node None (Some after) Without Does hears says had = had
in_node (Some before) None Without Does hears says had = had
in_node (Some before) (Some after) Without Does hears says had = hears before after says had

-- a node begins with its member's own Alive
abbrev pub first_heard : Option NodeValue → Option NodeValue → Claim → List Claim → List Claim
first_heard None (Some after) own had = own ∷ []
first_heard None None own had = had
first_heard (Some before) new own had = had

-- a handle that is closed has heard nothing
abbrev pub last_heard : Option NodeValue → List Claim → List Claim
last_heard None had = had
last_heard (Some before) had = []

-- what was heard after a call on a handle, if these claims were before
abbrev pub heard_after : (old new : Option NodeValue) → Call old new → List Claim → List Claim
heard_after old new (Call.opened name details inc status says) had =
    first_heard old new (Alive name inc details) had
heard_after old new (Call.closed status gone says) had = last_heard old had
heard_after old new (Call.updated details result says) had =
    in_node old new _ _ (hears_details details result.status result.due result.inc) says had
heard_after old new (Call.took bytes result says) had =
    in_node old new _ _ (hears_datagram bytes result.status) says had
heard_after old new (Call.refuted result says) had =
    in_node old new _ _ (hears_itself result.status result.due result.inc) says had
heard_after old new (Call.answered form user stream was out result says) had =
    in_node old new _ _
    (hears_in_form form user stream was out result.status result.join result.used result.len)
    says had
heard_after old new (Call.answered_new form user stream was buffer result says) had =
    in_node old new _ _
    (hears_new form user stream was buffer result.status result.join result.used result.len)
    says had
heard_after old new (Call.finished stream result says) had =
    in_node old new _ _ (hears_reply stream result.status result.join result.used result.len)
    says had
heard_after old new (Call.forgot name status says) had =
    in_node old new _ _ (hears_no_more name status) says had
heard_after old new (Call.readmitted name status says) had =
    in_node old new _ _ (hears_again name status) says had
heard_after old new (Call.kept same) had = had

-- what was heard after calls in a row
abbrev pub heard : {old new : Option NodeValue} → Calls old new → List Claim → List Claim
heard (Calls.no_call _) had = had
heard (Calls.first_call old mid _ call calls) had = heard calls (heard_after old mid call had)

-- the node has the table of these claims; without a node nothing was heard
abbrev pub HasHeard : Option NodeValue → List Claim → Type 0
HasHeard None claims = claims ≡ []
HasHeard (Some node) claims = TableOf node.table claims
