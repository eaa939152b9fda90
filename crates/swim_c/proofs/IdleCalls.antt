-- Calls that return another status than 0, and those that keep the node.
use Rattle.std.proofs.Common.{◌≡◌, ◌≢◌, ℕ, Bool, List, Option, Some, None, refl, ap}
use Rattle.std.specs.Prelude.{MatchOption}
use Rattle.swim_claim.specs.declared.claim.Claim.{Claim}
use Rattle.swim_claim.specs.Details.{DetailsValue}
use Rattle.swim_table.specs.Node.{NodeValue}
use Rattle.swim_c.specs.declared.buffer.Buffer.{Buffer}
use Rattle.swim_c.specs.Calls.{Call, Hears, IsIdle, first_heard, last_heard, heard_after, in_node}
use Rattle.swim_c.specs.Calls.{hears_datagram, hears_itself, hears_details, hears_reply, hears_offer, hears_wanted, hears_in_form}
use Rattle.swim_c.specs.Calls.{hears_wanted_new, hears_new, hears_no_more, hears_again}
use Rattle.swim_c.specs.Exchanges.{FinishDone, AnswersOffer, AnswerDone, AnsweredInForm}
use Rattle.swim_c.specs.Forgetting.{ForgetDone}
use Rattle.swim_c.specs.Forms.{Wanted}
use Rattle.swim_c.specs.NewBytes.{AnswersNew, AnsweredNew}
use Rattle.swim_c.specs.OnNode.{OnNode}
use Rattle.swim_c.specs.Opening.{OpenDone}
use Rattle.swim_c.specs.Statuses as statuses
use Rattle.swim_c.specs.Taking.{TakeDone, RefuteDone}
use Rattle.swim_c.specs.Updating.{UpdateDone, ReadmitDone}

-- nothing is done to the node, and nothing heard
abbrev pub Nothing : (before after : NodeValue) → (List Claim → List Claim) → Type 0
Nothing before after hearing = (after ≡ before) × ((had : List Claim) → hearing had ≡ had)

-- so it is on another status than 0
abbrev pub Stays : ℕ → (Does : NodeValue → NodeValue → Type 0) → Hears Does → Type 0
Stays status Does hears = status ≢ 0 → (before after : NodeValue) (does : Does before after)
    → Nothing before after (hears before after does)

of_datagram : (bytes : List ℕ) (status : ℕ) → Stays status (TakeDone bytes status) (hears_datagram bytes status)
of_datagram bytes status not before after (TakeDone.taken zero _) = absurd (not zero)
of_datagram bytes status not before after (TakeDone.refused _ _ _ _ same) = (same, λ had. refl)
of_datagram bytes status not before after (TakeDone.memory _ _ same) = (same, λ had. refl)

of_itself : (status : ℕ) (due : Bool) (inc : ℕ) → Stays status (RefuteDone status due inc) (hears_itself status due inc)
of_itself status due inc not before after (RefuteDone.refuted zero _ _ _) = absurd (not zero)
of_itself status due inc not before after (RefuteDone.at_rest _ _ _ _ same) = (same, λ had. refl)
of_itself status due inc not before after (RefuteDone.exhausted _ _ _ _ same) = (same, λ had. refl)
of_itself status due inc not before after (RefuteDone.gone _ _ _ _ _ same) = (same, λ had. refl)
of_itself status due inc not before after (RefuteDone.memory _ _ _ _ same) = (same, λ had. refl)

of_details : (details : DetailsValue) (status : ℕ) (due : Bool) (inc : ℕ)
    → Stays status (UpdateDone details status due inc) (hears_details details status due inc)
of_details details status due inc not before after (UpdateDone.updated zero _) = absurd (not zero)
of_details details status due inc not before after (UpdateDone.unmade _ _ _ same) = (same, λ had. refl)
of_details details status due inc not before after (UpdateDone.refused _ _ same) = (same, λ had. refl)

of_reply : (stream : List ℕ) (status : ℕ) (join : Bool) (used len : ℕ)
    → Stays status (FinishDone stream status join used len) (hears_reply stream status join used len)
of_reply stream status join used len not before after (FinishDone.finished zero _ _) = absurd (not zero)
of_reply stream status join used len not before after (FinishDone.refused _ _ _ _ same) = (same, λ had. refl)

of_offer : (form : Wanted) (stream was out : List ℕ) (status : ℕ) (join : Bool) (used len : ℕ)
    → Stays status (AnswersOffer form stream was out status join used len) (hears_offer form stream was out status join used len)
of_offer form stream was out status join used len not before after (AnswersOffer.answered zero _ _) = absurd (not zero)
of_offer form stream was out status join used len not before after (AnswersOffer.too_small _ _ _ same) = (same, λ had. refl)

of_wanted : (form : Wanted) (stream was out : List ℕ) (status : ℕ) (join : Bool) (used len : ℕ)
    → Stays status (AnswerDone form stream was out status join used len) (hears_wanted form stream was out status join used len)
of_wanted form stream was out status join used len not before after (AnswerDone.answers says) =
    of_offer form stream was out status join used len not before after says
of_wanted form stream was out status join used len not before after (AnswerDone.refused _ _ _ _ same _) = (same, λ had. refl)

of_form : (number : ℕ) (user stream was out : List ℕ) (status : ℕ) (join : Bool) (used len : ℕ)
    → Stays status (AnsweredInForm number user stream was out status join used len)
    (hears_in_form number user stream was out status join used len)
of_form number user stream was out status join used len not before after (AnsweredInForm.in_form form _ says) =
    of_wanted form stream was out status join used len not before after says
of_form number user stream was out status join used len not before after (AnsweredInForm.bad_form _ _ same _) =
    (same, λ had. refl)

of_wanted_new : (form : Wanted) (stream : List ℕ) (was buffer : Buffer) (status : ℕ) (join : Bool) (used len : ℕ)
    → Stays status (AnswersNew form stream was buffer status join used len)
    (hears_wanted_new form stream was buffer status join used len)
of_wanted_new form stream was buffer status join used len not before after (AnswersNew.answered zero _ _ _) = absurd (not zero)
of_wanted_new form stream was buffer status join used len not before after (AnswersNew.refused _ _ _ _ same _) =
    (same, λ had. refl)

of_new : (number : ℕ) (user stream : List ℕ) (was buffer : Buffer) (status : ℕ) (join : Bool) (used len : ℕ)
    → Stays status (AnsweredNew number user stream was buffer status join used len)
    (hears_new number user stream was buffer status join used len)
of_new number user stream was buffer status join used len not before after (AnsweredNew.in_form form _ says) =
    of_wanted_new form stream was buffer status join used len not before after says
of_new number user stream was buffer status join used len not before after (AnsweredNew.bad_form _ _ same _) =
    (same, λ had. refl)

of_no_more : (name : List ℕ) (status : ℕ) → Stays status (ForgetDone name status) (hears_no_more name status)
of_no_more name status not before after (ForgetDone.forgotten zero _) = absurd (not zero)
of_no_more name status not before after (ForgetDone.unknown _ _ same) = (same, λ had. refl)

of_again : (name : List ℕ) (status : ℕ) → Stays status (ReadmitDone name status) (hears_again name status)
of_again name status not before after (ReadmitDone.readmitted _ _ zero _ _ _) = absurd (not zero)
of_again name status not before after (ReadmitDone.unknown _ _ same) = (same, λ had. refl)
of_again name status not before after (ReadmitDone.not_back _ _ _ _ same) = (same, λ had. refl)
of_again name status not before after (ReadmitDone.memory _ _ _ _ same) = (same, λ had. refl)

-- ---- calls

-- nothing is done to the handle, and nothing heard
abbrev pub Idle : (old new : Option NodeValue) → (List Claim → List Claim) → Type 0
Idle old new hearing = (new ≡ old) × ((had : List Claim) → hearing had ≡ had)

on_node : (old new : Option NodeValue) (Without : Type 0) (Does : NodeValue → NodeValue → Type 0) (hears : Hears Does)
    (status : ℕ) → Stays status Does hears → status ≢ 0 → (says : OnNode old new Without Does)
    → Idle old new (in_node old new Without Does hears says)
on_node None None Without Does hears status stays not says = (refl, λ had. refl)
on_node None (Some after) Without Does hears status stays not says = absurd says
on_node (Some before) None Without Does hears status stays not says = absurd says
on_node (Some before) (Some after) Without Does hears status stays not says =
    (ap Some (stays not before after says).0, (stays not before after says).1)

by_opening : (name : List ℕ) (details : DetailsValue) (inc status : ℕ) (own : Claim) (old new : Option NodeValue)
    → OpenDone name details inc old new status → status ≢ 0 → Idle old new (first_heard old new own)
by_opening name details inc status own None None says not = (refl, λ had. refl)
by_opening name details inc status own None (Some after) says not = absurd (not says.0)
by_opening name details inc status own (Some before) new says not = (says.1, λ had. refl)

by_closing : (status : ℕ) (old new : Option NodeValue) → new ≡ None
    → MatchOption old (status ≡ statuses.no_node) (λ held. status ≡ 0) → status ≢ 0 → Idle old new (last_heard old)
by_closing status None new gone says not = (gone, λ had. refl)
by_closing status (Some before) new gone says not = absurd (not says)

idle : (old new : Option NodeValue) (call : Call old new) → IsIdle call → Idle old new (heard_after old new call)
idle old new (Call.opened name details inc status says) not = by_opening name details inc status _ old new says not
idle old new (Call.closed status gone says) not = by_closing status old new gone says not
idle old new (Call.updated details result says) not =
    on_node old new _ _ _ result.status (of_details details result.status result.due result.inc) not says
idle old new (Call.took bytes result says) not =
    on_node old new _ _ _ result.status (of_datagram bytes result.status) not says
idle old new (Call.refuted result says) not =
    on_node old new _ _ _ result.status (of_itself result.status result.due result.inc) not says
idle old new (Call.answered form user stream was out result says) not =
    on_node old new _ _ _ result.status
    (of_form form user stream was out result.status result.join result.used result.len) not says
idle old new (Call.answered_new form user stream was buffer result says) not =
    on_node old new _ _ _ result.status
    (of_new form user stream was buffer result.status result.join result.used result.len) not says
idle old new (Call.finished stream result says) not =
    on_node old new _ _ _ result.status (of_reply stream result.status result.join result.used result.len) not says
idle old new (Call.forgot name status says) not = on_node old new _ _ _ status (of_no_more name status) not says
idle old new (Call.readmitted name status says) not = on_node old new _ _ _ status (of_again name status) not says
idle old new (Call.kept same) not = (same, λ had. refl)

pub idle_stays : (old new : Option NodeValue) (call : Call old new) → IsIdle call → new ≡ old
idle_stays old new call not = (idle old new call not).0

pub idle_hears_nothing : (old new : Option NodeValue) (call : Call old new) (had : List Claim) → IsIdle call
    → heard_after old new call had ≡ had
idle_hears_nothing old new call had not = (idle old new call not).1 had
