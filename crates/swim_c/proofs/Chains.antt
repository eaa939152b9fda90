-- Calls on one handle in a row: the table of its node is that of what was heard.
use Rattle.std.proofs.Common.{◌≡◌, ℕ, Bool, List, [], Option, Some, None, refl, sym, ap, subst}
use Rattle.swim_claim.specs.declared.claim.Claim.{Claim}
use Rattle.swim_claim.specs.Details.{DetailsValue}
use Rattle.swim_table.specs.Listing.{listing}
use Rattle.swim_table.specs.Node.{NodeValue}
use Rattle.swim_table.specs.Table.{Entries, TableOf, Same}
use Rattle.swim_table.proofs.Tables.{TableOf-unique}
use Rattle.swim_c.specs.declared.buffer.Buffer.{Buffer}
use Rattle.swim_c.specs.Calls.{Call, Calls, HasHeard, Hears, first_heard, last_heard, heard, heard_after, in_node}
use Rattle.swim_c.specs.Calls.{hears_datagram, hears_itself, hears_details, hears_reply, hears_offer, hears_wanted, hears_in_form}
use Rattle.swim_c.specs.Calls.{hears_wanted_new, hears_new, hears_no_more, hears_again}
use Rattle.swim_c.specs.Exchanges.{FinishDone, AnswersOffer, AnswerDone, AnsweredInForm}
use Rattle.swim_c.specs.Forgetting.{ForgetDone}
use Rattle.swim_c.specs.Forms.{Wanted, bytes_in}
use Rattle.swim_c.specs.NewBytes.{AnswersNew, AnsweredNew}
use Rattle.swim_c.specs.OnNode.{OnNode}
use Rattle.swim_c.specs.Opening.{OpenDone}
use Rattle.swim_c.specs.Taking.{TakeDone, RefuteDone}
use Rattle.swim_c.specs.Updating.{with_details, UpdateDone, ReadmitDone}

-- ---- what is done to a node

-- if the table was that of what was heard, it is again
abbrev pub Keeps : (Does : NodeValue → NodeValue → Type 0) → Hears Does → Type 0
Keeps Does hears = (before after : NodeValue) (does : Does before after) (had : List Claim)
    → TableOf before.table had → TableOf after.table (hears before after does had)

same_table : (before after : NodeValue) → after ≡ before → (had : List Claim) → TableOf before.table had → TableOf after.table had
same_table before after same had h = subst (λ (n : NodeValue). TableOf n.table had) (sym same) h

keeps_datagram : (bytes : List ℕ) (status : ℕ) → Keeps (TakeDone bytes status) (hears_datagram bytes status)
keeps_datagram bytes status before after (TakeDone.taken _ takes) had h = takes.taken.all had h
keeps_datagram bytes status before after (TakeDone.refused _ _ _ _ same) had h = same_table before after same had h
keeps_datagram bytes status before after (TakeDone.memory _ _ same) had h = same_table before after same had h

keeps_itself : (status : ℕ) (due : Bool) (inc : ℕ) → Keeps (RefuteDone status due inc) (hears_itself status due inc)
keeps_itself status due inc before after (RefuteDone.refuted _ _ made _) had h = made.taken.all had h
keeps_itself status due inc before after (RefuteDone.at_rest _ _ _ _ same) had h = same_table before after same had h
keeps_itself status due inc before after (RefuteDone.exhausted _ _ _ _ same) had h = same_table before after same had h
keeps_itself status due inc before after (RefuteDone.gone _ _ _ _ _ same) had h = same_table before after same had h
keeps_itself status due inc before after (RefuteDone.memory _ _ _ _ same) had h = same_table before after same had h

keeps_details : (details : DetailsValue) (status : ℕ) (due : Bool) (inc : ℕ)
    → Keeps (UpdateDone details status due inc) (hears_details details status due inc)
keeps_details details status due inc before after (UpdateDone.updated _ refutes) had h =
    keeps_itself status due inc (with_details before details) after refutes had h
keeps_details details status due inc before after (UpdateDone.unmade _ _ _ same) had h = same_table before after same had h
keeps_details details status due inc before after (UpdateDone.refused _ _ same) had h = same_table before after same had h

keeps_reply : (stream : List ℕ) (status : ℕ) (join : Bool) (used len : ℕ)
    → Keeps (FinishDone stream status join used len) (hears_reply stream status join used len)
keeps_reply stream status join used len before after (FinishDone.finished _ _ takes) had h = takes.taken.all had h
keeps_reply stream status join used len before after (FinishDone.refused _ _ _ _ same) had h =
    same_table before after same had h

keeps_offer : (form : Wanted) (stream was out : List ℕ) (status : ℕ) (join : Bool) (used len : ℕ)
    → Keeps (AnswersOffer form stream was out status join used len) (hears_offer form stream was out status join used len)
keeps_offer form stream was out status join used len before after (AnswersOffer.answered _ takes _) had h =
    takes.taken.all had h
keeps_offer form stream was out status join used len before after (AnswersOffer.too_small _ _ _ same) had h =
    same_table before after same had h

keeps_wanted : (form : Wanted) (stream was out : List ℕ) (status : ℕ) (join : Bool) (used len : ℕ)
    → Keeps (AnswerDone form stream was out status join used len) (hears_wanted form stream was out status join used len)
keeps_wanted form stream was out status join used len before after (AnswerDone.answers says) had h =
    keeps_offer form stream was out status join used len before after says had h
keeps_wanted form stream was out status join used len before after (AnswerDone.refused _ _ _ _ same _) had h =
    same_table before after same had h

keeps_in_form : (number : ℕ) (user stream was out : List ℕ) (status : ℕ) (join : Bool) (used len : ℕ)
    → Keeps (AnsweredInForm number user stream was out status join used len)
    (hears_in_form number user stream was out status join used len)
keeps_in_form number user stream was out status join used len before after (AnsweredInForm.in_form form _ says) had h =
    keeps_wanted form stream was out status join used len before after says had h
keeps_in_form number user stream was out status join used len before after (AnsweredInForm.bad_form _ _ same _) had h =
    same_table before after same had h

keeps_wanted_new : (form : Wanted) (stream : List ℕ) (was buffer : Buffer) (status : ℕ) (join : Bool) (used len : ℕ)
    → Keeps (AnswersNew form stream was buffer status join used len) (hears_wanted_new form stream was buffer status join used len)
keeps_wanted_new form stream was buffer status join used len before after (AnswersNew.answered _ takes _ _) had h =
    takes.taken.all had h
keeps_wanted_new form stream was buffer status join used len before after (AnswersNew.refused _ _ _ _ same _) had h =
    same_table before after same had h

keeps_new : (number : ℕ) (user stream : List ℕ) (was buffer : Buffer) (status : ℕ) (join : Bool) (used len : ℕ)
    → Keeps (AnsweredNew number user stream was buffer status join used len)
    (hears_new number user stream was buffer status join used len)
keeps_new number user stream was buffer status join used len before after (AnsweredNew.in_form form _ says) had h =
    keeps_wanted_new form stream was buffer status join used len before after says had h
keeps_new number user stream was buffer status join used len before after (AnsweredNew.bad_form _ _ same _) had h =
    same_table before after same had h

keeps_no_more : (name : List ℕ) (status : ℕ) → Keeps (ForgetDone name status) (hears_no_more name status)
keeps_no_more name status before after (ForgetDone.forgotten _ forgets) had h = forgets.all had h
keeps_no_more name status before after (ForgetDone.unknown _ _ same) had h = same_table before after same had h

keeps_again : (name : List ℕ) (status : ℕ) → Keeps (ReadmitDone name status) (hears_again name status)
keeps_again name status before after (ReadmitDone.readmitted _ _ _ _ _ takes) had h = takes.all had h
keeps_again name status before after (ReadmitDone.unknown _ _ same) had h = same_table before after same had h
keeps_again name status before after (ReadmitDone.not_back _ _ _ _ same) had h = same_table before after same had h
keeps_again name status before after (ReadmitDone.memory _ _ _ _ same) had h = same_table before after same had h

-- ---- calls

on_node : (old new : Option NodeValue) (Without : Type 0) (Does : NodeValue → NodeValue → Type 0) (hears : Hears Does)
    → Keeps Does hears → (says : OnNode old new Without Does) (had : List Claim) → HasHeard old had
    → HasHeard new (in_node old new Without Does hears says had)
on_node None None Without Does hears keeps says had h = h
on_node None (Some after) Without Does hears keeps says had h = absurd says
on_node (Some before) None Without Does hears keeps says had h = absurd says
on_node (Some before) (Some after) Without Does hears keeps says had h = keeps before after says had h

same_node : (old new : Option NodeValue) → new ≡ old → (had : List Claim) → HasHeard old had → HasHeard new had
same_node old new same had h = subst (λ (o : Option NodeValue). HasHeard o had) (sym same) h

by_opening : (name : List ℕ) (details : DetailsValue) (inc status : ℕ) (old new : Option NodeValue)
    → OpenDone name details inc old new status → (had : List Claim) → HasHeard old had
    → HasHeard new (first_heard old new (Claim.Alive name inc details) had)
by_opening name details inc status None None says had h = h
by_opening name details inc status None (Some after) says had h = says.1.start
by_opening name details inc status (Some before) new says had h = same_node (Some before) new says.1 had h

by_closing : (old new : Option NodeValue) → new ≡ None → (had : List Claim) → HasHeard old had → HasHeard new (last_heard old had)
by_closing None new gone had h = same_node None new gone had h
by_closing (Some before) new gone had h = same_node None new gone [] refl

after_call : (old new : Option NodeValue) (call : Call old new) (had : List Claim) → HasHeard old had
    → HasHeard new (heard_after old new call had)
after_call old new (Call.opened name details inc status says) had h = by_opening name details inc status old new says had h
after_call old new (Call.closed _ gone _) had h = by_closing old new gone had h
after_call old new (Call.updated details result says) had h =
    on_node old new _ _ _ (keeps_details details result.status result.due result.inc) says had h
after_call old new (Call.took bytes result says) had h = on_node old new _ _ _ (keeps_datagram bytes result.status) says had h
after_call old new (Call.refuted result says) had h =
    on_node old new _ _ _ (keeps_itself result.status result.due result.inc) says had h
after_call old new (Call.answered form user stream was out result says) had h =
    on_node old new _ _ _ (keeps_in_form form user stream was out result.status result.join result.used result.len) says had h
after_call old new (Call.answered_new form user stream was buffer result says) had h =
    on_node old new _ _ _ (keeps_new form user stream was buffer result.status result.join result.used result.len) says had h
after_call old new (Call.finished stream result says) had h =
    on_node old new _ _ _ (keeps_reply stream result.status result.join result.used result.len) says had h
after_call old new (Call.forgot name status says) had h = on_node old new _ _ _ (keeps_no_more name status) says had h
after_call old new (Call.readmitted name status says) had h = on_node old new _ _ _ (keeps_again name status) says had h
after_call old new (Call.kept same) had h = same_node old new same had h

pub after_calls : (old new : Option NodeValue) (calls : Calls old new) (had : List Claim) → HasHeard old had
    → HasHeard new (heard calls had)
after_calls before after (Calls.no_call _) had h = h
after_calls before after (Calls.first_call old mid new call calls) had h =
    after_calls mid new calls (heard_after old mid call had) (after_call old mid call had h)

pub from_nothing : (node : NodeValue) (calls : Calls None (Some node)) → TableOf node.table (heard calls [])
from_nothing node calls = after_calls None (Some node) calls [] refl

-- ---- two handles

pub one_table : (node other : NodeValue) (calls : Calls None (Some node)) (others : Calls None (Some other))
    → Same (heard calls []) (heard others []) → node.table ≡ other.table
one_table node other calls others same = TableOf-unique node.table other.table
    (heard calls []) (heard others []) (from_nothing node calls) (from_nothing other others) same

pub one_listing : (node other : NodeValue) (calls : Calls None (Some node)) (others : Calls None (Some other))
    → Same (heard calls []) (heard others []) → listing node.table ≡ listing other.table
one_listing node other calls others same = ap listing (one_table node other calls others same)

pub one_dump : (node other : NodeValue) (calls : Calls None (Some node)) (others : Calls None (Some other))
    → Same (heard calls []) (heard others [])
    → (form : Wanted) (join : Bool) → bytes_in form node.table join ≡ bytes_in form other.table join
one_dump node other calls others same form join =
    ap (λ (t : Entries). bytes_in form t join) (one_table node other calls others same)
