-- What a view's handle owns, and what is told to a view.
use base.Fml.{Fml}
use base.Stored.{Coded}
use denote.RawPtr.{Ptr}
use Rattle.std.specs.Prelude.{◌≡◌, ℕ, Bool, false, List, [], Option, Some, None, Ok, Err, MatchOption, IfSome}
use Rattle.std.specs.Coded.{coded_option}
use Rattle.swim_claim.specs.declared.claim.Claim.{Claim}
use Rattle.swim_wire.specs.declared.fault.WireFault.{WireFault}
use Rattle.swim_wire.specs.Fault.{wire_number}
use Rattle.swim_wire.specs.Packet.{PacketValue}
use Rattle.memberlist_message.specs.Messages.{MessageValue, message_of}
use Rattle.memberlist_message.specs.Messages.MessageValue.{claim}
use Rattle.memberlist_view.specs.declared.event.Event.{Event}
use Rattle.memberlist_view.specs.declared.event.Event.TheVariants.{Joined, Known, Seen, Back, Updated, Renewed, Refuted}
use Rattle.memberlist_view.specs.declared.event.Event.TheVariants.{Suspected, AlsoSuspected, Dead, Left, Conflict}
use Rattle.memberlist_view.specs.declared.heard.Heard.{Heard}
use Rattle.memberlist_view.specs.Heard.{about, accuser_of, said_in_packet, said_in_record}
use Rattle.memberlist_view.specs.Member.{member_event_of, member_view_after}
use Rattle.memberlist_view.specs.Told.{ViewValue, entry_of}
use Rattle.swim_c.specs.contracts.view.held.HeldView.{the_row}
use Rattle.swim_c.specs.declared.view.held.HeldView.{HeldView}
use Rattle.swim_c.specs.declared.view.shown.Shown.{Shown}
use Rattle.swim_c.specs.declared.progress.Progress.{Progress}
use Rattle.swim_c.specs.Handle.{holds}
use Rattle.swim_c.specs.Progressing.{HasBegun, StopsAt, TakesRecord}
use Rattle.swim_c.specs.ViewMembers.{IsShown}
use Rattle.swim_c.specs.Statuses as statuses

-- how proofs distinguish a view from another one, and from none
abbrev pub view_coded : Coded (Option the_row.Denot)
view_coded = coded_option the_row.coded

-- a view and the right to free its block, if the handle has one
abbrev pub view_owns : Ptr → Bool → Option the_row.Denot → Fml
view_owns = holds the_row

-- the numbers of events; 0 is none
abbrev pub number_of : Event → ℕ
number_of Joined = 1
number_of Known = 2
number_of Back = 3
number_of Updated = 4
number_of Renewed = 5
number_of Refuted = 6
number_of Suspected = 7
number_of AlsoSuspected = 8
number_of Dead = 9
number_of Left = 10
number_of Conflict = 11
number_of Seen = 12

abbrev pub event_number : Option Event → ℕ
event_number None = 0
event_number (Some event) = number_of event

-- what a packet says at this time
abbrev pub heard_in_packet : ℕ → PacketValue → Heard
heard_in_packet time packet =
    record { time = time; said = said_in_packet packet.claim (accuser_of packet.from) }

-- what a record of a stream says at this time; nobody joins by one
abbrev pub heard_in_record : ℕ → Claim → Heard
heard_in_record time c = record { time = time; said = said_in_record c false }

-- The view heard this as a member does. The event is returned, and if there is one, the data are
-- what the view then shows of the member.
pub record Hears (heard : Heard) (event : ℕ) (before after : ViewValue)
    (old new : Shown) : Type 0 where
  pub view : after ≡ member_view_after before heard
  pub event_is : event ≡ event_number (member_event_of before heard)
  pub data_are : MatchOption (member_event_of before heard) (new ≡ old)
      (λ _. IfSome (entry_of after (about heard.said))
      (λ entry. IsShown (about heard.said) entry new))

-- nothing was heard
pub record IsUnheard (event : ℕ) (before after : ViewValue) (old new : Shown) : Type 0 where
  pub view : after ≡ before
  pub event_is : event ≡ 0
  pub data_are : new ≡ old

-- It was heard (0), or memory was refused (10).
pub data HearDone (heard : Heard) (status event : ℕ) (before after : ViewValue)
    (old new : Shown) : Type 0 where
  done : status ≡ 0 → Hears heard event before after old new
      → HearDone heard status event before after old new
  memory : status ≡ statuses.memory → IsUnheard event before after old new
      → HearDone heard status event before after old new

-- The view heard the claim of the message, if it makes one; otherwise nothing (16).
abbrev pub Heeds : ℕ → MessageValue → ℕ → ℕ → ViewValue → ViewValue → Shown → Shown → Type 0
Heeds time (claim packet) status event before after old new =
    HearDone (heard_in_packet time packet) status event before after old new
Heeds time m status event before after old new =
    (status ≡ statuses.wrong_type) × IsUnheard event before after old new

-- There is a message, and the view heard its claim if it makes one. Or it heard nothing: the bytes
-- are none, and the status is that of the fault at which reading stops; or memory was refused (10).
pub data MessageTold (time : ℕ) (text : List ℕ) (status event : ℕ) (before after : ViewValue)
    (old new : Shown) : Type 0 where
  message : (m : MessageValue) → message_of text ≡ Ok m
      → Heeds time m status event before after old new
      → MessageTold time text status event before after old new
  refused : (fault : WireFault) → message_of text ≡ Err fault → status ≡ wire_number fault
      → IsUnheard event before after old new
      → MessageTold time text status event before after old new
  memory : status ≡ statuses.memory → IsUnheard event before after old new
      → MessageTold time text status event before after old new

-- The view heard the next record, which was read (0). Or it heard nothing: no record is left (71);
-- there is no record, and the status is that of the fault at which reading stops; or memory was
-- refused (10), and the record is still to be read.
pub data RecordTold (time : ℕ) (bytes : List ℕ) (p q : Progress) (status event : ℕ)
    (before after : ViewValue) (old new : Shown) : Type 0 where
  told : (begun : Progress) (c : Claim) → HasBegun bytes p begun → TakesRecord bytes begun q c
      → status ≡ 0 → Hears (heard_in_record time c) event before after old new
      → RecordTold time bytes p q status event before after old new
  over : HasBegun bytes p q → q.left ≡ 0 → status ≡ statuses.no_item
      → IsUnheard event before after old new
      → RecordTold time bytes p q status event before after old new
  refused : (fault : WireFault) → StopsAt q fault bytes → status ≡ wire_number fault
      → IsUnheard event before after old new
      → RecordTold time bytes p q status event before after old new
  memory : status ≡ statuses.memory → q ≡ p → IsUnheard event before after old new
      → RecordTold time bytes p q status event before after old new

-- If the handle has a view, the call does this to it, and the handle keeps it. If it has none, it
-- gets none.
abbrev pub OnView : Option HeldView → Option HeldView → Type 0
    → (ViewValue → ViewValue → Type 0) → Type 0
OnView None None Without Does = Without
OnView None (Some after) Without Does = ⊥
OnView (Some before) None Without Does = ⊥
OnView (Some before) (Some after) Without Does = Does before.view after.view

-- The handle keeps its view unchanged, and the call says this about it. Or it has none.
pub record OnSameView (old new : Option HeldView) (Without : Type 0)
    (Tells : ViewValue → Type 0) : Type 0 where
  pub same : new ≡ old
  pub tells : MatchOption old Without (λ held. Tells held.view)

-- A handle with a view keeps it (65). An empty one gets the view of a member that heard nothing
-- (0), or stays empty (10).
abbrev pub ViewOpened : ℕ → Option HeldView → Option HeldView → ℕ → Type 0
ViewOpened wait (Some before) new status = (status ≡ statuses.node_there) × (new ≡ Some before)
ViewOpened wait None (Some after) status =
    (status ≡ 0) × (after.view ≡ record { wait = wait; entries = [] })
ViewOpened wait None None status = status ≡ statuses.memory
