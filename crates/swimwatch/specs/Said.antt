-- What a view hears, and in which record of a capture it was said.
use Rattle.std.specs.Prelude.{◌≡◌, ℕ, ◌/◌, Bool, false, List, [], ◌∷◌, ◌++◌, Contains, Some, Ok}
use Rattle.swim_claim.specs.declared.claim.Claim.{Claim}
use Rattle.swim_claim.specs.Details.{DetailsValue}
use Rattle.swim_wire.specs.declared.state_record.StateRecord.{StateRecord}
use Rattle.capture.specs.declared.ends.Ends.{Ends}
use Rattle.capture.specs.declared.link.Link.{Link}
use Rattle.capture.specs.declared.record.Record.{Record}
use Rattle.capture.specs.Captured.{Captured, IsFlowOf}
use Rattle.capture.specs.Flows.{FlowText}
use Rattle.capture.specs.Packets.{CarriedText, UdpText, carried_of, link_of}
use Rattle.capture.specs.Packets.TransportText.{udp}
use Rattle.capture.specs.Pcap.{RecordText}
use Rattle.memberlist_message.specs.declared.message.Message.{Message}
use Rattle.memberlist_message.specs.declared.message.Message.TheVariants as message
use Rattle.memberlist_view.specs.declared.heard.Heard.{Heard}
use Rattle.memberlist_view.specs.declared.heard.Said.TheVariants.{Seen}
use Rattle.memberlist_view.specs.Told.{ViewValue, view_after}
use Rattle.swimwatch.specs.Datagrams.{CarriesMessages}
use Rattle.swimwatch.specs.Filtered.{Choice}
use Rattle.swimwatch.specs.Records.{claims_in}
use Rattle.swimwatch.specs.Told.{packet_told, record_told, heard_of}
use Rattle.swimwatch.specs.Views.{AreRecordsOf, is_warning}

-- a view after things that were heard one after the other, each of which is one of these
pub data IsAfter (S : Heard → Type 0) (first : ViewValue) : ViewValue → Type 0 where
  none : IsAfter S first first
  then : (old : ViewValue) (h : Heard) → IsAfter S first old → S h
      → IsAfter S first (view_after old h)

-- what a message of a datagram with these messages says at a time: what its claim does, unless it
-- only warns; or, if it makes none, that a member is where
abbrev pub SaysMessage : ℕ → List Message → Message → Heard → Type 0
SaysMessage time all (message.Claim packet) h =
    (is_warning all packet ≡ false) × (h ≡ heard_of time (packet_told packet))
SaysMessage time all other h = (name : List ℕ) × (place : DetailsValue)
    × (h ≡ record { time = time; said = Seen name place })

abbrev pub SaidInMessages : ℕ → List Message → Heard → Type 0
SaidInMessages time all h = (m : Message) × Contains all m × SaysMessage time all m h

-- one of these claims, in a record of a stream, says it at a time
abbrev pub SaidInClaims : ℕ → List Claim → Heard → Type 0
SaidInClaims time claims h = (claim : Claim) × (joins : Bool) × Contains claims claim
    × (h ≡ heard_of time (record_told claim joins))

-- a record of the stream that a flow of captured segments carried says it
abbrev pub SaidInFlow : Choice → List Captured → Heard → Type 0
SaidInFlow s all h = (ends : Ends) × (flow : FlowText) × (time : ℕ) × (records : List StateRecord)
    × IsFlowOf all ends flow × AreRecordsOf s.clear s.keys flow.text records
    × SaidInClaims time (claims_in records) h

-- a message of the datagram in the frame of this record says it, at its time in microseconds; or it
-- is said in a flow of the segments that were captured up to it
pub data IsSaid (s : Choice) (r : Record) (bytes : List ℕ) (now : List Captured) (h : Heard) :
    Type 0
  where
    datagram : (nanos : ℕ) (link : Link) (c : CarriedText) (d : UdpText) (messages : List Message)
        → r.time ≡ Some nanos → link_of r.link ≡ Some link → carried_of link bytes ≡ Ok c
        → c.transport ≡ udp d → CarriesMessages s.clear s.keys d.payload messages
        → SaidInMessages (nanos / 1000) messages h → IsSaid s r bytes now h
    stream : SaidInFlow s now h → IsSaid s r bytes now h

-- a view after what these records say, in their order
pub data AreSaid (s : Choice) (first : ViewValue) :
    List RecordText → List Captured → ViewValue → Type 0
  where
    none : AreSaid s first [] [] first
    one_more : (records : List RecordText) (all now : List Captured) (old new : ViewValue)
        (r : Record) (bytes : List ℕ) → AreSaid s first records all old
        → IsAfter (IsSaid s r bytes now) old new
        → AreSaid s first (records ++ (r, bytes) ∷ []) now new

-- and after what the flows say that are open at the end
abbrev pub AreSaidAtEnd : Choice → ViewValue → List RecordText → ViewValue → Type 0
AreSaidAtEnd s first records view = (all : List Captured) × (last : ViewValue)
    × AreSaid s first records all last × IsAfter (SaidInFlow s all) last view
