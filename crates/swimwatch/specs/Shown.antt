-- What is heard from the records of a capture: of each the datagram that its frame carries, or what
-- the connection carried whose segment is in it.
use Rattle.std.specs.Prelude.{◌≡◌, ℕ, ◌/◌, ◌≤◌, true, List, [], ◌∷◌, ◌++◌, Some, None, IfSome, Ok, Err}
use Rattle.capture.specs.declared.fault.NotCarried.{NotCarried}
use Rattle.capture.specs.declared.ends.Ends.{Ends}
use Rattle.capture.specs.declared.link.Link.{Link}
use Rattle.capture.specs.declared.record.Record.{Record}
use Rattle.capture.specs.Endpoints.{AreEndsOf}
use Rattle.capture.specs.Packets.{TcpText, UdpText, CarriedText, carried_of, link_of}
use Rattle.capture.specs.Packets.TransportText.{udp, tcp}
use Rattle.memberlist_view.specs.Told.{ViewValue}
use Rattle.swimwatch.specs.Connected.{Past, past_of, HearsSegment}
use Rattle.swimwatch.specs.Filtered.{Choice, IsLeftOut, takes}
use Rattle.swimwatch.specs.Views.{HearsDatagram}
use Rattle.swimwatch.specs.Ways.{PacketText, CameBefore, IsPacketOf, way_of}
use Rattle.swimwatch.specs.declared.heard.recent.Way.{Way}

-- one more packet was captured
abbrev pub with_packet : Past → PacketText → ViewValue → Past
with_packet past p view = past_of past.segments (past.packets ++ p ∷ []) past.read past.flows view

-- What a frame adds to what was captured and heard. One that is left out adds nothing, and neither
-- does a packet that came before on another way. Another packet adds the messages of its datagram,
-- at this time; or its segment, and what is heard with it.
pub data HearsFrame (s : Choice) (way : Way) (time : ℕ) (c : CarriedText) (old : Past) : Past → Type 0
  where
    left_out : IsLeftOut s.ports c → HearsFrame s way time c old old
    passed_over : (p : PacketText) → IsPacketOf time way c p → CameBefore old.packets p
        → HearsFrame s way time c old (with_packet old p old.view)
    datagram : (p : PacketText) (d : UdpText) (view : ViewValue) → IsPacketOf time way c p
        → takes s.ports d.source d.destination ≡ true → c.transport ≡ udp d
        → HearsDatagram s.clear s.keys s.label d.payload time old.view view
        → HearsFrame s way time c old (with_packet old p view)
    segment : (p : PacketText) (t : TcpText) (ends : Ends) (new : Past) → IsPacketOf time way c p
        → takes s.ports t.source t.destination ≡ true → c.transport ≡ tcp t
        → AreEndsOf c.source c.destination t ends
        → HearsSegment s.clear s.keys ends t (with_packet old p old.view) new
        → HearsFrame s way time c old new

-- why a record has no frame to hear: it has no time, it was captured after the chosen moment, its
-- link is none that is read, or its bytes carry nothing, and why
pub data HasNoFrame (s : Choice) (r : Record) (bytes : List ℕ) : Type 0 where
  timeless : r.time ≡ None → HasNoFrame s r bytes
  later : (nanos : ℕ) → r.time ≡ Some nanos → ¬ IfSome s.until (λ until. nanos / 1000 ≤ until)
      → HasNoFrame s r bytes
  unknown_link : link_of r.link ≡ None → HasNoFrame s r bytes
  carries_none : (link : Link) (cause : NotCarried) → link_of r.link ≡ Some link
      → carried_of link bytes ≡ Err cause → HasNoFrame s r bytes

-- what a record adds: nothing if it has no frame to hear, or what the frame in it does, at its time
-- in microseconds
pub data HearsRecord (s : Choice) (r : Record) (bytes : List ℕ) (old new : Past) : Type 0 where
  nothing : HasNoFrame s r bytes → new ≡ old → HearsRecord s r bytes old new
  frame : (nanos : ℕ) (link : Link) (c : CarriedText) → r.time ≡ Some nanos
      → IfSome s.until (λ until. nanos / 1000 ≤ until) → link_of r.link ≡ Some link
      → carried_of link bytes ≡ Ok c
      → HearsFrame s (way_of r.interface link bytes) (nanos / 1000) c old new
      → HearsRecord s r bytes old new
