-- Packets that a capture of several interfaces has twice.
use Rattle.std.specs.Prelude.{◌≡◌, ℕ, ◌-◌, ◌==◌, Bool, true, false, not, ◌&&◌, nat_le, if◌then◌else◌, List, [], length, Contains, Option, Some, None}
use Rattle.std.specs.Option.{is_none, option_eq}
use Rattle.std.specs.Str.{bytes_eq}
use Rattle.std.specs.VecDeque.{deque_items}
use Rattle.std.specs.contracts.net.socket_addr.SocketAddrPartialEq.TheImpl as socket
use Rattle.byteorder.specs.Endian.{big_number}
use Rattle.capture.specs.declared.link.Link.{Link}
use Rattle.capture.specs.declared.link.Link.TheVariants.{Loopback, Ethernet, Raw, Cooked, Cooked2}
use Rattle.capture.specs.Endpoints.{IsEndpoint}
use Rattle.capture.specs.Packets.{CarriedText, byte, part}
use Rattle.swimwatch.specs.declared.heard.recent.Packet.{Packet}
use Rattle.swimwatch.specs.declared.heard.recent.Recent.{Recent}
use Rattle.swimwatch.specs.declared.heard.recent.Way.{Way}
use Rattle.swimwatch.specs.declared.heard.sent.Proto.{Proto}
use Rattle.swimwatch.specs.declared.heard.sent.Proto.TheVariants.{Udp, Tcp}
use Rattle.swimwatch.specs.declared.heard.sent.Sent.{Sent}
use Rattle.swimwatch.specs.declared.listening.parcel.Parcel.{Parcel}
use Rattle.swimwatch.specs.Filtered.{IsParcelOf}
use Rattle.swimwatch.specs.Places.{IsPlace}

-- of Linux cooked, the interface's index (version 2) and the packet type
abbrev pub cooked_of : Link → List ℕ → Option (ℕ × ℕ)
cooked_of Loopback bytes = None
cooked_of Ethernet bytes = None
cooked_of Raw bytes = None
cooked_of Cooked bytes = if nat_le 2 (length bytes) then Some (0, byte 1 bytes) else None
cooked_of Cooked2 bytes =
    if nat_le 11 (length bytes) then Some (big_number 4 (part 4 8 bytes), byte 10 bytes) else None

-- on which interface and in which direction a frame was captured, as far as a capture says so
abbrev pub way_of : Option ℕ → Link → List ℕ → Way
way_of interface link bytes =
    record { interface = interface; cooked = cooked_of link bytes }

abbrev pub is_unknown : Way → Bool
is_unknown way = is_none way.interface && is_none way.cooked

abbrev pub is_same_way : Way → Way → Bool
is_same_way a b = option_eq (λ i j. i == j) a.interface b.interface
    && option_eq (λ p q. (p.0 == q.0) && (p.1 == q.1)) a.cooked b.cooked

abbrev pub is_same_proto : Proto → Proto → Bool
is_same_proto Udp Udp = true
is_same_proto Udp Tcp = false
is_same_proto Tcp Udp = false
is_same_proto Tcp Tcp = true

-- a packet that was captured: when and between which ends it was sent, on which way it came, its
-- sequence number, and what it carried
pub record PacketText : Type 0 where
  pub sent : Sent
  pub way : Way
  pub seq : ℕ
  pub payload : List ℕ

abbrev pub packet_text : Packet → PacketText
packet_text p = record { sent = p.sent; way = p.way; seq = p.seq; payload = p.payload.items }

abbrev pub packet_of : Sent → Way → ℕ → List ℕ → PacketText
packet_of sent way seq payload =
    record { sent = sent; way = way; seq = seq; payload = payload }

abbrev pub is_same_end : Sent → Sent → Bool
is_same_end a b = is_same_proto a.proto b.proto && (socket.ghosts).eq a.source b.source
    && (socket.ghosts).eq a.destination b.destination

-- a packet is one that was captured at most 5 milliseconds before (own), on another way
abbrev pub is_again : PacketText → PacketText → Bool
is_again old new = not (is_same_way old.way new.way) && (old.seq == new.seq)
    && nat_le (new.sent.time - old.sent.time) 5000 && is_same_end old.sent new.sent
    && bytes_eq old.payload new.payload

-- a packet with a payload, on a known way, is again one of those that were captured
abbrev pub CameBefore : List PacketText → PacketText → Type 0
CameBefore past new = (is_unknown new.way ≡ false) × ((length new.payload == 0) ≡ false)
    × (old : PacketText) × Contains past old × (is_again old new ≡ true)

-- each packet that is kept was captured
abbrev pub AreKept : List PacketText → Recent → Type 0
AreKept past recent = (p : Packet) → Contains (deque_items recent.packets) p
    → Contains past (packet_text p)

-- the packet in a frame that was captured at this microsecond on this way
abbrev pub IsPacketOf : ℕ → Way → CarriedText → PacketText → Type 0
IsPacketOf time way c p = (parcel : Parcel) × IsParcelOf c.transport parcel
    × (p.sent.time ≡ time) × (p.sent.proto ≡ parcel.proto)
    × IsPlace c.source parcel.source p.sent.source
    × IsPlace c.destination parcel.destination p.sent.destination
    × (p.way ≡ way) × (p.seq ≡ parcel.seq) × (p.payload ≡ parcel.payload.now)
