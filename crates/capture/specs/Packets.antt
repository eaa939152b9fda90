-- What the bytes of a captured frame carry. All numbers have their highest byte first.
use Rattle.std.specs.Prelude.{ℕ, zero, suc, ◌+◌, ◌-◌, ◌*◌, ◌/◌, ◌%◌, ◌==◌, ◌||◌, ◌&&◌, Bool, nat_lt, if◌then◌else◌}
use Rattle.std.specs.Prelude.{List, [], ◌∷◌, length, take, drop, slice_index, Result, Ok, Err, Option, Some, None}
use Rattle.byteorder.specs.Endian.{big_number, little_number}
use Rattle.capture.specs.declared.fault.NotCarried.{NotCarried}
use Rattle.capture.specs.declared.fault.NotCarried.TheVariants.{NotIp, Fragment, Gre, IpInIp, Mpls, OtherProtocol, Cut, Malformed}
use Rattle.capture.specs.declared.transport.Datagram.{Datagram}
use Rattle.capture.specs.declared.transport.Segment.{Segment}
use Rattle.capture.specs.declared.network.IpPacket.{IpPacket}
use Rattle.capture.specs.declared.network.Version.{Version}
use Rattle.capture.specs.declared.network.Version.TheVariants.{Ip4, Ip6, Either}
use Rattle.capture.specs.declared.content.Transport.{Transport}
use Rattle.capture.specs.declared.content.Transport.TheVariants.{Udp, Tcp, Unreachable}
use Rattle.capture.specs.declared.content.Carried.{Carried}
use Rattle.capture.specs.Unreachable.{UnreachableText, unreachable_text, unreachable4_of, unreachable6_of}
use Rattle.capture.specs.declared.link.Link.{Link}
use Rattle.capture.specs.declared.link.Link.TheVariants.{Loopback, Ethernet, Raw, Cooked, Cooked2}

-- the kinds of link, by their numbers in captures
abbrev pub link_of : ℕ → Option Link
link_of number =
    if number == 0 || number == 108 then Some Loopback
    else if number == 1 then Some Ethernet
    else if number == 12 || number == 14 || number == 101 || number == 228 || number == 229 then Some Raw
    else if number == 113 then Some Cooked
    else if number == 276 then Some Cooked2
    else None

-- the number in n bytes from place o on
abbrev pub field : ℕ → ℕ → List ℕ → ℕ
field o n bytes = big_number n (drop o bytes)

-- the byte at place o
abbrev pub byte : ℕ → List ℕ → ℕ
byte o bytes = slice_index bytes o

-- the bytes from place a up to place b
abbrev pub part : ℕ → ℕ → List ℕ → List ℕ
part a b bytes = take (b - a) (drop a bytes)

-- RFC 768: two ports, the length of header and payload, a checksum; what follows the payload is
-- padding.
pub record UdpText : Type 0 where
  pub source : ℕ
  pub destination : ℕ
  pub payload : List ℕ

abbrev pub udp_text : Datagram → UdpText
udp_text d = record { source = d.source; destination = d.destination; payload = d.payload.now }

unfoldable pub udp_of : List ℕ → Result UdpText NotCarried
udp_of bytes =
    if nat_lt (length bytes) 8 then Err Malformed
    else if nat_lt (field 4 2 bytes) 8 then Err Malformed
    else if nat_lt (length bytes) (field 4 2 bytes) then Err Malformed
    else Ok (record {
      source = field 0 2 bytes;
      destination = field 2 2 bytes;
      payload = part 8 (field 4 2 bytes) bytes;
    })

-- RFC 9293, 3.1: two ports, the sequence number, an acknowledgement, the header's length in words
-- of 4 bytes, flags (FIN 1, SYN 2, RST 4, PSH 8), and after the options the payload.
pub record TcpText : Type 0 where
  pub source : ℕ
  pub destination : ℕ
  pub seq : ℕ
  pub syn : Bool
  pub fin : Bool
  pub psh : Bool
  pub rst : Bool
  pub payload : List ℕ

abbrev pub tcp_header : List ℕ → ℕ
tcp_header bytes = byte 12 bytes / 16 * 4

abbrev pub tcp_text : Segment → TcpText
tcp_text s = record {
  source = s.source;
  destination = s.destination;
  seq = s.seq;
  syn = s.syn;
  fin = s.fin;
  psh = s.psh;
  rst = s.rst;
  payload = s.payload.now;
}

unfoldable pub tcp_of : List ℕ → Result TcpText NotCarried
tcp_of bytes =
    if nat_lt (length bytes) 20 then Err Malformed
    else if nat_lt (tcp_header bytes) 20 then Err Malformed
    else if nat_lt (length bytes) (tcp_header bytes) then Err Malformed
    else Ok (record {
      source = field 0 2 bytes;
      destination = field 2 2 bytes;
      seq = field 4 4 bytes;
      syn = byte 13 bytes / 2 % 2 == 1;
      fin = byte 13 bytes % 2 == 1;
      psh = byte 13 bytes / 8 % 2 == 1;
      rst = byte 13 bytes / 4 % 2 == 1;
      payload = drop (tcp_header bytes) bytes;
    })

-- what a packet of IP holds for the protocol above it
pub record IpText : Type 0 where
  pub source : List ℕ
  pub destination : List ℕ
  pub protocol : ℕ
  pub body : List ℕ

-- RFC 791, 3.1: the header's length in words of 4 bytes, and the total length. A total length of 0
-- is in packets captured before the network card segmented them: all the bytes are the packet's.
abbrev pub ip4_header : List ℕ → ℕ
ip4_header bytes = byte 0 bytes % 16 * 4

abbrev pub ip4_total : List ℕ → ℕ
ip4_total bytes = if field 2 2 bytes == 0 then length bytes else field 2 2 bytes

-- RFC 791, 3.1: above the 13 bits of the offset is the bit for more fragments, and above that the
-- one for don't-fragment. It is a fragment if more follow or the offset is not 0.
abbrev pub is_ip4_fragment : List ℕ → Bool
is_ip4_fragment bytes = nat_lt 0 (field 6 2 bytes % 16384)

abbrev pub ip_text : IpPacket → IpText
ip_text p = record {
  source = p.source.now;
  destination = p.destination.now;
  protocol = p.protocol;
  body = p.body.now;
}

unfoldable pub ip4_of : List ℕ → Result IpText NotCarried
ip4_of bytes =
    if nat_lt (length bytes) 20 then Err Cut
    else if nat_lt (ip4_header bytes) 20 then Err Malformed
    else if nat_lt (ip4_total bytes) (ip4_header bytes) then Err Malformed
    else if is_ip4_fragment bytes then Err Fragment
    else if nat_lt (length bytes) (ip4_total bytes) then Err Cut
    else Ok (record {
      source = part 12 16 bytes;
      destination = part 16 20 bytes;
      protocol = byte 9 bytes;
      body = part (ip4_header bytes) (ip4_total bytes) bytes;
    })

-- RFC 8200, 4: hop-by-hop options (0), routing (43), a fragment header (44), an authentication
-- header (51, RFC 4302), destination options (60).
abbrev pub is_extension : ℕ → Bool
is_extension next = next == 0 || next == 43 || next == 44 || next == 51 || next == 60

-- The length of an extension header: in units of 8 bytes without the first. A fragment header has 8
-- bytes, and an authentication header counts units of 4 bytes without the first two.
abbrev pub extension_len : ℕ → List ℕ → ℕ
extension_len next body =
    if next == 44 then 8 else if next == 51 then (byte 1 body + 2) * 4 else (byte 1 body + 1) * 8

-- RFC 8200, 4.5: an offset of 13 bits, two bits that are reserved, and whether more fragments
-- follow. If the offset is 0 and no more follow, the packet is whole (RFC 6946).
abbrev pub is_ip6_fragment : ℕ → List ℕ → Bool
is_ip6_fragment next body =
    next == 44 && (nat_lt 0 (field 2 2 body / 8) || field 2 2 body % 2 == 1)

-- the protocol and the bytes after at most n extension headers
unfoldable pub behind_headers : ℕ → ℕ → List ℕ → Result (ℕ × List ℕ) NotCarried
behind_headers zero next body = Err Malformed
behind_headers (suc n) next body =
    if is_extension next then
    (if nat_lt (length body) 8 then Err Malformed
    else if is_ip6_fragment next body then Err Fragment
    else if nat_lt (length body) (extension_len next body) then Err Malformed
    else behind_headers n (byte 0 body) (drop (extension_len next body) body))
    else Ok (next, body)

-- the protocol and the bytes after all extension headers, of which there are at most as many as
-- bytes
abbrev pub behind_extensions : ℕ → List ℕ → Result (ℕ × List ℕ) NotCarried
behind_extensions next body = behind_headers (suc (length body)) next body

-- what follows a success
abbrev pub onward : {A B : Type 0} → Result A NotCarried → (A → Result B NotCarried) → Result B NotCarried
onward (Ok x) f = f x
onward (Err fault) f = Err fault

-- RFC 8200, 3: a header of 40 bytes, and the length of all that follows it.
abbrev pub ip6_end : List ℕ → ℕ
ip6_end bytes = 40 + field 4 2 bytes

unfoldable pub ip6_of : List ℕ → Result IpText NotCarried
ip6_of bytes =
    if nat_lt (length bytes) 40 then Err Cut
    else if nat_lt (length bytes) (ip6_end bytes) then Err Cut
    else onward (behind_extensions (byte 6 bytes) (part 40 (ip6_end bytes) bytes)) (λ found.
    Ok (record {
      source = part 8 24 bytes;
      destination = part 24 40 bytes;
      protocol = found.0;
      body = found.1;
    }))

-- A packet of IP, its version in the first four bits (RFC 791, 3.1; RFC 8200, 3). If the frame
-- gives the version, the packet has that one or is malformed.
unfoldable pub ip_of : Version → List ℕ → Result IpText NotCarried
ip_of Ip4 bytes =
    if nat_lt (length bytes) 1 then Err Cut
    else if byte 0 bytes / 16 == 4 then ip4_of bytes
    else Err Malformed
ip_of Ip6 bytes =
    if nat_lt (length bytes) 1 then Err Cut
    else if byte 0 bytes / 16 == 6 then ip6_of bytes
    else Err Malformed
ip_of Either bytes =
    if nat_lt (length bytes) 1 then Err Cut
    else if byte 0 bytes / 16 == 4 then ip4_of bytes
    else if byte 0 bytes / 16 == 6 then ip6_of bytes
    else Err NotIp

-- the types of IPv4 and IPv6 (IEEE 802, RFC 894, RFC 2464)
abbrev pub version_of : ℕ → Option Version
version_of kind = if kind == 0x800 then Some Ip4 else if kind == 0x86dd then Some Ip6 else None

-- the EtherTypes of tags: IEEE 802.1Q (customer tag 8100, service tag 88a8), and the older 9100
abbrev pub is_tag : ℕ → Bool
is_tag kind = kind == 0x8100 || kind == 0x88a8 || kind == 0x9100

-- RFC 3032, 5: the EtherTypes of MPLS, 8847 and 8848, whose packets are not unwrapped
abbrev pub other_type : ℕ → NotCarried
other_type kind = if kind == 0x8847 || kind == 0x8848 then Mpls else NotIp

-- the rest is a packet of this version, or there is another result
abbrev pub packet_or : Option Version → List ℕ → Result (Version × List ℕ) NotCarried
    → Result (Version × List ℕ) NotCarried
packet_or (Some version) rest other = Ok (version, rest)
packet_or None rest other = other

-- The packet after an EtherType, or after any number of tags. IEEE 802.1Q, 9: the type of a tag is
-- followed by two bytes of the tag, and the next type.
unfoldable pub behind_type : List ℕ → Result (Version × List ℕ) NotCarried
behind_type [] = Err Cut
behind_type (a ∷ []) = Err Cut
behind_type (a ∷ b ∷ []) =
    packet_or (version_of (field 0 2 (a ∷ b ∷ []))) []
    (if is_tag (field 0 2 (a ∷ b ∷ [])) then Err Cut else Err (other_type (field 0 2 (a ∷ b ∷ []))))
behind_type (a ∷ b ∷ c ∷ []) =
    packet_or (version_of (field 0 2 (a ∷ b ∷ c ∷ []))) (c ∷ [])
    (if is_tag (field 0 2 (a ∷ b ∷ c ∷ [])) then Err Cut else Err (other_type (field 0 2 (a ∷ b ∷ c ∷ []))))
behind_type (a ∷ b ∷ c ∷ d ∷ rest) =
    packet_or (version_of (field 0 2 (a ∷ b ∷ c ∷ d ∷ rest))) (c ∷ d ∷ rest)
    (if is_tag (field 0 2 (a ∷ b ∷ c ∷ d ∷ rest)) then behind_type rest
    else Err (other_type (field 0 2 (a ∷ b ∷ c ∷ d ∷ rest))))

-- the numbers of the address families of IP: 2 is IPv4 everywhere, and IPv6 depends on the system
abbrev pub family_of : ℕ → Option Version
family_of number =
    if number == 2 then Some Ip4
    else if number == 10 || number == 24 || number == 28 || number == 30 then Some Ip6
    else None

-- The packet in a frame of this link, and which version it has to be. Loopback: the family in four
-- bytes of either order. Ethernet (IEEE 802.3): two addresses of 6 bytes, and a type. Cooked: 14
-- bytes and a type. Cooked 2: a type, and 18 bytes.
unfoldable pub packet_in : Link → List ℕ → Result (Version × List ℕ) NotCarried
packet_in Raw bytes = Ok (Either, bytes)
packet_in Loopback bytes =
    if nat_lt (length bytes) 4 then Err Cut
    else packet_or (family_of (big_number 4 bytes)) (drop 4 bytes)
    (packet_or (family_of (little_number 4 bytes)) (drop 4 bytes) (Err NotIp))
packet_in Ethernet bytes =
    if nat_lt (length bytes) 12 then Err Cut else behind_type (drop 12 bytes)
packet_in Cooked bytes =
    if nat_lt (length bytes) 14 then Err Cut else behind_type (drop 14 bytes)
packet_in Cooked2 bytes =
    if nat_lt (length bytes) 20 then Err Cut
    else packet_or (version_of (field 0 2 bytes)) (drop 20 bytes)
    (Err (other_type (field 0 2 bytes)))

-- what a packet carries
pub data TransportText : Type 0 where
  udp : UdpText → TransportText
  tcp : TcpText → TransportText
  unreachable : UnreachableText → TransportText

abbrev pub transport_text : Transport → TransportText
transport_text (Udp d) = udp (udp_text d)
transport_text (Tcp s) = tcp (tcp_text s)
transport_text (Unreachable u) = unreachable (unreachable_text u)

-- Protocols of IP that wrap packets and are not unwrapped: GRE (47, RFC 2784), IPv4 in IP (4, RFC
-- 2003) and IPv6 in IP (41, RFC 4213).
abbrev pub other_protocol : ℕ → NotCarried
other_protocol protocol =
    if protocol == 47 then Gre
    else if protocol == 4 || protocol == 41 then IpInIp
    else OtherProtocol

-- what a packet of ICMP (protocol 1, RFC 792) or ICMPv6 (58, RFC 4443) is: a refusal, or nothing
-- of interest
abbrev pub refusal_of : Option UnreachableText → Result TransportText NotCarried
refusal_of (Some u) = Ok (unreachable u)
refusal_of None = Err OtherProtocol

unfoldable pub transport_of : ℕ → List ℕ → Result TransportText NotCarried
transport_of protocol body =
    if protocol == 17 then onward (udp_of body) (λ d. Ok (udp d))
    else if protocol == 6 then onward (tcp_of body) (λ s. Ok (tcp s))
    else if protocol == 1 then refusal_of (unreachable4_of body)
    else if protocol == 58 then refusal_of (unreachable6_of body)
    else Err (other_protocol protocol)

-- what a frame carries, and between which addresses
pub record CarriedText : Type 0 where
  pub source : List ℕ
  pub destination : List ℕ
  pub transport : TransportText

abbrev pub carried_text : Carried → CarriedText
carried_text c = record {
  source = c.source.now;
  destination = c.destination.now;
  transport = transport_text c.transport;
}

-- what the packet in a frame of this link carries, or why it carries nothing of interest
unfoldable pub plain_of : Link → List ℕ → Result CarriedText NotCarried
plain_of link bytes =
    onward (packet_in link bytes) (λ packet.
    onward (ip_of packet.0 packet.1) (λ ip.
    onward (transport_of ip.protocol ip.body) (λ transport.
    Ok (record { source = ip.source; destination = ip.destination; transport = transport }))))

-- RFC 7348, 5: a header of VXLAN has 8 bytes, and in the first the flag I (8); a frame follows.
abbrev pub vxlan_frame : List ℕ → Option (List ℕ)
vxlan_frame payload =
    if nat_lt (length payload) 8 then None
    else if byte 0 payload / 8 % 2 == 1 then Some (drop 8 payload)
    else None

-- RFC 8926, 3.4: a header of Geneve has 8 bytes and options, whose length in words of 4 bytes is in
-- the last 6 bits of the first byte; above that the version, 0. The second byte has the flag O
-- (128) in a control packet. The type 6558 says that a frame of Ethernet follows.
abbrev pub geneve_len : List ℕ → ℕ
geneve_len payload = 8 + byte 0 payload % 64 * 4

abbrev pub geneve_frame : List ℕ → Option (List ℕ)
geneve_frame payload =
    if nat_lt (length payload) 8 then None
    else if nat_lt (length payload) (geneve_len payload) then None
    else if byte 0 payload / 64 == 0 && nat_lt (byte 1 payload) 128 && field 2 2 payload == 0x6558
    then Some (drop (geneve_len payload) payload)
    else None

-- the frame of Ethernet in a datagram to the port of VXLAN (4789) or Geneve (6081)
abbrev pub frame_in : TransportText → Option (List ℕ)
frame_in (tcp s) = None
frame_in (unreachable u) = None
frame_in (udp d) =
    if d.destination == 4789 then vxlan_frame d.payload
    else if d.destination == 6081 then geneve_frame d.payload
    else None

-- what the frame in a tunnel carries, or the content itself if it is no tunnel
abbrev pub inside : Option (List ℕ) → CarriedText → Result CarriedText NotCarried
inside None c = Ok c
inside (Some frame) c = plain_of Ethernet frame

-- the content without a tunnel, and one in that
abbrev pub untunneled : CarriedText → Result CarriedText NotCarried
untunneled outer =
    onward (inside (frame_in outer.transport) outer) (λ middle.
    inside (frame_in middle.transport) middle)

-- what a frame of this link carries
unfoldable pub carried_of : Link → List ℕ → Result CarriedText NotCarried
carried_of link bytes = onward (plain_of link bytes) untunneled
