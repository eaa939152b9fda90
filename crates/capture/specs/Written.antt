-- Datagrams, packets and frames as their standards lay them out, byte by byte. Left out: packets
-- whose length does not fit into its field (jumbograms of RFC 2675, BIG TCP), frames of loopback
-- links, and tags on links that have none.
use Rattle.std.specs.Prelude.{◌≡◌, ◌≢◌, ◌⊎◌, ℕ, ◌+◌, ◌*◌, ◌/◌, ◌%◌, ◌==◌, ◌^◌, ◌<◌, false, List, [], ◌∷◌, ◌++◌}
use Rattle.std.specs.Prelude.{length, Ok, Err}
use Rattle.byteorder.specs.Endian.{big_bytes}
use Rattle.capture.specs.declared.fault.NotCarried.TheVariants.{Fragment}
use Rattle.capture.specs.declared.link.Link.{Link}
use Rattle.capture.specs.declared.link.Link.TheVariants.{Ethernet, Raw, Cooked, Cooked2}
use Rattle.capture.specs.Packets.{udp, tcp, is_extension, carried_of, untunneled}

-- RFC 768: two ports, the length of header and payload, a checksum, the payload
abbrev pub udp_bytes : ℕ → ℕ → ℕ → List ℕ → List ℕ
udp_bytes source destination sum payload =
    big_bytes 2 source ++ big_bytes 2 destination ++ big_bytes 2 (8 + length payload)
    ++ big_bytes 2 sum ++ payload

-- RFC 9293, 3.1: two ports, a sequence number, an acknowledgement, the header's words of 4 bytes,
-- flags, a window, a checksum, an urgent pointer, options, the payload
abbrev pub tcp_bytes : ℕ → ℕ → ℕ → ℕ → ℕ → ℕ → ℕ → ℕ → ℕ → List ℕ → List ℕ → List ℕ
tcp_bytes source destination seq ack words flags window sum urgent options payload =
    big_bytes 2 source ++ big_bytes 2 destination ++ big_bytes 4 seq ++ big_bytes 4 ack
    ++ (words * 16 ∷ flags ∷ []) ++ big_bytes 2 window ++ big_bytes 2 sum ++ big_bytes 2 urgent
    ++ options ++ payload

-- ---- packets

pub data Family : Type 0 where
  four six : Family

-- RFC 791, 3.1: version 4 and the header's words of 4 bytes, the type of service, the length of
-- header and body, an identification, flags and offset, the time to live, the protocol, a checksum,
-- two addresses, options, the body
abbrev pub ip4_bytes : ℕ → ℕ → ℕ → ℕ → ℕ → ℕ → ℕ → ℕ → ℕ → List ℕ → List ℕ → List ℕ
ip4_bytes words service id bits life protocol sum source destination options body =
    ((0x40 + words) ∷ service ∷ []) ++ big_bytes 2 (4 * words + length body) ++ big_bytes 2 id
    ++ big_bytes 2 bits ++ (life ∷ protocol ∷ []) ++ big_bytes 2 sum
    ++ big_bytes 4 source ++ big_bytes 4 destination ++ options ++ body

-- the header's words hold the options, and the lengths fit
abbrev pub FitsFour : ℕ → List ℕ → List ℕ → Type 0
FitsFour words options body =
    (4 * words ≡ 20 + length options) × (words < 16) × (4 * words + length body < 2 ^ 16)

-- RFC 8200, 3: version 6, traffic class and flow label in 32 bits, the length of all that follows
-- the header, the next header, the hop limit, two addresses, extension headers, the body
abbrev pub ip6_bytes : ℕ → ℕ → ℕ → ℕ → ℕ → List ℕ → List ℕ → List ℕ
ip6_bytes label next limit source destination extensions body =
    big_bytes 4 (6 * 2 ^ 28 + label) ++ big_bytes 2 (length extensions + length body)
    ++ (next ∷ limit ∷ []) ++ big_bytes 16 source ++ big_bytes 16 destination ++ extensions ++ body

-- RFC 8200, 4: hop-by-hop options (0), routing (43) and destination options (60)
abbrev pub HasOptions : ℕ → Type 0
HasOptions kind = (kind ≡ 0) ⊎ ((kind ≡ 43) ⊎ (kind ≡ 60))

-- Extension headers from one next header to another. Each has the kind of what follows it and its
-- length: in units of 8 bytes without the first, or, for an authentication header (51; RFC 4302,
-- 2.2), of 4 bytes without the first two. A fragment header (44) has an offset, two reserved bits
-- and a bit for more fragments, and an identification; in a whole packet, offset and bit are 0 (RFC
-- 6946).
pub data ExtensionsText : ℕ → List ℕ → ℕ → Type 0 where
  nothing : (kind : ℕ) → ExtensionsText kind [] kind
  options : (kind next units last : ℕ) (value more : List ℕ) → HasOptions kind
      → 2 + length value ≡ (units + 1) * 8 → ExtensionsText next more last
      → ExtensionsText kind ((next ∷ units ∷ []) ++ value ++ more) last
  authentication : (next units last : ℕ) (value more : List ℕ)
      → 2 + length value ≡ (units + 2) * 4 → ExtensionsText next more last
      → ExtensionsText 51 ((next ∷ units ∷ []) ++ value ++ more) last
  whole : (next reserved bits id last : ℕ) (more : List ℕ)
      → bits < 8 → bits % 2 ≡ 0 → ExtensionsText next more last
      → ExtensionsText 44 ((next ∷ reserved ∷ []) ++ big_bytes 2 bits ++ big_bytes 4 id ++ more)
      last

-- a packet of IP that is no fragment, with this body for a protocol, between two addresses
pub data PacketText (protocol : ℕ) (body : List ℕ) : Family → List ℕ → List ℕ → List ℕ
    → Type 0 where
  ip4 : (words service id bits life sum source destination : ℕ) (options : List ℕ)
      → FitsFour words options body → bits < 2 ^ 16 → bits % 2 ^ 14 ≡ 0
      → PacketText protocol body four (big_bytes 4 source) (big_bytes 4 destination)
      (ip4_bytes words service id bits life protocol sum source destination options body)
  ip6 : (label next limit source destination : ℕ) (extensions : List ℕ) → label < 2 ^ 28
      → ExtensionsText next extensions protocol → is_extension protocol ≡ false
      → length extensions + length body < 2 ^ 16
      → PacketText protocol body six (big_bytes 16 source) (big_bytes 16 destination)
      (ip6_bytes label next limit source destination extensions body)

-- a part of a packet: more follow it, or its offset is not 0
pub data FragmentText : Family → List ℕ → Type 0 where
  ip4 : (words service id bits life protocol sum source destination : ℕ) (options body : List ℕ)
      → FitsFour words options body → bits < 2 ^ 16 → bits % 2 ^ 14 ≢ 0
      → FragmentText four
      (ip4_bytes words service id bits life protocol sum source destination options body)
  ip6 : (label next limit source destination after reserved bits id : ℕ) (extensions body : List ℕ)
      → label < 2 ^ 28 → ExtensionsText next extensions 44 → bits < 2 ^ 16
      → (bits / 8 ≢ 0) ⊎ (bits % 2 ≡ 1) → length extensions + (8 + length body) < 2 ^ 16
      → FragmentText six (ip6_bytes label next limit source destination extensions
      ((after ∷ reserved ∷ []) ++ big_bytes 2 bits ++ big_bytes 4 id ++ body))

-- ---- frames

-- the types of IPv4 (RFC 894) and IPv6 (RFC 2464)
abbrev pub type_of : Family → ℕ
type_of four = 0x800
type_of six = 0x86dd

-- the types of a customer tag and of a service tag (IEEE 802.1Q), and an older one
abbrev pub IsTag : ℕ → Type 0
IsTag kind = (kind ≡ 0x8100) ⊎ ((kind ≡ 0x88a8) ⊎ (kind ≡ 0x9100))

-- the type of a packet after any number of tags, each a type and two bytes (IEEE 802.1Q, 9)
pub data TypeText (family : Family) : List ℕ → Type 0 where
  untagged : TypeText family (big_bytes 2 (type_of family))
  tagged : (kind control : ℕ) (more : List ℕ) → IsTag kind → TypeText family more
      → TypeText family (big_bytes 2 kind ++ big_bytes 2 control ++ more)

-- A frame with these bytes for IP. Ethernet (IEEE 802.3): two addresses of 6 bytes, the type, the
-- bytes. Linux cooked (113): the kinds of packet and link, the length of an address, the address in
-- 8 bytes, the type, the bytes; its second version (276): the type, two reserved bytes, an
-- interface, the kinds of link and packet, the length of an address, the address, the bytes.
pub data FrameText (family : Family) (bytes : List ℕ) : Link → List ℕ → Type 0 where
  ethernet : (to from : ℕ) (type : List ℕ) → TypeText family type
      → FrameText family bytes Ethernet (big_bytes 6 to ++ big_bytes 6 from ++ type ++ bytes)
  cooked : (sent kind len address : ℕ) (type : List ℕ) → TypeText family type
      → FrameText family bytes Cooked (big_bytes 2 sent ++ big_bytes 2 kind ++ big_bytes 2 len
      ++ big_bytes 8 address ++ type ++ bytes)
  cooked_2 : (reserved interface kind sent len address : ℕ)
      → FrameText family bytes Cooked2 (big_bytes 2 (type_of family) ++ big_bytes 2 reserved
      ++ big_bytes 4 interface ++ big_bytes 2 kind ++ big_bytes 1 sent ++ big_bytes 1 len
      ++ big_bytes 8 address ++ bytes)
  raw : FrameText family bytes Raw bytes

-- ---- what is read back

-- a datagram in a packet that is not a fragment, in a frame with any padding, is what the frame
-- carries, or what the tunnel in it does
abbrev pub DatagramReadBack : Type 0
DatagramReadBack =
    (link : Link) (family : Family) (source destination packet frame : List ℕ)
    (source_port destination_port sum : ℕ) (payload padding : List ℕ)
    → source_port < 2 ^ 16 → destination_port < 2 ^ 16 → 8 + length payload < 2 ^ 16
    → PacketText 17 (udp_bytes source_port destination_port sum payload) family
    source destination packet
    → FrameText family (packet ++ padding) link frame
    → carried_of link frame ≡ untunneled (record {
      source = source;
      destination = destination;
      transport =
          udp (record { source = source_port; destination = destination_port; payload = payload });
    })

-- and so is a segment with any options: of its flags, FIN is 1, SYN is 2, RST is 4, and PSH is 8
abbrev pub SegmentReadBack : Type 0
SegmentReadBack =
    (link : Link) (family : Family) (source destination packet frame : List ℕ)
    (source_port destination_port seq ack words flags window sum urgent : ℕ)
    (options payload padding : List ℕ)
    → source_port < 2 ^ 16 → destination_port < 2 ^ 16 → seq < 2 ^ 32
    → 4 * words ≡ 20 + length options
    → PacketText 6
    (tcp_bytes source_port destination_port seq ack words flags window sum urgent options payload)
    family source destination packet
    → FrameText family (packet ++ padding) link frame
    → carried_of link frame ≡ Ok (record {
      source = source;
      destination = destination;
      transport = tcp (record {
        source = source_port;
        destination = destination_port;
        seq = seq;
        syn = flags / 2 % 2 == 1;
        fin = flags % 2 == 1;
        psh = flags / 8 % 2 == 1;
        rst = flags / 4 % 2 == 1;
        payload = payload;
      });
    })

-- a part of a packet is known as such
abbrev pub FragmentRefused : Type 0
FragmentRefused =
    (link : Link) (family : Family) (packet padding frame : List ℕ) → FragmentText family packet
    → FrameText family (packet ++ padding) link frame → carried_of link frame ≡ Err Fragment
