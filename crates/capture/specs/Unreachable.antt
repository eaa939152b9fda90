-- The packets that a host refused since no process has their port, as ICMP quotes them. All numbers
-- have their highest byte first.
use Rattle.std.specs.Prelude.{ℕ, ◌+◌, ◌*◌, ◌/◌, ◌%◌, ◌==◌, ◌||◌, ◌&&◌, Bool, nat_le, if◌then◌else◌, List, length, drop}
use Rattle.std.specs.Prelude.{slice_index, Option, Some, None}
use Rattle.std.specs.List.{slice_range}
use Rattle.byteorder.specs.Endian.{big_number}
use Rattle.capture.specs.declared.unreachable.Unreachable.{Unreachable}

-- what a refusal quotes of the packet
pub record UnreachableText : Type 0 where
  pub protocol : ℕ
  pub source : List ℕ
  pub destination : List ℕ
  pub source_port : ℕ
  pub destination_port : ℕ

abbrev pub unreachable_text : Unreachable → UnreachableText
unreachable_text u = record {
  protocol = u.protocol;
  source = u.source.now;
  destination = u.destination.now;
  source_port = u.source_port;
  destination_port = u.destination_port;
}

-- TCP (6, RFC 9293, 3.1) and UDP (17, RFC 768) begin with two ports of 2 bytes.
abbrev pub has_ports : ℕ → Bool
has_ports protocol = protocol == 6 || protocol == 17

-- RFC 791, 3.1: the version in 4 bits, the header's length in words of 4 bytes in the next 4, the
-- protocol at byte 9, the addresses from byte 12 on. A quotation is cut, whatever its total length.
abbrev pub quoted4_header : List ℕ → ℕ
quoted4_header packet = slice_index packet 0 % 16 * 4

abbrev pub is_quoted4 : List ℕ → Bool
is_quoted4 packet =
    slice_index packet 0 / 16 == 4 && nat_le 20 (quoted4_header packet)
    && nat_le (quoted4_header packet + 4) (length packet) && has_ports (slice_index packet 9)

unfoldable pub quoted4_of : List ℕ → Option UnreachableText
quoted4_of packet =
    if is_quoted4 packet then Some (record {
      protocol = slice_index packet 9;
      source = slice_range packet 12 16;
      destination = slice_range packet 16 20;
      source_port = big_number 2 (drop (quoted4_header packet) packet);
      destination_port = big_number 2 (drop (quoted4_header packet + 2) packet);
    })
    else None

-- RFC 8200, 3: a header of 40 bytes, the version in 4 bits, the next header at byte 6, the
-- addresses from byte 8 on.
abbrev pub is_quoted6 : List ℕ → Bool
is_quoted6 packet =
    slice_index packet 0 / 16 == 6 && nat_le 44 (length packet) && has_ports (slice_index packet 6)

unfoldable pub quoted6_of : List ℕ → Option UnreachableText
quoted6_of packet =
    if is_quoted6 packet then Some (record {
      protocol = slice_index packet 6;
      source = slice_range packet 8 24;
      destination = slice_range packet 24 40;
      source_port = big_number 2 (drop 40 packet);
      destination_port = big_number 2 (drop 42 packet);
    })
    else None

-- a message of ICMP with this type and code, whose header has 8 bytes
abbrev pub is_icmp : ℕ → ℕ → List ℕ → Bool
is_icmp type code body =
    nat_le 8 (length body) && slice_index body 0 == type && slice_index body 1 == code

-- RFC 792, destination unreachable message: type 3, and code 3 for the port
unfoldable pub unreachable4_of : List ℕ → Option UnreachableText
unreachable4_of body = if is_icmp 3 3 body then quoted4_of (drop 8 body) else None

-- RFC 4443, 3.1: type 1, and code 4 for the port
unfoldable pub unreachable6_of : List ℕ → Option UnreachableText
unreachable6_of body = if is_icmp 1 4 body then quoted6_of (drop 8 body) else None
