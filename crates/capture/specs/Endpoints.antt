-- The endpoints between which a segment was sent.
use Rattle.std.specs.Prelude.{◌≡◌, ◌⊎◌, ℕ, List, length}
use Rattle.std.specs.Net.Addr.{IsIpv4OfBits, IsIpv6OfBits}
use Rattle.std.specs.Net.Socket.{socket_ip, socket_port}
use Rattle.std.specs.declared.net.IpAddr.{IpAddr}
use Rattle.std.specs.declared.net.IpAddr.TheVariants as ip
use Rattle.std.specs.declared.net.Ipv4Addr.{Ipv4Addr}
use Rattle.std.specs.declared.net.Ipv6Addr.{Ipv6Addr}
use Rattle.std.specs.declared.net.SocketAddr.{SocketAddr}
use Rattle.byteorder.specs.Endian.{big_number}
use Rattle.capture.specs.declared.ends.Ends.{Ends}
use Rattle.capture.specs.Packets.{TcpText}

-- the address in 4 bytes of IPv4, or in 16 of IPv6
abbrev pub IsAddress : List ℕ → IpAddr → Type 0
IsAddress bytes address =
    ((length bytes ≡ 4) × (a : Ipv4Addr) × (address ≡ ip.V4 a)
    × IsIpv4OfBits a (big_number 4 bytes))
    ⊎ ((length bytes ≡ 16) × (a : Ipv6Addr) × (address ≡ ip.V6 a)
    × IsIpv6OfBits a (big_number 16 bytes))

-- as many bytes as an address has
abbrev pub HasAddressLen : List ℕ → Type 0
HasAddressLen bytes = (length bytes ≡ 4) ⊎ (length bytes ≡ 16)

abbrev pub IsEndpoint : List ℕ → ℕ → SocketAddr → Type 0
IsEndpoint address port end = IsAddress address (socket_ip end) × (socket_port end ≡ port)

-- those of a segment in a packet from one address to another
abbrev pub AreEndsOf : List ℕ → List ℕ → TcpText → Ends → Type 0
AreEndsOf source destination segment ends = IsEndpoint source segment.source ends.source
    × IsEndpoint destination segment.destination ends.destination
