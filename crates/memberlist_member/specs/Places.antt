-- Where a member is.
use Rattle.std.specs.Prelude.{◌≡◌, ℕ, List}
use Rattle.std.specs.Net.Addr.{ipv4_octets, ipv6_octets}
use Rattle.std.specs.declared.net.ip_addr.IpAddr.{IpAddr}
use Rattle.std.specs.declared.net.ip_addr.IpAddr.TheVariants.{V4, V6}

-- these are the 4 or 16 bytes of the address
abbrev pub HasOctets : IpAddr → List ℕ → Type 0
HasOctets (V4 ip) bytes = bytes ≡ ipv4_octets ip
HasOctets (V6 ip) bytes = bytes ≡ ipv6_octets ip
