-- Endpoints that the order does not tell apart are the same.
use Rattle.std.proofs.Common.{◌≡◌, true, refl, ap, ap₂, subst, ◌↔◌}
use Rattle.std.specs.Ordering.{is_eq, nat_cmp, ordering_then}
use Rattle.std.specs.Cmp.Lexicographic.{slice_cmp}
use Rattle.std.specs.Net.Addr.{ipv4_octets, ipv6_segments}
use Rattle.std.specs.Net.Socket.{v4_ip, v4_port, v6_ip, v6_port, v6_flowinfo, v6_scope_id}
use Rattle.std.specs.declared.cmp.Ordering.{Ordering}
use Rattle.std.specs.declared.cmp.Ordering.TheVariants.{Less, Equal, Greater}
use Rattle.std.specs.declared.net.ipv4_addr.Ipv4Addr.{Ipv4Addr}
use Rattle.std.specs.declared.net.ipv6_addr.Ipv6Addr.{Ipv6Addr}
use Rattle.std.specs.declared.net.socket_addr.SocketAddr.{SocketAddr}
use Rattle.std.specs.declared.net.socket_addr.SocketAddr.TheVariants.{V4, V6}
use Rattle.std.specs.declared.net.socket_addr.SocketAddrV4.{SocketAddrV4}
use Rattle.std.specs.declared.net.socket_addr.SocketAddrV6.{SocketAddrV6}
use Rattle.std.specs.contracts.net.socket_addr.SocketAddrOrd.TheImpl as socket_ord
use Rattle.std.proofs.lemmas.Cmp.{tied_itself}
use Rattle.std.proofs.lemmas.Map.Lookups.{exact_unsigned, exact_bytes}
use Rattle.capture.specs.contracts.ends.EndsOrd.TheImpl.Laws.{total-law}
use Rattle.capture.specs.declared.ends.Ends.{Ends}
use Rattle.capture.specs.OpenFlows.{ends_cmp}

abbrev socket_cmp : SocketAddr → SocketAddr → Ordering
socket_cmp = (socket_ord.ghosts).cmp

equal_is : (o : Ordering) → is_eq o ≡ true → o ≡ Equal
equal_is Less e = absurd cc
equal_is Equal e = refl
equal_is Greater e = absurd cc

both : (o p : Ordering) → ordering_then o p ≡ Equal → (o ≡ Equal) × (p ≡ Equal)
both Less p e = absurd cc
both Equal p e = (refl, e)
both Greater p e = absurd cc

octets : (a b : Ipv4Addr) → slice_cmp nat_cmp (ipv4_octets a) (ipv4_octets b) ≡ Equal → a ≡ b
octets a b e = ap (λ l. record { octets = l }) (exact_bytes (ipv4_octets a) (ipv4_octets b) e)

segments : (a b : Ipv6Addr) → slice_cmp nat_cmp (ipv6_segments a) (ipv6_segments b) ≡ Equal → a ≡ b
segments a b e = ap (λ l. record { segments = l }) (exact_bytes (ipv6_segments a) (ipv6_segments b) e)

v4 : (a b : SocketAddrV4)
    → ordering_then (slice_cmp nat_cmp (ipv4_octets (v4_ip a)) (ipv4_octets (v4_ip b))) (nat_cmp (v4_port a) (v4_port b)) ≡ Equal → a ≡ b
v4 a b e =
    let h = both _ _ e in
    ap₂ (λ i p. record { ip = i; port = p }) (octets (v4_ip a) (v4_ip b) h.0) (exact_unsigned (v4_port a) (v4_port b) h.1)

abbrev v6_then : SocketAddrV6 → SocketAddrV6 → Ordering
v6_then a b = ordering_then (nat_cmp (v6_port a) (v6_port b))
    (ordering_then (nat_cmp (v6_flowinfo a) (v6_flowinfo b)) (nat_cmp (v6_scope_id a) (v6_scope_id b)))

v6 : (a b : SocketAddrV6)
    → ordering_then (slice_cmp nat_cmp (ipv6_segments (v6_ip a)) (ipv6_segments (v6_ip b))) (v6_then a b) ≡ Equal → a ≡ b
v6 a b e =
    let h = both (slice_cmp nat_cmp (ipv6_segments (v6_ip a)) (ipv6_segments (v6_ip b))) (v6_then a b) e in
    let k = both (nat_cmp (v6_port a) (v6_port b)) _ h.1 in
    let m = both (nat_cmp (v6_flowinfo a) (v6_flowinfo b)) (nat_cmp (v6_scope_id a) (v6_scope_id b)) k.1 in
    let ip = segments (v6_ip a) (v6_ip b) h.0 in
    let port = exact_unsigned (v6_port a) (v6_port b) k.0 in
    let flow = exact_unsigned (v6_flowinfo a) (v6_flowinfo b) m.0 in
    let scope = exact_unsigned (v6_scope_id a) (v6_scope_id b) m.1 in
    λ i. record { ip = ip i; port = port i; flowinfo = flow i; scope_id = scope i }

socket : (s t : SocketAddr) → socket_cmp s t ≡ Equal → s ≡ t
socket (V4 a) (V4 b) e = ap V4 (v4 a b e)
socket (V4 a) (V6 b) e = absurd cc
socket (V6 a) (V4 b) e = absurd cc
socket (V6 a) (V6 b) e = ap V6 (v6 a b e)

exact : (a b : Ends) → ends_cmp a b ≡ Equal → a ≡ b
exact a b e =
    let h = both (socket_cmp a.source b.source) (socket_cmp a.destination b.destination) e in
    ap₂ (λ s d. record { source = s; destination = d }) (socket a.source b.source h.0) (socket a.destination b.destination h.1)

tied : (a b : Ends) → a ≡ b → is_eq (ends_cmp a b) ≡ true
tied a b e = subst (λ x. is_eq (ends_cmp a x) ≡ true) e (ap is_eq (tied_itself total-law a))

pub ends_same : (a b : Ends) → (is_eq (ends_cmp a b) ≡ true) ↔ (a ≡ b)
ends_same a b = (λ e. exact a b (equal_is (ends_cmp a b) e), tied a b)
