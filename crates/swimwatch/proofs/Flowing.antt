-- What is heard from frames.
use Rattle.std.proofs.Common.{◌≡◌, ℕ, Bool, List, [], ◌∷◌, ◌++◌, Option, Some, None, IfSome, Result, Ok, Err, OnOk, true, refl, sym, ap₂, ◌∙◌}
use Rattle.std.proofs.Math.Path.{subst}
use Rattle.std.specs.Option.{option_map}
use Rattle.std.specs.declared.net.socket_addr.SocketAddr.{SocketAddr}
use Rattle.capture.specs.declared.ends.Ends.{Ends}
use Rattle.capture.specs.Captured.{Captured, IsFlowOf, IsPairOf}
use Rattle.capture.specs.Flows.{FlowText}
use Rattle.capture.specs.FlowTexts.{PairText}
use Rattle.capture.specs.Packets.{CarriedText, TcpText, TransportText, UdpText}
use Rattle.capture.specs.Packets.TransportText.{udp, tcp}
use Rattle.swimwatch.specs.declared.heard.recent.Way.{Way}
use Rattle.swimwatch.specs.declared.listening.parcel.Parcel.{Parcel}
use Rattle.swimwatch.specs.Filtered.{Choice, IsLeftOut, IsParcelOf, takes}
use Rattle.swimwatch.specs.Connected.{Past}
use Rattle.swimwatch.specs.Shown.{HearsFrame, HearsFrame as frames}
use Rattle.swimwatch.specs.Places.{IsPlace}
use Rattle.swimwatch.specs.Ways.{IsPacketOf, PacketText, packet_of}

-- ---- nothing is heard from a frame

pub left_out : (s : Choice) (way : Way) (time : ℕ) (c : CarriedText) (old new : Past) → new ≡ old → IsLeftOut s.ports c
    → HearsFrame s way time c old new
left_out s way time c old new same why =
    subst (λ p. HearsFrame s way time c old p) (sym same) (frames.left_out why)

-- ---- the packet in a frame

abbrev pub packet_in : ℕ → Way → Parcel → SocketAddr → SocketAddr → PacketText
packet_in time way p source destination =
    packet_of (record { time = time; source = source; destination = destination; proto = p.proto }) way p.seq p.payload.now

pub packet_is : (time : ℕ) (way : Way) (c : CarriedText) (p : Parcel) (source destination : SocketAddr) → IsParcelOf c.transport p
    → IsPlace c.source p.source source → IsPlace c.destination p.destination destination
    → IsPacketOf time way c (packet_in time way p source destination)
packet_is time way c p source destination of from to = (p, of, refl, refl, from, to, refl, refl, refl)

-- ---- the ports of a parcel

pub taken_udp : (ports : List ℕ) (t : TransportText) (d : UdpText) (p : Parcel) → t ≡ udp d → IsParcelOf t p
    → takes ports p.source p.destination ≡ true → takes ports d.source d.destination ≡ true
taken_udp ports t d p is of heard =
    let h = subst (λ x. IsParcelOf x p) is of in
    sym (ap₂ (takes ports) h.1 h.2) ∙ heard

pub taken_tcp : (ports : List ℕ) (t : TransportText) (s : TcpText) (p : Parcel) → t ≡ tcp s → IsParcelOf t p
    → takes ports p.source p.destination ≡ true → takes ports s.source s.destination ≡ true
taken_tcp ports t s p is of heard =
    let h = subst (λ x. IsParcelOf x p) is of in
    sym (ap₂ (takes ports) h.1 h.2) ∙ heard

-- ---- what calls return

pub whenever : {T E P : Type 0} (r : Result T E) → P → OnOk r P
whenever (Ok x) p = p
whenever (Err e) p = tt

-- a value that is there has what is there
pub of_some : {T : Type 0} (P : T → Type 0) (o : Option T) (x : T) → o ≡ Some x → IfSome o P → P x
of_some P o x is has = subst (λ v. IfSome v P) is has

pub on_ok : {T E P Q : Type 0} (r : Result T E) → (P → Q) → OnOk r P → OnOk r Q
on_ok (Ok x) f p = f p
on_ok (Err e) f p = tt

pub both_ok : {T E : Type 0} (P Q : Type 0) (r : Result T E) → OnOk r P → OnOk r Q → OnOk r (P × Q)
both_ok P Q (Ok x) p q = (p, q)
both_ok P Q (Err e) p q = tt

-- an open flow
pub of_open : (all : List Captured) (ends : Ends) (o : Option PairText) (flow : FlowText)
    → IfSome o (IsPairOf all ends) → Some flow ≡ option_map (λ p. p.older.flow) o → IsFlowOf all ends flow
of_open all ends None flow of is = absurd (cc (is))
of_open all ends (Some p) flow of is = (let same : p.older.flow ≡ flow = cc in subst (IsFlowOf all ends) same of.0)
