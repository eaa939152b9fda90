-- Which frames are heard: what was chosen of them, and why one is left out.
use Rattle.std.specs.Prelude.{◌≡◌, ℕ, zero, ◌==◌, Bool, false, ◌||◌, List, length, Option}
use Rattle.std.specs.List.{list_any}
use Rattle.capture.specs.Endpoints.{HasAddressLen}
use Rattle.capture.specs.Packets.{CarriedText, TransportText}
use Rattle.capture.specs.Packets.TransportText.{udp, tcp, unreachable}
use Rattle.capture.specs.Unreachable.{UnreachableText}
use Rattle.memberlist_transport.specs.declared.in_the_clear.InTheClear.{InTheClear}
use Rattle.swimwatch.specs.declared.heard.sent.Proto.TheVariants.{Udp, Tcp}
use Rattle.swimwatch.specs.declared.listening.filter.Filter.{Filter}
use Rattle.swimwatch.specs.declared.listening.parcel.Parcel.{Parcel}

-- what is heard: with which keys, what is in the clear, of which cluster, until which microsecond,
-- and at which ports
pub record Choice : Type 0 where
  pub clear : InTheClear
  pub keys : List (List ℕ)
  pub label : List ℕ
  pub until : Option ℕ
  pub ports : List ℕ

abbrev pub choice_of : Filter → Choice
choice_of f = record {
  clear = f.opening.clear;
  keys = f.opening.keys.now;
  label = f.opening.label.now;
  until = f.until;
  ports = f.ports.now;
}

-- what is sent between two ports is heard if one of them was chosen, or none was
abbrev pub takes : List ℕ → ℕ → ℕ → Bool
takes ports source destination = (length ports == 0) || list_any (λ port. port == source) ports
    || list_any (λ port. port == destination) ports

-- what a datagram and a segment have in common; a datagram has no sequence number
abbrev pub IsParcelOf : TransportText → Parcel → Type 0
IsParcelOf (udp d) p = (p.proto ≡ Udp) × (p.source ≡ d.source) × (p.destination ≡ d.destination)
    × (p.seq ≡ 0) × (p.payload.now ≡ d.payload)
IsParcelOf (tcp s) p = (p.proto ≡ Tcp) × (p.source ≡ s.source) × (p.destination ≡ s.destination)
    × (p.seq ≡ s.seq) × (p.payload.now ≡ s.payload)
IsParcelOf (unreachable u) p = ⊥

-- why nothing is heard from a frame: it says that a packet was refused, an address in it has neither
-- 4 nor 16 bytes, or its ports were not chosen
pub data IsLeftOut (ports : List ℕ) (c : CarriedText) : Type 0 where
  refusal : (u : UnreachableText) → c.transport ≡ unreachable u → IsLeftOut ports c
  no_source : ¬ HasAddressLen c.source → IsLeftOut ports c
  no_destination : ¬ HasAddressLen c.destination → IsLeftOut ports c
  other_ports : (p : Parcel) → IsParcelOf c.transport p
      → takes ports p.source p.destination ≡ false → IsLeftOut ports c
