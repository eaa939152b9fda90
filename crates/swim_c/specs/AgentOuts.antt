-- What is written of an agent's outputs.
use Rattle.std.specs.Prelude.{◌≡◌, ◌⊎◌, ℕ, List, Option, Some, None, take, MatchOption}
use Rattle.std.specs.Net.Socket.{socket_ip, socket_port}
use Rattle.std.specs.declared.net.socket_addr.SocketAddr.{SocketAddr}
use Rattle.memberlist_member.specs.Places.{HasOctets}
use Rattle.memberlist_member.specs.declared.output.Output.{Output}
use Rattle.memberlist_member.specs.declared.output.Output.TheVariants.{Send, Dial, Write, Close, Changed, Unanswered}
use Rattle.memberlist_member.specs.declared.output.Output.TheVariants.{Untold, Refuted, Exhausted, Forgotten, Departed, Incompatible, User, UserState}
use Rattle.swim_c.specs.declared.agent.out.Out.{Out}
use Rattle.swim_c.specs.declared.agent.place.Place.{Place}
use Rattle.swim_c.specs.declared.buffer.Buffer.{Buffer}
use Rattle.swim_c.specs.NewBytes.{HasBytes}
use Rattle.swim_c.specs.ViewMembers.{IsNamed}
use Rattle.swim_c.specs.Views.{number_of}

-- its address has 4 or 16 bytes
abbrev pub IsPlace : Place → Type 0
IsPlace p = p.addr_len ≡ 4 ⊎ p.addr_len ≡ 16

-- this address and port
pub record IsPlaceOf (place : SocketAddr) (p : Place) : Type 0 where
  pub addr : HasOctets (socket_ip place) (take p.addr_len p.addr)
  pub port : p.port ≡ socket_port place

-- the kind of an output, and all else that it has but its bytes
abbrev pub IsWritten : Output → Out → Type 0
IsWritten (Send to bytes) o = (o.kind ≡ 1) × IsPlaceOf to o.to
IsWritten (Dial stream to) o = (o.kind ≡ 2) × (o.stream ≡ stream) × IsPlaceOf to o.to
IsWritten (Write stream bytes) o = (o.kind ≡ 3) × (o.stream ≡ stream)
IsWritten (Close stream) o = (o.kind ≡ 4) × (o.stream ≡ stream)
IsWritten (Changed name event inc by) o = (o.kind ≡ 5) × IsNamed (Some name) o.name_len o.name
    × (o.event ≡ number_of event) × (o.inc ≡ inc) × IsNamed by o.by_len o.by
IsWritten (Unanswered name seq expected nacks) o = (o.kind ≡ 6) × IsNamed (Some name) o.name_len o.name
    × (o.seq ≡ seq) × (o.expected ≡ expected) × (o.nacks ≡ nacks)
IsWritten (Untold name) o = (o.kind ≡ 7) × IsNamed (Some name) o.name_len o.name
IsWritten (Refuted inc) o = (o.kind ≡ 8) × (o.inc ≡ inc)
IsWritten Exhausted o = o.kind ≡ 9
IsWritten (Forgotten count) o = (o.kind ≡ 10) × (o.count ≡ count)
IsWritten Departed o = o.kind ≡ 11
IsWritten (User bytes) o = o.kind ≡ 12
IsWritten (UserState bytes join) o = (o.kind ≡ 13) × (o.join ≡ join)
IsWritten (Incompatible stream) o = (o.kind ≡ 14) × (o.stream ≡ stream)

-- the bytes of an output, if it has any
abbrev pub bytes_of : Output → Option (List ℕ)
bytes_of (Send to bytes) = Some bytes.items
bytes_of (Dial stream to) = None
bytes_of (Write stream bytes) = Some bytes.items
bytes_of (Close stream) = None
bytes_of (Changed name event inc by) = None
bytes_of (Unanswered name seq expected nacks) = None
bytes_of (Untold name) = None
bytes_of (Refuted inc) = None
bytes_of Exhausted = None
bytes_of (Forgotten count) = None
bytes_of Departed = None
bytes_of (User bytes) = Some bytes.items
bytes_of (UserState bytes join) = Some bytes.items
bytes_of (Incompatible stream) = None

-- the buffer has them, or is empty
abbrev pub HasOutBytes : Output → Buffer → Type 0
HasOutBytes output buffer =
    MatchOption (bytes_of output) ((buffer.kept.kept ≡ None) × (buffer.len ≡ 0)) (λ bytes. HasBytes bytes buffer)
