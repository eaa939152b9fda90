-- The messages of packets and streams, unwrapped.
use Rattle.std.specs.Prelude.{◌≡◌, ◌≢◌, ℕ, ◌<◌, ◌==◌, ◌||◌, Bool, List, [], ◌∷◌, length, nat_lt, Result, Ok, Err}
use Rattle.std.specs.Prelude.{MatchResult, if◌then◌else◌}
use Rattle.memberlist_transport.specs.declared.fault.PacketFault.{PacketFault}
use Rattle.memberlist_transport.specs.declared.fault.PacketFault.TheVariants as packet_fault
use Rattle.memberlist_transport.specs.declared.fault.StreamFault.{StreamFault}
use Rattle.memberlist_transport.specs.declared.fault.StreamFault.TheVariants as stream_fault
use Rattle.memberlist_transport.specs.Unwrapped.{IsInside, IsInsideReply}
use Rattle.swim_c.specs.declared.buffer.Buffer.{Buffer}
use Rattle.swim_c.specs.declared.cluster_keys.ClusterKeys.{ClusterKeys}
use Rattle.swim_c.specs.Buffers.{Copied, IsNoMemory}
use Rattle.swim_c.specs.NewBytes.{FilledOr}
use Rattle.swim_c.specs.Statuses.{packet_status, stream_status}
use Rattle.swim_c.specs.Statuses as statuses

-- the most bytes of a stream, and of what is compressed or encrypted in it
abbrev pub max_stream_len : ℕ
max_stream_len = 268435456

-- the call has this status, and wrote nothing
pub record IsUnwritten (number : ℕ) (old new : List ℕ) (status len : ℕ) : Type 0 where
  pub status_is : status ≡ number
  pub no_len : len ≡ 0
  pub same : new ≡ old

-- the first byte of a message, which is its kind (memberlist's net.go): up to 8, or 11 or 13
abbrev pub is_kind : ℕ → Bool
is_kind first = nat_lt first 9 || first == 11 || first == 13

-- The kind of the message. An empty one ends too soon (1), and what else begins like no message is
-- none (16).
abbrev pub kind_in : List ℕ → Result ℕ ℕ
kind_in [] = Err statuses.ended
kind_in (first ∷ rest) = if is_kind first then Ok first else Err statuses.wrong_type

-- nothing is told and written, with this status
abbrev pub Lacks : List ℕ → List ℕ → ℕ → ℕ → ℕ → ℕ → Type 0
Lacks old new status kind len number = (kind ≡ 0) × IsUnwritten number old new status len

-- nothing is told, and the buffer is unchanged, with this status
abbrev pub LacksNew : Buffer → Buffer → ℕ → ℕ → ℕ → Type 0
LacksNew old new status kind number = (kind ≡ 0) × (status ≡ number) × (new ≡ old)

-- The result of unwrapping a packet: what is given of its message; the fault if it has none; or
-- memory was refused (10).
pub data PacketUnwrapped (keys : ClusterKeys) (packet : List ℕ) (Given : List ℕ → Type 0)
    (Refused : ℕ → Type 0) : Type 0 where
  given : (message : List ℕ) → IsInside keys.clear keys.keyring packet message → Given message
      → PacketUnwrapped keys packet Given Refused
  refused : (fault : PacketFault) → fault ≢ packet_fault.Memory
      → ((message : List ℕ) → ¬ IsInside keys.clear keys.keyring packet message)
      → Refused (packet_status fault) → PacketUnwrapped keys packet Given Refused
  memory : Refused statuses.memory → PacketUnwrapped keys packet Given Refused

-- The result of unwrapping what one side of a connection sends, in a cluster with this label: what
-- is given of its message; the fault if there is none; or memory was refused (10). A label of more
-- than 255 bytes is too long (51).
pub data StreamUnwrapped (keys : ClusterKeys) (label bytes : List ℕ) (Given : List ℕ → Type 0)
    (Refused : ℕ → Type 0) : Type 0 where
  given : (message : List ℕ) → length label < 256
      → IsInsideReply max_stream_len keys.clear keys.keyring label bytes message → Given message
      → StreamUnwrapped keys label bytes Given Refused
  refused : (fault : StreamFault) → length label < 256 → fault ≢ stream_fault.Memory
      → ((message : List ℕ)
      → ¬ IsInsideReply max_stream_len keys.clear keys.keyring label bytes message)
      → Refused (stream_status fault) → StreamUnwrapped keys label bytes Given Refused
  too_long : 255 < length label → Refused 51 → StreamUnwrapped keys label bytes Given Refused
  memory : length label < 256 → Refused statuses.memory
      → StreamUnwrapped keys label bytes Given Refused

-- in a buffer of the caller the message was copied or did not fit, and its kind is told
abbrev pub GivesMessage : List ℕ → List ℕ → ℕ → ℕ → ℕ → List ℕ → Type 0
GivesMessage old new status kind len text =
    MatchResult (kind_in text) (λ first. (kind ≡ first) × Copied text old new status len)
    (Lacks old new status kind len)

-- a buffer of the library has the message, or memory was refused, and its kind is told
abbrev pub GivesNewMessage : Buffer → Buffer → ℕ → ℕ → List ℕ → Type 0
GivesNewMessage old new status kind text =
    MatchResult (kind_in text) (λ first. (kind ≡ first) × FilledOr text old new status IsNoMemory)
    (LacksNew old new status kind)
