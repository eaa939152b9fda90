-- The status of a call on wrapped or encrypted bytes.
use Rattle.std.proofs.Common.{◌≡◌, ◌≢◌, ℕ, ◌<◌, List, [], length, ap, refl, sym, subst, Option, Some, None}
use Rattle.std.specs.Prelude.{IfSome}
use Rattle.memberlist_cipher.specs.declared.fault.CipherFault.{CipherFault}
use Rattle.memberlist_cipher.specs.declared.fault.CipherFault.TheVariants as cipher
use Rattle.memberlist_cipher.specs.Refusal.{EncryptCause}
use Rattle.memberlist_transport.specs.declared.fault.PacketFault.{PacketFault}
use Rattle.memberlist_transport.specs.declared.fault.PacketFault.TheVariants as packet_fault
use Rattle.memberlist_transport.specs.declared.fault.StreamFault.{StreamFault}
use Rattle.memberlist_transport.specs.declared.fault.StreamFault.TheVariants as stream_fault
use Rattle.memberlist_transport.specs.Unwrapped.{IsInside, IsInsideReply}
use Rattle.memberlist_transport.specs.declared.in_the_clear.InTheClear.TheVariants.{Refused}
use Rattle.swim_c.specs.declared.cluster_keys.ClusterKeys.{ClusterKeys}
use Rattle.swim_c.specs.declared.copy.Written.{Written}
use Rattle.swim_c.specs.Keyring.{keys_of}
use Rattle.swim_c.specs.Sealing.{Sealed}
use Rattle.swim_c.specs.Statuses.{packet_status, stream_status, cipher_status}
use Rattle.swim_c.specs.declared.buffer.Buffer.{Buffer}
use Rattle.swim_c.specs.declared.unwrapping.Unwrapped.{Unwrapped}
use Rattle.swim_c.specs.Unwrapping.{max_stream_len, IsUnwritten, Lacks, LacksNew, PacketUnwrapped, StreamUnwrapped}

-- nothing was written
pub unwritten : (number : ℕ) (bytes : List ℕ) (w : Written) → w ≡ record { status = number; len = 0 }
    → IsUnwritten number bytes bytes w.status w.len
unwritten number bytes w is = record { status_is = ap (λ (v : Written). v.status) is; no_len = ap (λ (v : Written). v.len) is; same = refl }

-- nothing was told and written
pub lacked : (number : ℕ) (bytes : List ℕ) (w : Unwrapped)
    → w ≡ record { status = number; kind = 0; len = 0 } → Lacks bytes bytes w.status w.kind w.len number
lacked number bytes w is = (
  ap (λ (v : Unwrapped). v.kind) is,
  record {
    status_is = ap (λ (v : Unwrapped). v.status) is;
    no_len = ap (λ (v : Unwrapped). v.len) is;
    same = refl;
  },
)

pub lacked_new : (number : ℕ) (buffer : Buffer) (w : Unwrapped)
    → w ≡ record { status = number; kind = 0; len = 0 } → LacksNew buffer buffer w.status w.kind number
lacked_new number buffer w is = (ap (λ (v : Unwrapped). v.kind) is, ap (λ (v : Unwrapped). v.status) is, refl)

module _ (keys : ClusterKeys) (Given : List ℕ → Type 0) (Refused : ℕ → Type 0) where
  -- a packet was refused
  pub packet_refused : (packet : List ℕ) (fault : PacketFault) → Refused (packet_status fault)
      → (fault ≢ packet_fault.Memory → (message : List ℕ)
      → ¬ IsInside keys.clear keys.keyring packet message) → PacketUnwrapped keys packet Given Refused
  packet_refused packet packet_fault.Memory is none = PacketUnwrapped.memory is
  packet_refused packet (packet_fault.Wrapped cause) is none =
      let other : packet_fault.Wrapped cause ≢ packet_fault.Memory = λ e. absurd cc
      in PacketUnwrapped.refused (packet_fault.Wrapped cause) other (none other) is
  packet_refused packet (packet_fault.NoMessage first) is none =
      let other : packet_fault.NoMessage first ≢ packet_fault.Memory = λ e. absurd cc
      in PacketUnwrapped.refused (packet_fault.NoMessage first) other (none other) is
  packet_refused packet packet_fault.Unencrypted is none =
      let other : packet_fault.Unencrypted ≢ packet_fault.Memory = λ e. absurd cc
      in PacketUnwrapped.refused packet_fault.Unencrypted other (none other) is
  packet_refused packet packet_fault.NoKeyFits is none =
      let other : packet_fault.NoKeyFits ≢ packet_fault.Memory = λ e. absurd cc
      in PacketUnwrapped.refused packet_fault.NoKeyFits other (none other) is

  -- what one side of a connection sends was refused
  pub stream_refused : (label bytes : List ℕ) (fault : StreamFault) → length label < 256 → Refused (stream_status fault)
      → (fault ≢ stream_fault.Memory → (message : List ℕ) → ¬ IsInsideReply max_stream_len keys.clear keys.keyring label bytes message)
      → StreamUnwrapped keys label bytes Given Refused
  stream_refused label bytes stream_fault.Memory few is none = StreamUnwrapped.memory few is
  stream_refused label bytes (stream_fault.Wrapped cause) few is none =
      let other : stream_fault.Wrapped cause ≢ stream_fault.Memory = λ e. absurd cc
      in StreamUnwrapped.refused (stream_fault.Wrapped cause) few other (none other) is
  stream_refused label bytes (stream_fault.Closed cause) few is none =
      let other : stream_fault.Closed cause ≢ stream_fault.Memory = λ e. absurd cc
      in StreamUnwrapped.refused (stream_fault.Closed cause) few other (none other) is
  stream_refused label bytes (stream_fault.NoStream first) few is none =
      let other : stream_fault.NoStream first ≢ stream_fault.Memory = λ e. absurd cc
      in StreamUnwrapped.refused (stream_fault.NoStream first) few other (none other) is
  stream_refused label bytes stream_fault.Unencrypted few is none =
      let other : stream_fault.Unencrypted ≢ stream_fault.Memory = λ e. absurd cc
      in StreamUnwrapped.refused stream_fault.Unencrypted few other (none other) is
  stream_refused label bytes stream_fault.Empty few is none =
      let other : stream_fault.Empty ≢ stream_fault.Memory = λ e. absurd cc
      in StreamUnwrapped.refused stream_fault.Empty few other (none other) is

-- a message was not encrypted
pub seal_refused : (made : List ℕ → List ℕ) (Opened : List ℕ → Type 0) (May Clear : Type 0) (keys : List (List ℕ)) (label old new : List ℕ)
    (status len : ℕ) (fault : CipherFault) → keys ≢ [] → EncryptCause May fault → IsUnwritten (cipher_status fault) old new status len
    → Sealed made Opened May Clear keys label old new status len
seal_refused made Opened May Clear keys label old new status len cipher.TooLong some why is = Sealed.too_long some why is
seal_refused made Opened May Clear keys label old new status len cipher.Memory some why is = Sealed.memory some why is
seal_refused made Opened May Clear keys label old new status len cipher.BadKey some why is = absurd why
seal_refused made Opened May Clear keys label old new status len cipher.TooShort some why is = absurd why
seal_refused made Opened May Clear keys label old new status len cipher.WrongVersion some why is = absurd why
seal_refused made Opened May Clear keys label old new status len cipher.WrongTag some why is = absurd why
seal_refused made Opened May Clear keys label old new status len cipher.BadPadding some why is = absurd why
seal_refused made Opened May Clear keys label old new status len cipher.NotEncrypted some why is = absurd why
seal_refused made Opened May Clear keys label old new status len cipher.Trailing some why is = absurd why

-- ---- by what a handle had, and what was made

pub of_some : {X : Type 0} (made : Option X) (x : X) (Holds : X → Type 0) → made ≡ Some x → IfSome made Holds → Holds x
of_some {X} made x Holds is holds = subst (λ (o : Option X). IfSome o Holds) is holds

pub without_keys : (Done : ClusterKeys → Type 0) (old : Option ClusterKeys) (keys : ClusterKeys) → old ≡ None
    → keys ≡ record { keyring = []; clear = Refused } → Done keys → Done (keys_of old)
without_keys Done old keys was none done = subst (λ (o : Option ClusterKeys). Done (keys_of o)) (sym was) (subst Done none done)

pub with_keys : (Done : ClusterKeys → Type 0) (old : Option ClusterKeys) (keys : ClusterKeys)
    → old ≡ Some keys → Done keys → Done (keys_of old)
with_keys Done old keys was done = subst (λ (o : Option ClusterKeys). Done (keys_of o)) (sym was) done
