-- What a refusal says about bytes in wrappers.
use Rattle.std.specs.Prelude.{◌≡◌, ◌⊎◌, ℕ, ◌-◌, ◌<◌, ◌≤◌, List, ◌∷◌, ◌++◌, length, Err}
use Rattle.byteorder.specs.Endian.{big_number}
use Rattle.swim_wire.specs.declared.fault.WireFault.{WireFault}
use Rattle.swim_wire.specs.declared.fault.WireFault.TheVariants as wire
use Rattle.swim_wire.specs.Compression.{CompressionText, whole_compression}
use Rattle.memberlist_cipher.specs.declared.label.LabelFault.{LabelFault}
use Rattle.memberlist_cipher.specs.declared.label.LabelFault.TheVariants as labels
use Rattle.memberlist_cipher.specs.Label.{LabelCause}
use Rattle.memberlist_wrap.specs.declared.fault.WrapFault.{WrapFault}
use Rattle.memberlist_wrap.specs.declared.fault.WrapFault.TheVariants.{Ended, Trailing, BadChecksum, BadMap, BadAlgo}
use Rattle.memberlist_wrap.specs.declared.fault.WrapFault.TheVariants.{BadLabel, TooLarge, TooDeep, Memory}
use Rattle.memberlist_wrap.specs.Crc.{IsCrc}
use Rattle.memberlist_wrap.specs.Fault.{ReasonForLzw}
use Rattle.memberlist_wrap.specs.Wrapping.{Wrapper, kind, Wrapped, IsBare}
use Rattle.memberlist_wrap.specs.Wrapping.Wrapper.{compression, checksum, label}

-- Why the map of a compression is invalid. Its one number is `Algo`, and its `Buf` may be as long
-- as all the bytes.
abbrev pub fault_of_map : WireFault → WrapFault
fault_of_map wire.Ended = Ended
fault_of_map wire.TooLong = Ended
fault_of_map wire.Trailing = Trailing
fault_of_map wire.OutOfRange = BadAlgo
fault_of_map wire.Memory = Memory
fault_of_map cause = BadMap

-- the map is invalid, for this cause, or it holds something else than a compression within the
-- limit
abbrev pub CompressionFails : ℕ → WrapFault → List ℕ → Type 0
CompressionFails limit fault bytes =
    ((cause : WireFault) × (whole_compression bytes ≡ Err cause) × (fault ≡ fault_of_map cause))
    ⊎ ((packed : List ℕ) × CompressionText bytes packed × ReasonForLzw limit fault packed)

-- there are no four bytes, or they are not the CRC-32 of the rest
abbrev pub ChecksumFails : WrapFault → List ℕ → Type 0
ChecksumFails Ended bytes = length bytes < 4
ChecksumFails BadChecksum bytes = (digits : List ℕ) × (inner : List ℕ) × (length digits ≡ 4)
    × (bytes ≡ digits ++ inner) × (¬ IsCrc inner (big_number 4 digits))
ChecksumFails fault bytes = ⊥

-- how an invalid label is reported
abbrev pub fault_of_label : LabelFault → WrapFault
fault_of_label labels.Ended = Ended
fault_of_label labels.Empty = BadLabel

-- with its first byte it is not a label, for this cause
abbrev pub LabelFails : WrapFault → List ℕ → Type 0
LabelFails fault bytes =
    (cause : LabelFault) × LabelCause cause (kind label ∷ bytes) × (fault ≡ fault_of_label cause)

-- what follows the first byte of the wrapper does not belong to it, for this reason
abbrev pub WrapperFails : ℕ → WrapFault → Wrapper → List ℕ → Type 0
WrapperFails limit fault compression bytes = CompressionFails limit fault bytes
WrapperFails limit fault checksum bytes = ChecksumFails fault bytes
WrapperFails limit fault label bytes = LabelFails fault bytes

-- Why bytes are not a message if this many more wrappers may be removed: there is a wrapper, and
-- none may be removed; there is one, and what follows its first byte does not belong to it; or
-- there is none, and the bytes are too long.
pub data FailsHere (depth limit : ℕ) (fault : WrapFault) (bytes : List ℕ) : Type 0 where
  deep : (w : Wrapper) (rest : List ℕ) → bytes ≡ kind w ∷ rest → depth ≡ 0 → fault ≡ TooDeep
      → FailsHere depth limit fault bytes
  broken : (w : Wrapper) (rest : List ℕ) → bytes ≡ kind w ∷ rest → 0 < depth
      → WrapperFails limit fault w rest → FailsHere depth limit fault bytes
  large : IsBare bytes → limit < length bytes → fault ≡ TooLarge → FailsHere depth limit fault bytes

-- What a refusal says about bytes: they are wrappers, at most depth, around bytes that fail so.
pub record ReasonForIn (depth limit : ℕ) (fault : WrapFault) (bytes : List ℕ) : Type 0 where
  pub wrappers : List Wrapper
  pub inner : List ℕ
  pub few : length wrappers ≤ depth
  pub wrapped : Wrapped limit wrappers bytes inner
  pub fails : FailsHere (depth - length wrappers) limit fault inner

-- When memory is allocated: after wrappers, at most depth, there is a message within the limit, or
-- a compression that may be removed.
pub record AsksMemory (depth limit : ℕ) (bytes : List ℕ) : Type 0 where
  pub wrappers : List Wrapper
  pub inner : List ℕ
  pub few : length wrappers ≤ depth
  pub wrapped : Wrapped limit wrappers bytes inner
  pub asks : (IsBare inner × (length inner ≤ limit))
      ⊎ ((length wrappers < depth) × (map : List ℕ) × (inner ≡ 9 ∷ map))
