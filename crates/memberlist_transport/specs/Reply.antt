-- The push/pull stream that replies to another one.
use Rattle.std.specs.Prelude.{◌≡◌, ◌⊎◌, ℕ, List, ◌∷◌}
use Rattle.memberlist_cipher.specs.Label.{IsLabelled}
use Rattle.memberlist_transport.specs.declared.fault.StreamFault.{StreamFault}
use Rattle.memberlist_transport.specs.declared.in_the_clear.InTheClear.{InTheClear}
use Rattle.memberlist_transport.specs.Stream.{IsStreamIn, ReasonFor}

-- the first byte of labels
abbrev pub BeginsAsLabel : List ℕ → Type 0
BeginsAsLabel bytes = (rest : List ℕ) × (bytes ≡ 244 ∷ rest)

-- How a reply is read in a cluster with this label: as it is, if it starts as a label does, and
-- else as if the cluster's label came first.
abbrev pub IsReadAs : List ℕ → List ℕ → List ℕ → Type 0
IsReadAs label bytes whole =
    (BeginsAsLabel bytes × (whole ≡ bytes)) ⊎ ((¬ BeginsAsLabel bytes) × IsLabelled whole label bytes)

-- the reply, read so, holds this stream
abbrev pub IsReplyIn : ℕ → InTheClear → List (List ℕ) → List ℕ → List ℕ → List ℕ → Type 0
IsReplyIn limit policy keys label bytes stream =
    (whole : List ℕ) × IsReadAs label bytes whole × IsStreamIn limit policy keys whole stream

-- a refusal says about a reply what it says about the bytes that it is read as
abbrev pub ReasonForReply : ℕ → InTheClear → List (List ℕ) → List ℕ → List ℕ → StreamFault → Type 0
ReasonForReply limit policy keys label bytes fault =
    (whole : List ℕ) × IsReadAs label bytes whole × ReasonFor limit policy keys whole fault
