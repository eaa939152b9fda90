-- The canonical bytes of each message are those of a map of its pairs.
use Rattle.std.proofs.Common.{◌≡◌, ℕ, List, [], ◌∷◌, append_assoc, append-nil}
use Rattle.swim_claim.specs.Details.{DetailsValue}
use Rattle.swim_wire.specs.declared.layout.Key.TheVariants as keys
use Rattle.swim_wire.specs.declared.stream.Header.{Header}
use Rattle.swim_wire.specs.Canonical.{alive_bytes, accusation_bytes, header_bytes, record_bytes}
use Rattle.swim_wire.specs.Keys.{key_text}
use Rattle.swim_wire.specs.Layout.{Pairs}
use Rattle.swim_wire.specs.Layout.Spelled.{number, raw, flag}
use Rattle.swim_wire.specs.Pairs.{map_text}

abbrev pub alive_pairs : List ℕ → ℕ → DetailsValue → Pairs
alive_pairs name inc details =
    (key_text keys.Addr, raw details.addr) ∷ (key_text keys.Incarnation, number inc) ∷ (key_text keys.Meta, raw details.meta)
    ∷ (key_text keys.Node, raw name) ∷ (key_text keys.Port, number details.port) ∷ (key_text keys.Vsn, raw details.vsn) ∷ []

abbrev pub accusation_pairs : List ℕ → ℕ → List ℕ → Pairs
accusation_pairs name inc from = (key_text keys.From, raw from) ∷ (
  key_text keys.Incarnation,
  number inc,
) ∷ (key_text keys.Node, raw name) ∷ []

abbrev pub header_pairs : Header → Pairs
header_pairs h = (key_text keys.Join, flag h.join) ∷ (
  key_text keys.Nodes,
  number h.nodes,
) ∷ (key_text keys.UserStateLen, number h.user_len) ∷ []

abbrev pub record_pairs : List ℕ → ℕ → ℕ → DetailsValue → Pairs
record_pairs name inc state details =
    (key_text keys.Addr, raw details.addr) ∷ (key_text keys.Incarnation, number inc) ∷ (key_text keys.Meta, raw details.meta)
    ∷ (key_text keys.Name, raw name) ∷ (key_text keys.Port, number details.port) ∷ (
      key_text keys.State,
      number state,
    ) ∷ (key_text keys.Vsn, raw details.vsn) ∷ []

pub alive_bytes-pairs : (name : List ℕ) (inc : ℕ) (details : DetailsValue)
    → alive_bytes name inc details ≡ 4 ∷ map_text (alive_pairs name inc details)
alive_bytes-pairs name inc details = simp (append_assoc, append-nil)

pub accusation_bytes-pairs : (type : ℕ) (name : List ℕ) (inc : ℕ) (from : List ℕ)
    → accusation_bytes type name inc from ≡ type ∷ map_text (accusation_pairs name inc from)
accusation_bytes-pairs type name inc from = simp (append_assoc, append-nil)

pub header_bytes-pairs : (h : Header) → header_bytes h ≡ 6 ∷ map_text (header_pairs h)
header_bytes-pairs h = simp (append_assoc, append-nil)

pub record_bytes-pairs : (name : List ℕ) (inc state : ℕ) (details : DetailsValue)
    → record_bytes name inc state details ≡ map_text (record_pairs name inc state details)
record_bytes-pairs name inc state details = simp (append_assoc, append-nil)
