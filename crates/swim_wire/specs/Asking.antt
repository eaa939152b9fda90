-- Where a read requests memory: only at a value of text or bytes, once its length is known.
use Rattle.std.specs.Prelude.{◌≡◌, ℕ, zero, suc, ◌*◌, ◌≤◌, ◌⊎◌, List, [], ◌∷◌, ◌++◌, length, Some}
use Rattle.swim_pack.specs.Spelling.{RawLen, Raw, Count}
use Rattle.swim_wire.specs.declared.layout.Limit.{Limit}
use Rattle.swim_wire.specs.declared.layout.Limit.TheVariants as limits
use Rattle.swim_wire.specs.Layout.{Layout, Spelled, PairText, of_key, alive_layout, accusation_layout}
use Rattle.swim_wire.specs.Parts.{lengths_in}

-- The value is text or bytes, and the bytes start with a length within its limit.
abbrev pub ValueAsks : Limit → List ℕ → Type 0
ValueAsks (limits.Raw limit) bytes = (b rest : List ℕ) × (n : ℕ) × RawLen b n × (n ≤ limit)
    × (bytes ≡ b ++ rest)
ValueAsks limit bytes = ⊥

-- The bytes start with a key of the layout, and its value requests memory.
pub record PairAsks (layout : Layout) (bytes : List ℕ) : Type 0 where
  pub limit : Limit
  pub name : List ℕ
  pub in_layout : of_key name layout ≡ Some limit
  pub key_text : List ℕ
  pub rest : List ℕ
  pub key : Raw key_text name
  pub value : ValueAsks limit rest
  pub text : bytes ≡ key_text ++ rest

-- One of the next n pairs requests memory: the first, or one after it.
abbrev pub PairsAsk : Layout → ℕ → List ℕ → Type 0
PairsAsk layout zero bytes = ⊥
PairsAsk layout (suc n) bytes = PairAsks layout bytes
    ⊎ ((first rest : List ℕ) × (pair : List ℕ × Spelled) × PairText layout first pair
    × PairsAsk layout n rest × (bytes ≡ first ++ rest))

-- The bytes start with the count of a map of the layout, and one of its pairs requests memory.
pub record MapAsks (layout : Layout) (bytes : List ℕ) : Type 0 where
  pub n : ℕ
  pub few : n ≤ length layout
  pub count_text : List ℕ
  pub rest : List ℕ
  pub count : Count count_text n
  pub pairs : PairsAsk layout n rest
  pub text : bytes ≡ count_text ++ rest

-- The map after the type byte of a packet requests memory.
abbrev pub PacketAsks : List ℕ → Type 0
PacketAsks [] = ⊥
PacketAsks (first ∷ rest) =
    ((first ≡ 4) × MapAsks alive_layout rest)
    ⊎ (((first ≡ 3) ⊎ (first ≡ 5)) × MapAsks accusation_layout rest)

-- One of the parts of these lengths requests memory: the first, or one after it.
abbrev pub PartsAsk : List ℕ → List ℕ → Type 0
PartsAsk [] bytes = ⊥
PartsAsk (len ∷ lens) bytes = (part rest : List ℕ) × (length part ≡ len) × (bytes ≡ part ++ rest)
    × (PacketAsks part ⊎ PartsAsk lens rest)

-- The count of the parts and all their lengths are there, and one of the parts requests memory.
abbrev pub CompoundAsks : List ℕ → Type 0
CompoundAsks [] = ⊥
CompoundAsks (count ∷ bytes) = (lens parts : List ℕ) × (length lens ≡ 2 * count)
    × (bytes ≡ lens ++ parts) × PartsAsk (lengths_in lens) parts

-- The datagram requests memory: as a packet, or as a compound packet after the byte 7.
abbrev pub DatagramAsks : List ℕ → Type 0
DatagramAsks bytes = PacketAsks bytes
    ⊎ ((rest : List ℕ) × (bytes ≡ 7 ∷ rest) × CompoundAsks rest)
