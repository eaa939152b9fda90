-- How a vector in blocks is seen.
use Rattle.std.specs.Prelude.{◌≡◌, ℕ, zero, suc, ◌+◌, ◌-◌, ◌*◌, ◌/◌, ◌<◌, ◌≤◌, max, List, [], ◌∷◌, length, take, drop}
use Rattle.std.specs.Prelude.{slice_index_or, slice_set, All, Result, Ok, Err, refl}
use Rattle.std.specs.List.{flat_map, insert, remove}
use Rattle.std.specs.Coded.{Coded, code_by, coded×, coded_ℕ, coded_list}
use Rattle.tiered_vec.specs.Place.{Position}

-- the elements block by block, and how many empty blocks are kept
pub record Tiers (T : Type 0) : Type 0 where
  pub blocks : List (List T)
  pub spares : ℕ

-- how proofs distinguish such values: by the pair of their fields
abbrev pub tiers_code : {T : Type 0} → Coded T → Coded (Tiers T)
tiers_code {T} code =
    code_by (List (List T) × ℕ) (coded× (coded_list (coded_list code)) coded_ℕ)
    (λ v. (v.blocks, v.spares))
    (λ p. record { blocks = p.0; spares = p.1 }) (λ _. refl)

-- the most elements in a block
abbrev pub block_size : ℕ
block_size = 128

-- where a full block is cut
abbrev pub half_size : ℕ
half_size = block_size / 2

-- a block has elements, and not too many
pub record IsBlock {T : Type 0} (b : List T) : Type 0 where
  pub filled : 0 < length b
  pub fits : length b ≤ block_size

module _ {T : Type 0} where
  -- the blocks one after another
  abbrev pub flatten : List (List T) → List T
  flatten blocks = flat_map (λ b. b) blocks

  -- how many elements are before a block
  abbrev pub start : List (List T) → ℕ → ℕ
  start blocks k = length (flatten (take k blocks))

  -- a block, or no elements past the last
  abbrev pub block_at : List (List T) → ℕ → List T
  block_at blocks k = slice_index_or blocks k []

  -- the blocks with an element put into one of them
  abbrev pub with_put : List (List T) → ℕ → ℕ → T → List (List T)
  with_put blocks k at x = slice_set blocks k (insert (block_at blocks k) at x)

  -- the blocks with an element removed from one of them
  abbrev pub without : List (List T) → ℕ → ℕ → List (List T)
  without blocks k at = slice_set blocks k (remove (block_at blocks k) at)

  -- the blocks with one cut in two
  abbrev pub cut : List (List T) → ℕ → List (List T)
  cut [] k = []
  cut (b ∷ blocks) zero = take half_size b ∷ drop half_size b ∷ blocks
  cut (b ∷ blocks) (suc k) = b ∷ cut blocks k

  -- how far blocks are filled past the half
  abbrev pub overfull : List (List T) → ℕ
  overfull [] = 0
  overfull (b ∷ blocks) = (length b - half_size) + overfull blocks

  -- the same, if the first block is still to be added
  abbrev pub load : List (List T) → ℕ
  load [] = half_size
  load (b ∷ blocks) = overfull (b ∷ blocks)

  -- how many more elements fit into the last block
  abbrev pub left_in_last : List (List T) → ℕ
  left_in_last blocks = block_size * length blocks
      - (block_size * (length blocks - 1) + length (block_at blocks (length blocks - 1)))

  -- this many insertions, at any places, fit if each spare block takes half of a full one
  abbrev pub cut_room : List (List T) → ℕ → ℕ
  cut_room blocks spares = half_size * spares - load blocks

  -- this many elements fit at the end
  abbrev pub end_room : List (List T) → ℕ → ℕ
  end_room blocks spares = left_in_last blocks + block_size * spares

  -- the elements
  abbrev pub items : Tiers T → List T
  items v = flatten v.blocks

  -- this many insertions, at any places, take no memory
  unfoldable pub room : Tiers T → ℕ
  room v = max v.spares (cut_room v.blocks v.spares)

  -- and this many pushes
  unfoldable pub tail_room : Tiers T → ℕ
  tail_room v = end_room v.blocks v.spares

  -- how many elements are before a place
  unfoldable pub index_of : List (List T) → Position → ℕ
  index_of blocks p = start blocks p.block + p.at

  -- an element is there
  pub record IsPlace (blocks : List (List T)) (p : Position) : Type 0 where
    pub in_block : p.block < length blocks
    pub in_range : p.at < length (block_at blocks p.block)

  -- an element can be put there
  pub record IsGap (blocks : List (List T)) (p : Position) : Type 0 where
    pub in_block : p.block ≤ length blocks - 1
    pub in_range : p.at ≤ length (block_at blocks p.block)

  -- the n-th place: that of an element, or of the end
  pub record IsPlaceOf (blocks : List (List T)) (n : ℕ) (p : Position) : Type 0 where
    pub gap : IsGap blocks p
    pub index : index_of blocks p ≡ n
    pub element : n < length (flatten blocks) → IsPlace blocks p

  -- the result of a search as one about the elements
  abbrev pub index_result : List (List T) → Result Position Position → Result ℕ ℕ
  index_result blocks (Ok p) = Ok (index_of blocks p)
  index_result blocks (Err p) = Err (index_of blocks p)

  -- v with another element at a place
  unfoldable pub with_item_at : Tiers T → Position → T → Tiers T
  with_item_at v p x = record v {
    blocks = slice_set v.blocks p.block (slice_set (block_at v.blocks p.block) p.at x);
  }

  -- The n-th place was prepared for an element: where it is then.
  pub record IsOpened (old new : List (List T)) (n : ℕ) (p : Position) : Type 0 where
    pub in_block : p.block < length new
    pub in_range : p.at ≤ length (block_at new p.block)
    pub fits : length (block_at new p.block) < block_size
    pub same : flatten new ≡ flatten old
    pub index : index_of new p ≡ n
    pub each : (b : List T) → IsBlock b → All IsBlock (slice_set new p.block b)
