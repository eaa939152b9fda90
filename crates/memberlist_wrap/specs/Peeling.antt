-- What is left once the outer wrapper, or all up to a compression, are removed.
use Rattle.std.specs.Prelude.{◌≡◌, ℕ, ◌+◌, ◌<◌, ◌≤◌, List, ◌∷◌, ◌++◌, length}
use Rattle.memberlist_wrap.specs.declared.fault.WrapFault.{WrapFault}
use Rattle.memberlist_wrap.specs.declared.outer.Outer.{Outer}
use Rattle.memberlist_wrap.specs.declared.outer.Outer.TheVariants as outers
use Rattle.memberlist_wrap.specs.declared.wrappers.Core.{Core}
use Rattle.memberlist_wrap.specs.declared.wrappers.Core.TheVariants as cores
use Rattle.memberlist_wrap.specs.Reasons.{ReasonForIn}
use Rattle.memberlist_wrap.specs.Fault.{ReasonForLzw}
use Rattle.memberlist_wrap.specs.Lzw.{Lzw}
use Rattle.memberlist_wrap.specs.Wrapping.{Wrapper, kind, WrapText, Wrapped, IsBare, UnwrapsIn}

-- the second bytes are a suffix of the first
abbrev pub EndsWith : List ℕ → List ℕ → Type 0
EndsWith bytes back = (front : List ℕ) × (bytes ≡ front ++ back)

-- what the outer wrapper contains, if there is one and it may be removed
abbrev pub Shows : ℕ → List ℕ → Outer → Type 0
Shows depth bytes outers.Nothing = IsBare bytes
Shows depth bytes (outers.Layer inner) =
    (0 < depth) × EndsWith bytes inner.now
    × ((w : Wrapper) × (rest : List ℕ) × (bytes ≡ kind w ∷ rest)
    × ((limit : ℕ) → WrapText limit w rest inner.now))
Shows depth bytes (outers.Compression map) = (0 < depth) × (bytes ≡ 9 ∷ map.now)

-- what the wrappers up to the first compression contain
abbrev pub Holds : ℕ → List ℕ → Core → Type 0
Holds depth bytes (cores.Message message) =
    EndsWith bytes message.now × IsBare message.now
    × ((ws : List Wrapper) × (length ws ≤ depth)
    × ((limit : ℕ) → Wrapped limit ws bytes message.now))
Holds depth bytes (cores.Compression map left) =
    (ws : List Wrapper) × (length ws + (left + 1) ≡ depth)
    × ((limit : ℕ) → Wrapped limit ws bytes (9 ∷ map.now))

-- The compressed bytes are a compression of bytes that wrap the message.
pub record PackedUnwraps (depth limit : ℕ) (packed message : List ℕ) : Type 0 where
  pub inner : List ℕ
  pub lzw : Lzw packed inner
  pub within : length inner ≤ limit
  pub unwraps : UnwrapsIn depth limit inner message

-- The compressed bytes are not a compression within the limit, or one of bytes that fail so.
pub data PackedFails (depth limit : ℕ) (fault : WrapFault) (packed : List ℕ) : Type 0 where
  here : ReasonForLzw limit fault packed → PackedFails depth limit fault packed
  inside : (inner : List ℕ) → Lzw packed inner → length inner ≤ limit
      → ReasonForIn depth limit fault inner → PackedFails depth limit fault packed
