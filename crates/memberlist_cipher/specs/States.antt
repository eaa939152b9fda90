-- States between the rounds of AES, as the code keeps them: in the tower's basis, and with the
-- constant of the S-box in the round keys.
use Rattle.std.specs.Prelude.{◌≡◌, ℕ, List, length, map, replicate}
use Rattle.std.specs.Simd.Lanes.{Each1}
use mir.Syntax.{w8}
use mir.Val.{Fits}
use Rattle.memberlist_cipher.specs.Block.{plus_bytes, round_key, rounds}
use Rattle.memberlist_cipher.specs.Tower.{tower}

-- sixteen bytes
pub record IsState (s : List ℕ) : Type 0 where
  pub size : length s ≡ 16
  pub fits : Each1 (Fits w8) s

-- the state of a block after n rounds
pub record IsAfter (words : List ℕ) (n : ℕ) (block state : List ℕ) : Type 0 where
  pub good : IsState (rounds words n block)
  pub same : state ≡ map tower (rounds words n block)

-- the key of round n
pub record HasKey (words : List ℕ) (n : ℕ) (key : List ℕ) : Type 0 where
  pub good : IsState (round_key words n)
  pub same : key ≡ plus_bytes (round_key words n) (replicate 16 0x63)
