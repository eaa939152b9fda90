-- How bytes are split for the cipher, and why a keyring refuses them.
use Rattle.std.specs.Prelude.{◌≡◌, ◌⊎◌, ℕ, List, [], ◌∷◌, ◌++◌}
use Rattle.std.specs.List.{Contains}
use Rattle.memberlist_cipher.specs.declared.fault.CipherFault.{CipherFault}
use Rattle.memberlist_cipher.specs.declared.fault.CipherFault.TheVariants.{WrongTag, Memory}
use Rattle.memberlist_cipher.specs.Label.{IsLabelled}

-- A label and what it labels. Bytes that start like a label but are not one are left whole, with an
-- empty label: the cipher refuses their first byte.
abbrev pub IsCut : List ℕ → List ℕ → List ℕ → Type 0
IsCut bytes label rest =
    IsLabelled bytes label rest
    ⊎ ((label ≡ []) × (rest ≡ bytes) × ((l r : List ℕ) → ¬ IsLabelled bytes l r))

-- The last of the keys is refused for this reason.
pub record LastRefuses (Cause : CipherFault → List ℕ → Type 0) (keys : List (List ℕ))
    (fault : CipherFault) : Type 0 where
  pub before : List (List ℕ)
  pub key : List ℕ
  pub last : keys ≡ before ++ key ∷ []
  pub cause : Cause fault key

-- Without keys the fault is a wrong tag, otherwise that of the last key.
abbrev pub IsFaultOfKeys : (CipherFault → List ℕ → Type 0) → List (List ℕ) → CipherFault → Type 0
IsFaultOfKeys Cause keys fault = ((keys ≡ []) × (fault ≡ WrongTag)) ⊎ LastRefuses Cause keys fault

-- the fault with which a keyring refuses the bytes, if the cipher has these reasons
pub record IsRefused (Cause : CipherFault → List ℕ → List ℕ → List ℕ → Type 0)
    (keys : List (List ℕ)) (bytes : List ℕ) (fault : CipherFault) : Type 0 where
  pub label : List ℕ
  pub rest : List ℕ
  pub cut : IsCut bytes label rest
  pub is : IsFaultOfKeys (λ f key. Cause f key label rest) keys fault

-- with one of the keys the cipher requests memory, since everything that it checks before is right
pub record AsksMemory (Cause : CipherFault → List ℕ → List ℕ → List ℕ → Type 0)
    (keys : List (List ℕ)) (bytes : List ℕ) : Type 0 where
  pub label : List ℕ
  pub rest : List ℕ
  pub cut : IsCut bytes label rest
  pub key : List ℕ
  pub ours : Contains keys key
  pub cause : Cause Memory key label rest
