-- Bytes that the library keeps.
use denote.RawPtr.{Ptr, coded_ptr}
use Rattle.std.specs.Prelude.{ℕ, List, refl}
use Rattle.std.specs.Coded.{Coded, code_by, coded×, coded_ℕ, coded_list}

-- the address of the first byte, and the bytes
pub record KeptBytes : Type 0 where
  pub at : Ptr
  pub bytes : List ℕ

-- how proofs distinguish kept bytes from others
abbrev pub bytes_coded : Coded KeptBytes
bytes_coded =
    code_by (Ptr × List ℕ) (coded× coded_ptr (coded_list coded_ℕ)) (λ k. (k.at, k.bytes))
    (λ p. record { at = p.0; bytes = p.1 }) (λ _. refl)
