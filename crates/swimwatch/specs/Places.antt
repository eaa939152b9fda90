-- Where packets come from and go to.
use Rattle.std.specs.Prelude.{◌≡◌, ◌⊎◌, ℕ, List, [], ◌∷◌, ◌++◌, length}
use Rattle.std.specs.declared.net.SocketAddr.{SocketAddr}
use Rattle.capture.specs.Endpoints.{IsEndpoint}

-- the first 12 of 16 bytes that represent an address of IPv4 (RFC 4291, 2.5.5.2)
abbrev pub mapped : List ℕ
mapped = 0 ∷ 0 ∷ 0 ∷ 0 ∷ 0 ∷ 0 ∷ 0 ∷ 0 ∷ 0 ∷ 0 ∷ 255 ∷ 255 ∷ []

-- the bytes of an address, or the address of IPv4 that they represent
abbrev pub StandFor : List ℕ → List ℕ → Type 0
StandFor addr bytes = ((length bytes ≡ 4) × (addr ≡ mapped ++ bytes))
    ⊎ ((bytes ≡ addr) × ((four : List ℕ) → length four ≡ 4 → ¬ addr ≡ mapped ++ four))

-- the end has this address, or the one that it represents, and this port
abbrev pub IsPlace : List ℕ → ℕ → SocketAddr → Type 0
IsPlace addr port end = (bytes : List ℕ) × StandFor addr bytes × IsEndpoint bytes port end
