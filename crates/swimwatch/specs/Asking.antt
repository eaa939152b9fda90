-- The request for a member's table.
use Rattle.std.specs.Prelude.{◌≡◌, ℕ, false, List}
use Rattle.memberlist_cipher.specs.Encryption.{encrypted_stream}
use Rattle.memberlist_cipher.specs.Label.{IsLabelled}
use Rattle.memberlist_keyring.specs.Sending.{SendsFirst}
use Rattle.swim_claim.specs.declared.claim.Claim.{Claim}
use Rattle.swim_table.specs.Dump.{dump_bytes}
use Rattle.swim_table.specs.Table.{Entries, TableOf}
use Rattle.swim_wire.specs.Canonical.{header_bytes}
use Rattle.swimwatch.specs.Records.{BeginsWithStream}

-- a stream without members or user state, which does not join
abbrev pub empty_offer : List ℕ
empty_offer = header_bytes (record { nodes = 0; user_len = 0; join = false })

-- in the clear, after the label, or bare if that is empty
abbrev pub AsksInClear : List ℕ → List ℕ → Type 0
AsksInClear label sent = IsLabelled sent label empty_offer

-- encrypted with the first key, after the label, or bare if that is empty
abbrev pub AsksEncrypted : List (List ℕ) → List ℕ → List ℕ → List ℕ → Type 0
AsksEncrypted keys nonce label sent =
    SendsFirst (λ key. encrypted_stream key nonce label empty_offer) keys label sent

-- the canonical dump of the table of the claims that the stream begins with
abbrev pub IsDumpOf : List ℕ → List ℕ → Type 0
IsDumpOf stream bytes =
    (claims : List Claim) × (table : Entries) × BeginsWithStream stream claims
    × TableOf table claims × (bytes ≡ dump_bytes table false)
