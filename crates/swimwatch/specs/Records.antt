-- The claims of a push/pull stream, whatever follows it.
use Rattle.std.specs.Prelude.{◌≡◌, ℕ, Bool, List, ◌++◌, map}
use Rattle.swim_claim.specs.declared.claim.Claim.{Claim}
use Rattle.swim_wire.specs.declared.state_record.StateRecord.{StateRecord}
use Rattle.swim_wire.specs.Streams.{StreamText}

-- the bytes begin with a stream of these claims
abbrev pub BeginsWithStream : List ℕ → List Claim → Type 0
BeginsWithStream bytes claims =
    (front rest : List ℕ) × (join : Bool) × StreamText front claims join × (bytes ≡ front ++ rest)

-- the bytes begin with a stream of these claims and this user state
abbrev pub BeginsWithState : List ℕ → List Claim → List ℕ → Type 0
BeginsWithState bytes claims user =
    (front rest : List ℕ) × (join : Bool) × (text : StreamText front claims join)
    × (text.user ≡ user) × (bytes ≡ front ++ rest)

-- the claims of records, without what is told beside them
abbrev pub claims_in : List StateRecord → List Claim
claims_in records = map (λ r. r.claim) records
