-- What datagrams and connections carry.
use Rattle.std.specs.Prelude.{ℕ, List}
use Rattle.swim_claim.specs.declared.claim.Claim.{Claim}
use Rattle.memberlist_transport.specs.declared.in_the_clear.InTheClear.{InTheClear}
use Rattle.memberlist_transport.specs.Stream.{IsStreamIn}
use Rattle.swimwatch.specs.Records.{BeginsWithStream}

-- the bytes are a push/pull stream, in the clear, if that is read, or decrypted with the first key
-- that works, and it begins with these claims; nothing has more than 2^25 bytes
abbrev pub IsStreamOf : InTheClear → List (List ℕ) → List ℕ → List Claim → Type 0
IsStreamOf clear keys bytes claims =
    (stream : List ℕ) × IsStreamIn 33554432 clear keys bytes stream × BeginsWithStream stream claims
