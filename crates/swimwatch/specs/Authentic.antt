-- What is heard of bytes that were encrypted under a key.
use Rattle.std.specs.Prelude.{◌≡◌, ◌⊎◌, ℕ, true, List}
use Rattle.swim_claim.specs.declared.claim.Claim.{Claim}
use Rattle.swim_wire.specs.declared.state_record.StateRecord.{StateRecord}
use Rattle.memberlist_keyring.specs.Opening.{Opens, OpensStream}
use Rattle.memberlist_message.specs.declared.message.Message.{Message}
use Rattle.memberlist_wrap.specs.Wrapping.{Unwraps}
use Rattle.memberlist_transport.specs.Packet.{max_message_len}
use Rattle.memberlist_transport.specs.Stream.{IsClearStream}
use Rattle.memberlist_view.specs.Told.{ViewValue}
use Rattle.swimwatch.specs.Datagrams.{IsReadAs, values}
use Rattle.swimwatch.specs.Records.{BeginsWithStream, claims_in}
use Rattle.swimwatch.specs.Versions.{is_understood}
use Rattle.swimwatch.specs.Views.{HearsMessages, HearsRecords}

-- Behind its label a packet is an encryption under one of the keys, and the label is authenticated.
-- In what it encrypts it has these messages.
abbrev pub EncryptsMessages : List (List ℕ) → List ℕ → List Message → Type 0
EncryptsMessages keys bytes messages = (plain inner : List ℕ) × Opens keys bytes plain
    × Unwraps max_message_len plain inner × IsReadAs inner (values messages)

-- what is heard from a datagram at a time: the messages that it encrypts, or nothing
abbrev pub HearsEncrypted : List (List ℕ) → List ℕ → ℕ → ViewValue → ViewValue → Type 0
HearsEncrypted keys bytes time old new = (new ≡ old) ⊎ ((messages : List Message)
    × EncryptsMessages keys bytes messages × HearsMessages time messages messages old new)

-- Behind their label the bytes of a connection are an encrypted stream under one of the keys. In
-- what it encrypts is a push/pull stream of these claims.
abbrev pub EncryptsClaims : List (List ℕ) → List ℕ → List Claim → Type 0
EncryptsClaims keys bytes claims = (plain stream : List ℕ) × OpensStream keys bytes plain
    × IsClearStream 33554432 plain stream × BeginsWithStream stream claims

-- what is heard from one direction of a connection at a time: the claims that it encrypts
abbrev pub HearsEncryptedStream : List (List ℕ) → List ℕ → ℕ → ViewValue → ViewValue → Type 0
HearsEncryptedStream keys bytes time old new = (records : List StateRecord)
    × EncryptsClaims keys bytes (claims_in records) × (is_understood records ≡ true)
    × HearsRecords time (claims_in records) old new
