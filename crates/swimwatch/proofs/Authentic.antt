-- With keys, and what is in the clear refused, what is heard was encrypted.
use Rattle.std.proofs.Common.{◌≡◌, ◌≢◌, ℕ, Bool, true, false, List, [], inl, inr}
use Rattle.swim_claim.specs.declared.claim.Claim.{Claim}
use Rattle.memberlist_keyring.specs.Opening.{Opens, OpensStream}
use Rattle.memberlist_keyring.proofs.OneOpened.{opens_stream}
use Rattle.memberlist_message.specs.declared.message.Message.{Message}
use Rattle.memberlist_transport.specs.declared.in_the_clear.InTheClear.TheVariants.{Refused}
use Rattle.memberlist_transport.specs.Stream.{IsStreamIn}
use Rattle.memberlist_transport.specs.Unwrapped.{IsInside}
use Rattle.memberlist_transport.proofs.Packets.{opens_packet}
use Rattle.memberlist_view.specs.Told.{ViewValue}
use Rattle.swimwatch.specs.Authentic.{EncryptsMessages, HearsEncrypted, EncryptsClaims, HearsEncryptedStream}
use Rattle.swimwatch.specs.Datagrams.{CarriesMessages, IsReadAs, values}
use Rattle.swimwatch.specs.Records.{BeginsWithStream, claims_in}
use Rattle.swimwatch.specs.Views.{HearsDatagram, HearsStream}

inside : (keys : List (List ℕ)) (bytes inner : List ℕ) (messages : List Message) → keys ≢ [] → IsInside Refused keys bytes inner
    → IsReadAs inner (values messages) → EncryptsMessages keys bytes messages
inside keys bytes inner messages some (IsInside.clear accepts _ _) read = absurd (some accepts)
inside keys bytes inner messages some (IsInside.opened plain opens unwraps) read =
    (plain, inner, opens_packet keys bytes plain opens, unwraps, read)

carried : (keys : List (List ℕ)) (bytes : List ℕ) (messages : List Message) → keys ≢ [] → CarriesMessages Refused keys bytes messages
    → EncryptsMessages keys bytes messages
carried keys bytes messages some (inner, is, read) = inside keys bytes inner messages some is read

pub datagram : (keys : List (List ℕ)) (label bytes : List ℕ) (time : ℕ) (old new : ViewValue) → keys ≢ []
    → HearsDatagram Refused keys label bytes time old new → HearsEncrypted keys bytes time old new
datagram keys label bytes time old new some (HearsDatagram.messages messages of carries hears) =
    inr (messages, carried keys bytes messages some carries, hears)
datagram keys label bytes time old new some (HearsDatagram.nothing of none same) = inl same
datagram keys label bytes time old new some (HearsDatagram.elsewhere other same) = inl same

within : (keys : List (List ℕ)) (bytes stream : List ℕ) (claims : List Claim) → keys ≢ []
    → IsStreamIn 33554432 Refused keys bytes stream → BeginsWithStream stream claims → EncryptsClaims keys bytes claims
within keys bytes stream claims some (IsStreamIn.clear accepts _) begins = absurd (some accepts)
within keys bytes stream claims some (IsStreamIn.opened plain _ opens is) begins =
    (plain, stream, opens_stream keys bytes plain opens, is, begins)

pub stream : (keys : List (List ℕ)) (bytes : List ℕ) (time : ℕ) (old new : ViewValue) → keys ≢ []
    → HearsStream Refused keys bytes time true old new → HearsEncryptedStream keys bytes time old new
stream keys bytes time old new some (records, (whole, is, begins), understood, hears) =
    (records, within keys bytes whole (claims_in records) some is begins, understood, hears)

pub forged : (keys : List (List ℕ)) (label bytes : List ℕ) (time : ℕ) (old new : ViewValue) → keys ≢ []
    → ((plain : List ℕ) → ¬ Opens keys bytes plain) → HearsDatagram Refused keys label bytes time old new → new ≡ old
forged keys label bytes time old new some closed (HearsDatagram.nothing of none same) = same
forged keys label bytes time old new some closed (HearsDatagram.elsewhere other same) = same
forged keys label bytes time old new some closed (HearsDatagram.messages messages of carries hears) =
    let found = carried keys bytes messages some carries in
    absurd (closed found.0 found.2)

pub forged_stream : (keys : List (List ℕ)) (bytes : List ℕ) (time : ℕ) (whole : Bool) (old new : ViewValue) → keys ≢ []
    → ((plain : List ℕ) → ¬ OpensStream keys bytes plain) → HearsStream Refused keys bytes time whole old new → new ≡ old
forged_stream keys bytes time true old new some closed hears =
    let found = (stream keys bytes time old new some hears).1 in
    absurd (closed found.0 found.2)
forged_stream keys bytes time false old new some closed hears = hears.1
