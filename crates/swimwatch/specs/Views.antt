-- What a view becomes as one thing after another is heard.
use Rattle.std.specs.Prelude.{◌≡◌, ◌⊎◌, ℕ, Bool, true, false, ◌&&◌, ◌||◌, MatchBool, List, [], ◌∷◌}
use Rattle.std.specs.List.{list_any}
use Rattle.std.specs.Str.{bytes_eq}
use Rattle.swim_claim.specs.declared.claim.Claim.{Claim}
use Rattle.swim_claim.specs.declared.claim.Claim.TheVariants as claim
use Rattle.swim_wire.specs.Packet.{PacketValue}
use Rattle.swim_wire.specs.declared.state_record.StateRecord.{StateRecord}
use Rattle.memberlist_message.specs.declared.message.Message.{Message}
use Rattle.memberlist_message.specs.declared.message.Message.TheVariants as message
use Rattle.swim_claim.specs.Details.{DetailsValue}
use Rattle.memberlist_transport.specs.declared.in_the_clear.InTheClear.{InTheClear}
use Rattle.memberlist_view.specs.declared.heard.Said.TheVariants.{Seen}
use Rattle.memberlist_view.specs.Told.{ViewValue, view_after}
use Rattle.swimwatch.specs.Carriage.{IsStreamOf}
use Rattle.swimwatch.specs.Datagrams.{CarriesMessages, CarriesNothing, IsOfCluster}
use Rattle.swimwatch.specs.Records.{claims_in}
use Rattle.swimwatch.specs.Versions.{is_understood}
use Rattle.swimwatch.specs.Told.{packet_told, record_told, heard_of}

abbrev pub is_nil : List ℕ → Bool
is_nil [] = true
is_nil (b ∷ bs) = false

-- whether a message is a ping that names this suspect, from this accuser, or from nobody who is
-- named
abbrev pub warns : List ℕ → List ℕ → Message → Bool
warns suspect accuser (message.Ping ping) = bytes_eq ping.node.items suspect
    && (is_nil ping.source_node.items || bytes_eq ping.source_node.items accuser)
warns suspect accuser (message.IndirectPing ping) = false
warns suspect accuser (message.Ack ack) = false
warns suspect accuser (message.Nack nack) = false
warns suspect accuser (message.User bytes) = false
warns suspect accuser (message.Error response) = false
warns suspect accuser (message.Claim packet) = false

-- state.go, probeNode: a suspicion in a datagram with a ping to the suspect only warns it
abbrev pub is_warning_of : List Message → List ℕ → Claim → Bool
is_warning_of all from (claim.Alive name inc details) = false
is_warning_of all from (claim.Suspect name inc) = list_any (λ m. warns name from m) all
is_warning_of all from (claim.Confirm name inc) = false
is_warning_of all from (claim.Leave name inc) = false

abbrev pub is_warning : List Message → PacketValue → Bool
is_warning all packet = is_warning_of all packet.from packet.claim

-- at most a member was seen, which no claim says
abbrev pub MaySee : ℕ → ViewValue → ViewValue → Type 0
MaySee time old new = (new ≡ old) ⊎ ((name : List ℕ) × (place : DetailsValue)
    × (new ≡ view_after old (record { time = time; said = Seen name place })))

-- a message of a datagram with these messages is heard at a time: a claim, unless it only warns, as
-- a member hears it; and of others only who is where
abbrev pub HearsMessage : ℕ → List Message → Message → ViewValue → ViewValue → Type 0
HearsMessage time all (message.Claim packet) old new = MatchBool (is_warning all packet)
    (new ≡ old) (new ≡ view_after old (heard_of time (packet_told packet)))
HearsMessage time all other old new = MaySee time old new

-- the messages of a datagram with these messages are heard, in order
abbrev pub HearsMessages : ℕ → List Message → List Message → ViewValue → ViewValue → Type 0
HearsMessages time all [] old new = new ≡ old
HearsMessages time all (m ∷ later) old new = (mid : ViewValue) × HearsMessage time all m old mid
    × HearsMessages time all later mid new

-- what is heard from a datagram at a time, if it is of the cluster with this label: the messages
-- that it carries, or nothing if it carries nothing
pub data HearsDatagram (clear : InTheClear) (keys : List (List ℕ)) (label bytes : List ℕ) (time : ℕ)
    (old new : ViewValue) : Type 0 where
  messages : (messages : List Message) → IsOfCluster label bytes
      → CarriesMessages clear keys bytes messages → HearsMessages time messages messages old new
      → HearsDatagram clear keys label bytes time old new
  nothing : IsOfCluster label bytes → CarriesNothing clear keys bytes → new ≡ old
      → HearsDatagram clear keys label bytes time old new
  elsewhere : ¬ IsOfCluster label bytes → new ≡ old
      → HearsDatagram clear keys label bytes time old new

-- the records of a stream are heard at a time, in order: each as what it means to a member that
-- merges it, whether or not a new name joins by it
abbrev pub HearsRecords : ℕ → List Claim → ViewValue → ViewValue → Type 0
HearsRecords time [] old new = new ≡ old
HearsRecords time (claim ∷ claims) old new = (joins : Bool)
    × HearsRecords time claims (view_after old (heard_of time (record_told claim joins))) new

-- the bytes are a stream of these records
abbrev pub AreRecordsOf : InTheClear → List (List ℕ) → List ℕ → List StateRecord → Type 0
AreRecordsOf clear keys bytes records = IsStreamOf clear keys bytes (claims_in records)

-- what is heard from one direction of a connection at a time: the claims of the whole stream that
-- it is, in order; or nothing, if it is not a stream, or one that members refuse for its versions
abbrev pub HearsStream : InTheClear → List (List ℕ) → List ℕ → ℕ → Bool → ViewValue → ViewValue → Type 0
HearsStream clear keys bytes time true old new =
    (records : List StateRecord) × AreRecordsOf clear keys bytes records
    × (is_understood records ≡ true) × HearsRecords time (claims_in records) old new
HearsStream clear keys bytes time false old new =
    (((claims : List Claim) → ¬ IsStreamOf clear keys bytes claims)
    ⊎ ((records : List StateRecord) × AreRecordsOf clear keys bytes records
    × (is_understood records ≡ false))) × (new ≡ old)
