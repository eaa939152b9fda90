-- What one step of reading a stream reads.
use Rattle.std.specs.Prelude.{◌≡◌, ◌≢◌, ℕ, ◌+◌, ◌<◌, Bool, List, [], ◌∷◌, ◌++◌, ◌⊎◌, length, Err}
use Rattle.swim_claim.specs.declared.claim.Claim.{Claim}
use Rattle.swim_pack.specs.Composing.{UnlessFailed}
use Rattle.swim_pack.specs.Ends.{Source, ConsumesText}
use Rattle.swim_wire.specs.declared.fault.WireFault.{WireFault}
use Rattle.swim_wire.specs.declared.fault.WireFault.TheVariants.{Ended, Fault, Trailing}
use Rattle.swim_wire.specs.declared.stream.Header.{Header}
use Rattle.swim_wire.specs.Checks.{ReasonForHeader, ReasonForState}
use Rattle.swim_wire.specs.Reading.{Reading, wire_cause, header_at, state_at}
use Rattle.swim_wire.specs.Streams.{StateTexts, StreamText}
use Rattle.swim_wire.specs.Texts.{HeaderText, StateText}
use Rattle.swim_table.specs.declared.stream_reader.Step.{Step}
use Rattle.swim_table.specs.declared.stream_reader.Step.TheVariants.{More, End}
use Rattle.swim_table.specs.Streaming.{Streaming}
use Rattle.swim_table.specs.Table.{TableOf, Reduced}

-- A step took the next record of the stream, whose claim is then in the table, or, at the end, the
-- user state.
pub data Steps (reader : Streaming) (old new : Source) (step : Step) : Type 0 where
  record_of : (c : Claim) (next : Streaming) → step ≡ More next → reader.left ≡ next.left + 1
      → ConsumesText old new (λ b. StateText b c)
      → TableOf next.table (Reduced reader.table ++ c ∷ [])
      → ((claims : List Claim) → TableOf reader.table claims
      → TableOf next.table (claims ++ c ∷ []))
      → next.header ≡ reader.header → Steps reader old new step
  user_state : step ≡ End reader.table reader.header.join → reader.left ≡ 0
      → ConsumesText old new (λ b. length b ≡ reader.header.user_len) → Steps reader old new step

-- The bytes are what the next step expects: a record, or, at the end, the user state.
pub data IsWanted (reader : Streaming) (b : List ℕ) : Type 0 where
  record_of : (c : Claim) → 0 < reader.left → StateText b c → IsWanted reader b
  user_state : reader.left ≡ 0 → length b ≡ reader.header.user_len → IsWanted reader b

-- The bytes b begin a stream: its header, and the state records of these claims.
pub record BeginText (b : List ℕ) (header : Header) (claims : List Claim) : Type 0 where
  pub head : List ℕ
  pub records : List ℕ
  pub bytes : b ≡ head ++ records
  pub head_text : HeaderText head header
  pub record_texts : StateTexts records claims

-- Reading the bytes stops with this fault, unless the inlet failed or memory ran out.
abbrev pub StreamStopsAt : {A : Type 0} → Reading A → WireFault → List ℕ → Type 0
StreamStopsAt reading fault bytes = UnlessFailed (wire_cause fault) (reading bytes ≡ Err fault)

-- What a fault says about bytes that do not begin with a header, and where reading one stops.
abbrev pub ReasonForBegin : WireFault → List ℕ → Type 0
ReasonForBegin fault bytes = ReasonForHeader fault bytes × StreamStopsAt header_at fault bytes

-- The same for a state record.
abbrev pub ReasonForRecord : WireFault → List ℕ → Type 0
ReasonForRecord fault bytes = ReasonForState fault bytes × StreamStopsAt state_at fault bytes

-- What a fault says about bytes that should begin with this much user state: fewer are left, or the
-- inlet failed.
abbrev pub ReasonForUser : ℕ → WireFault → List ℕ → Type 0
ReasonForUser user_len fault bytes = ((fault ≡ Ended) × (length bytes < user_len)) ⊎ (fault ≡ Fault)

-- What a step's fault says about the bytes: they do not begin with a record, or the user state is
-- cut short.
pub data ReasonForStep (reader : Streaming) (fault : WireFault) (bytes : List ℕ) : Type 0 where
  record_of : 0 < reader.left → ReasonForRecord fault bytes → ReasonForStep reader fault bytes
  user_state : reader.left ≡ 0 → ReasonForUser reader.header.user_len fault bytes
      → ReasonForStep reader fault bytes

-- What a stream's fault says about the bytes: they do not begin with a header, or no further record
-- follows the header and some of the records that it announces, or the user state after all of them
-- is cut short.
pub data ReasonForStream (fault : WireFault) (bytes : List ℕ) : Type 0 where
  header : ReasonForBegin fault bytes → ReasonForStream fault bytes
  record_of : (front rest : List ℕ) (h : Header) (claims : List Claim) → BeginText front h claims
      → length claims < h.nodes → bytes ≡ front ++ rest → ReasonForRecord fault rest
      → ReasonForStream fault bytes
  user_state : (front rest : List ℕ) (h : Header) (claims : List Claim) → BeginText front h claims
      → length claims ≡ h.nodes → bytes ≡ front ++ rest → ReasonForUser h.user_len fault rest
      → ReasonForStream fault bytes

-- a stream, and at least one byte after it
abbrev pub HasTrailingStream : List ℕ → Type 0
HasTrailingStream bytes = (front rest : List ℕ) × (claims : List Claim) × (join : Bool)
    × StreamText front claims join × (rest ≢ []) × (bytes ≡ front ++ rest)

-- What a dump's fault says about its bytes: something follows a stream, or they do not begin with
-- one. Bytes do not fail.
abbrev pub ReasonForDump : WireFault → List ℕ → Type 0
ReasonForDump Trailing bytes = HasTrailingStream bytes
ReasonForDump Fault bytes = ⊥
ReasonForDump fault bytes = ReasonForStream fault bytes
