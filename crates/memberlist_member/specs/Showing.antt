-- How what a member shows changes: by what it hears, and there is a ground for each thing that it
-- hears; and by forgetting.
use Rattle.std.specs.Prelude.{◌≡◌, ℕ, ◌≤◌, ◌⊎◌, true, false, List, [], ◌++◌, length, Ok, Some}
use Rattle.std.specs.List.{All, Contains}
use Rattle.swim_claim.specs.declared.claim.Claim.{Claim}
use Rattle.swim_claim.specs.declared.claim.Claim.TheVariants as claim
use Rattle.swim_wire.specs.Packet.{PacketValue}
use Rattle.memberlist_message.specs.Messages.{MessageValue, message_of}
use Rattle.memberlist_view.specs.Heard.{about}
use Rattle.memberlist_view.specs.Member.{member_view_after, view_without_dropped}
use Rattle.memberlist_view.specs.Told.{ViewValue, entry_of}
use Rattle.memberlist_view.specs.declared.entry.Entry.{Entry}
use Rattle.memberlist_view.specs.declared.entry.State.TheVariants as state
use Rattle.memberlist_view.specs.declared.heard.Said.{Said}
use Rattle.memberlist_member.specs.Beginning.{IsBegun}
use Rattle.memberlist_member.specs.Claims.{dead_by, packet_of}
use Rattle.memberlist_member.specs.Parts.{HasMessages}
use Rattle.memberlist_member.specs.Owns.{outdone, own_alive}
use Rattle.memberlist_member.specs.Suspicions.{IsDue, Span}
use Rattle.memberlist_member.specs.Saying.{inc_in, said_in_table, said_of}
use Rattle.memberlist_member.specs.Tables.{IsRecordIn, IsRecordOf}
use Rattle.memberlist_member.specs.declared.config.Config.{Config}
use Rattle.memberlist_member.specs.declared.connections.Connection.{Connection}
use Rattle.memberlist_member.specs.declared.cover.Cover.{Cover}
use Rattle.memberlist_member.specs.declared.member.Member.{Member}
use Rattle.memberlist_member.specs.declared.own.Own.{Own}
use Rattle.memberlist_member.specs.declared.probe.Probe.{Probe}

-- ---- its grounds

-- the view shows it as suspect, at this incarnation, and its time is over
pub record IsSuspectedForLong (config : Config) (view : ViewValue) (now : ℕ) (name : List ℕ) (inc : ℕ) : Type 0 where
  pub entry : Entry
  pub by : List (List ℕ)
  pub span : Span
  pub due : ℕ
  pub shown : entry_of view name ≡ Some entry
  pub suspect : entry.state ≡ state.Suspect by
  pub at : entry.inc ≡ inc
  pub begun : ∥ IsBegun config span ∥₁
  pub until : IsDue span (length by) entry.since due
  pub over : due ≤ now

-- Why a member of this name hears something: it was told it; or a member was suspected for its
-- time, and is declared dead.
pub data HasGround (config : Config) (me : List ℕ) (now : ℕ) (told : List Said) (view : ViewValue) : Said → Type 0 where
  is_told : {said : Said} → Contains told said → HasGround config me now told view said
  is_over : (name : List ℕ) (inc : ℕ) → IsSuspectedForLong config view now name inc
      → HasGround config me now told view (said_of (packet_of (dead_by name inc me) me) true)

-- ---- from one view to another

-- What a member of this name shows, and says of itself, after it began with this view and this
-- word: it heard something; told that it is alive; refuted something; or forgot those gone for long.
pub data Reaches (config : Config) (me : List ℕ) (now : ℕ) (told : List Said) (first : ViewValue) (word : Own)
    : ViewValue → Own → Type 0 where
  here : Reaches config me now told first word first word
  hears : {view : ViewValue} {own : Own} (said : Said) → HasGround config me now told view said
      → Reaches config me now told first word view own
      → Reaches config me now told first word (member_view_after view (record { time = now; said = said })) own
  tells : {view : ViewValue} {own : Own} → Reaches config me now told first word view own
      → Reaches config me now told first word
      (member_view_after view (record { time = now; said = said_of (own_alive own) true })) own
  refutes : {view : ViewValue} {own : Own} (said : Said) → HasGround config me now told view said
      → about said ≡ me → own.is_leaving ≡ false → own.inc ≤ inc_in said → Reaches config me now told first word view own
      → Reaches config me now told first word view (outdone own (inc_in said))
  forgets : {view : ViewValue} {own : Own} → Reaches config me now told first word view own
      → Reaches config me now told first word (view_without_dropped view now) own

-- the same of a member, by its name, configuration and time
abbrev pub Arrives : List Said → ViewValue → Own → Member → Type 0
Arrives told first word m = Reaches m.settings m.own.name m.time told first word m.view m.own

abbrev pub IsGround : List Said → Member → Said → Type 0
IsGround told m said = HasGround m.settings m.own.name m.time told m.view said

-- it goes on from where it was, told these things
abbrev pub GoesBy : List Said → Member → Member → Type 0
GoesBy told old new = (first : ViewValue) (word : Own) → Arrives told first word old → Arrives told first word new

-- it does so whatever it is told
abbrev pub GoesOn : Member → Member → Type 0
GoesOn old new = (told : List Said) → GoesBy told old new

-- ---- what it is told

-- a packet that is its own word, or that it is told to say
abbrev pub IsOwnWord : List Said → Member → PacketValue → Type 0
IsOwnWord told m packet = (packet ≡ own_alive m.own) ⊎ Contains told (said_of packet true)

-- its own suspicion of the member that it probes, if the probe's time is over now
abbrev pub IsUnanswered : ℕ → Member → Said → Type 0
IsUnanswered now m said = (probe : Probe) × (m.probe ≡ Some probe) × (probe.due ≤ now)
    × (said ≡ said_of (packet_of (claim.Suspect probe.name probe.inc) m.own.name) true)

-- what a message says, if it is a claim, is among these
abbrev pub Tells : List Said → List ℕ → Type 0
Tells told message =
    (packet : PacketValue) → message_of message ≡ Ok (MessageValue.claim packet) → Contains told (said_of packet true)

-- a message of the datagram says it
abbrev pub IsSaidIn : List (List ℕ) → Said → Type 0
IsSaidIn messages said = (message : List ℕ) × Contains messages message × (packet : PacketValue)
    × (message_of message ≡ Ok (MessageValue.claim packet)) × (said ≡ said_of packet true)

abbrev pub IsToldIn : Cover → List ℕ → Said → Type 0
IsToldIn cover bytes said = (messages : List (List ℕ)) × HasMessages cover bytes messages × IsSaidIn messages said

-- these bytes came over a connection with this number
pub record HasCome (conn : ℕ) (came : List ℕ) (lines : List Connection) : Type 0 where
  pub line : Connection
  pub within : Contains lines line
  pub number : line.conn ≡ conn
  pub bytes : line.came.items ≡ came
  pub some : 1 ≤ length came

abbrev pub lines_of : Member → List Connection
lines_of m = m.connections.list.items

-- nothing came yet, or these bytes did
abbrev pub MayHaveCome : ℕ → List ℕ → Member → Type 0
MayHaveCome conn came m = (came ≡ []) ⊎ HasCome conn came (lines_of m)

-- over no connection other bytes came than before
abbrev pub KeepsLines : Member → Member → Type 0
KeepsLines old new = (conn : ℕ) (came : List ℕ) → HasCome conn came (lines_of new) → HasCome conn came (lines_of old)

-- over none but this one, and over this one none but these bytes more
abbrev pub GrowsLine : ℕ → List ℕ → Member → Member → Type 0
GrowsLine conn bytes old new = (each : ℕ) (came : List ℕ) → HasCome each came (lines_of new)
    → HasCome each came (lines_of old)
    ⊎ ((before : List ℕ) × (each ≡ conn) × (came ≡ before ++ bytes) × MayHaveCome each before old)

-- a record of the table in a message says it
abbrev pub IsInTable : List ℕ → Member → Said → Type 0
IsInTable message m said = (each : Claim) × IsRecordOf message each × (said ≡ said_in_table m.own.name each)

-- the same of what came over a connection
abbrev pub IsSaidOver : List ℕ → Member → Said → Type 0
IsSaidOver came m said = (each : Claim) × IsRecordIn m.cover came each × (said ≡ said_in_table m.own.name each)

abbrev pub IsToldOver : ℕ → Member → Said → Type 0
IsToldOver conn m said = (came : List ℕ) × HasCome conn came (lines_of m) × IsSaidOver came m said

-- and of that with more bytes that come now
abbrev pub IsToldNow : ℕ → List ℕ → Member → Said → Type 0
IsToldNow conn bytes m said = (came : List ℕ) × MayHaveCome conn came m
    × (IsSaidOver came m said ⊎ IsSaidOver (came ++ bytes) m said)

-- over any connection
abbrev pub IsToldAnywhere : Member → Said → Type 0
IsToldAnywhere m said = (conn : ℕ) × IsToldOver conn m said

-- its probe, or a table, says it
abbrev pub IsToldByTime : ℕ → Member → Said → Type 0
IsToldByTime now m said = IsUnanswered now m said ⊎ IsToldAnywhere m said

-- it goes by what these say
abbrev pub GoesByDatagram : Cover → List ℕ → Member → Member → Type 0
GoesByDatagram cover bytes old new = (told : List Said) × All (IsToldIn cover bytes) told × GoesBy told old new

abbrev pub GoesByTable : List ℕ → Member → Member → Type 0
GoesByTable message old new = (told : List Said) × All (IsInTable message old) told × GoesBy told old new

abbrev pub GoesByLine : ℕ → Member → Member → Type 0
GoesByLine conn old new = (told : List Said) × All (IsToldOver conn old) told × GoesBy told old new

abbrev pub GoesByBytes : ℕ → List ℕ → Member → Member → Type 0
GoesByBytes conn bytes old new = (told : List Said) × All (IsToldNow conn bytes old) told × GoesBy told old new

abbrev pub GoesByLines : Member → Member → Type 0
GoesByLines old new = (told : List Said) × All (IsToldAnywhere old) told × GoesBy told old new

abbrev pub GoesByTime : Member → Member → Type 0
GoesByTime old new = (told : List Said) × All (IsToldByTime old.time old) told × GoesBy told old new

-- ---- what the program says

-- from these words to those, its view goes by what it is told
abbrev pub Went : List Said → Own → Own → Member → Member → Type 0
Went told word own old new = Reaches new.settings new.own.name new.time told old.view word new.view own

-- it leaves, or does not yet
abbrev pub MayLeave : Own → Own → Type 0
MayLeave old new = (new ≡ old) ⊎ (new ≡ record old { is_leaving = true })

-- it has these metadata at the next incarnation, or all is as it was
abbrev pub MayChange : List ℕ → Own → Own → Type 0
MayChange meta old new =
    (new ≡ old) ⊎ (new ≡ record (outdone old 0) { details = record old.details { meta = meta } })
