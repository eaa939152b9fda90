-- What a member does with what it is told.
use Rattle.std.specs.Prelude.{◌≡◌, ⊤, ℕ, ◌+◌, ◌-◌, ◌^◌, ◌<◌, ◌≤◌, ◌⊎◌, false, true}
use Rattle.std.specs.Prelude.{List, length, Ok, None, Some}
use Rattle.std.specs.List.{All}
use Rattle.std.specs.declared.alloc.Global.{Global}
use Rattle.std.specs.declared.vec.Vec.{Vec}
use Rattle.swim_claim.specs.Claim.{details_of, inc_of, name_of}
use Rattle.swim_wire.specs.Packet.{PacketValue}
use Rattle.memberlist_message.specs.Messages.{AckValue, MessageValue, message_of}
use Rattle.memberlist_message.specs.Writing.{user_bytes}
use Rattle.memberlist_member.specs.Parts.{HasMessages}
use Rattle.memberlist_member.specs.Owns.{own_leave}
use Rattle.memberlist_member.specs.Showing.{GrowsLine, IsToldByTime, KeepsLines, IsToldIn, IsToldNow, IsToldOver, MayChange, MayLeave, Went}
use Rattle.memberlist_member.specs.Saying.{said_of}
use Rattle.memberlist_member.specs.Staying.{Adds, BeginsInTime, BeginsNoProbe, HasNoProbe, unless_silent}
use Rattle.memberlist_member.specs.Suspicions.{IsDue, Span}
use Rattle.memberlist_member.specs.Beginning.{IsBegun}
use Rattle.memberlist_member.specs.declared.config.Config.{Config}
use Rattle.memberlist_view.specs.Told.{entry_of}
use Rattle.memberlist_view.specs.declared.entry.Entry.{Entry}
use Rattle.memberlist_view.specs.declared.entry.State.TheVariants as state
use Rattle.memberlist_member.specs.Queues.{put, unsent}
use Rattle.memberlist_view.specs.declared.heard.Said.{Said}
use Rattle.memberlist_member.specs.declared.cover.Cover.{Cover}
use Rattle.memberlist_member.specs.declared.input.Input.{Input}
use Rattle.memberlist_member.specs.declared.input.Input.TheVariants as input
use Rattle.memberlist_member.specs.declared.member.Member.{Member}
use Rattle.memberlist_member.specs.declared.own.Own.{Own}

-- ---- a datagram

-- for each message in the datagram at most one datagram is put out, no connection is opened, and
-- nothing is written to one
abbrev pub AnswersAtMostEach : Cover → List ℕ → Member → Member → Type 0
AnswersAtMostEach cover bytes old new =
    Adds 0 0 0 old new
    ⊎ ((messages : List (List ℕ)) × HasMessages cover bytes messages × Adds (length messages) 0 0 old new)

-- a member that does not leave has an incarnation above that at which a packet says that it is
-- suspect, dead or left, unless that is the greatest there is
abbrev pub IsOutdone : Own → PacketValue → Type 0
IsOutdone own packet =
    own.is_leaving ≡ false → name_of packet.claim ≡ own.name → details_of packet.claim ≡ None
    → inc_of packet.claim < 2 ^ 32 - 1 → inc_of packet.claim < own.inc

-- the same if it is a claim
abbrev pub IsOutdoneIn : Own → List ℕ → Type 0
IsOutdoneIn own message =
    (packet : PacketValue) → message_of message ≡ Ok (MessageValue.claim packet) → IsOutdone own packet

-- no probe runs that the message answers, if it is an ack
abbrev pub IsHeededAck : Member → List ℕ → Type 0
IsHeededAck m message =
    (ack : AckValue) → message_of message ≡ Ok (MessageValue.ack ack) → HasNoProbe ack.seq_no m

-- whatever probe the datagram answers is over
abbrev pub IsAnsweredAfter : Cover → List ℕ → Member → Type 0
IsAnsweredAfter cover bytes m =
    (messages : List (List ℕ)) × HasMessages cover bytes messages × All (IsHeededAck m) messages

-- whatever the datagram accuses it of is outdone
abbrev pub IsOutdoneAfter : Cover → List ℕ → Own → Type 0
IsOutdoneAfter cover bytes own =
    (messages : List (List ℕ)) × HasMessages cover bytes messages × All (IsOutdoneIn own) messages

-- ---- what the program says

-- the metadata are these, at a greater incarnation; nothing changes if there is none
abbrev pub IsUpdated : List ℕ → Own → Own → Type 0
IsUpdated meta old new =
    ((new.details ≡ record old.details { meta = meta }) × (old.inc < new.inc))
    ⊎ ((new.details ≡ old.details) × (2 ^ 32 - 1 ≤ old.inc))

-- the message is the last that waits to be told
abbrev pub IsSaid : List ℕ → Member → Member → Type 0
IsSaid bytes old new =
    (subject : Vec ℕ Global) × (message : Vec ℕ Global) × (message.items ≡ user_bytes bytes)
    × (new.said.waiting.items ≡ put (unsent subject message old.said.next_id) old.said.waiting.items)

-- ---- the time

-- what is done at regular times is done, and will be later
abbrev pub IsLater : ℕ → ℕ → Type 0
IsLater now due = now < 2 ^ 64 - 1 → now < due

abbrev pub IsOnTime : Member → Type 0
IsOnTime m =
    IsLater m.time m.times.probe × IsLater m.time m.times.gossip × IsLater m.time m.times.push_pull
    × IsLater m.time m.times.reconnect × IsLater m.time m.times.seed

-- its suspicion began with this configuration, and ends later
pub record IsWaitedFor (config : Config) (now : ℕ) (entry : Entry) (by : List (List ℕ)) : Type 0 where
  pub span : Span
  pub due : ℕ
  pub begun : IsBegun config span
  pub until : IsDue span (length by) entry.since due
  pub later : now < due

-- unless it is silent, each member that it shows as suspect is waited for
abbrev pub AreWaitedFor : Member → Type 0
AreWaitedFor m =
    m.settings.is_silent ≡ false → (name : List ℕ) (entry : Entry) (by : List (List ℕ))
    → entry_of m.view name ≡ Some entry → entry.state ≡ state.Suspect by → ∥ IsWaitedFor m.settings m.time entry by ∥₁

-- ---- a step

-- at most a nack for each ping on behalf of others that waits, the datagrams of a probe and of
-- gossip, and four dials; of a silent member the nacks, and a seed's dial
abbrev pub TicksAtMost : Member → Member → Type 0
TicksAtMost old new =
    Adds (length old.relays.waiting.items
    + unless_silent old.settings (old.settings.indirect_checks + 1 + old.settings.gossip_nodes))
    (1 + unless_silent old.settings 3) 128 old new

-- what an input makes a member put out at most
abbrev pub PutsAtMost : Input → Member → Member → Type 0
PutsAtMost input.Tick old new = TicksAtMost old new
PutsAtMost (input.Datagram from bytes) old new = AnswersAtMostEach old.cover bytes.now old new
PutsAtMost (input.Accepted conn) old new = Adds 0 0 0 old new
PutsAtMost (input.Connected conn) old new = Adds 0 0 1 old new
PutsAtMost (input.Received conn bytes) old new = Adds 0 0 1 old new
PutsAtMost (input.Closed conn) old new = Adds 0 0 1 old new
PutsAtMost (input.Join seeds) old new = Adds 0 (length seeds.now) 0 old new
PutsAtMost input.Leave old new = Adds 0 0 0 old new
PutsAtMost (input.Update meta) old new = Adds 0 0 0 old new
PutsAtMost (input.Say bytes) old new = Adds 0 0 0 old new
PutsAtMost (input.State bytes) old new = Adds 0 0 0 old new

-- what it changes, unless memory is refused
abbrev pub Does : Input → Member → Member → Type 0
Does input.Tick old new = IsOnTime new × AreWaitedFor new
Does (input.Datagram from bytes) old new =
    IsOutdoneAfter old.cover bytes.now new.own × IsAnsweredAfter old.cover bytes.now new
Does (input.Accepted conn) old new = ⊤
Does (input.Connected conn) old new = ⊤
Does (input.Received conn bytes) old new = ⊤
Does (input.Closed conn) old new = ⊤
Does (input.Join seeds) old new = new.seeds.items ≡ seeds.now
Does input.Leave old new = new.own.is_leaving ≡ true
Does (input.Update meta) old new = IsUpdated meta.now old.own new.own
Does (input.Say bytes) old new = IsSaid bytes.now old new
Does (input.State bytes) old new = new.state.items ≡ bytes.now

-- a probe begins at a time that was told alone, and has its time
abbrev pub Probes : Input → Member → Member → Type 0
Probes input.Tick old new = BeginsInTime old new
Probes (input.Datagram from bytes) old new = BeginsNoProbe old new
Probes (input.Accepted conn) old new = BeginsNoProbe old new
Probes (input.Connected conn) old new = BeginsNoProbe old new
Probes (input.Received conn bytes) old new = BeginsNoProbe old new
Probes (input.Closed conn) old new = BeginsNoProbe old new
Probes (input.Join seeds) old new = BeginsNoProbe old new
Probes input.Leave old new = BeginsNoProbe old new
Probes (input.Update meta) old new = BeginsNoProbe old new
Probes (input.Say bytes) old new = BeginsNoProbe old new
Probes (input.State bytes) old new = BeginsNoProbe old new

-- over no connection other bytes came than before, but by an input with bytes these more over its own
abbrev pub Comes : Input → Member → Member → Type 0
Comes input.Tick old new = KeepsLines old new
Comes (input.Datagram from bytes) old new = KeepsLines old new
Comes (input.Accepted conn) old new = KeepsLines old new
Comes (input.Connected conn) old new = KeepsLines old new
Comes (input.Received conn bytes) old new = GrowsLine conn bytes.now old new
Comes (input.Closed conn) old new = KeepsLines old new
Comes (input.Join seeds) old new = KeepsLines old new
Comes input.Leave old new = KeepsLines old new
Comes (input.Update meta) old new = KeepsLines old new
Comes (input.Say bytes) old new = KeepsLines old new
Comes (input.State bytes) old new = KeepsLines old new

-- what an input tells it at this time
abbrev pub IsToldBy : Input → ℕ → Member → Said → Type 0
IsToldBy input.Tick now m said = IsToldByTime now m said
IsToldBy (input.Datagram from bytes) now m said = IsToldIn m.cover bytes.now said
IsToldBy (input.Accepted conn) now m said = ⊥
IsToldBy (input.Connected conn) now m said = ⊥
IsToldBy (input.Received conn bytes) now m said = IsToldNow conn bytes.now m said
IsToldBy (input.Closed conn) now m said = IsToldOver conn m said
IsToldBy (input.Join seeds) now m said = ⊥
IsToldBy input.Leave now m said = said ≡ said_of (own_leave m.own) true
IsToldBy (input.Update meta) now m said = ⊥
IsToldBy (input.Say bytes) now m said = ⊥
IsToldBy (input.State bytes) now m said = ⊥

-- what it shows, and says of itself, changes by these: only the program makes it leave, or have
-- other metadata
abbrev pub ShowsBy : Input → List Said → Member → Member → Type 0
ShowsBy input.Tick told old new = Went told old.own new.own old new
ShowsBy (input.Datagram from bytes) told old new = Went told old.own new.own old new
ShowsBy (input.Accepted conn) told old new = Went told old.own new.own old new
ShowsBy (input.Connected conn) told old new = Went told old.own new.own old new
ShowsBy (input.Received conn bytes) told old new = Went told old.own new.own old new
ShowsBy (input.Closed conn) told old new = Went told old.own new.own old new
ShowsBy (input.Join seeds) told old new = Went told old.own new.own old new
ShowsBy input.Leave told old new = Went told old.own old.own old new × MayLeave old.own new.own
ShowsBy (input.Update meta) told old new = Went told new.own new.own old new × MayChange meta.now old.own new.own
ShowsBy (input.Say bytes) told old new = Went told old.own new.own old new
ShowsBy (input.State bytes) told old new = Went told old.own new.own old new

abbrev pub Shows : Input → Member → Member → Type 0
Shows what old new = (told : List Said) × All (IsToldBy what new.time old) told × ShowsBy what told old new
