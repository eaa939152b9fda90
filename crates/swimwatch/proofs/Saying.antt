-- What a view hears is said in the records of captures.
use Rattle.std.proofs.Common.{◌≡◌, ℕ, ◌/◌, Bool, true, false, List, [], ◌∷◌, ◌++◌, inl, inr, Contains, Option, None, Some, Ok, refl, sym, ap, arith}
use Rattle.std.proofs.Math.Path.{subst}
use Rattle.std.proofs.lemmas.List.Elements.{Contains-append_right}
use Rattle.std.specs.Prelude.{MatchBool}
use Rattle.swim_claim.specs.declared.claim.Claim.{Claim}
use Rattle.swim_claim.specs.Details.{DetailsValue}
use Rattle.swim_wire.specs.Packet.{PacketValue}
use Rattle.swim_wire.specs.declared.state_record.StateRecord.{StateRecord}
use Rattle.capture.specs.declared.link.Link.{Link}
use Rattle.capture.specs.declared.record.Record.{Record}
use Rattle.capture.specs.declared.ends.Ends.{Ends}
use Rattle.capture.specs.Captured.{Captured, captured, IsFlowOf}
use Rattle.capture.specs.Captured.AreSome.{passed_over}
use Rattle.capture.specs.Flows.{FlowText}
use Rattle.capture.specs.Packets.{CarriedText, TcpText, TransportText, UdpText, carried_of, link_of}
use Rattle.capture.specs.Pcap.{RecordText}
use Rattle.memberlist_message.specs.declared.message.Message.{Message}
use Rattle.memberlist_view.specs.declared.heard.Heard.{Heard}
use Rattle.memberlist_view.specs.declared.heard.Said.{Said}
use Rattle.memberlist_view.specs.Told.{ViewValue, view_after}
use Rattle.swimwatch.specs.declared.heard.recent.Way.{Way}
use Rattle.swimwatch.specs.declared.listening.seat.Seat.{Seat}
use Rattle.swimwatch.specs.Filtered.{Choice}
use Rattle.swimwatch.specs.Records.{claims_in}
use Rattle.swimwatch.specs.Said.{IsAfter, IsAfter as steps, SaysMessage, SaidInMessages, SaidInClaims, SaidInFlow, IsSaid, AreSaid, AreSaidAtEnd}
use Rattle.swimwatch.specs.Connected.{Direction, Past, HearsAny, HearsFlow, HearsSegment, MovesOn, TakesSegment, past_of}
use Rattle.swimwatch.specs.Shown.{HearsFrame, HearsRecord, with_packet}
use Rattle.swimwatch.specs.Told.{packet_told, record_told, heard_of}
use Rattle.swimwatch.specs.Viewed.{HearsCaptures, HasEnded}
use Rattle.swimwatch.specs.Views.{HearsDatagram, HearsMessage, HearsMessages, HearsRecords, HearsStream, MaySee, is_warning}

-- ---- things that are heard

module _ (S : Heard → Type 0) where
  stays : (old new : ViewValue) → new ≡ old → IsAfter S old new
  stays old new same = subst (λ v. IsAfter S old v) (sym same) steps.none

  one : (old new : ViewValue) (h : Heard) → new ≡ view_after old h → S h → IsAfter S old new
  one old new h is said = subst (λ v. IsAfter S old v) (sym is) (steps.then old h steps.none said)

  chain : (old mid new : ViewValue) → IsAfter S old mid → IsAfter S mid new → IsAfter S old new
  chain old mid _ first steps.none = first
  chain old mid _ first (steps.then last h later said) = steps.then last h (chain old mid last first later) said

wider : (S T : Heard → Type 0) → ((h : Heard) → S h → T h) → (old new : ViewValue) → IsAfter S old new → IsAfter T old new
wider S T all old _ steps.none = steps.none
wider S T all old _ (steps.then last h later said) = steps.then last h (wider S T all old last later) (all h said)

-- ---- messages of a datagram

module _ (time : ℕ) (all : List Message) where
  by_warning : (packet : PacketValue) (b : Bool) (old new : ViewValue) → is_warning all packet ≡ b
      → MatchBool b (new ≡ old) (new ≡ view_after old (heard_of time (packet_told packet)))
      → IsAfter (SaysMessage time all (Message.Claim packet)) old new
  by_warning packet true old new is same = stays _ old new same
  by_warning packet false old new is new_is = one _ old new (heard_of time (packet_told packet)) new_is (is, refl)

  by_sight : (S : Heard → Type 0) (old new : ViewValue)
      → ((h : Heard) → ((name : List ℕ) × (place : DetailsValue) × (h ≡ record { time = time; said = Said.Seen name place })) → S h)
      → MaySee time old new → IsAfter S old new
  by_sight S old new says (inl same) = stays S old new same
  by_sight S old new says (inr (name, place, is)) = one S old new _ is (says _ (name, place, refl))

  message : (m : Message) (old new : ViewValue) → HearsMessage time all m old new → IsAfter (SaysMessage time all m) old new
  message (Message.Claim packet) old new h = by_warning packet (is_warning all packet) old new refl h
  message (Message.Ping ping) old new h = by_sight _ old new (λ h s. s) h
  message (Message.IndirectPing ping) old new h = by_sight _ old new (λ h s. s) h
  message (Message.Ack ack) old new h = by_sight _ old new (λ h s. s) h
  message (Message.Nack nack) old new h = by_sight _ old new (λ h s. s) h
  message (Message.User bytes) old new h = by_sight _ old new (λ h s. s) h
  message (Message.Error response) old new h = by_sight _ old new (λ h s. s) h

  messages : (rest : List Message) (old new : ViewValue) → ((m : Message) → Contains rest m → Contains all m)
      → HearsMessages time all rest old new → IsAfter (SaidInMessages time all) old new
  messages [] old new among same = stays _ old new same
  messages (m ∷ later) old new among (mid, first, then) =
      chain _ old mid new
      (wider _ _ (λ h s. (m, among m (0, omega arith, refl), s)) old mid (message m old mid first))
      (messages later mid new (λ x is. among x (Contains-append_right (m ∷ []) later x is)) then)

  -- ---- records of a stream

  claims : (all_claims rest : List Claim) (old new : ViewValue) → ((c : Claim) → Contains rest c → Contains all_claims c)
      → HearsRecords time rest old new → IsAfter (SaidInClaims time all_claims) old new
  claims all_claims [] old new among same = stays _ old new same
  claims all_claims (c ∷ later) old new among (joins, then) =
      let h = heard_of time (record_told c joins) in
      chain _ old (view_after old h) new
      (one _ old (view_after old h) h refl (c, joins, among c (0, omega arith, refl), refl))
      (claims all_claims later (view_after old h) new (λ x is. among x (Contains-append_right (c ∷ []) later x is)) then)

module _ (s : Choice) where
  streams : (segments : List Captured) (ends : Ends) (f : FlowText) (time : ℕ) (whole : Bool) (old new : ViewValue)
      → IsFlowOf segments ends f → HearsStream s.clear s.keys f.text time whole old new → IsAfter (SaidInFlow s segments) old new
  streams segments ends f time true old new of (records, are, understood, hears) =
      wider _ _ (λ h said. (ends, f, time, records, of, are, said)) old new
      (claims time [] (claims_in records) (claims_in records) old new (λ c is. is) hears)
  streams segments ends f time false old new of (none, same) = stays _ old new same

  -- ---- streams of flows

  flow : (segments : List Captured) (read : List Direction) (ends : Ends) (f : FlowText) (old new : ViewValue)
      → HearsFlow s.clear s.keys segments read ends f old new → IsAfter (SaidInFlow s segments) old new
  flow segments read ends f old new (HearsFlow.empty none same) = stays _ old new same
  flow segments read ends f old new (HearsFlow.before was same) = stays _ old new same
  flow segments read ends f old new (HearsFlow.stream time whole of hears) = streams segments ends f time whole old new of hears

  any : (segments : List Captured) (read : List Direction) (ends : Ends) (o : Option FlowText) (old new : ViewValue)
      → HearsAny s.clear s.keys segments read ends o old new → IsAfter (SaidInFlow s segments) old new
  any segments read ends None old new same = stays _ old new same
  any segments read ends (Some f) old new hears = flow segments read ends f old new hears

  kept : (old new : Past) → MovesOn s.clear s.keys old new → new.segments ≡ old.segments
  kept old _ MovesOn.nothing = refl
  kept old _ (MovesOn.closes p ends pair flows mid view before is gone others older newer) = kept old p before
  kept old _ (MovesOn.reads p ends pair time view before is of hears) = kept old p before

  moves : (old new : Past) → MovesOn s.clear s.keys old new → IsAfter (SaidInFlow s new.segments) old.view new.view
  moves old _ MovesOn.nothing = steps.none
  moves old _ (MovesOn.closes p ends pair flows mid view before is gone others older newer) =
      chain _ old.view mid view (chain _ old.view p.view mid (moves old p before)
      (flow p.segments p.read ends pair.older.flow p.view mid older)) (any p.segments p.read ends _ mid view newer)
  moves old _ (MovesOn.reads p ends pair time view before is of hears) =
      chain _ old.view p.view view (moves old p before)
      (streams p.segments ends pair.older.flow time true p.view view of hears)

  later : (segments : List Captured) (c : Captured) (h : Heard) → SaidInFlow s segments h → SaidInFlow s (segments ++ c ∷ []) h
  later segments c h (ends, f, time, records, of, are, said) =
      (ends, f, time, records, (of.0, passed_over segments of.0 c of.1, of.2), are, said)

  segment : (ends : Ends) (t : TcpText) (old new : Past) → HearsSegment s.clear s.keys ends t old new
      → IsAfter (SaidInFlow s new.segments) old.view new.view
  segment ends t old new (before, _, first, TakesSegment.takes flows taken replaced complete mid view puts others older newer, last) =
      let now = before.segments ++ captured ends t ∷ [] in
      let same = kept (past_of now before.packets before.read flows view) new last in
      chain _ old.view view new.view
      (subst (λ all. IsAfter (SaidInFlow s all) old.view view) (sym same)
      (chain _ old.view mid view (chain _ old.view before.view mid
      (wider _ _ (later before.segments (captured ends t)) old.view before.view (moves old before first))
      (any now before.read ends replaced before.view mid older)) (any now before.read ends complete mid view newer)))
      (moves (past_of now before.packets before.read flows view) new last)

  -- ---- records of captures

  datagram : (r : Record) (bytes : List ℕ) (nanos : ℕ) (link : Link) (c : CarriedText) (d : UdpText) (now : List Captured)
      (old new : ViewValue) → r.time ≡ Some nanos → link_of r.link ≡ Some link → carried_of link bytes ≡ Ok c
      → c.transport ≡ TransportText.udp d → HearsDatagram s.clear s.keys s.label d.payload (nanos / 1000) old new
      → IsAfter (IsSaid s r bytes now) old new
  datagram r bytes nanos link c d now old new time linked carries is (HearsDatagram.messages ms of carried hears) =
      wider _ _ (λ h said. IsSaid.datagram nanos link c d ms time linked carries is carried said) old new
      (messages (nanos / 1000) ms ms old new (λ m h. h) hears)
  datagram r bytes nanos link c d now old new time linked carries is (HearsDatagram.nothing of none same) = stays _ old new same
  datagram r bytes nanos link c d now old new time linked carries is (HearsDatagram.elsewhere other same) = stays _ old new same

  frame : (r : Record) (bytes : List ℕ) (nanos : ℕ) (link : Link) (c : CarriedText) (way : Way) (old new : Past)
      → r.time ≡ Some nanos → link_of r.link ≡ Some link → carried_of link bytes ≡ Ok c
      → HearsFrame s way (nanos / 1000) c old new → IsAfter (IsSaid s r bytes new.segments) old.view new.view
  frame r bytes nanos link c way old _ time linked carries (HearsFrame.left_out why) = steps.none
  frame r bytes nanos link c way old _ time linked carries (HearsFrame.passed_over p is before) = steps.none
  frame r bytes nanos link c way old _ time linked carries (HearsFrame.datagram p d view is taken of hears) =
      datagram r bytes nanos link c d old.segments old.view view time linked carries of hears
  frame r bytes nanos link c way old new time linked carries (HearsFrame.segment p t ends _ is taken of are hears) =
      wider _ _ (λ h said. IsSaid.stream said) old.view new.view (segment ends t (with_packet old p old.view) new hears)

  record_said : (r : Record) (bytes : List ℕ) (old new : Past) → HearsRecord s r bytes old new
      → IsAfter (IsSaid s r bytes new.segments) old.view new.view
  record_said r bytes old new (HearsRecord.nothing why same) = stays _ old.view new.view (ap (λ p. p.view) same)
  record_said r bytes old new (HearsRecord.frame nanos link c time timely linked carries hears) =
      frame r bytes nanos link c _ old new time linked carries hears

  pub captures : (first : ViewValue) (records : List RecordText) (past : Past) → HearsCaptures s first records past
      → AreSaid s first records past.segments past.view
  captures first _ _ HearsCaptures.none = AreSaid.none
  captures first _ _ (HearsCaptures.one_more records old r bytes new before hears) =
      AreSaid.one_more records old.segments new.segments old.view new.view r bytes (captures first records old before)
      (record_said r bytes old new hears)

  pub ended : (first : ViewValue) (records : List RecordText) (seat : Seat) → HasEnded s first records seat
      → AreSaidAtEnd s first records seat.watch.listener.view
  ended first records seat (last, end, hears, left, none, view) = (
    end.segments,
    last.view,
    subst (λ all. AreSaid s first records all last.view) (sym (kept last end left)) (captures first records last hears),
    subst (λ v. IsAfter (SaidInFlow s end.segments) last.view v) view (moves last end left),
  )
