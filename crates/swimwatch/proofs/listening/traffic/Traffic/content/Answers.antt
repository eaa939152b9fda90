use Rattle.std.proofs.Common.{◌≡◌, true, false, [], ◌∷◌, ◌++◌, ap, sym, rules}
use Rattle.std.proofs.Math.Path.{subst}
use Rattle.std.specs.Option.{is_some}
use Rattle.capture.specs.Captured.{captured}
use Rattle.capture.specs.Endpoints.{HasAddressLen}
use Rattle.capture.specs.Packets.{carried_text, tcp_text, udp_text, transport_text}
use Rattle.swimwatch.specs.Filtered.{IsLeftOut, IsParcelOf, takes}
use Rattle.swimwatch.specs.Places.{IsPlace}
use Rattle.swimwatch.specs.Connected.{HearsSegment, past_of}
use Rattle.swimwatch.specs.Filtered.{choice_of}
use Rattle.swimwatch.specs.Shown.{HearsFrame, HearsFrame as frames}
use Rattle.swimwatch.specs.Views.{HearsDatagram}
use Rattle.swimwatch.proofs.Flowing.{of_some, on_ok, packet_in, packet_is, taken_tcp, taken_udp, whenever}
use Rattle.swimwatch.proofs.listening.traffic.Traffic.content.Goals as goal

pub returns-in_default : goal.returns-in_default
returns-in_default c segments packets read follows kept =
    let none = c.in_default.ensures.none in
    let same : c.refusal.new.watch.listener.view ≡ c.args.watch.now.listener.view = search rules in
    whenever c.refusal.result (
      segments,
      packets,
      read,
      subst (λ v. HearsFrame (choice_of c.args.filter) c.args.way c.args.time (carried_text c.args.content)
          (past_of segments packets read c.args.self.now.connections.flows c.args.watch.now.listener.view)
          (past_of segments packets read c.args.self.now.connections.flows v)) (sym same) (frames.left_out (IsLeftOut.refusal none.0 none.1)),
      follows,
      kept,
    )

pub returns-in_default-2 : goal.returns-in_default-2
returns-in_default-2 c segments packets read follows kept =
    let none : ¬ HasAddressLen c.args.content.destination.now =
    λ has. absurd (cc (ap is_some c.in_default-2.is-1, c.endpoint-to.ensures.some.1 has)) in
    (segments, packets, read, frames.left_out (IsLeftOut.no_destination none), follows, kept)

pub returns-in_default-2-2 : goal.returns-in_default-2-2
returns-in_default-2-2 c segments packets read follows kept =
    let none : ¬ HasAddressLen c.args.content.source.now =
    λ has. absurd (cc (ap is_some c.in_default-2.is-0, c.endpoint-from.ensures.some.1 has)) in
    (segments, packets, read, frames.left_out (IsLeftOut.no_source none), follows, kept)

pub returns-then-not-takes : goal.returns-then-not-takes
returns-then-not-takes c segments packets read follows kept =
    let no : takes c.args.filter.ports.now c.in-Some.parcel.source c.in-Some.parcel.destination ≡ false = search rules in
    (segments, packets, read, frames.left_out (IsLeftOut.other_ports c.in-Some.parcel c.in-Some.ensures.some no), follows, kept)

pub returns-then-branch : goal.returns-then-branch
returns-then-branch c segments packets read follows kept =
    let parcel = c.in-Some.parcel in
    let p = packet_in c.args.time c.args.way parcel c.in-Some-Some.source c.in-Some-Some.destination in
    let from = of_some (IsPlace c.args.content.source.now parcel.source) _ _ c.in-Some-Some.is-0 c.endpoint-from.ensures.is in
    let to = of_some (IsPlace c.args.content.destination.now parcel.destination) _ _ c.in-Some-Some.is-1 c.endpoint-to.ensures.is in
    let is = packet_is c.args.time c.args.way (carried_text c.args.content) parcel _ _ c.in-Some.ensures.some from to in (
      segments,
      packets ++ p ∷ [],
      read,
      frames.passed_over p is (c.in_ok-has.ensures.again packets kept c.if-branch.true),
      follows,
      c.in_ok-has.ensures.kept packets kept,
    )

pub returns-in-Udp : goal.returns-in-Udp
returns-in-Udp c segments packets read follows kept =
    let parcel = c.in-Some.parcel in
    let p = packet_in c.args.time c.args.way parcel c.in-Some-Some.source c.in-Some-Some.destination in
    let from = of_some (IsPlace c.args.content.source.now parcel.source) _ _ c.in-Some-Some.is-0 c.endpoint-from.ensures.is in
    let to = of_some (IsPlace c.args.content.destination.now parcel.destination) _ _ c.in-Some-Some.is-1 c.endpoint-to.ensures.is in
    let is = packet_is c.args.time c.args.way (carried_text c.args.content) parcel _ _ c.in-Some.ensures.some from to in
    let chosen : takes c.args.filter.ports.now parcel.source parcel.destination ≡ true = search rules in
    let d = udp_text c.in-Udp.datagram in
    let taken = taken_udp c.args.filter.ports.now _ d parcel (ap transport_text c.in-Udp.is) c.in-Some.ensures.some chosen in
    let same : c.captured.new.self.listener.view ≡ c.args.watch.now.listener.view = search rules in
    on_ok c.datagram.result (λ h. (
      segments,
      packets ++ p ∷ [],
      read,
      frames.datagram p d _ is taken (ap transport_text c.in-Udp.is)
          (subst (λ v. HearsDatagram c.args.filter.opening.clear c.args.filter.opening.keys.now
          c.args.filter.opening.label.now c.in-Udp.datagram.payload.now c.args.time v c.datagram.new.self.listener.view) same h),
      follows,
      c.in_ok-has.ensures.kept packets kept,
    )) c.datagram.ensures.hears

pub returns-in-None : goal.returns-in-None
returns-in-None c segments packets read follows kept =
    let from : HasAddressLen c.args.content.source.now = c.endpoint-from.ensures.some.0 (ap is_some c.in-Some-Some.is-0) in
    let to : HasAddressLen c.args.content.destination.now = c.endpoint-to.ensures.some.0 (ap is_some c.in-Some-Some.is-1) in
    absurd (cc (c.in-None.ensures.some.1 (from, to)))

pub returns-in-Unreachable : goal.returns-in-Unreachable
returns-in-Unreachable c segments packets read follows kept =
    absurd (subst (λ t. IsParcelOf t c.in-Some.parcel) (ap transport_text c.in-Unreachable.is) c.in-Some.ensures.some)

pub returns-in-Some-of : goal.returns-in-Some-of
returns-in-Some-of c segments packets read follows kept =
    let parcel = c.in-Some.parcel in
    let p = packet_in c.args.time c.args.way parcel c.in-Some-Some.source c.in-Some-Some.destination in
    let from = of_some (IsPlace c.args.content.source.now parcel.source) _ _ c.in-Some-Some.is-0 c.endpoint-from.ensures.is in
    let to = of_some (IsPlace c.args.content.destination.now parcel.destination) _ _ c.in-Some-Some.is-1 c.endpoint-to.ensures.is in
    let is = packet_is c.args.time c.args.way (carried_text c.args.content) parcel _ _ c.in-Some.ensures.some from to in
    let chosen : takes c.args.filter.ports.now parcel.source parcel.destination ≡ true = search rules in
    let t = tcp_text c.in-Tcp.segment in
    let taken = taken_tcp c.args.filter.ports.now _ t parcel (ap transport_text c.in-Tcp.is) c.in-Some.ensures.some chosen in
    let next = segments ++ captured c.in-Some-of.ends t ∷ [] in
    let same : c.captured_segment.new.self.listener.view ≡ c.args.watch.now.listener.view = search rules in
    on_ok c.segment.result (λ h. (
      next,
      packets ++ p ∷ [],
      h.0,
      frames.segment p t c.in-Some-of.ends _ is taken (ap transport_text c.in-Tcp.is) c.in-Some-of.ensures.is
          (subst (λ v. HearsSegment c.args.filter.opening.clear c.args.filter.opening.keys.now c.in-Some-of.ends t
          (past_of segments (packets ++ p ∷ []) read c.args.self.now.connections.flows v)
          (past_of next (packets ++ p ∷ []) h.0 c.segment.new.self.flows c.segment.new.watch.listener.view)) same h.1),
      h.2,
      c.in_ok-has.ensures.kept packets kept,
    )) (c.segment.ensures segments (packets ++ p ∷ []) read follows)
