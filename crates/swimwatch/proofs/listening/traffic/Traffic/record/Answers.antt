use Rattle.std.proofs.Common.{◌≡◌, ◌≤◌, ◌/◌, Some, None, IfSome, refl, rules}
use Rattle.capture.specs.Packets.{carried_text, link_of}
use Rattle.swimwatch.specs.Connected.{past_of}
use Rattle.swimwatch.specs.Filtered.{choice_of}
use Rattle.swimwatch.specs.Shown.{HasNoFrame as none, HearsFrame, HearsRecord as records}
use Rattle.std.proofs.Math.Path.{subst}
use Rattle.swimwatch.proofs.Flowing.{on_ok}
use Rattle.swimwatch.proofs.listening.traffic.Traffic.record.Goals as goal

pub returns-in_default : goal.returns-in_default
returns-in_default c segments packets read follows kept =
    (segments, packets, read, records.nothing (none.timeless c.in_default.is) refl, follows, kept)

pub returns-then-not-is_timely : goal.returns-then-not-is_timely
returns-then-not-is_timely c segments packets read follows kept =
    let late : ¬ IfSome c.args.filter.until (λ until. c.in-Some.nanos / 1000 ≤ until) =
    λ timely. absurd (cc (c.if-not-is_timely.true, c.is_timely.ensures.1 timely)) in
    (segments, packets, read, records.nothing (none.later c.in-Some.nanos c.in-Some.is late) refl, follows, kept)

pub returns-in_default-from_number : goal.returns-in_default-from_number
returns-in_default-from_number c segments packets read follows kept =
    let unknown : link_of c.args.record.link ≡ None = search rules in
    (segments, packets, read, records.nothing (none.unknown_link unknown) refl, follows, kept)

pub returns-in-Err : goal.returns-in-Err
returns-in-Err c segments packets read follows kept =
    let link : link_of c.args.record.link ≡ Some c.in-Some-from_number.link = search rules in (
      segments,
      packets,
      read,
      records.nothing (none.carries_none c.in-Some-from_number.link c.in-Err.cause link c.in-Err.ensures.err) refl,
      follows,
      kept,
    )

pub returns-in-Ok : goal.returns-in-Ok
returns-in-Ok c segments packets read follows kept =
    let link : link_of c.args.record.link ≡ Some c.in-Some-from_number.link = search rules in
    let timely : IfSome c.args.filter.until (λ until. c.in-Some.nanos / 1000 ≤ until) = search rules in
    on_ok c.content.result (λ h. (
      h.0,
      h.1,
      h.2,
      records.frame c.in-Some.nanos c.in-Some-from_number.link (carried_text c.in-Ok.content) c.in-Some.is timely link
          c.in-Ok.ensures.ok
          (subst (λ w. HearsFrame (choice_of c.args.filter) w (c.in-Some.nanos / 1000) (carried_text c.in-Ok.content)
          (past_of segments packets read c.args.self.now.connections.flows c.args.watch.now.listener.view)
          (past_of h.0 h.1 h.2 c.content.new.self.connections.flows c.content.new.watch.listener.view)) c.of-way.ensures h.3),
      h.4,
      h.5,
    ))
    (c.content.ensures segments packets read follows kept)
