use Rattle.std.proofs.Common.{[], ◌∷◌, ◌≡◌, arith, refl, subst, sym, true}
use Rattle.std.specs.List.{All}
use Rattle.memberlist_member.specs.Owns.{own_leave}
use Rattle.memberlist_member.specs.Saying.{said_of}
use Rattle.memberlist_member.specs.Showing.{IsToldByTime}
use Rattle.memberlist_member.specs.Showing.Reaches.{here}
use Rattle.memberlist_member.specs.Steps.{Does, PutsAtMost, Shows}
use Rattle.memberlist_member.proofs.Remembering.{later}
use Rattle.memberlist_member.proofs.Showing.{none_told, one_told, told_one}
use Rattle.memberlist_member.proofs.member.Member.step.Goals as goal

pub invariant_of-self : goal.invariant_of-self
invariant_of-self g c =
    record {
      limited = c.args.self.now.limited;
      begun = c.args.self.now.begun;
      watched = c.args.self.now.watched;
      viewed = later c.args.self.now.view c.args.self.now.time c.max-self.result (omega (arith, c.max-self.ensures))
          c.args.self.now.viewed;
    }

pub returns-in_ok-take_datagram-in-Datagram-clause-puts : goal.returns-in_ok-take_datagram-in-Datagram-clause-puts
returns-in_ok-take_datagram-in-Datagram-clause-puts g c =
    subst (λ input. PutsAtMost input c.args.self.now c.take_datagram.new.self) (sym c.in-Datagram.is)
    c.take_datagram.ensures.adds

pub returns-in_ok-take_datagram-in-Datagram-clause-does : goal.returns-in_ok-take_datagram-in-Datagram-clause-does
returns-in_ok-take_datagram-in-Datagram-clause-does g c =
    let did = c.in_ok-take_datagram-in-Datagram in
    subst (λ input. Does input c.args.self.now c.take_datagram.new.self) (sym c.in-Datagram.is)
    (did.ensures.outdone, did.ensures.answered)

pub returns-in_err-tick-in-Tick-clause-shows : goal.returns-in_err-tick-in-Tick-clause-shows
returns-in_err-tick-in-Tick-clause-shows g c =
    let (told, each, goes) = c.tick.ensures.goes in
    let ((time, settings, cover, name, rises), details, leaving, seeds) = c.tick.ensures.stays in
    subst (λ input. Shows input c.args.self.now c.tick.new.self) (sym c.in-Tick.is)
    (told, subst (λ t. All (IsToldByTime t c.args.self.now) told) (sym time) each, goes c.args.self.now.view c.args.self.now.own here)

pub returns-in_ok-tick-in-Tick-clause-shows : goal.returns-in_ok-tick-in-Tick-clause-shows
returns-in_ok-tick-in-Tick-clause-shows g c =
    let (told, each, goes) = c.tick.ensures.goes in
    let ((time, settings, cover, name, rises), details, leaving, seeds) = c.tick.ensures.stays in
    subst (λ input. Shows input c.args.self.now c.tick.new.self) (sym c.in-Tick.is)
    (told, subst (λ t. All (IsToldByTime t c.args.self.now) told) (sym time) each, goes c.args.self.now.view c.args.self.now.own here)

pub returns-in_err-take_datagram-in-Datagram-clause-shows : goal.returns-in_err-take_datagram-in-Datagram-clause-shows
returns-in_err-take_datagram-in-Datagram-clause-shows g c =
    let (told, each, goes) = c.take_datagram.ensures.goes in
    subst (λ input. Shows input c.args.self.now c.take_datagram.new.self) (sym c.in-Datagram.is)
    (told, each, goes c.args.self.now.view c.args.self.now.own here)

pub returns-in_ok-take_datagram-in-Datagram-clause-shows : goal.returns-in_ok-take_datagram-in-Datagram-clause-shows
returns-in_ok-take_datagram-in-Datagram-clause-shows g c =
    let (told, each, goes) = c.take_datagram.ensures.goes in
    subst (λ input. Shows input c.args.self.now c.take_datagram.new.self) (sym c.in-Datagram.is)
    (told, each, goes c.args.self.now.view c.args.self.now.own here)

pub returns-in_err-take_connection-in-Accepted-clause-shows : goal.returns-in_err-take_connection-in-Accepted-clause-shows
returns-in_err-take_connection-in-Accepted-clause-shows g c =
    subst (λ input. Shows input c.args.self.now c.take_connection.new.self) (sym c.in-Accepted.is)
    ([], none_told _, c.take_connection.ensures.goes [] c.args.self.now.view c.args.self.now.own here)

pub returns-in_ok-take_connection-in-Accepted-clause-shows : goal.returns-in_ok-take_connection-in-Accepted-clause-shows
returns-in_ok-take_connection-in-Accepted-clause-shows g c =
    subst (λ input. Shows input c.args.self.now c.take_connection.new.self) (sym c.in-Accepted.is)
    ([], none_told _, c.take_connection.ensures.goes [] c.args.self.now.view c.args.self.now.own here)

pub returns-in_err-write_first-in-Connected-clause-shows : goal.returns-in_err-write_first-in-Connected-clause-shows
returns-in_err-write_first-in-Connected-clause-shows g c =
    subst (λ input. Shows input c.args.self.now c.write_first.new.self) (sym c.in-Connected.is)
    ([], none_told _, c.write_first.ensures.goes [] c.args.self.now.view c.args.self.now.own here)

pub returns-in_ok-write_first-in-Connected-clause-shows : goal.returns-in_ok-write_first-in-Connected-clause-shows
returns-in_ok-write_first-in-Connected-clause-shows g c =
    subst (λ input. Shows input c.args.self.now c.write_first.new.self) (sym c.in-Connected.is)
    ([], none_told _, c.write_first.ensures.goes [] c.args.self.now.view c.args.self.now.own here)

pub returns-in_err-take_bytes-in-Received-clause-shows : goal.returns-in_err-take_bytes-in-Received-clause-shows
returns-in_err-take_bytes-in-Received-clause-shows g c =
    let (told, each, goes) = c.take_bytes.ensures.goes in
    subst (λ input. Shows input c.args.self.now c.take_bytes.new.self) (sym c.in-Received.is)
    (told, each, goes c.args.self.now.view c.args.self.now.own here)

pub returns-in_ok-take_bytes-in-Received-clause-shows : goal.returns-in_ok-take_bytes-in-Received-clause-shows
returns-in_ok-take_bytes-in-Received-clause-shows g c =
    let (told, each, goes) = c.take_bytes.ensures.goes in
    subst (λ input. Shows input c.args.self.now c.take_bytes.new.self) (sym c.in-Received.is)
    (told, each, goes c.args.self.now.view c.args.self.now.own here)

pub returns-in_err-end_connection-in-Closed-clause-shows : goal.returns-in_err-end_connection-in-Closed-clause-shows
returns-in_err-end_connection-in-Closed-clause-shows g c =
    let (told, each, goes) = c.end_connection.ensures.goes in
    subst (λ input. Shows input c.args.self.now c.end_connection.new.self) (sym c.in-Closed.is)
    (told, each, goes c.args.self.now.view c.args.self.now.own here)

pub returns-in_ok-end_connection-in-Closed-clause-shows : goal.returns-in_ok-end_connection-in-Closed-clause-shows
returns-in_ok-end_connection-in-Closed-clause-shows g c =
    let (told, each, goes) = c.end_connection.ensures.goes in
    subst (λ input. Shows input c.args.self.now c.end_connection.new.self) (sym c.in-Closed.is)
    (told, each, goes c.args.self.now.view c.args.self.now.own here)

pub returns-in_err-join-in-Join-clause-shows : goal.returns-in_err-join-in-Join-clause-shows
returns-in_err-join-in-Join-clause-shows g c =
    subst (λ input. Shows input c.args.self.now c.join.new.self) (sym c.in-Join.is)
    ([], none_told _, c.join.ensures.goes [] c.args.self.now.view c.args.self.now.own here)

pub returns-in_ok-join-in-Join-clause-shows : goal.returns-in_ok-join-in-Join-clause-shows
returns-in_ok-join-in-Join-clause-shows g c =
    subst (λ input. Shows input c.args.self.now c.join.new.self) (sym c.in-Join.is)
    ([], none_told _, c.join.ensures.goes [] c.args.self.now.view c.args.self.now.own here)

pub returns-in_err-leave-in-Leave-clause-shows : goal.returns-in_err-leave-in-Leave-clause-shows
returns-in_err-leave-in-Leave-clause-shows g c =
    let said = said_of (own_leave c.args.self.now.own) true in
    subst (λ input. Shows input c.args.self.now c.leave.new.self) (sym c.in-Leave.is)
    (said ∷ [], one_told (λ s. s ≡ said) said refl, (c.leave.ensures.goes (said ∷ []) (told_one said), c.leave.ensures.own))

pub returns-in_ok-leave-in-Leave-clause-shows : goal.returns-in_ok-leave-in-Leave-clause-shows
returns-in_ok-leave-in-Leave-clause-shows g c =
    let said = said_of (own_leave c.args.self.now.own) true in
    subst (λ input. Shows input c.args.self.now c.leave.new.self) (sym c.in-Leave.is)
    (said ∷ [], one_told (λ s. s ≡ said) said refl, (c.leave.ensures.goes (said ∷ []) (told_one said), c.leave.ensures.own))

pub returns-in_err-set_state-in-State-clause-shows : goal.returns-in_err-set_state-in-State-clause-shows
returns-in_err-set_state-in-State-clause-shows g c =
    subst (λ input. Shows input c.args.self.now c.set_state.new.self) (sym c.in-State.is)
    ([], none_told _, c.set_state.ensures.goes [] c.args.self.now.view c.args.self.now.own here)

pub returns-in_ok-set_state-in-State-clause-shows : goal.returns-in_ok-set_state-in-State-clause-shows
returns-in_ok-set_state-in-State-clause-shows g c =
    subst (λ input. Shows input c.args.self.now c.set_state.new.self) (sym c.in-State.is)
    ([], none_told _, c.set_state.ensures.goes [] c.args.self.now.view c.args.self.now.own here)

pub returns-in-Say-clause-shows : goal.returns-in-Say-clause-shows
returns-in-Say-clause-shows g c =
    subst (λ input. Shows input c.args.self.now c.say.new.self) (sym c.in-Say.is)
    ([], none_told _, c.say.ensures.goes [] c.args.self.now.view c.args.self.now.own here)
