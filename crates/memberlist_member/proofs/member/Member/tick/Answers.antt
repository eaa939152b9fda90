use Rattle.std.proofs.Common.{◌≡◌, false, inl, subst}
use Rattle.memberlist_member.proofs.Heeding.{on_ok}
use Rattle.memberlist_member.proofs.Showing.{in_time_then, itself, same_probe, then_in_time}
use Rattle.memberlist_member.proofs.Watching.{all_waited_for}
use Rattle.memberlist_member.proofs.Ticking.{by_lines, by_time, then_on}
use Rattle.memberlist_member.proofs.Carrying.{times_over}
use Rattle.memberlist_member.proofs.member.Member.tick.Goals as goal

pub returns-in_err-look_around-clause-goes : goal.returns-in_err-look_around-clause-goes
returns-in_err-look_around-clause-goes g c = by_lines c.args.self.now c.look_around.new.self c.look_around.ensures.goes

pub returns-in_err-go_on_probing-clause-goes : goal.returns-in_err-go_on_probing-clause-goes
returns-in_err-go_on_probing-clause-goes g c = by_time c.args.self.now c.look_around.new.self c.go_on_probing.new.self
    (itself c.args.self.now c.look_around.new.self c.look_around.ensures.stays.0.0)
    (itself c.look_around.new.self c.go_on_probing.new.self c.go_on_probing.ensures.stays.0.0)
    c.look_around.ensures.goes c.look_around.ensures.probes c.go_on_probing.ensures.goes

pub returns-in_err-act_in_time-clause-goes : goal.returns-in_err-act_in_time-clause-goes
returns-in_err-act_in_time-clause-goes g c = then_on c.args.self.now c.go_on_probing.new.self c.act_in_time.new.self
    (by_time c.args.self.now c.look_around.new.self c.go_on_probing.new.self
    (itself c.args.self.now c.look_around.new.self c.look_around.ensures.stays.0.0)
    (itself c.look_around.new.self c.go_on_probing.new.self c.go_on_probing.ensures.stays.0.0)
    c.look_around.ensures.goes c.look_around.ensures.probes c.go_on_probing.ensures.goes) c.act_in_time.ensures.goes

pub returns-clause-goes : goal.returns-clause-goes
returns-clause-goes g c = then_on c.args.self.now c.act_in_time.new.self c.end_suspicions.new.self
    (then_on c.args.self.now c.go_on_probing.new.self c.act_in_time.new.self
    (by_time c.args.self.now c.look_around.new.self c.go_on_probing.new.self
    (itself c.args.self.now c.look_around.new.self c.look_around.ensures.stays.0.0)
    (itself c.look_around.new.self c.go_on_probing.new.self c.go_on_probing.ensures.stays.0.0)
    c.look_around.ensures.goes c.look_around.ensures.probes c.go_on_probing.ensures.goes) c.act_in_time.ensures.goes) c.end_suspicions.ensures.goes

pub returns-in_err-act_in_time-clause-probes : goal.returns-in_err-act_in_time-clause-probes
returns-in_err-act_in_time-clause-probes g c = then_in_time c.args.self.now c.go_on_probing.new.self c.act_in_time.new.self
    (λ seq name inc due probing. c.look_around.ensures.probes seq name inc due (c.go_on_probing.ensures.probes seq name inc due probing))
    c.act_in_time.ensures.probes

pub returns-clause-probes : goal.returns-clause-probes
returns-clause-probes g c = in_time_then c.args.self.now c.act_in_time.new.self c.end_suspicions.new.self
    (then_in_time c.args.self.now c.go_on_probing.new.self c.act_in_time.new.self
    (λ seq name inc due probing. c.look_around.ensures.probes seq name inc due (c.go_on_probing.ensures.probes seq name inc due probing))
    c.act_in_time.ensures.probes)
    (same_probe c.act_in_time.new.self c.end_suspicions.new.self c.end_suspicions.ensures.stays.1) c.end_suspicions.ensures.stays.0.0.0

pub returns-clause-waits : goal.returns-clause-waits
returns-clause-waits g c =
    let (time, settings, cover, name, rises) = c.end_suspicions.ensures.stays.0.0.0 in
    on_ok c.end_suspicions.result (λ none loud.
    all_waited_for c.end_suspicions.new.self (none (subst (λ config. config.is_silent ≡ false) settings loud))) c.end_suspicions.ensures.none

pub returns-in_err-go_on_probing-clause-probes : goal.returns-in_err-go_on_probing-clause-probes
returns-in_err-go_on_probing-clause-probes g c seq name inc due probing =
    inl (c.look_around.ensures.probes seq name inc due (c.go_on_probing.ensures.probes seq name inc due probing))

pub returns-in_err-go_on_probing-clause-lines : goal.returns-in_err-go_on_probing-clause-lines
returns-in_err-go_on_probing-clause-lines g c conn came line = c.look_around.ensures.lines conn came (c.go_on_probing.ensures.lines conn came line)

pub returns-in_err-go_on_probing-clause-stays : goal.returns-in_err-go_on_probing-clause-stays
returns-in_err-go_on_probing-clause-stays g c = times_over c.args.self.now c.look_around.new.self c.go_on_probing.new.self c.look_around.ensures.stays.0 c.go_on_probing.ensures.stays.0

pub returns-in_err-act_in_time-clause-lines : goal.returns-in_err-act_in_time-clause-lines
returns-in_err-act_in_time-clause-lines g c conn came line = c.look_around.ensures.lines conn came (c.go_on_probing.ensures.lines conn came (c.act_in_time.ensures.lines conn came line))

pub returns-in_err-act_in_time-clause-stays : goal.returns-in_err-act_in_time-clause-stays
returns-in_err-act_in_time-clause-stays g c = times_over c.args.self.now c.go_on_probing.new.self c.act_in_time.new.self (times_over c.args.self.now c.look_around.new.self c.go_on_probing.new.self c.look_around.ensures.stays.0 c.go_on_probing.ensures.stays.0) c.act_in_time.ensures.stays

pub returns-clause-lines : goal.returns-clause-lines
returns-clause-lines g c conn came line = c.look_around.ensures.lines conn came (c.go_on_probing.ensures.lines conn came (c.act_in_time.ensures.lines conn came (c.end_suspicions.ensures.lines conn came line)))

pub returns-clause-stays : goal.returns-clause-stays
returns-clause-stays g c = times_over c.args.self.now c.act_in_time.new.self c.end_suspicions.new.self (times_over c.args.self.now c.go_on_probing.new.self c.act_in_time.new.self (times_over c.args.self.now c.look_around.new.self c.go_on_probing.new.self c.look_around.ensures.stays.0 c.go_on_probing.ensures.stays.0) c.act_in_time.ensures.stays) c.end_suspicions.ensures.stays.0.0
