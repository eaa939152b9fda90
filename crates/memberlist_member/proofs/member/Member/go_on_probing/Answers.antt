use Rattle.std.proofs.Common.{◌≡◌, None, ap, ◌∙◌}
use Rattle.memberlist_member.specs.declared.probe.Probe.{Probe}
use Rattle.memberlist_member.proofs.member.Member.go_on_probing.Goals as goal

pub returns-then-probe-self-clause-probes : goal.returns-then-probe-self-clause-probes
returns-then-probe-self-clause-probes g c seq name inc due probing =
    let (probe, is, number, who, at, until) = c.end_probe.ensures.probes seq name inc due probing in
    (probe, c.in-Some.is ∙ is, number, who, at, until)

pub returns-in-Some-ask_at-clause-probes : goal.returns-in-Some-ask_at-clause-probes
returns-in-Some-ask_at-clause-probes g c seq name inc due probing =
    let (probe, is, number, who, at, until) = c.ask_others.ensures.probes seq name inc due probing in
    let same : record c.in-Some.probe { ask_at = None } ≡ probe = cc (is) in (
      c.in-Some.probe,
      c.in-Some.is,
      ap (λ (p : Probe). p.seq) same ∙ number,
      ap (λ (p : Probe). p.name) same ∙ who,
      ap (λ (p : Probe). p.inc) same ∙ at,
      ap (λ (p : Probe). p.due) same ∙ until,
    )
