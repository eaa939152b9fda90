use Rattle.std.proofs.Common.{◌≡◌, Some, All, MatchOption, Contains, refl, sym, ap, subst}
use Rattle.memberlist_probes.specs.declared.captures.Sighting.{Sighting}
use Rattle.memberlist_probes.specs.Captured.{IsPassage as passage}
use Rattle.memberlist_probes.proofs.probe.Probe.passage_in.Goals as goal

pub returns-in-Some-default : goal.returns-in-Some-default
returns-in-Some-default c =
    let (ping, inside, same, is) =
    subst (λ o. MatchOption o (All (λ (s : Sighting). s.capture ≡ c.args.seen.capture
    → ⊥) c.args.self.now.pinged) (λ time. (ping : Sighting) × Contains c.args.self.now.pinged ping
    × (ping.capture ≡ c.args.seen.capture) × (ping.time ≡ time)))
    c.in-Some-default.is-0 c.in_capture.ensures in
    passage.both ping c.args.seen inside c.requires.seen same (ap Some (sym is)) refl

pub returns-in-None-None : goal.returns-in-None-None
returns-in-None-None c = passage.ack c.args.seen c.requires.seen refl refl
