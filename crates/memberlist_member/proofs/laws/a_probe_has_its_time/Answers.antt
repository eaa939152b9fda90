use Rattle.memberlist_member.proofs.Ending.{ends_no_earlier}
use Rattle.memberlist_member.proofs.laws.a_probe_has_its_time.Goals as goal

pub returns : goal.returns
returns c first last seq name inc due run probing soon = ends_no_earlier first last seq name inc due run probing soon
