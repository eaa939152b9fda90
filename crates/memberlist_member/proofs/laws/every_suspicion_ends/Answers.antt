use Rattle.memberlist_member.proofs.Ending.{ends_in_time}
use Rattle.memberlist_member.proofs.laws.every_suspicion_ends.Goals as goal

pub returns : goal.returns
returns c m name entry by waited loud shown is = ends_in_time m name entry by waited loud shown is
