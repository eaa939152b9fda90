use Rattle.std.proofs.Common.{rules}
use Rattle.swim_c.specs.ViewMembers.{AccuserDone}
use Rattle.swim_c.proofs.view.query.accuser_out.Goals as goal

pub returns-in-Some : goal.returns-in-Some
returns-in-Some c = AccuserDone.known c.in-Some.entry.now (search rules) c.copy_accuser.ensures
