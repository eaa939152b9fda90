use Rattle.std.proofs.Common.{rules}
use Rattle.swim_c.proofs.ViewCalls.{on_same_view}
use Rattle.swim_c.proofs.exports.views.swimtab_raw_view_accuser.Goals as goal

pub returns : goal.returns
returns c = on_same_view c.args.view.now.view c.put.new.self.view _ _ c.deref.result.now (search rules)
    (search rules) c.accuser_out-written.ensures
