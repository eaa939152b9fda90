use Rattle.std.proofs.Common.{◌≡◌, rules}
use Rattle.swim_c.specs.Views.{MessageTold}
use Rattle.swim_c.proofs.ViewCalls.{on_view}
use Rattle.swim_c.proofs.exports.views.swimtab_raw_view_take.Goals as goal

pub returns : goal.returns
returns c =
    let r = c.take_message-told.result in
    on_view c.args.view.now.view c.put.new.self.view
    ((r ≡ record { status = 64; event = 0 }) × (c.take_message-told.new.member ≡ c.args.member.now))
    (λ before after. MessageTold c.args.time c.args.message.now r.status r.event before after
    c.args.member.now c.take_message-told.new.member)
    c.deref_mut.result.now (record { view = c.take_message-told.new.view }) (search rules) (search rules) c.take_message-told.ensures
