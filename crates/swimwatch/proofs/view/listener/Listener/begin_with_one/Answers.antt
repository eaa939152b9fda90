use Rattle.std.proofs.Common.{◌≡◌, ap, ◌∙◌}
use Rattle.memberlist_view.specs.Told.{view_after}
use Rattle.swimwatch.proofs.view.listener.Listener.begin_with_one.Goals as goal

pub returns : goal.returns
returns c =
    c.in_ok-hear.ensures.view
    ∙ ap (λ said. view_after c.args.self.now.view (record { time = c.args.time; said = said })) c.in_ok-said.ensures
