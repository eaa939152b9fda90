use Rattle.std.proofs.Common.{◌≡◌, rules, ◌∙◌}
use Rattle.memberlist_view.specs.Told.{view_after}
use Rattle.swimwatch.proofs.Hearing.{on_ok}
use Rattle.swimwatch.proofs.listening.watch.Watch.hear_told.Goals as goal

pub returns : goal.returns
returns c =
    let old = c.args.self.now.listener.view in
    let kept : c.show.new.self.listener.view ≡ c.take_in.new.self.listener.view = search rules in
    let taken : c.take_in.new.self.listener.view ≡ view_after old c.args.heard.now = search rules in
    record { view = on_ok c.show.result (kept ∙ taken) }
