use Rattle.std.proofs.Common.{◌∙◌, ap}
use Rattle.std.proofs.lemmas.Result.{on_ok_weaker}
use Rattle.memberlist_view.specs.Told.{view_after}
use Rattle.swimwatch.specs.Told.{ToldText, heard_of}
use Rattle.swimwatch.proofs.listening.watch.Watch.hear_packet.Goals as goal

pub returns : goal.returns
returns c =
    on_ok_weaker c.hear.result
    (λ is. is ∙ ap (λ (t : ToldText). view_after c.args.self.now.listener.view (heard_of c.args.sent.time t)) c.of_packet-told.ensures)
    c.hear.ensures.view
