use Rattle.std.proofs.Common.{[], ◌∷◌, ◌++◌}
use Rattle.std.specs.Option.{option_map}
use Rattle.capture.specs.Captured.{captured}
use Rattle.capture.specs.FlowTexts.{flow_text}
use Rattle.capture.specs.Packets.{tcp_text}
use Rattle.swimwatch.specs.Connected.{past_of}
use Rattle.swimwatch.specs.Connected.TakesSegment.{takes}
use Rattle.swimwatch.proofs.Flowing.{on_ok}
use Rattle.swimwatch.proofs.listening.connections.Connections.segment.Goals as goal

pub returns : goal.returns
returns c segments packets read follows =
    let t = tcp_text c.args.segment.now in
    let now = segments ++ captured c.args.ends t ∷ [] in
    let silent = c.in_ok-close_silent.ensures segments packets read follows in
    let taken = c.in_ok-heard.ensures.of segments silent.1.0 in
    let heard = c.in_ok-heard.heard in
    on_ok c.hear.result (λ h. (
      h.2,
      (
        past_of segments packets read c.close_silent.new.self.flows c.close_silent.new.watch.listener.view,
        past_of now packets read c.take.new.self h.1,
        silent.0,
        takes c.take.new.self heard.taken (option_map flow_text heard.replaced) (option_map flow_text heard.complete) h.0 h.1
            c.in_ok-heard.ensures.hears c.take.ensures.others h.3 h.4,
        h.5,
      ),
      h.6,
    ))
    (c.hear.ensures now packets read c.close_silent.new.self.flows c.in_ok-heard.ensures.hears c.take.ensures.others taken.0
    silent.1.1 taken.1 taken.2)
