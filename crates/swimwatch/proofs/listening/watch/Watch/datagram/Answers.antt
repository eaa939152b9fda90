use Rattle.std.proofs.Common.{◌≡◌, rules}
use Rattle.std.proofs.Math.Path.{subst}
use Rattle.swimwatch.specs.Datagrams.{CarriesMessages, IsOfCluster}
use Rattle.swimwatch.specs.Views.{HearsDatagram, HearsMessages}
use Rattle.swimwatch.proofs.Flowing.{on_ok}
use Rattle.swimwatch.proofs.listening.watch.Watch.datagram.Goals as goal

pub returns-in_ok-count_bytes-in-Read : goal.returns-in_ok-count_bytes-in-Read
returns-in_ok-count_bytes-in-Read c =
    let messages = c.in-Read.messages.read.items in
    let of : IsOfCluster c.args.opening.label.now c.args.payload.now = search rules in
    let carried : CarriesMessages c.args.opening.clear c.args.opening.keys.now c.args.payload.now messages = search rules in
    let same : c.count_bytes.new.self.listener.view ≡ c.args.self.now.listener.view = search rules in
    record {
      hears = on_ok c.messages.result (λ h. HearsDatagram.messages messages of carried
          (subst (λ v. HearsMessages c.args.sent.time messages messages v c.messages.new.self.listener.view) same h))
          c.messages.ensures.hears;
    }
