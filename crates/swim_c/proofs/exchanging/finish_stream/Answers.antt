use Rattle.swim_c.proofs.Reported.{reported_finish, reported_news, reported_noted}
use Rattle.swim_c.proofs.exchanging.finish_stream.Goals as goal

pub returns : goal.returns
returns c =
    let finish = c.try_finish.ensures in let outcome = c.try_finish.result in let report = c.reported.result in
    let before = c.args.held.now in let after = c.try_finish.new.held in record {
      finishes = reported_finish c.args.stream.now outcome report before after c.reported.ensures finish.finishes finish.unchanged finish.refused;
      news = reported_news outcome report before after c.reported.ensures finish.news finish.unchanged;
      noted = reported_noted outcome report before after c.reported.ensures finish.noted finish.unchanged;
    }
