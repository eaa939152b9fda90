-- The closure keeps the names that the view shows.
use Rattle.std.proofs.Common.{rules}
use Rattle.std.proofs.lemmas.Fn.{filter_same}
use Rattle.std.specs.Option.{is_some}
use Rattle.memberlist_view.specs.Told.{entry_of}
use Rattle.memberlist_member.proofs.rounds.keep_shown.Goals as goal

pub returns : goal.returns
returns c = filter_same _ (λ name. is_some (entry_of c.args.view.now name)) _ (λ x b f k. search rules) _ _ c.retain.ensures.filtered
