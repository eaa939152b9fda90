use Rattle.std.proofs.Common.{◌∙◌}
use Rattle.swim_claim.specs.declared.claim.Claim.TheVariants.{Suspect}
use Rattle.swim_c.proofs.Noting.{all_named, only_one_name}
use Rattle.swim_c.proofs.watching.Watched.own_name.Goals as goal

pub returns-clause-names : goal.returns-clause-names
returns-clause-names c =
    let claim = Suspect c.in_ok-name.name 0 in
    all_named c.with_room.result c.in_ok-names.names c.args.self.now.node.name c.with_room.ensures.names
    (only_one_name c.in_ok-names.names claim c.args.self.now.node.name c.in_ok-names.ensures
    (c.in_ok-name.ensures ∙ c.name.ensures.name))
