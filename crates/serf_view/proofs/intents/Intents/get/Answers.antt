use Rattle.std.proofs.Common.{ap, ◌∙◌}
use Rattle.serf_view.specs.Intents.{intent_of}
use Rattle.serf_view.proofs.Keeping.{found}
use Rattle.serf_view.proofs.intents.Intents.get.Goals as goal

pub returns : goal.returns
returns c =
    c.copied.ensures ∙ (c.get.ensures.value
    ∙ (found c.self.inside.known.entries c.args.name.now ∙ ap (λ es. intent_of es c.args.name.now) c.self.view_is))
