use Rattle.std.proofs.Common.{length, ap, ◌∙◌}
use Rattle.memberlist_message.specs.Compounds.{PartsValue}
use Rattle.memberlist_message.proofs.Divided.{length_of_lengths, all_truncated}
use Rattle.memberlist_message.proofs.parts.Parts.untaken.Goals as goal

pub returns-clause-untaken : goal.returns-clause-untaken
returns-clause-untaken c =
    length_of_lengths c.self.inside.lens.now ∙ ap (λ (p : PartsValue). length p.lens) c.self.view_is

pub returns-clause-truncated : goal.returns-clause-truncated
returns-clause-truncated c = λ e.
    length_of_lengths c.self.inside.lens.now ∙ ap (λ (p : PartsValue). length p.lens) c.self.view_is ∙ all_truncated _ _ e
