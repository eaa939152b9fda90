use Rattle.std.proofs.Common.{subst, sym}
use Rattle.serf_message.specs.declared.tags.Tag.{Tag}
use Rattle.serf_message.specs.Tags.{tag_value, IsShortTag}
use Rattle.serf_message.proofs.SpelledSteps.{each_seen}
use Rattle.serf_message.proofs.tags.write_each_tag.Goals as goal

pub write_tag-requires : goal.write_tag-requires
write_tag-requires c =
    let fits = each_seen IsShortTag tag_value c.args.tags.now c.loop-tag.tag-index c.tag-item.result c.requires c.loop-tag-test.true in
    subst (λ (x : Tag). IsShortTag (tag_value x)) (sym c.tag-item.is) fits
