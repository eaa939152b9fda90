use Rattle.std.proofs.Common.{◌≡◌, ◌++◌, take, map}
use Rattle.std.specs.List.{flat_map}
use Rattle.serf_message.specs.Tags.{tag_text, tag_value}
use Rattle.serf_message.proofs.tags.write_each_tag.Given as goal

abbrev pub invariant-loop-tag : goal.invariant-loop-tag
invariant-loop-tag l = l.out.items ≡ l.initial.out.items ++ flat_map tag_text (map tag_value (take l.tag-index l.tags))
