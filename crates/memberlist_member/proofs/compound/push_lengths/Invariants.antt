use Rattle.std.proofs.Common.{◌≡◌, ◌++◌, take}
use Rattle.std.specs.List.{flat_map}
use Rattle.memberlist_member.specs.Compound.{length_bytes}
use Rattle.memberlist_member.proofs.compound.push_lengths.Given as goal

abbrev pub invariant-loop-part : goal.invariant-loop-part
invariant-loop-part l =
    l.message.items ≡ l.fn.message.items ++ flat_map (λ p. length_bytes p.items) (take l.part-index l.parts)
