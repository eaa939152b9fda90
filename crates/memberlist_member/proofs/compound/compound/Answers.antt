use Rattle.std.proofs.Common.{map, ap, ◌∙◌, length}
use Rattle.std.specs.List.{flat_map}
use Rattle.memberlist_member.specs.Compound.{length_bytes}
use Rattle.memberlist_member.proofs.Compounding.{compound_joined, compound_length, joined}
use Rattle.memberlist_member.proofs.compound.compound.Goals as goal

pub returns-clause-bytes : goal.returns-clause-bytes
returns-clause-bytes c =
    let parts = c.args.parts.now in
    compound_joined (λ p. p.items) parts c.push_parts.new.message.items
    (joined c.new-message.result.items c.push.new.self.items c.push-2.new.self.items c.push_lengths.new.message.items
    c.push_parts.new.message.items (flat_map (λ p. length_bytes p.items) parts) (flat_map (λ p. p.items) parts) (length parts)
    c.new-message.ensures.items c.in_ok-push.ensures.items c.in_ok-push-2.ensures.items c.in_ok-push_lengths.ensures
    c.in_ok-push_parts.ensures)

pub returns-clause-len : goal.returns-clause-len
returns-clause-len c = ap length (returns-clause-bytes c) ∙ compound_length (map (λ p. p.items) c.args.parts.now)
