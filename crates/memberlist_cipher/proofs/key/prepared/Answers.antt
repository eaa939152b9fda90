use Rattle.std.proofs.Common.{refl, ap, ◌∙◌}
use Rattle.std.specs.Int.{w128, from_be_bytes}
use Rattle.memberlist_cipher.proofs.Prepared.{prepared_is}
use Rattle.memberlist_cipher.proofs.Scheduling.{scheduled_is}
use Rattle.memberlist_cipher.proofs.key.prepared.Goals as goal

pub invariant_of-result : goal.invariant_of-result
invariant_of-result c =
    prepared_is c.args.bytes.now _ _ _ _ c.requires c.in_ok-round_keys.ensures.words c.deref.ensures.value refl
    (c.in_ok-ghash_key.ensures ∙ c.from_be_bytes-h.ensures ∙ ap (from_be_bytes w128) c.cipher.ensures)

pub returns : goal.returns
returns c = scheduled_is c.args.bytes.now _ c.requires c.in_ok-round_keys.ensures.words
