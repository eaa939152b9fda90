use Rattle.std.proofs.Common.{◌≡◌, ℕ, List, ◌++◌, append_assoc, rules}
use Rattle.swim_wire.proofs.canonical.records.put_record.Goals as goal

-- eight pieces, one after another
eight : (base a b d e f g h i : List ℕ) {s t u v w x y z : List ℕ} → s ≡ base ++ a → t ≡ s ++ b → u ≡ t ++ d → v ≡ u ++ e
    → w ≡ v ++ f → x ≡ w ++ g → y ≡ x ++ h → z ≡ y ++ i → z ≡ base ++ (a ++ b ++ d ++ e ++ f ++ g ++ h ++ i)
eight base a b d e f g h i p q r s t u v w = rw (w, v, u, t, s, r, q, p) (simp append_assoc)

pub returns-clause-put : goal.returns-clause-put
returns-clause-put c =
    let same_inc : c.args.parts.now.inc ≡ c.from.result = search rules in
    let same_port : c.args.parts.now.port ≡ c.from-2.result = search rules in
    rw (same_inc, same_port)
    (eight _ _ _ _ _ _ _ _ _ c.put_map_len-next.ensures.put c.put_raw_pair-next.ensures.put c.put_uint_pair-next.ensures.put
    c.put_raw_pair-next-2.ensures.put c.put_raw_pair-next-3.ensures.put c.put_uint_pair-next-2.ensures.put
    c.put_uint_pair-next-3.ensures.put c.put_raw_pair.ensures.put)
