use Rattle.std.proofs.Common.{◌≡◌, ℕ, ◌+◌, ◌<◌, ◌∙◌, sym, drop, take, arith, get_or-drop}
use Rattle.std.specs.Prelude.{slice_index}
use Rattle.std.proofs.lemmas.List.{get_or-take}
use Rattle.memberlist_view.specs.Prefix.{eight_bytes}
use Rattle.memberlist_view.proofs.Fronts.{big_from-same}
use Rattle.memberlist_view.proofs.prefix.Prefix.new.Goals as goal

pub returns : goal.returns
unfolding eight_bytes
returns c =
    let name = c.args.name.now in
    let front = c.padded-front.result in
    let next : (k : ℕ) → k < 8 → slice_index (take 8 (drop 8 front)) k ≡ slice_index (drop 8 name) k =
    λ k high. get_or-take 8 (drop 8 front) k 0 high ∙ get_or-drop 8 front k 0
    ∙ c.padded-front.ensures (8 + k) (omega arith) ∙ sym (get_or-drop 8 name k 0) in
    record {
      bytes = λ k. (c.type_inv.name k).fits;
      high = c.read_u64.ensures ∙ big_from-same 0 8 front name (λ k low high. c.padded-front.ensures k (omega (arith, high)));
      low = c.read_u64-2.ensures ∙ big_from-same 0 8 (take 8 (drop 8 front)) (drop 8 name) (λ k low high. next k (omega (arith, high)));
    }
