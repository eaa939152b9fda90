use Rattle.std.proofs.Common.{ℕ, List, ◌<◌, ◌^◌, length, ap, arith, Vec, Global}
use Rattle.serf_message.proofs.SpelledSteps.{each_seen}
use Rattle.serf_message.proofs.write.write_each_text.Goals as goal

pub write_raw-requires : goal.write_raw-requires
write_raw-requires c =
    let fits = each_seen (λ (x : List ℕ). length x < 2 ^ 16)
    (λ (v : Vec ℕ Global). v.items) c.args.list.now c.loop-value.value-index c.value-item.result
    c.requires c.loop-value-test.true in
    let here = ap (λ (v : Vec ℕ Global). length v.items) c.value-item.is in
    omega (arith, fits, here, ap length c.deref.ensures.value)
