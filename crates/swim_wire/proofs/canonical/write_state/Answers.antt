use Rattle.std.proofs.Common.{◌≡◌, ℕ, List, ◌++◌, length, take, arith}
use Rattle.std.proofs.lemmas.Grind.{common_steps}
use Rattle.swim_wire.proofs.SpelledTexts.{StateText-canonical}
use Rattle.swim_wire.proofs.canonical.write_state.Goals as goal

-- what was there, and what was written up to the end
appended : (old slice new rest bytes : List ℕ) (start n end : ℕ) → take end new ≡ take start slice ++ bytes → take start slice ≡ old
    → end ≡ n → length new ≡ n → take n (new ++ rest) ≡ old ++ bytes
appended old slice new rest bytes start n end put kept at full = grind (arith, common_steps)

pub returns-in_err-resize-clause-text : goal.returns-in_err-resize-clause-text
returns-in_err-resize-clause-text c claim named told = StateText-canonical claim (c.state_len.ensures.legal claim named told)

pub returns-clause-ok : goal.returns-clause-ok
returns-clause-ok c claim named told =
    let kept : take c.len-start.result c.deref_mut.result.now ≡ c.args.out.now.items = grind (arith, common_steps) in
    let full : length c.put_state.new.out ≡ c.resize.new.self.len = grind (arith, common_steps) in
    let end : c.put_state.result ≡ c.resize.new.self.len =
    omega (arith, c.put_state.ensures.end, c.state_len.ensures.told, c.in_ok-resize.ensures.len) in
    rw (← c.put_state.ensures.state claim named told) (appended _ _ _ _ _ _ _ _ c.put_state.ensures.put kept end full)

pub returns-clause-text : goal.returns-clause-text
returns-clause-text c claim named told = StateText-canonical claim (c.state_len.ensures.legal claim named told)
