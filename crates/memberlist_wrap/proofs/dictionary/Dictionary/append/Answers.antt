use Rattle.std.proofs.Common.{◌≡◌, ℕ, ◌+◌, ◌-◌, ◌<◌, ◌≤◌, ◌⊎◌, arith}
use Rattle.memberlist_wrap.proofs.dictionary.Dictionary.append.Goals as goal

of_place : (code : ℕ) → (code < 256) ⊎ (258 ≤ code) → 256 ≤ code → 258 + (code - 258) ≡ code
of_place code known high = omega arith

pub returns-else-code-lt256-clause-appends : goal.returns-else-code-lt256-clause-appends
returns-else-code-lt256-clause-appends c =
    rw (← of_place c.args.code c.requires.no_sign c.if-code-lt256.false) c.append_again.ensures.appends

pub returns-else-code-lt256-clause-large : goal.returns-else-code-lt256-clause-large
returns-else-code-lt256-clause-large c f =
    rw (← of_place c.args.code c.requires.no_sign c.if-code-lt256.false) (c.append_again.ensures.large f)
