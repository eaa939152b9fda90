use Rattle.std.proofs.Common.{◌≡◌, ℕ, List, ◌++◌, length}
use Rattle.swim_wire.specs.Streams.{StateTexts}
use Rattle.swim_wire.specs.Texts.{HeaderText}
use Rattle.memberlist_member.proofs.member.tables.read_stream.Given as goal

abbrev pub invariant-loop : goal.invariant-loop
invariant-loop l = (head records : List ℕ) × (l.bytes ≡ head ++ records ++ l.inlet) × HeaderText head l.header
    × StateTexts records l.claims.items × (length l.claims.items ≡ l.counter)
