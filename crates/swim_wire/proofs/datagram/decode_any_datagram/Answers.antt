use Rattle.std.proofs.Common.{◌≡◌, eqb, false, inl, length, rules}
use Rattle.swim_wire.proofs.Parts.{no_bytes, no_compound}
use Rattle.swim_wire.proofs.datagram.decode_any_datagram.Goals.{in_default-via-in-Some+else-first-eq-COMPOUND_MESSAGE}
use Rattle.swim_wire.proofs.datagram.decode_any_datagram.Goals.{in_default-via-in_default}
use Rattle.swim_wire.proofs.datagram.decode_any_datagram.Goals as goal

pub returns-in_default-clause-lists : goal.returns-in_default-clause-lists
returns-in_default-clause-lists c = elim c.in_default.branch [
  | in_default-via-in-Some+else-first-eq-COMPOUND_MESSAGE w ↦
      let other : eqb w.in-Some.first.now 7 ≡ false = search rules in
      rw (no_compound _ _ _ w.in-Some.ensures.cases.0 other) c.decode_alone.ensures.lists
  | in_default-via-in_default w ↦
      let none : length c.args.bytes.now ≡ 0 = search rules in
      rw (no_bytes _ none) c.decode_alone.ensures.lists
]

pub returns-in_default-clause-memory : goal.returns-in_default-clause-memory
returns-in_default-clause-memory c = λ is. inl (c.decode_alone.ensures.memory is)
