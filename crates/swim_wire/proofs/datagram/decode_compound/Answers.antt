use Rattle.std.proofs.Common.{◌≡◌, ◌<◌, ◌*◌, length, inl, rules}
use Rattle.swim_wire.proofs.DatagramAsking.{compound_asks}
use Rattle.swim_wire.proofs.Parts.{compound_none, lengths_cut, compound_parts}
use Rattle.swim_wire.proofs.datagram.decode_compound.Goals as goal

pub returns-in_default-clause-lists : goal.returns-in_default-clause-lists
returns-in_default-clause-lists c =
    let none : length c.args.body.now ≡ 0 = search rules in
    inl (compound_none _ none)

pub returns-in_default-split_at_checked-clause-lists : goal.returns-in_default-split_at_checked-clause-lists
returns-in_default-split_at_checked-clause-lists c =
    let lt : length c.in-Some.rest.now < 2 * c.from-lengths_len.result = search rules in
    inl (lengths_cut _ _ _ _ c.in-Some.ensures.cases.0 c.from-lengths_len.ensures lt)

pub returns-clause-lists : goal.returns-clause-lists
returns-clause-lists c =
    let parts = c.in-Some-split_at_checked.ensures.cases in
    rw (compound_parts _ _ _ _ _ _ c.in-Some.ensures.cases.0 c.from-lengths_len.ensures parts.0 parts.1
    parts.2) c.decode_parts.ensures.lists

pub returns-clause-memory : goal.returns-clause-memory
returns-clause-memory c = λ is.
    let parts = c.in-Some-split_at_checked.ensures.cases in
    compound_asks _ _ _ _ _ _ c.in-Some.ensures.cases.0 c.from-lengths_len.ensures parts.0 parts.1 parts.2
    (c.decode_parts.ensures.memory is)
