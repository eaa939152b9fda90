use Rattle.std.proofs.Common.{◌≡◌, ◌<◌, ◌+◌, [], ◌∷◌, ◌++◌, List, length, Err, refl, ap, subst, arith, rules}
use Rattle.std.proofs.lemmas.Result.{err_from_is_err_and}
use Rattle.swim_wire.specs.Packet.{PacketValue}
use Rattle.swim_wire.proofs.Asking.{PacketText-asks}
use Rattle.swim_c.specs.Compound.PacketTexts.{none}
use Rattle.swim_c.proofs.BehindOneAnother.{ReadTo, ReadTo-more, cut_off, no_packet, next_asks, left_over, in_parts}
use Rattle.swim_c.proofs.Faults.{packet_memory}
use Rattle.swim_c.proofs.compound.read_packets.Goals as goal

pub loop-len-init : goal.loop-len-init
loop-len-init c =
    subst (λ (ps : List PacketValue). ReadTo c.args.lens.now c.args.bytes.now 0 ps c.args.bytes.now) (search rules)
    (record { front = []; texts = none; parts = refl })

pub returns-in_default-clause-refused : goal.returns-in_default-clause-refused
returns-in_default-clause-refused c =
    λ _.
    cut_off c.args.lens.now c.args.bytes.now c.loop-len.len-index _ _ c.loop-len.packets.items c.loop-len.rest.now
    c.loop-len-test.true refl c.loop-len.invariant c.in_default.ensures.cases

pub returns-in_err-packet-clause-refused : goal.returns-in_err-packet-clause-refused
returns-in_err-packet-clause-refused c =
    let p = err_from_is_err_and c.from_residual.result c.from_residual.ensures.1 in
    let parts = c.in-Some.ensures.cases in
    let why = c.in_err-packet.ensures in
    rw (p.1, p.2)
    (λ no_memory. no_packet c.args.lens.now c.args.bytes.now c.loop-len.len-index _ _
    c.loop-len.packets.items c.loop-len.rest.now c.in-Some.text.now c.in-Some.behind.now _ c.loop-len-test.true refl c.loop-len.invariant
    (in_parts _ _ _ _ parts.1 parts.2) parts.3 (why.exact no_memory) why.reason (λ e. why.no_fault (ap Err e)))

pub loop-len-preserved : goal.loop-len-preserved
loop-len-preserved c =
    let parts = c.in-Some.ensures.cases in
    let grown : c.loop-len.packets.items ++ c.in_ok-packet.packet ∷ [] ≡ c.push.new.self.items = search rules in
    subst (λ (ps : List PacketValue). ReadTo c.args.lens.now c.args.bytes.now (c.loop-len.len-index + 1) ps c.in-Some.behind.now) grown
    (ReadTo-more c.args.lens.now c.args.bytes.now c.loop-len.len-index _ _
    c.loop-len.packets.items c.loop-len.rest.now c.in-Some.text.now c.in-Some.behind.now
    c.in_ok-packet.packet c.loop-len-test.true refl c.loop-len.invariant
    (in_parts _ _ _ _ parts.1 parts.2) parts.3 c.in_ok-packet.ensures.reads)

pub returns-else-is_empty-clause-refused : goal.returns-else-is_empty-clause-refused
returns-else-is_empty-clause-refused c =
    let some : 0 < length c.loop-len.rest.now = search rules in
    λ _.
    left_over c.args.lens.now c.args.bytes.now c.loop-len.len-index c.loop-len.packets.items c.loop-len.rest.now
    c.loop-len-test.false c.loop-len.invariant (λ e. let zero = ap length e in omega (arith, some, zero))

pub returns-in_err-packet-clause-memory : goal.returns-in_err-packet-clause-memory
returns-in_err-packet-clause-memory c =
    let p = err_from_is_err_and c.from_residual.result c.from_residual.ensures.1 in
    let parts = c.in-Some.ensures.cases in
    let why = c.in_err-packet.ensures in
    rw (p.1, p.2)
    (λ is. next_asks c.args.lens.now c.args.bytes.now c.loop-len.len-index _ _
    c.loop-len.packets.items c.loop-len.rest.now c.in-Some.text.now c.in-Some.behind.now c.loop-len-test.true refl c.loop-len.invariant
    (in_parts _ _ _ _ parts.1 parts.2) parts.3 (packet_memory _ _ is why.reason))

pub returns-in_err-map_err-clause-memory : goal.returns-in_err-map_err-clause-memory
returns-in_err-map_err-clause-memory c =
    let parts = c.in-Some.ensures.cases in
    λ _. next_asks c.args.lens.now c.args.bytes.now c.loop-len.len-index _ _
    c.loop-len.packets.items c.loop-len.rest.now c.in-Some.text.now c.in-Some.behind.now c.loop-len-test.true refl c.loop-len.invariant
    (in_parts _ _ _ _ parts.1 parts.2) parts.3 (PacketText-asks _ c.in_ok-packet.packet c.in_ok-packet.ensures.reads)
