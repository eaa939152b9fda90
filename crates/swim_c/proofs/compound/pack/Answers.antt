use Rattle.std.proofs.Common.{◌≡◌, ◌∙◌, List, length, ap, subst, arith}
use Rattle.swim_wire.specs.Canonical.{packets_bytes}
use Rattle.swim_wire.specs.Packet.{PacketValue}
use Rattle.swim_wire.specs.Texts.{DatagramText}
use Rattle.std.proofs.lemmas.Result.{err_from_is_err_and}
use Rattle.swim_wire.proofs.Asking.{same_fault}
use Rattle.swim_c.specs.Compound.{PackingAsks}
use Rattle.swim_c.proofs.BehindOneAnother.{length-packets}
use Rattle.swim_c.proofs.compound.pack.Goals as goal

pub encode_compound-requires : goal.encode_compound-requires
encode_compound-requires c =
    let each : length c.in_ok-packets.packets.items ≡ length c.args.lens.now =
    length-packets c.args.lens.now c.args.bytes.now c.in_ok-packets.packets.items c.in_ok-packets.ensures.reads in
    omega arith

pub returns-in_err-packets-clause-refused : goal.returns-in_err-packets-clause-refused
returns-in_err-packets-clause-refused c =
    let p = err_from_is_err_and c.from_residual.result c.from_residual.ensures.1 in
    rw (p.1, p.2) c.in_err-packets.ensures.refused

pub returns-in_err-compound-clause-refused : goal.returns-in_err-compound-clause-refused
returns-in_err-compound-clause-refused c =
    let p = err_from_is_err_and c.from_residual-in_err-compound.result c.from_residual-in_err-compound.ensures.1 in
    rw p.1 (λ other. absurd (other p.2))

pub returns-clause-packs : goal.returns-clause-packs
returns-clause-packs c =
    let made = c.in_ok-compound.ensures in
    record {
      packets = c.in_ok-packets.packets.items;
      texts = c.in_ok-packets.ensures.reads;
      text = subst (λ (ps : List PacketValue). DatagramText c.in_ok-compound.compound.items ps) c.deref.ensures.value made.text;
      canonical = made.canonical ∙ ap packets_bytes c.deref.ensures.value;
    }

pub returns-in_err-packets-clause-memory : goal.returns-in_err-packets-clause-memory
returns-in_err-packets-clause-memory c =
    let p = err_from_is_err_and c.from_residual.result c.from_residual.ensures.1 in
    rw (p.1, p.2) (λ is. c.in_err-packets.ensures.memory (same_fault _ _ is))

pub returns-in_err-compound-clause-memory : goal.returns-in_err-compound-clause-memory
returns-in_err-compound-clause-memory c = λ _. PackingAsks.all c.in_ok-packets.packets.items c.in_ok-packets.ensures.reads
