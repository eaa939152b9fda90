use Rattle.std.proofs.Common.{Err, ap}
use Rattle.swim_c.specs.Forms.{wanted, bytes_in}
use Rattle.swim_c.specs.NewBytes.{OfferedNew}
use Rattle.swim_c.proofs.Filled.{filled, unfilled}
use Rattle.swim_c.proofs.filling.offer_new.Goals as goal

pub returns-in-Ok-kept_dump : goal.returns-in-Ok-kept_dump
returns-in-Ok-kept_dump c =
    let w = wanted c.in-Ok.form c.args.user.now in
    OfferedNew.in_form w c.in-Ok.ensures.ok
    (filled (bytes_in w c.args.table.now c.args.join) c.in-Ok-kept_dump.kept.value.bytes c.args.buffer.now
    c.fill.new.self _ c.in-Ok-kept_dump.ensures.bytes c.fill.ensures)

pub returns-in-Err-kept_dump : goal.returns-in-Err-kept_dump
returns-in-Err-kept_dump c =
    let w = wanted c.in-Ok.form c.args.user.now in
    OfferedNew.in_form w c.in-Ok.ensures.ok
    (unfilled w c.args.table.now (bytes_in w c.args.table.now c.args.join) c.args.buffer.now c.in-Err-kept_dump.fault
    c.number.result c.number.ensures (λ e. c.in-Err-kept_dump.ensures.too_many (ap Err e)))
