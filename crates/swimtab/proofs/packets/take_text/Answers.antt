use Rattle.std.proofs.Common.{◌≡◌, ◌<◌, Ok, length, rules}
use Rattle.std.proofs.lemmas.Result.{err_from_is_err_and}
use Rattle.hex.specs.Hex.{decode_of}
use Rattle.swimtab.proofs.LineByLine.{text_taken, text_refused, text_no_hex, text_told}
use Rattle.swimtab.proofs.packets.take_text.Goals as goal

pub returns-clause-takes : goal.returns-clause-takes
returns-clause-takes c =
    let decoded : decode_of c.args.text.now ≡ Ok c.deref.result.now = search rules in
    let some : 0 < length c.args.text.now = search rules in
    text_taken c.args.text.now c.deref.result.now c.args.table.now c.take_datagram.new.table
    c.take_datagram.result some decoded c.take_datagram.ensures.takes

pub returns-clause-refuses : goal.returns-clause-refuses
returns-clause-refuses c =
    let decoded : decode_of c.args.text.now ≡ Ok c.deref.result.now = search rules in
    let some : 0 < length c.args.text.now = search rules in
    text_refused c.args.text.now c.deref.result.now c.take_datagram.result some decoded c.take_datagram.ensures.refuses

pub returns-in_err-bytes-clause-tells : goal.returns-in_err-bytes-clause-tells
returns-in_err-bytes-clause-tells c =
    let p = err_from_is_err_and c.from_residual.result c.from_residual.ensures.1 in
    rw p.1 (text_no_hex c.args.text.now c.in_err-bytes.field-0.0 _ c.in_err-bytes.ensures.err p.2)

pub returns-clause-tells : goal.returns-clause-tells
returns-clause-tells c =
    let decoded : decode_of c.args.text.now ≡ Ok c.deref.result.now = search rules in
    text_told c.args.text.now c.deref.result.now c.take_datagram.result decoded c.take_datagram.ensures.tells
