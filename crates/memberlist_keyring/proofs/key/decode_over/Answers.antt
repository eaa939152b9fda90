use Rattle.std.proofs.Common.{◌≡◌, ◌∙◌, take, Ok, ap, arith}
use Rattle.std.proofs.lemmas.List.{with_items_is}
use Rattle.base64.specs.Engines.{standard}
use Rattle.base64.specs.GeneralPurpose.{IsBytes, decode_of}
use Rattle.memberlist_keyring.proofs.Keys.{all_bytes, decided, undecoded}
use Rattle.memberlist_keyring.proofs.key.decode_over.Goals as goal

pub returns-in-Ok-clause-key : goal.returns-in-Ok-clause-key
returns-in-Ok-clause-key c =
    let text : IsBytes c.args.text.now = λ i. let fits = c.type_inv.text i in omega arith in
    let key : IsBytes c.truncate.new.self.items = all_bytes c.truncate.new.self.items c.type_inv.bytes in
    let n = c.in-Ok.len in
    let whole = with_items_is c.args.bytes.now c.decode_slice_unchecked.new.output
    (c.decode_slice_unchecked.auto.output ∙ c.deref_mut.ensures.len) in
    let items : c.truncate.new.self.items ≡ take n c.decode_slice_unchecked.new.output = c.truncate.ensures.items ∙ ap (take n) whole in
    let decoded : decode_of standard c.args.text.now ≡ Ok c.truncate.new.self.items = rw items c.in-Ok.ensures.ok.0 in
    decided c.args.text.now c.truncate.new.self.items c.is_key.result text key decoded (rw c.deref.ensures.value at c.is_key.ensures)

pub returns-in-Err-clause-key : goal.returns-in-Err-clause-key
returns-in-Err-clause-key c = undecoded c.args.text.now c.in-Err.field-0 c.in-Err.ensures.err
