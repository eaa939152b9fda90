use Rattle.std.proofs.Common.{[], ◌∷◌, arith}
use Rattle.memberlist_wrap.specs.Wrapping.Wrapper.{compression}
use Rattle.memberlist_compress.specs.Compressed.{IsCompression}
use Rattle.memberlist_compress.proofs.Messages.{sends_made, sends_message}
use Rattle.memberlist_compress.proofs.message.compressed_if_shorter.Goals as goal

pub returns-then-len-clause-sends : goal.returns-then-len-clause-sends
returns-then-len-clause-sends c =
    let made = c.in_ok-made.made.items in
    let is : IsCompression made c.args.message.items = rw c.deref.ensures.value at c.in_ok-made.ensures.compresses in
    sends_made c.args.message.items made (omega arith) is (omega arith)

pub returns-then-len-clause-wraps : goal.returns-then-len-clause-wraps
returns-then-len-clause-wraps c limit within =
    let message = rw c.deref.ensures.value at c.in_ok-made.ensures.wraps in
    (compression ∷ [], omega arith, message limit within)

pub returns-else-len-clause-sends : goal.returns-else-len-clause-sends
returns-else-len-clause-sends c =
    let made = c.in_ok-made.made.items in
    let is : IsCompression made c.args.message.items = rw c.deref.ensures.value at c.in_ok-made.ensures.compresses in
    sends_message c.args.message.items made (omega arith) is (omega arith)
