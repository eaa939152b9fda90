use Rattle.std.proofs.Common.{arith}
use Rattle.serde_json.specs.View.{view}
use Rattle.memberlist_keyring.specs.KeyFile.{ItemHolds}
use Rattle.memberlist_keyring.proofs.Holding.{HoldInOrder-more}
use Rattle.memberlist_keyring.proofs.Files.{no_texts, item_holds, wrong_text}
use Rattle.memberlist_keyring.proofs.key_file.keys_of_items.Goals as goal

pub returns-in_default-clause-err : goal.returns-in_default-clause-err
returns-in_default-clause-err c = no_texts view c.args.items.now c.loop-i.i c.index-items-i.result
    (omega arith) c.index-items-i.is c.in_default.ensures

pub returns-then-not-branch-clause-err : goal.returns-then-not-branch-clause-err
returns-then-not-branch-clause-err c =
    let lacks = rw c.if-not-branch.true at c.in_ok-add_text.ensures.adds in
    wrong_text view c.args.items.now c.loop-i.i c.index-items-i.result c.loop-i.keys.items c.in-Some.text.now
    c.as_bytes.result.now (omega arith) c.index-items-i.is c.loop-i.invariant
    c.in-Some.ensures c.as_bytes.ensures.value lacks

pub loop-i-preserved : goal.loop-i-preserved
loop-i-preserved c =
    let good = rw c.if-not-branch.false at c.in_ok-add_text.ensures.adds in
    rw good.2
    (HoldInOrder-more ItemHolds view c.args.items.now c.loop-i.i c.index-items-i.result c.loop-i.keys.items _ (omega arith)
    c.index-items-i.is c.loop-i.invariant
    (item_holds (view c.index-items-i.result) c.in-Some.text.now c.as_bytes.result.now good.0
    c.in-Some.ensures c.as_bytes.ensures.value good.1))
