use Rattle.std.proofs.Common.{◌<◌, length, arith}
use Rattle.memberlist_compress.proofs.Encodings.{Waits-found, Waits-adds, Waits-resets}
use Rattle.memberlist_compress.proofs.encoder.Encoder.take.Goals as goal
use Rattle.memberlist_compress.proofs.encoder.Encoder.take.Goals.{then-not-branch, else-not-branch}

pub returns-in-Code : goal.returns-in-Code
returns-in-Code c taken coming waits =
    Waits-found taken coming c.args.code c.args.byte c.in-Code.longer c.args.self.now c.ranges.byte.fits c.in-Code.ensures waits

pub returns-after-not-branch : goal.returns-after-not-branch
returns-after-not-branch c taken coming waits =
    let inside : c.in-Slot.place < length c.args.self.now.table = omega (arith, c.in-Slot.ensures) in
    elim c.if-not-branch.branch [
      | then-not-branch w ↦
          rw (w.self-is, w.put.ensures, c.from.ensures)
          (Waits-adds taken coming c.args.code c.args.byte c.in-Slot.place c.args.self.now c.write_word.new.self
          c.ranges.byte.fits inside (rw w.if-not-branch.true at c.in_ok-write_word-in-Slot.ensures) waits)
      | else-not-branch w ↦
          rw (w.self-is, c.from.ensures)
          (Waits-resets taken coming c.args.code c.args.byte c.args.self.now c.write_word.new.self
          c.ranges.byte.fits (rw w.if-not-branch.false at c.in_ok-write_word-in-Slot.ensures) waits)
    ]
