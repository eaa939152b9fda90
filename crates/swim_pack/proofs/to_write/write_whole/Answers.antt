use Rattle.std.proofs.Common.{take, drop, sym, subst, take-append-drop, rules}
use Rattle.std.specs.Io.KnownBytes.{Appends}
use Rattle.std.proofs.KnownBytes.{Appends-trans, Appends-kept}
use Rattle.std.proofs.lemmas.List.{take_rest}
use lib.Seq.{take-add}
use Rattle.swim_pack.proofs.to_write.write_whole.Goals as goal

pub returns-in-None-clause-front : goal.returns-in-None-clause-front
returns-in-None-clause-front g c = (
  take c.loop-sent.sent c.args.bytes.now,
  drop c.loop-sent.sent c.args.bytes.now,
  sym (take-append-drop c.loop-sent.sent c.args.bytes.now),
  Appends-kept _ _ _ _ c.loop-sent.invariant.2 c.in-None.ensures.failed,
)

pub loop-sent-preserved : goal.loop-sent-preserved
loop-sent-preserved g c = (
  search rules,
  search rules,
  subst (Appends _ _) (sym (take-add c.loop-sent.sent c.in-Some.count c.args.bytes.now))
      (Appends-trans _ _ _ _ _ c.loop-sent.invariant.2 (rw (take_rest c.args.bytes.now c.loop-sent.sent) at c.in-Some.ensures.taken)),
)
