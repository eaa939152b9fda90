use Rattle.std.proofs.Common.{ap, ◌∙◌, ◌++◌}
use Rattle.memberlist_wrap.specs.Bits.{bits}
use Rattle.memberlist_wrap.proofs.Weakening.{IfOk-weaker}
use Rattle.memberlist_compress.specs.Writing.{written}
use Rattle.memberlist_compress.proofs.Encodings.{Wrote-ends}
use Rattle.memberlist_compress.proofs.encoder.Encoder.finish.Goals as goal

pub returns : goal.returns
returns c =
    IfOk-weaker c.finish.result c.finish.ensures (λ made padded bytes wrote.
    Wrote-ends bytes made.items c.args.self _ wrote
    (c.in_ok-add.ensures.adds ∙ ap (λ n. written c.args.self.writer ++ bits n 257) c.width_after.ensures) padded)
