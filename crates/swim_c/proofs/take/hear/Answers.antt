use Rattle.std.proofs.Common.{ap}
use Rattle.swim_c.specs.declared.watching.Watched.{Watched}
use Rattle.swim_c.proofs.Faults.{take_done}
use Rattle.swim_c.proofs.Noting.{refused_news, refused_noted}
use Rattle.swim_c.proofs.take.hear.Goals as goal

pub returns-in-Err : goal.returns-in-Err
returns-in-Err c =
    let kept = c.in-Err.ensures.unchanged in
    rw c.refused.ensures (record {
      takes =
          take_done c.args.bytes.now c.number.result c.args.held.now.node c.take_datagram.new.held.node c.in-Err.fault c.number.ensures
          (ap (λ (h : Watched). h.node) kept) c.in-Err.ensures.refused c.in-Err.ensures.memory;
      news = refused_news c.number.result c.args.held.now c.take_datagram.new.held kept;
      noted = refused_noted c.number.result c.args.held.now c.take_datagram.new.held kept;
    })
