use Rattle.swim_c.proofs.Pieces.{stopped}
use Rattle.swim_c.proofs.progress.Progress.read_on.Goals as goal

pub returns-in-Err-clause-done : goal.returns-in-Err-clause-done
returns-in-Err-clause-done c = λ at.
    let why = c.in-Err.ensures in
    stopped c.args.bytes.now c.read_all.new.self c.in-Err.fault c.number.result c.number.ensures (why.lacks at) why.stops
