use Rattle.std.proofs.Common.{◌≢◌, rules, arith}
use Rattle.capture.proofs.Steps.{file-unknown}
use Rattle.capture.proofs.reader.read_file.Goals as goal

pub returns-in_default : goal.returns-in_default
returns-in_default g c =
    let n0 : c.args.magic ≢ 2712847316 = first_of (search rules, omega arith) in
    let n1 : c.args.magic ≢ 3569595041 = first_of (search rules, omega arith) in
    let n2 : c.args.magic ≢ 2712812621 = first_of (search rules, omega arith) in
    let n3 : c.args.magic ≢ 1295823521 = first_of (search rules, omega arith) in
    let n4 : c.args.magic ≢ 168627466 = first_of (search rules, omega arith) in
    file-unknown c.args.magic n0 n1 n2 n3 n4
