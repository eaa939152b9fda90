use Rattle.std.proofs.Common.{◌≡◌, rules}
use Rattle.swim_table.specs.Join.{Join}
use Rattle.swim_table.specs.Table.{IsLegalTable}
use Rattle.swim_c.proofs.Noting.{joined_names}
use Rattle.swim_c.proofs.watching.with_names.Goals as goal

pub returns-in-Some-Some : goal.returns-in-Some-Some
returns-in-Some-Some c =
    let also = c.in-Some-Some.field-0-1 in
    let legal : IsLegalTable also.names = search rules in
    let is : c.join_in.new.self ≡ Join c.in-Some-Some.noted also.names = search rules in
    rw (c.in-Some-Some.is-0, c.in-Some-Some.is-1)
    (joined_names c.in-Some-Some.noted c.join_in.new.self also c.len.ensures.legal legal is)
