use Rattle.swim_table.proofs.Escapes.{kept_bytes}
use Rattle.swim_table.proofs.laws.visible_bytes_stand.Goals as goal

pub returns : goal.returns
returns c = kept_bytes
