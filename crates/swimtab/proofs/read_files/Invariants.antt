use Rattle.std.proofs.Common.{◌≡◌, length}
use Rattle.swimtab.proofs.read_files.Given as goal

abbrev pub invariant-loop-place : goal.invariant-loop-place
invariant-loop-place l = length l.files.items ≡ l.place
