use Rattle.std.proofs.Common.{take, map}
use Rattle.swimtab.specs.Files.{AreShortFiles}
use Rattle.swimtab.proofs.dumps.check_lengths.Given as goal

abbrev pub invariant-loop-place : goal.invariant-loop-place
invariant-loop-place l = AreShortFiles (take l.place (map (λ file. file.items) l.files))
