-- What was taken is written, but for the last word.
use Rattle.std.proofs.Common.{◌≡◌, ℕ, List, ◌++◌, drop}
use Rattle.memberlist_compress.specs.Coding.{Waits}
use Rattle.memberlist_compress.proofs.encoder.Encoder.write.Given as goal

abbrev pub invariant-loop-byte : goal.invariant-loop-byte
invariant-loop-byte l =
    let coming = drop l.byte-index l.rest in
    (taken : List ℕ) × (l.bytes ≡ taken ++ coming) × Waits taken coming l.code l.self
