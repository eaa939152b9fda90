-- The output is what the codes so far mean, and the held bits are fewer than the next code has.
use Rattle.std.proofs.Common.{◌<◌, ◌≤◌, ◌++◌, length, drop}
use Rattle.memberlist_wrap.specs.Bits.{bits_of}
use Rattle.memberlist_wrap.specs.Lzw.{width, CodesGive}
use Rattle.memberlist_wrap.proofs.lzw.read_codes.Given as goal

abbrev pub invariant-loop-i : goal.invariant-loop-i
invariant-loop-i l = record {
  few : length l.held < width (length l.words.words);
  within : length l.words.output ≤ l.limit;
  reaches : CodesGive l.bytes l.words.output l.words.words (l.held ++ bits_of (drop l.i l.bytes));
}
