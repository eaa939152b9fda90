use Rattle.std.proofs.Common.{◌≡◌, ◌+◌, ◌++◌, drop, vec_len, vec_capacity}
use Rattle.memberlist_cipher.proofs.appending.append.Given as goal

abbrev pub invariant-loop-byte : goal.invariant-loop-byte
invariant-loop-byte l = record {
  items : l.to.items ++ drop l.byte-index l.bytes ≡ l.fn.to.items ++ l.bytes;
  len : vec_len l.to ≡ vec_len l.fn.to + l.byte-index;
  capacity : vec_capacity l.to ≡ vec_capacity l.fn.to;
}
