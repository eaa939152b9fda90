use Rattle.std.proofs.Common.{◌≡◌, ◌+◌, ◌++◌, drop, vec_len, vec_capacity}
use Rattle.memberlist_cipher.specs.Block.{plus_bytes}
use Rattle.memberlist_cipher.proofs.ctr.append_sum.Given as goal

abbrev pub invariant-loop-i : goal.invariant-loop-i
invariant-loop-i l = record {
  items : l.out.items ++ plus_bytes (drop l.i l.front) (drop l.i l.mask) ≡ l.fn.out.items ++ plus_bytes l.front l.mask;
  len : vec_len l.out ≡ vec_len l.fn.out + l.i;
  capacity : vec_capacity l.out ≡ vec_capacity l.fn.out;
}
