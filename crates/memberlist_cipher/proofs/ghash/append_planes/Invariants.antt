use Rattle.std.proofs.Common.{◌≡◌, ◌+◌, ◌++◌, map, vec_len, vec_capacity}
use Rattle.std.specs.List.{range_with_len}
use Rattle.memberlist_cipher.specs.Products.{plane_byte}
use Rattle.memberlist_cipher.proofs.ghash.append_planes.Given as goal

abbrev pub invariant-loop-at : goal.invariant-loop-at
invariant-loop-at l = record {
  items : l.planes.items ≡ l.fn.planes.items ++ map (plane_byte l.v) (range_with_len 0 l.at);
  len : vec_len l.planes ≡ vec_len l.fn.planes + l.at;
  capacity : vec_capacity l.planes ≡ vec_capacity l.fn.planes;
}
