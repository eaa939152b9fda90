use Rattle.std.proofs.Common.{◌≡◌, ◌+◌, ◌++◌, length, vec_len, vec_capacity}
use Rattle.memberlist_cipher.specs.Block.{cipher}
use Rattle.memberlist_cipher.specs.Gcm.{counted_all, ctr}
use Rattle.memberlist_cipher.proofs.ctr.append_ctr.Given as goal

abbrev pub invariant-loop-rest : goal.invariant-loop-rest
invariant-loop-rest l =
    let f = cipher l.words l.count in record {
      bytes : l.to.items ++ counted_all f l.nonce l.counter l.rest ≡ l.fn.to.items ++ ctr f l.nonce l.bytes;
      len : vec_len l.to + length l.rest ≡ vec_len l.fn.to + length l.bytes;
      capacity : vec_capacity l.to ≡ vec_capacity l.fn.to;
    }

abbrev pub decreases-loop-rest : goal.decreases-loop-rest
decreases-loop-rest l = length l.rest

abbrev pub invariant-loop-rest-2 : goal.invariant-loop-rest-2
invariant-loop-rest-2 l =
    let f = cipher l.words l.count in record {
      bytes : l.to.items ++ counted_all f l.nonce l.counter l.rest ≡ l.fn.to.items ++ ctr f l.nonce l.bytes;
      len : vec_len l.to + length l.rest ≡ vec_len l.fn.to + length l.bytes;
      capacity : vec_capacity l.to ≡ vec_capacity l.fn.to;
    }

abbrev pub decreases-loop-rest-2 : goal.decreases-loop-rest-2
decreases-loop-rest-2 l = length l.rest
