use Rattle.std.proofs.Common.{◌≡◌, ◌+◌, ◌-◌, ◌*◌, length, vec_len, vec_capacity}
use Rattle.memberlist_cipher.specs.Block.{expanded, schedule}
use Rattle.memberlist_cipher.proofs.schedule.round_keys.Given as goal

abbrev pub invariant-loop : goal.invariant-loop
invariant-loop l = record {
  size : length l.keys.words.items ≡ 4 * l.key_words + 4 * l.counter;
  len : vec_len l.keys.words ≡ 4 * l.key_words + 4 * l.counter;
  capacity : vec_capacity l.keys.words ≡ 112 + 16 * l.key_words;
  same : expanded l.key_words (28 + 3 * l.key_words - l.counter) l.keys.words.items ≡ schedule l.key;
}
