use Rattle.memberlist_cipher.specs.States.{IsAfter}
use Rattle.memberlist_cipher.proofs.block.cipher_four.Given as goal

abbrev pub invariant-loop-round : goal.invariant-loop-round
invariant-loop-round l = record {
  first : IsAfter l.fn.words l.round l.fn.blocks.0 l.a;
  second : IsAfter l.fn.words l.round l.fn.blocks.1 l.b;
  third : IsAfter l.fn.words l.round l.fn.blocks.2 l.c;
  fourth : IsAfter l.fn.words l.round l.fn.blocks.3 l.d;
}
