use Rattle.std.proofs.Common.{arith, rules, sym, ◌∙◌, []}
use Rattle.std.proofs.lemmas.List.{append-nil}
use Rattle.swim_pack.proofs.Refusals.{ConsumesSome-kept, short_where_refused, passed_front}
use Rattle.swim_pack.proofs.slice_inlet.SliceInletInlet.TheImpl.Goals as goal

pub pull-tells : goal.pull-tells
pull-tells g c = record {
  ok = c.ensures.ok;
  empty = λ none. c.ensures.enough.1 (omega arith);
  ended = λ e. short_where_refused c.result _ _ _ c.ensures.enough e;
  fault = λ e. search rules;
  refused = ConsumesSome-kept c.result _ _ c.ensures.kept;
  faults_stay = omega arith;
}

pub at_hand-tells : goal.at_hand-tells
at_hand-tells g c = record { front = ([], sym (append-nil _ ∙ c.ensures)) }

pub pass-tells : goal.pass-tells
pass-tells g c = record { passed = passed_front c.result _ _ _ c.ensures.passed c.ensures.enough }
