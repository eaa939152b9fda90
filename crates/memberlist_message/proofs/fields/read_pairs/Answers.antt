use Rattle.std.proofs.Common.{◌≡◌, ◌+◌, ◌-◌, suc, refl, sym, ◌∙◌, arith}
use Rattle.std.proofs.lemmas.Result.{err_from_is_err_and}
use Rattle.memberlist_message.proofs.Slotting.{fault_of, no_pairs, one_pair, bad_pair}
use Rattle.memberlist_message.proofs.fields.read_pairs.Goals as goal

pub loop-init : goal.loop-init
loop-init c =
    let all : c.args.pairs - 0 ≡ c.args.pairs = omega arith in
    record { long = c.requires.long; same = rw all refl }

pub returns-in_err-rest : goal.returns-in_err-rest
returns-in_err-rest c =
    let p = err_from_is_err_and c.from_residual.result c.from_residual.ensures.1 in
    let e : c.args.pairs - c.loop.counter ≡ suc (c.args.pairs - c.loop.counter - 1) = omega arith in
    rw (p.1, p.2) (fault_of _ _ _ (λ read. sym c.loop.invariant.same ∙ bad_pair _ _ _ _ _ _ e read) c.in_err-rest.ensures.exact)

pub loop-preserved : goal.loop-preserved
loop-preserved c =
    let e : c.args.pairs - c.loop.counter ≡ suc (c.args.pairs - (c.loop.counter + 1)) = omega arith in
    record {
      long = c.in_ok-rest.ensures.kept ∙ c.loop.invariant.long;
      same = sym (one_pair _ _ _ _ _ _ _ e c.in_ok-rest.ensures.exact) ∙ c.loop.invariant.same;
    }

pub returns : goal.returns
returns c = sym c.loop.invariant.same ∙ no_pairs _ _ _ _ (omega arith)
