use Rattle.std.proofs.Common.{inl, sym, ap, ◌∙◌}
use Rattle.std.proofs.lemmas.Result.{err_from_is_err_and, MatchResult-weaker}
use Rattle.swim_pack.specs.Composing.{gives, then_read}
use Rattle.memberlist_message.specs.Values.{slots_of}
use Rattle.memberlist_message.proofs.Slotting.{known_pair, unknown_pair, bad_key, no_field}
use Rattle.memberlist_message.proofs.fields.read_pair.Goals as goal

pub returns-in_err-key-clause-exact : goal.returns-in_err-key-clause-exact
returns-in_err-key-clause-exact c =
    let p = err_from_is_err_and c.from_residual.result c.from_residual.ensures.1 in
    rw (p.1, p.2) (inl (bad_key _ _ _ _ c.in_err-key.ensures))

pub returns-in-Some-clause-exact : goal.returns-in-Some-clause-exact
returns-in-Some-clause-exact c =
    let found = sym c.place_of.ensures.place ∙ c.in-Some.is in
    rw (known_pair _ _ _ _ _ _ no_field c.in_ok-key.ensures found c.in-Some.ensures.within) c.read_slot.ensures.exact

pub returns-in-None-clause-exact : goal.returns-in-None-clause-exact
returns-in-None-clause-exact c =
    let found = sym c.place_of.ensures.place ∙ c.in-None.is in
    let e = unknown_pair _ (slots_of c.args.values.now) _ _ _ c.in_ok-key.ensures found in
    MatchResult-weaker c.after_values.result c.after_values.ensures
    (λ rest read. e ∙ ap (then_read (λ passed. gives (slots_of c.args.values.now))) read)
    (λ error read. inl (e ∙ ap (then_read (λ passed. gives (slots_of c.args.values.now))) read))
