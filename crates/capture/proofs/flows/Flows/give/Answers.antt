use Rattle.std.proofs.Common.{Some, sym, ap, ◌∙◌}
use Rattle.std.proofs.lemmas.Map.Steps.{set_value_same}
use Rattle.capture.proofs.Hearing.{on_err}
use Rattle.capture.proofs.flows.Flows.give.Goals as goal

pub returns-clause-refused : goal.returns-clause-refused
returns-clause-refused c =
    on_err c.take.result (λ same.
    (c.get_mut.follows.holds c.take.new.self).0
    ∙ (set_value_same _ _ _ (sym c.in-Some.ensures.value ∙ ap (λ o. Some o) (sym same)) ∙ c.self.view_is)) c.take.ensures.refused
