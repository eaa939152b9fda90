use Rattle.std.proofs.Common.{◌≡◌, false, Some, IsSome, refl, sym, ap, subst, ◌∙◌}
use Rattle.serf_view.specs.declared.intents.Intent.{Intent}
use Rattle.serf_view.specs.Intents.{beliefs_in, intent_of, returned_after}
use Rattle.serf_view.proofs.Keeping.{found, written, written_here, written_other}
use Rattle.serf_view.proofs.intents.Intents.returned.Goals as goal

pub returns-in_default-clause-intent : goal.returns-in_default-clause-intent
returns-in_default-clause-intent c =
    let name = c.args.name.now in
    let was = c.in_default.ensures.value
    ∙ (found c.self.inside.known.entries name ∙ ap (λ fs. intent_of fs name) c.self.view_is) in
    ap (λ m. intent_of (beliefs_in m.entries) name) c.get_mut.follows.holds-at-none
    ∙ (ap (λ fs. intent_of fs name) c.self.view_is ∙ (sym was ∙ ap returned_after was))

pub returns-clause-intent : goal.returns-clause-intent
returns-clause-intent c =
    let es = c.self.inside.known.entries in
    let name = c.args.name.now in
    let new : Intent = record { time = c.in-Some.intent.now.time; leaving = false } in
    let here : Some c.in-Some.intent.now ≡ intent_of (beliefs_in es) name = c.in-Some.ensures.value ∙ found es name in
    let is : IsSome (intent_of (beliefs_in es) name) = subst IsSome here refl in
    ap (λ fs. intent_of (beliefs_in fs) name) (c.get_mut.follows.holds new).0
    ∙ (ap (λ fs. intent_of fs name) (written es name new)
    ∙ (written_here (beliefs_in es) name new is
    ∙ ap returned_after (here ∙ ap (λ fs. intent_of fs name) c.self.view_is)))

pub returns-clause-others : goal.returns-clause-others
returns-clause-others c = λ other ne.
    let es = c.self.inside.known.entries in
    let name = c.args.name.now in
    let new : Intent = record { time = c.in-Some.intent.now.time; leaving = false } in
    ap (λ fs. intent_of (beliefs_in fs) other) (c.get_mut.follows.holds new).0
    ∙ (ap (λ fs. intent_of fs other) (written es name new)
    ∙ (written_other (beliefs_in es) name new other ne ∙ ap (λ fs. intent_of fs other) c.self.view_is))
