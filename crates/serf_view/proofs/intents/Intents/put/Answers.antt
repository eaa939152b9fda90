use Rattle.std.proofs.Common.{rules, ◌≡◌, None, IsSome, refl, sym, ap, subst, ◌∙◌}
use Rattle.std.specs.BTreeMap.{insert_entry}
use Rattle.serf_view.specs.Intents.{beliefs_in, intent_of, name_cmp}
use Rattle.serf_view.proofs.Keeping.{found, inserted, inserted_here, inserted_other, written, written_here, written_other}
use Rattle.serf_view.proofs.intents.Intents.put.Goals as goal

pub returns-in-Some-clause-intent : goal.returns-in-Some-clause-intent
returns-in-Some-clause-intent c =
    let es = c.self.inside.known.entries in
    let name = c.args.name.now in
    let is : IsSome (intent_of (beliefs_in es) name) = subst IsSome (c.in-Some.ensures.value ∙ found es name) refl in
    ap (λ fs. intent_of (beliefs_in fs) name) (c.get_mut.follows.holds c.args.intent).0
    ∙ (ap (λ fs. intent_of fs name) (written es name c.args.intent) ∙ written_here (beliefs_in es) name c.args.intent is)

pub returns-in-Some-clause-others : goal.returns-in-Some-clause-others
returns-in-Some-clause-others c = λ other ne.
    let es = c.self.inside.known.entries in
    let name = c.args.name.now in
    ap (λ fs. intent_of (beliefs_in fs) other) (c.get_mut.follows.holds c.args.intent).0
    ∙ (ap (λ fs. intent_of fs other) (written es name c.args.intent)
    ∙ (written_other (beliefs_in es) name c.args.intent other ne ∙ ap (λ fs. intent_of fs other) c.self.view_is))

pub returns-in_err-key-clause-asks : goal.returns-in_err-key-clause-asks
returns-in_err-key-clause-asks c =
    let es = c.self.inside.known.entries in
    let name = c.args.name.now in
    let none : intent_of c.args.self.now name ≡ None =
    sym (c.in_default.ensures.value ∙ (found es name ∙ ap (λ fs. intent_of fs name) c.self.view_is)) in
    search rules

pub returns-in_err-insert-clause-asks : goal.returns-in_err-insert-clause-asks
returns-in_err-insert-clause-asks c =
    let es = c.self.inside.known.entries in
    let name = c.args.name.now in
    let none : intent_of c.args.self.now name ≡ None =
    sym (c.in_default.ensures.value ∙ (found es name ∙ ap (λ fs. intent_of fs name) c.self.view_is)) in
    search rules

pub returns-clause-intent : goal.returns-clause-intent
returns-clause-intent c =
    let es = c.get_mut.follows.lender-at-none.entries in
    let name = c.args.name.now in
    let same : c.in_ok-key.key.items ≡ name = search rules in
    ap (λ fs. intent_of (beliefs_in fs) name) c.in_ok-insert.ensures.entries
    ∙ (ap (λ fs. intent_of fs name) (inserted es c.in_ok-key.key c.args.intent)
    ∙ (ap (λ n. intent_of (insert_entry name_cmp (beliefs_in es) n c.args.intent) name) same
    ∙ inserted_here (beliefs_in es) name c.args.intent))

pub returns-clause-others : goal.returns-clause-others
returns-clause-others c = λ other ne.
    let es = c.get_mut.follows.lender-at-none.entries in
    let name = c.args.name.now in
    let same : c.in_ok-key.key.items ≡ name = search rules in
    ap (λ fs. intent_of (beliefs_in fs) other) c.in_ok-insert.ensures.entries
    ∙ (ap (λ fs. intent_of fs other) (inserted es c.in_ok-key.key c.args.intent)
    ∙ (ap (λ n. intent_of (insert_entry name_cmp (beliefs_in es) n c.args.intent) other) same
    ∙ (inserted_other (beliefs_in es) name c.args.intent other ne
    ∙ (ap (λ m. intent_of (beliefs_in m.entries) other) c.get_mut.follows.holds-at-none
    ∙ ap (λ fs. intent_of fs other) c.self.view_is))))
