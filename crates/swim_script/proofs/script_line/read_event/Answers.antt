use Rattle.std.proofs.Common.{◌≢◌, ◌∷◌, map, sym, subst}
use Rattle.std.specs.Prelude.{IfErr}
use Rattle.std.proofs.lemmas.Result.{err_from_is_err_and}
use Rattle.swim_sync.specs.declared.event.Event.{Event}
use Rattle.swim_sync.specs.declared.event.Event.TheVariants.{Exchange, Half, Refute}
use Rattle.swim_program.specs.declared.report.What.TheVariants.{Memory}
use Rattle.swim_script.specs.Refusals.{RefusesEvent}
use Rattle.swim_script.specs.Script.{EventWords}
use Rattle.swim_script.specs.ScriptReading.{word_of}
use Rattle.swim_script.proofs.ScriptLines.{exchange_told, half_told, refute_told, no_exchange, no_half, no_refute}
use Rattle.swim_script.proofs.script_line.read_event.Goals as goal

pub returns-in_err-first-in-Exchange-clause-refuses : goal.returns-in_err-first-in-Exchange-clause-refuses
returns-in_err-first-in-Exchange-clause-refuses c =
    let p = err_from_is_err_and c.from_residual.result c.from_residual.ensures.1 in
    let none = no_exchange (map (λ w. w.now) c.args.fields.now) c.in_err-first-in-Exchange.ensures.refuses in
    rw p.1 (λ seen. subst (λ k. (event : Event)
    → ¬ EventWords (word_of k ∷ map (λ w. w.now) c.args.fields.now) event)
    (sym c.in-Exchange.is) none)

pub returns-in_err-first-in-Half-clause-refuses : goal.returns-in_err-first-in-Half-clause-refuses
returns-in_err-first-in-Half-clause-refuses c =
    let p = err_from_is_err_and c.from_residual-in_err-first-in-Half.result c.from_residual-in_err-first-in-Half.ensures.1 in
    let none = no_half (map (λ w. w.now) c.args.fields.now) c.in_err-first-in-Half.ensures.refuses in
    rw p.1 (λ seen. subst (λ k. (event : Event)
    → ¬ EventWords (word_of k ∷ map (λ w. w.now) c.args.fields.now) event) (sym c.in-Half.is) none)

pub returns-in_err-one_number-in-Refute-clause-refuses : goal.returns-in_err-one_number-in-Refute-clause-refuses
returns-in_err-one_number-in-Refute-clause-refuses c =
    let p = err_from_is_err_and c.from_residual-in_err-one_number-in-Refute.result c.from_residual-in_err-one_number-in-Refute.ensures.1 in
    let none = no_refute (map (λ w. w.now) c.args.fields.now) c.in_err-one_number-in-Refute.ensures.refuses in
    rw p.1 (λ seen. subst (λ k. (event : Event)
    → ¬ EventWords (word_of k ∷ map (λ w. w.now) c.args.fields.now) event) (sym c.in-Refute.is) none)

pub returns-in-Hear-clause-refuses : goal.returns-in-Hear-clause-refuses
returns-in-Hear-clause-refuses c =
    subst
    (λ k. IfErr c.read_hear.result (λ what. what ≢ Memory → (event : Event)
    → ¬ EventWords (word_of k ∷ map (λ w. w.now) c.args.fields.now) event))
    (sym c.in-Hear.is) c.read_hear.ensures.refuses

pub returns-in_ok-first-in-Exchange-clause-reads : goal.returns-in_ok-first-in-Exchange-clause-reads
returns-in_ok-first-in-Exchange-clause-reads c =
    subst
    (λ k. EventWords (word_of k ∷ map (λ w. w.now) c.args.fields.now)
    (Exchange c.in_ok-first-in-Exchange.first c.in_ok-first-in-Exchange.second))
    (sym c.in-Exchange.is) (exchange_told _ _ _ c.in_ok-first-in-Exchange.ensures.reads)

pub returns-in_ok-first-in-Half-clause-reads : goal.returns-in_ok-first-in-Half-clause-reads
returns-in_ok-first-in-Half-clause-reads c =
    subst
    (λ k. EventWords (word_of k ∷ map (λ w. w.now) c.args.fields.now) (Half c.in_ok-first-in-Half.first c.in_ok-first-in-Half.second))
    (sym c.in-Half.is) (half_told _ _ _ c.in_ok-first-in-Half.ensures.reads)

pub returns-in_ok-one_number-in-Refute-clause-reads : goal.returns-in_ok-one_number-in-Refute-clause-reads
returns-in_ok-one_number-in-Refute-clause-reads c =
    subst (λ k. EventWords (word_of k ∷ map (λ w. w.now) c.args.fields.now) (Refute c.in_ok-one_number-in-Refute.field-0))
    (sym c.in-Refute.is) (refute_told _ _ c.in_ok-one_number-in-Refute.ensures.reads)

pub returns-in_err-first-in-Exchange-clause-tells : goal.returns-in_err-first-in-Exchange-clause-tells
returns-in_err-first-in-Exchange-clause-tells c =
    let p = err_from_is_err_and c.from_residual.result c.from_residual.ensures.1 in
    rw (p.1, p.2) (λ seen. subst (λ k. RefusesEvent k
    (map (λ w. w.now) c.args.fields.now) c.in_err-first-in-Exchange.field-0.0)
    (sym c.in-Exchange.is) c.in_err-first-in-Exchange.ensures.fault)

pub returns-in_err-first-in-Half-clause-tells : goal.returns-in_err-first-in-Half-clause-tells
returns-in_err-first-in-Half-clause-tells c =
    let p = err_from_is_err_and c.from_residual-in_err-first-in-Half.result c.from_residual-in_err-first-in-Half.ensures.1 in
    rw (p.1, p.2) (λ seen. subst (λ k. RefusesEvent k
    (map (λ w. w.now) c.args.fields.now) c.in_err-first-in-Half.field-0.0)
    (sym c.in-Half.is) c.in_err-first-in-Half.ensures.fault)

pub returns-in_err-one_number-in-Refute-clause-tells : goal.returns-in_err-one_number-in-Refute-clause-tells
returns-in_err-one_number-in-Refute-clause-tells c =
    let p = err_from_is_err_and c.from_residual-in_err-one_number-in-Refute.result c.from_residual-in_err-one_number-in-Refute.ensures.1 in
    rw (p.1, p.2) (λ seen. subst (λ k. RefusesEvent k
    (map (λ w. w.now) c.args.fields.now) c.in_err-one_number-in-Refute.field-0.0)
    (sym c.in-Refute.is) c.in_err-one_number-in-Refute.ensures.fault)

pub returns-in-Hear-clause-tells : goal.returns-in-Hear-clause-tells
returns-in-Hear-clause-tells c =
    subst (λ k. IfErr c.read_hear.result (λ what. what ≢ Memory → RefusesEvent k (map (λ w. w.now) c.args.fields.now) what))
    (sym c.in-Hear.is) c.read_hear.ensures.tells
