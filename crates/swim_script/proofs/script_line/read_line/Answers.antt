use Rattle.std.proofs.Common.{◌≡◌, ◌∷◌, ◌<◌, ◌∙◌, map, length, true, refl, sym, ap, subst, rules, arith}
use Rattle.std.proofs.lemmas.List.{length-map}
use Rattle.std.proofs.lemmas.Result.{err_from_is_err_and}
use Rattle.swim_script.specs.declared.keyword.Keyword.TheVariants as key
use Rattle.swim_script.specs.Script.{EventWords}
use Rattle.swim_script.specs.ScriptReading.{SpellsNothing, word_of}
use Rattle.swim_script.specs.Refusals.{RefusesWords}
use Rattle.swim_script.specs.Refusals.RefusesWords.{node}
use Rattle.swim_script.proofs.Refused.{unknown_wrong, event_wrong}
use Rattle.swim_script.proofs.ScriptLines.{unknown_first, nothing_told, no_node_told}
use Rattle.swim_script.proofs.script_line.read_line.Goals as goal
use Rattle.swim_script.proofs.script_line.read_line.Goals.{in_default-keyword-via-in-Node+else-nodes_may_come}
use Rattle.swim_script.proofs.script_line.read_line.Goals.{in_default-keyword-via-in-Level+else-is_empty}
use Rattle.swim_script.proofs.script_line.read_line.Goals.{in_default-keyword-via-in_default-keyword}

pub returns-in_default-named-clause-refuses : goal.returns-in_default-named-clause-refuses
returns-in_default-named-clause-refuses c =
    let all : c.deref.result.now ≡ c.in-Some.first.now ∷ c.in-Some.fields.now = search rules in
    let line = sym c.in_ok-words.ensures.words ∙ ap (map (λ w. w.now)) (sym c.deref.ensures.value ∙ all) in
    λ seen.
    subst (SpellsNothing c.args.nodes_may_come) (sym line)
    (unknown_first c.args.nodes_may_come c.in-Some.first.now.now (map (λ w. w.now) c.in-Some.fields.now)
    (c.in_default-named.ensures.unknown refl))

pub returns-in_err-read_node-in-Node-clause-refuses : goal.returns-in_err-read_node-in-Node-clause-refuses
returns-in_err-read_node-in-Node-clause-refuses c =
    let all : c.deref.result.now ≡ c.in-Some.first.now ∷ c.in-Some.fields.now = search rules in
    let rest = map (λ w. w.now) c.in-Some.fields.now in
    let first = c.in-Some-named.ensures.known ∙ ap word_of c.in-Node.is in
    let line = sym c.in_ok-words.ensures.words ∙ ap (map (λ w. w.now)) (sym c.deref.ensures.value ∙ all) ∙ ap (λ w. w ∷ rest) first in
    let p = err_from_is_err_and c.from_residual-in_err-read_node-in-Node.result c.from_residual-in_err-read_node-in-Node.ensures.1 in
    rw (p.1, p.2)
    (λ seen. subst (SpellsNothing c.args.nodes_may_come) (sym line)
    (no_node_told c.args.nodes_may_come rest (c.in_err-read_node-in-Node.ensures.refuses seen)))

pub returns-in_err-read_event-in_default-keyword-clause-refuses : goal.returns-in_err-read_event-in_default-keyword-clause-refuses
returns-in_err-read_event-in_default-keyword-clause-refuses c =
    let all : c.deref.result.now ≡ c.in-Some.first.now ∷ c.in-Some.fields.now = search rules in
    let rest = map (λ w. w.now) c.in-Some.fields.now in
    let line = sym c.in_ok-words.ensures.words ∙ ap (map (λ w. w.now)) (sym c.deref.ensures.value ∙ all) ∙ ap
    (λ w. w ∷ rest) c.in-Some-named.ensures.known in
    let node : c.in-Some-named.keyword ≡ key.Node → c.args.nodes_may_come ≡ true → ⊥ =
    elim c.in_default-keyword.branch [
      | in_default-keyword-via-in-Node+else-nodes_may_come w ↦ search rules
      | in_default-keyword-via-in-Level+else-is_empty w ↦ search rules
      | in_default-keyword-via-in_default-keyword w ↦ search rules
    ] in
    let some : c.in-Some-named.keyword ≡ key.Level → 0 < length c.in-Some.fields.now =
    elim c.in_default-keyword.branch [
      | in_default-keyword-via-in-Node+else-nodes_may_come w ↦ search rules
      | in_default-keyword-via-in-Level+else-is_empty w ↦ search rules
      | in_default-keyword-via-in_default-keyword w ↦ search rules
    ] in
    let p = err_from_is_err_and c.from_residual-in_err-read_event-in_default-keyword.result
    c.from_residual-in_err-read_event-in_default-keyword.ensures.1 in
    rw (p.1, p.2)
    (λ seen. subst (SpellsNothing c.args.nodes_may_come) (sym line)
    (nothing_told c.args.nodes_may_come c.in-Some-named.keyword rest node
    (λ e. omega (arith, some e, length-map c.in-Some.fields.now (λ w. w.now)))
    (c.in_err-read_event-in_default-keyword.ensures.refuses seen)))

pub returns-clause-reads : goal.returns-clause-reads
returns-clause-reads c =
    let all : c.deref.result.now ≡ c.in-Some.first.now ∷ c.in-Some.fields.now = search rules in
    let rest = map (λ w. w.now) c.in-Some.fields.now in
    let line = sym c.in_ok-words.ensures.words ∙ ap (map (λ w. w.now)) (sym c.deref.ensures.value ∙ all) ∙ ap
    (λ w. w ∷ rest) c.in-Some-named.ensures.known in
    subst (λ words. EventWords words c.in_ok-read_event-in_default-keyword.field-0)
    (sym line) c.in_ok-read_event-in_default-keyword.ensures.reads

pub returns-in_default-named-clause-tells : goal.returns-in_default-named-clause-tells
returns-in_default-named-clause-tells c =
    let all : c.deref.result.now ≡ c.in-Some.first.now ∷ c.in-Some.fields.now = search rules in
    let line = sym c.in_ok-words.ensures.words ∙ ap (map (λ w. w.now)) (sym c.deref.ensures.value ∙ all) in
    λ seen.
    subst (λ words. RefusesWords c.args.nodes_may_come words c.bad_script-in_default-named.result) (sym line)
    (unknown_wrong c.args.nodes_may_come c.in-Some.first.now.now
    (map (λ w. w.now) c.in-Some.fields.now) c.bad_script-in_default-named.result
    (c.in_default-named.ensures.unknown refl)
    c.bad_script-in_default-named.ensures)

pub returns-in_err-read_node-in-Node-clause-tells : goal.returns-in_err-read_node-in-Node-clause-tells
returns-in_err-read_node-in-Node-clause-tells c =
    let all : c.deref.result.now ≡ c.in-Some.first.now ∷ c.in-Some.fields.now = search rules in
    let rest = map (λ w. w.now) c.in-Some.fields.now in
    let first = c.in-Some-named.ensures.known ∙ ap word_of c.in-Node.is in
    let line = sym c.in_ok-words.ensures.words ∙ ap (map (λ w. w.now)) (sym c.deref.ensures.value ∙ all) ∙ ap (λ w. w ∷ rest) first in
    let p = err_from_is_err_and c.from_residual-in_err-read_node-in-Node.result c.from_residual-in_err-read_node-in-Node.ensures.1 in
    let may : c.args.nodes_may_come ≡ true = search rules in
    rw (p.1, p.2)
    (λ seen. subst (λ words. RefusesWords c.args.nodes_may_come words c.in_err-read_node-in-Node.field-0.0)
    (sym line) (node rest may refl (c.in_err-read_node-in-Node.ensures.tells seen)))

pub returns-in_err-read_event-in_default-keyword-clause-tells : goal.returns-in_err-read_event-in_default-keyword-clause-tells
returns-in_err-read_event-in_default-keyword-clause-tells c =
    let all : c.deref.result.now ≡ c.in-Some.first.now ∷ c.in-Some.fields.now = search rules in
    let rest = map (λ w. w.now) c.in-Some.fields.now in
    let line = sym c.in_ok-words.ensures.words ∙ ap (map (λ w. w.now)) (sym c.deref.ensures.value ∙ all) ∙ ap
    (λ w. w ∷ rest) c.in-Some-named.ensures.known in
    let no_node : c.in-Some-named.keyword ≡ key.Node → c.args.nodes_may_come ≡ true → ⊥ =
    elim c.in_default-keyword.branch [
      | in_default-keyword-via-in-Node+else-nodes_may_come w ↦ search rules
      | in_default-keyword-via-in-Level+else-is_empty w ↦ search rules
      | in_default-keyword-via-in_default-keyword w ↦ search rules
    ] in
    let p = err_from_is_err_and c.from_residual-in_err-read_event-in_default-keyword.result
    c.from_residual-in_err-read_event-in_default-keyword.ensures.1 in
    rw (p.1, p.2)
    (λ seen. subst (λ words. RefusesWords c.args.nodes_may_come words c.in_err-read_event-in_default-keyword.field-0.0) (sym line)
    (event_wrong c.args.nodes_may_come c.in-Some-named.keyword rest
    c.in_err-read_event-in_default-keyword.field-0.0 no_node
    (c.in_err-read_event-in_default-keyword.ensures.tells seen)))
