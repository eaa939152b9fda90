use Rattle.std.proofs.Common.{◌≡◌, ◌||◌, ◌&&◌, ℕ, true, false, List, [], ◌∷◌, map, Some, is_some, Bor, rules, ap, ◌∙◌}
use Rattle.std.specs.BTreeMap.{get}
use Rattle.std.specs.Map.Iter.{deref_pair}
use Rattle.std.proofs.lemmas.List.{map-append}
use Rattle.std.proofs.lemmas.Map.Iter.{iter_turn, iter_end}
use Rattle.memberlist_view.specs.Rules.{name_cmp}
use Rattle.swimwatch.specs.declared.view.known.Known.{Known}
use Rattle.swimwatch.specs.Rosters.{differs, is_other_now, said_of}
use Rattle.swimwatch.proofs.Changes.{added, passed, other_within}
use Rattle.swimwatch.proofs.Rosters.{said_at}
use Rattle.swimwatch.proofs.shown.changes.note_changed.Goals as goal

pub loop-name-preserved-in_ok-insert : goal.loop-name-preserved-in_ok-insert
loop-name-preserved-in_ok-insert c =
    let x : Bor (List ℕ) × Bor Known = (c.in-Some.name, c.in-Some.known) in
    let all = c.args.before.now in
    let began : c.into_iter-name-iterator.result ≡ all = search rules in
    let at = iter_turn deref_pair all c.loop-name.yielded c.into_iter-name-iterator.result c.loop-name.name-iterator c.next.new.self c.next.result began c.loop-name.yielded_by x c.in-Some.is c.next.ensures.steps in
    let is = said_at all _ c.in-Some.name.now c.in-Some.known.now c.iter-name-items.ensures.in_order at.1 in
    let other : differs (Some c.in-Some.known.now) (said_of c.args.after.now c.in-Some.name.now) ≡ true = search rules in
    let it : is_other_now (said_of all c.in-Some.name.now) (said_of c.args.after.now c.in-Some.name.now) ≡ true = rw is other in
    λ q. rw (map-append deref_pair c.loop-name.yielded (x ∷ []))
    (added (λ q. is_other_now (said_of c.args.before.now q) (said_of c.args.after.now q)) (map deref_pair c.loop-name.yielded) c.in-Some.name.now c.in-Some.known.now
    (λ n. is_some (get name_cmp c.args.names.now n)) (λ n. is_some (get name_cmp c.loop-name.names n)) (λ n. is_some (get name_cmp c.insert.new.self n))
    c.loop-name.invariant it (λ n. search rules) q)

pub loop-name-preserved : goal.loop-name-preserved
loop-name-preserved c =
    let x : Bor (List ℕ) × Bor Known = (c.in-Some.name, c.in-Some.known) in
    let all = c.args.before.now in
    let began : c.into_iter-name-iterator.result ≡ all = search rules in
    let at = iter_turn deref_pair all c.loop-name.yielded c.into_iter-name-iterator.result c.loop-name.name-iterator c.next.new.self c.next.result began c.loop-name.yielded_by x c.in-Some.is c.next.ensures.steps in
    let is = said_at all _ c.in-Some.name.now c.in-Some.known.now c.iter-name-items.ensures.in_order at.1 in
    let other : differs (Some c.in-Some.known.now) (said_of c.args.after.now c.in-Some.name.now) ≡ false = search rules in
    let not_it : is_other_now (said_of all c.in-Some.name.now) (said_of c.args.after.now c.in-Some.name.now) ≡ false = rw is other in
    λ q. rw (map-append deref_pair c.loop-name.yielded (x ∷ []))
    (passed (λ q. is_other_now (said_of c.args.before.now q) (said_of c.args.after.now q)) (map deref_pair c.loop-name.yielded) c.in-Some.name.now c.in-Some.known.now
    (λ n. is_some (get name_cmp c.args.names.now n)) (λ n. is_some (get name_cmp c.loop-name.names n))
    c.loop-name.invariant not_it q)

pub returns : goal.returns
returns c =
    let all = c.args.before.now in
    let began : c.into_iter-name-iterator.result ≡ all = search rules in
    let ended = iter_end deref_pair all c.loop-name.yielded c.into_iter-name-iterator.result c.loop-name.name-iterator c.next.new.self c.next.result began c.loop-name.yielded_by c.in-None.is c.next.ensures.steps in
    λ q. c.loop-name.invariant q
    ∙ ap (λ seen. (is_some (get name_cmp c.args.names.now q) || (is_some (said_of seen q) && is_other_now (said_of all q) (said_of c.args.after.now q)))) ended.0
    ∙ ap (λ b. (is_some (get name_cmp c.args.names.now q) || b)) (other_within (said_of all q) (said_of c.args.after.now q))
