use Rattle.std.proofs.Common.{◌≡◌, ℕ, Bor, List, [], ◌∷◌, ◌++◌, map, rules, sym, ap, subst, ◌∙◌}
use Rattle.std.specs.Map.Iter.{deref_pair}
use Rattle.std.proofs.lemmas.List.{map-append}
use Rattle.std.proofs.lemmas.Map.Iter.{rest_more, rest_so_far, iter_end}
use Rattle.memberlist_view.specs.declared.entry.Entry.{Entry}
use Rattle.memberlist_view.specs.Told.{Entries, IsAscending}
use Rattle.serf_view.specs.Intents.{intent_of, leaving_of}
use Rattle.swimwatch.specs.Knowing.{known_of_entry}
use Rattle.swimwatch.specs.Rosters.{Members, noted, shown_members}
use Rattle.swimwatch.proofs.Rosters.{shown_next}
use Rattle.swimwatch.proofs.view.roster.Roster.of_listener.Goals as goal

pub loop-name-preserved : goal.loop-name-preserved
loop-name-preserved c sorted =
    let all = c.args.listener.now.view.entries in
    let intents = c.args.intents.now in
    let x : Bor (List ℕ) × Bor Entry = (c.in-Some.name, c.in-Some.entry) in
    let seen = map deref_pair c.loop-name.yielded in
    let began : all ≡ c.into_iter-name-iterator.result = search rules in
    let so_far = rest_so_far deref_pair c.loop-name.yielded c.into_iter-name-iterator.result c.loop-name.name-iterator c.loop-name.yielded_by in
    let more = rest_more deref_pair c.loop-name.name-iterator c.next.new.self c.next.result x c.in-Some.is c.next.ensures.steps in
    let whole : all ≡ seen ++ deref_pair x ∷ c.next.new.self = began ∙ so_far ∙ ap (λ (es : Entries). seen ++ es) more in
    let known = known_of_entry c.in-Some.entry.now (leaving_of (intent_of intents c.in-Some.name.now)) in
    let new : c.note.new.self ≡ noted c.loop-name.roster c.in-Some.name.now known = search rules in
    new ∙ ap (λ (ms : Members). noted ms c.in-Some.name.now known) (c.loop-name.invariant sorted)
    ∙ shown_next intents seen (deref_pair x) c.next.new.self (subst IsAscending whole sorted)
    ∙ ap (λ (es : Entries). shown_members intents es) (sym (map-append deref_pair c.loop-name.yielded (x ∷ [])))

pub returns : goal.returns
returns c sorted =
    let all = c.args.listener.now.view.entries in
    let began : c.into_iter-name-iterator.result ≡ all = search rules in
    let ended = iter_end deref_pair all c.loop-name.yielded c.into_iter-name-iterator.result c.loop-name.name-iterator c.next.new.self c.next.result began c.loop-name.yielded_by c.in-None.is c.next.ensures.steps in
    c.loop-name.invariant sorted ∙ ap (λ (es : Entries). shown_members c.args.intents.now es) ended.0
