use Rattle.std.proofs.Common.{◌≡◌, Err, ℕ, List, [], ◌∷◌, map, rules, sym, ap, ◌∙◌}
use Rattle.std.proofs.lemmas.List.{map-append}
use Rattle.std.specs.Global.{Vec}
use Rattle.swim_claim.specs.Name.{IsLegalName}
use Rattle.swimwatch.specs.Rosters.{Members, left_at, with_left}
use Rattle.swimwatch.proofs.Rosters.{left_more, left_same, legal_name, no_name, none_yet}
use Rattle.swimwatch.proofs.view.roster.Roster.note_left.Goals as goal

pub loop-bytes-init : goal.loop-bytes-init
loop-bytes-init c = none_yet c.args.self.now

pub loop-bytes-preserved-in-Ok : goal.loop-bytes-preserved-in-Ok
loop-bytes-preserved-in-Ok c =
    let name = c.in-Some.bytes.items in
    let names = map (λ (v : Vec ℕ). v.items) c.loop-bytes.yielded in
    let bounds : IsLegalName name = search rules in
    let legal = legal_name name bounds.least bounds.most in
    let new : c.note_left_at-in-Ok.new.self ≡ left_at c.loop-bytes.self name = search rules in
    new ∙ ap (λ (ms : Members). left_at ms name) c.loop-bytes.invariant
    ∙ left_more names name c.args.self.now legal
    ∙ ap (λ (ns : List (List ℕ)). with_left ns c.args.self.now) (sym (map-append (λ (v : Vec ℕ). v.items) c.loop-bytes.yielded (c.in-Some.bytes ∷ [])))

pub loop-bytes-preserved : goal.loop-bytes-preserved
loop-bytes-preserved c =
    let name = c.in-Some.bytes.items in
    let names = map (λ (v : Vec ℕ). v.items) c.loop-bytes.yielded in
    let illegal = no_name name c.in-Err.field-0 c.in-Err.ensures.no_other (λ e. c.in-Err.ensures.empty.0 (ap (λ f. Err f) e)) (λ e. c.in-Err.ensures.too_long.0 (ap (λ f. Err f) e)) in
    c.loop-bytes.invariant
    ∙ left_same names name c.args.self.now illegal
    ∙ ap (λ (ns : List (List ℕ)). with_left ns c.args.self.now) (sym (map-append (λ (v : Vec ℕ). v.items) c.loop-bytes.yielded (c.in-Some.bytes ∷ [])))
