use Rattle.std.proofs.Common.{◌≡◌, ◌<◌, ◌+◌, ◌∷◌, [], ◌++◌, take, length, arith, rules, sym, ap, ◌∙◌}
use Rattle.std.proofs.lemmas.List.{take_more}
use Rattle.memberlist_view.specs.declared.heard.Heard.{Heard}
use Rattle.memberlist_view.specs.Told.{view_after}
use Rattle.swimwatch.specs.Viewed.{begin_with, said_at_start}
use Rattle.swimwatch.proofs.Beginning.{begin_more}
use Rattle.swimwatch.proofs.view.listener.Listener.begin_with.Goals as goal

pub loop-claim-preserved : goal.loop-claim-preserved
loop-claim-preserved c =
    let claims = c.args.claims.now in
    let i = c.loop-claim.claim-index in
    let claim = c.claim-item.result in
    let time = c.args.time in
    let first = c.args.self.now.view in
    let h : Heard = record { time = time; said = said_at_start claim } in
    let within : i < length claims = omega arith in
    let more : take (i + 1) claims ≡ take i claims ++ claim ∷ [] =
    take_more claims i claim within ∙ ap (λ x. take i claims ++ x ∷ []) (sym c.claim-item.is) in
    let mid = c.loop-claim.self.view in
    let heard : c.begin_with_one.new.self.view ≡ view_after mid h = c.in_ok-begin_with_one.ensures in
    heard ∙ ap (λ v. view_after v h) c.loop-claim.invariant ∙ sym (begin_more time first (take i claims) claim)
    ∙ ap (begin_with time first) (sym more)
