use Rattle.std.proofs.Common.{◌≡◌, ◌∷◌, [], ◌++◌, ◌∙◌, List, ap, sym, rules}
use Rattle.std.proofs.lemmas.List.{map-append}
use Rattle.swim_claim.specs.declared.claim.Claim.{Claim}
use Rattle.swim_wire.specs.declared.state_record.StateRecord.{StateRecord}
use Rattle.swimwatch.proofs.heard.records.claims_in.Goals as goal

pub loop-record-preserved : goal.loop-record-preserved
loop-record-preserved c =
    let last = c.in-Some.record in
    let kept = c.loop-record.claims.items in
    let pushed : c.push.new.self.items ≡ kept ++ c.claim_of.result ∷ [] = search rules in
    pushed ∙ ap (λ (x : Claim). kept ++ x ∷ []) c.claim_of.ensures ∙ ap (λ (cs : List Claim). cs ++ last.claim ∷ []) c.loop-record.invariant
    ∙ sym (map-append (λ (r : StateRecord). r.claim) c.loop-record.yielded (last ∷ []))
