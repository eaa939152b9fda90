use Rattle.std.proofs.Common.{◌≡◌, ◌∷◌, rules, subst, sym}
use Rattle.std.specs.List.{All, Contains}
use Rattle.std.proofs.lemmas.List.Elements.{All-contains_itself, All-head, All-rest}
use Rattle.memberlist_member.proofs.Lines.{said_of_one}
use Rattle.memberlist_member.proofs.Carrying.{stays_over}
use Rattle.memberlist_member.proofs.member.Member.merge_all.Goals as goal

pub loop-claim-init : goal.loop-claim-init
loop-claim-init g c = record {
  adds = search rules;
  stays = search rules;
  goes = λ told all first word before. before;
  lines = λ conn came line. line;
  left = subst (All (Contains c.args.claims.items)) (sym c.into_iter-claim-iterator.ensures.into_iter_gives.0)
      (All-contains_itself c.args.claims.items);
}

pub loop-claim-preserved : goal.loop-claim-preserved
loop-claim-preserved g c =
    let items = c.args.claims.items in
    let one : c.loop-claim.claim-iterator.rest.items ≡ c.in-Some.claim ∷ c.next.new.self.rest.items = search rules in
    let all : All (Contains items) (c.in-Some.claim ∷ c.next.new.self.rest.items) = subst (All (Contains items)) one c.loop-claim.invariant.left in
    let ((((time, settings, cover, name, rises), details, leaving, seeds), times), probe) = c.loop-claim.invariant.stays in
    record {
      adds = search rules;
      stays = stays_over c.args.self.now c.loop-claim.self c.merge.new.self c.loop-claim.invariant.stays c.merge.ensures.stays;
      goes = λ told each first word before.
          c.merge.ensures.goes told (said_of_one c.args.self.now.own.name c.loop-claim.self.own.name name told items c.in-Some.claim each
          (All-head (Contains items) c.in-Some.claim c.next.new.self.rest.items all))
          first word (c.loop-claim.invariant.goes told each first word before);
      lines = λ conn came line. c.loop-claim.invariant.lines conn came (c.merge.ensures.lines conn came line);
      left = All-rest (Contains items) c.in-Some.claim c.next.new.self.rest.items c.loop-claim.claim-iterator.rest.items one
          c.loop-claim.invariant.left;
    }

pub returns-in_err-merge-clause-goes : goal.returns-in_err-merge-clause-goes
returns-in_err-merge-clause-goes g c told each first word before =
    let items = c.args.claims.items in
    let one : c.loop-claim.claim-iterator.rest.items ≡ c.in-Some.claim ∷ c.next.new.self.rest.items = search rules in
    let all : All (Contains items) (c.in-Some.claim ∷ c.next.new.self.rest.items) = subst (All (Contains items)) one c.loop-claim.invariant.left in
    let ((((time, settings, cover, name, rises), details, leaving, seeds), times), probe) = c.loop-claim.invariant.stays in
    c.merge.ensures.goes told (said_of_one c.args.self.now.own.name c.loop-claim.self.own.name name told items c.in-Some.claim each
    (All-head (Contains items) c.in-Some.claim c.next.new.self.rest.items all))
    first word (c.loop-claim.invariant.goes told each first word before)

pub returns-in_err-merge-clause-stays : goal.returns-in_err-merge-clause-stays
returns-in_err-merge-clause-stays g c = stays_over c.args.self.now c.loop-claim.self c.merge.new.self c.loop-claim.invariant.stays c.merge.ensures.stays

pub returns-in_err-merge-clause-lines : goal.returns-in_err-merge-clause-lines
returns-in_err-merge-clause-lines g c conn came line = c.loop-claim.invariant.lines conn came (c.merge.ensures.lines conn came line)
