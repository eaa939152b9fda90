use Rattle.std.proofs.Common.{[], ◌∷◌, ap, arith, inr, length, map, subst, sym}
use Rattle.std.proofs.lemmas.List.{length-map}
use Rattle.std.proofs.lemmas.List.Elements.{All-map}
use Rattle.std.specs.List.{All}
use Rattle.memberlist_message.specs.Leaves.{AreLeaves}
use Rattle.memberlist_member.specs.Parts.{AreMessagesOf, HasMessages}
use Rattle.memberlist_member.specs.Showing.{Tells}
use Rattle.memberlist_member.specs.Steps.{IsHeededAck, IsOutdoneIn}
use Rattle.memberlist_member.proofs.Members.{all_unmap}
use Rattle.memberlist_member.proofs.Showing.{all_said, all_tell, said_by_one}
use Rattle.memberlist_member.proofs.Heeding.{on_ok}
use Rattle.memberlist_member.proofs.member.Member.take_datagram.Given as given
use Rattle.memberlist_member.proofs.member.Member.take_datagram.Goals as goal

messages : (g : given.Over) (c : goal.After-drop-message-2 g) → HasMessages c.args.self.now.cover c.args.bytes.now
    (map (λ p. p.now) c.in_ok-leaves.leaves.parts.items)
messages g c =
    let parts = map (λ p. p.now) c.in_ok-leaves.leaves.parts.items in
    let leaves = subst (λ b. AreLeaves (b ∷ []) parts c.in_ok-leaves.leaves.truncated) c.deref.ensures.value
    c.in_ok-leaves.ensures in (
      c.in_ok-message.field-0,
      c.in_ok-message.ensures,
      subst (λ o. AreMessagesOf o parts) (sym c.in-Message.is) (c.in_ok-leaves.leaves.truncated, leaves),
    )

pub returns-clause-adds : goal.returns-clause-adds
returns-clause-adds g c =
    let (sends, dials, writes) = c.take_parts.ensures.adds in
    let same = ap length c.deref-2.ensures.value in
    let count = length-map c.in_ok-leaves.leaves.parts.items (λ p. p.now) in
    inr (_, messages g c, (omega (arith, sends, same, count), dials, writes))

pub returns-clause-outdone : goal.returns-clause-outdone
returns-clause-outdone g c =
    let own = c.take_parts.new.self.own in
    on_ok c.take_parts.result (λ all. (
      _,
      messages g c,
      All-map (IsOutdoneIn own) (λ p. p.now) c.in_ok-leaves.leaves.parts.items
          (subst (λ ps. All (λ p. IsOutdoneIn own p.now) ps) c.deref-2.ensures.value all),
    )) c.take_parts.ensures.outdone

pub returns-clause-answered : goal.returns-clause-answered
returns-clause-answered g c =
    let new = c.take_parts.new.self in
    on_ok c.take_parts.result (λ all. (
      _,
      messages g c,
      All-map (IsHeededAck new) (λ p. p.now) c.in_ok-leaves.leaves.parts.items
          (subst (λ ps. All (λ p. IsHeededAck new p.now) ps) c.deref-2.ensures.value all),
    )) c.take_parts.ensures.answered

pub returns-clause-goes : goal.returns-clause-goes
returns-clause-goes g c =
    let parts = c.in_ok-leaves.leaves.parts.items in
    let all = map (λ p. p.now) parts in
    let told = all_said all in
    let tells : All (λ p. Tells told p.now) parts = all_unmap (λ p. p.now) (Tells told) parts (all_tell all) in
    (told, (λ k d less. (all, messages g c, said_by_one all k d less)), c.take_parts.ensures.goes told (subst (λ ps. All (λ p. Tells told p.now) ps) (sym c.deref-2.ensures.value) tells))
