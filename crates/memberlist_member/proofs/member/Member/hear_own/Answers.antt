use Rattle.std.proofs.Common.{◌∙◌}
use Rattle.memberlist_member.proofs.Carrying.{stays_over}
use Rattle.memberlist_member.proofs.member.Member.hear_own.Goals as goal

pub returns-in_default-clause-goes : goal.returns-in_default-clause-goes
returns-in_default-clause-goes g c told word first own before =
    c.take_in.ensures.tells told c.args.packet.now word c.requires.said first own before

pub returns-in_err-event-clause-goes : goal.returns-in_err-event-clause-goes
returns-in_err-event-clause-goes g c told word first own before =
    c.take_in.ensures.tells told c.args.packet.now word c.requires.said first own before

pub returns-in_err-follow-clause-goes : goal.returns-in_err-follow-clause-goes
returns-in_err-follow-clause-goes g c told word first own before =
    c.follow.ensures.goes told first own (c.take_in.ensures.tells told c.args.packet.now word c.requires.said first own before)

pub returns-in_err-queue_claim-clause-goes : goal.returns-in_err-queue_claim-clause-goes
returns-in_err-queue_claim-clause-goes g c told word first own before =
    c.queue_claim.ensures.goes told first own (c.follow.ensures.goes told first own
    (c.take_in.ensures.tells told c.args.packet.now word c.requires.said first own before))

pub returns-clause-goes : goal.returns-clause-goes
returns-clause-goes g c told word first own before =
    c.show.ensures.goes told first own (c.queue_claim.ensures.goes told first own (c.follow.ensures.goes told first own
    (c.take_in.ensures.tells told c.args.packet.now word c.requires.said first own before)))

pub returns-in_err-follow-clause-lines : goal.returns-in_err-follow-clause-lines
returns-in_err-follow-clause-lines g c conn came line = c.take_in.ensures.lines conn came (c.follow.ensures.lines conn came line)

pub returns-in_err-queue_claim-clause-lines : goal.returns-in_err-queue_claim-clause-lines
returns-in_err-queue_claim-clause-lines g c conn came line =
    c.take_in.ensures.lines conn came (c.follow.ensures.lines conn came (c.queue_claim.ensures.lines conn came line))

pub returns-clause-lines : goal.returns-clause-lines
returns-clause-lines g c conn came line =
    c.take_in.ensures.lines conn came
    (c.follow.ensures.lines conn came (c.queue_claim.ensures.lines conn came (c.show.ensures.lines conn came line)))

pub returns-in_err-follow-clause-stays : goal.returns-in_err-follow-clause-stays
returns-in_err-follow-clause-stays g c = stays_over c.args.self.now c.take_in.new.self c.follow.new.self c.take_in.ensures.stays c.follow.ensures.stays

pub returns-in_err-queue_claim-clause-stays : goal.returns-in_err-queue_claim-clause-stays
returns-in_err-queue_claim-clause-stays g c = stays_over c.args.self.now c.follow.new.self c.queue_claim.new.self (stays_over c.args.self.now c.take_in.new.self c.follow.new.self c.take_in.ensures.stays c.follow.ensures.stays) c.queue_claim.ensures.stays

pub returns-clause-stays : goal.returns-clause-stays
returns-clause-stays g c = stays_over c.args.self.now c.queue_claim.new.self c.show.new.self (stays_over c.args.self.now c.follow.new.self c.queue_claim.new.self (stays_over c.args.self.now c.take_in.new.self c.follow.new.self c.take_in.ensures.stays c.follow.ensures.stays) c.queue_claim.ensures.stays) c.show.ensures.stays

pub returns-clause-own : goal.returns-clause-own
returns-clause-own g c = c.show.ensures.own ∙ c.queue_claim.ensures.own ∙ c.follow.ensures.own ∙ c.take_in.ensures.own

pub returns-in_err-queue_claim-clause-own : goal.returns-in_err-queue_claim-clause-own
returns-in_err-queue_claim-clause-own g c = c.queue_claim.ensures.own ∙ c.follow.ensures.own ∙ c.take_in.ensures.own
