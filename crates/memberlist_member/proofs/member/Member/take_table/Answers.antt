use Rattle.std.proofs.Common.{map, subst, sym, ◌∙◌}
use Rattle.std.specs.List.{All, Contains}
use Rattle.memberlist_member.specs.Reading.{IsRead}
use Rattle.memberlist_member.specs.Saying.{said_in_table}
use Rattle.memberlist_member.specs.Tables.{BeginsWithTable}
use Rattle.memberlist_member.proofs.Lines.{all_in_table, said_all}
use Rattle.memberlist_member.proofs.Carrying.{stays_over}
use Rattle.memberlist_member.proofs.member.Member.take_table.Goals as goal

pub returns-in_err-merge_all-in-Table-clause-goes : goal.returns-in_err-merge_all-in-Table-clause-goes
returns-in_err-merge_all-in-Table-clause-goes g c =
    let m = c.args.self.now in
    let claims = c.in-Table.claims.items in
    let told = map (said_in_table m.own.name) claims in
    let begins : BeginsWithTable c.args.message.now claims =
    subst (λ s. IsRead s c.args.message.now) c.in-Table.is c.in_ok-read_stream.ensures in
    let ((((time, settings, cover, name, rises), details, leaving, seeds), times), probe) = c.answer_table.ensures.stays in
    let ((((time_after, settings_after, cover_after, name_after, rises_after), details_after, leaving_after, seeds_after), times_after), probe_after) =
    c.hang_up-in-Table.ensures.stays in
    let each : All (λ each. Contains told (said_in_table c.hang_up-in-Table.new.self.own.name each)) claims =
    subst (λ n. All (λ each. Contains told (said_in_table n each)) claims) (sym (name_after ∙ name)) (said_all m.own.name claims) in (
      told,
      all_in_table c.args.message.now m claims begins,
      λ first word before. c.merge_all.ensures.goes told each first word (c.hang_up-in-Table.ensures.goes told first word
          (c.answer_table.ensures.goes told first word before)),
    )

pub returns-in_ok-merge_all-in-Table-clause-goes : goal.returns-in_ok-merge_all-in-Table-clause-goes
returns-in_ok-merge_all-in-Table-clause-goes g c =
    let m = c.args.self.now in
    let claims = c.in-Table.claims.items in
    let told = map (said_in_table m.own.name) claims in
    let begins : BeginsWithTable c.args.message.now claims =
    subst (λ s. IsRead s c.args.message.now) c.in-Table.is c.in_ok-read_stream.ensures in
    let ((((time, settings, cover, name, rises), details, leaving, seeds), times), probe) = c.answer_table.ensures.stays in
    let ((((time_after, settings_after, cover_after, name_after, rises_after), details_after, leaving_after, seeds_after), times_after), probe_after) =
    c.hang_up-in-Table.ensures.stays in
    let each : All (λ each. Contains told (said_in_table c.hang_up-in-Table.new.self.own.name each)) claims =
    subst (λ n. All (λ each. Contains told (said_in_table n each)) claims) (sym (name_after ∙ name)) (said_all m.own.name claims) in (
      told,
      all_in_table c.args.message.now m claims begins,
      λ first word before. c.show_state.ensures.goes told first word (c.merge_all.ensures.goes told each first word
          (c.hang_up-in-Table.ensures.goes told first word (c.answer_table.ensures.goes told first word before))),
    )

pub returns-in_err-merge_all-in-Table-clause-lines : goal.returns-in_err-merge_all-in-Table-clause-lines
returns-in_err-merge_all-in-Table-clause-lines g c conn came line =
    c.answer_table.ensures.lines conn came (c.hang_up-in-Table.ensures.lines conn came
    (c.merge_all.ensures.lines conn came line))

pub returns-in_ok-merge_all-in-Table-clause-lines : goal.returns-in_ok-merge_all-in-Table-clause-lines
returns-in_ok-merge_all-in-Table-clause-lines g c conn came line =
    c.answer_table.ensures.lines conn came (c.hang_up-in-Table.ensures.lines conn came
    (c.merge_all.ensures.lines conn came (c.show_state.ensures.lines conn came line)))

pub returns-in_err-merge_all-in-Table-clause-stays : goal.returns-in_err-merge_all-in-Table-clause-stays
returns-in_err-merge_all-in-Table-clause-stays g c = stays_over c.args.self.now c.hang_up-in-Table.new.self c.merge_all.new.self (stays_over c.args.self.now c.answer_table.new.self c.hang_up-in-Table.new.self c.answer_table.ensures.stays c.hang_up-in-Table.ensures.stays) c.merge_all.ensures.stays

pub returns-in_ok-merge_all-in-Table-clause-stays : goal.returns-in_ok-merge_all-in-Table-clause-stays
returns-in_ok-merge_all-in-Table-clause-stays g c = stays_over c.args.self.now c.merge_all.new.self c.show_state.new.self (stays_over c.args.self.now c.hang_up-in-Table.new.self c.merge_all.new.self (stays_over c.args.self.now c.answer_table.new.self c.hang_up-in-Table.new.self c.answer_table.ensures.stays c.hang_up-in-Table.ensures.stays) c.merge_all.ensures.stays) c.show_state.ensures.stays

pub returns-in_err-hang_up-in-Table-clause-lines : goal.returns-in_err-hang_up-in-Table-clause-lines
returns-in_err-hang_up-in-Table-clause-lines g c conn came line = c.answer_table.ensures.lines conn came (c.hang_up-in-Table.ensures.lines conn came line)

pub returns-in_err-hang_up-in-Table-clause-stays : goal.returns-in_err-hang_up-in-Table-clause-stays
returns-in_err-hang_up-in-Table-clause-stays g c = stays_over c.args.self.now c.answer_table.new.self c.hang_up-in-Table.new.self c.answer_table.ensures.stays c.hang_up-in-Table.ensures.stays

pub returns-in-Refused-clause-lines : goal.returns-in-Refused-clause-lines
returns-in-Refused-clause-lines g c conn came line = c.refuse.ensures.lines conn came (c.hang_up.ensures.lines conn came line)

pub returns-in-Refused-clause-stays : goal.returns-in-Refused-clause-stays
returns-in-Refused-clause-stays g c = stays_over c.args.self.now c.refuse.new.self c.hang_up.new.self c.refuse.ensures.stays c.hang_up.ensures.stays
