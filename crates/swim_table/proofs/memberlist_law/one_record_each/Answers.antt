use Rattle.swim_table.proofs.MemberlistStreams.{told_of_within, one_told, told_if_sound, latest}
use Rattle.swim_table.proofs.memberlist_law.one_record_each.Goals as goal

pub returns-clause-within : goal.returns-clause-within
returns-clause-within c = told_of_within

pub returns-clause-one : goal.returns-clause-one
returns-clause-one c = one_told

pub returns-clause-told : goal.returns-clause-told
returns-clause-told c = told_if_sound

pub returns-clause-latest : goal.returns-clause-latest
returns-clause-latest c = latest
