use Rattle.swim_laws.proofs.Members.{member_steps, others_stay, member_kept, waits, forgets}
use Rattle.swim_laws.proofs.Running.{member_runs}
use Rattle.swim_laws.proofs.laws.a_member_hears_as_state_go.Goals as goal

pub returns-clause-step : goal.returns-clause-step
returns-clause-step c = member_steps

pub returns-clause-others : goal.returns-clause-others
returns-clause-others c = others_stay

pub returns-clause-member : goal.returns-clause-member
returns-clause-member c = member_kept

pub returns-clause-waits : goal.returns-clause-waits
returns-clause-waits c = waits

pub returns-clause-forgets : goal.returns-clause-forgets
returns-clause-forgets c = forgets

pub returns-clause-run : goal.returns-clause-run
returns-clause-run c = λ wait heard name. member_runs wait name heard
