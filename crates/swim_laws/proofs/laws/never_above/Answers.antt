use Rattle.swim_laws.proofs.Under.{was_heard, state_below, final_from, final_or_from, details_below}
use Rattle.swim_laws.proofs.laws.never_above.Goals as goal

pub returns-clause-state : goal.returns-clause-state
returns-clause-state c = λ wait heard name entry table t is.
    state_below t.0 name table t.1 heard t.2 entry (was_heard wait heard name entry is)

pub returns-clause-gone : goal.returns-clause-gone
returns-clause-gone c = λ wait heard name entry table t is.
    final_from t.0 name table t.1 heard t.2 entry (was_heard wait heard name entry is)

pub returns-clause-here : goal.returns-clause-here
returns-clause-here c = λ wait heard name entry table t is.
    final_or_from t.0 name table t.1 heard t.2 entry (was_heard wait heard name entry is)

pub returns-clause-details : goal.returns-clause-details
returns-clause-details c = λ wait heard name entry table details t is.
    details_below t.0 name table t.1 heard t.2 entry (was_heard wait heard name entry is) details
