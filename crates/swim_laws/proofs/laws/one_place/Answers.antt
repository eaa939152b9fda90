use Rattle.std.proofs.Common.{None, subst}
use Rattle.swim_claim.specs.declared.claim.Claim.TheVariants.{Alive}
use Rattle.swim_table.specs.Table.{IsHomeOf, EntryOf}
use Rattle.memberlist_view.specs.Shown.{shown}
use Rattle.swim_laws.specs.Claims.{claims_of}
use Rattle.swim_laws.proofs.Claimed.{was_claimed, said_alive}
use Rattle.swim_laws.proofs.Under.{was_heard, home_at}
use Rattle.swim_laws.proofs.Placed.{shown_placed, are_known}
use Rattle.swim_laws.proofs.laws.one_place.Goals as goal

pub returns-clause-same : goal.returns-clause-same
returns-clause-same c = λ wait heard name entry table details one of is.
    home_at (claims_of heard) name table of heard (λ c at. at) entry (was_heard wait heard name entry is) one details

pub returns-clause-known : goal.returns-clause-known
returns-clause-known c = λ wait heard name entry table standing inc details of has home sound is here.
    let says = (subst (EntryOf (claims_of heard) name) has (of.each name)).home in
    let made = (subst (IsHomeOf (claims_of heard) name) home says).1.made in
    let w = was_claimed heard (Alive name inc details) made in
    let said = said_alive w.0.said name inc details w.2 in
    are_known inc (shown wait heard name) entry
    (shown_placed inc wait name heard None (w.0, w.1, (details, said.0, said.1, sound))) is here
