use Rattle.swim_table.proofs.Tables.{Reduced-within}
use Rattle.swim_table.proofs.Showing.{name_shown, top_stands, home_is_newest}
use Rattle.swim_table.proofs.laws.nothing_lost_nothing_invented.Goals as goal

pub returns-clause-shown : goal.returns-clause-shown
returns-clause-shown c = name_shown

pub returns-clause-made : goal.returns-clause-made
returns-clause-made c = Reduced-within

pub returns-clause-stands : goal.returns-clause-stands
returns-clause-stands c = top_stands

pub returns-clause-home : goal.returns-clause-home
returns-clause-home c = home_is_newest
