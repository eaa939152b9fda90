use Rattle.serf_view.proofs.Mirrored.{magnitude_swap, round_trip_swap}
use Rattle.serf_view.proofs.laws.there_and_back.Goals as goal

pub returns-clause-places : goal.returns-clause-places
returns-clause-places c = magnitude_swap

pub returns-clause-members : goal.returns-clause-members
returns-clause-members c = round_trip_swap
