use Rattle.memberlist_transport.specs.Packet.{Holds}
use Rattle.memberlist_transport.specs.Stream.{IsStreamIn}
use Rattle.memberlist_transport.specs.Unwrapped.{IsInside, IsInsideStream}
use Rattle.memberlist_transport.proofs.laws.clear_is_read.Goals as goal

pub returns-clause-packets : goal.returns-clause-packets
returns-clause-packets c policy keys bytes message accepts holds = Holds.clear accepts holds

pub returns-clause-streams : goal.returns-clause-streams
returns-clause-streams c limit policy keys bytes stream accepts is = IsStreamIn.clear accepts is

pub returns-clause-inside : goal.returns-clause-inside
returns-clause-inside c policy keys bytes inner accepts closed wraps = IsInside.clear accepts closed wraps

pub returns-clause-inside_stream : goal.returns-clause-inside_stream
returns-clause-inside_stream c limit policy keys bytes inner accepts untried wraps = IsInsideStream.clear accepts untried wraps
