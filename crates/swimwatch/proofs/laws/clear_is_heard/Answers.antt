use Rattle.swimwatch.specs.Views.{HearsDatagram}
use Rattle.memberlist_transport.specs.Stream.{IsStreamIn}
use Rattle.memberlist_transport.specs.Unwrapped.{IsInside}
use Rattle.swimwatch.proofs.laws.clear_is_heard.Goals as goal

pub returns-clause-datagram : goal.returns-clause-datagram
returns-clause-datagram c policy keys label bytes inner messages time old new accepts of closed unwraps read hears =
    HearsDatagram.messages messages of (inner, IsInside.clear accepts closed unwraps, read) hears

pub returns-clause-stream : goal.returns-clause-stream
returns-clause-stream c policy keys bytes stream records time old new accepts is begins understood hears =
    (records, (stream, IsStreamIn.clear accepts is, begins), understood, hears)
