use Rattle.std.proofs.Common.{ℕ, List, []}
use Rattle.std.specs.Prelude.{◌≢◌}
use Rattle.memberlist_keyring.specs.Opening.{Opens, OpensStream}
use Rattle.memberlist_keyring.proofs.OneOpened.{opens_stream}
use Rattle.memberlist_wrap.specs.Wrapping.{Unwraps}
use Rattle.memberlist_transport.specs.declared.in_the_clear.InTheClear.TheVariants.{Refused}
use Rattle.memberlist_transport.specs.declared.message.Message.{Message}
use Rattle.memberlist_transport.specs.Packet.{HoldsClear, Holds, Holds as held, max_message_len}
use Rattle.memberlist_transport.specs.Stream.{IsClearStream, IsStreamIn, IsStreamIn as streams}
use Rattle.memberlist_transport.specs.Unwrapped.{IsInside, IsInside as insides, IsInsideStream, IsInsideStream as within}
use Rattle.memberlist_transport.proofs.Packets.{opens_packet}
use Rattle.memberlist_transport.proofs.laws.heard_was_encrypted.Goals as goal

of_packet : (keys : List (List ℕ)) (bytes : List ℕ) (message : Message) → keys ≢ [] → Holds Refused keys bytes message
    → (inner : List ℕ) × Opens keys bytes inner × HoldsClear inner message
of_packet keys bytes message some (held.clear none holds) = absurd (some none)
of_packet keys bytes message some (held.opened inner unclear opens holds) = (inner, opens_packet keys bytes inner opens, holds)

of_stream : (limit : ℕ) (keys : List (List ℕ)) (bytes stream : List ℕ) → keys ≢ [] → IsStreamIn limit Refused keys bytes stream
    → (inner : List ℕ) × OpensStream keys bytes inner × IsClearStream limit inner stream
of_stream limit keys bytes stream some (streams.clear none is) = absurd (some none)
of_stream limit keys bytes stream some (streams.opened inner sealed opens is) = (inner, opens_stream keys bytes inner opens, is)

of_inside : (keys : List (List ℕ)) (bytes inner : List ℕ) → keys ≢ [] → IsInside Refused keys bytes inner
    → (plain : List ℕ) × Opens keys bytes plain × Unwraps max_message_len plain inner
of_inside keys bytes inner some (insides.clear none closed wraps) = absurd (some none)
of_inside keys bytes inner some (insides.opened plain opens wraps) = (plain, opens_packet keys bytes plain opens, wraps)

of_inside_stream : (limit : ℕ) (keys : List (List ℕ)) (bytes inner : List ℕ) → keys ≢ [] → IsInsideStream limit Refused keys bytes inner
    → (plain : List ℕ) × OpensStream keys bytes plain × Unwraps limit plain inner
of_inside_stream limit keys bytes inner some (within.clear none untried wraps) = absurd (some none)
of_inside_stream limit keys bytes inner some (within.opened plain sealed opens wraps) = (plain, opens_stream keys bytes plain opens, wraps)

pub returns-clause-packets : goal.returns-clause-packets
returns-clause-packets c = of_packet

pub returns-clause-streams : goal.returns-clause-streams
returns-clause-streams c = of_stream

pub returns-clause-inside : goal.returns-clause-inside
returns-clause-inside c = of_inside

pub returns-clause-inside_stream : goal.returns-clause-inside_stream
returns-clause-inside_stream c = of_inside_stream
