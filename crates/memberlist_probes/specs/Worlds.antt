-- What may become of a probe: the ping that a prober sends to its target, and the ack.
use Rattle.std.specs.Prelude.{◌≡◌, ℕ, ◌-◌, ◌/◌, ◌≤◌, nat_eq, nat_lt, nat_le, if◌then◌else◌, Option, Some, None, IsSome}
use Rattle.std.specs.Prelude.{IfSome, List, [], ◌∷◌}
use Rattle.std.specs.List.{AllByRecursion}
use Rattle.memberlist_probes.specs.declared.explanation.Explanation.{Explanation}
use Rattle.memberlist_probes.specs.declared.explanation.Explanation.TheVariants as explanation

-- A packet is sent when it leaves a host and arrives when it comes to one. An ack is read when the
-- prober's agent takes it in. The target's host refuses a ping, or the TCP connection by which the
-- prober tries again, if no process has the port.
pub data Step : Type 0 where
  ping_sent : Step
  ping_arrived : Step
  refused : Step
  ack_sent : Step
  ack_arrived : Step
  ack_read : Step

pub record Event : Type 0 where
  pub step : Step
  pub time : ℕ

abbrev pub World : Type 0
World = List Event

unfoldable pub number : Step → ℕ
number ping_sent = 0
number ping_arrived = 1
number refused = 2
number ack_sent = 3
number ack_arrived = 4
number ack_read = 5

-- when the step happened; of a packet that the network doubles, the first counts
unfoldable pub when : Step → World → Option ℕ
when step [] = None
when step (event ∷ events) =
    if nat_eq (number step) (number event.step) then Some event.time else when step events

-- the step that comes before
unfoldable pub needs : Step → Option Step
needs ping_sent = None
needs ping_arrived = Some ping_sent
needs refused = None
needs ack_sent = Some ping_arrived
needs ack_arrived = Some ack_sent
needs ack_read = Some ack_arrived

-- the step that comes before happened, and no later
abbrev pub IsAfter : Option ℕ → ℕ → Type 0
IsAfter before time = (earlier : ℕ) × (before ≡ Some earlier) × (earlier ≤ time)

abbrev pub IsCaused : World → Event → Type 0
IsCaused world event = IfSome (needs event.step) (λ step. IsAfter (when step world) event.time)

-- The ping was sent, each step follows the one before it, and who refuses does not answer: the
-- process at the target neither ends nor starts while the probe lasts.
pub record Obeys (world : World) : Type 0 where
  pub sent : IsSome (when ping_sent world)
  pub caused : AllByRecursion (IsCaused world) world
  pub refuses : IsSome (when refused world) → when ack_sent world ≡ None

-- ---- why the prober had no answer in time

-- by how long the ack took in all, and how long the target took
abbrev pub late_by : ℕ → ℕ → ℕ → Explanation
late_by timeout whole own =
    if nat_le whole timeout then explanation.Unread
    else if nat_lt (whole / 2) own then explanation.AnswerLate
    else explanation.WaySlow

-- by when the target refused, the ping was sent and arrived, and the ack was sent and arrived
unfoldable pub told_by : ℕ → Option ℕ → Option ℕ → Option ℕ → Option ℕ → Option ℕ → Explanation
told_by timeout (Some refusal) sent asked answered returned = explanation.Refused
told_by timeout None None asked answered returned = explanation.PingLost
told_by timeout None (Some sent) None answered returned = explanation.PingLost
told_by timeout None (Some sent) (Some asked) None returned = explanation.Silent
told_by timeout None (Some sent) (Some asked) (Some answered) None = explanation.AnswerLost
told_by timeout None (Some sent) (Some asked) (Some answered) (Some returned) =
    late_by timeout (returned - sent) (answered - asked)

-- why no answer was read within the timeout
abbrev pub truth : ℕ → World → Explanation
truth timeout world = told_by timeout (when refused world) (when ping_sent world)
    (when ping_arrived world) (when ack_sent world) (when ack_arrived world)
