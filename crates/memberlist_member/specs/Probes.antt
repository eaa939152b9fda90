-- A probe of a member.
use Rattle.std.specs.Prelude.{◌≡◌, ℕ, ◌+◌, ◌-◌, ◌≤◌, ◌==◌, ◌&&◌, min, nat_lt, if◌then◌else◌, Option, Some, None}
use Rattle.memberlist_member.specs.declared.probe.Probe.{Probe}

-- an ack answers it that has its number and comes in time
abbrev pub IsAnswer : Probe → ℕ → ℕ → Type 0
IsAnswer probe seq now = (probe.seq ≡ seq) × (now ≤ probe.due)

-- nackRespPayload: a nack counts that has its number, and none more than are to come
abbrev pub with_nack : Probe → ℕ → Probe
with_nack probe seq =
    if (probe.seq == seq) && nat_lt probe.nacks probe.expected
    then record probe { nacks = probe.nacks + 1 } else probe

-- probeNode: by each nack that did not come, or by one if none was to come
abbrev pub penalty_of : Probe → ℕ
penalty_of probe = if probe.expected == 0 then 1 else probe.expected - probe.nacks

-- when others are asked, or it ends, whichever is first
abbrev pub first_of : Option ℕ → ℕ → ℕ
first_of None due = due
first_of (Some ask_at) due = min ask_at due
