-- What a prober makes of a probe: the first that holds (probeNode, state.go).
use Rattle.std.specs.Prelude.{ℕ, Bool, false, nat_le, nat_lt, if◌then◌else◌, Option, Some, None}
use Rattle.memberlist_probes.specs.declared.outcome.Answers.{Answers}
use Rattle.memberlist_probes.specs.declared.outcome.Terms.{Terms}
use Rattle.memberlist_probes.specs.declared.outcome.Outcome.{Outcome}
use Rattle.memberlist_probes.specs.declared.outcome.Outcome.TheVariants.{Answered, Late, Indirect, Tcp, Failed, Open}

-- an answer came by this time
abbrev pub is_by : Option ℕ → ℕ → Bool
is_by None time = false
is_by (Some came) time = nat_le came time

abbrev pub outcome_of : Answers → Terms → Outcome
outcome_of answers terms =
    if is_by answers.direct terms.timeout then Answered
    else if is_by answers.direct terms.deadline then Late
    else if is_by answers.relayed terms.deadline then Indirect
    else if is_by answers.tcp terms.deadline then Tcp
    else if nat_lt terms.end terms.deadline then Open
    else Failed
