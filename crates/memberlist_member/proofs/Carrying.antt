-- What stays from one call to the next stays over both.
use Rattle.std.proofs.Common.{◌∙◌, arith}
use Rattle.memberlist_member.specs.Staying.{Stays, StaysButProbe, StaysButTimes, StaysItself}
use Rattle.memberlist_member.specs.declared.member.Member.{Member}

pub itself_over : (old middle new : Member) → StaysItself old middle → StaysItself middle new → StaysItself old new
itself_over old middle new (time, settings, cover, name, rises) (later_time, later_settings, later_cover, later_name, later_rises) =
    (later_time ∙ time, later_settings ∙ settings, later_cover ∙ cover, later_name ∙ name, omega (arith, rises, later_rises))

pub times_over : (old middle new : Member) → StaysButTimes old middle → StaysButTimes middle new → StaysButTimes old new
times_over old middle new (itself, details, leaving, seeds) (later, later_details, later_leaving, later_seeds) =
    (itself_over old middle new itself later, later_details ∙ details, later_leaving ∙ leaving, later_seeds ∙ seeds)

pub probe_over : (old middle new : Member) → StaysButProbe old middle → StaysButProbe middle new → StaysButProbe old new
probe_over old middle new (others, times) (later, later_times) = (times_over old middle new others later, later_times ∙ times)

pub stays_over : (old middle new : Member) → Stays old middle → Stays middle new → Stays old new
stays_over old middle new (others, probe) (later, later_probe) = (probe_over old middle new others later, later_probe ∙ probe)
