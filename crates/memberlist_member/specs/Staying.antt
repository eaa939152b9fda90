-- What a member puts out from call to call, and what stays of it.
use Rattle.std.specs.Prelude.{◌≡◌, ℕ, ◌+◌, ◌*◌, ◌-◌, ◌^◌, ◌≤◌, ◌⊎◌, min, if◌then◌else◌, List, Some, IfSome}
use Rattle.memberlist_member.specs.Probes.{IsAnswer}
use Rattle.memberlist_member.specs.Traffic.{PutsOutAtMost}
use Rattle.memberlist_member.specs.declared.config.Config.{Config}
use Rattle.memberlist_member.specs.declared.member.Member.{Member}
use Rattle.memberlist_member.specs.declared.probe.Probe.{Probe}

-- the member puts out at most so many more
abbrev pub Adds : ℕ → ℕ → ℕ → Member → Member → Type 0
Adds d c w old new = PutsOutAtMost d c w old.out.list.items new.out.list.items

-- its time, configuration, keys, label and name stay; its incarnation never falls
abbrev pub StaysItself : Member → Member → Type 0
StaysItself old new =
    (new.time ≡ old.time) × (new.settings ≡ old.settings) × (new.cover ≡ old.cover)
    × (new.own.name ≡ old.own.name) × (old.own.inc ≤ new.own.inc)

-- and so do its details, its seeds, and whether it leaves
abbrev pub StaysButTimes : Member → Member → Type 0
StaysButTimes old new =
    StaysItself old new × (new.own.details ≡ old.own.details) × (new.own.is_leaving ≡ old.own.is_leaving)
    × (new.seeds ≡ old.seeds)

-- and so does what is due at times
abbrev pub StaysButProbe : Member → Member → Type 0
StaysButProbe old new = StaysButTimes old new × (new.times ≡ old.times)

-- and the probe
abbrev pub Stays : Member → Member → Type 0
Stays old new = StaysButProbe old new × (new.probe ≡ old.probe)

-- what it shows, and for whom it waits
abbrev pub ShowsTheSame : Member → Member → Type 0
ShowsTheSame old new = (new.view ≡ old.view) × (new.suspicions ≡ old.suspicions)

-- no probe runs that an ack with this number answers
abbrev pub HasNoProbe : ℕ → Member → Type 0
HasNoProbe seq m = IfSome m.probe (λ probe. ¬ IsAnswer probe seq m.time)

-- probes that are answered stay so
abbrev pub KeepsAnswered : Member → Member → Type 0
KeepsAnswered old new = (seq : ℕ) → HasNoProbe seq old → HasNoProbe seq new

-- its probe has this number, asks this member at this incarnation, and ends then
abbrev pub IsProbing : ℕ → List ℕ → ℕ → ℕ → Member → Type 0
IsProbing seq name inc due m = (probe : Probe) × (m.probe ≡ Some probe) × (probe.seq ≡ seq) × (probe.name ≡ name)
    × (probe.inc ≡ inc) × (probe.due ≡ due)

-- no probe begins
abbrev pub BeginsNoProbe : Member → Member → Type 0
BeginsNoProbe old new =
    (seq : ℕ) (name : List ℕ) (inc due : ℕ) → IsProbing seq name inc due new → IsProbing seq name inc due old

-- a probe that ends then has the probe interval, or longer
abbrev pub HasInterval : Member → ℕ → Type 0
HasInterval m due = min (m.time + 1000 * m.settings.probe_interval) (2 ^ 64 - 1) ≤ due

-- a probe that begins has its time
abbrev pub BeginsInTime : Member → Member → Type 0
BeginsInTime old new = (seq : ℕ) (name : List ℕ) (inc due : ℕ) → IsProbing seq name inc due new
    → IsProbing seq name inc due old ⊎ HasInterval new due

-- so many, but none by a silent member
abbrev pub unless_silent : Config → ℕ → ℕ
unless_silent config n = if config.is_silent then 0 else n
