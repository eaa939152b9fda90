-- No suspicion lasts for ever, and no probe ends early.
use Rattle.std.proofs.Common.{◌≡◌, ℕ, ◌+◌, ◌*◌, ◌-◌, ◌/◌, ◌^◌, ◌<◌, ◌≤◌, max, min, inl, inr, false, List, length, Some, refl, sym, subst, ap, arith}
use Rattle.std.proofs.Math.Bridge.{le_prop}
use Rattle.std.proofs.Math.Logic.{∥∥₁_elim}
use Rattle.std.proofs.Math.Nat.{div-le_of_le-mul, mul-le-mul_left, mul-le-mul_right, mul_right_comm}
use Rattle.memberlist_view.specs.Told.{entry_of}
use Rattle.memberlist_view.specs.declared.entry.Entry.{Entry}
use Rattle.memberlist_view.specs.declared.entry.State.TheVariants as state
use Rattle.memberlist_member.specs.Beginning.{IsBegun}
use Rattle.memberlist_member.specs.Histories.{Runs, longest}
use Rattle.memberlist_member.specs.Histories.Lives.{begins, goes_on}
use Rattle.memberlist_member.specs.Staying.{BeginsInTime, IsProbing}
use Rattle.memberlist_member.specs.Steps.{AreWaitedFor, IsWaitedFor, Probes}
use Rattle.memberlist_member.specs.Suspicions.{Span}
use Rattle.memberlist_member.specs.declared.config.Config.{Config}
use Rattle.memberlist_member.specs.declared.input.Input.{Input}
use Rattle.memberlist_member.specs.declared.input.Input.TheVariants as input
use Rattle.memberlist_member.specs.declared.member.Member.{Member}
use Rattle.memberlist_member.proofs.Histories.{later_on}
use Rattle.memberlist_member.proofs.Suspecting.{between}

-- ---- suspicions

ten_times : (mult interval thousandths : ℕ) → thousandths < 10000
    → mult * max 1000 thousandths * interval / 1000 ≤ 10 * (mult * interval)
ten_times mult interval thousandths few =
    let less : mult * max 1000 thousandths ≤ mult * 10000 = mul-le-mul_left mult (let le : max 1000 thousandths ≤ 10000 = omega (arith, few) in le) in
    let all : mult * max 1000 thousandths * interval ≤ mult * 10000 * interval = mul-le-mul_right interval less in
    let round : mult * 10000 * interval ≡ mult * interval * 10000 = mul_right_comm mult 10000 interval in
    let turned : mult * 10000 * interval ≡ 1000 * (10 * (mult * interval)) = omega (arith, round) in
    div-le_of_le-mul 1000 (subst (λ n. mult * max 1000 thousandths * interval ≤ n) turned all)

most_of : (config : Config) (span : Span) → IsBegun config span
    → span.most ≤ config.suspicion_max_timeout_mult * (10 * (config.suspicion_mult * config.probe_interval))
most_of config span begun =
    subst (λ n. n ≤ config.suspicion_max_timeout_mult * (10 * (config.suspicion_mult * config.probe_interval))) (sym begun.most)
    (mul-le-mul_left config.suspicion_max_timeout_mult
    (subst (λ n. n ≤ 10 * (config.suspicion_mult * config.probe_interval)) (sym begun.least)
    (ten_times config.suspicion_mult config.probe_interval begun.thousandths begun.few)))

waited : (config : Config) (now : ℕ) (entry : Entry) (by : List (List ℕ)) → IsWaitedFor config now entry by → now < entry.since + longest config
waited config now entry by w =
    let (r, lasts, is) = w.until in
    let lasts_so = (between w.span.wanted (min w.span.wanted (length by - 1)) w.span.least w.span.most r (omega arith) w.begun.ordered lasts).1 in
    let most = most_of config w.span w.begun in
    let whole : longest config ≡ 1000 * (config.suspicion_max_timeout_mult * (10 * (config.suspicion_mult * config.probe_interval))) = refl in
    omega (arith, w.later, is, lasts_so, most, whole)

pub ends_in_time : (m : Member) (name : List ℕ) (entry : Entry) (by : List (List ℕ)) → AreWaitedFor m → m.settings.is_silent ≡ false
    → entry_of m.view name ≡ Some entry → entry.state ≡ state.Suspect by → m.time < entry.since + longest m.settings
ends_in_time m name entry by waits loud shown is =
    ∥∥₁_elim (waits loud name entry by shown is) le_prop (λ w. waited m.settings m.time entry by w)

-- ---- probes

in_time : (what : Input) (old new : Member) → Probes what old new → BeginsInTime old new
in_time input.Tick old new begins_so = begins_so
in_time (input.Datagram from bytes) old new none = λ seq name inc due probing. inl (none seq name inc due probing)
in_time (input.Accepted conn) old new none = λ seq name inc due probing. inl (none seq name inc due probing)
in_time (input.Connected conn) old new none = λ seq name inc due probing. inl (none seq name inc due probing)
in_time (input.Received conn bytes) old new none = λ seq name inc due probing. inl (none seq name inc due probing)
in_time (input.Closed conn) old new none = λ seq name inc due probing. inl (none seq name inc due probing)
in_time (input.Join seeds) old new none = λ seq name inc due probing. inl (none seq name inc due probing)
in_time input.Leave old new none = λ seq name inc due probing. inl (none seq name inc due probing)
in_time (input.Update meta) old new none = λ seq name inc due probing. inl (none seq name inc due probing)
in_time (input.Say bytes) old new none = λ seq name inc due probing. inl (none seq name inc due probing)
in_time (input.State bytes) old new none = λ seq name inc due probing. inl (none seq name inc due probing)

pub ends_no_earlier : (first last : Member) (seq : ℕ) (name : List ℕ) (inc due : ℕ) → Runs first last → IsProbing seq name inc due last
    → due < min (first.time + 1000 * first.settings.probe_interval) (2 ^ 64 - 1) → IsProbing seq name inc due first
ends_no_earlier first _ seq name inc due begins probing soon = probing
ends_no_earlier first last seq name inc due (goes_on {old} {new} now what step such before) probing soon =
    let here = later_on (goes_on now what step such before) in
    elim (in_time what old new step.probes seq name inc due probing) [
      | inl was ↦ ends_no_earlier first old seq name inc due before was soon
      | inr long ↦
          let settings : 1000 * new.settings.probe_interval ≡ 1000 * first.settings.probe_interval =
          ap (λ (c : Config). 1000 * c.probe_interval) here.settings in
          absurd (omega (arith, long, soon, settings, here.time))
    ]
