-- From one view to another.
use Rattle.std.proofs.Common.{◌≡◌, ℕ, ◌+◌, ◌*◌, ◌-◌, ◌^◌, ◌≤◌, min, inl, inr, Bool, true, false, if◌then◌else◌, List, [], ◌∷◌, ◌++◌, refl, sym, subst, ap, ◌∙◌, arith, Option, Some, Result, Ok, Err, OnOk, OnErr}
use Rattle.std.proofs.Math.Logic.{∥∥₁_map}
use Rattle.std.proofs.lemmas.List.Elements.{All-cons, All-nil}
use Rattle.std.specs.List.{All, Any, Contains, flat_map}
use Rattle.std.specs.declared.alloc.AllocError.{AllocError}
use Rattle.swim_claim.specs.Claim.{name_of}
use Rattle.swim_claim.specs.declared.claim.Claim.{Claim}
use Rattle.swim_claim.specs.declared.claim.Claim.TheVariants as claim
use Rattle.swim_wire.specs.Packet.{PacketValue}
use Rattle.swim_wire.specs.declared.fault.WireFault.{WireFault}
use Rattle.memberlist_message.specs.Messages.{MessageValue, message_of}
use Rattle.memberlist_view.specs.Heard.{about}
use Rattle.memberlist_view.specs.Member.{member_view_after, view_without_dropped}
use Rattle.memberlist_view.specs.Told.{ViewValue, entry_of}
use Rattle.memberlist_view.specs.declared.entry.Entry.{Entry}
use Rattle.memberlist_view.specs.declared.entry.State.TheVariants as state
use Rattle.memberlist_view.specs.declared.event.Event.{Event}
use Rattle.memberlist_view.specs.declared.heard.Said.{Said}
use Rattle.memberlist_member.specs.Beginning.{IsBegun}
use Rattle.memberlist_member.specs.Claims.{dead_by, packet_of}
use Rattle.memberlist_member.specs.Owns.{outdone}
use Rattle.memberlist_member.specs.Staying.{BeginsInTime, BeginsNoProbe, StaysItself}
use Rattle.std.specs.Str.{bytes_eq}
use Rattle.memberlist_member.specs.Showing.{Arrives, GoesBy, GoesOn, HasGround, IsOwnWord, IsSaidIn, IsSuspectedForLong, IsUnanswered, IsGround, Reaches, Tells, Went}
use Rattle.memberlist_member.specs.Saying.{inc_in, said_by, said_of}
use Rattle.memberlist_member.specs.Showing.HasGround.{is_told, is_over}
use Rattle.memberlist_member.specs.Showing.Reaches.{here, hears, tells, refutes, forgets}
use Rattle.memberlist_member.specs.Suspects.{IsDueAt, IsDueIn, IsOver}
use Rattle.memberlist_member.specs.declared.config.Config.{Config}
use Rattle.memberlist_member.specs.declared.member.Member.{Member}
use Rattle.memberlist_member.specs.declared.own.Own.{Own}
use Rattle.memberlist_member.proofs.Members.{In, all_from, append_in, contains_from_in, flat_map_in, in_flat_map, in_from_contains}

-- ---- what is said, and about whom

pub about_claim : (from : List ℕ) (joins : _) (c : Claim) → about (said_by from joins c) ≡ name_of c
about_claim from joins (claim.Alive name inc details) = refl
about_claim from joins (claim.Suspect name inc) = refl
about_claim from joins (claim.Confirm name inc) = refl
about_claim from joins (claim.Leave name inc) = refl

pub about_death : (name : List ℕ) (inc : ℕ) (me : List ℕ) → about (said_of (packet_of (dead_by name inc me) me) true) ≡ name
about_death name inc me = cases (bytes_eq name me) where
  cases : (b : Bool) → about (said_by me true (if b then claim.Leave name inc else claim.Confirm name inc)) ≡ name
  cases true = refl
  cases false = refl

-- ---- the view after something was heard

pub after_hearing : (told : List Said) (m : Member) (new : ViewValue) (said what : Said) (result : Result (Option Event) AllocError)
    (first : ViewValue) (word : Own) → IsGround told m what → said ≡ what
    → OnOk result (new ≡ member_view_after m.view (record { time = m.time; said = said })) → OnErr result (new ≡ m.view)
    → Arrives told first word m → Reaches m.settings m.own.name m.time told first word new m.own
after_hearing told m new said what (Err error) first word ground is step same before =
    subst (λ v. Reaches m.settings m.own.name m.time told first word v m.own) (sym same) before
after_hearing told m new said what (Ok event) first word ground is step same before =
    subst (λ v. Reaches m.settings m.own.name m.time told first word v m.own) (sym step)
    (hears said (subst (HasGround m.settings m.own.name m.time told m.view) (sym is) ground) before)

pub after_telling : (told : List Said) (m : Member) (new : ViewValue) (said : Said) (packet : PacketValue)
    (result : Result (Option Event) AllocError) (first : ViewValue) (word : Own) → IsOwnWord told m packet → said ≡ said_of packet true
    → OnOk result (new ≡ member_view_after m.view (record { time = m.time; said = said })) → OnErr result (new ≡ m.view)
    → Arrives told first word m → Reaches m.settings m.own.name m.time told first word new m.own
after_telling told m new said packet result first word (inr among) is step same before =
    after_hearing told m new said (said_of packet true) result first word (is_told among) is step same before
after_telling told m new said packet (Err error) first word (inl alive) is step same before =
    subst (λ v. Reaches m.settings m.own.name m.time told first word v m.own) (sym same) before
after_telling told m new said packet (Ok event) first word (inl alive) is step same before =
    subst (λ v. Reaches m.settings m.own.name m.time told first word v m.own) (sym step)
    (subst (λ x. Reaches m.settings m.own.name m.time told first word (member_view_after m.view (record { time = m.time; said = x })) m.own)
    (sym (is ∙ ap (λ p. said_of p true) alive)) (tells before))

pub after_refuting : (told : List Said) (m : Member) (own : Own) (accused : ℕ) (said : Said) (first : ViewValue) (word : Own)
    → IsGround told m said → about said ≡ m.own.name → m.own.is_leaving ≡ false → inc_in said ≡ accused → m.own.inc ≤ accused
    → own ≡ outdone m.own accused → Arrives told first word m → Reaches m.settings own.name m.time told first word m.view own
after_refuting told m own accused said first word ground itself stays is rises outdoes before =
    subst (λ o. Reaches m.settings o.name m.time told first word m.view o) (sym outdoes)
    (subst (λ n. Reaches m.settings m.own.name m.time told first word m.view (outdone m.own n)) is
    (refutes said ground itself stays (subst (λ n. m.own.inc ≤ n) (sym is) rises) before))

-- what else changes is not shown
pub arrives_as : (told : List Said) (first : ViewValue) (word : Own) (old new : Member) → new.time ≡ old.time → new.settings ≡ old.settings
    → new.own ≡ old.own → Reaches old.settings old.own.name old.time told first word new.view old.own → Arrives told first word new
arrives_as told first word old new time settings own there =
    subst (λ t. Reaches new.settings new.own.name t told first word new.view new.own) (sym time)
    (subst (λ c. Reaches c new.own.name old.time told first word new.view new.own) (sym settings)
    (subst (λ o. Reaches old.settings o.name old.time told first word new.view o) (sym own) there))

-- ---- told more

more_grounds : (config : Config) (me : List ℕ) (now : ℕ) (few many : List Said) (view : ViewValue) (said : Said)
    → ((s : Said) → Contains few s → Contains many s) → HasGround config me now few view said → HasGround config me now many view said
more_grounds config me now few many view said more (is_told among) = is_told (more said among)
more_grounds config me now few many view said more (is_over name inc long) = is_over name inc long

pub told_more : (config : Config) (me : List ℕ) (now : ℕ) (few many : List Said) (first : ViewValue) (word : Own)
    → ((s : Said) → Contains few s → Contains many s) → {view : ViewValue} {own : Own}
    → Reaches config me now few first word view own → Reaches config me now many first word view own
told_more config me now few many first word more here = here
told_more config me now few many first word more (hears {view} {own} said ground before) =
    hears said (more_grounds config me now few many view said more ground) (told_more config me now few many first word more before)
told_more config me now few many first word more (tells before) = tells (told_more config me now few many first word more before)
told_more config me now few many first word more (refutes {view} {own} said ground itself stays rises before) =
    refutes said (more_grounds config me now few many view said more ground) itself stays rises (told_more config me now few many first word more before)
told_more config me now few many first word more (forgets before) = forgets (told_more config me now few many first word more before)

pub reaches_on : (config : Config) (me : List ℕ) (now : ℕ) (heard : List Said) (first : ViewValue) (word : Own)
    (middle : ViewValue) (next : Own) → Reaches config me now heard first word middle next → {view : ViewValue} {own : Own}
    → Reaches config me now heard middle next view own → Reaches config me now heard first word view own
reaches_on config me now heard first word middle next begun here = begun
reaches_on config me now heard first word middle next begun (hears said ground before) =
    hears said ground (reaches_on config me now heard first word middle next begun before)
reaches_on config me now heard first word middle next begun (tells before) = tells (reaches_on config me now heard first word middle next begun before)
reaches_on config me now heard first word middle next begun (refutes said ground itself stays rises before) =
    refutes said ground itself stays rises (reaches_on config me now heard first word middle next begun before)
reaches_on config me now heard first word middle next begun (forgets before) = forgets (reaches_on config me now heard first word middle next begun before)

-- ---- of members

-- its name, configuration and time stay
pub record IsSame (old new : Member) : Type 0 where
  pub settings : new.settings ≡ old.settings
  pub name : new.own.name ≡ old.own.name
  pub time : new.time ≡ old.time

pub itself : (old new : Member) → StaysItself old new → IsSame old new
itself old new (time, settings, cover, name, rises) = record { settings = settings; name = name; time = time }

pub goes_by_more : (old new : Member) (few many : List Said) → IsSame old new
    → ((s : Said) → Contains few s → Contains many s) → GoesBy few old new → GoesBy many old new
goes_by_more old new few many same more goes first word before =
    let whole = goes old.view old.own here in
    let there : Reaches old.settings old.own.name old.time few old.view old.own new.view new.own =
    subst (λ c. Reaches c old.own.name old.time few old.view old.own new.view new.own) same.settings
    (subst (λ n. Reaches new.settings n old.time few old.view old.own new.view new.own) same.name
    (subst (λ t. Reaches new.settings new.own.name t few old.view old.own new.view new.own) same.time whole)) in
    let now = reaches_on old.settings old.own.name old.time many first word old.view old.own before
    (told_more old.settings old.own.name old.time few many old.view old.own more there) in
    subst (λ c. Reaches c new.own.name new.time many first word new.view new.own) (sym same.settings)
    (subst (λ n. Reaches old.settings n new.time many first word new.view new.own) (sym same.name)
    (subst (λ t. Reaches old.settings old.own.name t many first word new.view new.own) (sym same.time) now))

pub left_more : (few many : List Said) (s : Said) → Contains few s → Contains (few ++ many) s
left_more few many s within = contains_from_in (few ++ many) s (append_in few many s (inl (in_from_contains few s within)))

pub right_more : (few many : List Said) (s : Said) → Contains many s → Contains (few ++ many) s
right_more few many s within = contains_from_in (few ++ many) s (append_in few many s (inr (in_from_contains many s within)))

pub none_told : (P : Said → Type 0) → All P []
none_told P k d below = absurd (omega (arith, below))

-- told nothing
pub untold : (P : Said → Type 0) (old new : Member) → GoesOn old new → (told : List Said) × All P told × GoesBy told old new
untold P old new goes = ([], none_told P, goes [])

-- ---- in a step

-- from where it was
pub went : (told : List Said) (old new : Member) → GoesBy told old new → Went told old.own new.own old new
went told old new goes = goes old.view old.own here

-- ---- in a datagram

-- what a message says
abbrev said_in : Result MessageValue WireFault → List Said
said_in (Ok (MessageValue.claim packet)) = said_of packet true ∷ []
said_in (Ok (MessageValue.ping value)) = []
said_in (Ok (MessageValue.indirect_ping value)) = []
said_in (Ok (MessageValue.ack value)) = []
said_in (Ok (MessageValue.nack value)) = []
said_in (Ok (MessageValue.user value)) = []
said_in (Ok (MessageValue.error value)) = []
said_in (Err fault) = []

abbrev pub all_said : List (List ℕ) → List Said
all_said messages = flat_map (λ m. said_in (message_of m)) messages

it_says : (r : Result MessageValue WireFault) (said : Said) → In said (said_in r)
    → (packet : PacketValue) × (r ≡ Ok (MessageValue.claim packet)) × (said ≡ said_of packet true)
it_says (Ok (MessageValue.claim packet)) said (inl same) = (packet, refl, sym same)
it_says (Ok (MessageValue.claim packet)) said (inr none) = absurd none
it_says (Ok (MessageValue.ping value)) said none = absurd none
it_says (Ok (MessageValue.indirect_ping value)) said none = absurd none
it_says (Ok (MessageValue.ack value)) said none = absurd none
it_says (Ok (MessageValue.nack value)) said none = absurd none
it_says (Ok (MessageValue.user value)) said none = absurd none
it_says (Ok (MessageValue.error value)) said none = absurd none
it_says (Err fault) said none = absurd none

pub said_by_one : (messages : List (List ℕ)) → All (IsSaidIn messages) (all_said messages)
said_by_one messages = all_from (IsSaidIn messages) (all_said messages) (λ said within.
    let (message, there, says) = in_flat_map (λ m. said_in (message_of m)) messages said within in
    let (packet, is, same) = it_says (message_of message) said says in
    (message, contains_from_in messages message there, packet, is, same))

pub all_tell : (messages : List (List ℕ)) → All (Tells (all_said messages)) messages
all_tell messages = all_from (Tells (all_said messages)) messages (λ message within packet is.
    contains_from_in (all_said messages) (said_of packet true)
    (flat_map_in (λ m. said_in (message_of m)) messages message (said_of packet true) within
    (subst (λ r. In (said_of packet true) (said_in r)) (sym is) (inl refl))))

pub forgotten : (m : Member) (new : ViewValue) (told : List Said) (first : ViewValue) (word : Own) → new ≡ view_without_dropped m.view m.time
    → Arrives told first word m → Reaches m.settings m.own.name m.time told first word new m.own
forgotten m new told first word is before =
    subst (λ v. Reaches m.settings m.own.name m.time told first word v m.own) (sym is) (forgets before)

-- ---- a suspicion that is over

-- so it is, if the view shows the member as suspect
pub for_long : (m : Member) (name : List ℕ) (entry : Entry) (by : List (List ℕ)) → entry_of m.view name ≡ Some entry
    → entry.state ≡ state.Suspect by
    → Any (λ suspect. (suspect.name ≡ name) × IsOver m.view m.time suspect) m.suspicions.list.items
    → IsSuspectedForLong m.settings m.view m.time name entry.inc
for_long m name entry by shown suspected (k, suspect, less, is, (same, over)) = record {
  entry = entry;
  by = by;
  span = suspect.suspicion;
  due = over.due;
  shown = shown;
  suspect = suspected;
  at = refl;
  begun = ∥∥₁_map m.begun (λ all. subst (λ x. IsBegun m.settings x.suspicion) is (all k suspect less));
  until = subst (λ s. IsDueIn s entry.since suspect.suspicion over.due) suspected
      (subst (λ o. IsDueAt o suspect.suspicion over.due) shown
      (subst (λ n. IsDueAt (entry_of m.view n) suspect.suspicion over.due) same over.is));
  over = over.over;
}

-- ---- a probe that is over

pub same_probe : (old new : Member) → new.probe ≡ old.probe → BeginsNoProbe old new
same_probe old new same seq name inc due (probe, is, number, who, at, until) = (probe, sym same ∙ is, number, who, at, until)

-- a probe that begins has its time, and then none begins
pub in_time_then : (old middle new : Member) → BeginsInTime old middle → BeginsNoProbe middle new → StaysItself middle new → BeginsInTime old new
in_time_then old middle new first none (time, settings, cover, name, rises) seq who inc due probing =
    elim (first seq who inc due (none seq who inc due probing)) [
      | inl was ↦ inl was
      | inr long ↦ inr (subst (λ t. min (t + 1000 * new.settings.probe_interval) (2 ^ 64 - 1) ≤ due) (sym time)
          (subst (λ c. min (middle.time + 1000 * c.probe_interval) (2 ^ 64 - 1) ≤ due) (sym settings) long))
    ]

pub then_in_time : (old middle new : Member) → BeginsNoProbe old middle → BeginsInTime middle new → BeginsInTime old new
then_in_time old middle new none later seq who inc due probing =
    elim (later seq who inc due probing) [ inl was ↦ inl (none seq who inc due was) | inr long ↦ inr long ]

pub unanswered_before : (old new : Member) → BeginsNoProbe old new → new.own.name ≡ old.own.name → (now : ℕ) (said : Said)
    → IsUnanswered now new said → IsUnanswered now old said
unanswered_before old new none me now said (probe, is, over, says) =
    let (before, was, seq, name, inc, due) = none probe.seq probe.name probe.inc probe.due (probe, is, refl, refl, refl, refl) in (
      before,
      was,
      subst (λ d. d ≤ now) (sym due) over,
      subst (λ n. said ≡ said_of (packet_of (claim.Suspect before.name before.inc) n) true) me
          (subst (λ i. said ≡ said_of (packet_of (claim.Suspect before.name i) new.own.name) true) (sym inc)
          (subst (λ n. said ≡ said_of (packet_of (claim.Suspect n probe.inc) new.own.name) true) (sym name) says)),
    )

-- while its word stays
pub went_on : (told : List Said) (old new : Member) → GoesBy told old new → new.own ≡ old.own → Went told old.own old.own old new
went_on told old new goes same =
    subst (λ o. Reaches new.settings new.own.name new.time told old.view old.own new.view o) same (goes old.view old.own here)

pub one_told : (P : Said → Type 0) (said : Said) → P said → All P (said ∷ [])
one_told P said holds = All-cons P said [] holds (All-nil P)

pub told_one : (said : Said) → Contains (said ∷ []) said
told_one said = contains_from_in (said ∷ []) said (inl refl)
