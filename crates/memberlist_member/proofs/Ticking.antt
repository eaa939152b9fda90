-- What a tick tells a member.
use Rattle.std.proofs.Common.{◌≡◌, ℕ, ◌≤◌, ◌⊎◌, inl, inr, nat_le, Bool, true, false, if◌then◌else◌, List, [], ◌∷◌, ◌++◌, get_or, Option, Some, None, refl, sym, subst, ap, arith, leb-true, le-leb}
use Rattle.std.specs.List.{All, Contains}
use Rattle.std.proofs.lemmas.List.Elements.{All-append}
use Rattle.swim_claim.specs.declared.claim.Claim.TheVariants.{Suspect}
use Rattle.memberlist_view.specs.declared.heard.Said.{Said}
use Rattle.memberlist_member.specs.Claims.{packet_of}
use Rattle.memberlist_member.specs.Saying.{said_of}
use Rattle.memberlist_member.specs.Showing.{GoesBy, GoesByLines, GoesByTime, GoesOn, IsToldAnywhere, IsToldByTime, IsUnanswered, KeepsLines}
use Rattle.memberlist_member.specs.Staying.{BeginsNoProbe}
use Rattle.memberlist_member.specs.declared.member.Member.{Member}
use Rattle.memberlist_member.specs.declared.probe.Probe.{Probe}
use Rattle.memberlist_member.proofs.Members.{all_from, contains_from_in}
use Rattle.memberlist_member.proofs.Lines.{said_over_too}
use Rattle.memberlist_member.proofs.Showing.{IsSame, goes_by_more, left_more, right_more, unanswered_before}

abbrev its_suspicion : List ℕ → Probe → Said
its_suspicion me probe = said_of (packet_of (Suspect probe.name probe.inc) me) true

-- the suspicion of the member that is probed, if the time of the probe is over
abbrev said_of_probe : ℕ → List ℕ → Option Probe → List Said
said_of_probe now me None = []
said_of_probe now me (Some probe) = if nat_le probe.due now then its_suspicion me probe ∷ [] else []

is_unanswered : (now : ℕ) (m : Member) (o : Option Probe) → m.probe ≡ o → All (IsUnanswered now m) (said_of_probe now m.own.name o)
is_unanswered now m None is = λ k d less. absurd (omega (arith, less))
is_unanswered now m (Some probe) is = cases (nat_le probe.due now) refl where
  cases : (b : Bool) → nat_le probe.due now ≡ b → All (IsUnanswered now m) (if b then its_suspicion m.own.name probe ∷ [] else [])
  cases false late = λ k d less. absurd (omega (arith, less))
  cases true late = all_from (IsUnanswered now m) (its_suspicion m.own.name probe ∷ []) (λ said within. one said within) where
    one : (said : Said) → (its_suspicion m.own.name probe ≡ said) ⊎ ⊥ → IsUnanswered now m said
    one said (inl same) = (probe, is, leb-true probe.due now late, sym same)
    one said (inr none) = absurd none

is_among : (now : ℕ) (me : List ℕ) (o : Option Probe) (probe : Probe) → o ≡ Some probe → probe.due ≤ now
    → Contains (said_of_probe now me o) (its_suspicion me probe)
is_among now me None probe is late = absurd (cc (is))
is_among now me (Some other) probe is late = cases (nat_le other.due now) refl where
  same : other ≡ probe
  same = cc (is)

  cases : (b : Bool) → nat_le other.due now ≡ b → Contains (if b then its_suspicion me other ∷ [] else []) (its_suspicion me probe)
  cases true over = contains_from_in (its_suspicion me other ∷ []) (its_suspicion me probe) (inl (ap (its_suspicion me) same))
  cases false over =
      let over_too : nat_le other.due now ≡ true = le-leb other.due now (subst (λ (p : Probe). p.due ≤ now) (sym same) late) in
      absurd (cc (over, over_too))

-- first what came over connections, and then its own probe
pub by_time : (old middle new : Member) → IsSame old middle → IsSame middle new → GoesByLines old middle → BeginsNoProbe old middle
    → ((told : List Said) → ((said : Said) → IsUnanswered middle.time middle said → Contains told said) → GoesBy told middle new)
    → GoesByTime old new
by_time old middle new same later (told, each, goes) keeps accuses =
    let more = said_of_probe middle.time middle.own.name middle.probe in (
      told ++ more,
      All-append (IsToldByTime old.time old) told more (λ k d less. inr (each k d less))
          (λ k d less. inl (subst (λ t. IsUnanswered t old (get_or more k d)) same.time
          (unanswered_before old middle keeps same.name middle.time (get_or more k d) (is_unanswered middle.time middle middle.probe refl k d less)))),
      λ first word before.
          goes_by_more middle new more (told ++ more) later (right_more told more)
          (accuses more (λ said (probe, is, over, says). subst (Contains more) (sym says) (is_among middle.time middle.own.name middle.probe probe is over)))
          first word (goes_by_more old middle told (told ++ more) same (left_more told more) goes first word before),
    )

-- what came over connections, alone
pub by_lines : (old new : Member) → GoesByLines old new → GoesByTime old new
by_lines old new (told, each, goes) = (told, (λ k d less. inr (each k d less)), goes)

pub then_on : (old middle new : Member) → GoesByTime old middle → GoesOn middle new → GoesByTime old new
then_on old middle new (told, each, goes) later = (told, each, λ first word before. later told first word (goes first word before))

-- what is said over lines is said over those that were there before
pub anywhere_before : (old middle : Member) → KeepsLines old middle → middle.cover ≡ old.cover → middle.own.name ≡ old.own.name
    → (told : List Said) → All (IsToldAnywhere middle) told → All (IsToldAnywhere old) told
anywhere_before old middle keeps cover name told all k d less =
    let (conn, (came, has, says)) = all k d less in
    (conn, (came, keeps conn came has, said_over_too old middle cover name came (get_or told k d) says))
