-- Where only life was claimed, a view follows the top of the claims.
use Rattle.std.proofs.Common.{◌≡◌, ◌≢◌, ℕ, ◌<◌, ◌≤◌, Bool, true, false, nat_lt, nat_le, nat_eq, Option, Some, None, IsSome, IfSome}
use Rattle.std.proofs.Common.{MatchOption, List, [], ◌∷◌, ◌++◌, Contains, if◌then◌else◌, refl, sym, ap, subst, ◌∙◌, inl, inr, arith, eq-eqb}
use Rattle.std.proofs.Common.{append_assoc, append-nil, ◌&&◌}
use Rattle.std.specs.Prelude.{⊤}
use Rattle.std.specs.Option.{option_to_list}
use Rattle.std.specs.Ordering.{is_eq}
use Rattle.std.specs.declared.cmp.Ordering.{Ordering}
use Rattle.std.specs.declared.cmp.Ordering.TheVariants.{Less, Equal, Greater}
use Rattle.std.proofs.lemmas.Bool.Decides.{nat_tests}
use Rattle.std.proofs.lemmas.List.Elements.{Contains-append_left, Contains-append_right}
use Rattle.std.proofs.lemmas.Map.Lookups.{exact_bytes}
use Rattle.swim_claim.specs.declared.claim.Claim.{Claim}
use Rattle.swim_claim.specs.declared.claim.Claim.TheVariants as claim
use Rattle.swim_claim.specs.Claim.{name_of, inc_of, Overrides}
use Rattle.swim_claim.specs.Details.{DetailsValue}
use Rattle.swim_table.specs.Standing.{Standing}
use Rattle.swim_table.specs.Table.{Entries, get, IsAlive, Stands, EntryOf, TableOf}
use Rattle.memberlist_view.specs.declared.entry.Entry.{Entry}
use Rattle.memberlist_view.specs.declared.entry.State.{State}
use Rattle.memberlist_view.specs.declared.entry.State.TheVariants as state
use Rattle.memberlist_view.specs.declared.event.Event.{Event}
use Rattle.memberlist_view.specs.declared.heard.Heard.{Heard}
use Rattle.memberlist_view.specs.declared.heard.Said.{Said}
use Rattle.memberlist_view.specs.declared.heard.Said.TheVariants.{Alive, Suspect, Dead, Left, Seen}
use Rattle.memberlist_view.specs.Heard.{about}
use Rattle.memberlist_view.specs.Rules.{Change, name_cmp, are_sound_versions, is_same_place, is_passed_over, is_gone, is_forgotten}
use Rattle.memberlist_view.specs.Rules.{blank, alive_since, suspect_since, alive_again, alive_at, alive, accused, suspected}
use Rattle.memberlist_view.specs.Rules.{lacks_place, seen_in, seen_at}
use Rattle.memberlist_view.specs.Rules.{change_of_entry, change_by, change}
use Rattle.memberlist_view.specs.Shown.{changed, shown, shown_next}
use Rattle.memberlist_view.specs.Sources.{Was, IsSaidAs, IsAliveAt, HasDetails, Suspects, StateWasHeard, DetailsWereHeard, WasHeard}
use Rattle.memberlist_view.proofs.Changing.{first_true}
use Rattle.memberlist_view.proofs.Inserting.{itself}
use Rattle.memberlist_view.proofs.Viewing.{shown_from-last}
use Rattle.swim_laws.specs.Claims.{claim_of, claims_of}
use Rattle.swim_laws.specs.Places.{IsSamePlace}
use Rattle.swim_laws.specs.Living.{IsFounded, IsOneLife, IsSuspect, IsStateOf, IsSame}
use Rattle.swim_laws.proofs.Claimed.{here, claimed, claims_of-append, claim_name, now_or_before}
use Rattle.swim_laws.proofs.Under.{was_heard, not_below}
use Rattle.swim_laws.proofs.Placed.{by_bool}

-- ---- the claims within an entry

-- a suspicion at j within an entry at i
abbrev pub IsSuspectWithin : State → ℕ → ℕ → Type 0
IsSuspectWithin state.Noted i j = ⊥
IsSuspectWithin state.Seen i j = ⊥
IsSuspectWithin state.Alive i j = j < i
IsSuspectWithin (state.Suspect by) i j = j ≤ i
IsSuspectWithin (state.Dead by) i j = ⊥
IsSuspectWithin state.Left i j = ⊥

-- a claim that an entry in this state, at i, has taken account of
abbrev pub IsWithin : State → ℕ → Claim → Type 0
IsWithin s i (claim.Alive name j details) = j ≤ i
IsWithin s i (claim.Suspect name j) = IsSuspectWithin s i j
IsWithin s i (claim.Confirm name j) = ⊥
IsWithin s i (claim.Leave name j) = ⊥

-- what is noted is so by an Alive at incarnation 0, and nobody is gone
abbrev pub IsProper : State → ℕ → Option DetailsValue → Type 0
IsProper state.Noted i details = (i ≡ 0) × IsSome details
IsProper state.Seen i details = i ≡ 0
IsProper state.Alive i details = 0 < i
IsProper (state.Suspect by) i details = ⊤
IsProper (state.Dead by) i details = ⊥
IsProper state.Left i details = ⊥

not_gone : (s : State) (i : ℕ) (details : Option DetailsValue) → IsProper s i details → is_gone s ≡ false
not_gone state.Noted i details p = refl
not_gone state.Seen i details p = refl
not_gone state.Alive i details p = refl
not_gone (state.Suspect by) i details p = refl
not_gone (state.Dead by) i details p = absurd p
not_gone state.Left i details p = absurd p

-- within an entry that is alive above
raised : (s : State) (i j : ℕ) (c : Claim) → i < j → IsWithin s i c → IsWithin state.Alive j c
raised s i j (claim.Alive n k d) lt w = omega (arith, lt, w)
raised state.Noted i j (claim.Suspect n k) lt w = absurd w
raised state.Seen i j (claim.Suspect n k) lt w = absurd w
raised state.Alive i j (claim.Suspect n k) lt w = omega (arith, lt, w)
raised (state.Suspect by) i j (claim.Suspect n k) lt w = omega (arith, lt, w)
raised (state.Dead by) i j (claim.Suspect n k) lt w = absurd w
raised state.Left i j (claim.Suspect n k) lt w = absurd w
raised s i j (claim.Confirm n k) lt w = w
raised s i j (claim.Leave n k) lt w = w

-- within one that is suspected there, or above
doubted : (s : State) (by : List (List ℕ)) (i j : ℕ) (c : Claim) → i ≤ j → IsWithin s i c → IsWithin (state.Suspect by) j c
doubted s by i j (claim.Alive n k d) le w = omega (arith, le, w)
doubted state.Noted by i j (claim.Suspect n k) le w = absurd w
doubted state.Seen by i j (claim.Suspect n k) le w = absurd w
doubted state.Alive by i j (claim.Suspect n k) le w = omega (arith, le, w)
doubted (state.Suspect others) by i j (claim.Suspect n k) le w = omega (arith, le, w)
doubted (state.Dead other) by i j (claim.Suspect n k) le w = absurd w
doubted state.Left by i j (claim.Suspect n k) le w = absurd w
doubted s by i j (claim.Confirm n k) le w = w
doubted s by i j (claim.Leave n k) le w = w

-- an older suspicion
old_suspicion : (s : State) (i j : ℕ) (details : Option DetailsValue) → IsProper s i details → j < i → IsSuspectWithin s i j
old_suspicion state.Noted i j details p lt = absurd (omega (arith, lt, p.0))
old_suspicion state.Seen i j details p lt = absurd (omega (arith, lt, p))
old_suspicion state.Alive i j details p lt = lt
old_suspicion (state.Suspect by) i j details p lt = omega (arith, lt)
old_suspicion (state.Dead by) i j details p lt = p
old_suspicion state.Left i j details p lt = p

-- of a claim within a suspected entry
no_greater : (by : List (List ℕ)) (i : ℕ) (c : Claim) → IsWithin (state.Suspect by) i c → inc_of c ≤ i
no_greater by i (claim.Alive n j d) w = w
no_greater by i (claim.Suspect n j) w = w
no_greater by i (claim.Confirm n j) w = absurd w
no_greater by i (claim.Leave n j) w = absurd w

is_le : (i j : ℕ) → nat_le i j ≡ true → i ≤ j
is_le i j h = grind (arith, nat_tests)

is_above : (i j : ℕ) → nat_le i j ≡ false → j < i
is_above i j h = grind (arith, nat_tests)

pub is_lt : (i j : ℕ) → nat_lt i j ≡ true → i < j
is_lt i j h = grind (arith, nat_tests)

pub is_ge : (i j : ℕ) → nat_lt i j ≡ false → j ≤ i
is_ge i j h = grind (arith, nat_tests)

both : (a b : Bool) → a ≡ true → b ≡ true → (a && b) ≡ true
both true b p q = q
both false b p q = p

seen_noted : (i : ℕ) (c : Claim) → IsWithin state.Seen i c → IsWithin state.Noted i c
seen_noted i (claim.Alive n j d) w = w
seen_noted i (claim.Suspect n j) w = w
seen_noted i (claim.Confirm n j) w = w
seen_noted i (claim.Leave n j) w = w

-- ---- one thing heard

-- the claims before are within the entry
pub record IsUpTo (name : List ℕ) (past : List Heard) (e : Entry) : Type 0 where
  pub proper : IsProper e.state e.inc e.details
  pub before : (c : Claim) → Contains (claims_of past) c → name_of c ≡ name → IsWithin e.state e.inc c

-- and one more claim is
pub record IsLevel (name : List ℕ) (past : List Heard) (c : Claim) (e : Entry) : Type 0 where
  pub before : IsUpTo name past e
  pub now : IsWithin e.state e.inc c

-- nothing was claimed, or the claims are within the entry
abbrev pub UpTo : List ℕ → List Heard → Option Entry → Type 0
UpTo name past None = (c : Claim) → Contains (claims_of past) c → name_of c ≢ name
UpTo name past (Some e) = IsUpTo name past e

either : (N M : Type 0) (P Q : Entry × Event → Type 0) (what : Change) → (N → M) → ((p : Entry × Event) → P p → Q p)
    → MatchOption what N P → MatchOption what M Q
either N M P Q None f g h = f h
either N M P Q (Some p) f g h = g p h

module _ (name : List ℕ) (past : List Heard) (time : ℕ) (entry : Entry) (u : IsUpTo name past entry) where
  here_still : is_gone entry.state ≡ false
  here_still = not_gone entry.state entry.inc entry.details u.proper

  module _ (inc : ℕ) (details : DetailsValue) (joins : Bool) where
    abbrev pub Level : Entry → Type 0
    Level e = IsLevel name past (claim.Alive name inc details) e

    abbrev pub Is : Entry × Event → Type 0
    Is p = Level p.0

    lifted : (t : ℕ) (d : DetailsValue) → nat_le inc entry.inc ≡ false → Level (alive_since t inc d)
    lifted t d above = record {
      before = record {
        proper = positive (is_above inc entry.inc above);
        before = λ c at about. raised entry.state entry.inc inc c (is_above inc entry.inc above) (u.before c at about);
      };
      now = omega arith;
    }
      where
        positive : {i : ℕ} → i < inc → 0 < inc
        positive lt = omega (arith, lt)

    again_level : (s : State) (d : DetailsValue) → nat_le inc entry.inc ≡ false
        → MatchOption (alive_again s time entry inc d joins) (Level entry) Is
    again_level state.Noted d above = lifted time d above
    again_level state.Seen d above = lifted entry.since d above
    again_level state.Alive d above = lifted entry.since d above
    again_level (state.Suspect by) d above = lifted time d above
    again_level (state.Dead by) d above = lifted time d above
    again_level state.Left d above = lifted time d above

    -- with details, if it is not greater
    given : (s : State) (i : ℕ) (d : Option DetailsValue) → IsProper s i d → IsProper s i (Some details)
    given state.Noted i d p = (p.0, refl)
    given state.Seen i d p = p
    given state.Alive i d p = p
    given (state.Suspect by) i d p = p
    given (state.Dead by) i d p = p
    given state.Left i d p = p

    at_level : (o : Option DetailsValue) → IfSome o (λ old. is_same_place old details ≡ true)
        → MatchOption (alive_at o time entry inc details joins) (Level entry) Is
    at_level None there = by_bool (Level entry) Is (nat_le inc entry.inc) _ _
        (λ le. record {
          before = record { proper = given entry.state entry.inc entry.details u.proper; before = u.before };
          now = is_le inc entry.inc le;
        })
        (λ above. again_level entry.state _ above)
    at_level (Some old) there = by_bool (Level entry) Is (is_same_place old details) _ _
        (λ _. by_bool (Level entry) Is (nat_le inc entry.inc) None _
        (λ le. record { before = u; now = is_le inc entry.inc le }) (λ above. again_level entry.state _ above))
        (λ other. absurd (cc (there, other)))

    alive_level : (wait : ℕ) → IfSome entry.details (λ old. is_same_place old details ≡ true)
        → MatchOption (alive wait time entry inc details joins) (Level entry) Is
    alive_level wait there = by_bool (Level entry) Is (is_forgotten wait time entry) _ _
        (λ late. absurd (cc (here_still, first_true (is_gone entry.state) _ late)))
        (λ _. at_level entry.details there)

  module _ (inc : ℕ) (from : Option (List ℕ)) where
    abbrev pub Doubt : Entry → Type 0
    Doubt e = IsLevel name past (claim.Suspect name inc) e

    abbrev pub IsDoubt : Entry × Event → Type 0
    IsDoubt p = Doubt p.0

    suspect_level : nat_lt inc entry.inc ≡ false → MatchOption (suspect_since time entry inc from) (Doubt entry) IsDoubt
    suspect_level ge = record {
      before = record {
        proper = tt;
        before = λ c at about. doubted entry.state (option_to_list from) entry.inc inc c (is_ge inc entry.inc ge) (u.before c at about);
      };
      now = omega arith;
    }

    accused_level : (o : Option (List ℕ)) (by : List (List ℕ)) → entry.state ≡ state.Suspect by → inc ≤ entry.inc
        → MatchOption (accused by entry o) (Doubt entry) IsDoubt
    accused_level None by e le = record { before = u; now = subst (λ s. IsSuspectWithin s entry.inc inc) (sym e) le }
    accused_level (Some f) by e le = by_bool (Doubt entry) IsDoubt (is_passed_over f by) None _
        (λ _. record { before = u; now = subst (λ s. IsSuspectWithin s entry.inc inc) (sym e) le })
        (λ _. record {
          before = record {
            proper = tt;
            before = λ c at about. doubted entry.state (by ++ f ∷ []) entry.inc entry.inc c (omega arith) (u.before c at about);
          };
          now = le;
        })

    suspected_level : (s : State) → entry.state ≡ s → nat_lt inc entry.inc ≡ false
        → ((by : List (List ℕ)) → entry.state ≡ state.Suspect by → inc ≤ entry.inc)
        → MatchOption (suspected s time entry inc from) (Doubt entry) IsDoubt
    suspected_level state.Noted e ge founded = suspect_level ge
    suspected_level state.Seen e ge founded = suspect_level ge
    suspected_level state.Alive e ge founded = suspect_level ge
    suspected_level (state.Suspect by) e ge founded = accused_level from by e (founded by e)
    suspected_level (state.Dead by) e ge founded = absurd (gone (ap is_gone e) here_still)
      where
        gone : is_gone entry.state ≡ true → is_gone entry.state ≡ false → ⊥
        gone p q = cc (p, q)
    suspected_level state.Left e ge founded = absurd (gone (ap is_gone e) here_still)
      where
        gone : is_gone entry.state ≡ true → is_gone entry.state ≡ false → ⊥
        gone p q = cc (p, q)

    doubt_level : ((by : List (List ℕ)) → entry.state ≡ state.Suspect by → inc ≤ entry.inc)
        → MatchOption (if nat_lt inc entry.inc then None else suspected entry.state time entry inc from) (Doubt entry) IsDoubt
    doubt_level founded = by_bool (Doubt entry) IsDoubt (nat_lt inc entry.inc) None _
        (λ lt. record { before = u; now = old_suspicion entry.state entry.inc inc entry.details u.proper (is_lt inc entry.inc lt) })
        (λ ge. suspected_level entry.state refl ge founded)

  module _ (place : DetailsValue) where
    abbrev pub IsSeenNow : Entry × Event → Type 0
    IsSeenNow p = IsUpTo name past p.0

    noted_seen : (i : ℕ) (c : Claim) → IsWithin state.Noted i c → IsWithin state.Seen i c
    noted_seen i (claim.Alive n j d) w = w
    noted_seen i (claim.Suspect n j) w = w
    noted_seen i (claim.Confirm n j) w = w
    noted_seen i (claim.Leave n j) w = w

    seen_in_level : (s : State) → entry.state ≡ s → IsUpTo name past (seen_in s time entry place)
    seen_in_level state.Noted e = record {
      proper = (subst (λ s. IsProper s entry.inc entry.details) e u.proper).0;
      before = λ c at about. noted_seen entry.inc c (subst (λ s. IsWithin s entry.inc c) e (u.before c at about));
    }
    seen_in_level state.Seen e = record { proper = u.proper; before = u.before }
    seen_in_level state.Alive e = record { proper = u.proper; before = u.before }
    seen_in_level (state.Suspect by) e = record { proper = u.proper; before = u.before }
    seen_in_level (state.Dead by) e = record { proper = u.proper; before = u.before }
    seen_in_level state.Left e = record { proper = u.proper; before = u.before }

    seen_level : MatchOption (seen_at time entry place) (IsUpTo name past entry) IsSeenNow
    seen_level = by_bool (IsUpTo name past entry) IsSeenNow (lacks_place entry) _ None
        (λ _. seen_in_level entry.state refl) (λ _. u)

-- ---- the first thing heard

module _ (name : List ℕ) (past : List Heard) (none : (c : Claim) → Contains (claims_of past) c → name_of c ≢ name) where
  nothing_before : (s : State) (i : ℕ) (c : Claim) → Contains (claims_of past) c → name_of c ≡ name → IsWithin s i c
  nothing_before s i c at about = absurd (none c at about)

  first_alive : (wait time inc : ℕ) (details : DetailsValue) (joins : Bool)
      → MatchOption (alive wait time (blank time) inc details joins) ⊥ (λ p. IsLevel name past (claim.Alive name inc details) p.0)
  first_alive wait time inc details joins = by_bool ⊥ (λ p. IsLevel name past (claim.Alive name inc details) p.0) (nat_le inc 0) _ _
      (λ le. record {
        before = record { proper = (refl, refl); before = nothing_before state.Noted 0 };
        now = is_le inc 0 le;
      })
      (λ above. record {
        before = record { proper = is_above inc 0 above; before = nothing_before state.Alive inc };
        now = omega arith;
      })

  first_suspect : (time inc : ℕ) (from : Option (List ℕ)) → MatchOption (suspect_since time (blank time) inc from) ⊥
      (λ p. IsLevel name past (claim.Suspect name inc) p.0)
  first_suspect time inc from = record {
    before = record { proper = tt; before = nothing_before (state.Suspect (option_to_list from)) inc };
    now = omega arith;
  }

  first_seen : (time : ℕ) (place : DetailsValue) → IsUpTo name past (seen_in state.Noted time (blank time) place)
  first_seen time place = record { proper = refl; before = nothing_before state.Seen 0 }

-- ---- each thing heard

module _ (wait : ℕ) (name : List ℕ) (whole : List Heard) (life : IsOneLife name (claims_of whole)) (firm : IsFounded name (claims_of whole))
    (past later : List Heard) (time : ℕ) where
  abbrev pub now : Said → Heard
  now said = record { time = time; said = said }

  abbrev pub Next : Said → Entry × Event → Type 0
  Next said p = IsUpTo name (past ++ now said ∷ []) p.0

  -- after a claim
  claimed_now : (said : Said) (c : Claim) → claim_of said ≡ Some c → (e : Entry) → IsLevel name past c e
      → IsUpTo name (past ++ now said ∷ []) e
  claimed_now said c is e l = record {
    proper = l.before.proper;
    before = λ d at about. elim (now_or_before past (now said) d at) [
      | inl was ↦ l.before.before d was about
      | inr this ↦ subst (IsWithin e.state e.inc) (unwrapped c d (sym is ∙ this)) l.now
    ];
  }
    where
      unwrapped : (a b : Claim) → Some a ≡ Some b → a ≡ b
      unwrapped a b h = cc (h)

  -- after no claim
  seen_now : (said : Said) → claim_of said ≡ None → (e : Entry) → IsUpTo name past e → IsUpTo name (past ++ now said ∷ []) e
  seen_now said is e u = record {
    proper = u.proper;
    before = λ d at about. elim (now_or_before past (now said) d at) [
      | inl was ↦ u.before d was about
      | inr this ↦ absurd (cc (is, this))
    ];
  }

  module _ (said : Said) (is : whole ≡ past ++ now said ∷ later) where
    claims_are : claims_of whole ≡ claims_of past ++ (option_to_list (claim_of said) ++ claims_of later)
    claims_are = ap claims_of is ∙ claims_of-append past (now said ∷ later)

    was_before : (c : Claim) → Contains (claims_of past) c → Contains (claims_of whole) c
    was_before c at = subst (λ cs. Contains cs c) (sym claims_are)
        (Contains-append_left (claims_of past) (option_to_list (claim_of said) ++ claims_of later) c at)

    is_now : (c : Claim) → claim_of said ≡ Some c → Contains (claims_of whole) c
    is_now c e = claimed whole (now said) c (subst (λ hs. Contains hs (now said)) (sym is)
        (Contains-append_right past (now said ∷ later) (now said) (here (now said) later))) e

    same_place : (old said other : DetailsValue) → IsSaidAs old said → IsSamePlace said other → is_same_place old other ≡ true
    same_place old said other same place = both (is_eq (name_cmp old.addr other.addr)) (nat_eq old.port other.port)
        (ap is_eq (ap (λ a. name_cmp a other.addr) addr ∙ itself other.addr)) (eq-eqb old.port other.port port)
      where
        addr : old.addr ≡ other.addr
        addr = elim same [
          | inl e ↦ ap (λ (d : DetailsValue). d.addr) e ∙ place.0
          | inr e ↦ ap (λ (d : DetailsValue). d.addr) e.1 ∙ place.0
        ]

        port : old.port ≡ other.port
        port = elim same [
          | inl e ↦ ap (λ (d : DetailsValue). d.port) e ∙ place.1
          | inr e ↦ ap (λ (d : DetailsValue). d.port) e.1 ∙ place.1
        ]

    -- all Alives are at the place that is shown
    at_place : (inc : ℕ) (details : DetailsValue) → claim_of said ≡ Some (claim.Alive name inc details) → (o : Option DetailsValue)
        → IfSome o (DetailsWereHeard past name) → IfSome o (λ old. is_same_place old details ≡ true)
    at_place inc details this None w = tt
    at_place inc details this (Some old) w = by_alive w.0
      where
        by_alive : Was past (HasDetails name old) → is_same_place old details ≡ true
        by_alive a =
            let alive : Claim = claim.Alive name a.2.0 a.2.1.0 in
            let made : Contains (claims_of past) alive = claimed past a.0 alive a.1 (ap claim_of a.2.1.2) in
            same_place old a.2.1.0 details a.2.1.4
            (life.place a.2.0 inc a.2.1.0 details (was_before alive made) (is_now (claim.Alive name inc details) this))

    -- one that is suspected is not suspected above that
    is_founded : (inc : ℕ) → claim_of said ≡ Some (claim.Suspect name inc) → (entry : Entry) → IsUpTo name past entry
        → WasHeard past name entry → (by : List (List ℕ)) → entry.state ≡ state.Suspect by → inc ≤ entry.inc
    is_founded inc this entry u w by suspected = by_suspicion (subst (StateWasHeard past name entry.inc entry.details) suspected w.state).0
      where
        at_most : (c : Claim) → Contains (claims_of past) c → name_of c ≡ name → inc_of c ≤ entry.inc
        at_most c at about = no_greater by entry.inc c (subst (λ s. IsWithin s entry.inc c) suspected (u.before c at about))

        split : claims_of whole ≡ claims_of past ++ claim.Suspect name inc ∷ claims_of later
        split = claims_are ∙ ap (λ o. claims_of past ++ (option_to_list o ++ claims_of later)) this

        not_above : (i : ℕ) → ((i < inc) → (c : Claim) × Contains (claims_of past) c × (name_of c ≡ name) × (i < inc_of c))
            → ((c : Claim) → Contains (claims_of past) c → name_of c ≡ name → inc_of c ≤ i) → inc ≤ i
        not_above i f most = by_test (nat_lt i inc) refl
          where
            by_test : (b : Bool) → nat_lt i inc ≡ b → inc ≤ i
            by_test true lt = let g = f (is_lt i inc lt) in absurd (less g.3 (most g.0 g.1 g.2))
              where
                less : {j k : ℕ} → j < k → k ≤ j → ⊥
                less p q = omega (arith, p, q)
            by_test false ge = is_ge i inc ge

        by_suspicion : Was past (Suspects name entry.inc) → inc ≤ entry.inc
        by_suspicion s = elim s.2 [
          | inl doubt ↦ not_above entry.inc (λ lt. firm (claims_of past) (claims_of later) entry.inc inc split
              (claimed past s.0 (claim.Suspect name entry.inc) s.1 (ap claim_of doubt.1)) lt) at_most
          | inr dead ↦ absurd (life.lives (claim.Confirm name entry.inc)
              (was_before (claim.Confirm name entry.inc) (claimed past s.0 (claim.Confirm name entry.inc) s.1 (ap claim_of dead))) refl)
        ]

  -- how an entry changes
  entry_next : (said : Said) → whole ≡ past ++ now said ∷ later → about said ≡ name → (entry : Entry) → IsUpTo name past entry
      → WasHeard past name entry
      → MatchOption (change_of_entry wait time entry said) (IsUpTo name (past ++ now said ∷ []) entry) (Next said)
  entry_next (Alive n inc details joins) is e entry u w =
      let said = Alive n inc details joins in
      let this : claim_of said ≡ Some (claim.Alive name inc details) = ap (λ m. Some (claim.Alive m inc details)) e in
      by_bool (IsUpTo name (past ++ now said ∷ []) entry) (Next said) (are_sound_versions details.vsn) _ None
      (λ _. either _ _ _ (Next said) (alive wait time entry inc details joins)
      (claimed_now said (claim.Alive name inc details) this entry) (λ p. claimed_now said (claim.Alive name inc details) this p.0)
      (alive_level name past time entry u inc details joins wait (at_place said is inc details this entry.details w.details)))
      (λ not. absurd (cc (not, life.lives (claim.Alive n inc details) (is_now said is (claim.Alive n inc details) refl) e)))
  entry_next (Suspect n inc from) is e entry u w =
      let said = Suspect n inc from in
      let this : claim_of said ≡ Some (claim.Suspect name inc) = ap (λ m. Some (claim.Suspect m inc)) e in
      either _ _ _ (Next said) (change_of_entry wait time entry said)
      (claimed_now said (claim.Suspect name inc) this entry) (λ p. claimed_now said (claim.Suspect name inc) this p.0)
      (doubt_level name past time entry u inc from (is_founded said is inc this entry u w))
  entry_next (Dead n inc from) is e entry u w =
      absurd (life.lives (claim.Confirm n inc) (is_now (Dead n inc from) is (claim.Confirm n inc) refl) e)
  entry_next (Left n inc) is e entry u w =
      absurd (life.lives (claim.Leave n inc) (is_now (Left n inc) is (claim.Leave n inc) refl) e)
  entry_next (Seen n place) is e entry u w =
      either _ _ _ (Next (Seen n place)) (seen_at time entry place)
      (seen_now (Seen n place) refl entry) (λ p. seen_now (Seen n place) refl p.0)
      (seen_level name past time entry u place)

  -- how a name begins
  first_next : (said : Said) → whole ≡ past ++ now said ∷ later → about said ≡ name
      → ((c : Claim) → Contains (claims_of past) c → name_of c ≢ name) → MatchOption (change_by wait time None said) ⊥ (Next said)
  first_next (Alive n inc details joins) is e none =
      let said = Alive n inc details joins in
      let this : claim_of said ≡ Some (claim.Alive name inc details) = ap (λ m. Some (claim.Alive m inc details)) e in
      by_bool ⊥ (Next said) (are_sound_versions details.vsn) _ None
      (λ _. either _ _ _ (Next said) (alive wait time (blank time) inc details joins)
      absurd (λ p. claimed_now said (claim.Alive name inc details) this p.0) (first_alive name past none wait time inc details joins))
      (λ not. absurd (cc (not, life.lives (claim.Alive n inc details) (is_now said is (claim.Alive n inc details) refl) e)))
  first_next (Suspect n inc from) is e none =
      let said = Suspect n inc from in
      let this : claim_of said ≡ Some (claim.Suspect name inc) = ap (λ m. Some (claim.Suspect m inc)) e in
      by_bool ⊥ (Next said) (nat_lt inc 0) None _ (λ lt. absurd (below inc (is_lt inc 0 lt)))
      (λ _. either ⊥ ⊥ (λ p. IsLevel name past (claim.Suspect name inc) p.0) (Next said) (suspect_since time (blank time) inc from)
      absurd (λ p. claimed_now said (claim.Suspect name inc) this p.0) (first_suspect name past none time inc from))
    where
      below : (i : ℕ) → i < 0 → ⊥
      below i lt = omega (arith, lt)
  first_next (Dead n inc from) is e none =
      absurd (life.lives (claim.Confirm n inc) (is_now (Dead n inc from) is (claim.Confirm n inc) refl) e)
  first_next (Left n inc) is e none =
      absurd (life.lives (claim.Leave n inc) (is_now (Left n inc) is (claim.Leave n inc) refl) e)
  first_next (Seen n place) is e none = seen_now (Seen n place) refl _ (first_seen name past none time place)

  said_next : (said : Said) → whole ≡ past ++ now said ∷ later → about said ≡ name → (old : Option Entry)
      → shown wait past name ≡ old → UpTo name past old
      → UpTo name (past ++ now said ∷ []) (changed old (change_by wait time old said))
  said_next said is e None shows u = by_change (change_by wait time None said) (first_next said is e u)
    where
      by_change : (what : Change) → MatchOption what ⊥ (Next said) → UpTo name (past ++ now said ∷ []) (changed None what)
      by_change None h = absurd h
      by_change (Some p) h = h
  said_next said is e (Some entry) shows u =
      by_change (change_of_entry wait time entry said) (entry_next said is e entry u (was_heard wait past name entry shows))
    where
      by_change : (what : Change) → MatchOption what (IsUpTo name (past ++ now said ∷ []) entry) (Next said)
          → UpTo name (past ++ now said ∷ []) (changed (Some entry) what)
      by_change None h = h
      by_change (Some p) h = h

  -- what is about others
  others_next : (said : Said) → about said ≢ name → (old : Option Entry) → UpTo name past old → UpTo name (past ++ now said ∷ []) old
  others_next said other None u = λ c at about_it. elim (now_or_before past (now said) c at) [
    | inl was ↦ u c was about_it
    | inr this ↦ other (sym (claim_name said c this) ∙ about_it)
  ]
  others_next said other (Some entry) u = record {
    proper = u.proper;
    before = λ c at about_it. elim (now_or_before past (now said) c at) [
      | inl was ↦ u.before c was about_it
      | inr this ↦ absurd (other (sym (claim_name said c this) ∙ about_it))
    ];
  }

  next_level : (said : Said) → whole ≡ past ++ now said ∷ later → UpTo name past (shown wait past name)
      → UpTo name (past ++ now said ∷ []) (shown_next wait name (shown wait past name) (now said))
  next_level said is u = by_answer (name_cmp name (about said)) refl
    where
      not_name : (o : Ordering) → name_cmp name (about said) ≡ o → o ≢ Equal → about said ≢ name
      not_name o e not same = not (sym e ∙ ap (name_cmp name) same ∙ itself name)

      by_answer : (o : Ordering) → name_cmp name (about said) ≡ o → UpTo name (past ++ now said ∷ [])
          (if is_eq o then changed (shown wait past name) (change wait (shown wait past name) (now said)) else shown wait past name)
      by_answer Less e = others_next said (not_name Less e (λ h. cc (h))) (shown wait past name) u
      by_answer Greater e = others_next said (not_name Greater e (λ h. cc (h))) (shown wait past name) u
      by_answer Equal e = said_next said is (sym (exact_bytes name (about said) e)) (shown wait past name) refl u

-- ---- all that was heard

module _ (wait : ℕ) (name : List ℕ) (whole : List Heard) (life : IsOneLife name (claims_of whole))
    (firm : IsFounded name (claims_of whole)) where
  levels : (later past : List Heard) → whole ≡ past ++ later → UpTo name past (shown wait past name)
      → UpTo name whole (shown wait whole name)
  levels [] past is u = subst (λ hs. UpTo name hs (shown wait hs name)) (sym (is ∙ append-nil past)) u
  levels (heard ∷ later) past is u = levels later (past ++ heard ∷ []) (is ∙ sym (append_assoc past (heard ∷ []) later))
      (subst (UpTo name (past ++ heard ∷ [])) (sym (shown_from-last wait name None past heard))
      (next_level wait name whole life firm past later heard.time heard.said is u))

  pub level : UpTo name whole (shown wait whole name)
  level = levels whole [] refl (λ c at. absurd (omega (arith, at.1)))

-- ---- the table

module _ (heard : List Heard) (name : List ℕ) (life : IsOneLife name (claims_of heard)) where
  module _ (entry : Entry) (u : IsUpTo name heard entry) (w : WasHeard heard name entry) where
    -- a state that somebody claimed
    suspicion : (s : State) → (by : List (List ℕ)) → s ≡ state.Suspect by → StateWasHeard heard name entry.inc entry.details s
        → Contains (claims_of heard) (claim.Suspect name entry.inc)
    suspicion s by e v = by_case (subst (StateWasHeard heard name entry.inc entry.details) e v).0
      where
        by_case : Was heard (Suspects name entry.inc) → Contains (claims_of heard) (claim.Suspect name entry.inc)
        by_case g = elim g.2 [
          | inl doubt ↦ claimed heard g.0 (claim.Suspect name entry.inc) g.1 (ap claim_of doubt.1)
          | inr dead ↦ absurd (life.lives (claim.Confirm name entry.inc)
              (claimed heard g.0 (claim.Confirm name entry.inc) g.1 (ap claim_of dead)) refl)
        ]

    alive_made : StateWasHeard heard name entry.inc entry.details state.Alive
        → (d : DetailsValue) × Contains (claims_of heard) (claim.Alive name entry.inc d)
    alive_made v = (
      v.2.2.0,
      claimed heard v.2.0 (claim.Alive name entry.inc v.2.2.0) v.2.1 (ap claim_of v.2.2.2),
    )

    -- of a name that is in no claim
    unclaimed : ((c : Claim) → Contains (claims_of heard) c → name_of c ≢ name) → (s : State) → entry.state ≡ s
        → IsProper s entry.inc entry.details → StateWasHeard heard name entry.inc entry.details s → s ≡ state.Seen
    unclaimed none state.Noted e p v = absurd (by_details entry.details p.1 v.1)
      where
        by_details : (o : Option DetailsValue) → IsSome o → IfSome o (λ _. Was heard (IsAliveAt name 0)) → ⊥
        by_details None some h = absurd (cc (some))
        by_details (Some d) some h =
            let alive : Claim = claim.Alive name 0 h.2.0 in
            none alive (claimed heard h.0 alive h.1 (ap claim_of h.2.2)) refl
    unclaimed none state.Seen e p v = refl
    unclaimed none state.Alive e p v = let a = alive_made v in absurd (none (claim.Alive name entry.inc a.0) a.1 refl)
    unclaimed none (state.Suspect by) e p v =
        absurd (none (claim.Suspect name entry.inc) (suspicion (state.Suspect by) by refl v) refl)
    unclaimed none (state.Dead by) e p v = absurd p
    unclaimed none state.Left e p v = absurd p

    -- of one whose top this is
    module _ (top : Claim) (about : name_of top ≡ name) (stands : Stands top (claims_of heard)) where
      not_over : (c : Claim) → Contains (claims_of heard) c → name_of c ≡ name → ¬ Overrides c top
      not_over c made is = stands.greatest c made (is ∙ sym about)

      at_0 : (t : Claim) (i : ℕ) → i ≡ 0 → IsWithin state.Noted i t → (i ≡ inc_of t) × IsAlive t × (inc_of t ≡ 0)
      at_0 (claim.Alive n j d) i zero le = (omega (arith, zero, le), tt, omega (arith, zero, le))
      at_0 (claim.Suspect n j) i zero le = absurd le
      at_0 (claim.Confirm n j) i zero le = absurd le
      at_0 (claim.Leave n j) i zero le = absurd le

      is_alive : (t : Claim) (i : ℕ) (d : DetailsValue) → 0 < i → IsWithin state.Alive i t → ¬ Overrides (claim.Alive name i d) t
          → (i ≡ inc_of t) × IsAlive t × (0 < inc_of t)
      is_alive (claim.Alive n j e) i d above le not =
          let ge = not_below i j (λ lt. not (inl lt)) in
          (omega (arith, le, ge), tt, omega (arith, above, ge))
      is_alive (claim.Suspect n j) i d above lt not = absurd (not lt)
      is_alive (claim.Confirm n j) i d above le not = absurd le
      is_alive (claim.Leave n j) i d above le not = absurd le

      is_suspect : (t : Claim) (i : ℕ) (by : List (List ℕ)) → IsWithin (state.Suspect by) i t → ¬ Overrides (claim.Suspect name i) t
          → (i ≡ inc_of t) × IsSuspect t
      is_suspect (claim.Alive n j e) i by le not = absurd (not le)
      is_suspect (claim.Suspect n j) i by le not = let ge = not_below i j not in (omega (arith, le, ge), tt)
      is_suspect (claim.Confirm n j) i by le not = absurd le
      is_suspect (claim.Leave n j) i by le not = absurd le

      shows : (s : State) → IsProper s entry.inc entry.details → IsWithin s entry.inc top
          → StateWasHeard heard name entry.inc entry.details s → (entry.inc ≡ inc_of top) × IsStateOf top s
      shows state.Noted p within v = let a = at_0 top entry.inc p.0 within in (a.0, (a.1, a.2))
      shows state.Seen p within v = let a = at_0 top entry.inc p (seen_noted entry.inc top within) in (a.0, (a.1, a.2))
      shows state.Alive p within v =
          let m = alive_made v in
          let a = is_alive top entry.inc m.0 p within (not_over (claim.Alive name entry.inc m.0) m.1 refl) in
          (a.0, (a.1, a.2))
      shows (state.Suspect by) p within v =
          is_suspect top entry.inc by within
          (not_over (claim.Suspect name entry.inc) (suspicion (state.Suspect by) by refl v) refl)
      shows (state.Dead by) p within v = absurd p
      shows state.Left p within v = absurd p

pub same : (wait : ℕ) (heard : List Heard) (name : List ℕ) (table : Entries) → TableOf table (claims_of heard)
    → IsOneLife name (claims_of heard) → IsFounded name (claims_of heard) → IsSame (shown wait heard name) (get table name)
same wait heard name table of life firm =
    by_both (shown wait heard name) refl (level wait name heard life firm) (get table name) (of.each name)
  where
    by_both : (o : Option Entry) → shown wait heard name ≡ o → UpTo name heard o → (t : Option Standing)
        → EntryOf (claims_of heard) name t → IsSame o t
    by_both None is u None says = tt
    by_both None is u (Some s) says = u s.top says.top.made says.about
    by_both (Some e) is u None says =
        let w = was_heard wait heard name e is in
        unclaimed heard name life e u w says e.state refl u.proper w.state
    by_both (Some e) is u (Some s) says =
        let w = was_heard wait heard name e is in
        shows heard name life e u w s.top says.about says.top e.state u.proper (u.before s.top says.top.made says.about) w.state
