-- The rules exclude no true explanation, and with captures at both ends all others.
use Rattle.std.proofs.Common.{◌≡◌, ◌≢◌, ℕ, ◌+◌, ◌-◌, ◌/◌, ◌<◌, ◌≤◌, max, Bool, true, false, not, ◌&&◌, ◌||◌, nat_lt}
use Rattle.std.proofs.Common.{nat_le, is_some, if◌then◌else◌, Option, Some, None, IfSome, unwrap_or, refl, sym, ap, ◌∙◌}
use Rattle.std.proofs.Common.{subst, arith, le-leb, lt-ltb, leb-false, leb-true, ltb-false, ltb-true, le-ltb, ap₂}
use Rattle.std.proofs.lemmas.Bool.{and_from, and_right, and_parts, both_ways, lt-leb}
use Rattle.memberlist_probes.specs.declared.explanation.Explanation.{Explanation}
use Rattle.memberlist_probes.specs.declared.explanation.Explanation.TheVariants as explanation
use Rattle.memberlist_probes.specs.declared.leg.Leg.{Leg}
use Rattle.memberlist_probes.specs.declared.leg.Refusal.{Refusal}
use Rattle.memberlist_probes.specs.declared.leg.Refusal.TheVariants as refusal
use Rattle.memberlist_probes.specs.Showing.{Sees, Sees as sees, Passes, Passes as passes, Refuses, Clocks, Shows, IsComplete}
use Rattle.memberlist_probes.specs.Telling.{time_between, elapsed, or_else, own_least, own_most, whole_least}
use Rattle.memberlist_probes.specs.Telling.{whole_most, is_answered, may_pass, may_answer, may_return, may_exceed}
use Rattle.memberlist_probes.specs.Telling.{may_be_twice, may_be_unrefused, is_refused, may_be_by, may_be}
use Rattle.memberlist_probes.specs.Worlds.{ping_sent, ping_arrived, refused, ack_sent, ack_arrived, World, when}
use Rattle.memberlist_probes.specs.Worlds.{IsAfter, Obeys, late_by, told_by, truth}
use Rattle.memberlist_probes.proofs.Happening.{Follows, follows}

-- ---- what is seen of one step

unseen : {c : Bool} {ahead : ℕ} {seen : Option ℕ} → Sees c ahead None seen → seen ≡ None
unseen (sees.seen time is at) = absurd (cc (is))
unseen (sees.missed complete none) = none
unseen (sees.absent is none) = none

unpassed : {ahead : ℕ} {arrived seen : Option ℕ} → Passes ahead None arrived seen → seen ≡ None
unpassed (passes.passed start time is after before at) = absurd (cc (is))
unpassed (passes.missed none) = none

pass_when_seen : (c : Bool) (seen : Option ℕ) (t : ℕ) → seen ≡ Some t → may_pass seen c ≡ true
pass_when_seen c None t is = absurd (cc (is))
pass_when_seen c (Some s) t is = refl

pass_when_missed : (c : Bool) (seen : Option ℕ) → c ≡ false → may_pass seen c ≡ true
pass_when_missed true seen is = absurd (cc (is))
pass_when_missed false None is = refl
pass_when_missed false (Some s) is = refl

may_have_passed : {ahead t : ℕ} (c : Bool) (seen : Option ℕ) → Sees c ahead (Some t) seen → may_pass seen c ≡ true
may_have_passed c seen (sees.seen time is at) = pass_when_seen c seen _ at
may_have_passed c seen (sees.missed complete none) = pass_when_missed c seen complete
may_have_passed c seen (sees.absent is none) = absurd (cc (is))

-- ---- the times between two steps

between_same : (ping ack : Option ℕ) (p k ahead s t : ℕ) → ping ≡ Some p → ack ≡ Some k → p ≡ s + ahead
    → k ≡ t + ahead → IfSome (time_between ping ack) (λ d. d ≡ t - s)
between_same None ack p k ahead s t at_p at_k p_is k_is = tt
between_same (Some p') None p k ahead s t at_p at_k p_is k_is = tt
between_same (Some p') (Some k') p k ahead s t at_p at_k p_is k_is = by_ends (cc (at_p)) (cc (at_k))
  where
    by_ends : p' ≡ p → k' ≡ k → (k' - p') ≡ t - s
    by_ends a b = grind (arith, a, b, p_is, k_is)

no_ping : (ping ack : Option ℕ) (P : ℕ → Type 0) → ping ≡ None → IfSome (time_between ping ack) P
no_ping None ack P is = tt
no_ping (Some p) ack P is = absurd (cc (is))

no_ack : (ping ack : Option ℕ) (P : ℕ → Type 0) → ack ≡ None → IfSome (time_between ping ack) P
no_ack None ack P is = tt
no_ack (Some p) None P is = tt
no_ack (Some p) (Some k) P is = absurd (cc (is))

-- at one host both times are by one clock
seen_apart : {c : Bool} {ahead s t : ℕ} (ping ack : Option ℕ) → Sees c ahead (Some s) ping
    → Sees c ahead (Some t) ack → IfSome (time_between ping ack) (λ d. d ≡ t - s)
seen_apart ping ack (sees.missed complete none) second = no_ping ping ack _ none
seen_apart ping ack (sees.absent is none) second = no_ping ping ack _ none
seen_apart ping ack (sees.seen s' is at) (sees.missed complete none) = no_ack ping ack _ none
seen_apart ping ack (sees.seen s' is at) (sees.absent is' none) = no_ack ping ack _ none
seen_apart {ahead = ahead} {s = s} {t = t} ping ack (sees.seen s' is at)
    (sees.seen t' is' at') = between_same ping ack (s' + ahead) (t' + ahead) ahead s t at at'
    (ap (λ n. n + ahead) (cc (is))) (ap (λ n. n + ahead) (cc (is')))

between_within : (ping ack : Option ℕ) (ahead x y s a b k : ℕ) → ping ≡ Some (x + ahead)
    → ack ≡ Some (y + ahead) → s ≤ x → x ≤ a → b ≤ y → y ≤ k
    → IfSome (time_between ping ack) (λ d. (b - a ≤ d) × (d ≤ k - s))
between_within None ack ahead x y s a b k at_p at_k sx xa by yk = tt
between_within (Some p) None ahead x y s a b k at_p at_k sx xa by yk = tt
between_within (Some p) (Some q) ahead x y s a b k at_p at_k sx xa by yk = bounds (cc (at_p)) (cc (at_k))
  where
    bounds : p ≡ x + ahead → q ≡ y + ahead → (b - a ≤ q - p) × (q - p ≤ k - s)
    bounds i j = (grind (arith, i, j, xa, by), grind (arith, i, j, sx, yk))

-- on the way, the target took no more than passed there, and the prober waited no less
passed_within : {ahead s a b k : ℕ} (ping ack : Option ℕ) → Passes ahead (Some s) (Some a) ping
    → Passes ahead (Some b) (Some k) ack → IfSome (time_between ping ack) (λ d. (b - a ≤ d) × (d ≤ k - s))
passed_within ping ack (passes.missed none) second = no_ping ping ack _ none
passed_within ping ack (passes.passed x y is after before at) (passes.missed none) = no_ack ping ack _ none
passed_within {ahead = ahead} {s = s} {a = a} {b = b} {k = k} ping ack
    (passes.passed s' x is after before at) (passes.passed b' y is' after' before' at') =
    between_within ping ack ahead x y s a b k at at' (subst (λ n. n ≤ x) (cc (is)) after) before
    (subst (λ n. n ≤ y) (cc (is')) after') before'

-- ---- what is known of the times, against the true ones

own_least_below : (n : Option ℕ) (own : ℕ) → IfSome n (λ d. d ≡ own) → unwrap_or n 0 ≤ own
own_least_below None own known = omega arith
own_least_below (Some d) own known = omega (arith, known)

own_most_above : (n m p : Option ℕ) (own whole : ℕ) → own ≤ whole → IfSome n (λ d. d ≡ own)
    → IfSome m (λ d. (own ≤ d) × (d ≤ whole)) → IfSome p (λ d. d ≡ whole)
    → IfSome (or_else n (or_else m p)) (λ d. own ≤ d)
own_most_above (Some d) m p own whole le at_n at_m at_p = omega (arith, at_n)
own_most_above None (Some d) p own whole le at_n at_m at_p = at_m.0
own_most_above None None (Some d) own whole le at_n at_m at_p = omega (arith, le, at_p)
own_most_above None None None own whole le at_n at_m at_p = tt

whole_least_below : (p m n : Option ℕ) (own whole : ℕ) → own ≤ whole → IfSome n (λ d. d ≡ own)
    → IfSome m (λ d. (own ≤ d) × (d ≤ whole)) → IfSome p (λ d. d ≡ whole)
    → unwrap_or (or_else p (or_else m n)) 0 ≤ whole
whole_least_below (Some d) m n own whole le at_n at_m at_p = omega (arith, at_p)
whole_least_below None (Some d) n own whole le at_n at_m at_p = at_m.1
whole_least_below None None (Some d) own whole le at_n at_m at_p = omega (arith, le, at_n)
whole_least_below None None None own whole le at_n at_m at_p = omega arith

exceeds : (most : Option ℕ) (limit value : ℕ) → IfSome most (λ d. value ≤ d) → limit < value → may_exceed most limit ≡ true
exceeds None limit value above below = refl
exceeds (Some d) limit value above below = lt-ltb limit d (omega (arith, above, below))

half_mono : (a b : ℕ) → a ≤ b → a / 2 ≤ b / 2
half_mono a b le = omega (arith, le)

same_above : (most : Option ℕ) (value : ℕ) → IfSome most (λ d. d ≡ value) → IfSome most (λ d. value ≤ d)
same_above None value is = tt
same_above (Some d) value is = omega (arith, is)

slow_by : (most : Option ℕ) (timeout least own whole : ℕ) → IfSome most (λ d. d ≡ whole) → timeout < whole
    → least ≤ own → own ≤ whole / 2 → may_be_twice most timeout least ≡ true
slow_by None timeout least own whole is late le half = refl
slow_by (Some d) timeout least own whole is late le half =
    and_from (nat_lt timeout d) (nat_le least (d / 2)) (lt-ltb timeout d (omega (arith, is, late)))
    (le-leb least (d / 2) (subst (λ n. least ≤ n / 2) (sym is) (omega (arith, le, half))))

-- ---- soundness

-- what the captures show, by when each step happened
pub record ShowsBy (refusal sent asked answered returned : Option ℕ) (clocks : Clocks) (leg : Leg) : Type 0 where
  pub ping_at_prober : Sees leg.is_prober_complete clocks.prober sent leg.at_prober.ping
  pub ack_at_prober : Sees leg.is_prober_complete clocks.prober returned leg.at_prober.ack
  pub ping_at_target : Sees leg.is_target_complete clocks.target asked leg.at_target.ping
  pub ack_at_target : Sees leg.is_target_complete clocks.target answered leg.at_target.ack
  pub ping_between : Passes clocks.between sent asked leg.between.ping
  pub ack_between : Passes clocks.between answered returned leg.between.ack
  pub refuses : Refuses refusal leg.refusal

not_some : (seen : Option ℕ) → seen ≡ None → not (is_some seen) ≡ true
not_some None is = refl
not_some (Some t) is = absurd (cc (is))

none_answered : (a b c : Option ℕ) → a ≡ None → b ≡ None → c ≡ None → not (is_some a || (is_some b || is_some c)) ≡ true
none_answered None None None x y z = refl
none_answered None None (Some c) x y z = absurd (cc (z))
none_answered None (Some b) c x y z = absurd (cc (y))
none_answered (Some a) b c x y z = absurd (cc (x))

-- nothing of an ack that was not sent is seen
unanswered : (refusal sent asked : Option ℕ) (clocks : Clocks) (leg : Leg)
    → ShowsBy refusal sent asked None None clocks leg → not (is_answered leg) ≡ true
unanswered refusal sent asked clocks leg shows = none_answered leg.at_prober.ack leg.at_target.ack
    leg.between.ack (unseen shows.ack_at_prober) (unseen shows.ack_at_target) (unpassed shows.ack_between)

or_true : (a b : Bool) → b ≡ true → (a || b) ≡ true
or_true true b is = refl
or_true false b is = is

when_refused : (f : Refusal) (t : ℕ) (leg : Leg) → Refuses (Some t) f → not (is_answered leg) ≡ true
    → may_be_by f leg explanation.Refused ≡ true
when_refused refusal.Seen t leg refuses none = refl
when_refused refusal.Unknown t leg refuses none = or_first (not (is_answered leg)) none
  where
    or_first : (b : Bool) → b ≡ true → ((true && b) || false) ≡ true
    or_first true is = refl
    or_first false is = absurd (cc (is))
when_refused refusal.Absent t leg refuses none = absurd (cc (refuses))

when_unrefused : (f : Refusal) (leg : Leg) (told : Explanation) → Refuses None f
    → may_be_unrefused leg told ≡ true → may_be_by f leg told ≡ true
when_unrefused refusal.Seen leg told refuses is = absurd (cc (refuses))
when_unrefused refusal.Unknown leg told refuses is = or_true _ (may_be_unrefused leg told) is
when_unrefused refusal.Absent leg told refuses is = is

-- an ack that came is in time, or late by the target or by the way
late_told : (leg : Leg) (own whole : ℕ) → own ≤ whole → IfSome (elapsed leg.at_target) (λ d. d ≡ own)
    → IfSome (elapsed leg.between) (λ d. (own ≤ d) × (d ≤ whole))
    → IfSome (elapsed leg.at_prober) (λ d. d ≡ whole) → may_return leg ≡ true
    → may_be_unrefused leg (late_by leg.timeout whole own) ≡ true
late_told leg own whole le at_target on_way at_prober returned = in_time (nat_le whole leg.timeout) refl
  where
    least : whole_least leg ≤ whole
    least = whole_least_below (elapsed leg.at_prober) (elapsed leg.between) (elapsed leg.at_target) own whole le at_target on_way at_prober

    in_half : (b : Bool) → nat_lt (whole / 2) own ≡ b → leg.timeout < whole
        → may_be_unrefused leg (if b then explanation.AnswerLate else explanation.WaySlow) ≡ true
    in_half true half late =
        and_from (may_return leg) _ returned
        (and_from (may_exceed (whole_most leg) leg.timeout) _
        (exceeds (whole_most leg) leg.timeout whole (same_above (whole_most leg) whole at_prober) late)
        (exceeds (own_most leg) (max (whole_least leg) leg.timeout / 2) own
        (own_most_above (elapsed leg.at_target) (elapsed leg.between) (elapsed leg.at_prober) own whole le at_target on_way at_prober)
        (omega (arith, least, late, ltb-true (whole / 2) own half))))
    in_half false half late =
        and_from (may_return leg) _ returned
        (slow_by (whole_most leg) leg.timeout (own_least leg) own whole at_prober late
        (own_least_below (elapsed leg.at_target) own at_target) (ltb-false (whole / 2) own half))

    in_time : (b : Bool) → nat_le whole leg.timeout ≡ b
        → may_be_unrefused leg (if b then explanation.Unread else if nat_lt
        (whole / 2) own then explanation.AnswerLate else explanation.WaySlow) ≡ true
    in_time true soon =
        and_from (may_return leg) _ returned
        (le-leb (whole_least leg) leg.timeout (omega (arith, least, leb-true whole leg.timeout soon)))
    in_time false soon = in_half (nat_lt (whole / 2) own) refl (leb-false whole leg.timeout soon)

after : (t u : ℕ) → IsAfter (Some t) u → t ≤ u
after t u (t', is, le) = subst (λ n. n ≤ u) (cc (is)) le

sound_by : (refusal sent asked answered returned : Option ℕ) (clocks : Clocks) (leg : Leg)
    → Follows refusal sent asked answered returned
    → ShowsBy refusal sent asked answered returned clocks leg
    → may_be leg (told_by leg.timeout refusal sent asked answered returned) ≡ true
unfolding told_by
sound_by (Some r) sent asked (Some b) returned clocks leg order shows = absurd (cc (order.refuses refl))
sound_by (Some r) sent asked None (Some k) clocks leg order shows = absurd (cc (order.is_returned.1))
sound_by (Some r) sent asked None None clocks leg order shows =
    when_refused leg.refusal r leg shows.refuses (unanswered (Some r) sent asked clocks leg shows)
sound_by None None asked answered returned clocks leg order shows = absurd (cc (order.is_sent))
sound_by None (Some s) None (Some b) returned clocks leg order shows = absurd (cc (order.is_answered.1))
sound_by None (Some s) None None (Some k) clocks leg order shows = absurd (cc (order.is_returned.1))
sound_by None (Some s) None None None clocks leg order shows =
    when_unrefused leg.refusal leg explanation.PingLost shows.refuses
    (and_from (not (is_some leg.at_target.ping)) (not (is_answered leg))
    (not_some leg.at_target.ping (unseen shows.ping_at_target))
    (unanswered None (Some s) None clocks leg shows))
sound_by None (Some s) (Some a) None (Some k) clocks leg order shows = absurd (cc (order.is_returned.1))
sound_by None (Some s) (Some a) None None clocks leg order shows =
    when_unrefused leg.refusal leg explanation.Silent shows.refuses
    (and_from (may_pass leg.at_target.ping leg.is_target_complete) (not (is_answered leg))
    (may_have_passed leg.is_target_complete leg.at_target.ping shows.ping_at_target)
    (unanswered None (Some s) (Some a) clocks leg shows))
sound_by None (Some s) (Some a) (Some b) None clocks leg order shows =
    when_unrefused leg.refusal leg explanation.AnswerLost shows.refuses
    (and_from (may_answer leg) (not (is_some leg.at_prober.ack))
    (may_have_passed leg.is_target_complete leg.at_target.ack shows.ack_at_target)
    (not_some leg.at_prober.ack (unseen shows.ack_at_prober)))
sound_by None (Some s) (Some a) (Some b) (Some k) clocks leg order shows =
    when_unrefused leg.refusal leg (late_by leg.timeout (k - s) (b - a)) shows.refuses
    (late_told leg (b - a) (k - s) (omega (arith, after s a order.is_asked, after a b order.is_answered, after b k order.is_returned))
    (seen_apart leg.at_target.ping leg.at_target.ack shows.ping_at_target shows.ack_at_target)
    (passed_within leg.between.ping leg.between.ack shows.ping_between shows.ack_between)
    (seen_apart leg.at_prober.ping leg.at_prober.ack shows.ping_at_prober shows.ack_at_prober)
    (and_from (may_answer leg) (may_pass leg.at_prober.ack leg.is_prober_complete)
    (may_have_passed leg.is_target_complete leg.at_target.ack shows.ack_at_target)
    (may_have_passed leg.is_prober_complete leg.at_prober.ack shows.ack_at_prober)))

shows_by : (clocks : Clocks) (world : World) (leg : Leg) → Shows clocks world leg
    → ShowsBy (when refused world) (when ping_sent world) (when ping_arrived world) (when ack_sent world)
    (when ack_arrived world) clocks leg
shows_by clocks world leg shows =
    record {
      ping_at_prober = shows.ping_at_prober;
      ack_at_prober = shows.ack_at_prober;
      ping_at_target = shows.ping_at_target;
      ack_at_target = shows.ack_at_target;
      ping_between = shows.ping_between;
      ack_between = shows.ack_between;
      refuses = shows.refusal;
    }

-- the rules leave the true explanation
pub sound : (clocks : Clocks) (world : World) (leg : Leg) → Obeys world → Shows clocks world leg
    → may_be leg (truth leg.timeout world) ≡ true
sound clocks world leg obeys shows = sound_by (when refused world) (when ping_sent world)
    (when ping_arrived world) (when ack_sent world) (when ack_arrived world) clocks leg
    (follows world obeys) (shows_by clocks world leg shows)

-- ---- captures at both ends leave one

late_is : (timeout whole own : ℕ) (a b : Bool) → nat_le whole timeout ≡ a → nat_lt (whole / 2) own ≡ b
    → late_by timeout whole own ≡ (if a then explanation.Unread else if b then explanation.AnswerLate
    else explanation.WaySlow)
late_is timeout whole own a b x y = ap₂
    (λ a' b'. if a' then explanation.Unread else if b' then explanation.AnswerLate
    else explanation.WaySlow) x y

seen_whole : {ahead t : ℕ} {c : Bool} {seen : Option ℕ} → c ≡ true → Sees c ahead (Some t) seen → seen ≡ Some (t + ahead)
seen_whole {ahead = ahead} complete (sees.seen time is at) = at ∙ ap (λ o. Some (o + ahead)) (cc (is))
seen_whole complete (sees.missed missed none) = absurd (cc (complete, missed))
seen_whole complete (sees.absent is none) = absurd (cc (is))

pass_not : (c : Bool) (seen : Option ℕ) → c ≡ true → seen ≡ None → may_pass seen c ≡ false
pass_not true None complete none = refl
pass_not true (Some t) complete none = absurd (cc (none))
pass_not false seen complete none = absurd (cc (complete))

some_at : (seen : Option ℕ) (t : ℕ) → seen ≡ Some t → is_some seen ≡ true
some_at None t is = absurd (cc (is))
some_at (Some u) t is = refl

not_of : (b : Bool) → b ≡ true → not b ≡ true → ⊥
not_of true is isnt = cc (isnt)
not_of false is isnt = cc (is)

not_answering : (leg : Leg) → may_answer leg ≡ false → may_return leg ≡ true → ⊥
not_answering leg answers returns = both_ways (may_answer leg) answers ((and_parts (may_answer leg) _ returns).0)

only_lost : (leg : Leg) (told : Explanation) → may_pass leg.at_target.ping leg.is_target_complete ≡ false
    → may_answer leg ≡ false → may_be_unrefused leg told ≡ true → explanation.PingLost ≡ told
only_lost leg explanation.PingLost arrives answers left = refl
only_lost leg explanation.Refused arrives answers left = absurd (cc (left))
only_lost leg explanation.Silent arrives answers left = absurd
    (both_ways (may_pass leg.at_target.ping leg.is_target_complete) arrives
    ((and_parts (may_pass leg.at_target.ping leg.is_target_complete) _ left).0))
only_lost leg explanation.AnswerLate arrives answers left = absurd (not_answering leg answers ((and_parts (may_return leg) _ left).0))
only_lost leg explanation.WaySlow arrives answers left = absurd (not_answering leg answers ((and_parts (may_return leg) _ left).0))
only_lost leg explanation.AnswerLost arrives answers left = absurd
    (both_ways (may_answer leg) answers ((and_parts (may_answer leg) _ left).0))
only_lost leg explanation.Unread arrives answers left = absurd (not_answering leg answers ((and_parts (may_return leg) _ left).0))

only_silent : (leg : Leg) (told : Explanation) → is_some leg.at_target.ping ≡ true → may_answer leg ≡ false
    → may_be_unrefused leg told ≡ true → explanation.Silent ≡ told
only_silent leg explanation.PingLost arrives answers left = absurd
    (not_of (is_some leg.at_target.ping) arrives
    ((and_parts (not (is_some leg.at_target.ping)) _ left).0))
only_silent leg explanation.Refused arrives answers left = absurd (cc (left))
only_silent leg explanation.Silent arrives answers left = refl
only_silent leg explanation.AnswerLate arrives answers left = absurd (not_answering leg answers ((and_parts (may_return leg) _ left).0))
only_silent leg explanation.WaySlow arrives answers left = absurd (not_answering leg answers ((and_parts (may_return leg) _ left).0))
only_silent leg explanation.AnswerLost arrives answers left = absurd
    (both_ways (may_answer leg) answers ((and_parts (may_answer leg) _ left).0))
only_silent leg explanation.Unread arrives answers left = absurd (not_answering leg answers ((and_parts (may_return leg) _ left).0))

only_answer_lost : (leg : Leg) (told : Explanation) → is_some leg.at_target.ping ≡ true
    → is_answered leg ≡ true → may_return leg ≡ false → may_be_unrefused leg told ≡ true
    → explanation.AnswerLost ≡ told
only_answer_lost leg explanation.PingLost arrives answered returns left = absurd
    (not_of (is_some leg.at_target.ping) arrives
    ((and_parts (not (is_some leg.at_target.ping)) _ left).0))
only_answer_lost leg explanation.Refused arrives answered returns left = absurd (cc (left))
only_answer_lost leg explanation.Silent arrives answered returns left = absurd
    (not_of (is_answered leg) answered
    ((and_parts (may_pass leg.at_target.ping leg.is_target_complete) _ left).1))
only_answer_lost leg explanation.AnswerLate arrives answered returns left = absurd
    (both_ways (may_return leg) returns ((and_parts (may_return leg) _ left).0))
only_answer_lost leg explanation.WaySlow arrives answered returns left = absurd
    (both_ways (may_return leg) returns ((and_parts (may_return leg) _ left).0))
only_answer_lost leg explanation.AnswerLost arrives answered returns left = refl
only_answer_lost leg explanation.Unread arrives answered returns left = absurd
    (both_ways (may_return leg) returns ((and_parts (may_return leg) _ left).0))

exceeding : (most : Option ℕ) (limit value : ℕ) → most ≡ Some value → may_exceed most limit ≡ true → limit < value
exceeding None limit value is above = absurd (cc (is))
exceeding (Some m) limit value is above = subst (λ n. limit < n) (cc (is)) (ltb-true limit m above)

twice_parts : (most : Option ℕ) (timeout least value : ℕ) → most ≡ Some value
    → may_be_twice most timeout least ≡ true → (timeout < value) × (least ≤ value / 2)
twice_parts None timeout least value is both = absurd (cc (is))
twice_parts (Some m) timeout least value is both =
    let parts = and_parts (nat_lt timeout m) (nat_le least (m / 2)) both in
    subst (λ n. (timeout < n) × (least ≤ n / 2)) (cc (is)) (ltb-true timeout m parts.0, leb-true least (m / 2) parts.1)

only_late : (leg : Leg) (told : Explanation) (own whole : ℕ) → is_some leg.at_target.ping ≡ true
    → is_answered leg ≡ true → is_some leg.at_prober.ack ≡ true → elapsed leg.at_target ≡ Some own
    → elapsed leg.at_prober ≡ Some whole → may_be_unrefused leg told ≡ true
    → late_by leg.timeout whole own ≡ told
only_late leg explanation.PingLost own whole arrives answered returns at_target at_prober left = absurd
    (not_of (is_some leg.at_target.ping) arrives
    ((and_parts (not (is_some leg.at_target.ping)) _ left).0))
only_late leg explanation.Refused own whole arrives answered returns at_target at_prober left = absurd (cc (left))
only_late leg explanation.Silent own whole arrives answered returns at_target at_prober left = absurd
    (not_of (is_answered leg) answered
    ((and_parts (may_pass leg.at_target.ping leg.is_target_complete) _ left).1))
only_late leg explanation.AnswerLost own whole arrives answered returns at_target at_prober left = absurd
    (not_of (is_some leg.at_prober.ack) returns ((and_parts (may_answer leg) _ left).1))
only_late leg explanation.Unread own whole arrives answered returns at_target at_prober left =
    let least = ap (λ o. unwrap_or (or_else o (or_else (elapsed leg.between) (elapsed leg.at_target))) 0) at_prober in
    let soon = leb-true (whole_least leg) leg.timeout ((and_parts (may_return leg) _ left).1) in
    late_is leg.timeout whole own true (nat_lt (whole / 2) own) (le-leb whole leg.timeout (subst (λ n. n ≤ leg.timeout) least soon)) refl
only_late leg explanation.AnswerLate own whole arrives answered returns at_target at_prober left =
    let least = ap (λ o. unwrap_or (or_else o (or_else (elapsed leg.between) (elapsed leg.at_target))) 0) at_prober in
    let most = ap (λ o. or_else o (or_else (elapsed leg.between) (elapsed leg.at_prober))) at_target in
    let tests = and_parts (may_exceed (whole_most leg) leg.timeout) _ ((and_parts (may_return leg) _ left).1) in
    let late = exceeding (whole_most leg) leg.timeout whole at_prober tests.0 in
    let half = exceeding (own_most leg) (max (whole_least leg) leg.timeout / 2) own most tests.1 in
    late_is leg.timeout whole own false true (lt-leb whole leg.timeout late)
    (lt-ltb (whole / 2) own (omega (arith, half, late, least)))
only_late leg explanation.WaySlow own whole arrives answered returns at_target at_prober left =
    let least = ap (λ o. unwrap_or o 0) at_target in
    let tests = twice_parts (whole_most leg) leg.timeout (own_least leg) whole at_prober ((and_parts (may_return leg) _ left).1) in
    late_is leg.timeout whole own false false (lt-leb whole leg.timeout tests.0)
    (le-ltb (whole / 2) own (subst (λ n. n ≤ whole / 2) least tests.1))

elapsed_is : (ahead s t : ℕ) (ping ack : Option ℕ) → ping ≡ Some (s + ahead) → ack ≡ Some (t + ahead) → time_between ping ack ≡ Some (t - s)
elapsed_is ahead s t ping ack at_ping at_ack = ap₂ time_between at_ping at_ack ∙ ap Some (omega arith)

left_refused : (f : Refusal) (t : ℕ) (leg : Leg) (told : Explanation) → Refuses (Some t) f
    → f ≢ refusal.Unknown → may_be_by f leg told ≡ true → explanation.Refused ≡ told
left_refused refusal.Seen t leg told refuses known left = it told left
  where
    it : (told' : Explanation) → is_refused told' ≡ true → explanation.Refused ≡ told'
    it explanation.PingLost is = absurd (cc (is))
    it explanation.Refused is = refl
    it explanation.Silent is = absurd (cc (is))
    it explanation.AnswerLate is = absurd (cc (is))
    it explanation.WaySlow is = absurd (cc (is))
    it explanation.AnswerLost is = absurd (cc (is))
    it explanation.Unread is = absurd (cc (is))
left_refused refusal.Unknown t leg told refuses known left = absurd (known refl)
left_refused refusal.Absent t leg told refuses known left = absurd (cc (refuses))

left_unrefused : (f : Refusal) (leg : Leg) (told : Explanation) → Refuses None f → f ≢ refusal.Unknown
    → may_be_by f leg told ≡ true → may_be_unrefused leg told ≡ true
left_unrefused refusal.Seen leg told refuses known left = absurd (cc (refuses))
left_unrefused refusal.Unknown leg told refuses known left = absurd (known refl)
left_unrefused refusal.Absent leg told refuses known left = left

answered_at_target : (leg : Leg) (t : ℕ) → leg.at_target.ack ≡ Some t → is_answered leg ≡ true
answered_at_target leg t at = or_true (is_some leg.at_prober.ack) _ (or_left (is_some leg.at_target.ack) (some_at leg.at_target.ack t at))
  where
    or_left : (b : Bool) → b ≡ true → (b || is_some leg.between.ack) ≡ true
    or_left true is = refl
    or_left false is = absurd (cc (is))

exact_by : (refusal sent asked answered returned : Option ℕ) (clocks : Clocks) (leg : Leg)
    (told : Explanation) → Follows refusal sent asked answered returned
    → ShowsBy refusal sent asked answered returned clocks leg → IsComplete leg → may_be leg told ≡ true
    → told_by leg.timeout refusal sent asked answered returned ≡ told
unfolding told_by
exact_by (Some r) sent asked answered returned clocks leg told order shows complete left =
    left_refused leg.refusal r leg told shows.refuses complete.refusal left
exact_by None None asked answered returned clocks leg told order shows complete left = absurd (cc (order.is_sent))
exact_by None (Some s) None (Some b) returned clocks leg told order shows complete left = absurd (cc (order.is_answered.1))
exact_by None (Some s) None None (Some k) clocks leg told order shows complete left = absurd (cc (order.is_returned.1))
exact_by None (Some s) None None None clocks leg told order shows complete left =
    only_lost leg told (pass_not leg.is_target_complete leg.at_target.ping complete.target (unseen shows.ping_at_target))
    (pass_not leg.is_target_complete leg.at_target.ack complete.target (unseen shows.ack_at_target))
    (left_unrefused leg.refusal leg told shows.refuses complete.refusal left)
exact_by None (Some s) (Some a) None (Some k) clocks leg told order shows complete left = absurd (cc (order.is_returned.1))
exact_by None (Some s) (Some a) None None clocks leg told order shows complete left =
    only_silent leg told (some_at leg.at_target.ping _ (seen_whole complete.target shows.ping_at_target))
    (pass_not leg.is_target_complete leg.at_target.ack complete.target (unseen shows.ack_at_target))
    (left_unrefused leg.refusal leg told shows.refuses complete.refusal left)
exact_by None (Some s) (Some a) (Some b) None clocks leg told order shows complete left =
    only_answer_lost leg told (some_at leg.at_target.ping _ (seen_whole complete.target shows.ping_at_target))
    (answered_at_target leg _ (seen_whole complete.target shows.ack_at_target))
    (and_right (may_answer leg) (may_pass leg.at_prober.ack leg.is_prober_complete)
    (pass_not leg.is_prober_complete leg.at_prober.ack complete.prober (unseen shows.ack_at_prober)))
    (left_unrefused leg.refusal leg told shows.refuses complete.refusal left)
exact_by None (Some s) (Some a) (Some b) (Some k) clocks leg told order shows complete left =
    let asked = seen_whole complete.target shows.ping_at_target in
    let answered = seen_whole complete.target shows.ack_at_target in
    let pinged = seen_whole complete.prober shows.ping_at_prober in
    let returned = seen_whole complete.prober shows.ack_at_prober in
    only_late leg told (b - a) (k - s) (some_at leg.at_target.ping (a + clocks.target) asked)
    (answered_at_target leg (b + clocks.target) answered) (some_at leg.at_prober.ack (k + clocks.prober) returned)
    (elapsed_is clocks.target a b leg.at_target.ping leg.at_target.ack asked answered)
    (elapsed_is clocks.prober s k leg.at_prober.ping leg.at_prober.ack pinged returned)
    (left_unrefused leg.refusal leg told shows.refuses complete.refusal left)

-- with complete captures at both ends only the true explanation is left
pub exact : (clocks : Clocks) (world : World) (leg : Leg) (told : Explanation) → Obeys world
    → Shows clocks world leg → IsComplete leg → may_be leg told ≡ true → truth leg.timeout world ≡ told
exact clocks world leg told obeys shows complete left = exact_by (when refused world) (when ping_sent world)
    (when ping_arrived world) (when ack_sent world) (when ack_arrived world) clocks leg told
    (follows world obeys) (shows_by clocks world leg shows) complete left
