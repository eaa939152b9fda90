-- Runs of a queue.
use Rattle.std.proofs.Common.{◌≡◌, ℕ, ◌+◌, ◌-◌, ◌<◌, ◌≤◌, max, nat_eq, ◌⊎◌, inl, inr, Bool, true, false, ◌||◌, cond, List, [], ◌∷◌, count_by, refl, sym, subst, ap, ◌∙◌, arith}
use Rattle.std.proofs.lemmas.Bool.{eqb-true}
use Rattle.std.proofs.lemmas.List.Sums.{sum_by-cons}
use Rattle.std.specs.List.{All}
use Rattle.std.specs.Str.{bytes_eq}
use Rattle.memberlist_member.specs.declared.queue.Broadcast.{Broadcast}
use Rattle.memberlist_member.specs.Queues.{AreApart, Picks, after_sending, cost, ids_of, put, unsent, without}
use Rattle.memberlist_member.specs.Runs.{Event, Run, times}
use Rattle.memberlist_member.specs.Runs.Event.{added, taken}
use Rattle.memberlist_member.specs.Runs.Run.{begins, pushes, takes}
use Rattle.memberlist_member.proofs.Apart.{about_one, apart_left, apart_put, in_put, in_put_apart, numbered_put}
use Rattle.memberlist_member.proofs.Members.{In, of_all}
use Rattle.memberlist_member.proofs.Picking.{in_without, picks_wait}
use Rattle.memberlist_member.proofs.Sending.{IsLeft, has, left_in, still_numbered}

-- ---- a call picks a broadcast once

abbrev copies : ℕ → List Broadcast → ℕ
copies id picked = count_by (λ b. nat_eq b.id id) picked

-- it is not picked, or once, and it waited
abbrev Once : ℕ → List Broadcast → List Broadcast → Type 0
Once id waiting picked = ((has (ids_of picked) id ≡ false) × (copies id picked ≡ 0))
    ⊎ ((has (ids_of picked) id ≡ true) × (copies id picked ≡ 1) × ((b : Broadcast) × In b waiting × (b.id ≡ id)))

once : (overhead room most : ℕ) (waiting picked : List Broadcast) → Picks overhead room most waiting picked → (id : ℕ) → Once id waiting picked
once overhead room most waiting [] picks id = inl (refl, refl)
once overhead room most waiting (b ∷ picked) (some, next, rest) id =
    cases (once overhead (room - cost overhead b) (most - 1) (without b.id waiting) picked rest id) (nat_eq b.id id) refl where
      count : (t : Bool) → nat_eq b.id id ≡ t → copies id (b ∷ picked) ≡ cond t 1 0 + copies id picked
      count t is = sum_by-cons (λ x. cond (nat_eq x.id id) 1 0) b picked ∙ ap (λ u. cond u 1 0 + copies id picked) is

      there : In b waiting
      there = picks_wait overhead room most waiting (b ∷ picked) (some, next, rest) b (inl refl)

      cases : Once id (without b.id waiting) picked → (t : Bool) → nat_eq b.id id ≡ t → Once id waiting (b ∷ picked)
      cases (inl (isnt, none)) true is =
          let sum : copies id (b ∷ picked) ≡ 1 = omega (arith, count true is, none) in
          inr (ap (λ u. u || has (ids_of picked) id) is, sum, (b, there, eqb-true b.id id is))
      cases (inr (known, one, (c, within, same))) true is =
          absurd ((in_without b.id waiting c within).1 (eqb-true b.id id is ∙ sym same))
      cases (inl (isnt, none)) false is =
          let sum : copies id (b ∷ picked) ≡ 0 = omega (arith, count false is, none) in
          inl (ap (λ u. u || has (ids_of picked) id) is ∙ isnt, sum)
      cases (inr (known, one, (c, within, same))) false is =
          let sum : copies id (b ∷ picked) ≡ 1 = omega (arith, count false is, one) in
          inr (ap (λ u. u || has (ids_of picked) id) is ∙ known, sum, (c, (in_without b.id waiting c within).0, same))

-- ---- how often each was picked

pub record IsCounted (limit : ℕ) (events : List Event) (waiting : List Broadcast) (next : ℕ) : Type 0 where
  pub numbered : All (λ b. b.id < next) waiting
  -- what waits was picked as often as it says, and may be picked once more
  pub counted : (b : Broadcast) → In b waiting → (times b.id events ≤ b.sent) × (b.sent < max 1 limit)
  pub fresh : (id : ℕ) → next ≤ id → times id events ≡ 0
  pub most : (id : ℕ) → times id events ≤ max 1 limit

counted_push : (limit : ℕ) (events : List Event) (waiting : List Broadcast) (next : ℕ) (new : Broadcast) → new.id ≡ next → new.sent ≡ 0
    → IsCounted limit events waiting next → IsCounted limit (added new ∷ events) (put new waiting) (next + 1)
counted_push limit events waiting next new is sent was = record {
  numbered = numbered_put new next waiting is was.numbered;
  counted = λ b within. each b (in_put new waiting b within);
  fresh = λ id after. was.fresh id (omega (arith, after));
  most = was.most;
} where
  each : (b : Broadcast) → (new ≡ b) ⊎ In b waiting → (times b.id events ≤ b.sent) × (b.sent < max 1 limit)
  each b (inl same) =
      let id : b.id ≡ next = sym (ap (λ x. x.id) same) ∙ is in
      let none : b.sent ≡ 0 = sym (ap (λ x. x.sent) same) ∙ sent in
      let zero_times : times b.id events ≡ 0 = was.fresh b.id (omega (arith, id)) in
      (omega (arith, zero_times), omega (arith, none))
  each b (inr there) = was.counted b there

counted_take : (limit : ℕ) (events : List Event) (waiting : List Broadcast) (next overhead room count until : ℕ) (picked : List Broadcast)
    → until ≤ limit → Picks overhead room count waiting picked
    → IsCounted limit events waiting next → IsCounted limit (taken picked ∷ events) (after_sending until (ids_of picked) waiting) next
counted_take limit events waiting next overhead room count until picked small picks was = record {
  numbered = still_numbered next until (ids_of picked) waiting was.numbered;
  counted = λ left within. (
      let (b, there, is) = left_in until (ids_of picked) waiting left within in
      each left b there is is.sent (once overhead room count waiting picked picks b.id));
  fresh = λ id after. unused id after (once overhead room count waiting picked picks id);
  most = λ id. bounded id (once overhead room count waiting picked picks id);
} where
  each : (left b : Broadcast) → In b waiting → IsLeft until (ids_of picked) b left
      → ((has (ids_of picked) b.id ≡ false) × (left.sent ≡ b.sent)) ⊎ ((has (ids_of picked) b.id ≡ true) × (left.sent ≡ b.sent + 1) × (b.sent + 1 < until))
      → Once b.id waiting picked → (copies left.id picked + times left.id events ≤ left.sent) × (left.sent < max 1 limit)
  each left b there is (inl (isnt, same)) (inl (none_known, none)) =
      let before = was.counted b there in
      let copy : copies left.id picked ≡ copies b.id picked = ap (λ id. copies id picked) is.id in
      let time : times left.id events ≡ times b.id events = ap (λ id. times id events) is.id in
      (omega (arith, before.0, copy, time, none, same), omega (arith, before.1, same))
  each left b there is (inl (isnt, same)) (inr (known, one, waits)) = absurd (cc (isnt, known))
  each left b there is (inr (known, more, below)) (inl (isnt, none)) = absurd (cc (isnt, known))
  each left b there is (inr (known, more, below)) (inr (known_too, one, waits)) =
      let before = was.counted b there in
      let copy : copies left.id picked ≡ copies b.id picked = ap (λ id. copies id picked) is.id in
      let time : times left.id events ≡ times b.id events = ap (λ id. times id events) is.id in
      (omega (arith, before.0, copy, time, one, more), omega (arith, below, more, small))

  unused : (id : ℕ) → next ≤ id → Once id waiting picked → copies id picked + times id events ≡ 0
  unused id after (inl (isnt, none)) =
      let before = was.fresh id after in omega (arith, none, before)
  unused id after (inr (known, one, (b, there, same))) =
      let less = of_all (λ x. x.id < next) waiting was.numbered b there in
      absurd (omega (arith, less, same, after))

  bounded : (id : ℕ) → Once id waiting picked → copies id picked + times id events ≤ max 1 limit
  bounded id (inl (isnt, none)) =
      let before = was.most id in omega (arith, none, before)
  bounded id (inr (known, one, (b, there, same))) =
      let before = was.counted b there in
      let time : times b.id events ≡ times id events = ap (λ i. times i events) same in
      omega (arith, one, before.0, before.1, time)

is_counted : (limit : ℕ) {events : List Event} {waiting : List Broadcast} {next : ℕ} → Run limit events waiting next → IsCounted limit events waiting next
is_counted limit begins = record {
  numbered = λ k d less. absurd (omega (arith, less));
  counted = λ b none. absurd none;
  fresh = λ id after. refl;
  most = λ id. (omega arith);
}
is_counted limit (pushes {events} {waiting} {next} subject bytes run) =
    counted_push limit events waiting next (unsent subject bytes next) refl refl (is_counted limit run)
is_counted limit (takes {events} {waiting} {next} overhead room most until picked run small picks) =
    counted_take limit events waiting next overhead room most until picked small picks (is_counted limit run)

pub at_most_the_limit : (limit : ℕ) (events : List Event) (waiting : List Broadcast) (next id : ℕ) → Run limit events waiting next
    → times id events ≤ max 1 limit
at_most_the_limit limit events waiting next id run = (is_counted limit run).most id

-- ---- none is older than one that was added before

abbrev NeverOlder : List Event → Type 0
NeverOlder [] = Unit {0}
NeverOlder (added b ∷ events) = NeverOlder events
NeverOlder (taken picked ∷ events) =
    ((b c : Broadcast) → In (added b) events → In c picked → about_one c b ≡ true → b.id ≤ c.id) × NeverOlder events

record IsNewest (events : List Event) (waiting : List Broadcast) (next : ℕ) : Type 0 where
  numbered : All (λ b. b.id < next) waiting
  apart : AreApart waiting
  past : (b : Broadcast) → In (added b) events → b.id < next
  newer : (b c : Broadcast) → In (added b) events → In c waiting → about_one c b ≡ true → b.id ≤ c.id
  never : NeverOlder events

newest_push : (events : List Event) (waiting : List Broadcast) (next : ℕ) (new : Broadcast) → new.id ≡ next
    → IsNewest events waiting next → IsNewest (added new ∷ events) (put new waiting) (next + 1)
newest_push events waiting next new is was = record {
  numbered = numbered_put new next waiting is was.numbered;
  apart = apart_put new waiting was.apart;
  past = before;
  newer = λ b c b_in c_in same. later b c b_in (in_put_apart new waiting was.apart c c_in) same;
  never = was.never;
} where
  one : (b : Broadcast) → added new ≡ added b → new ≡ b
  one b same = cc (same)

  before : (b : Broadcast) → In (added b) (added new ∷ events) → b.id < next + 1
  before b (inl same) = let id = ap (λ x. x.id) (one b same) in omega (arith, id, is)
  before b (inr there) = let less = was.past b there in omega (arith, less)

  later : (b c : Broadcast) → In (added b) (added new ∷ events) → (new ≡ c) ⊎ (In c waiting × (about_one c new ≡ false))
      → about_one c b ≡ true → b.id ≤ c.id
  later b c (inl same) (inl here) about =
      let b_id = ap (λ x. x.id) (one b same) in
      let c_id = ap (λ x. x.id) here in omega (arith, b_id, c_id)
  later b c (inl same) (inr (there, differs)) about =
      let still : about_one c b ≡ false = subst (λ x. about_one c x ≡ false) (one b same) differs in absurd (cc (still, about))
  later b c (inr old) (inl here) about =
      let less = was.past b old in
      let c_id = ap (λ x. x.id) here in omega (arith, less, c_id, is)
  later b c (inr old) (inr (there, differs)) about = was.newer b c old there about

newest_take : (events : List Event) (waiting : List Broadcast) (next overhead room count until : ℕ) (picked : List Broadcast)
    → Picks overhead room count waiting picked
    → IsNewest events waiting next → IsNewest (taken picked ∷ events) (after_sending until (ids_of picked) waiting) next
newest_take events waiting next overhead room count until picked picks was = record {
  numbered = still_numbered next until (ids_of picked) waiting was.numbered;
  apart = apart_left until (ids_of picked) waiting was.apart;
  past = before;
  newer = λ b c b_in c_in same. (
      let (d, there, is) = left_in until (ids_of picked) waiting c c_in in
      let about : about_one d b ≡ true = subst (λ s. bytes_eq s.items b.subject.items ≡ true) is.subject same in
      let le = was.newer b d (earlier b b_in) there about in
      let id = is.id in
      omega (arith, le, id));
  never = (λ b c b_in c_in about. was.newer b c b_in (picks_wait overhead room count waiting picked picks c c_in) about, was.never);
} where
  earlier : (b : Broadcast) → In (added b) (taken picked ∷ events) → In (added b) events
  earlier b (inl other) = absurd (cc (other))
  earlier b (inr there) = there

  before : (b : Broadcast) → In (added b) (taken picked ∷ events) → b.id < next
  before b within = was.past b (earlier b within)

is_newest : (limit : ℕ) {events : List Event} {waiting : List Broadcast} {next : ℕ} → Run limit events waiting next → IsNewest events waiting next
is_newest limit begins = record {
  numbered = λ k d less. absurd (omega (arith, less));
  apart = tt;
  past = λ b none. absurd none;
  newer = λ b c none c_in about. absurd none;
  never = tt;
}
is_newest limit (pushes {events} {waiting} {next} subject bytes run) =
    newest_push events waiting next (unsent subject bytes next) refl (is_newest limit run)
is_newest limit (takes {events} {waiting} {next} overhead room most until picked run small picks) =
    newest_take events waiting next overhead room most until picked picks (is_newest limit run)

pub not_after_a_newer_one : (limit : ℕ) (events : List Event) (picked waiting : List Broadcast) (next : ℕ) (b c : Broadcast)
    → Run limit (taken picked ∷ events) waiting next → In (added b) events → In c picked → about_one c b ≡ true → b.id ≤ c.id
not_after_a_newer_one limit events picked waiting next b c run b_in c_in about = (is_newest limit run).never.0 b c b_in c_in about
