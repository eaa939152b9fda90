-- One more record for one of several views.
use Rattle.std.proofs.Common.{◌≡◌, ◌<◌, ◌≤◌, ◌+◌, ℕ, zero, suc, List, [], ◌∷◌, ◌++◌, length, slice_index_or, slice_set, refl, sym, ap, subst, arith, ◌∙◌}
use Rattle.std.specs.Bool.{⊤}
use Rattle.capture.specs.Pcap.{RecordText}
use Rattle.memberlist_view.specs.Told.{ViewValue}
use Rattle.swimwatch.specs.declared.listening.seat.Seat.{Seat}
use Rattle.swimwatch.specs.Filtered.{Choice}
use Rattle.capture.specs.OpenFlows.{OpenFlows}
use Rattle.swimwatch.specs.Seated.{AreAlike, EachHas, EachEnded, HasView, at_least_one, put}
use Rattle.swimwatch.specs.Connected.{Follows, past_of}
use Rattle.swimwatch.specs.Viewed.{HasHeard, HasEnded, HearsCaptures}
use Rattle.swimwatch.specs.Ways.{AreKept}

put_new : (heard : List (List RecordText)) (r : RecordText) → put (heard ++ [] ∷ []) (length heard) r ≡ put heard (length heard) r
put_new [] r = refl
put_new (records ∷ heard) r = ap (λ l. records ∷ l) (put_new heard r)

module _ (s : Choice) (first : ViewValue) where
  pub added : (heard : List (List RecordText)) (seats : List Seat) (seat : Seat) → EachHas s first heard seats
      → HasHeard s first [] seat → EachHas s first (heard ++ [] ∷ []) (seats ++ seat ∷ [])
  added [] [] seat each begins = (begins, tt)
  added [] (x ∷ seats) seat each begins = absurd each
  added (records ∷ heard) [] seat each begins = absurd each
  added (records ∷ heard) (x ∷ seats) seat each begins =
      (each.0, added heard seats seat each.1 begins)

  same_len : (heard : List (List RecordText)) (seats : List Seat) → EachHas s first heard seats → length heard ≡ length seats
  same_len [] [] each = refl
  same_len [] (x ∷ seats) each = absurd each
  same_len (records ∷ heard) [] each = absurd each
  same_len (records ∷ heard) (x ∷ seats) each = ap suc (same_len heard seats each.1)

  pub begun : (heard : List (List RecordText)) (seats now : List Seat) (view : ℕ) → EachHas s first heard seats → view ≡ length seats
      → EachHas s first (heard ++ [] ∷ []) now → HasView s first heard view now
  begun heard seats now view each at more = (
    heard ++ [] ∷ [],
    more,
    λ r. subst (λ n. put (heard ++ [] ∷ []) n r ≡ put heard n r) (same_len heard seats each ∙ sym at) (put_new heard r),
  )

  pub heard_by : (heard : List (List RecordText)) (seats : List Seat) (view : ℕ) (d seat : Seat) (r : RecordText)
      → view < length seats → EachHas s first heard seats
      → ((records : List RecordText) → HasHeard s first records (slice_index_or seats view d)
      → HasHeard s first (records ++ r ∷ []) seat) → EachHas s first (put heard view r) (slice_set seats view seat)
  heard_by [] [] view d seat r below each hears = absurd (omega arith)
  heard_by [] (x ∷ seats) view d seat r below each hears = absurd each
  heard_by (records ∷ heard) [] view d seat r below each hears = absurd each
  heard_by (records ∷ heard) (x ∷ seats) zero d seat r below each hears = (hears records each.0, each.1)
  heard_by (records ∷ heard) (x ∷ seats) (suc view) d seat r below each hears =
      (each.0, heard_by heard seats view d seat r (omega arith) each.1 hears)

  -- ---- the views end one after the other

  -- so many views have ended
  abbrev pub Ending : ℕ → List (List RecordText) → List Seat → Type 0
  Ending n [] [] = ⊤
  Ending n [] (seat ∷ seats) = ⊥
  Ending n (records ∷ heard) [] = ⊥
  Ending zero (records ∷ heard) (seat ∷ seats) = HasHeard s first records seat × Ending zero heard seats
  Ending (suc n) (records ∷ heard) (seat ∷ seats) = HasEnded s first records seat × Ending n heard seats

  pub none_ended : (heard : List (List RecordText)) (seats : List Seat) → EachHas s first heard seats → Ending zero heard seats
  none_ended [] [] each = tt
  none_ended [] (x ∷ seats) each = absurd each
  none_ended (records ∷ heard) [] each = absurd each
  none_ended (records ∷ heard) (x ∷ seats) each = (each.0, none_ended heard seats each.1)

  pub all_ended : (n : ℕ) (heard : List (List RecordText)) (seats : List Seat) → length seats ≤ n → Ending n heard seats
      → EachEnded s first heard seats
  all_ended n [] [] short ending = tt
  all_ended n [] (x ∷ seats) short ending = absurd ending
  all_ended n (records ∷ heard) [] short ending = absurd ending
  all_ended zero (records ∷ heard) (x ∷ seats) short ending = absurd (omega arith)
  all_ended (suc n) (records ∷ heard) (x ∷ seats) short ending =
      (ending.0, all_ended n heard seats (omega arith) ending.1)

  one_ended : (n : ℕ) (heard : List (List RecordText)) (seats : List Seat) (d seat : Seat) → n < length seats
      → Ending n heard seats → ((records : List RecordText) → HasHeard s first records (slice_index_or seats n d)
      → HasEnded s first records seat) → Ending (suc n) heard (slice_set seats n seat)
  one_ended n [] [] d seat below ending ends = absurd (omega arith)
  one_ended n [] (x ∷ seats) d seat below ending ends = absurd ending
  one_ended n (records ∷ heard) [] d seat below ending ends = absurd ending
  one_ended zero (records ∷ heard) (x ∷ seats) d seat below ending ends = (ends records ending.0, ending.1)
  one_ended (suc n) (records ∷ heard) (x ∷ seats) d seat below ending ends =
      (ending.0, one_ended n heard seats d seat (omega arith) ending.1 ends)

  pub one_more : (n : ℕ) (heard : List (List RecordText)) (seats : List Seat) (d seat : Seat) → n < length seats
      → Ending n heard seats → ((records : List RecordText) → HasHeard s first records (slice_index_or seats n d)
      → HasEnded s first records seat) → Ending (n + 1) heard (slice_set seats n seat)
  one_more n heard seats d seat below ending ends =
      let next : suc n ≡ n + 1 = omega arith in
      subst (λ k. Ending k heard (slice_set seats n seat)) next (one_ended n heard seats d seat below ending ends)

  pub some_begun : (heard : List (List RecordText)) (seats now : List Seat) → EachHas s first heard seats → length seats ≡ 0
      → EachHas s first (heard ++ [] ∷ []) now → EachHas s first (at_least_one heard) now
  some_begun [] seats now each empty more = more
  some_begun (records ∷ heard) [] now each empty more = absurd each
  some_begun (records ∷ heard) (x ∷ seats) now each empty more = absurd (omega arith)

  pub some_there : (heard : List (List RecordText)) (seats : List Seat) → EachHas s first heard seats → 0 < length seats
      → EachHas s first (at_least_one heard) seats
  some_there [] [] each some = absurd (omega arith)
  some_there [] (x ∷ seats) each some = absurd each
  some_there (records ∷ heard) seats each some = each

-- ---- views that only print

pub alike_same : (seats : List Seat) → AreAlike seats seats
alike_same [] = tt
alike_same (seat ∷ seats) = (refl, refl, alike_same seats)

pub alike_later : (old mid new : List Seat) → AreAlike old mid → AreAlike mid new → AreAlike old new
alike_later [] [] [] first then = tt
alike_later [] [] (z ∷ new) first then = absurd then
alike_later [] (y ∷ mid) new first then = absurd first
alike_later (x ∷ old) [] new first then = absurd first
alike_later (x ∷ old) (y ∷ mid) [] first then = absurd then
alike_later (x ∷ old) (y ∷ mid) (z ∷ new) (a, b, first) (d, e, then) =
    (d ∙ a, e ∙ b, alike_later old mid new first then)

pub alike_one : (seats : List Seat) (view : ℕ) (d new : Seat) → view < length seats
    → new.watch.listener.view ≡ (slice_index_or seats view d).watch.listener.view
    → new.traffic ≡ (slice_index_or seats view d).traffic → AreAlike seats (slice_set seats view new)
alike_one [] view d new below same traffic = absurd (omega arith)
alike_one (x ∷ seats) zero d new below same traffic = (same, traffic, alike_same seats)
alike_one (x ∷ seats) (suc view) d new below same traffic =
    (refl, refl, alike_one seats view d new (omega arith) same traffic)

module _ (s : Choice) (first : ViewValue) where
  has_alike : (records : List RecordText) (old new : Seat) → new.watch.listener.view ≡ old.watch.listener.view
      → new.traffic ≡ old.traffic → HasHeard s first records old → HasHeard s first records new
  has_alike records old new same traffic (segments, packets, read, hears, follows, kept) = (
    segments,
    packets,
    read,
    subst (λ v. HearsCaptures s first records (past_of segments packets read new.traffic.connections.flows v)) (sym same)
        (subst (λ t. HearsCaptures s first records
        (past_of segments packets read t.connections.flows old.watch.listener.view)) (sym traffic) hears),
    subst (λ t. Follows segments read t.connections) (sym traffic) follows,
    subst (λ t. AreKept packets t.recent) (sym traffic) kept,
  )

  pub each_alike : (heard : List (List RecordText)) (old new : List Seat) → AreAlike old new → EachHas s first heard old
      → EachHas s first heard new
  each_alike [] [] [] alike each = tt
  each_alike [] [] (y ∷ new) alike each = absurd alike
  each_alike [] (x ∷ old) new alike each = absurd each
  each_alike (records ∷ heard) [] new alike each = absurd each
  each_alike (records ∷ heard) (x ∷ old) [] alike each = absurd alike
  each_alike (records ∷ heard) (x ∷ old) (y ∷ new) (same, traffic, alike) (has, each) =
      (has_alike records x y same traffic has, each_alike heard old new alike each)

  pub ended_alike : (heard : List (List RecordText)) (old new : List Seat) → AreAlike old new → EachEnded s first heard old
      → EachEnded s first heard new
  ended_alike [] [] [] alike each = tt
  ended_alike [] [] (y ∷ new) alike each = absurd alike
  ended_alike [] (x ∷ old) new alike each = absurd each
  ended_alike (records ∷ heard) [] new alike each = absurd each
  ended_alike (records ∷ heard) (x ∷ old) [] alike each = absurd alike
  ended_alike (records ∷ heard) (x ∷ old) (y ∷ new) (same, traffic, alike) ((last, end, hears, moves, none, view), each) = (
    (last, end, hears, moves, none, view ∙ sym same),
    ended_alike heard old new alike each,
  )

-- ---- the first record comes

pub captures_begin : (s : Choice) (first : ViewValue) (flows : OpenFlows) (view : ViewValue) → flows ≡ [] → view ≡ first
    → HearsCaptures s first [] (past_of [] [] [] flows view)
captures_begin s first flows view none same =
    subst (λ f. HearsCaptures s first [] (past_of [] [] [] f view)) (sym none)
    (subst (λ v. HearsCaptures s first [] (past_of [] [] [] [] v)) (sym same) HearsCaptures.none)
