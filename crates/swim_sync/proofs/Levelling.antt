-- The exchanges that level a cluster lead from each node to each node.
use Rattle.std.proofs.Common.{◌≡◌, ℕ, zero, suc, ◌+◌, ◌-◌, ◌*◌, ◌<◌, ◌≤◌, Some, List, [], ◌∷◌, ◌++◌, map, length}
use Rattle.std.proofs.Common.{Contains, refl, sym, ap, subst, ◌∙◌, inl, inr, arith, length-append}
use Rattle.std.specs.Prelude.{⊤, slice_get}
use Rattle.std.specs.List.{range_with_len}
use Rattle.std.proofs.lemmas.Bool.{cases_order}
use Rattle.std.proofs.lemmas.List.{length-map}
use Rattle.std.proofs.lemmas.List.FromFn.{length-range_with_len}
use Rattle.std.proofs.lemmas.List.Elements.{Contains-append_left, Contains-append_right, Contains-append_cases}
use Rattle.swim_claim.specs.declared.claim.Claim.{Claim}
use Rattle.swim_table.specs.Table.{Same}
use Rattle.swim_sync.specs.declared.event.Event.{Event}
use Rattle.swim_sync.specs.declared.event.Event.TheVariants.{Hear, HearAll, Exchange, Half, Refute}
use Rattle.swim_sync.specs.Heard.{Member, heard_by, heard}
use Rattle.swim_sync.specs.Levels.{meet_each, level_list, all_heard}
use Rattle.swim_sync.specs.Paths.{Leads, Path, there, by, Brings, Entered}
use Rattle.swim_sync.proofs.Routes.{came, reached}

-- ---- the events of the list

pub length-meet_each : (count : ℕ) → length (meet_each count) ≡ count
length-meet_each count = length-map (range_with_len 1 count) (λ k. Exchange 0 k) ∙ length-range_with_len 1 count

pub length-level_list : (nodes : ℕ) → 2 ≤ nodes → length (level_list nodes) ≡ 2 * nodes - 3
length-level_list nodes two =
    let all = length-append (meet_each (nodes - 1)) (meet_each (nodes - 2)) in
    let one = length-meet_each (nodes - 1) in
    let other = length-meet_each (nodes - 2) in
    omega (arith, all, one, other, two)

get-meet : (a count i : ℕ) → i < count → slice_get (map (λ k. Exchange 0 k) (range_with_len a count)) i ≡ Some (Exchange 0 (a + i))
get-meet a zero i below = absurd (omega (arith, below))
get-meet a (suc count) zero below = ap (λ k. Some (Exchange 0 k)) (omega arith)
get-meet a (suc count) (suc i) below = get-meet (a + 1) count i (omega (arith, below)) ∙ ap (λ k. Some (Exchange 0 k)) (omega arith)

-- the event at an index of such meetings
pub met_at : (count i : ℕ) → i < count → slice_get (meet_each count) i ≡ Some (Exchange 0 (i + 1))
met_at count i below = get-meet 1 count i below ∙ ap (λ k. Some (Exchange 0 k)) (omega arith)

pub get-front : (xs ys : List Event) (i : ℕ) (e : Event) → slice_get xs i ≡ Some e → slice_get (xs ++ ys) i ≡ Some e
get-front [] ys i e at = absurd (cc (at))
get-front (x ∷ xs) ys zero e at = at
get-front (x ∷ xs) ys (suc i) e at = get-front xs ys i e at

pub get-back : (xs ys : List Event) (i : ℕ) → slice_get (xs ++ ys) (length xs + i) ≡ slice_get ys i
get-back [] ys i = let e : 0 + i ≡ i = omega arith in ap (slice_get ys) e
get-back (x ∷ xs) ys i =
    let e : suc (length xs) + i ≡ suc (length xs + i) = omega arith in
    ap (slice_get (x ∷ (xs ++ ys))) e ∙ get-back xs ys i

-- node 0 meets each other node
meets : (nodes i : ℕ) → suc i < nodes → slice_get (level_list nodes) i ≡ Some (Exchange 0 (suc i))
meets nodes i below =
    get-front (meet_each (nodes - 1)) (meet_each (nodes - 2)) i (Exchange 0 (suc i))
    (get-meet 1 (nodes - 1) i (omega (arith, below)) ∙ ap (λ k. Some (Exchange 0 k)) (omega arith))

-- and each except the last again, after it met all of them
meets_again : (nodes i : ℕ) → suc (suc i) < nodes → slice_get (level_list nodes) (nodes - 1 + i) ≡ Some (Exchange 0 (suc i))
meets_again nodes i below =
    ap (λ n. slice_get (level_list nodes) (n + i)) (sym (length-meet_each (nodes - 1)))
    ∙ get-back (meet_each (nodes - 1)) (meet_each (nodes - 2)) i
    ∙ get-meet 1 (nodes - 2) i (omega (arith, below))
    ∙ ap (λ k. Some (Exchange 0 k)) (omega arith)

-- ---- paths

outward : (nodes i : ℕ) → suc i < nodes → Leads nodes (Exchange 0 (suc i)) 0 (suc i)
outward nodes i below = ((omega (arith, below), below, λ same. absurd (omega (arith, same))), inl (refl, refl))

inward : (nodes i : ℕ) → suc i < nodes → Leads nodes (Exchange 0 (suc i)) (suc i) 0
inward nodes i below = ((below, omega (arith, below), λ same. absurd (omega (arith, same))), inr (refl, refl))

route : (nodes m k : ℕ) → m < nodes → k < nodes → Path nodes (level_list nodes) 0 m k
route nodes zero zero from to = there
route nodes zero (suc j) from to = by j (suc j) (Exchange 0 (suc j)) (omega arith) (meets nodes j to) (outward nodes j to) there
route nodes (suc i) zero from to = by i 0 (Exchange 0 (suc i)) (omega arith) (meets nodes i from) (inward nodes i from) there
route nodes (suc i) (suc j) from to = elim (cases_order i j) [
  | inl same ↦ subst (λ k. Path nodes (level_list nodes) 0 (suc i) (suc k)) same there
  | inr other ↦
      elim other [
        | inl less ↦
            by i 0 (Exchange 0 (suc i)) (omega arith) (meets nodes i from) (inward nodes i from)
            (by j (suc j) (Exchange 0 (suc j)) (omega (arith, less)) (meets nodes j to) (outward nodes j to) there)
        | inr more ↦
            by i 0 (Exchange 0 (suc i)) (omega arith) (meets nodes i from) (inward nodes i from)
            (by (nodes - 1 + j) (suc j) (Exchange 0 (suc j)) (omega (arith, from))
            (meets_again nodes j (omega (arith, more, from))) (outward nodes j to) there)
      ]
]

-- ---- nothing enters

abbrev IsExchange : Event → Type 0
IsExchange (Hear k claim) = ⊥
IsExchange (HearAll k claims) = ⊥
IsExchange (Exchange j k) = ⊤
IsExchange (Half j k) = ⊥
IsExchange (Refute k) = ⊥

-- each event in the list is an exchange
abbrev AreExchanges : List Event → Type 0
AreExchanges events = (i : ℕ) (e : Event) → slice_get events i ≡ Some e → IsExchange e

exchanges_meet : (a count : ℕ) → AreExchanges (map (λ k. Exchange 0 k) (range_with_len a count))
exchanges_meet a zero i e at = absurd (cc (at))
exchanges_meet a (suc count) zero e at = let same : Exchange 0 a ≡ e = cc (at) in subst IsExchange same tt
exchanges_meet a (suc count) (suc i) e at = exchanges_meet (a + 1) count i e at

exchanges_append : (xs ys : List Event) → AreExchanges xs → AreExchanges ys → AreExchanges (xs ++ ys)
exchanges_append [] ys h g i e at = g i e at
exchanges_append (x ∷ xs) ys h g zero e at = h zero e at
exchanges_append (x ∷ xs) ys h g (suc i) e at = exchanges_append xs ys (λ n f is. h (suc n) f is) g i e at

brings_none : (members : List Member) (lists : List (List Claim)) (e : Event) (c : Claim) (m : ℕ)
    → IsExchange e → ¬ Brings members lists e c m
brings_none members lists (Hear k claim) c m is = absurd is
brings_none members lists (HearAll k claims) c m is = absurd is
brings_none members lists (Exchange j k) c m is = λ brings. brings
brings_none members lists (Half j k) c m is = λ brings. brings
brings_none members lists (Refute k) c m is = absurd is

-- ---- all lists together

in_all : (lists : List (List Claim)) (m : ℕ) (c : Claim) → Contains (heard_by lists m) c → Contains (all_heard lists) c
in_all [] m c made = absurd (omega (arith, made.1))
in_all (l ∷ lists) zero c made = Contains-append_left l (all_heard lists) c made
in_all (l ∷ lists) (suc m) c made = Contains-append_right l (all_heard lists) c (in_all lists m c made)

from_all : (lists : List (List Claim)) (c : Claim) → Contains (all_heard lists) c
    → (m : ℕ) × (m < length lists) × Contains (heard_by lists m) c
from_all [] c made = absurd (omega (arith, made.1))
from_all (l ∷ lists) c made = elim (Contains-append_cases l (all_heard lists) c made) [
  | inl here ↦ (zero, omega arith, here)
  | inr further ↦ (let at = from_all lists c further in (suc at.0, omega (arith, at.1), at.2))
]

module _ (members : List Member) (start : List (List Claim)) (k : ℕ) (c : Claim) where
  entered_at_start : (m p : ℕ) → Entered members start (level_list (length start)) c m p → Contains (heard_by start m) c
  entered_at_start m zero entered = entered
  entered_at_start m (suc place) entered =
      let nodes = length start in
      absurd
      (brings_none members _ entered.0 c m
      (exchanges_append (meet_each (nodes - 1)) (meet_each (nodes - 2)) (exchanges_meet 1 (nodes - 1))
      (exchanges_meet 1 (nodes - 2)) place entered.0 entered.1)
      entered.2)

  heard_before : Contains (heard_by (heard members start (level_list (length start))) k) c → Contains (all_heard start) c
  heard_before made =
      let way = came members c k start (level_list (length start)) made in
      in_all start way.0 c (entered_at_start way.0 way.1 way.2)

  heard_now : k < length start → Contains (all_heard start) c → Contains (heard_by (heard members start (level_list (length start))) k) c
  heard_now below made =
      let at = from_all start c made in
      reached members c k start (level_list (length start)) (at.0, zero, at.2, route (length start) at.0 k at.1 below)

pub level : (members : List Member) (start : List (List Claim)) (k : ℕ) → k < length start → Same
    (heard_by (heard members start (level_list (length start))) k) (all_heard start)
level members start k below c = (heard_before members start k c, heard_now members start k c below)

-- each node has heard what each other one has
pub level_both : (members : List Member) (start : List (List Claim)) (j k : ℕ) → j < length start → k < length start → Same
    (heard_by (heard members start (level_list (length start))) j) (heard_by (heard members start (level_list (length start))) k)
level_both members start j k first second c =
    let one = level members start j first c in
    let other = level members start k second c in
    (λ made. other.1 (one.0 made), λ made. one.1 (other.0 made))
