-- What one event adds to what each node has heard.
use Rattle.std.proofs.Common.{◌≡◌, ◌≢◌, ◌⊎◌, ℕ, ◌+◌, ◌<◌, ◌≤◌, Bool, true, false, not, ◌&&◌, if◌then◌else◌, List, []}
use Rattle.std.proofs.Common.{◌∷◌, ◌++◌, length, get_or, set, take, Contains, refl, sym, ap, subst, ◌∙◌, inl, inr}
use Rattle.std.proofs.Common.{arith, length-set, get_or-set_same, get_or-set_other}
use Rattle.std.specs.Prelude.{nat_eq, nat_lt}
use Rattle.std.proofs.lemmas.Bool.{and_parts, and_from, cases_eq, cases_lt}
use Rattle.std.proofs.lemmas.Bool.Decides.{nat_tests}
use Rattle.std.proofs.lemmas.List.{set_past, take_more}
use Rattle.std.proofs.lemmas.List.Elements.{Contains-append_left, Contains-append_right, Contains-append_cases}
use Rattle.swim_claim.specs.declared.claim.Claim.{Claim}
use Rattle.swim_table.proofs.Lookups.{only_one}
use Rattle.swim_sync.specs.declared.event.Event.{Event}
use Rattle.swim_sync.specs.declared.event.Event.TheVariants.{Hear, HearAll, Exchange, Half, Refute}
use Rattle.swim_sync.specs.Heard.{Member, heard_by, refutation_of, hear, hear_both, are_two_nodes, after, heard}
use Rattle.swim_sync.specs.Paths.{AreTwoNodes, Leads, Brings}

-- ---- tests of two numbers

pub two_nodes : (nodes j k : ℕ) → are_two_nodes nodes j k ≡ true → AreTwoNodes nodes j k
two_nodes nodes j k test =
    let parts = and_parts (nat_lt j nodes && nat_lt k nodes) (not (nat_eq j k)) test in
    let bounds = and_parts (nat_lt j nodes) (nat_lt k nodes) parts.0 in
    let first = bounds.0 in
    let second = bounds.1 in
    let differ = parts.1 in
    (grind (arith, nat_tests, first), grind (arith, nat_tests, second), λ same. grind (arith, nat_tests, differ, same))

pub two_nodes_test : (nodes j k : ℕ) → AreTwoNodes nodes j k → are_two_nodes nodes j k ≡ true
two_nodes_test nodes j k two =
    let first : j < nodes = two.0 in
    let second : k < nodes = two.1 in
    let differ : j ≢ k = two.2 in
    and_from (nat_lt j nodes && nat_lt k nodes) (not (nat_eq j k))
    (and_from (nat_lt j nodes) (nat_lt k nodes) (grind (arith, nat_tests, first)) (grind (arith, nat_tests, second)))
    (grind (arith, nat_tests, differ))

pub turned : (nodes j k : ℕ) → AreTwoNodes nodes j k → AreTwoNodes nodes k j
turned nodes j k two = (two.1, two.0, λ same. two.2 (sym same))

-- ---- the number of lists

pub length-after : (members : List Member) (lists : List (List Claim)) (event : Event) → length (after members lists event) ≡ length lists
length-after members lists (Hear k claim) = length-set lists k (heard_by lists k ++ claim ∷ [])
length-after members lists (HearAll k claims) = length-set lists k (heard_by lists k ++ claims)
length-after members lists (Exchange j k) = by_test (are_two_nodes (length lists) j k)
  where
    both : List Claim
    both = heard_by lists j ++ heard_by lists k

    by_test : (b : Bool) → length (if b then hear_both lists j k both else lists) ≡ length lists
    by_test true = length-set (set lists j both) k both ∙ length-set lists j both
    by_test false = refl
length-after members lists (Half j k) = by_test (are_two_nodes (length lists) j k)
  where
    by_test : (b : Bool) → length (if b then hear lists k (heard_by lists j) else lists) ≡ length lists
    by_test true = length-set lists k (heard_by lists k ++ heard_by lists j)
    by_test false = refl
length-after members lists (Refute k) = length-set lists k (heard_by lists k ++ refutation_of members lists k)

pub length-heard : (members : List Member) (start : List (List Claim)) (events : List Event)
    → length (heard members start events) ≡ length start
length-heard members start [] = refl
length-heard members start (event ∷ events) = length-heard members (after members start event) events ∙ length-after members start event

-- ---- events that change nothing

pub hear_nowhere : (lists : List (List Claim)) (k : ℕ) (claims : List Claim) → length lists ≤ k → hear lists k claims ≡ lists
hear_nowhere lists k claims past = set_past lists k (heard_by lists k ++ claims) past

pub exchange_nothing : (members : List Member) (lists : List (List Claim)) (j k : ℕ) → ¬ AreTwoNodes (length lists) j k
    → after members lists (Exchange j k) ≡ lists
exchange_nothing members lists j k not_two = by_test (are_two_nodes (length lists) j k) refl
  where
    by_test : (b : Bool) → are_two_nodes (length lists) j k ≡ b
        → (if b then hear_both lists j k (heard_by lists j ++ heard_by lists k) else lists) ≡ lists
    by_test true test = absurd (not_two (two_nodes (length lists) j k test))
    by_test false test = refl

pub half_nothing : (members : List Member) (lists : List (List Claim)) (j k : ℕ)
    → ¬ AreTwoNodes (length lists) j k → after members lists (Half j k) ≡ lists
half_nothing members lists j k not_two = by_test (are_two_nodes (length lists) j k) refl
  where
    by_test : (b : Bool) → are_two_nodes (length lists) j k ≡ b → (if b then hear lists k (heard_by lists j) else lists) ≡ lists
    by_test true test = absurd (not_two (two_nodes (length lists) j k test))
    by_test false test = refl

-- ---- runs in parts

pub heard-append : (members : List Member) (start : List (List Claim)) (events others : List Event) → heard members start
    (events ++ others) ≡ heard members (heard members start events) others
heard-append members start [] others = refl
heard-append members start (event ∷ events) others = heard-append members (after members start event) events others

-- a run of one more event
pub heard_more : (members : List Member) (start : List (List Claim)) (events : List Event) (i : ℕ) (event : Event)
    → i < length events → heard members start (take (i + 1) events) ≡ after members (heard members start (take i events))
    (get_or events i event)
heard_more members start events i event below =
    ap (heard members start) (take_more events i event below) ∙ heard-append members start (take i events) (get_or events i event ∷ [])

-- ---- one node hears more

pub hear_same : (lists : List (List Claim)) (k : ℕ) (claims : List Claim) → k < length lists
    → heard_by (hear lists k claims) k ≡ heard_by lists k ++ claims
hear_same lists k claims below = get_or-set_same lists k (heard_by lists k ++ claims) [] below

pub hear_other : (lists : List (List Claim)) (k : ℕ) (claims : List Claim) (y : ℕ) → y ≢ k
    → heard_by (hear lists k claims) y ≡ heard_by lists y
hear_other lists k claims y other = get_or-set_other lists k y (heard_by lists k ++ claims) [] other

-- either nothing changed in node y's list, or it is node k's
abbrev IsHeard : List (List Claim) → ℕ → List Claim → ℕ → List Claim → Type 0
IsHeard lists k claims y list =
    (list ≡ heard_by lists y) ⊎ ((y ≡ k) × (y < length lists) × (list ≡ heard_by lists k ++ claims))

hear_list : (lists : List (List Claim)) (k : ℕ) (claims : List Claim) (y : ℕ) → IsHeard lists k claims y (heard_by (hear lists k claims) y)
hear_list lists k claims y = elim (cases_eq y k) [
  | inl same ↦
      elim (cases_lt y (length lists)) [
        | inl below ↦
            inr (
              same,
              below,
              subst (λ m. get_or (set lists k (heard_by lists k ++ claims)) m [] ≡ heard_by lists k ++ claims) (sym same)
                  (hear_same lists k claims (subst (λ m. m < length lists) same below)),
            )
        | inr past ↦ inl (ap (λ l. get_or l y []) (hear_nowhere lists k claims (subst (λ m. length lists ≤ m) same past)))
      ]
  | inr other ↦ inl (hear_other lists k claims y other)
]

hear_cases : (lists : List (List Claim)) (k : ℕ) (claims : List Claim) (y : ℕ) (c : Claim) → Contains
    (heard_by (hear lists k claims) y) c → Contains (heard_by lists y) c ⊎ ((y ≡ k) × (y < length lists) × Contains claims c)
hear_cases lists k claims y c made = elim (hear_list lists k claims y) [
  | inl same ↦ inl (subst (λ l. Contains l c) same made)
  | inr more ↦
      elim (Contains-append_cases (heard_by lists k) claims c (subst (λ l. Contains l c) more.2 made)) [
        | inl old ↦ inl (subst (λ m. Contains (heard_by lists m) c) (sym more.0) old)
        | inr new ↦ inr (more.0, more.1, new)
      ]
]

hear_kept : (lists : List (List Claim)) (k : ℕ) (claims : List Claim) (y : ℕ) (c : Claim) → Contains (heard_by lists y) c
    → Contains (heard_by (hear lists k claims) y) c
hear_kept lists k claims y c made = elim (hear_list lists k claims y) [
  | inl same ↦ subst (λ l. Contains l c) (sym same) made
  | inr more ↦
      subst (λ l. Contains l c) (sym more.2)
      (Contains-append_left (heard_by lists k) claims c
      (subst (λ m. Contains (heard_by lists m) c) more.0 made))
]

hear_new : (lists : List (List Claim)) (k : ℕ) (claims : List Claim) (c : Claim) → k < length lists → Contains claims c
    → Contains (heard_by (hear lists k claims) k) c
hear_new lists k claims c below made =
    subst (λ l. Contains l c) (sym (hear_same lists k claims below)) (Contains-append_right (heard_by lists k) claims c made)

-- ---- two nodes hear the same

pub both_first : (lists : List (List Claim)) (j k : ℕ) (claims : List Claim) → AreTwoNodes (length lists) j k
    → heard_by (hear_both lists j k claims) j ≡ claims
both_first lists j k claims two = get_or-set_other (set lists j claims) k j claims [] two.2 ∙ get_or-set_same lists j claims [] two.0

pub both_second : (lists : List (List Claim)) (j k : ℕ) (claims : List Claim) → AreTwoNodes (length lists) j k → heard_by
    (hear_both lists j k claims) k ≡ claims
both_second lists j k claims two = get_or-set_same (set lists j claims) k claims []
    (subst (λ n. k < n) (sym (length-set lists j claims)) two.1)

pub both_other : (lists : List (List Claim)) (j k : ℕ) (claims : List Claim) (y : ℕ) → y ≢ j → y ≢ k → heard_by
    (hear_both lists j k claims) y ≡ heard_by lists y
both_other lists j k claims y first second = get_or-set_other (set lists j claims) k y claims [] second
    ∙ get_or-set_other lists j y claims [] first

-- ---- one event

-- node y had the claim, or the event leads it there from another node, or brings it
abbrev pub Arrives : List Member → List (List Claim) → Event → Claim → ℕ → Type 0
Arrives members lists event c y =
    Contains (heard_by lists y) c
    ⊎ (((x : ℕ) × Leads (length lists) event x y × Contains (heard_by lists x) c) ⊎ Brings members lists event c y)

module _ (members : List Member) (lists : List (List Claim)) (c : Claim) where
  exchanged_at : (j k y : ℕ) → AreTwoNodes (length lists) j k → Contains (heard_by lists j ++ heard_by lists k) c → (y ≡ j) ⊎
      (y ≡ k) → Arrives members lists (Exchange j k) c y
  exchanged_at j k y two made at = elim at [
    | inl first ↦
        elim (Contains-append_cases (heard_by lists j) (heard_by lists k) c made) [
          | inl own ↦ inl (subst (λ m. Contains (heard_by lists m) c) (sym first) own)
          | inr theirs ↦ inr (inl (
            k,
            (
              subst (AreTwoNodes (length lists) k) (sym first)
                  (turned (length lists) j k two),
              inr (refl, first),
            ),
            theirs,
          ))
        ]
    | inr second ↦
        elim (Contains-append_cases (heard_by lists j) (heard_by lists k) c made) [
          | inl theirs ↦ inr (inl (j, (subst (AreTwoNodes (length lists) j) (sym second) two, inl (refl, second)), theirs))
          | inr own ↦ inl (subst (λ m. Contains (heard_by lists m) c) (sym second) own)
        ]
  ]

  exchanged : (j k y : ℕ) → AreTwoNodes (length lists) j k → Contains
      (heard_by (hear_both lists j k (heard_by lists j ++ heard_by lists k)) y) c → Arrives members lists (Exchange j k) c y
  exchanged j k y two made = elim (cases_eq y j) [
    | inl first ↦
        exchanged_at j k y two (subst (λ l. Contains l c)
        (ap (heard_by (hear_both lists j k both)) first ∙ both_first lists j k both two) made)
        (inl first)
    | inr not_first ↦
        elim (cases_eq y k) [
          | inl second ↦
              exchanged_at j k y two
              (subst (λ l. Contains l c) (ap (heard_by (hear_both lists j k both)) second ∙ both_second lists j k both two) made)
              (inr second)
          | inr not_second ↦ inl (subst (λ l. Contains l c) (both_other lists j k both y not_first not_second) made)
        ]
  ]
    where
      both : List Claim
      both = heard_by lists j ++ heard_by lists k

  -- nothing else is heard after the event
  pub arrives : (event : Event) (y : ℕ) → Contains (heard_by (after members lists event) y) c → Arrives members lists event c y
  arrives (Hear k claim) y made = elim (hear_cases lists k (claim ∷ []) y c made) [
    | inl old ↦ inl old
    | inr new ↦ inr (inr (new.0, new.1, sym (only_one claim c new.2)))
  ]
  arrives (HearAll k claims) y made = elim (hear_cases lists k claims y c made) [
    | inl old ↦ inl old
    | inr new ↦ inr (inr (new.0, new.1, new.2))
  ]
  arrives (Exchange j k) y made = by_test (are_two_nodes (length lists) j k) refl made
    where
      by_test : (b : Bool) → are_two_nodes (length lists) j k ≡ b → Contains
          (heard_by (if b then hear_both lists j k (heard_by lists j ++ heard_by lists k) else lists) y) c → Arrives members lists
          (Exchange j k) c y
      by_test true test made = exchanged j k y (two_nodes (length lists) j k test) made
      by_test false test made = inl made
  arrives (Half j k) y made = by_test (are_two_nodes (length lists) j k) refl made
    where
      by_test : (b : Bool) → are_two_nodes (length lists) j k ≡ b → Contains
          (heard_by (if b then hear lists k (heard_by lists j) else lists) y) c → Arrives members lists (Half j k) c y
      by_test true test made = elim (hear_cases lists k (heard_by lists j) y c made) [
        | inl old ↦ inl old
        | inr new ↦ inr (inl (
          j,
          (
            subst (AreTwoNodes (length lists) j) (sym new.0)
                (two_nodes (length lists) j k test),
            refl,
            new.0,
          ),
          new.2,
        ))
      ]
      by_test false test made = inl made
  arrives (Refute k) y made = elim (hear_cases lists k (refutation_of members lists k) y c made) [
    | inl old ↦ inl old
    | inr new ↦ inr (inr (new.0, new.1, new.2))
  ]

  kept_both : (j k y : ℕ) → AreTwoNodes (length lists) j k → Contains (heard_by lists y) c → Contains
      (heard_by (hear_both lists j k (heard_by lists j ++ heard_by lists k)) y) c
  kept_both j k y two made = elim (cases_eq y j) [
    | inl first ↦
        subst (λ l. Contains l c) (sym (ap (heard_by (hear_both lists j k both)) first ∙ both_first lists j k both two))
        (Contains-append_left (heard_by lists j) (heard_by lists k) c (subst (λ m. Contains (heard_by lists m) c) first made))
    | inr not_first ↦
        elim (cases_eq y k) [
          | inl second ↦
              subst (λ l. Contains l c) (sym (ap (heard_by (hear_both lists j k both)) second ∙ both_second lists j k both two))
              (Contains-append_right (heard_by lists j) (heard_by lists k) c (subst (λ m. Contains (heard_by lists m) c) second made))
          | inr not_second ↦ subst (λ l. Contains l c) (sym (both_other lists j k both y not_first not_second)) made
        ]
  ]
    where
      both : List Claim
      both = heard_by lists j ++ heard_by lists k

  -- what was heard remains heard
  pub stays : (event : Event) (y : ℕ) → Contains (heard_by lists y) c → Contains (heard_by (after members lists event) y) c
  stays (Hear k claim) y made = hear_kept lists k (claim ∷ []) y c made
  stays (HearAll k claims) y made = hear_kept lists k claims y c made
  stays (Exchange j k) y made = by_test (are_two_nodes (length lists) j k) refl
    where
      by_test : (b : Bool) → are_two_nodes (length lists) j k ≡ b → Contains
          (heard_by (if b then hear_both lists j k (heard_by lists j ++ heard_by lists k) else lists) y) c
      by_test true test = kept_both j k y (two_nodes (length lists) j k test) made
      by_test false test = made
  stays (Half j k) y made = by_test (are_two_nodes (length lists) j k)
    where
      by_test : (b : Bool) → Contains (heard_by (if b then hear lists k (heard_by lists j) else lists) y) c
      by_test true = hear_kept lists k (heard_by lists j) y c made
      by_test false = made
  stays (Refute k) y made = hear_kept lists k (refutation_of members lists k) y c made

  -- what the event leads to node y is heard there
  pub led : (event : Event) (x y : ℕ) → Leads (length lists) event x y → Contains (heard_by lists x) c
      → Contains (heard_by (after members lists event) y) c
  led (Hear k claim) x y leads made = absurd leads
  led (HearAll k claims) x y leads made = absurd leads
  led (Exchange j k) x y leads made = elim leads.1 [
    | inl to ↦
        (let two : AreTwoNodes (length lists) j k = subst
        (λ m. AreTwoNodes (length lists) m k) to.0
        (subst (AreTwoNodes (length lists) x) to.1 leads.0) in
        at_both two (inr to.1) (Contains-append_left (heard_by lists j) (heard_by lists k) c
        (subst (λ m. Contains (heard_by lists m) c) to.0 made)))
    | inr from ↦
        (let two : AreTwoNodes (length lists) j k = turned (length lists) k j (subst (λ m. AreTwoNodes (length lists) m j) from.0
        (subst (AreTwoNodes (length lists) x) from.1 leads.0)) in
        at_both two (inl from.1) (Contains-append_right (heard_by lists j) (heard_by lists k) c
        (subst (λ m. Contains (heard_by lists m) c) from.0 made)))
  ]
    where
      at_both : AreTwoNodes (length lists) j k → (y ≡ j) ⊎ (y ≡ k) → Contains (heard_by lists j ++ heard_by lists k) c
          → Contains (heard_by (after members lists (Exchange j k)) y) c
      at_both two at both_made =
          subst (λ b. Contains (heard_by (if b then hear_both lists j k (heard_by lists j ++ heard_by lists k) else lists) y) c)
          (sym (two_nodes_test (length lists) j k two))
          (elim at [
            | inl first ↦
                subst (λ l. Contains l c)
                (sym
                (ap (heard_by (hear_both lists j k (heard_by lists j ++ heard_by lists k))) first
                ∙ both_first lists j k (heard_by lists j ++ heard_by lists k) two))
                both_made
            | inr second ↦
                subst (λ l. Contains l c)
                (sym
                (ap (heard_by (hear_both lists j k (heard_by lists j ++ heard_by lists k))) second
                ∙ both_second lists j k (heard_by lists j ++ heard_by lists k) two))
                both_made
          ])
  led (Half j k) x y leads made =
      let two : AreTwoNodes (length lists) j k = subst
      (λ m. AreTwoNodes (length lists) m k) leads.1
      (subst (AreTwoNodes (length lists) x) leads.2 leads.0) in
      subst (λ b. Contains (heard_by (if b then hear lists k (heard_by lists j) else lists) y) c)
      (sym (two_nodes_test (length lists) j k two))
      (subst (λ m. Contains (heard_by (hear lists k (heard_by lists j)) m) c) (sym leads.2)
      (hear_new lists k (heard_by lists j) c two.1 (subst (λ m. Contains (heard_by lists m) c) leads.1 made)))
  led (Refute k) x y leads made = absurd leads

  -- and what it brings
  pub brought : (event : Event) (y : ℕ) → Brings members lists event c y → Contains (heard_by (after members lists event) y) c
  brought (Hear k claim) y brings = at_node k (claim ∷ []) y brings.0 brings.1 (0, omega arith, sym brings.2)
    where
      at_node : (k : ℕ) (claims : List Claim) (y : ℕ) → y ≡ k → y < length lists → Contains claims c
          → Contains (heard_by (hear lists k claims) y) c
      at_node k claims y same below made =
          subst (λ m. Contains (heard_by (hear lists k claims) m) c) (sym same)
          (hear_new lists k claims c (subst (λ m. m < length lists) same below) made)
  brought (HearAll k claims) y brings =
      subst (λ m. Contains (heard_by (hear lists k claims) m) c) (sym brings.0)
      (hear_new lists k claims c (subst (λ m. m < length lists) brings.0 brings.1) brings.2)
  brought (Exchange j k) y brings = absurd brings
  brought (Half j k) y brings = absurd brings
  brought (Refute k) y brings =
      subst (λ m. Contains (heard_by (hear lists k (refutation_of members lists k)) m) c) (sym brings.0)
      (hear_new lists k (refutation_of members lists k) c (subst (λ m. m < length lists) brings.0 brings.1) brings.2)
