-- The number of records of a table: at most that of the claims made, and of the bytes of its dump.
use Rattle.std.proofs.Common.{◌≡◌, ℕ, ◌<◌, ◌≤◌, ◌+◌, Bool, true, false, if◌then◌else◌, Option, Some, None, List, []}
use Rattle.std.proofs.Common.{◌∷◌, length, refl, length-append, arith}
use Rattle.std.specs.List.{flat_map}
use Rattle.std.specs.Option.{option_to_list}
use Rattle.std.specs.Ordering.{is_gt}
use Rattle.std.specs.declared.cmp.Ordering.{Ordering}
use Rattle.std.specs.declared.cmp.Ordering.TheVariants.{Less, Equal, Greater}
use Rattle.swim_claim.specs.declared.claim.Claim.{Claim}
use Rattle.swim_claim.specs.declared.claim.Claim.TheVariants.{Alive, Suspect, Confirm, Leave}
use Rattle.swim_claim.specs.Claim.{name_of}
use Rattle.swim_claim.specs.Rank.{claim_cmp}
use Rattle.swim_wire.specs.Canonical.{header_bytes, state_bytes}
use Rattle.swim_wire.specs.Limits.{max_nodes}
use Rattle.swim_table.specs.Join.{combined, greater, greater_home, standing_of, by_order, put, table_of}
use Rattle.swim_table.specs.Standing.{Standing}
use Rattle.swim_table.specs.Table.{Entries, Reduced, TableOf, name_cmp, kept, beside_home}
use Rattle.swim_table.proofs.Tables.{TableOf-table_of, TableOf-unique}
use Rattle.swim_sync.specs.Exchanging.{HasTooMany}
use Rattle.swimtab.specs.Files.{FileClaims}
use Rattle.swimtab.specs.Looping.{FitsLoop}

-- ---- as claims

beside_either : (first : Bool) (c d : Claim)
    → length (beside_home (if first then d else c)) ≤ length (beside_home c) + length (beside_home d)
beside_either true c d = omega arith
beside_either false c d = omega arith

home_either : (h g : Option Claim) → length (option_to_list (greater_home h g)) ≤ length (option_to_list h) + length (option_to_list g)
home_either None g = omega arith
home_either (Some a) None = omega arith
home_either (Some a) (Some b) = omega arith

-- two entries together keep no more than both
kept_combined : (s t : Standing) → length (kept (combined s t)) ≤ length (kept s) + length (kept t)
kept_combined s t =
    omega (
      arith,
      beside_either (is_gt (claim_cmp t.top s.top)) s.top t.top,
      home_either s.home t.home,
      length-append (option_to_list s.home) (beside_home s.top),
      length-append (option_to_list t.home) (beside_home t.top),
      length-append (option_to_list (greater_home s.home t.home)) (beside_home (greater s.top t.top)),
    )

kept_one : (c : Claim) → length (kept (standing_of c)) ≡ 1
kept_one (Alive name inc details) = refl
kept_one (Suspect name inc) = refl
kept_one (Confirm name inc) = refl
kept_one (Leave name inc) = refl

-- one more entry adds no more than it keeps
records_put : (table : Entries) (s : Standing) → length (Reduced (put table s)) ≤ length (Reduced table) + length (kept s)
records_put [] s = omega (arith, length-append (kept s) [])
records_put (entry ∷ rest) s = by_place (records_put rest s) (name_cmp (name_of s.top) (name_of entry.top))
  where
    by_place : length (Reduced (put rest s)) ≤ length (Reduced rest) + length (kept s) → (o : Ordering)
        → length (Reduced (by_order o (s ∷ entry ∷ rest) (combined entry s ∷ rest)
        (entry ∷ put rest s))) ≤ length (Reduced (entry ∷ rest)) + length (kept s)
    by_place later Less = omega (arith, length-append (kept s) (Reduced (entry ∷ rest)))
    by_place later Equal =
        omega (
          arith,
          kept_combined entry s,
          length-append (kept (combined entry s)) (Reduced rest),
          length-append (kept entry) (Reduced rest),
        )
    by_place later Greater = omega (
      arith,
      later,
      length-append (kept entry) (Reduced (put rest s)),
      length-append (kept entry) (Reduced rest),
    )

-- each claim adds at most one record
records_of : (claims : List Claim) → length (Reduced (table_of claims)) ≤ length claims
records_of [] = omega arith
records_of (c ∷ claims) = omega (arith, records_of claims, records_put (table_of claims) (standing_of c), kept_one c)

-- the table of one stream has few enough records
pub stream_few : (file : List ℕ) (claims : List Claim) (table : Entries) → FileClaims file claims
    → TableOf table claims → ¬ HasTooMany table
stream_few file claims table made h many =
    let text = made.1 in
    let same = TableOf-unique table (table_of claims) claims claims h (TableOf-table_of claims) (λ c. (λ m. m, λ m. m)) in
    let few : length (Reduced table) ≤ length claims = rw same (records_of claims) in
    let nodes : length claims ≤ max_nodes = rw (text.nodes, text.head_text.header) text.head_text.few_nodes in
    omega (arith, many, few, nodes)

-- ---- as bytes

state_some : (c : Claim) → 0 < length (state_bytes c)
state_some (Alive name inc details) = omega arith
state_some (Suspect name inc) = omega arith
state_some (Confirm name inc) = omega arith
state_some (Leave name inc) = omega arith

-- each record has at least one byte
a_byte_each : (claims : List Claim) → length claims ≤ length (flat_map state_bytes claims)
a_byte_each [] = omega arith
a_byte_each (c ∷ claims) = omega (arith, state_some c, a_byte_each claims, length-append (state_bytes c) (flat_map state_bytes claims))

-- a table whose dump is short has few enough records
pub fits_few : (table : Entries) → FitsLoop table → ¬ HasTooMany table
fits_few table fits many =
    omega (
      arith,
      fits,
      many,
      a_byte_each (Reduced table),
      length-append (header_bytes (record { nodes = length (Reduced table); user_len = 0; join = false }))
          (flat_map state_bytes (Reduced table)),
    )
