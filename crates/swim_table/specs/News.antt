-- Which names a join changes, as the names of a table.
use Rattle.std.specs.Prelude.{◌≡◌, ◌≢◌, ◌↔◌, ◌⊎◌, ◌++◌, ◌∷◌, [], ℕ, List, Some, MatchOption, IsSome}
use Rattle.swim_claim.specs.Claim.{name_of}
use Rattle.swim_claim.specs.declared.claim.Claim.{Claim}
use Rattle.swim_table.specs.Table.{Entries, get, TableOf, TakesIn}
use Rattle.swim_table.specs.Join.{Join, joined, standing_of}

-- the names of this table are those whose entry changed
abbrev pub AreChanges : Entries → Entries → Entries → Type 0
AreChanges before after changed = (name : List ℕ) → MatchOption (get changed name)
    (get after name ≡ get before name) (λ _. get after name ≢ get before name)

-- the names are those of before, and this one
abbrev pub HasAlso : List ℕ → Entries → Entries → Type 0
HasAlso also before after = (name : List ℕ)
    → IsSome (get after name) ↔ (IsSome (get before name) ⊎ (name ≡ also))

-- to join the news in is to take in these claims, and the names of the news are those whose entry
-- this changes
pub record IsNewsOf (table news : Entries) (claims : List Claim) : Type 0 where
  pub joins : TakesIn table (Join table news) claims
  pub changes : AreChanges table (Join table news) news

-- the claim adds nothing to the table
abbrev pub IsKnown : Entries → Claim → Type 0
IsKnown table c = let own = get table (name_of c) in joined own (Some (standing_of c)) ≡ own

-- a claim that adds nothing to the table leaves the news as they were, any other is taken into them
pub data TakesNews (table old new : Entries) (c : Claim) : Type 0 where
  known : IsKnown table c → new ≡ old → TakesNews table old new c
  taken : (¬ IsKnown table c) → ((claims : List Claim) → TableOf old claims
      → TableOf new (claims ++ c ∷ [])) → TakesNews table old new c
