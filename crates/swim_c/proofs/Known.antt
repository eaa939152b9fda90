-- A node knows the names that it noted.
use Rattle.std.proofs.Common.{◌≢◌, ℕ, Option, Some, None, IsSome, List, ◌++◌, refl, sym, subst, inl, inr}
use Rattle.std.proofs.lemmas.List.Elements.{Contains-append_left}
use Rattle.swim_claim.specs.declared.claim.Claim.{Claim}
use Rattle.swim_table.specs.Standing.{Standing}
use Rattle.swim_table.specs.Table.{Entries, EntryOf, TableOf, Reduced, get}
use Rattle.swim_table.specs.Node.{NodeValue}
use Rattle.swim_table.proofs.Forgetting.{others_stay}
use Rattle.swim_table.proofs.Showing.{name_shown}
use Rattle.swim_c.specs.Forgetting.{ForgetsName, LeavesOut, LetsNameGo}
use Rattle.swim_c.specs.Taking.{TakesClaims}
use Rattle.swim_c.specs.Watching.{IsNoted, LetsGo, NotesChanges}

-- what was known stays known
stays_known : (before after : Entries) (claims : List Claim) → TableOf before (Reduced before)
    → TakesClaims claims before after → (name : List ℕ)
    → IsSome (get before name) → IsSome (get after name)
stays_known before after claims own took name known = by_answer (get before name) (own.each name) known
  where
    by_answer : (o : Option Standing) → EntryOf (Reduced before) name o → IsSome o → IsSome (get after name)
    by_answer None says some = absurd cc
    by_answer (Some s) says some =
        subst (λ n. IsSome (get after n)) says.about
        (name_shown after (Reduced before ++ claims) took.reduced s.top (Contains-append_left (Reduced before) claims s.top says.top.made))

is_known : (o o' : Option Standing) → (IsSome o → IsSome o') → o' ≢ o → IsSome o'
is_known None None stays differs = absurd (differs refl)
is_known None (Some t) stays differs = refl
is_known (Some s) o' stays differs = stays refl

pub taken : (old new : Option Entries) (before after : Entries) (claims : List Claim)
    → TableOf before (Reduced before) → TakesClaims claims before after
    → NotesChanges old new before after → ((name : List ℕ) → IsNoted old name → IsSome (get before name))
    → (name : List ℕ) → IsNoted new name → IsSome (get after name)
taken None None before after claims own took notes knew name noted = absurd noted
taken None (Some new) before after claims own took notes knew name noted = absurd notes
taken (Some old) None before after claims own took notes knew name noted = absurd noted
taken (Some old) (Some new) before after claims own took notes knew name noted = elim ((notes name).0 noted) [
  | inl had ↦ stays_known before after claims own took name (knew name had)
  | inr differs ↦ is_known (get before name) (get after name) (stays_known before after claims own took name) differs
]

pub told : (old new : Option Entries) (table : Entries) → LetsGo old new 0 → ((name : List ℕ) → IsNoted old name → IsSome (get table name))
    → (name : List ℕ) → IsNoted new name → IsSome (get table name)
told old new table goes knew name noted = knew name ((goes.done refl name).0 noted).0

left_known : (gone : List ℕ) (old new : Option Entries) (before after : NodeValue) → TableOf before.table (Reduced before.table)
    → ForgetsName gone before after → LeavesOut gone old new → ((name : List ℕ) → IsNoted old name → IsSome (get before.table name))
    → (name : List ℕ) → IsNoted new name → IsSome (get after.table name)
left_known gone None None before after own forgets leaves knew name noted = absurd noted
left_known gone None (Some new) before after own forgets leaves knew name noted = absurd leaves
left_known gone (Some old) None before after own forgets leaves knew name noted = absurd noted
left_known gone (Some old) (Some new) before after own forgets leaves knew name noted =
    let had = (leaves name).0 noted in
    subst IsSome (sym (others_stay before.table after.table (Reduced before.table) gone name own forgets.kept had.1)) (knew name had.0)

pub forgotten : (gone : List ℕ) (old new : Option Entries) (before after : NodeValue) → TableOf before.table (Reduced before.table)
    → ForgetsName gone before after → LetsNameGo gone old new 0 → ((name : List ℕ) → IsNoted old name → IsSome (get before.table name))
    → (name : List ℕ) → IsNoted new name → IsSome (get after.table name)
forgotten gone old new before after own forgets goes = left_known gone old new before after own forgets (goes.done refl)
