-- What a view says of its members, taken into a table.
use Rattle.std.proofs.Common.{◌≡◌, ◌∙◌, ℕ, List, [], ◌∷◌, ◌++◌, append_assoc, append-nil, refl, sym, subst}
use Rattle.swim_claim.specs.declared.claim.Claim.{Claim}
use Rattle.swim_table.proofs.Tables.{TableOf-table_of}
use Rattle.swim_table.specs.Table.{Entries, TableOf}
use Rattle.memberlist_view.specs.declared.entry.Entry.{Entry}
use Rattle.memberlist_view.specs.Told as view
use Rattle.swim_c.specs.ViewMembers.{claims_of, claims_shown}

-- these claims are taken in, after those that were
abbrev pub TakesIn : Entries → Entries → List Claim → Type 0
TakesIn table new said = (claims : List Claim) → TableOf table claims → TableOf new (claims ++ said)

pub taken_as : (table new : Entries) (said other : List Claim) → said ≡ other → TakesIn table new said → TakesIn table new other
taken_as table new said other is takes = subst (TakesIn table new) is takes

pub taken_both : (table one two : Entries) (c d : Claim) → TakesIn table one (c ∷ [])
    → TakesIn one two (d ∷ []) → TakesIn table two (c ∷ d ∷ [])
taken_both table one two c d first second = λ claims h.
    subst (TableOf two) (append_assoc claims (c ∷ []) (d ∷ [])) (second (claims ++ c ∷ []) (first claims h))

-- the table has what the view says of all members but these
abbrev pub HasAllBut : view.Entries → view.Entries → Entries → Type 0
HasAllBut all rest table = (past : List Claim) × TableOf table past × (past ++ claims_shown rest ≡ claims_shown all)

pub none_yet : (all : view.Entries) → HasAllBut all all []
none_yet all = ([], TableOf-table_of [], refl)

pub one_more : (all rest : view.Entries) (e : List ℕ × Entry) (table new : Entries) → HasAllBut all (e ∷ rest) table
    → TakesIn table new (claims_of e.0 e.1.inc e.1.details e.1.state) → HasAllBut all rest new
one_more all rest e table new (past, of, sum) takes =
    let said = claims_of e.0 e.1.inc e.1.details e.1.state in
    (past ++ said, takes past of, append_assoc past said (claims_shown rest) ∙ sum)

pub all_taken : (all : view.Entries) (table : Entries) → HasAllBut all [] table → TableOf table (claims_shown all)
all_taken all table (past, of, sum) = subst (TableOf table) (sym (append-nil past) ∙ sum) of
