-- The two forms of a table's dump, by number, and the user state of a stream.
use Rattle.std.specs.Prelude.{◌≡◌, ◌≢◌, ℕ, ◌<◌, ◌≤◌, Bool, List, [], length}
use Rattle.swim_claim.specs.declared.claim.Claim.{Claim}
use Rattle.swim_wire.specs.Limits.{max_nodes, max_user_state_len}
use Rattle.swim_table.specs.Dump.{dump_bytes}
use Rattle.swim_table.specs.MemberlistDump.{memberlist_dump_bytes, told_of}
use Rattle.swim_table.specs.Table.{Entries, Reduced}
use Rattle.swim_c.specs.declared.form.Form.{Form}
use Rattle.swim_c.specs.declared.form.Form.TheVariants.{Canonical, Memberlist}
use Rattle.swim_c.specs.Statuses as statuses

-- the number of a form
abbrev pub form_number : Form → ℕ
form_number Canonical = 0
form_number Memberlist = 1

-- a form, and the user state that the dump is to have
pub record Wanted : Type 0 where
  pub form : Form
  pub user : List ℕ

abbrev pub wanted : Form → List ℕ → Wanted
wanted form user = record { form = form; user = user }

-- the table's dump in a form: the canonical one, which has no user state, or the one that
-- memberlist merges
abbrev pub bytes_as : Form → Entries → Bool → List ℕ → List ℕ
bytes_as Canonical table join user = dump_bytes table join
bytes_as Memberlist table join user = memberlist_dump_bytes table join user

abbrev pub bytes_in : Wanted → Entries → Bool → List ℕ
bytes_in w table join = bytes_as w.form table join w.user

-- the claims whose records are in the dump in a form
abbrev pub claims_as : Form → Entries → List Claim
claims_as Canonical table = Reduced table
claims_as Memberlist table = told_of table

-- the table has more records in a form than a stream may have
abbrev pub HasTooManyIn : Wanted → Entries → Type 0
HasTooManyIn w table = max_nodes < length (claims_as w.form table)

-- the canonical form has no user state, and memberlist's has at most 20,971,520 bytes of it
abbrev pub Allows : Form → List ℕ → Type 0
Allows Canonical user = user ≡ []
Allows Memberlist user = length user ≤ max_user_state_len

-- the form has this number, and may have this user state
pub record IsWanted (number : ℕ) (user : List ℕ) (w : Wanted) : Type 0 where
  pub number_is : number ≡ form_number w.form
  pub user_is : w.user ≡ user
  pub allowed : Allows w.form w.user

-- There is no such form, or user state is wanted in the canonical one (70); or there is too much of
-- it (21).
pub data IsUnwanted (number : ℕ) (user : List ℕ) (status : ℕ) : Type 0 where
  no_form : ((form : Form) → number ≢ form_number form) → status ≡ statuses.bad_form
      → IsUnwanted number user status
  no_user : number ≡ 0 → user ≢ [] → status ≡ statuses.bad_form → IsUnwanted number user status
  too_long : number ≡ 1 → max_user_state_len < length user → status ≡ statuses.user_too_long
      → IsUnwanted number user status
