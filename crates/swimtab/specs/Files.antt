-- Files with dumps, the claims that they make, and why they are refused.
use Rattle.std.specs.Prelude.{◌≡◌, ℕ, ◌<◌, ◌≤◌, Bool, List, [], ◌∷◌, ◌++◌, length, map, codes, All, None}
use Rattle.std.specs.declared.vec.Vec.{Vec}
use Rattle.swim_claim.specs.declared.claim.Claim.{Claim}
use Rattle.swim_program.specs.Limits.{max_input_len}
use Rattle.swim_wire.specs.declared.fault.WireFault.{WireFault}
use Rattle.swim_wire.specs.Limits.{max_nodes}
use Rattle.swim_wire.specs.Streams.{StreamText}
use Rattle.swim_table.specs.declared.table.Relation.{Relation}
use Rattle.swim_table.specs.declared.table.Relation.TheVariants.{Equal, Behind, Ahead, Apart}
use Rattle.swim_table.specs.Steps.{ReasonForDump}
use Rattle.swim_table.specs.Table.{Entries, TableOf, Reduced}
use Rattle.swim_program.specs.declared.report.Place.TheVariants.{File, Output}
use Rattle.swim_program.specs.declared.report.What.{What}
use Rattle.swim_program.specs.declared.report.What.TheVariants.{Refused, Memory}
use Rattle.swim_program.specs.declared.report.Report.{Report}
use Rattle.swim_program.specs.Report.{what_of}

-- the bytes of each file
abbrev pub bytes_of : {Z : Type 0} → List (Vec ℕ Z) → List (List ℕ)
bytes_of files = map (λ file. file.items) files

-- the file is one stream of these claims, with any join flag
abbrev pub FileClaims : List ℕ → List Claim → Type 0
FileClaims file claims = (join : Bool) × StreamText file claims join

-- the files make these claims, one file after another
abbrev pub FilesClaims : List (List ℕ) → List Claim → Type 0
FilesClaims [] claims = claims ≡ []
FilesClaims (file ∷ files) claims =
    (own : List Claim) × (others : List Claim) × FileClaims file own × FilesClaims files others
    × (claims ≡ own ++ others)

-- The file is not a stream, and the report has the fault of its bytes.
pub record IsNoDump (file : List ℕ) (what : What) : Type 0 where
  pub fault : WireFault
  pub none : (claims : List Claim) → ¬ FileClaims file claims
  pub why : ReasonForDump fault file
  pub told : what ≡ what_of fault

-- no file is longer than allowed
abbrev pub AreShortFiles : List (List ℕ) → Type 0
AreShortFiles files = All (λ file. length file ≤ max_input_len) files

-- the k-th file is longer than allowed, and none before it is
pub record IsFirstLong (files : List (List ℕ)) (k : ℕ) : Type 0 where
  pub before : List (List ℕ)
  pub file : List ℕ
  pub after : List (List ℕ)
  pub parts : files ≡ before ++ file ∷ after
  pub place : length before ≡ k
  pub short : AreShortFiles before
  pub long : max_input_len < length file

-- the k-th file is not a stream, with this fault, and each before it is one
pub record IsFirstNoDump (files : List (List ℕ)) (k : ℕ) (what : What) : Type 0 where
  pub before : List (List ℕ)
  pub file : List ℕ
  pub after : List (List ℕ)
  pub parts : files ≡ before ++ file ∷ after
  pub place : length before ≡ k
  pub claims : List Claim
  pub right : FilesClaims before claims
  pub wrong : IsNoDump file what

-- Why files are refused: one is too long, or one is not a stream, or memory ran out.
pub data AreRefused (files : List (List ℕ)) (report : Report) : Type 0 where
  too_long : (k : ℕ) → IsFirstLong files k → report.place ≡ File k → report.what ≡ Refused 32 None
      → AreRefused files report
  no_stream : (k : ℕ) → AreShortFiles files → IsFirstNoDump files k report.what
      → report.place ≡ File k → AreRefused files report
  memory : AreShortFiles files → report.what ≡ Memory → AreRefused files report

-- the table of the claims in the files has more records than a dump may have
pub record HaveTooMany (files : List (List ℕ)) (report : Report) : Type 0 where
  pub claims : List Claim
  pub table : Entries
  pub short : AreShortFiles files
  pub made : FilesClaims files claims
  pub table_of : TableOf table claims
  pub many : max_nodes < length (Reduced table)
  pub place : report.place ≡ Output
  pub what : report.what ≡ Refused 23 None

-- the line that says how two tables relate
abbrev pub relation_text : Relation → List ℕ
relation_text Equal = codes "equal\n"
relation_text Behind = codes "behind\n"
relation_text Ahead = codes "ahead\n"
relation_text Apart = codes "apart\n"
