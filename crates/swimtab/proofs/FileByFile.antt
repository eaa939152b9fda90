-- The claims of files, one file after another.
use Rattle.std.proofs.Common.{◌≡◌, ◌≢◌, Result, Ok, Err, IfOk, ℕ, ◌<◌, ◌≤◌, ◌⊎◌, inl, inr, Bool, List, [], ◌∷◌, ◌++◌}
use Rattle.std.proofs.Common.{length, map, take, drop, get_or, refl, sym, ap, subst, ◌∙◌, append_assoc, append-nil}
use Rattle.std.proofs.Common.{zero, suc, ◌+◌, arith}
use Rattle.std.specs.Prelude.{None}
use Rattle.std.proofs.Math.ListN.{get_or-map}
use Rattle.std.proofs.lemmas.List.{length-map, length-take-le, take_all}
use Rattle.std.proofs.lemmas.List.Elements.{All-push, All-nil}
use Rattle.swim_claim.specs.declared.claim.Claim.{Claim}
use Rattle.swim_wire.specs.declared.fault.WireFault.{WireFault}
use Rattle.swim_wire.specs.declared.fault.WireFault.TheVariants as wire
use Rattle.swim_wire.specs.Streams.{StreamText}
use Rattle.swim_program.specs.declared.report.What.{What}
use Rattle.swim_program.specs.declared.report.What.TheVariants.{Memory, Refused}
use Rattle.swim_program.specs.declared.report.Place.TheVariants.{File}
use Rattle.swim_program.specs.declared.report.Report.{Report}
use Rattle.swim_table.specs.Steps.{ReasonForDump}
use Rattle.swim_table.specs.Table.{Entries, TableOf, TakesIn}
use Rattle.swim_table.proofs.Tables.{TableOf-table_of}
use Rattle.swimtab.specs.Files.{FileClaims, FilesClaims, IsNoDump, AreShortFiles, AreRefused}
use Rattle.swimtab.specs.Files.AreRefused.{too_long, no_stream, memory}
use Rattle.swim_program.specs.Report.{what_of}
use Rattle.swim_program.proofs.Copies.{one_more}

is_memory : (fault : WireFault) → (fault ≡ wire.Memory) ⊎ (fault ≢ wire.Memory)
is_memory wire.Memory = inl refl
is_memory wire.Ended = inr (λ e. cc)
is_memory wire.NotUnsigned = inr (λ e. cc)
is_memory wire.OutOfRange = inr (λ e. cc)
is_memory wire.NotBool = inr (λ e. cc)
is_memory wire.NotRaw = inr (λ e. cc)
is_memory wire.TooLong = inr (λ e. cc)
is_memory wire.NotMap = inr (λ e. cc)
is_memory wire.MapCount = inr (λ e. cc)
is_memory wire.Fault = inr (λ e. cc)
is_memory wire.NameEmpty = inr (λ e. cc)
is_memory wire.BadAddress = inr (λ e. cc)
is_memory wire.BadVersions = inr (λ e. cc)
is_memory (wire.WrongType found) = inr (λ e. cc)
is_memory wire.UnknownKey = inr (λ e. cc)
is_memory wire.DuplicateKey = inr (λ e. cc)
is_memory (wire.BadState found) = inr (λ e. cc)
is_memory wire.TooManyNodes = inr (λ e. cc)
is_memory wire.UserTooLong = inr (λ e. cc)
is_memory wire.Trailing = inr (λ e. cc)

-- a dump is refused because memory ran out, or because it is not a stream
pub refused_for : (file : List ℕ) (fault : WireFault) (what : What) → what ≡ what_of fault
    → (fault ≢ wire.Memory → (claims : List Claim) (join : Bool) → ¬ StreamText file claims join) → ReasonForDump fault file
    → (what ≡ Memory) ⊎ IsNoDump file what
refused_for file fault what is none why = elim (is_memory fault) [
  | inl e ↦ inl (is ∙ ap what_of e)
  | inr seen ↦ inr (record { fault = fault; none = λ claims h. none seen claims h.0 h.1; why = why; told = is })
]

-- what a table of no claims took in is all that it has
pub read_alone : (r : Result Entries Report) (file : List ℕ)
    → IfOk r (λ table. (claims : List Claim) × FileClaims file claims × TakesIn [] table claims)
    → IfOk r (λ table. (claims : List Claim) × FileClaims file claims × TableOf table claims)
read_alone (Ok table) file h = (h.0, h.1, h.2 [] (TableOf-table_of []))
read_alone (Err report) file h = tt

-- one more file
pub FilesClaims-push : (files : List (List ℕ)) (file : List ℕ) (claims own : List Claim) → FilesClaims files claims
    → FileClaims file own → FilesClaims (files ++ file ∷ []) (claims ++ own)
FilesClaims-push [] file claims own each h = (own, [], h, refl, ap (λ t. t ++ own) each ∙ sym (append-nil own))
FilesClaims-push (first ∷ files) file claims own each h = (
  each.0,
  each.1 ++ own,
  each.2,
  FilesClaims-push files file each.1 own each.3 h,
  ap (λ t. t ++ own) each.4 ∙ append_assoc each.0 each.1 own,
)

-- a list up to an index, the element there, and what follows
pub parts_at : {A : Type 0} (xs : List A) (n : ℕ) (d : A) → n < length xs → xs ≡ take n xs ++ get_or xs n d ∷ drop (suc n) xs
parts_at [] n d l = absurd (omega arith)
parts_at (x ∷ xs) zero d l = refl
parts_at (x ∷ xs) (suc n) d l = ap (λ t. x ∷ t) (parts_at xs n d (omega arith))

-- the file at an index
at_place : {V : Type 0} (f : V → List ℕ) (files : List V) (k : ℕ) (v : V) (file : List ℕ) → k < length files
    → v ≡ get_or files k v → file ≡ f v
    → map f files ≡ take k (map f files) ++ file ∷ drop (suc k) (map f files)
at_place f files k v file l here is =
    let same : get_or (map f files) k (f v) ≡ file = get_or-map f files k v ∙ ap f (sym here) ∙ sym is in
    subst (λ t. map f files ≡ take k (map f files) ++ t ∷ drop (suc k) (map f files)) same
    (parts_at (map f files) k (f v) (omega (arith, l, length-map files f)))

place_of : {V : Type 0} (f : V → List ℕ) (files : List V) (k : ℕ) → k < length files → length (take k (map f files)) ≡ k
place_of f files k l = length-take-le k (map f files) (omega (arith, l, length-map files f))

-- a file that is too long
pub long_at : {V : Type 0} (f : V → List ℕ) (files : List V) (k : ℕ) (v : V) (file : List ℕ) (report : Report)
    → k < length files → v ≡ get_or files k v → file ≡ f v
    → AreShortFiles (take k (map f files)) → 268435456 < length file → report ≡ record { place = File k; what = Refused 32 None }
    → AreRefused (map f files) report
long_at f files k v file report l here is short long e = too_long k (record {
  before = take k (map f files);
  file = file;
  after = drop (suc k) (map f files);
  parts = at_place f files k v file l here is;
  place = place_of f files k l;
  short = short;
  long = long;
}) (ap (λ r. r.place) e) (ap (λ r. r.what) e)

-- a file that is refused for another reason
pub wrong_at : {V : Type 0} (f : V → List ℕ) (files : List V) (k : ℕ) (v : V) (file : List ℕ) (claims : List Claim)
    (report : Report) → k < length files → v ≡ get_or files k v → file ≡ f v
    → AreShortFiles (map f files) → FilesClaims (take k (map f files)) claims → report.place ≡ File k
    → (report.what ≡ Memory) ⊎ IsNoDump file report.what → AreRefused (map f files) report
wrong_at f files k v file claims report l here is short right place why = elim why [
  | inl e ↦ memory short e
  | inr h ↦ no_stream k short (record {
    before = take k (map f files);
    file = file;
    after = drop (suc k) (map f files);
    parts = at_place f files k v file l here is;
    place = place_of f files k l;
    claims = claims;
    right = right;
    wrong = h;
  }) place
]

-- one more file is short
pub short_push : {V : Type 0} (f : V → List ℕ) (files : List V) (k : ℕ) (v : V) (file : List ℕ)
    → k < length files → v ≡ get_or files k v → file ≡ f v
    → AreShortFiles (take k (map f files)) → length file ≤ 268435456 → AreShortFiles (take (k + 1) (map f files))
short_push f files k v file l here is short own =
    subst AreShortFiles (sym (one_more f files k v file l here is))
    (All-push (λ t. length t ≤ 268435456) (take k (map f files)) file short own)

-- one more file makes its claims
pub claims_push : {V : Type 0} (f : V → List ℕ) (files : List V) (k : ℕ) (v : V) (file : List ℕ) (claims own : List Claim)
    → k < length files → v ≡ get_or files k v → file ≡ f v
    → FilesClaims (take k (map f files)) claims → FileClaims file own → FilesClaims (take (k + 1) (map f files)) (claims ++ own)
claims_push f files k v file claims own l here is each h =
    subst (λ t. FilesClaims t (claims ++ own)) (sym (one_more f files k v file l here is))
    (FilesClaims-push (take k (map f files)) file claims own each h)

-- all files
pub all_files : {V : Type 0} (f : V → List ℕ) (files : List V) (k : ℕ) (P : List (List ℕ) → Type 0) → length files ≤ k → P
    (take k (map f files)) → P (map f files)
all_files f files k P l h = subst P (take_all k (map f files) (omega (arith, l, length-map files f))) h

one_short : (file : List ℕ) → length file ≤ 268435456 → AreShortFiles (file ∷ [])
one_short file short = All-push (λ t. length t ≤ 268435456) [] file (All-nil (λ t. length t ≤ 268435456)) short

-- ---- two files

pub both_short : (first second : List ℕ) → length first ≤ 268435456 → length second ≤ 268435456 → AreShortFiles (first ∷ second ∷ [])
both_short first second a b = All-push (λ t. length t ≤ 268435456) (first ∷ []) second (one_short first a) b

pub first_long : (first second : List ℕ) (report : Report) → 268435456 < length first → report ≡ record
    { place = File 0; what = Refused 32 None } → AreRefused (first ∷ second ∷ []) report
first_long first second report long e =
    long_at (λ t. t) (first ∷ second ∷ []) 0 first first report (omega arith) refl refl (All-nil (λ t. length t ≤ 268435456)) long e

pub second_long : (first second : List ℕ) (report : Report) → length first ≤ 268435456 → 268435456 < length second
    → report ≡ record { place = File 1; what = Refused 32 None } → AreRefused (first ∷ second ∷ []) report
second_long first second report short long e =
    long_at (λ t. t) (first ∷ second ∷ []) 1 second second report (omega arith) refl refl (one_short first short) long e

pub first_wrong : (first second : List ℕ) (report : Report) → AreShortFiles (first ∷ second ∷ []) → report.place ≡ File 0
    → (report.what ≡ Memory) ⊎ IsNoDump first report.what → AreRefused (first ∷ second ∷ []) report
first_wrong first second report short place why = wrong_at
    (λ t. t) (first ∷ second ∷ []) 0 first first [] report (omega arith) refl refl short refl place why

pub second_wrong : (first second : List ℕ) (claims : List Claim) (report : Report) → AreShortFiles (first ∷ second ∷ [])
    → FileClaims first claims → report.place ≡ File 1
    → (report.what ≡ Memory) ⊎ IsNoDump second report.what → AreRefused (first ∷ second ∷ []) report
second_wrong first second claims report short right place why =
    wrong_at (λ t. t) (first ∷ second ∷ []) 1 second second claims report (omega arith) refl refl short
    (claims, [], right, refl, sym (append-nil claims)) place why
