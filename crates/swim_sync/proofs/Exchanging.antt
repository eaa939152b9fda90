-- Tables that take a stream's claims in, and tables that are read back from their dumps.
use Rattle.std.proofs.Common.{◌≡◌, ◌↔◌, ℕ, ◌≤◌, ◌*◌, Bool, false, Option, Some, None, List, [], ◌∷◌, ◌++◌, length, Ok}
use Rattle.std.proofs.Common.{Err, refl, sym, ap, subst, ◌∙◌, arith}
use Rattle.swim_claim.specs.declared.claim.Claim.{Claim}
use Rattle.swim_claim.specs.declared.claim.Claim.TheVariants.{Alive, Suspect, Confirm, Leave}
use Rattle.std.specs.Io.KnownBytes.{Keeps}
use Rattle.std.specs.Option.{option_to_list}
use Rattle.std.proofs.lemmas.List.{length-append}
use Rattle.swim_pack.specs.declared.fault.PushFault.{PushFault}
use Rattle.swim_pack.specs.declared.fault.PushFault.TheVariants as push
use Rattle.swim_pack.specs.Ends.{Source, Sink, ConsumesText, CountsFault, AppendsFront}
use Rattle.swim_wire.specs.Streams.{StreamText}
use Rattle.swim_wire.specs.Limits.{max_nodes}
use Rattle.swim_table.specs.declared.fault.EncodeFault.TheVariants.{TooManyRecords}
use Rattle.swim_table.specs.Dump.{dump_bytes}
use Rattle.swim_table.specs.Join.{Join, Below}
use Rattle.swim_table.specs.Table.{Entries, Reduced, TableOf, IsLegalTable, kept, beside_home}
use Rattle.swim_table.proofs.Showing.{TableOf-sent}
use Rattle.swim_table.proofs.Tables.{TableOf-table_of, TableOf-unique, TableOf-Reduced, TableOf-Join, Join-comm, Join-itself}
use Rattle.swim_sync.specs.Exchanging.{TakesStream, HasTooMany, IsPrepareRefused, IsAnswerRefused}
use Rattle.swim_sync.specs.Fault.{fault_of_push}
use Rattle.swim_sync.specs.declared.fault.SyncFault.{SyncFault}
use Rattle.swim_sync.specs.declared.fault.SyncFault.TheVariants as sync
use Rattle.std.proofs.KnownBytes.{Keeps-refl}

-- a stream was read, and its table joined in
pub joined_in : (old new : Source) (before theirs after : Entries) (join : Bool)
    → ((claims : List Claim) × TableOf theirs claims × ConsumesText old new (λ b. StreamText b claims join))
    → after ≡ Join before theirs → ((claims others : List Claim) → TableOf before claims
    → TableOf theirs others → TableOf after (claims ++ others))
    → TakesStream old new before after join
joined_in old new before theirs after join read is all =
    let kept : TableOf after (Reduced before ++ Reduced theirs) =
    subst (λ t. TableOf t (Reduced before ++ Reduced theirs)) (sym is) (TableOf-table_of (Reduced before ++ Reduced theirs)) in
    record {
      claims = read.0;
      taken = read.2;
      reduced = TableOf-sent theirs after (Reduced theirs) read.0 (Reduced before) (TableOf-Reduced theirs read.0 read.1) read.1 kept;
      all = λ others h. all others read.0 h read.1;
    }

-- a table that has a dump has few enough records
few_enough : {V : Type 0} (bytes : V) (table : Entries)
    → ((Ok bytes ≡ Err TooManyRecords) ↔ HasTooMany table) → length (Reduced table) ≤ max_nodes
few_enough bytes table many =
    let few : ¬ HasTooMany table = λ h. let e = many.1 h in absurd cc in
    omega (arith, few)

-- a table that was dumped and read back
pub sent : {V : Type 0} (bytes : V) (dump : List ℕ) (table other : Entries) (flag : Bool) → IsLegalTable table →
    ((Ok bytes ≡ Err TooManyRecords) ↔ HasTooMany table)
    → dump ≡ dump_bytes table false
    → ((t : Entries) (join : Bool) → IsLegalTable t → length (Reduced t) ≤ max_nodes
    → dump ≡ dump_bytes t join → ((other ≡ t) × (flag ≡ join)) × Unit {0})
    → other ≡ table
sent bytes dump table other flag legal many is back = (back table false legal (few_enough bytes table many) is).0.0

-- each of two tables has the other joined in
pub both_joined : (first second a b theirs ours : Entries) → theirs ≡ second → ours ≡ first → a ≡ Join first theirs → b ≡ Join second ours
    → (a ≡ Join first second) × (b ≡ Join first second)
both_joined first second a b theirs ours e f p q = (p ∙ ap (Join first) e, q ∙ ap (Join second) f ∙ Join-comm second first)

pub both_take : (first second a b : Entries) → (a ≡ Join first second) × (b ≡ Join first second) →
    (claims others : List Claim) → TableOf first claims → TableOf second others
    → TableOf a (claims ++ others) × TableOf b (claims ++ others)
both_take first second a b same claims others h g =
    let joined = TableOf-Join first second claims others h g in
    (subst (λ t. TableOf t (claims ++ others)) (sym same.0) joined, subst (λ t. TableOf t (claims ++ others)) (sym same.1) joined)

-- tables of which neither changes the other are their join
pub equal_are_join : (first second : Entries) → Below first second × Below second first
    → (first ≡ Join first second) × (second ≡ Join first second)
equal_are_join first second both =
    let all = Reduced first ++ Reduced second in
    let other = Reduced second ++ Reduced first in (
      TableOf-unique first (Join first second) all all both.1 (TableOf-table_of all) (λ c. (λ m. m, λ m. m)),
      TableOf-unique second (Join second first) other other both.0 (TableOf-table_of other)
          (λ c. (λ m. m, λ m. m)) ∙ Join-comm second first,
    )

-- one table that is joined to itself is as it was
pub alike_take : (first second : Entries) → first ≡ second → (claims others : List Claim) → TableOf first claims → TableOf second others
    → TableOf first (claims ++ others) × TableOf second (claims ++ others)
alike_take first second same claims others h g =
    let itself = Join-itself first (TableOf-Reduced first claims h) in
    let joined : Join first second ≡ first = subst (λ t. Join first t ≡ first) same itself in
    both_take first second first second (sym joined, sym same ∙ sym joined) claims others h g

-- an entry keeps at most two records
few_beside : (top : Claim) → length (beside_home top) ≤ 1
few_beside (Alive name inc details) = omega arith
few_beside (Suspect name inc) = omega arith
few_beside (Confirm name inc) = omega arith
few_beside (Leave name inc) = omega arith

few_kept : (home : Option Claim) (top : Claim) → length (option_to_list home ++ beside_home top) ≤ 2
few_kept None top = omega (arith, few_beside top)
few_kept (Some home) top = omega (arith, few_beside top)

pub few_records : (table : Entries) → length (Reduced table) ≤ 2 * length table
few_records [] = omega arith
few_records (entry ∷ rest) =
    let parts = length-append (kept entry) (Reduced rest) in
    let few = few_kept entry.home entry.top in
    omega (arith, parts, few, few_records rest)

-- a dump was not pushed
pub push_refused : (old new : Source) (out_old out_new : Sink) (table theirs : Entries) (join : Bool)
    (bytes : List ℕ) → bytes ≡ dump_bytes table join
    → ((claims : List Claim) × TableOf theirs claims × ConsumesText old new (λ b. StreamText b claims join))
    → (e : PushFault) → (e ≡ push.Fault → CountsFault out_old.faults out_new.faults)
    → (e ≡ push.Fault → AppendsFront out_old.written out_new.written bytes)
    → (e ≡ push.Memory → Keeps out_old.written out_new.written)
    → IsAnswerRefused old new out_old out_new table (fault_of_push e)
push_refused old new out_old out_new table theirs join bytes is read push.Fault failed front kept =
    (read.0, join, read.2, record { failed = failed refl; front = subst (AppendsFront out_old.written out_new.written) is (front refl) })
push_refused old new out_old out_new table theirs join bytes is read push.Memory failed front kept = kept refl

-- a refusal to prepare the answer is also one to answer, and nothing was pushed
pub prepared : (old new : Source) (out : Sink) (table : Entries) (fault : SyncFault) → IsPrepareRefused old new table fault
    → IsAnswerRefused old new out out table fault
prepared old new out table (sync.Wire error) lacks = (lacks, Keeps-refl out.written)
prepared old new out table sync.TooManyRecords many = (many.0, Keeps-refl out.written)
prepared old new out table sync.Push never = absurd never
prepared old new out table sync.Memory any = Keeps-refl out.written
