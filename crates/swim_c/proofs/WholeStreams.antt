-- Streams that were read from the start of bytes, and taken in.
use Rattle.std.proofs.Common.{◌≡◌, ℕ, ◌+◌, ◌-◌, List, ◌++◌, length, Bool, ap, subst, ◌∙◌, arith}
use Rattle.std.proofs.lemmas.List.{length-append}
use Rattle.swim_claim.specs.declared.claim.Claim.{Claim}
use Rattle.swim_wire.specs.Streams.{StreamText}
use Rattle.swim_table.specs.Node.{NodeValue, SameMember}
use Rattle.swim_pack.specs.Ends.{Source, ConsumesText}
use Rattle.swim_table.specs.Join.{Join}
use Rattle.swim_table.specs.News.{IsNewsOf}
use Rattle.swim_table.specs.Table.{Entries, Reduced, TableOf, TakesIn, IsLegalTable}
use Rattle.swim_table.proofs.Tables.{TableOf-table_of, TableOf-unique}
use Rattle.swim_c.specs.Exchanges.{BeginsStream, NodeTakesStream}

-- what was removed from the start is the stream
pub begins : (bytes rest : List ℕ) (claims : List Claim) (join : Bool)
    → (text : List ℕ) × StreamText text claims join × (bytes ≡ text ++ rest)
    → BeginsStream bytes claims join (length bytes - length rest)
begins bytes rest claims join gone =
    let whole : length bytes ≡ length gone.0 + length rest = ap length gone.2 ∙ length-append gone.0 rest in
    record { text = gone.0; rest = rest; front = gone.2; used_is = omega (arith, whole); stream = gone.1 }

-- a stream of these news was read
abbrev pub ReadsNews : Source → Source → Entries → Entries → Bool → Type 0
ReadsNews old new own news join = (claims : List Claim) × IsNewsOf own news claims × ConsumesText old new (λ b. StreamText b claims join)

-- a stream that was read and joined in was taken in
pub taken_in : (bytes : List ℕ) (own news : Entries) (claims : List Claim) (join : Bool) (used : ℕ) (before after : NodeValue)
    → BeginsStream bytes claims join used → own ≡ before.table → IsNewsOf own news claims → IsLegalTable before.table → IsLegalTable news
    → ((claims others : List Claim) → TableOf before.table claims → TableOf news others → TableOf after.table (claims ++ others))
    → SameMember before after → NodeTakesStream bytes join used before after
taken_in bytes own news claims join used before after stream is of legal known all member = record {
  claims = claims;
  begins = stream;
  taken = record { reduced = taken (Reduced before.table) legal.own; all = taken };
  member = member;
}
  where
    joined : Join before.table news ≡ after.table
    joined =
        TableOf-unique (Join before.table news) after.table (Reduced before.table ++ Reduced news) (Reduced before.table ++ Reduced news)
        (TableOf-table_of (Reduced before.table ++ Reduced news)) (all (Reduced before.table) (Reduced news) legal.own known.own)
        (λ c. (λ x. x, λ x. x))

    taken : TakesIn before.table after.table claims
    taken = subst (λ t. TakesIn before.table t claims) joined (subst (λ t. IsNewsOf t news claims) is of).joins
