-- The halves of an exchange over bytes in memory.
use Rattle.std.proofs.Common.{◌≡◌, ℕ, ◌-◌, List, ◌++◌, length, Bool, refl, sym, ap, ◌∙◌, subst}
use Rattle.swim_claim.specs.declared.claim.Claim.{Claim}
use Rattle.swim_table.specs.Node.{NodeValue, SameMember}
use Rattle.swim_table.specs.Table.{Entries, TableOf, IsLegalTable}
use Rattle.swim_table.specs.News.{IsNewsOf}
use Rattle.swim_c.specs.Exchanges.{BeginsStream, NodeTakesStream, Replied, FinishDone}
use Rattle.swim_c.specs.Forms.{Wanted, bytes_in}
use Rattle.swim_c.specs.Statuses as statuses
use Rattle.swim_c.proofs.Faults.{memory}
use Rattle.swim_c.proofs.WholeStreams.{ReadsNews, begins, taken_in}

-- a stream was read from the start of bytes in memory
stream_read : (bytes inlet rest : List ℕ) (own news : Entries) (join : Bool) (used : ℕ) → inlet ≡ bytes → used ≡ length bytes - length rest
    → ReadsNews (memory inlet) (memory rest) own news join
    → (claims : List Claim) × IsNewsOf own news claims × BeginsStream bytes claims join used
stream_read bytes inlet rest own news join used is len read =
    let whole : ReadsNews (memory bytes) (memory rest) own news join = subst
    (λ (b : List ℕ). ReadsNews (memory b) (memory rest) own news join) is read in
    (whole.0, whole.1, subst (λ (u : ℕ). BeginsStream bytes whole.0 join u) (sym len) (begins bytes rest whole.0 join whole.2))

-- a stream was read, and its news joined in
pub took : (bytes inlet rest : List ℕ) (own news : Entries) (join : Bool) (used : ℕ) (before after : NodeValue)
    → inlet ≡ bytes → used ≡ length bytes - length rest → own ≡ before.table → ReadsNews (memory inlet) (memory rest) own news join
    → IsLegalTable before.table → IsLegalTable news
    → ((claims others : List Claim) → TableOf before.table claims → TableOf news others → TableOf after.table (claims ++ others))
    → SameMember before after → NodeTakesStream bytes join used before after
took bytes inlet rest own news join used before after is gone same read legal known all member =
    let stream = stream_read bytes inlet rest own news join used is gone read in
    taken_in bytes own news stream.0 join used before after stream.2 same stream.1 legal known all member

-- a reply was written, and the stream joined in
pub answered : (form : Wanted) (bytes inlet rest : List ℕ) (own news : Entries) (Wrote : List ℕ → Type 0) (LacksRoom : ℕ → Type 0)
    (join : Bool) (used len : ℕ) (before after : NodeValue) → inlet ≡ bytes → used ≡ length bytes - length rest → own ≡ before.table
    → ReadsNews (memory inlet) (memory rest) own news join → IsLegalTable before.table → IsLegalTable news
    → ((claims others : List Claim) → TableOf before.table claims → TableOf news others → TableOf after.table (claims ++ others))
    → SameMember before after → len ≡ length (bytes_in form own join) → Wrote (bytes_in form own join)
    → Replied form bytes Wrote LacksRoom 0 join used len before after
answered form bytes inlet rest own news Wrote LacksRoom join used len before after is gone same read legal known all member long wrote =
    Replied.replied refl (took bytes inlet rest own news join used before after is gone same read legal known all member)
    (long ∙ ap (λ t. length (bytes_in form t join)) same) (subst (λ t. Wrote (bytes_in form t join)) same wrote)

-- a stream was read, but there is no room for the reply
pub unanswered : (form : Wanted) (bytes inlet rest : List ℕ) (own news : Entries) (Wrote : List ℕ → Type 0) (LacksRoom : ℕ → Type 0)
    (join : Bool) (used len : ℕ) (before : NodeValue) → inlet ≡ bytes → used ≡ length bytes - length rest → own ≡ before.table
    → ReadsNews (memory inlet) (memory rest) own news join → len ≡ length (bytes_in form own join) → LacksRoom len
    → Replied form bytes Wrote LacksRoom statuses.too_small join used len before before
unanswered form bytes inlet rest own news Wrote LacksRoom join used len before is gone same read long lacks =
    let stream = stream_read bytes inlet rest own news join used is gone read in
    Replied.no_room refl (stream.0, stream.2) (long ∙ ap (λ t. length (bytes_in form t join)) same) lacks refl

-- a reply was read, and joined in
pub replied : (bytes inlet rest : List ℕ) (own news : Entries) (join : Bool) (used : ℕ) (before after : NodeValue) → inlet ≡ bytes
    → used ≡ length bytes - length rest → own ≡ before.table → ReadsNews (memory inlet) (memory rest) own news join
    → IsLegalTable before.table → IsLegalTable news
    → ((claims others : List Claim) → TableOf before.table claims → TableOf news others → TableOf after.table (claims ++ others))
    → SameMember before after → FinishDone bytes 0 join used 0 before after
replied bytes inlet rest own news join used before after is gone same read legal known all member =
    FinishDone.finished refl refl (took bytes inlet rest own news join used before after is gone same read legal known all member)
