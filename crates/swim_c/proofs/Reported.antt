-- What a call reports of an exchange: what was exchanged, or the status of the fault. Each lemma goes by the two outcomes of the call
-- below it. A reply that was written, or that lacks room, is put in
-- the words of the caller's memory and of a buffer.
use Rattle.std.proofs.Common.{◌≡◌, ◌≤◌, ℕ, List, length, false, Result, Ok, Err, IfOk, IfErr, OnErr, MatchResult}
use Rattle.std.proofs.Common.{refl, ap, arith}
use Rattle.swim_sync.specs.declared.fault.SyncFault.{SyncFault}
use Rattle.swim_sync.specs.Fault.{sync_number}
use Rattle.swim_table.specs.Node.{NodeValue}
use Rattle.swim_c.specs.declared.buffer.Buffer.{Buffer}
use Rattle.swim_c.specs.declared.exchanging.Exchanged.{Exchanged}
use Rattle.swim_c.specs.declared.exchanging.Given.{Given}
use Rattle.swim_c.specs.declared.watching.Watched.{Watched}
use Rattle.swim_c.specs.Buffers.{Copied, IsAtFront}
use Rattle.swim_c.specs.Exchanges.{AnswerCause, AnswerDone, AnswersOffer, FinishCause, FinishDone, IsUntold, Replied}
use Rattle.swim_c.specs.Forms.{Wanted}
use Rattle.swim_c.specs.NewBytes.{AnswersNew, HasBytes}
use Rattle.swim_c.specs.Watching.{Noted, TellsNews}
use Rattle.swim_c.proofs.Noting.{refused_news, refused_noted}

-- what is reported of this outcome
abbrev pub IsReport : Result Exchanged SyncFault → Exchanged → Type 0
IsReport outcome report = MatchResult outcome (λ made. report ≡ made)
    (λ fault. report ≡ record { status = sync_number fault; join = false; news = false; used = 0; len = 0 })

untold : IsUntold false 0 0
untold = record { no_join = refl; no_used = refl; no_len = refl }

-- ---- what becomes of the node, and of the names that it notes

pub reported_news : (outcome : Result Exchanged SyncFault) (report : Exchanged) (before after : Watched) → IsReport outcome report
    → IfOk outcome (λ made. TellsNews made.status made.news before.node after.node) → OnErr outcome (after ≡ before)
    → TellsNews report.status report.news before.node after.node
reported_news (Ok made) report before after is news same = rw is news
reported_news (Err fault) report before after is news same = rw is (refused_news (sync_number fault) before after same)

pub reported_noted : (outcome : Result Exchanged SyncFault) (report : Exchanged) (before after : Watched) → IsReport outcome report
    → IfOk outcome (λ made. Noted before.changes after.changes made.status before.node after.node) → OnErr outcome (after ≡ before)
    → Noted before.changes after.changes report.status before.node after.node
reported_noted (Ok made) report before after is noted same = rw is noted
reported_noted (Err fault) report before after is noted same = rw is (refused_noted (sync_number fault) before after same)

pub reported_finish : (stream : List ℕ) (outcome : Result Exchanged SyncFault) (report : Exchanged) (before after : Watched)
    → IsReport outcome report
    → IfOk outcome (λ made. FinishDone stream made.status made.join made.used made.len before.node after.node)
    → OnErr outcome (after ≡ before) → IfErr outcome (FinishCause stream)
    → FinishDone stream report.status report.join report.used report.len before.node after.node
reported_finish stream (Ok made) report before after is finishes same why = rw is finishes
reported_finish stream (Err fault) report before after is finishes same why =
    rw is (FinishDone.refused fault why refl untold (ap (λ (h : Watched). h.node) same))

-- ---- a reply in the caller's memory

-- there is no room for a dump of this length, and the memory is unchanged
abbrev IsTooSmall : Given → Given → ℕ → Type 0
IsTooSmall old new len = (¬ (len ≤ length old.out.now)) × (new ≡ old)

in_memory : (form : Wanted) (stream : List ℕ) (old new : Given) (made : Exchanged) (before after : NodeValue)
    → Replied form stream (λ bytes. IsAtFront bytes old new) (IsTooSmall old new) made.status made.join made.used made.len before after
    → AnswersOffer form stream old.out.now new.out.now made.status made.join made.used made.len before after
in_memory form stream old new made before after (Replied.replied done taken long wrote) =
    AnswersOffer.answered done taken (Copied.done done long wrote.1 wrote.2)
in_memory form stream old new made before after (Replied.no_room small read long lacks same) =
    let no_room = lacks.0 in
    AnswersOffer.too_small small read
    (Copied.too_small small long (omega (arith, no_room, long)) (ap (λ (to : Given). to.out.now) lacks.1)) same

-- first and last are what the memory has before and after
pub reported_in_memory : (form : Wanted) (stream first last : List ℕ) (old new : Given) (outcome : Result Exchanged SyncFault)
    (report : Exchanged) (before after : Watched) → IsReport outcome report
    → IfOk outcome (λ made. Replied form stream (λ bytes. IsAtFront bytes old new) (IsTooSmall old new)
    made.status made.join made.used made.len before.node after.node)
    → OnErr outcome (after ≡ before) → OnErr outcome (new ≡ old) → IfErr outcome (AnswerCause form stream before.node.table)
    → old.out.now ≡ first → last ≡ new.out.now
    → AnswerDone form stream first last report.status report.join report.used report.len before.node after.node
reported_in_memory form stream first last old new (Ok made) report before after is answers same kept why was left =
    rw (is, left, ← was) (AnswerDone.answers (in_memory form stream old new made before.node after.node answers))
reported_in_memory form stream first last old new (Err fault) report before after is answers same kept why was left =
    rw (is, left, ← was)
    (AnswerDone.refused fault why refl untold (ap (λ (h : Watched). h.node) same) (ap (λ (to : Given). to.out.now) kept))

-- ---- a reply in a buffer, which has room for each

abbrev HasNoRoom : Buffer → Buffer → ℕ → Type 0
HasNoRoom old new len = (¬ (Unit {0})) × (new ≡ old)

in_buffer : (form : Wanted) (stream : List ℕ) (old new : Buffer) (made : Exchanged) (before after : NodeValue)
    → Replied form stream (λ bytes. HasBytes bytes new) (HasNoRoom old new) made.status made.join made.used made.len before after
    → AnswersNew form stream old new made.status made.join made.used made.len before after
in_buffer form stream old new made before after (Replied.replied done taken long wrote) = AnswersNew.answered done taken wrote long
in_buffer form stream old new made before after (Replied.no_room small read long lacks same) = absurd (lacks.0 tt)

pub reported_in_buffer : (form : Wanted) (stream : List ℕ) (old new : Buffer) (outcome : Result Exchanged SyncFault) (report : Exchanged)
    (before after : Watched) → IsReport outcome report
    → IfOk outcome (λ made. Replied form stream (λ bytes. HasBytes bytes new) (HasNoRoom old new)
    made.status made.join made.used made.len before.node after.node)
    → OnErr outcome (after ≡ before) → OnErr outcome (new ≡ old) → IfErr outcome (AnswerCause form stream before.node.table)
    → AnswersNew form stream old new report.status report.join report.used report.len before.node after.node
reported_in_buffer form stream old new (Ok made) report before after is answers same kept why =
    rw is (in_buffer form stream old new made before.node after.node answers)
reported_in_buffer form stream old new (Err fault) report before after is answers same kept why =
    rw is (AnswersNew.refused fault why refl untold (ap (λ (h : Watched). h.node) same) kept)
