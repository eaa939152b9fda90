-- Steps from one record of a capture to the next.
use Rattle.std.proofs.Common.{◌≡◌, ◌≢◌, ℕ, false, eqb, List, take, drop, Option, Result, Ok, Err, refl}
use Rattle.std.proofs.lemmas.Bool.{ne_eqb}
use Rattle.swim_pack.specs.Composing.{ReadsAs, same}
use Rattle.swim_pack.specs.Ends.{Source}
use Rattle.std.specs.Prelude.{IfOk, IfErr}
use Rattle.swim_pack.proofs.Composing.{Reads-then, Reads-memory, Reads-refuses, Reads-seen}
use Rattle.capture.specs.declared.blocks.Block.{Block}
use Rattle.capture.specs.declared.capture_fault.CaptureFault.TheVariants.{NotCapture, Memory}
use Rattle.capture.specs.declared.record.Record.{Record}
use Rattle.capture.specs.declared.stop.Stop.{Stop}
use Rattle.capture.specs.declared.stop.Stop.TheVariants.{End, Fault}
use Rattle.capture.specs.Blocks.{block_text}
use Rattle.capture.specs.Captures.{CaptureState, Step, behind_block, file_of, step_at, step_text, fault_of, fault_cause}
use Rattle.capture.specs.Captures.CaptureState.{pcapng}
use Rattle.capture.specs.Pcapng.{SectionText, block_at, block_of, next_other}
use Rattle.capture.proofs.Parts.{Reads-is}
use Rattle.capture.specs.Taking.{stop_cause, field, next_header}

-- the layer above knows what causes a fault
pub causes : (stop : Stop) → fault_cause (fault_of stop) ≡ stop_cause stop
causes End = refl
causes (Fault fault) = refl

-- the result of a step, as the step of the definition
pub step-seen : {a b : Source} (at next : CaptureState) (bytes : List ℕ) (found : Option Record)
    → ReadsAs stop_cause (step_text next bytes) (step_at at) a b (Ok found)
    → ReadsAs {X = Step} stop_cause same (step_at at) a b (Ok (step_text next bytes found))
step-seen at next bytes found h = Reads-seen _ refl h

-- a block is added to the section, or there is no memory for it
pub block-step : {a b : Source} (now next : SectionText) (bytes : List ℕ) (block : Block) (r : Result (Option Record) Stop)
    → ((bytes : List ℕ) → IfOk r (λ found. step_text (pcapng next) bytes found ≡ behind_block now (block_text bytes block)))
    → IfErr r (λ refusal. refusal ≡ Fault Memory) → ReadsAs stop_cause (block_text bytes) (block_at now) a b (Ok block)
    → ReadsAs stop_cause (step_text (pcapng next) bytes) (step_at (pcapng now)) a b r
unfolding step_at
block-step now next bytes block (Ok found) taken refused h = Reads-then _ h (Reads-is found _ (taken bytes))
block-step now next bytes block (Err stop) taken refused h = rw refused (Reads-memory _ (Fault Memory) refl h)

-- the first four bytes are not those of a capture
pub file-unknown : {a : Source} (magic : ℕ) → magic ≢ 0xa1b2c3d4 → magic ≢ 0xd4c3b2a1 → magic ≢ 0xa1b23c4d → magic ≢ 0x4d3cb2a1
    → magic ≢ 0x0a0d0d0a → ReadsAs {X = CaptureState} stop_cause same (file_of magic) a a (Err (Fault NotCapture))
file-unknown magic n1 n2 n3 n4 n5 =
    let e1 : eqb magic 0xa1b2c3d4 ≡ false = ne_eqb _ _ n1 in
    let e2 : eqb magic 0xd4c3b2a1 ≡ false = ne_eqb _ _ n2 in
    let e3 : eqb magic 0xa1b23c4d ≡ false = ne_eqb _ _ n3 in
    let e4 : eqb magic 0x4d3cb2a1 ≡ false = ne_eqb _ _ n4 in
    let e5 : eqb magic 0x0a0d0d0a ≡ false = ne_eqb _ _ n5 in
    rw (e1, e2, e3, e4, e5) (Reads-refuses (Fault NotCapture) refl)

-- a block by its type
pub block-read : {X : Type 0} {view : X
    → List ℕ} {a b d : Source} {x : X} (now : SectionText) (kind : ℕ) (bytes : List ℕ)
    (r : Result Block Stop)
    → field now.order 0 4 (view x) ≡ kind → ReadsAs stop_cause view (next_header 8) a b (Ok x)
    → ReadsAs stop_cause (block_text bytes) (block_of now kind (field now.order 4 4 (view x)) (take 4 (drop 4 (view x)))) b d r
    → ReadsAs stop_cause (block_text bytes) (block_at now) a d r
unfolding block_at
block-read now kind bytes r is h k = Reads-then _ h (rw is k)

-- a block of another type
pub block-other : {a b : Source} (now : SectionText) (kind total : ℕ) (claimed bytes : List ℕ) (r : Result Block Stop)
    → kind ≢ 0x0a0d0d0a → kind ≢ 1 → kind ≢ 2 → kind ≢ 3 → kind ≢ 6
    → ReadsAs stop_cause (block_text bytes) (next_other now.order total) a b r
    → ReadsAs stop_cause (block_text bytes) (block_of now kind total claimed) a b r
block-other now kind total claimed bytes r n0 n1 n2 n3 n6 h =
    let e0 : eqb kind 0x0a0d0d0a ≡ false = ne_eqb _ _ n0 in
    let e1 : eqb kind 1 ≡ false = ne_eqb _ _ n1 in
    let e2 : eqb kind 2 ≡ false = ne_eqb _ _ n2 in
    let e3 : eqb kind 3 ≡ false = ne_eqb _ _ n3 in
    let e6 : eqb kind 6 ≡ false = ne_eqb _ _ n6 in
    rw (e0, e1, e2, e3, e6) h
