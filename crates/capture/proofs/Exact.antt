-- What is read of a capture to its end is the capture's text.
use Rattle.std.proofs.Common.{◌≡◌, ℕ, List, [], ◌∷◌, ◌++◌, Option, Some, None, Result, Ok, Err, sym, ap, subst}
use Rattle.swim_pack.specs.Composing.{gives, then_read}
use Rattle.capture.specs.declared.stop.Stop.{Stop}
use Rattle.capture.specs.declared.stop.Stop.TheVariants.{End}
use Rattle.capture.specs.Captures.{CaptureState, Step, behind_block, step_at}
use Rattle.capture.specs.Captures.CaptureState.{pcap, pcapng}
use Rattle.capture.specs.Pcap.{RecordText, pcap_record}
use Rattle.capture.specs.PcapText.{PacketsText, packet_bytes}
use Rattle.capture.specs.PcapText.PacketsText.{nothing, packet}
use Rattle.capture.specs.Pcapng.{BlockText, BlockText as blocks, SectionText, block_at}
use Rattle.capture.specs.PcapngText.{IsBlock, BlocksText, BlocksText as chain}
use Rattle.capture.specs.Whole.{AreBytes}
use Rattle.capture.proofs.Ending.{record_end, block_end}
use Rattle.capture.proofs.Inverting.{parted}
use Rattle.capture.proofs.NumberBytes.{bytes_behind}
use Rattle.capture.proofs.PcapRead.{record_read}
use Rattle.capture.proofs.PcapngBlocks.{block_read}
use Rattle.capture.proofs.Prompting.{same_value, same_rest}
use Rattle.capture.proofs.Yielding.{Yields}
use Rattle.capture.proofs.Yielding.Yields.{at_end, skips, finds}

-- the bytes behind a place are these records
abbrev pub RestText : CaptureState → List ℕ → List RecordText → Type 0
RestText (pcap f) bytes records = PacketsText f bytes records
RestText (pcapng now) bytes records = BlocksText now bytes records

abbrev pub with_found : Option RecordText → List RecordText → List RecordText
with_found None records = records
with_found (Some r) records = r ∷ records

-- what a step reads stands before the records that are read behind it
pub record Reads (at : CaptureState) (bytes : List ℕ) (next : CaptureState) (seen : Option RecordText) (rest : List ℕ) : Type 0 where
  pub are : AreBytes rest
  pub text : (records : List RecordText) → RestText next rest records → RestText at bytes (with_found seen records)

stopped : {A B : Type 0} (f : A → B) (r : Result (A × List ℕ) Stop) → then_read (λ v. gives (f v)) r ≡ Err End → r ≡ Err End
stopped f (Ok r) e = absurd cc
stopped f (Err stop) e = let is : stop ≡ End = cc in ap Err is

-- a block stands before what is behind it
with_block : (now : SectionText) (what : BlockText) (front left : List ℕ) (records : List RecordText) → IsBlock now front what
    → RestText (behind_block now what).0 left records → BlocksText now (front ++ left) (with_found (behind_block now what).1 records)
with_block now (blocks.section order) front left records is behind = chain.block now (blocks.section order) front left records is behind
with_block now (blocks.interface on) front left records is behind = chain.block now (blocks.interface on) front left records is behind
with_block now (blocks.packet head bytes) front left records is behind =
    chain.block now (blocks.packet head bytes) front left records is behind
with_block now blocks.other front left records is behind = chain.block now blocks.other front left records is behind

step_reads : (at next : CaptureState) (bytes rest : List ℕ) (seen : Option RecordText) → AreBytes bytes
    → step_at at bytes ≡ Ok ((next, seen), rest) → Reads at bytes next seen rest
unfolding step_at
step_reads (pcap f) next bytes rest seen are e =
    let p = parted (pcap_record f) _ bytes (next, seen) rest e in
    let s : Step = (pcap f, Some p.middle) in
    let made : s ≡ (next, seen) = same_value s (next, seen) p.left rest p.back in
    let state : pcap f ≡ next = ap (λ (v : Step). v.0) made in
    let one : Some p.middle ≡ seen = ap (λ (v : Step). v.1) made in
    let left : p.left ≡ rest = same_rest s (next, seen) p.left rest p.back in
    let k = record_read f bytes p.left p.middle are p.front in
    let front = packet_bytes f.order k.seconds k.fraction k.original k.captured in
    let at_rest : AreBytes p.left = bytes_behind front p.left (subst AreBytes k.bytes_are are) in
    subst (λ (n : CaptureState). Reads (pcap f) bytes n seen rest) state
    (subst (λ (o : Option RecordText). Reads (pcap f) bytes (pcap f) o rest) one
    (subst (λ (l : List ℕ). Reads (pcap f) bytes (pcap f) (Some p.middle) l) left
    (record {
      are = at_rest;
      text = λ records behind.
          subst (λ (b : List ℕ). PacketsText f b (p.middle ∷ records)) (sym k.bytes_are)
          (subst (λ (r : RecordText). PacketsText f (front ++ p.left) (r ∷ records)) (sym k.is)
          (packet k.seconds k.fraction k.original k.captured p.left records k.low.0 k.low.1 k.low.2 k.low.3 behind));
    })))
step_reads (pcapng now) next bytes rest seen are e =
    let p = parted (block_at now) _ bytes (next, seen) rest e in
    let k = block_read now p.middle bytes p.left are p.front in
    let made : behind_block now p.middle ≡ (next, seen) = same_value (behind_block now p.middle) (next, seen) p.left rest p.back in
    let left : p.left ≡ rest = same_rest (behind_block now p.middle) (next, seen) p.left rest p.back in
    let at_rest : AreBytes p.left = bytes_behind k.front p.left (subst AreBytes k.parts are) in
    subst (λ (s : Step). Reads (pcapng now) bytes s.0 s.1 rest) made
    (subst (λ (l : List ℕ). Reads (pcapng now) bytes (behind_block now p.middle).0 (behind_block now p.middle).1 l) left
    (record {
      are = at_rest;
      text = λ records behind.
          subst (λ (b : List ℕ). BlocksText now b (with_found (behind_block now p.middle).1 records)) (sym k.parts)
          (with_block now p.middle k.front p.left records k.block behind);
    }))

step_ends : (at : CaptureState) (bytes : List ℕ) → step_at at bytes ≡ Err End → (bytes ≡ []) × RestText at [] []
unfolding step_at
step_ends (pcap f) bytes e = (record_end f bytes (stopped {B = Step} (λ r. (pcap f, Some r)) (pcap_record f bytes) e), nothing)
step_ends (pcapng now) bytes e =
    (block_end now bytes (stopped {B = Step} (behind_block now) (block_at now bytes) e), chain.nothing now)

-- the records that steps read are the text
pub yields_text : (at : CaptureState) (bytes : List ℕ) (records : List RecordText) → AreBytes bytes → Yields at bytes records
    → RestText at bytes records
yields_text at bytes records are (at_end s l e) = let k = step_ends s l e in rw k.0 k.1
yields_text at bytes records are (skips s next l rest behind e y) =
    let r = step_reads s next l rest None are e in
    r.text behind (yields_text next rest behind r.are y)
yields_text at bytes records are (finds s next l rest one behind e y) =
    let r = step_reads s next l rest (Some one) are e in
    r.text behind (yields_text next rest behind r.are y)
