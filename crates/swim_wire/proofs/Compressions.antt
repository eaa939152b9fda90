-- The map of a compression that is read is a text of its compressed bytes, and each text is read.
use Rattle.std.proofs.Common.{◌≡◌, ◌≢◌, ℕ, List, [], ◌++◌, length, inl, inr, Option, Result, Ok, Err, IfOk, IfErr, sym}
use Rattle.std.proofs.Common.{ap, subst, ◌∙◌, append-nil, arith}
use Rattle.swim_pack.specs.Ends.{Source}
use Rattle.swim_pack.specs.Composing.{ReadsAs, gives, ◌>>=◌}
use Rattle.swim_pack.proofs.Composing.{Reads-then, Reads-gives}
use Rattle.swim_wire.specs.declared.fault.WireFault.{WireFault}
use Rattle.swim_wire.specs.declared.fault.WireFault.TheVariants.{Memory}
use Rattle.swim_wire.specs.declared.layout.Key.TheVariants as keys
use Rattle.swim_wire.specs.declared.map.Value.{Value}
use Rattle.swim_wire.specs.Compression.{compression_layout, CompressionText, compression_at, whole_compression, ShowsUnlessMemory}
use Rattle.swim_wire.specs.Keys.{key_text}
use Rattle.swim_wire.specs.Layout.{of_key, MapText, Pairs, raw_of, raw_or_empty}
use Rattle.swim_wire.specs.Reading.{Reading, Slots, wire_cause, slot, map_at, raw_in, nothing_after}
use Rattle.swim_wire.specs.Slots.{slots_of}
use Rattle.swim_wire.proofs.Readings.{read, read_value, read_rest, then_ok}
use Rattle.swim_wire.proofs.Keys.{compression_legal}
use Rattle.swim_wire.proofs.Filling.{HoldsSlots}
use Rattle.swim_wire.proofs.Maps.{map_takes, map_again}
use Rattle.swim_wire.proofs.Checking.{passed, passed_is, failed, nothing_after_ok}

same_packed : (limit : ℕ) (pairs : Pairs) (slots : Slots) → HoldsSlots (compression_layout limit) pairs slots
    → raw_in slots 1 ≡ raw_of keys.Buf pairs
same_packed limit pairs slots holds = let buf : slot slots 1 ≡ of_key (key_text keys.Buf) pairs = holds 1
    (omega arith) in ap raw_or_empty buf

-- the map of a compression that was read is a text of these
record Taken (limit : ℕ) (bytes packed rest : List ℕ) : Type 0 where
  b : List ℕ
  pairs : Pairs
  text : MapText (compression_layout limit) b pairs
  packed_is : packed ≡ raw_of keys.Buf pairs
  parts : bytes ≡ b ++ rest

takes : (limit : ℕ) (bytes packed rest : List ℕ) → compression_at limit bytes ≡ read packed rest → Taken limit bytes packed rest
unfolding compression_at
takes limit bytes packed rest e =
    let t = then_ok (map_at (compression_layout limit) bytes) (λ slots. gives (raw_in slots 1)) packed rest e in
    let m = map_takes (compression_layout limit) bytes t.0 t.1 (compression_legal limit) t.2 in
    record {
      b = m.0;
      pairs = m.1;
      text = m.2;
      packed_is = sym (read_value (raw_in t.0 1) packed t.1 rest t.3) ∙ same_packed limit m.1 t.0 m.4;
      parts = m.3 ∙ ap (λ (r : List ℕ). m.0 ++ r) (read_rest (raw_in t.0 1) packed t.1 rest t.3);
    }

again : (limit : ℕ) (b rest packed : List ℕ) (pairs : Pairs) → MapText (compression_layout limit) b pairs → packed ≡ raw_of
    keys.Buf pairs → compression_at limit (b ++ rest) ≡ read packed rest
unfolding compression_at
again limit b rest packed pairs text is =
    let a = map_again (compression_layout limit) b pairs rest (compression_legal limit) text in
    let value : raw_in a.0 1 ≡ packed = same_packed limit pairs a.0 a.2 ∙ sym is in
    rw a.1 (ap (λ p. read p rest) value)

pub whole_takes : (b packed : List ℕ) → whole_compression b ≡ passed packed → CompressionText b packed
whole_takes b packed e =
    let t = takes (length b) b packed [] (nothing_after_ok (compression_at (length b) b) packed e) in
    record {
      pairs = t.pairs;
      text = subst (λ x. MapText (compression_layout (length b)) x t.pairs) (sym (t.parts ∙ append-nil t.b)) t.text;
      packed_is = t.packed_is;
    }

-- each text is read
pub whole_again : (b packed : List ℕ) → CompressionText b packed → whole_compression b ≡ passed packed
whole_again b packed text =
    ap nothing_after (ap (compression_at (length b)) (sym (append-nil b))
    ∙ again (length b) b [] packed text.pairs text.text text.packed_is)

-- a map has one list of compressed bytes
pub one_compression : (b packed packed' : List ℕ) → CompressionText b packed → CompressionText b packed' → packed ≡ packed'
one_compression b packed packed' s t = passed_is packed' packed (sym (whole_again b packed' t) ∙ whole_again b packed s)

pub whole_lacks : (b : List ℕ) (error : WireFault) → whole_compression b ≡ failed (List ℕ) error
    → (packed : List ℕ) → CompressionText b packed → ⊥
whole_lacks b error e packed text = let read_again = whole_again b packed text in cc

pub compression_reads : {X : Type 0} (view : X → List ℕ) (b : List ℕ) (r : Result X WireFault) → ShowsUnlessMemory view
    (whole_compression b) r → IfOk r (λ x. CompressionText b (view x))
compression_reads view b (Ok x) h = whole_takes b (view x) h
compression_reads view b (Err error) h = tt

pub compression_refuses : {X : Type 0} (view : X → List ℕ) (b : List ℕ) (r : Result X WireFault)
    → ShowsUnlessMemory view (whole_compression b) r
    → IfErr r (λ error. error ≢ Memory → (packed : List ℕ) → ¬ CompressionText b packed)
compression_refuses view b (Ok x) h = tt
compression_refuses view b (Err error) (inl e) = λ _ packed text. whole_lacks b error e packed text
compression_refuses view b (Err error) (inr e) = λ other. absurd (other e)

-- a map, and then something of its values
pub Reads-shown : {X : Type 0} {a b : Source} {values : List (Option Value)} (view : X
    → List ℕ) (reading : Reading Slots) (f : Slots → List ℕ) (x : X)
    → view x ≡ f (slots_of values) → ReadsAs wire_cause slots_of reading a b (Ok values)
    → ReadsAs wire_cause view (reading >>= (λ slots. gives (f slots))) a b (Ok x)
Reads-shown {X} {a} {b} {values} view reading f x is p =
    let given : ReadsAs wire_cause view (gives (f (slots_of values))) b b (Ok x) = rw (← is) (Reads-gives {view = view} x) in
    Reads-then (λ slots. gives (f slots)) p given
