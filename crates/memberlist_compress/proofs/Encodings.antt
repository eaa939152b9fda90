-- What an encoder wrote, and what waits, after a step.
use Rattle.std.proofs.Common.{◌≡◌, ℕ, ◌+◌, ◌*◌, ◌^◌, ◌<◌, ◌≤◌, List, [], ◌∷◌, ◌++◌, length, refl, sym, ap, subst, ◌∙◌, append_assoc, arith}
use Rattle.std.proofs.Common.{set, Bool, true, false, MatchBool}
use Rattle.std.proofs.lemmas.Bool.Decides.{nat_tests}
use Rattle.std.proofs.lemmas.List.{length-append}
use Rattle.memberlist_wrap.specs.Bits.{bits}
use Rattle.memberlist_wrap.specs.Lzw.{width, Lzw}
use Rattle.memberlist_compress.specs.declared.encoder.Encoder.{Encoder}
use Rattle.memberlist_compress.specs.declared.table.Found.TheVariants.{Code}
use Rattle.memberlist_compress.specs.Writing.{written, IsPadded}
use Rattle.memberlist_compress.specs.Slots.{slot_of, Finds}
use Rattle.memberlist_compress.specs.Meaning.{Means, SlotsMean, AreCodes}
use Rattle.memberlist_compress.specs.Meaning.Means.{literal}
use Rattle.memberlist_compress.specs.Coding.{IsFresh, Adds, Resets, Wrote, Waits}
use Rattle.memberlist_compress.proofs.Meanings.{Means-more, Means-last, Means-stands, Means-below, found_means}
use Rattle.memberlist_compress.proofs.Meanings.{SlotsMean-free, SlotsMean-more, SlotsMean-put}
use Rattle.memberlist_compress.proofs.Codings.{AreCodes-start, AreCodes-word, AreCodes-reset, AreCodes-ends}

narrow : (n code : ℕ) → code < 258 + n → n < 3838 → code < 2 ^ width n
narrow n code known few = grind (arith, nat_tests)

-- ---- bits with the width of the words

codes_word : (code : ℕ) (old new : Encoder) (taken coming : List ℕ) (w : Waits taken coming code old) → Adds code old new
    → AreCodes (written new.writer) (w.done ++ w.word) (w.words ++ w.word ∷ [])
codes_word code old new taken coming w adds =
    let size = w.size in
    let few = w.ready.1 in
    let known = Means-below w.words (w.word ++ coming) code w.word w.means in
    AreCodes-word (written old.writer) (written new.writer) w.done w.words code w.word w.codes (omega arith)
    (narrow (length w.words) code known (omega arith)) w.some (Means-stands w.words w.word coming code w.some w.means)
    (adds.bits ∙ ap (λ n. written old.writer ++ bits (width n) code) (sym size))

codes_reset : (code : ℕ) (old new : Encoder) (taken coming : List ℕ) (w : Waits taken coming code old) → Resets code old new
    → AreCodes (written new.writer) (w.done ++ w.word) []
codes_reset code old new taken coming w resets =
    let size = w.size in
    let few = w.ready.1 in
    let full = resets.full in
    let known = Means-below w.words (w.word ++ coming) code w.word w.means in
    AreCodes-reset (written old.writer) (written new.writer) w.done w.words code w.word w.codes (omega arith)
    (narrow (length w.words) code known (omega arith)) w.some (Means-stands w.words w.word coming code w.some w.means)
    (resets.bits ∙ ap (λ n. (written old.writer ++ bits (width n) code) ++ bits (width 3838) 256) (sym size))

-- ---- one byte more

pub Waits-first : (byte : ℕ) (coming : List ℕ) (encoder : Encoder) → byte < 256 → IsFresh encoder
    → Waits (byte ∷ []) coming byte encoder
Waits-first byte coming encoder small fresh = record {
  ready = fresh.ready;
  words = [];
  done = [];
  word = byte ∷ [];
  size = sym fresh.none;
  codes = AreCodes-start (written encoder.writer) fresh.bits;
  text = refl;
  some = omega arith;
  means = literal small refl;
  slots = SlotsMean-free [] (byte ∷ coming) encoder.table fresh.free;
}

pub Waits-found : (taken coming : List ℕ) (code byte next : ℕ) (encoder : Encoder) → byte < 256
    → Finds encoder.table code byte (Code next) → Waits taken (byte ∷ coming) code encoder
    → Waits (taken ++ byte ∷ []) coming next encoder
Waits-found taken coming code byte next encoder small finds w =
    let ahead : w.word ++ (byte ∷ coming) ≡ (w.word ++ byte ∷ []) ++ coming = sym (append_assoc w.word (byte ∷ []) coming) in
    let slot = w.slots finds.0 finds.1 finds.3 in
    let means = found_means w.words (w.word ++ (byte ∷ coming)) _ code byte next w.word small finds.4 finds.2 slot w.means in
    let P : List ℕ → Type 0 = λ a. Means w.words a next (w.word ++ byte ∷ []) in
    let Q : List ℕ → Type 0 = λ a. SlotsMean w.words a encoder.table in
    record {
      ready = w.ready;
      words = w.words;
      done = w.done;
      word = w.word ++ byte ∷ [];
      size = w.size;
      codes = w.codes;
      text = ap (λ (x : List ℕ). x ++ byte ∷ []) w.text ∙ append_assoc w.done w.word (byte ∷ []);
      some = omega (arith, length-append w.word (byte ∷ []));
      means = subst P ahead means;
      slots = subst Q ahead w.slots;
    }

pub Waits-adds : (taken coming : List ℕ) (code byte place : ℕ) (old mid : Encoder) → byte < 256 → place < length old.table
    → Adds code old mid → Waits taken (byte ∷ coming) code old
    → Waits (taken ++ byte ∷ []) coming byte
    (record { writer = mid.writer; table = set mid.table place (slot_of code byte (258 + old.words)); words = mid.words })
Waits-adds taken coming code byte place old mid small inside adds w =
    let size = w.size in
    let few = w.ready.1 in
    let more = adds.more in
    let words = w.words ++ w.word ∷ [] in
    let ahead = byte ∷ coming in
    let Q : List ℕ → Type 0 = λ t. SlotsMean words ahead (set t place (slot_of code byte (258 + old.words))) in
    record {
      ready = adds.ready;
      words = words;
      done = w.done ++ w.word;
      word = byte ∷ [];
      size = length-append w.words (w.word ∷ []) ∙ ap (λ n. n + 1) size ∙ sym more;
      codes = codes_word code old mid taken ahead w adds;
      text = ap (λ (x : List ℕ). x ++ byte ∷ []) w.text;
      some = omega arith;
      means = literal small refl;
      slots = subst Q (sym adds.slots) (SlotsMean-put words ahead old.table place (slot_of code byte (258 + old.words)) inside
          (SlotsMean-more w.words w.word ahead old.table w.slots) (record {
            code = code;
            byte = byte;
            longer = 258 + old.words;
            word = w.word;
            is = refl;
            small = small;
            narrow = omega arith;
            of_code = Means-more w.words w.word ahead code w.word w.means;
            of_longer = Means-last w.words w.word coming byte (258 + old.words) (ap (λ n. 258 + n) (sym size));
          }));
    }

pub Waits-resets : (taken coming : List ℕ) (code byte : ℕ) (old new : Encoder) → byte < 256 → Resets code old new
    → Waits taken (byte ∷ coming) code old → Waits (taken ++ byte ∷ []) coming byte new
Waits-resets taken coming code byte old new small resets w = record {
  ready = resets.ready;
  words = [];
  done = w.done ++ w.word;
  word = byte ∷ [];
  size = sym resets.none;
  codes = codes_reset code old new taken (byte ∷ coming) w resets;
  text = ap (λ (x : List ℕ). x ++ byte ∷ []) w.text;
  some = omega arith;
  means = literal small refl;
  slots = SlotsMean-free [] (byte ∷ coming) new.table resets.free;
}

pub Waits-known : (taken coming : List ℕ) (code : ℕ) (encoder : Encoder) → Waits taken coming code encoder
    → code < 258 + encoder.words
Waits-known taken coming code encoder w =
    let size = w.size in
    omega (arith, Means-below w.words (w.word ++ coming) code w.word w.means)

-- ---- the end

pub Wrote-nothing : (bytes : List ℕ) (encoder : Encoder) → length bytes ≡ 0 → IsFresh encoder → Wrote bytes encoder
Wrote-nothing [] encoder none fresh = record {
  ready = fresh.ready;
  words = [];
  size = sym fresh.none;
  codes = AreCodes-start (written encoder.writer) fresh.bits;
}
Wrote-nothing (b ∷ bytes) encoder none fresh = absurd (omega arith)

pub Wrote-word : (taken : List ℕ) (code : ℕ) (old new : Encoder) (is_reset : Bool)
    → MatchBool is_reset (Resets code old new) (Adds code old new) → Waits taken [] code old → Wrote taken new
Wrote-word taken code old new false adds w =
    let more = adds.more in
    record {
      ready = adds.ready;
      words = w.words ++ w.word ∷ [];
      size = length-append w.words (w.word ∷ []) ∙ ap (λ n. n + 1) w.size ∙ sym more;
      codes = rw w.text (codes_word code old new taken [] w adds);
    }
Wrote-word taken code old new true resets w = record {
  ready = resets.ready;
  words = [];
  size = sym resets.none;
  codes = rw w.text (codes_reset code old new taken [] w resets);
}

pub Wrote-ends : (bytes made : List ℕ) (encoder : Encoder) (ended : List ℕ) → Wrote bytes encoder
    → ended ≡ written encoder.writer ++ bits (width encoder.words) 257 → IsPadded ended made
    → Lzw made bytes × (length made ≤ 2 * length bytes + 3)
Wrote-ends bytes made encoder ended wrote is padded =
    let P : List ℕ → Type 0 = λ x. IsPadded x made in
    AreCodes-ends (written encoder.writer) bytes made wrote.words wrote.codes
    (subst P (is ∙ ap (λ n. written encoder.writer ++ bits (width n) 257) (sym wrote.size)) padded)
