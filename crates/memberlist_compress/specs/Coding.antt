-- What an encoder wrote.
use Rattle.std.specs.Prelude.{◌≡◌, ℕ, ◌+◌, ◌<◌, List, ◌++◌, length}
use Rattle.memberlist_wrap.specs.Bits.{bits}
use Rattle.memberlist_wrap.specs.Lzw.{width}
use Rattle.memberlist_compress.specs.declared.encoder.Encoder.{Encoder}
use Rattle.memberlist_compress.specs.Writing.{written}
use Rattle.memberlist_compress.specs.Slots.{AreFree}
use Rattle.memberlist_compress.specs.Meaning.{Means, SlotsMean, AreCodes}

-- after this many words the dictionary is reset
abbrev pub most_words : ℕ
most_words = 3838

-- Fewer than 8 bits are held, and a word may be added.
abbrev pub IsReady : Encoder → Type 0
IsReady encoder = (length encoder.writer.held < 8) × (encoder.words < most_words)

-- only a clear code is written
pub record IsFresh (encoder : Encoder) : Type 0 where
  pub ready : IsReady encoder
  pub bits : written encoder.writer ≡ bits 9 256
  pub none : encoder.words ≡ 0
  pub free : AreFree encoder.table

-- one code more, of a word
pub record Adds (code : ℕ) (old new : Encoder) : Type 0 where
  pub ready : IsReady new
  pub bits : written new.writer ≡ written old.writer ++ bits (width old.words) code
  pub more : new.words ≡ old.words + 1
  pub slots : new.table ≡ old.table

-- one code more, of a word, and a clear code
pub record Resets (code : ℕ) (old new : Encoder) : Type 0 where
  pub ready : IsReady new
  pub full : old.words + 1 ≡ most_words
  pub bits : written new.writer
      ≡ (written old.writer ++ bits (width old.words) code) ++ bits (width most_words) 256
  pub none : new.words ≡ 0
  pub free : AreFree new.table

-- The encoder wrote codes of these bytes.
pub record Wrote (done : List ℕ) (encoder : Encoder) : Type 0 where
  pub ready : IsReady encoder
  pub words : List (List ℕ)
  pub size : length words ≡ encoder.words
  pub codes : AreCodes (written encoder.writer) done words

-- The encoder wrote codes of these bytes except for the last word, which this code means, and these
-- bytes come next.
pub record Waits (taken coming : List ℕ) (code : ℕ) (encoder : Encoder) : Type 0 where
  pub ready : IsReady encoder
  pub words : List (List ℕ)
  pub done : List ℕ
  pub word : List ℕ
  pub size : length words ≡ encoder.words
  pub codes : AreCodes (written encoder.writer) done words
  pub text : taken ≡ done ++ word
  pub some : 0 < length word
  pub means : Means words (word ++ coming) code word
  pub slots : SlotsMean words (word ++ coming) encoder.table
