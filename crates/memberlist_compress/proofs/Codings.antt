-- Bits that are codes, and more of them.
use Rattle.std.proofs.Common.{◌≡◌, ℕ, ◌+◌, ◌*◌, ◌^◌, ◌<◌, ◌≤◌, List, [], ◌∷◌, ◌++◌, length, refl, sym, ap, subst, ◌∙◌, append_assoc, arith}
use Rattle.std.proofs.Common.{inl, inr}
use Rattle.std.proofs.lemmas.List.{append-nil, length-append, take_all}
use Rattle.memberlist_wrap.specs.Bits.{bits, bits_of}
use Rattle.memberlist_wrap.specs.Lzw.{kept_words, width, StandsFor, ReadsCodes, Lzw}
use Rattle.memberlist_wrap.proofs.Polynomials.{length-bits}
use Rattle.memberlist_wrap.proofs.Codes.{Reads-then, wide, width_between}
use Rattle.memberlist_compress.specs.Meaning.{AreCodes}
use Rattle.memberlist_compress.specs.Writing.{IsPadded}

-- more bits after the codes
Reads-more : (words : List (List ℕ)) (codes all out : List ℕ) (after : List (List ℕ)) (rest more : List ℕ)
    → ReadsCodes words codes all out after rest → ReadsCodes words codes (all ++ more) out after (rest ++ more)
Reads-more words [] all out after rest more reads = (reads.0, reads.1, ap (λ (r : List ℕ). r ++ more) reads.2)
Reads-more words (code ∷ codes) all out after rest more reads =
    let text = ap (λ (r : List ℕ). r ++ more) reads.1 ∙ append_assoc (bits (width (length words)) code) reads.0 more in
    elim reads.3 [
      | inl clear ↦ (
        reads.0 ++ more,
        text,
        reads.2,
        inl (clear.0, Reads-more [] codes reads.0 out after rest more clear.1),
      )
      | inr adds ↦ (
        reads.0 ++ more,
        text,
        reads.2,
        inr (
          adds.0,
          adds.1,
          adds.2,
          Reads-more (kept_words words adds.0) codes reads.0 adds.1 after rest more adds.3,
          adds.4,
        ),
      )
    ]

kept_all : (words : List (List ℕ)) (word : List ℕ) → length words < 3839 → kept_words words word ≡ words ++ word ∷ []
kept_all words word few = take_all 3839 (words ++ word ∷ []) (omega (arith, length-append words (word ∷ [])))

pub AreCodes-start : (all : List ℕ) → all ≡ bits 9 256 → AreCodes all [] []
AreCodes-start all is = record {
  codes = 256 ∷ [];
  reads = ([], is ∙ sym (append-nil (bits 9 256)), omega arith, inl (refl, (refl, refl, refl)));
  short = omega (arith, ap length is, length-bits 9 256);
}

-- codes, and one more of a word
record Read (all : List ℕ) (out : List ℕ) (words : List (List ℕ)) : Type 0 where
  codes : List ℕ
  reads : ReadsCodes [] codes all out words []

read_word : (all done : List ℕ) (words : List (List ℕ)) (code : ℕ) (word : List ℕ) → AreCodes all done words
    → length words < 3838 → code < 2 ^ width (length words) → StandsFor words code word
    → Read (all ++ bits (width (length words)) code) (done ++ word) (words ++ word ∷ [])
read_word all done words code word are few narrow stands =
    let w = width (length words) in
    let one : ReadsCodes words (code ∷ []) (bits w code) word (words ++ word ∷ []) [] = (
      [],
      sym (append-nil (bits w code)),
      narrow,
      inr (word, [], stands, (refl, sym (kept_all words word (omega arith)), refl), sym (append-nil word)),
    ) in
    record {
      codes = are.codes ++ code ∷ [];
      reads = Reads-then [] are.codes (all ++ bits w code) done words (bits w code) (code ∷ []) word (words ++ word ∷ []) []
          (Reads-more [] are.codes all done words [] (bits w code) are.reads) one;
    }

-- codes, and a clear code
read_clear : (all out : List ℕ) (words : List (List ℕ)) → Read all out words
    → Read (all ++ bits (width (length words)) 256) out []
read_clear all out words read =
    let w = width (length words) in
    let one : ReadsCodes words (256 ∷ []) (bits w 256) [] [] [] = (
      [],
      sym (append-nil (bits w 256)),
      omega (arith, wide (length words)),
      inl (refl, (refl, refl, refl)),
    ) in
    let P : List ℕ → Type 0 = λ o. ReadsCodes [] (read.codes ++ 256 ∷ []) (all ++ bits w 256) o [] [] in
    record {
      codes = read.codes ++ 256 ∷ [];
      reads = subst P (append-nil out)
          (Reads-then [] read.codes (all ++ bits w 256) out words (bits w 256) (256 ∷ []) [] [] []
          (Reads-more [] read.codes all out words [] (bits w 256) read.reads) one);
    }

pub AreCodes-word : (all more done : List ℕ) (words : List (List ℕ)) (code : ℕ) (word : List ℕ) → AreCodes all done words
    → length words < 3838 → code < 2 ^ width (length words) → 0 < length word → StandsFor words code word
    → more ≡ all ++ bits (width (length words)) code → AreCodes more (done ++ word) (words ++ word ∷ [])
AreCodes-word all more done words code word are few narrow some stands is =
    let w = width (length words) in
    let read = read_word all done words code word are few narrow stands in
    let between = width_between (length words) in
    let short = are.short in
    record {
      codes = read.codes;
      reads = rw is read.reads;
      short = omega (
        arith,
        ap length is,
        length-append all (bits w code),
        length-bits w code,
        length-append done word,
        length-append words (word ∷ []),
        between.1,
      );
    }

pub AreCodes-reset : (all more done : List ℕ) (words : List (List ℕ)) (code : ℕ) (word : List ℕ) → AreCodes all done words
    → length words + 1 ≡ 3838 → code < 2 ^ width (length words) → 0 < length word → StandsFor words code word
    → more ≡ (all ++ bits (width (length words)) code) ++ bits (width 3838) 256 → AreCodes more (done ++ word) []
AreCodes-reset all more done words code word are full narrow some stands is =
    let w = width (length words) in
    let P : ℕ → Type 0 = λ n. Read ((all ++ bits w code) ++ bits (width n) 256) (done ++ word) [] in
    let last : length (words ++ word ∷ []) ≡ 3838 = length-append words (word ∷ []) ∙ full in
    let read : Read ((all ++ bits w code) ++ bits (width 3838) 256) (done ++ word) [] =
    subst P last (read_clear (all ++ bits w code) (done ++ word) (words ++ word ∷ [])
    (read_word all done words code word are (omega arith) narrow stands)) in
    let between = width_between (length words) in
    let between_last = width_between 3838 in
    let short = are.short in
    record {
      codes = read.codes;
      reads = rw is read.reads;
      short = omega (
        arith,
        ap length is,
        length-append (all ++ bits w code) (bits (width 3838) 256),
        length-append all (bits w code),
        length-bits w code,
        length-bits (width 3838) 256,
        length-append done word,
        between.1,
        between_last.1,
      );
    }

-- the bytes of codes, the last code and fewer than 8 bits more are a compression
pub AreCodes-ends : (all done made : List ℕ) (words : List (List ℕ)) → AreCodes all done words
    → IsPadded (all ++ bits (width (length words)) 257) made → Lzw made done × (length made ≤ 2 * length done + 3)
AreCodes-ends all done made words are padded =
    let w = width (length words) in
    let text = padded.is ∙ append_assoc all (bits w 257) padded.padding in
    let short = are.short in
    let few = padded.short in
    let between = width_between (length words) in (
      record {
        words = words;
        rest = bits w 257 ++ padded.padding;
        reaches = record {
          codes = are.codes;
          reads = rw text (Reads-more [] are.codes all done words [] (bits w 257 ++ padded.padding) are.reads);
        };
        ends = record { padding = padded.padding; code = refl; short = padded.short };
      },
      omega (
        arith,
        ap length text,
        length-bits_of made,
        length-append all (bits w 257 ++ padded.padding),
        length-append (bits w 257) padded.padding,
        length-bits w 257,
        between.1,
      ),
    )
  where
    length-bits_of : (bytes : List ℕ) → length (bits_of bytes) ≡ 8 * length bytes
    length-bits_of [] = refl
    length-bits_of (b ∷ bytes) =
        omega (arith, length-append (bits 8 b) (bits_of bytes), length-bits 8 b, length-bits_of bytes)
