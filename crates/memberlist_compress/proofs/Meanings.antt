-- What codes mean stays as words are added, and is what they stand for as they are read.
use Rattle.std.proofs.Common.{◌≡◌, ℕ, zero, suc, ◌+◌, ◌<◌, List, [], ◌∷◌, ◌++◌, length, take, get_or, refl, sym, ap, subst, ◌∙◌}
use Rattle.std.proofs.Common.{append_assoc, arith, set, inl, inr}
use Rattle.std.specs.List.{concat}
use Rattle.std.proofs.lemmas.Bool.{cases_eq}
use Rattle.std.proofs.lemmas.List.{append-nil, get_or-set_same, get_or-set_other, length-set, length-append}
use Rattle.memberlist_wrap.specs.Lzw.{StandsFor}
use Rattle.memberlist_wrap.specs.Lzw.StandsFor.{literal as stands_literal, again}
use Rattle.memberlist_compress.specs.Slots.{slot_of, AreFree}
use Rattle.memberlist_compress.specs.Meaning.{longer_word, Means, SlotMeans, SlotsMean}
use Rattle.memberlist_compress.specs.Meaning.Means.{literal, longer}

-- ---- words

concat-push : (words : List (List ℕ)) (word : List ℕ) → concat (words ++ word ∷ []) ≡ concat words ++ word
concat-push [] word = append-nil word
concat-push (w ∷ words) word =
    ap (λ (x : List ℕ). w ++ x) (concat-push words word) ∙ sym (append_assoc w (concat words) word)

-- a word that is added was the first of the bytes to come
longer_word-more : (words : List (List ℕ)) (n : ℕ) (word ahead : List ℕ) → n < length words
    → longer_word (words ++ word ∷ []) n ahead ≡ longer_word words n (word ++ ahead)
longer_word-more [] n word ahead within = absurd (omega arith)
longer_word-more (w ∷ words) zero word ahead within =
    ap (λ (x : List ℕ). w ++ take 1 (x ++ ahead)) (concat-push words word)
    ∙ ap (λ (x : List ℕ). w ++ take 1 x) (append_assoc (concat words) word ahead)
longer_word-more (w ∷ words) (suc n) word ahead within = longer_word-more words n word ahead (omega arith)

-- the last word, and the byte after it
longer_word-last : (words : List (List ℕ)) (word ahead : List ℕ) (byte : ℕ)
    → longer_word (words ++ word ∷ []) (length words) (byte ∷ ahead) ≡ word ++ byte ∷ []
longer_word-last [] word ahead byte = refl
longer_word-last (w ∷ words) word ahead byte = longer_word-last words word ahead byte

-- the parts of a longer word
record Parts (words : List (List ℕ)) (n : ℕ) : Type 0 where
  before : List (List ℕ)
  old : List ℕ
  after : List (List ℕ)
  parts : words ≡ before ++ old ∷ after
  place : n ≡ length before
  is : (ahead : List ℕ) → longer_word words n ahead ≡ old ++ take 1 (concat after ++ ahead)

parts_of : (words : List (List ℕ)) (n : ℕ) → n < length words → Parts words n
parts_of [] n within = absurd (omega arith)
parts_of (w ∷ words) zero within = record {
  before = [];
  old = w;
  after = words;
  parts = refl;
  place = refl;
  is = λ ahead. refl;
}
parts_of (w ∷ words) (suc n) within =
    let p = parts_of words n (omega arith) in record {
      before = w ∷ p.before;
      old = p.old;
      after = p.after;
      parts = ap (λ (x : List (List ℕ)). w ∷ x) p.parts;
      place = ap suc p.place;
      is = λ ahead. p.is ahead;
    }

-- only the first byte counts
first_of : (front word coming : List ℕ) → 0 < length word → take 1 (front ++ (word ++ coming)) ≡ take 1 (front ++ word)
first_of (x ∷ front) word coming some = refl
first_of [] [] coming some = absurd (omega arith)
first_of [] (x ∷ word) coming some = refl

-- ---- codes

pub Means-more : (words : List (List ℕ)) (word ahead : List ℕ) (code : ℕ) (w : List ℕ) → Means words (word ++ ahead) code w
    → Means (words ++ word ∷ []) ahead code w
Means-more words word ahead code w (literal below is) = literal below is
Means-more words word ahead code w (longer n place within is) =
    longer n place (omega (arith, length-append words (word ∷ []))) (is ∙ sym (longer_word-more words n word ahead within))

pub Means-last : (words : List (List ℕ)) (word ahead : List ℕ) (byte code : ℕ) → code ≡ 258 + length words
    → Means (words ++ word ∷ []) (byte ∷ ahead) code (word ++ byte ∷ [])
Means-last words word ahead byte code is =
    longer (length words) is (omega (arith, length-append words (word ∷ []))) (sym (longer_word-last words word ahead byte))

pub Means-stands : (words : List (List ℕ)) (word coming : List ℕ) (code : ℕ) → 0 < length word
    → Means words (word ++ coming) code word → StandsFor words code word
Means-stands words word coming code some (literal below is) = stands_literal below is
Means-stands words word coming code some (longer n place within is) =
    let p = parts_of words n within in
    again p.before p.old p.after p.parts (place ∙ ap (λ m. 258 + m) p.place)
    (is ∙ p.is (word ++ coming) ∙ ap (λ (x : List ℕ). p.old ++ x) (first_of (concat p.after) word coming some))

pub one_meaning : (words : List (List ℕ)) (ahead : List ℕ) (code : ℕ) (v w : List ℕ) → Means words ahead code v
    → Means words ahead code w → v ≡ w
one_meaning words ahead code v w (literal below is) (literal below' is') = is ∙ sym is'
one_meaning words ahead code v w (literal below is) (longer n place within is') = absurd (omega arith)
one_meaning words ahead code v w (longer n place within is) (literal below is') = absurd (omega arith)
one_meaning words ahead code v w (longer n place within is) (longer m place' within' is') =
    let same : n ≡ m = omega arith in
    is ∙ ap (λ k. longer_word words k ahead) same ∙ sym is'

pub Means-below : (words : List (List ℕ)) (ahead : List ℕ) (code : ℕ) (w : List ℕ) → Means words ahead code w
    → code < 258 + length words
Means-below words ahead code w (literal below is) = omega arith
Means-below words ahead code w (longer n place within is) = omega arith

-- ---- slots

pub SlotMeans-more : (words : List (List ℕ)) (word ahead : List ℕ) (slot : ℕ) → SlotMeans words (word ++ ahead) slot
    → SlotMeans (words ++ word ∷ []) ahead slot
SlotMeans-more words word ahead slot s = record {
  code = s.code;
  byte = s.byte;
  longer = s.longer;
  word = s.word;
  is = s.is;
  small = s.small;
  narrow = s.narrow;
  of_code = Means-more words word ahead s.code s.word s.of_code;
  of_longer = Means-more words word ahead s.longer (s.word ++ s.byte ∷ []) s.of_longer;
}

pub SlotsMean-free : (words : List (List ℕ)) (ahead slots : List ℕ) → AreFree slots → SlotsMean words ahead slots
SlotsMean-free words ahead slots free = λ place within used. absurd (used (free place within))

pub SlotsMean-more : (words : List (List ℕ)) (word ahead slots : List ℕ) → SlotsMean words (word ++ ahead) slots
    → SlotsMean (words ++ word ∷ []) ahead slots
SlotsMean-more words word ahead slots mean = λ place within used. SlotMeans-more words word ahead _ (mean place within used)

pub SlotsMean-put : (words : List (List ℕ)) (ahead slots : List ℕ) (at slot : ℕ) → at < length slots
    → SlotsMean words ahead slots → SlotMeans words ahead slot → SlotsMean words ahead (set slots at slot)
SlotsMean-put words ahead slots at slot inside mean new = λ place within used. elim (cases_eq place at) [
  | inl same ↦
      let P : ℕ → Type 0 = λ s. SlotMeans words ahead s in
      subst P (sym (ap (λ k. get_or (set slots at slot) k 0) same ∙ get_or-set_same slots at slot 0 inside)) new
  | inr other ↦
      let is = get_or-set_other slots at place slot 0 other in
      let P : ℕ → Type 0 = λ s. SlotMeans words ahead s in
      subst P (sym is) (mean place (omega (arith, length-set slots at slot)) (λ none. used (is ∙ none)))
]

-- a slot of this code and byte has the code of the word with that byte after it
pub found_means : (words : List (List ℕ)) (ahead : List ℕ) (slot code byte next : ℕ) (word : List ℕ) → byte < 256 → next < 4096
    → slot ≡ slot_of code byte next → SlotMeans words ahead slot → Means words ahead code word
    → Means words ahead next (word ++ byte ∷ [])
found_means words ahead slot code byte next word small narrow is s means =
    let s_small = s.small in
    let s_narrow = s.narrow in
    let both : slot_of s.code s.byte s.longer ≡ slot_of code byte next = sym s.is ∙ is in
    let same_next : s.longer ≡ next = omega arith in
    let same_byte : s.byte ≡ byte = omega arith in
    let same_code : s.code ≡ code = omega arith in
    let P : ℕ → Type 0 = λ k. Means words ahead k word in
    let same_word : s.word ≡ word = one_meaning words ahead s.code s.word word s.of_code (subst P (sym same_code) means) in
    rw (← same_next, ← same_byte, ← same_word) s.of_longer
