-- Bytes are a compression of one list of bytes, and of none if the reading of their codes stops.
use Rattle.std.proofs.Common.{◌≡◌, ◌≢◌, ℕ, ◌^◌, ◌<◌, List, [], ◌∷◌, ◌++◌, length, refl, sym, ap, ◌∙◌, arith, append_assoc, inl, inr}
use Rattle.std.proofs.lemmas.List.{append-nil, length-append}
use Rattle.memberlist_wrap.specs.Bits.{bits, bits_of}
use Rattle.memberlist_wrap.specs.declared.fault.WrapFault.{WrapFault}
use Rattle.memberlist_wrap.specs.declared.fault.WrapFault.TheVariants.{Ended, Trailing, BadCode, BadChecksum, BadMap}
use Rattle.memberlist_wrap.specs.declared.fault.WrapFault.TheVariants.{BadAlgo, BadLabel, TooLarge, TooDeep, Memory}
use Rattle.memberlist_wrap.specs.Fault.{CodesStopAt, ReasonForLzw}
use Rattle.memberlist_wrap.specs.Lzw.{NextCode, kept_words, width, StandsFor, ReadsCodes, CodesGive, Ends, Lzw}
use Rattle.memberlist_wrap.proofs.Codes.{no_clear, no_end, wide}
use Rattle.memberlist_wrap.proofs.Cutting.{AreFull, AreFull-take, one_word, full_word}
use Rattle.memberlist_wrap.proofs.Polynomials.{bits_once, length-bits}

AreFull-push : (words : List (List ℕ)) (word : List ℕ) → AreFull words → 0 < length word → AreFull (words ++ word ∷ [])
AreFull-push [] word full some = (some, tt)
AreFull-push (w ∷ words) word full some = (full.0, AreFull-push words word full.1 some)

AreFull-kept : (words : List (List ℕ)) (code : ℕ) (word : List ℕ) → AreFull words → StandsFor words code word
    → AreFull (kept_words words word)
AreFull-kept words code word full stands = AreFull-take 3839 (words ++ word ∷ [])
    (AreFull-push words word full (full_word words code word full stands))

-- bits after words start with one code
one_code : (words : List (List ℕ)) (all more more' : List ℕ) (code code' : ℕ)
    → all ≡ bits (width (length words)) code ++ more → code < 2 ^ width (length words)
    → all ≡ bits (width (length words)) code' ++ more' → code' < 2 ^ width (length words) → (code ≡ code') × (more ≡ more')
one_code words all more more' code code' e below e' below' = bits_once
    (width (length words)) code code' more more' below below' (sym e ∙ e')

-- What the bits mean after these words up to their end.
pub record Says (words : List (List ℕ)) (rest out : List ℕ) : Type 0 where
  pub codes : List ℕ
  pub after : List (List ℕ)
  pub left : List ℕ
  pub reads : ReadsCodes words codes rest out after left
  pub ends : Ends after left

-- what starts with these codes continues after them
pub record GoesOn (words : List (List ℕ)) (rest out whole : List ℕ) : Type 0 where
  pub tail : List ℕ
  pub says : Says words rest tail
  pub is : whole ≡ out ++ tail

goes_on : (words : List (List ℕ)) (codes all out : List ℕ) (after : List (List ℕ)) (rest : List ℕ) (codes' whole : List ℕ)
    (after' : List (List ℕ)) (rest' : List ℕ)
    → AreFull words → ReadsCodes words codes all out after rest → ReadsCodes words codes' all whole after' rest'
    → Ends after' rest' → GoesOn after rest out whole
goes_on words [] all out after rest codes' whole after' rest' full reads says ends =
    let none = reads.0 in
    let same = reads.1 in
    let left = reads.2 in record {
      tail = whole;
      says = record { codes = codes'; after = after'; left = rest'; reads = rw (same, left) says; ends = ends };
      is = ap (λ (o : List ℕ). o ++ whole) (sym none);
    }
goes_on words (code ∷ codes) all out after rest [] whole after' rest' full reads says ends =
    let same = says.1 in
    let end : all ≡ bits (width (length words)) 257 ++ ends.padding =
    sym says.2 ∙ ends.code ∙ ap (λ (ws : List (List ℕ)). bits (width (length ws)) 257 ++ ends.padding) same in
    let once = one_code words all reads.0 ends.padding code 257 reads.1 reads.2 end (wide (length words)) in
    elim reads.3 [
      | inl clear ↦ absurd (let is = clear.0 in let other = once.0 in omega arith)
      | inr adds ↦ absurd (no_end words adds.0 code once.0 adds.2)
    ]
goes_on words (code ∷ codes) all out after rest (code' ∷ codes') whole after' rest' full reads says ends =
    let once = one_code words all reads.0 says.0 code code' reads.1 reads.2 says.1 says.2 in
    elim reads.3 [
      | inl clear ↦ elim says.3 [
        | inl clear' ↦ goes_on [] codes reads.0 out after rest codes' whole after' rest' tt clear.1 (rw once.1 clear'.1) ends
        | inr adds' ↦ absurd (no_clear words adds'.0 code' (sym once.0 ∙ clear.0) adds'.2)
      ]
      | inr adds ↦ elim says.3 [
        | inl clear' ↦ absurd (no_clear words adds.0 code (once.0 ∙ clear'.0) adds.2)
        | inr adds' ↦
            let same = one_word words code adds.0 adds'.0 full adds.2 (rw once.0 adds'.2) in
            let more =
            goes_on (kept_words words adds.0) codes reads.0 adds.1 after rest codes' adds'.1 after' rest'
            (AreFull-kept words code adds.0 full adds.2) adds.3 (rw (once.1, same) adds'.3) ends in
            record {
              tail = more.tail;
              says = more.says;
              is =
                  adds'.4 ∙ ap (λ (w : List ℕ). w ++ adds'.1) (sym same) ∙ ap
                  (λ (t : List ℕ). adds.0 ++ t) more.is ∙ sym (append_assoc adds.0 adds.1 more.tail)
                  ∙ ap (λ (o : List ℕ). o ++ more.tail) (sym adds.4);
            }
      ]
    ]

-- what the bytes are a compression of continues where the codes have come to
pub Lzw-goes_on : (bytes out : List ℕ) (words : List (List ℕ)) (rest whole : List ℕ) → CodesGive bytes out words rest
    → Lzw bytes whole → GoesOn words rest out whole
Lzw-goes_on bytes out words rest whole reaches lzw =
    goes_on [] reaches.codes (bits_of bytes) out words rest lzw.reaches.codes whole lzw.words lzw.rest tt
    reaches.reads lzw.reaches.reads lzw.ends

-- ---- where bits end

ends_here : (words : List (List ℕ)) (rest : List ℕ) (codes out : List ℕ) (after : List (List ℕ)) (left : List ℕ)
    → Ends words rest → ReadsCodes words codes rest out after left → out ≡ []
ends_here words rest [] out after left ends reads = reads.0
ends_here words rest (code ∷ codes) out after left ends reads =
    let once = one_code words rest reads.0 ends.padding code 257 reads.1 reads.2 ends.code (wide (length words)) in
    elim reads.3 [
      | inl clear ↦ absurd (let is = clear.0 in let other = once.0 in omega arith)
      | inr adds ↦ absurd (no_end words adds.0 code once.0 adds.2)
    ]

pub one_lzw : (bytes a b : List ℕ) → Lzw bytes a → Lzw bytes b → a ≡ b
one_lzw bytes a b l m =
    let on = Lzw-goes_on bytes a l.words l.rest b l.reaches m in
    let none = ends_here l.words l.rest on.says.codes on.tail on.says.after on.says.left l.ends on.says.reads in
    sym (on.is ∙ ap (λ (t : List ℕ). a ++ t) none ∙ append-nil a)

-- ---- where the reading stops

-- bits that mean something start with a code
says_code : (words : List (List ℕ)) (rest : List ℕ) (codes out : List ℕ) (after : List (List ℕ)) (left : List ℕ)
    → ReadsCodes words codes rest out after left → Ends after left
    → (code : ℕ) × (more : List ℕ) × NextCode words rest code more
says_code words rest [] out after left reads ends =
    let same = reads.1 in
    let all = reads.2 in (
      257,
      ends.padding,
      record {
        is = sym all ∙ ends.code ∙ ap (λ (ws : List (List ℕ)). bits (width (length ws)) 257 ++ ends.padding) same;
        below = wide (length words);
      },
    )
says_code words rest (code ∷ codes) out after left reads ends = (code, reads.0, record { is = reads.1; below = reads.2 })

too_few : (words : List (List ℕ)) (rest out : List ℕ) → length rest < width (length words) → Says words rest out → ⊥
too_few words rest out few says =
    let code = says_code words rest says.codes out says.after says.left says.reads says.ends in
    omega (arith, ap length code.2.is, length-append (bits (width (length words)) code.0) code.1, length-bits (width (length words)) code.0)

-- the first code is the last, and few bits follow; or it resets the dictionary; or it means a word
first : (words : List (List ℕ)) (rest : List ℕ) (codes out : List ℕ) (after : List (List ℕ)) (left : List ℕ) (code : ℕ) (more : List ℕ)
    → NextCode words rest code more → ReadsCodes words codes rest out after left → Ends after left → (P : Type 0)
    → (code ≡ 257 → length more < 8 → P) → (code ≡ 256 → P) → ((word : List ℕ) → StandsFor words code word → P) → P
first words rest [] out after left code more next reads ends P last clears adds =
    let same = reads.1 in
    let all : rest ≡ bits (width (length words)) 257 ++ ends.padding =
    sym reads.2 ∙ ends.code ∙ ap (λ (ws : List (List ℕ)). bits (width (length ws)) 257 ++ ends.padding) same in
    let once = one_code words rest more ends.padding code 257 next.is next.below all (wide (length words)) in
    let short = ends.short in
    last once.0 (omega (arith, ap length once.1))
first words rest (c ∷ codes) out after left code more next reads ends P last clears adds =
    let once = one_code words rest more reads.0 code c next.is next.below reads.1 reads.2 in
    elim reads.3 [
      | inl clear ↦ clears (once.0 ∙ clear.0)
      | inr adds' ↦ adds adds'.0 (rw once.0 adds'.2)
    ]

pub first_code : (words : List (List ℕ)) (rest out : List ℕ) (code : ℕ) (more : List ℕ)
    → NextCode words rest code more → Says words rest out → (P : Type 0)
    → (code ≡ 257 → length more < 8 → P) → (code ≡ 256 → P) → ((word : List ℕ) → StandsFor words code word → P) → P
first_code words rest out code more next says = first words rest says.codes out says.after says.left code more next says.reads says.ends

-- ---- what a refusal rules out

stopped : (limit : ℕ) (fault : WrapFault) (out : List ℕ) (words : List (List ℕ)) (rest tail : List ℕ)
    → CodesStopAt limit fault out words rest → Says words rest tail
    → fault ≢ TooLarge → ⊥
stopped limit Ended out words rest tail stops says other = too_few words rest tail stops says
stopped limit Trailing out words rest tail stops says other =
    first_code words rest tail 257 stops.0 stops.1 says ⊥ (λ e short. let long = stops.2 in omega arith) (λ e. omega (arith, e))
    (λ word stands. no_end words word 257 refl stands)
stopped limit BadCode out words rest tail stops says other =
    first_code words rest tail stops.0 stops.1 stops.2 says ⊥ (λ e short. stops.4 e) (λ e. stops.3 e) (λ word stands. stops.5 word stands)
stopped limit TooLarge out words rest tail stops says other = other refl
stopped limit BadChecksum out words rest tail stops says other = stops
stopped limit BadMap out words rest tail stops says other = stops
stopped limit BadAlgo out words rest tail stops says other = stops
stopped limit BadLabel out words rest tail stops says other = stops
stopped limit TooDeep out words rest tail stops says other = stops
stopped limit Memory out words rest tail stops says other = stops

pub no_lzw : (limit : ℕ) (fault : WrapFault) (bytes : List ℕ) → ReasonForLzw limit fault bytes
    → fault ≢ TooLarge → (out : List ℕ) → ¬ Lzw bytes out
no_lzw limit fault bytes why other out lzw =
    let on = Lzw-goes_on bytes why.out why.words why.rest out why.reaches lzw in
    stopped limit fault why.out why.words why.rest on.tail why.stops on.says other

too_large : (limit : ℕ) (fault : WrapFault) (bytes : List ℕ) (why : ReasonForLzw limit fault bytes)
    → fault ≡ TooLarge → limit < length why.out
too_large limit TooLarge bytes why is = why.stops
too_large limit Ended bytes why is = absurd cc
too_large limit Trailing bytes why is = absurd cc
too_large limit BadCode bytes why is = absurd cc
too_large limit BadChecksum bytes why is = absurd cc
too_large limit BadMap bytes why is = absurd cc
too_large limit BadAlgo bytes why is = absurd cc
too_large limit BadLabel bytes why is = absurd cc
too_large limit TooDeep bytes why is = absurd cc
too_large limit Memory bytes why is = absurd cc

within_large : (limit : ℕ) (fault : WrapFault) (bytes : List ℕ) → ReasonForLzw limit fault bytes → fault ≡ TooLarge →
    (out : List ℕ) → Lzw bytes out → limit < length out
within_large limit fault bytes why is out lzw =
    let on = Lzw-goes_on bytes why.out why.words why.rest out why.reaches lzw in
    let past = too_large limit fault bytes why is in
    omega (arith, ap length on.is, length-append why.out on.tail)

-- what is refused is not a compression within the limit
pub no_lzw_within : (limit : ℕ) (fault : WrapFault) (bytes : List ℕ) → ReasonForLzw limit fault bytes
    → (out : List ℕ) → Lzw bytes out → limit < length out
no_lzw_within limit TooLarge bytes why out lzw = within_large limit TooLarge bytes why refl out lzw
no_lzw_within limit Ended bytes why out lzw = absurd (no_lzw limit Ended bytes why (λ e. cc) out lzw)
no_lzw_within limit Trailing bytes why out lzw = absurd (no_lzw limit Trailing bytes why (λ e. cc) out lzw)
no_lzw_within limit BadCode bytes why out lzw = absurd (no_lzw limit BadCode bytes why (λ e. cc) out lzw)
no_lzw_within limit BadChecksum bytes why out lzw = absurd why.stops
no_lzw_within limit BadMap bytes why out lzw = absurd why.stops
no_lzw_within limit BadAlgo bytes why out lzw = absurd why.stops
no_lzw_within limit BadLabel bytes why out lzw = absurd why.stops
no_lzw_within limit TooDeep bytes why out lzw = absurd why.stops
no_lzw_within limit Memory bytes why out lzw = absurd why.stops
