-- What is read from the bytes at hand, which are then skipped, is read from the inlet.
use Rattle.std.proofs.Common.{◌≡◌, ℕ, ◌+◌, List, ◌++◌, length, drop, Option, Some, None, Ok, sym, ap, ◌∙◌, append_assoc, arith}
use Rattle.std.proofs.lemmas.List.{drop_at, length-append}
use Rattle.std.specs.Io.KnownBytes.{Consumes}
use Rattle.swim_claim.specs.declared.claim.Claim.{Claim}
use Rattle.swim_pack.proofs.Prompt.{IsPrompt}
use Rattle.swim_pack.specs.Composing.{Answers, ConsumesMinimalPrefix, ReadsAs, same}
use Rattle.swim_pack.specs.Ends.{Source, Begins, ConsumesCount, ConsumesKnownText}
use Rattle.swim_wire.specs.declared.fault.WireFault.{WireFault}
use Rattle.swim_wire.specs.declared.stream.Header.{Header}
use Rattle.swim_wire.specs.Reading.{Reading, wire_cause, state_at, header_at}
use Rattle.swim_wire.proofs.Prompt.{prompt-state, prompt-header}
use Rattle.swim_wire.proofs.Readings.{read}

-- a reading that consumes only what determines its result
passed_over : {X : Type 0} {reading : Reading X} → IsPrompt wire_cause reading
    → (old new : Source) (hand rest : List ℕ) (x : X) (n : ℕ) → Begins old.coming hand → reading hand ≡ read x rest
    → n + length rest ≡ length hand → ConsumesCount old new n
    → ReadsAs {E = WireFault} {X = X} {V = X} wire_cause same reading old new (Ok x)
passed_over {X} {reading} prompt old new hand rest x n begins e size passed = record {
  rest = (passed.0.0, passed.0.2);
  answer = answers old.coming new.coming begins passed.0.0 passed.0.1 passed.0.2;
  takes = taken_is old.coming new.coming begins passed.0.0 passed.0.1 passed.0.2;
  fault = tt;
  faults_stay = omega (arith, passed.1);
}
  where
    text : List ℕ
    text = let t = prompt.by hand x rest e in t.text

    settled : ConsumesMinimalPrefix {X = X} wire_cause same reading (Ok x) text
    settled = let t = prompt.by hand x rest e in t.is

    whole : (bytes more : List ℕ) → bytes ≡ hand ++ more → bytes ≡ text ++ (rest ++ more)
    whole bytes more is = let t = prompt.by hand x rest e in is ∙ ap (λ (h : List ℕ). h ++ more) t.parts ∙ append_assoc text rest more

    behind : (bytes left taken more : List ℕ) → bytes ≡ hand ++ more → length taken ≡ n → bytes ≡ taken ++ left → left ≡ rest ++ more
    behind bytes left taken more is long consumes =
        let t = prompt.by hand x rest e in
        let text_long : length text ≡ n = omega (arith, ap length t.parts ∙ length-append text rest, size) in
        sym (drop_at taken left n long) ∙ ap (drop n) (sym consumes ∙ whole bytes more is) ∙ drop_at text (rest ++ more) n text_long

    answers : (a b : Option (List ℕ)) → Begins a hand → (taken : List ℕ) → length taken ≡ n → Consumes a b taken → Answers
        {E = WireFault} {X = X} {V = X} wire_cause same reading a b (Ok x)
    answers None b begins taken long consumes = tt
    answers (Some bytes) None begins taken long consumes = consumes
    answers (Some bytes) (Some left) begins taken long consumes =
        rw (whole bytes begins.0 begins.1, behind bytes left taken begins.0 begins.1 long consumes) (settled.determines (rest ++ begins.0))

    taken_is : (a b : Option (List ℕ)) → Begins a hand → (taken : List ℕ) → length taken ≡ n → Consumes a b taken
        → ConsumesKnownText a b (ConsumesMinimalPrefix {X = X} wire_cause same reading (Ok x))
    taken_is None b begins taken long consumes = (text, settled)
    taken_is (Some bytes) None begins taken long consumes = consumes
    taken_is (Some bytes) (Some left) begins taken long consumes = (
      text,
      settled,
      whole bytes begins.0 begins.1 ∙ ap
          (λ (r : List ℕ). text ++ r) (sym (behind bytes left taken begins.0 begins.1 long consumes)),
    )

pub state_passed : (old new : Source) (hand rest : List ℕ) (claim : Claim) (n : ℕ) → Begins old.coming hand
    → state_at hand ≡ read claim rest → n + length rest ≡ length hand → ConsumesCount old new n
    → ReadsAs {E = WireFault} {X = Claim} {V = Claim} wire_cause same state_at old new (Ok claim)
state_passed = passed_over prompt-state

pub header_passed : (old new : Source) (hand rest : List ℕ) (header : Header) (n : ℕ) → Begins old.coming hand
    → header_at hand ≡ read header rest → n + length rest ≡ length hand → ConsumesCount old new n
    → ReadsAs {E = WireFault} {X = Header} {V = Header} wire_cause same header_at old new (Ok header)
header_passed = passed_over prompt-header
