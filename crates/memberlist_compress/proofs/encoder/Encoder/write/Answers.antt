use Rattle.std.proofs.Common.{◌≡◌, ℕ, ◌+◌, List, [], ◌∷◌, ◌++◌, get_or, drop, sym, ap, subst, ◌∙◌, append_assoc, arith}
use Rattle.std.proofs.lemmas.List.{append-nil, drop_all, drop_more}
use Rattle.memberlist_compress.specs.Coding.{Waits}
use Rattle.memberlist_compress.proofs.Encodings.{Waits-first, Waits-known, Wrote-nothing, Wrote-word}
use Rattle.memberlist_compress.proofs.encoder.Encoder.write.Goals as goal

pub returns-in_default : goal.returns-in_default
returns-in_default c = Wrote-nothing c.args.bytes.now c.args.self.now c.in_default.ensures.cases c.requires

pub loop-byte-init : goal.loop-byte-init
loop-byte-init c = (
  c.in-Some.first.now ∷ [],
  c.in-Some.ensures.cases.0,
  rw c.from-code.ensures
      (Waits-first c.in-Some.first.now c.in-Some.rest.now c.args.self.now
      (rw c.in-Some.ensures.cases.0 at (c.type_inv.bytes 0)).fits c.requires),
)

pub take-requires-clause-ready : goal.take-requires-clause-ready
take-requires-clause-ready c = c.loop-byte.invariant.2.ready

pub take-requires-clause-known : goal.take-requires-clause-known
take-requires-clause-known c =
    Waits-known c.loop-byte.invariant.0 (drop c.loop-byte.byte-index c.in-Some.rest.now) c.loop-byte.code c.loop-byte.self
    c.loop-byte.invariant.2

-- the next byte of those to come
pub loop-byte-preserved : goal.loop-byte-preserved
loop-byte-preserved c =
    let rest = c.in-Some.rest.now in
    let i = c.loop-byte.byte-index in
    let taken = c.loop-byte.invariant.0 in
    let next = drop_more rest i 0 c.loop-byte-test.true in
    let P : List ℕ → Type 0 = λ coming. Waits taken coming c.loop-byte.code c.loop-byte.self in (
      taken ++ get_or rest i 0 ∷ [],
      c.loop-byte.invariant.1 ∙ ap (λ (x : List ℕ). taken ++ x) next
          ∙ sym (append_assoc taken (get_or rest i 0 ∷ []) (drop (i + 1) rest)),
      c.in_ok-code.ensures taken (drop (i + 1) rest) (subst P next c.loop-byte.invariant.2),
    )

pub returns : goal.returns
returns c =
    let rest = c.in-Some.rest.now in
    let taken = c.loop-byte.invariant.0 in
    let none : drop c.loop-byte.byte-index rest ≡ [] = drop_all c.loop-byte.byte-index rest (omega arith) in
    let all : c.args.bytes.now ≡ taken =
    c.loop-byte.invariant.1 ∙ ap (λ (x : List ℕ). taken ++ x) none ∙ append-nil taken in
    let P : List ℕ → Type 0 = λ coming. Waits taken coming c.loop-byte.code c.loop-byte.self in
    rw all
    (Wrote-word taken c.loop-byte.code c.loop-byte.self c.write_word.new.self c.in_ok-write_word.field-0
    c.in_ok-write_word.ensures (subst P none c.loop-byte.invariant.2))
