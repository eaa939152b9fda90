-- How a reply is read.
use Rattle.std.proofs.Common.{◌≡◌, ◌∙◌, inl, inr, ℕ, List, [], ◌∷◌, length, Result, Ok, Err, IfErr, refl, sym, ap, subst, arith}
use Rattle.std.specs.Prelude.{◌≢◌}
use Rattle.memberlist_cipher.specs.Label.{IsLabelled}
use Rattle.memberlist_transport.specs.declared.fault.StreamFault.{StreamFault}
use Rattle.memberlist_transport.specs.declared.fault.StreamFault.TheVariants.{Memory}
use Rattle.memberlist_transport.specs.declared.in_the_clear.InTheClear.{InTheClear}
use Rattle.memberlist_transport.specs.Stream.{IsStreamIn, ReasonFor}
use Rattle.memberlist_transport.specs.Reply.{BeginsAsLabel, IsReadAs, IsReplyIn, ReasonForReply}

-- the same label before the same bytes is the same text
one_text : (label bytes a b : List ℕ) → IsLabelled a label bytes → IsLabelled b label bytes → a ≡ b
one_text label bytes a b (inl is) (inl other) = is.1 ∙ sym other.1
one_text label bytes a b (inl is) (inr other) = absurd (omega (arith, other.0, ap length is.0))
one_text label bytes a b (inr is) (inl other) = absurd (omega (arith, is.0, ap length other.0))
one_text label bytes a b (inr is) (inr other) = is.1 ∙ sym other.1

-- a reply is read as one text
pub one_reading : (label bytes a b : List ℕ) → IsReadAs label bytes a → IsReadAs label bytes b → a ≡ b
one_reading label bytes a b (inl is) (inl other) = is.1 ∙ sym other.1
one_reading label bytes a b (inl is) (inr other) = absurd (other.0 is.0)
one_reading label bytes a b (inr is) (inl other) = absurd (is.0 other.0)
one_reading label bytes a b (inr is) (inr other) = one_text label bytes a b is.1 other.1

pub begun : (label bytes : List ℕ) → BeginsAsLabel bytes → IsReadAs label bytes bytes
begun label bytes begins = inl (begins, refl)

empty : (label : List ℕ) → length label ≡ 0 → label ≡ []
empty [] none = refl
empty (first ∷ others) none = absurd (omega (arith, none))

pub bare : (label bytes : List ℕ) → ¬ BeginsAsLabel bytes → length label ≡ 0 → IsReadAs label bytes bytes
bare label bytes begins none = inr (begins, inl (empty label none, refl, λ more is. begins (more, is)))

module _ {X : Type 0} (limit : ℕ) (policy : InTheClear) (keys : List (List ℕ)) (label bytes whole : List ℕ) where
  pub refuses : (result : Result X StreamFault) → IsReadAs label bytes whole
      → IfErr result (λ fault. fault ≢ Memory → (stream : List ℕ) → ¬ IsStreamIn limit policy keys whole stream)
      → IfErr result (λ fault. fault ≢ Memory → (stream : List ℕ) → ¬ IsReplyIn limit policy keys label bytes stream)
  refuses (Ok stream) read none = tt
  refuses (Err fault) read none = λ seen stream is.
      none seen stream (subst (λ (w : List ℕ). IsStreamIn limit policy keys w stream) (one_reading label bytes is.0 whole is.1 read) is.2)

  pub reason : (result : Result X StreamFault) → IsReadAs label bytes whole
      → IfErr result (λ fault. fault ≢ Memory → ReasonFor limit policy keys whole fault)
      → IfErr result (λ fault. fault ≢ Memory → ReasonForReply limit policy keys label bytes fault)
  reason (Ok stream) read why = tt
  reason (Err fault) read why = λ seen. (whole, read, why seen)
