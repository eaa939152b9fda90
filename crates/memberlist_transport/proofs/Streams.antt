-- The one message that bytes wrap, and whether it is a push/pull stream, in the clear or encrypted.
use Rattle.std.proofs.Common.{◌≡◌, ◌⊎◌, ◌∙◌, inl, inr, ℕ, List, [], ◌∷◌, length, Bool, true, false, MatchBool, Result}
use Rattle.std.proofs.Common.{Ok, Err, IsOk, IfOk, IfErr, refl, get_or, ap, subst, sym, length-append, arith}
use Rattle.std.specs.Prelude.{◌≢◌}
use Rattle.memberlist_cipher.specs.declared.fault.CipherFault.{CipherFault}
use Rattle.memberlist_cipher.specs.Refusal.{StreamCause}
use Rattle.memberlist_keyring.specs.Cutting.{IsRefused}
use Rattle.memberlist_keyring.specs.Opening.{OpensStream, OpensStreamFirst}
use Rattle.memberlist_keyring.proofs.OneOpened.{one_opened_stream, opens_stream}
use Rattle.memberlist_wrap.specs.Wrapping.{Unwraps}
use Rattle.memberlist_wrap.proofs.Unwrapping.{one_message, no_message}
use Rattle.memberlist_transport.specs.declared.fault.StreamFault.{StreamFault}
use Rattle.memberlist_transport.specs.declared.fault.StreamFault.TheVariants.{Closed, Unencrypted, Memory}
use Rattle.memberlist_transport.specs.declared.in_the_clear.InTheClear.{InTheClear}
use Rattle.memberlist_transport.specs.InTheClear.{AcceptsClear}
use Rattle.memberlist_transport.specs.Stream.{BeginsAsStream, BeginsAsSealed, IsStreamIn, IsStreamIn as streams}
use Rattle.memberlist_transport.specs.Stream.{IsClearStream, IsSealed, ReasonFor, ReasonFor as why, ReasonForClear}
use Rattle.memberlist_transport.specs.Stream.{ReasonForClear as plainly, fault_of_start}

pub same_message : (m n : ℕ) (bytes a b : List ℕ) → Unwraps m bytes a → Unwraps n bytes b → a ≡ b
same_message m n bytes a b one other = (one_message m n bytes one.wrappers other.wrappers a b one.wraps other.wraps).1

-- no message starts as both
not_both : (message : List ℕ) → BeginsAsStream message → ¬ BeginsAsSealed message
not_both message stream sealed = let six : 6 ≡ 10 = ap (λ l. get_or l 0 0) (sym stream.1 ∙ sealed.1) in absurd (omega (arith, six))

no_sealed_clear : (m n : ℕ) (bytes : List ℕ) → IsSealed m bytes → (stream : List ℕ) → ¬ IsClearStream n bytes stream
no_sealed_clear m n bytes sealed stream is = not_both stream is.1
    (subst BeginsAsSealed (same_message m n bytes sealed.0 stream sealed.1 is.0) sealed.2)

-- ---- one stream

pub one_stream : (m n : ℕ) (clear other_clear : InTheClear) (keys : List (List ℕ)) (bytes a b : List ℕ)
    → IsStreamIn m clear keys bytes a → IsStreamIn n other_clear keys bytes b → a ≡ b
one_stream m n clear other_clear keys bytes a b (streams.clear accepted is)
    (streams.clear also other) = same_message m n bytes a b is.0 other.0
one_stream m n clear other_clear keys bytes a b (streams.clear accepted is)
    (streams.opened inner sealed opens other) = absurd (no_sealed_clear n m bytes sealed a is)
one_stream m n clear other_clear keys bytes a b (streams.opened inner sealed opens is)
    (streams.clear accepted other) = absurd (no_sealed_clear m n bytes sealed b other)
one_stream m n clear other_clear keys bytes a b (streams.opened inner sealed opens is) (streams.opened second also opened other) =
    same_message m n second a b (subst (λ x. Unwraps m x a) (one_opened_stream keys bytes inner second opens opened) is.0) other.0

module _ (limit : ℕ) where
  -- ---- refused bytes are not a stream

  -- bytes that a refusal says are not a stream in the clear are not one
  no_clear : (bytes : List ℕ) (fault : StreamFault) → ReasonForClear limit bytes fault → (stream : List ℕ)
      → ¬ IsClearStream limit bytes stream
  no_clear bytes fault (plainly.broken cause reason same) stream is = no_message 4 limit cause bytes reason stream is.0
  no_clear bytes fault (plainly.other message wraps begins same) stream is =
      begins (subst BeginsAsStream (same_message limit limit bytes stream message is.0 wraps) is.1)

  -- a keyring without keys decrypts nothing
  no_keys : (keys : List (List ℕ)) (bytes inner : List ℕ) → keys ≡ [] → ¬ OpensStreamFirst keys bytes inner
  no_keys keys bytes inner none opens =
      absurd (omega (
        arith,
        ap length (sym opens.first.parts ∙ none),
        length-append opens.first.before (opens.first.key ∷ opens.first.after),
      ))

  -- bytes that a refusal says are not a stream are not one
  pub no_stream : (policy : InTheClear) (keys : List (List ℕ)) (bytes : List ℕ) (fault : StreamFault)
      → ReasonFor limit policy keys bytes fault → (stream : List ℕ)
      → ¬ IsStreamIn limit policy keys bytes stream
  no_stream policy keys bytes fault (why.clear reason none) stream (streams.clear accepted is) = no_clear bytes fault reason stream is
  no_stream policy keys bytes fault (why.clear reason none) stream
      (streams.opened inner sealed opens is) = no_keys keys bytes inner (none sealed) opens
  no_stream policy keys bytes fault (why.unencrypted other is refuses same) stream (streams.clear accepted also) = refuses accepted
  no_stream policy keys bytes fault (why.unencrypted other is refuses same) stream
      (streams.opened inner sealed opens also) = no_sealed_clear limit limit bytes sealed other is
  no_stream policy keys bytes fault (why.closed cause sealed none refused same) stream
      (streams.clear accepted is) = no_sealed_clear limit limit bytes sealed stream is
  no_stream policy keys bytes fault (why.closed cause sealed none refused same) stream
      (streams.opened inner also opens is) = none inner (opens_stream keys bytes inner opens)
  no_stream policy keys bytes fault (why.opened inner sealed opens reason) stream
      (streams.clear accepted is) = no_sealed_clear limit limit bytes sealed stream is
  no_stream policy keys bytes fault (why.opened inner sealed opens reason) stream (streams.opened other also opened is) =
      no_clear inner fault reason stream
      (subst (λ m. IsClearStream limit m stream)
      (one_opened_stream keys bytes other inner opened opens) is)

  -- ---- refusals of a message

  pub clear_refused : {X : Type 0} (bytes message : List ℕ) (result : Result X StreamFault) → Unwraps limit bytes message
      → IfErr result (λ fault. (¬ BeginsAsStream message) × (fault ≡ fault_of_start message))
      → IfErr result (λ fault. fault ≢ Memory → ReasonForClear limit bytes fault)
  clear_refused bytes message (Ok stream) wraps other = tt
  clear_refused bytes message (Err fault) wraps other = λ seen. plainly.other message wraps other.0 other.1

  -- if there is no key, or the message is not encrypted: what the message is, and the answer, which is it if that is read
  module _ {X : Type 0} (items : X → List ℕ) (policy : InTheClear) (keys : List (List ℕ))
      (bytes message : List ℕ) (plain result : Result X StreamFault) (accepted : Bool)
      (test : MatchBool accepted (AcceptsClear policy keys) (¬ AcceptsClear policy keys)) (wraps : Unwraps limit bytes message)
      (is_message : IfOk plain (λ stream. BeginsAsStream (items stream) × (items stream ≡ message))) where
    pub kept : IfOk result (λ stream. (accepted ≡ true) × (plain ≡ Ok stream))
        → IfOk result (λ stream. IsStreamIn limit policy keys bytes (items stream))
    kept is = by_result result is
      where
        by_result : (r : Result X StreamFault) → IfOk r (λ stream. (accepted ≡ true) × (plain ≡ Ok stream))
            → IfOk r (λ stream. IsStreamIn limit policy keys bytes (items stream))
        by_result (Err fault) is = tt
        by_result (Ok stream) is =
            let here : BeginsAsStream (items stream) × (items stream ≡ message) =
            subst (λ p. IfOk p (λ s. BeginsAsStream (items s) × (items s ≡ message))) is.1 is_message in
            streams.clear (subst (λ b. MatchBool b (AcceptsClear policy keys) (¬ AcceptsClear policy keys)) is.0 test)
            (subst (Unwraps limit bytes) (sym here.1) wraps, here.0)

    clear_stream : (p : Result X StreamFault) → p ≡ plain → IsOk p → (stream : List ℕ) × IsClearStream limit bytes stream
    clear_stream (Err fault) same is = absurd (cc (is))
    clear_stream (Ok stream) same is =
        let here : BeginsAsStream (items stream) × (items stream ≡ message) =
        subst (λ p. IfOk p (λ s. BeginsAsStream (items s) × (items s ≡ message))) (sym same) is_message in
        (items stream, (subst (Unwraps limit bytes) (sym here.1) wraps, here.0))

    pub untried : (keys ≡ []) ⊎ (¬ BeginsAsSealed message)
        → IfErr plain (λ fault. (¬ BeginsAsStream message) × (fault ≡ fault_of_start message))
        → IfErr result (λ fault. (plain ≡ Err fault) ⊎ ((accepted ≡ false) × IsOk plain × (fault ≡ Unencrypted)))
        → IfErr result (λ fault. fault ≢ Memory → ReasonFor limit policy keys bytes fault)
    untried unclosed others is = by_result result is
      where
        none_tried : IsSealed limit bytes → (keys ≡ []) ⊎ (¬ BeginsAsSealed message) → keys ≡ []
        none_tried sealed (inl none) = none
        none_tried sealed (inr clear) = absurd
            (clear (subst BeginsAsSealed (same_message limit limit bytes sealed.0 message sealed.1 wraps)
            sealed.2))

        by_result : (r : Result X StreamFault)
            → IfErr r (λ fault. (plain ≡ Err fault)
            ⊎ ((accepted ≡ false) × IsOk plain × (fault ≡ Unencrypted)))
            → IfErr r (λ fault. fault ≢ Memory → ReasonFor limit policy keys bytes fault)
        by_result (Ok stream) is = tt
        by_result (Err fault) (inl same) = λ seen.
            let other : (¬ BeginsAsStream message) × (fault ≡ fault_of_start message) =
            subst (λ p. IfErr p (λ f. (¬ BeginsAsStream message) × (f ≡ fault_of_start message))) same others in
            why.clear (plainly.other message wraps other.0 other.1) (λ sealed. none_tried sealed unclosed)
        by_result (Err fault) (inr refused) = λ seen.
            let stream = clear_stream plain refl refused.1 in
            why.unencrypted stream.0 stream.1 (subst
            (λ b. MatchBool b (AcceptsClear policy keys)
            (¬ AcceptsClear policy keys)) refused.0 test) refused.2

  -- if a key is tried
  pub tried : {X : Type 0} (policy : InTheClear) (keys : List (List ℕ)) (bytes : List ℕ)
      (result : Result X StreamFault) → IsSealed limit bytes
      → IfErr result (λ fault. fault ≢ Memory → ((cause : CipherFault) × ((inner : List ℕ) → ¬ OpensStream keys bytes inner)
      × IsRefused StreamCause keys bytes cause × (fault ≡ Closed cause))
      ⊎ ((inner : List ℕ) × OpensStreamFirst keys bytes inner × ReasonForClear limit inner fault))
      → IfErr result (λ fault. fault ≢ Memory → ReasonFor limit policy keys bytes fault)
  tried policy keys bytes (Ok stream) sealed refusal = tt
  tried policy keys bytes (Err fault) sealed refusal = λ seen. elim (refusal seen) [
    | inl closed ↦ why.closed closed.0 sealed closed.1 closed.2 closed.3
    | inr opened ↦ why.opened opened.0 sealed opened.1 opened.2
  ]
