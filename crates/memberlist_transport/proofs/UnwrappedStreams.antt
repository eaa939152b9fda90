-- The bytes of a message in one direction of a connection.
use Rattle.std.proofs.Common.{◌≡◌, ℕ, List, [], Result, Ok, Err, IfErr, subst}
use Rattle.std.specs.Prelude.{◌≢◌}
use Rattle.memberlist_keyring.specs.Opening.{OpensStreamFirst}
use Rattle.memberlist_wrap.specs.Wrapping.{Unwraps}
use Rattle.memberlist_transport.specs.declared.fault.StreamFault.{StreamFault}
use Rattle.memberlist_transport.specs.declared.fault.StreamFault.TheVariants.{Memory}
use Rattle.memberlist_transport.specs.declared.in_the_clear.InTheClear.{InTheClear}
use Rattle.memberlist_transport.specs.InTheClear.{AcceptsClear}
use Rattle.memberlist_transport.specs.Stream.{BeginsAsSealed, IsSealed}
use Rattle.memberlist_transport.specs.Reply.{IsReadAs}
use Rattle.memberlist_transport.specs.Unwrapped.{IsInsideStream, IsInsideStream as inside, IsInsideReply}
use Rattle.memberlist_transport.proofs.Streams.{same_message}
use Rattle.memberlist_transport.proofs.Replies.{one_reading}

module _ (limit : ℕ) (policy : InTheClear) (keys : List (List ℕ)) (bytes : List ℕ) where
  -- bytes that wrap nothing hold nothing
  pub none_wrapped : ((inner : List ℕ) → ¬ Unwraps limit bytes inner) → (inner : List ℕ) → ¬ IsInsideStream limit policy keys bytes inner
  none_wrapped lacks inner (inside.clear accepted untried wraps) = lacks inner wraps
  none_wrapped lacks inner (inside.opened plain sealed opens wraps) = lacks sealed.0 sealed.1

  module _ (message : List ℕ) (is : Unwraps limit bytes message) where
    -- whether the bytes are encrypted is told by the message that they wrap
    unsealed : ¬ BeginsAsSealed message → ¬ IsSealed limit bytes
    unsealed begins sealed = begins (subst BeginsAsSealed (same_message limit limit bytes sealed.0 message sealed.1 is) sealed.2)

    pub read_bare : AcceptsClear policy keys → keys ≡ [] → IsInsideStream limit policy keys bytes message
    read_bare accepted none = inside.clear accepted (λ sealed. none) is

    pub read_clear : AcceptsClear policy keys → ¬ BeginsAsSealed message → IsInsideStream limit policy keys bytes message
    read_clear accepted begins = inside.clear accepted (λ sealed. absurd (unsealed begins sealed)) is

    -- what is in the clear is not read
    pub none_clear : ¬ AcceptsClear policy keys → ¬ BeginsAsSealed message → (inner : List ℕ)
        → ¬ IsInsideStream limit policy keys bytes inner
    none_clear refuses begins inner (inside.clear accepted untried wraps) = refuses accepted
    none_clear refuses begins inner (inside.opened plain sealed opens wraps) = unsealed begins sealed

    -- what is encrypted, and a key is tried
    pub none_opened : keys ≢ [] → BeginsAsSealed message
        → ((plain inner : List ℕ) → OpensStreamFirst keys bytes plain → ¬ Unwraps limit plain inner)
        → (inner : List ℕ) → ¬ IsInsideStream limit policy keys bytes inner
    none_opened some begins lacks inner (inside.clear accepted untried wraps) = some (untried (message, is, begins))
    none_opened some begins lacks inner (inside.opened plain sealed opens wraps) = lacks plain inner opens wraps

module _ {X : Type 0} (limit : ℕ) (policy : InTheClear) (keys : List (List ℕ)) (label bytes whole : List ℕ) where
  pub none_replied : (result : Result X StreamFault) → IsReadAs label bytes whole
      → IfErr result (λ fault. fault ≢ Memory → (inner : List ℕ) → ¬ IsInsideStream limit policy keys whole inner)
      → IfErr result (λ fault. fault ≢ Memory → (inner : List ℕ) → ¬ IsInsideReply limit policy keys label bytes inner)
  none_replied (Ok inner) read none = tt
  none_replied (Err fault) read none = λ seen inner is.
      none seen inner (subst (λ (w : List ℕ). IsInsideStream limit policy keys w inner) (one_reading label bytes is.0 whole is.1 read) is.2)
