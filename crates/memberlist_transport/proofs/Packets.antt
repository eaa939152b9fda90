-- The one message of a packet, in the clear or encrypted under a key.
use Rattle.std.proofs.Common.{◌≡◌, ◌⊎◌, ◌∙◌, inl, inr, ℕ, List, [], ◌∷◌, Bool, true, false, MatchBool, Result, Ok, Err}
use Rattle.std.proofs.Common.{IsOk, IfOk, IfErr, refl, ap, sym, subst, get_or, length, length-append, arith}
use Rattle.std.specs.List.{Contains}
use Rattle.std.specs.Prelude.{◌≢◌}
use Rattle.std.proofs.lemmas.List.Elements.{Contains-append_right}
use Rattle.memberlist_keyring.specs.Opening.{Opens, OpensFirst}
use Rattle.memberlist_keyring.proofs.OneOpened.{one_opened}
use Rattle.memberlist_wrap.specs.Wrapping.{Unwraps}
use Rattle.memberlist_wrap.proofs.Unwrapping.{one_message}
use Rattle.memberlist_transport.specs.declared.fault.PacketFault.{PacketFault}
use Rattle.memberlist_transport.specs.declared.fault.PacketFault.TheVariants.{Wrapped, NoMessage, NoKeyFits, Unencrypted, Memory}
use Rattle.memberlist_transport.specs.declared.message.Message.{Message}
use Rattle.memberlist_transport.specs.declared.message.Message.TheVariants.{Claims, Claimless, Empty}
use Rattle.memberlist_transport.specs.declared.in_the_clear.InTheClear.{InTheClear}
use Rattle.memberlist_transport.specs.InTheClear.{AcceptsClear}
use Rattle.memberlist_transport.specs.Message.{IsMessage, IsNoMessage}
use Rattle.memberlist_transport.specs.Packet.{HoldsClear, FailsClear, IsUnclear, Holds, Holds as held, Fails}
use Rattle.memberlist_transport.specs.Packet.{Fails as failing, IsUnclearResult, HoldsOpened, FailsOpened}

-- bytes that are a message are not also none
is_no_other : (bytes : List ℕ) (message : Message) (first : ℕ) → IsMessage bytes message → ¬ IsNoMessage bytes first
is_no_other bytes (Claims kind copy) first is other = let some = is.0 in let none = other.1 in cc (some, none)
is_no_other bytes (Claimless kind) first is other = other.2 kind is
is_no_other bytes Empty first is other = absurd (omega (arith, ap length (sym is ∙ other.0.1)))

same_message : (bytes a b : List ℕ) → Unwraps 1048576 bytes a → Unwraps 1048576 bytes b → a ≡ b
same_message bytes a b one other = (one_message 1048576 1048576 bytes one.wrappers other.wrappers a b one.wraps other.wraps).1

-- bytes around something that is not a message hold none
pub none_inside : (bytes inner : List ℕ) (fault : PacketFault) → Unwraps 1048576 bytes inner
    → (first : ℕ) × (fault ≡ NoMessage first) × IsNoMessage inner first → FailsClear bytes fault
none_inside bytes inner fault wraps none = rw none.1 (inner, wraps, none.2)

-- bytes that are said to hold no message hold none
no_clear : (bytes : List ℕ) (fault : PacketFault) → FailsClear bytes fault → (message : Message) → ¬ HoldsClear bytes message
no_clear bytes (Wrapped cause) is message holds = is.1 holds.0 holds.1
no_clear bytes (NoMessage first) is message holds =
    is_no_other is.0 message first (subst (λ m. IsMessage m message) (same_message bytes holds.0 is.0 holds.1 is.1) holds.2) is.2
no_clear bytes NoKeyFits is message holds = absurd is
no_clear bytes Unencrypted is message holds = absurd is
no_clear bytes Memory is message holds = absurd is

-- ---- unclear bytes

no_unclear : (bytes : List ℕ) → IsUnclear bytes → (message : Message) → ¬ HoldsClear bytes message
no_unclear bytes unclear message holds = no_clear bytes (NoMessage unclear.0) unclear.2 message holds

-- if the result is unclear, so are the bytes
pub unclear_bytes : (bytes : List ℕ) (result : Result Message PacketFault) → IfErr result (λ fault. fault ≢ Memory → FailsClear bytes fault)
    → IsUnclearResult result → IsUnclear bytes
unclear_bytes bytes (Ok message) fails unclear = absurd unclear
unclear_bytes bytes (Err (Wrapped cause)) fails unclear = absurd unclear
unclear_bytes bytes (Err (NoMessage first)) fails unclear = (first, unclear, fails (λ e. absurd cc))
unclear_bytes bytes (Err NoKeyFits) fails unclear = absurd unclear
unclear_bytes bytes (Err Unencrypted) fails unclear = absurd unclear
unclear_bytes bytes (Err Memory) fails unclear = absurd unclear

-- and if it is not, they are not
clear_bytes : (bytes : List ℕ) (fault : PacketFault) → FailsClear bytes fault → ¬ IsUnclearResult (Err fault) → ¬ IsUnclear bytes
clear_bytes bytes (Wrapped cause) is clear unclear = is.1 unclear.2.0 unclear.2.1
clear_bytes bytes (NoMessage first) is clear unclear =
    let begins : first ∷ is.2.0.0 ≡ unclear.0 ∷ unclear.2.2.0.0 = sym is.2.0.1
    ∙ same_message bytes is.0 unclear.2.0 is.1 unclear.2.1 ∙ unclear.2.2.0.1 in
    let same : first ≡ unclear.0 = ap (λ l. get_or l 0 0) begins in clear (omega (arith, same, unclear.1))
clear_bytes bytes NoKeyFits is clear unclear = absurd is
clear_bytes bytes Unencrypted is clear unclear = absurd is
clear_bytes bytes Memory is clear unclear = absurd is

-- ---- the result

-- if there is no key, or the bytes are clear
plainly : (policy : InTheClear) (keys : List (List ℕ)) (bytes : List ℕ) (fault : PacketFault)
    → (keys ≡ []) ⊎ (¬ IsUnclearResult (Err fault)) → FailsClear bytes fault
    → Fails policy keys bytes fault
plainly policy keys bytes fault (inl none) fails = failing.clear fails (λ unclear. none)
plainly policy keys bytes fault (inr clear) fails = failing.clear fails (λ unclear. absurd (clear_bytes bytes fault fails clear unclear))

-- the message in the clear, and the answer: it, if that is read
pub kept : (policy : InTheClear) (keys : List (List ℕ)) (bytes : List ℕ) (plain result : Result Message PacketFault) (accepted : Bool)
    → MatchBool accepted (AcceptsClear policy keys) (¬ AcceptsClear policy keys) → IfOk plain (HoldsClear bytes)
    → IfOk result (λ message. (accepted ≡ true) × (plain ≡ Ok message)) → IfOk result (Holds policy keys bytes)
kept policy keys bytes plain (Err fault) accepted test holds is = tt
kept policy keys bytes plain (Ok message) accepted test holds is =
    held.clear (subst (λ b. MatchBool b (AcceptsClear policy keys) (¬ AcceptsClear policy keys)) is.0 test)
    (subst (λ p. IfOk p (HoldsClear bytes)) is.1 holds)

module _ (policy : InTheClear) (keys : List (List ℕ)) (bytes : List ℕ) (plain : Result Message PacketFault)
    (clear : (keys ≡ []) ⊎ (¬ IsUnclearResult plain)) where
  as_failed : (fault : PacketFault) → plain ≡ Err fault → (keys ≡ []) ⊎ (¬ IsUnclearResult (Err fault))
  as_failed fault same = subst (λ p. (keys ≡ []) ⊎ (¬ IsUnclearResult p)) same clear

  in_the_clear : (p : Result Message PacketFault) → p ≡ plain → IsOk p → IfOk plain (HoldsClear bytes)
      → (message : Message) × HoldsClear bytes message
  in_the_clear (Ok message) same is holds = (message, subst (λ q. IfOk q (HoldsClear bytes)) (sym same) holds)
  in_the_clear (Err fault) same is holds = absurd (cc (is))

  pub refused : (result : Result Message PacketFault) (accepted : Bool)
      → MatchBool accepted (AcceptsClear policy keys) (¬ AcceptsClear policy keys)
      → IfOk plain (HoldsClear bytes) → IfErr plain (λ fault. fault ≢ Memory → FailsClear bytes fault)
      → IfErr result (λ fault. (plain ≡ Err fault) ⊎ ((accepted ≡ false) × IsOk plain × (fault ≡ Unencrypted)))
      → IfErr result (λ fault. fault ≢ Memory → Fails policy keys bytes fault)
  refused (Ok message) accepted test holds fails is = tt
  refused (Err fault) accepted test holds fails (inl same) = λ seen.
      plainly policy keys bytes fault (as_failed fault same) (subst (λ p. IfErr p (λ f. f ≢ Memory → FailsClear bytes f)) same fails seen)
  refused (Err fault) accepted test holds fails (inr other) = λ seen.
      let message = in_the_clear plain refl other.1 holds in
      failing.unencrypted message.0 message.1
      (subst (λ b. MatchBool b (AcceptsClear policy keys)
      (¬ AcceptsClear policy keys)) other.0 test) other.2

-- if a key is tried
pub opened : (policy : InTheClear) (keys : List (List ℕ)) (bytes : List ℕ) (message : Message)
    → IsUnclear bytes → HoldsOpened keys bytes message → Holds policy keys bytes message
opened policy keys bytes message unclear holds = held.opened holds.0 unclear holds.1 holds.2

pub closed : (policy : InTheClear) (keys : List (List ℕ)) (bytes : List ℕ) (fault : PacketFault)
    → IsUnclear bytes → keys ≢ [] → FailsOpened keys bytes fault → Fails policy keys bytes fault
closed policy keys bytes fault unclear some fails = elim fails [
  | inl lacks ↦ failing.closed unclear some lacks.0 lacks.1
  | inr inside ↦ failing.opened inside.0 unclear inside.1 inside.2
]

-- ---- a refused packet has no message

-- a keyring without keys decrypts nothing
pub no_keys : (keys : List (List ℕ)) (bytes inner : List ℕ) → keys ≡ [] → ¬ OpensFirst keys bytes inner
no_keys keys bytes inner none opens =
    absurd (omega (arith, ap length (sym opens.first.parts ∙ none), length-append opens.first.before (opens.first.key ∷ opens.first.after)))

pub nothing_opens : (keys : List (List ℕ)) (bytes plain : List ℕ) → keys ≡ [] → ¬ Opens keys bytes plain
nothing_opens keys bytes plain none opens = no_member (subst (λ ks. Contains ks opens.key) none opens.ours)
  where
    no_member : Contains [] opens.key → ⊥
    no_member at = absurd (omega (arith, at.1))

pub opens_packet : (keys : List (List ℕ)) (bytes inner : List ℕ) → OpensFirst keys bytes inner → Opens keys bytes inner
opens_packet keys bytes inner p = record {
  label = p.label;
  rest = p.rest;
  labelled = p.labelled;
  key = p.first.key;
  ours =
      subst (λ ks. Contains ks p.first.key) (sym p.first.parts)
      (Contains-append_right p.first.before (p.first.key ∷ p.first.after) p.first.key (0, omega arith, refl));
  encryption = p.first.opened;
}

pub no_message : (policy : InTheClear) (keys : List (List ℕ)) (bytes : List ℕ) (fault : PacketFault)
    → Fails policy keys bytes fault → (message : Message) → ¬ Holds policy keys bytes message
no_message policy keys bytes fault (failing.clear fails none) message (held.clear accepted holds) = no_clear bytes fault fails message holds
no_message policy keys bytes fault (failing.clear fails none) message
    (held.opened inner unclear opens holds) = no_keys keys bytes inner (none unclear) opens
no_message policy keys bytes fault (failing.unencrypted other holds refuses same) message (held.clear accepted also) = refuses accepted
no_message policy keys bytes fault (failing.unencrypted other holds refuses same) message
    (held.opened inner unclear opens also) = no_unclear bytes unclear other holds
no_message policy keys bytes fault (failing.closed unclear some lacks same) message
    (held.clear accepted holds) = no_unclear bytes unclear message holds
no_message policy keys bytes fault (failing.closed unclear some lacks same) message (held.opened inner also opens holds) =
    lacks inner (opens_packet keys bytes inner opens)
no_message policy keys bytes fault (failing.opened inner unclear opens fails) message
    (held.clear accepted holds) = no_unclear bytes unclear message holds
no_message policy keys bytes fault (failing.opened inner unclear opens fails) message (held.opened other also opened holds) =
    no_clear inner fault fails message (subst (λ m. HoldsClear m message) (one_opened keys bytes other inner opened opens) holds)
