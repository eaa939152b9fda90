-- The bytes in a packet.
use Rattle.std.proofs.Common.{◌≡◌, ℕ, List, [], subst}
use Rattle.memberlist_keyring.specs.Opening.{Opens, OpensFirst}
use Rattle.memberlist_keyring.proofs.OneOpened.{one_opened}
use Rattle.memberlist_wrap.specs.Wrapping.{Unwraps}
use Rattle.memberlist_transport.specs.declared.in_the_clear.InTheClear.{InTheClear}
use Rattle.memberlist_transport.specs.declared.in_the_clear.InTheClear.TheVariants.{Refused, Accepted}
use Rattle.memberlist_transport.specs.InTheClear.{AcceptsClear}
use Rattle.memberlist_transport.specs.Unwrapped.{IsInside, IsInside as inside}
use Rattle.memberlist_transport.proofs.Packets.{no_keys, opens_packet, nothing_opens}

-- without keys what is in the clear is read
pub accepts_bare : (policy : InTheClear) (keys : List (List ℕ)) → keys ≡ [] → AcceptsClear policy keys
accepts_bare Refused keys none = none
accepts_bare Accepted keys none = tt

module _ (policy : InTheClear) (keys : List (List ℕ)) (bytes : List ℕ) where
  -- without keys
  pub bare : keys ≡ [] → (inner : List ℕ) → AcceptsClear policy keys → Unwraps 1048576 bytes inner → IsInside policy keys bytes inner
  bare none inner accepted wraps = inside.clear accepted (λ plain opens. nothing_opens keys bytes plain none opens) wraps

  pub none_bare : keys ≡ [] → ((inner : List ℕ) → ¬ Unwraps 1048576 bytes inner) → (inner : List ℕ) → ¬ IsInside policy keys bytes inner
  none_bare none lacks inner (inside.clear accepted closed wraps) = lacks inner wraps
  none_bare none lacks inner (inside.opened plain opens wraps) = no_keys keys bytes plain none opens

  -- if a key decrypts it
  pub none_opened : (plain : List ℕ) → OpensFirst keys bytes plain
      → ((inner : List ℕ) → ¬ Unwraps 1048576 plain inner) → (inner : List ℕ)
      → ¬ IsInside policy keys bytes inner
  none_opened plain opens lacks inner (inside.clear accepted closed wraps) = closed plain (opens_packet keys bytes plain opens)
  none_opened plain opens lacks inner (inside.opened other also wraps) =
      lacks inner (subst (λ p. Unwraps 1048576 p inner) (one_opened keys bytes other plain also opens) wraps)

  -- if none does
  pub none_closed : ((plain : List ℕ) → ¬ Opens keys bytes plain)
      → ((inner : List ℕ) → AcceptsClear policy keys → ¬ Unwraps 1048576 bytes inner)
      → (inner : List ℕ) → ¬ IsInside policy keys bytes inner
  none_closed closed lacks inner (inside.clear accepted also wraps) = lacks inner accepted wraps
  none_closed closed lacks inner (inside.opened plain opens wraps) = closed plain (opens_packet keys bytes plain opens)
