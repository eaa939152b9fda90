-- What follows from the rules of a world.
use Rattle.std.proofs.Common.{◌≡◌, ℕ, zero, suc, Bool, true, false, nat_eq, if◌then◌else◌, Option, Some, None, IsSome}
use Rattle.std.proofs.Common.{IfSome, [], ◌∷◌, refl, sym, ap, ◌∙◌, subst, eqb-true}
use Rattle.std.specs.List.{AllByRecursion}
use Rattle.memberlist_probes.specs.Worlds.{Step, ping_sent, ping_arrived, refused, ack_sent, ack_arrived, ack_read}
use Rattle.memberlist_probes.specs.Worlds.{Event, World, number, when, needs, IsAfter, IsCaused, Obeys}

-- ---- a step is known by its number

step_at : ℕ → Step
step_at zero = ping_sent
step_at (suc zero) = ping_arrived
step_at (suc (suc zero)) = refused
step_at (suc (suc (suc zero))) = ack_sent
step_at (suc (suc (suc (suc zero)))) = ack_arrived
step_at (suc (suc (suc (suc (suc n))))) = ack_read

at_number : (s : Step) → step_at (number s) ≡ s
unfolding step_at number
at_number ping_sent = refl
at_number ping_arrived = refl
at_number refused = refl
at_number ack_sent = refl
at_number ack_arrived = refl
at_number ack_read = refl

by_number : (a b : Step) → number a ≡ number b → a ≡ b
by_number a b same = sym (at_number a) ∙ (ap step_at same ∙ at_number b)

-- ---- what happened was caused

some_same : (a b : ℕ) → Some a ≡ Some b → a ≡ b
some_same a b h = cc (h)

by_first : (world : World) (event : Event) (s : Step) (t : ℕ) (rest : Option ℕ) (b : Bool)
    → nat_eq (number s) (number event.step) ≡ b → IsCaused world event
    → (rest ≡ Some t → IfSome (needs s) (λ step. IsAfter (when step world) t))
    → (if b then Some event.time else rest) ≡ Some t
    → IfSome (needs s) (λ step. IsAfter (when step world) t)
by_first world event s t rest true same caused others is =
    let step = by_number s event.step (eqb-true (number s) (number event.step) same) in
    let time = some_same event.time t is in
    subst (λ s'. IfSome (needs s') (λ step. IsAfter (when step world) t)) (sym step)
    (subst (λ t'. IfSome (needs event.step) (λ step. IsAfter (when step world) t')) time caused)
by_first world event s t rest false same caused others is = others is

caused_in : (world events : World) (s : Step) (t : ℕ) → AllByRecursion (IsCaused world) events
    → when s events ≡ Some t → IfSome (needs s) (λ step. IsAfter (when step world) t)
unfolding when
caused_in world [] s t all is = absurd (cc (is))
caused_in world (event ∷ events) s t all is =
    by_first world event s t (when s events) (nat_eq (number s) (number event.step)) refl all.0
    (λ later. caused_in world events s t all.1 later) is

-- ---- the steps of a probe

-- by when the target refused, the ping was sent and arrived, and the ack was sent and arrived
pub record Follows (refusal sent asked answered returned : Option ℕ) : Type 0 where
  pub is_sent : IsSome sent
  pub is_asked : IfSome asked (IsAfter sent)
  pub is_answered : IfSome answered (IsAfter asked)
  pub is_returned : IfSome returned (IsAfter answered)
  pub refuses : IsSome refusal → answered ≡ None

after_needed : (s before : Step) (world : World) (o : Option ℕ) → needs s ≡ Some before → Obeys world
    → when s world ≡ o → IfSome o (IsAfter (when before world))
after_needed s before world None needed obeys is = tt
after_needed s before world (Some t) needed obeys is =
    subst (λ n. IfSome n (λ step. IsAfter (when step world) t)) needed
    (caused_in world world s t obeys.caused is)

pub follows : (world : World) → Obeys world
    → Follows (when refused world) (when ping_sent world) (when ping_arrived world) (when ack_sent world)
    (when ack_arrived world)
unfolding needs
follows world obeys =
    record {
      is_sent = obeys.sent;
      is_asked = after_needed ping_arrived ping_sent world (when ping_arrived world) refl obeys refl;
      is_answered = after_needed ack_sent ping_arrived world (when ack_sent world) refl obeys refl;
      is_returned = after_needed ack_arrived ack_sent world (when ack_arrived world) refl obeys refl;
      refuses = obeys.refuses;
    }
