-- The claims in what was heard.
use Rattle.std.proofs.Common.{◌≡◌, ℕ, Bool, Option, Some, None, List, [], ◌∷◌, ◌++◌, Contains, refl, sym, ap, subst, ◌∙◌, inl, inr}
use Rattle.std.proofs.Common.{arith, ◌⊎◌, append_assoc}
use Rattle.std.specs.Option.{option_to_list}
use Rattle.std.proofs.lemmas.List.Elements.{Contains-append_left, Contains-append_right, Contains-append_cases}
use Rattle.std.proofs.lemmas.List.Elements.{Contains-push_cases}
use Rattle.swim_claim.specs.declared.claim.Claim.{Claim}
use Rattle.swim_claim.specs.declared.claim.Claim.TheVariants as claim
use Rattle.swim_claim.specs.Claim.{name_of}
use Rattle.swim_claim.specs.Details.{DetailsValue}
use Rattle.memberlist_view.specs.declared.heard.Heard.{Heard}
use Rattle.memberlist_view.specs.declared.heard.Said.{Said}
use Rattle.memberlist_view.specs.declared.heard.Said.TheVariants.{Alive, Suspect, Dead, Left, Seen}
use Rattle.memberlist_view.specs.Heard.{about, said_in_packet, said_in_record}
use Rattle.memberlist_view.specs.Sources.{Was}
use Rattle.swim_laws.specs.Claims.{claim_of, claims_of}

pub of_record : (c : Claim) (joins : Bool) → claim_of (said_in_record c joins) ≡ Some c
of_record (claim.Alive name inc details) joins = refl
of_record (claim.Suspect name inc) joins = refl
of_record (claim.Confirm name inc) joins = refl
of_record (claim.Leave name inc) joins = refl

pub of_packet : (c : Claim) (from : Option (List ℕ)) → claim_of (said_in_packet c from) ≡ Some c
of_packet (claim.Alive name inc details) from = refl
of_packet (claim.Suspect name inc) from = refl
of_packet (claim.Confirm name inc) from = refl
of_packet (claim.Leave name inc) from = refl

pub here : {X : Type 0} (x : X) (xs : List X) → Contains (x ∷ xs) x
here x xs = Contains-append_left (x ∷ []) xs x (0, omega arith, refl)

only_one : {X : Type 0} (x y : X) → Contains (x ∷ []) y → x ≡ y
only_one x y at = elim (Contains-push_cases [] x y at) [ inl none ↦ absurd (omega (arith, none.1)) | inr is ↦ is ]

of_one : (o : Option Claim) (c : Claim) → o ≡ Some c → Contains (option_to_list o) c
of_one o c is = subst (λ p. Contains (option_to_list p) c) (sym is) (0, omega arith, refl)

from_one : (o : Option Claim) (c : Claim) → Contains (option_to_list o) c → o ≡ Some c
from_one None c at = absurd (omega (arith, at.1))
from_one (Some d) c at = ap (λ (e : Claim). Some e) (only_one d c at)

-- a claim that was heard is among the claims
pub claimed : (heard : List Heard) (h : Heard) (c : Claim) → Contains heard h → claim_of h.said ≡ Some c
    → Contains (claims_of heard) c
claimed [] h c at is = absurd (omega (arith, at.1))
claimed (first ∷ later) h c at is = elim (Contains-append_cases (first ∷ []) later h at) [
  | inl now ↦ Contains-append_left (option_to_list (claim_of first.said)) (claims_of later) c
      (of_one (claim_of first.said) c (ap (λ (g : Heard). claim_of g.said) (only_one first h now) ∙ is))
  | inr after ↦ Contains-append_right (option_to_list (claim_of first.said)) (claims_of later) c (claimed later h c after is)
]

-- each of the claims was heard
pub was_claimed : (heard : List Heard) (c : Claim) → Contains (claims_of heard) c → Was heard (λ h. claim_of h.said ≡ Some c)
was_claimed [] c at = absurd (omega (arith, at.1))
was_claimed (first ∷ later) c at = elim (Contains-append_cases (option_to_list (claim_of first.said)) (claims_of later) c at) [
  | inl now ↦ (first, here first later, from_one (claim_of first.said) c now)
  | inr after ↦ later_too (was_claimed later c after)
]
  where
    later_too : Was later (λ h. claim_of h.said ≡ Some c) → Was (first ∷ later) (λ h. claim_of h.said ≡ Some c)
    later_too w = (w.0, Contains-append_right (first ∷ []) later w.0 w.1, w.2)

pub claims_of-append : (past later : List Heard) → claims_of (past ++ later) ≡ claims_of past ++ claims_of later
claims_of-append [] later = refl
claims_of-append (h ∷ past) later =
    ap (λ cs. option_to_list (claim_of h.said) ++ cs) (claims_of-append past later)
    ∙ sym (append_assoc (option_to_list (claim_of h.said)) (claims_of past) (claims_of later))

-- a claim is about whom it was said
pub claim_name : (said : Said) (c : Claim) → claim_of said ≡ Some c → name_of c ≡ about said
claim_name (Alive name inc details joins) c is = ap name_of (unwrapped c is)
  where
    unwrapped : (d : Claim) → Some (claim.Alive name inc details) ≡ Some d → d ≡ claim.Alive name inc details
    unwrapped d h = cc (h)
claim_name (Suspect name inc from) c is = ap name_of (unwrapped c is)
  where
    unwrapped : (d : Claim) → Some (claim.Suspect name inc) ≡ Some d → d ≡ claim.Suspect name inc
    unwrapped d h = cc (h)
claim_name (Dead name inc from) c is = ap name_of (unwrapped c is)
  where
    unwrapped : (d : Claim) → Some (claim.Confirm name inc) ≡ Some d → d ≡ claim.Confirm name inc
    unwrapped d h = cc (h)
claim_name (Left name inc) c is = ap name_of (unwrapped c is)
  where
    unwrapped : (d : Claim) → Some (claim.Leave name inc) ≡ Some d → d ≡ claim.Leave name inc
    unwrapped d h = cc (h)
claim_name (Seen name place) c is = absurd (cc (is))

-- a claim that was heard now, or before
pub now_or_before : (past : List Heard) (h : Heard) (c : Claim) → Contains (claims_of (past ++ h ∷ [])) c
    → Contains (claims_of past) c ⊎ (claim_of h.said ≡ Some c)
now_or_before past h c at = by_cases (was_claimed (past ++ h ∷ []) c at)
  where
    by_cases : Was (past ++ h ∷ []) (λ g. claim_of g.said ≡ Some c) → Contains (claims_of past) c ⊎ (claim_of h.said ≡ Some c)
    by_cases w = elim (Contains-push_cases past h w.0 w.1) [
      | inl before ↦ inl (claimed past w.0 c before w.2)
      | inr is ↦ inr (ap (λ (g : Heard). claim_of g.said) is ∙ w.2)
    ]

-- who heard an Alive heard it said
pub said_alive : (said : Said) (name : List ℕ) (inc : ℕ) (details : DetailsValue) → claim_of said ≡ Some (claim.Alive name inc details)
    → (joins : Bool) × (said ≡ Alive name inc details joins)
said_alive (Alive n i d joins) name inc details is = (joins, cc (is))
said_alive (Suspect n i from) name inc details is = absurd (cc (is))
said_alive (Dead n i from) name inc details is = absurd (cc (is))
said_alive (Left n i) name inc details is = absurd (cc (is))
said_alive (Seen n place) name inc details is = absurd (cc (is))
