-- What a keyring decrypts, by how bytes are split.
use Rattle.std.proofs.Common.{◌≡◌, ◌≢◌, inl, inr, ℕ, List, [], ◌∷◌, ◌++◌, Result, Ok, Err, IfErr, length, get_or, refl}
use Rattle.std.proofs.Common.{ap, sym, subst, ◌∙◌, arith}
use Rattle.std.proofs.lemmas.List.{length-append, get_or_at}
use Rattle.std.specs.List.{Contains}
use Rattle.memberlist_cipher.specs.declared.fault.CipherFault.{CipherFault}
use Rattle.memberlist_cipher.specs.declared.fault.CipherFault.TheVariants.{Memory}
use Rattle.memberlist_keyring.specs.Opening.{OpensAs, IsFirst, OpensFirstAs}
use Rattle.memberlist_keyring.specs.Cutting.{IsCut, IsFaultOfKeys, IsRefused, AsksMemory}
use Rattle.memberlist_cipher.specs.Label.{IsLabelled}
use Rattle.memberlist_cipher.proofs.Labels.{one_label}

in_the_middle : (before : List (List ℕ)) (key : List ℕ) (after keys : List (List ℕ)) → keys ≡ before ++ key ∷ after → Contains keys key
in_the_middle before key after keys parts = (
  length before,
  omega (arith, ap length parts, length-append before (key ∷ after)),
  ap (λ (ks : List (List ℕ)). get_or ks (length before) key) parts ∙ get_or_at before key after key (length before) refl,
)

-- ---- encrypted bytes do not start with a label

abbrev Encrypts : Type 1
Encrypts = List ℕ → List ℕ → List ℕ → List ℕ → Type 0

abbrev IsBare : Encrypts → Type 0
IsBare E = (key label bytes message : List ℕ) → E key label bytes message → IsLabelled bytes [] bytes

pub opens_first : (E : Encrypts) → IsBare E → (keys ours : List (List ℕ)) (bytes label rest message : List ℕ)
    → ours ≡ keys → IsCut bytes label rest
    → IsFirst (λ key m. E key label rest m) ours message → OpensFirstAs E keys bytes message
opens_first E bare keys ours bytes label rest message same (inl labelled) h =
    let P : List (List ℕ) → Type 0 = λ ks. IsFirst (λ key m. E key label rest m) ks message in
    record { label = label; rest = rest; labelled = labelled; first = subst P same h }
opens_first E bare keys ours bytes label rest message same (inr whole) h =
    let P : List ℕ → Type 0 = λ r. E h.key label r message in
    absurd (whole.2 [] bytes (bare h.key label bytes message (subst P whole.1 h.opened)))

-- one of the keys decrypts what the first of them does
pub first_opens : (E : Encrypts) (keys : List (List ℕ)) (bytes message : List ℕ)
    → OpensFirstAs E keys bytes message → OpensAs E keys bytes message
first_opens E keys bytes message o =
    let first = o.first in
    record {
      label = o.label;
      rest = o.rest;
      labelled = o.labelled;
      key = first.key;
      ours = in_the_middle first.before first.key first.after keys first.parts;
      encryption = first.opened;
    }

pub opens_none : {A : Type 0} (E : Encrypts) (r : Result A CipherFault) (keys ours : List (List ℕ))
    (bytes label rest : List ℕ) → ours ≡ keys
    → IsCut bytes label rest
    → IfErr r (λ fault. fault ≢ Memory → (key : List ℕ) → Contains ours key → (message : List ℕ) → ¬ E key label rest message)
    → IfErr r (λ fault. fault ≢ Memory → (message : List ℕ) → ¬ OpensAs E keys bytes message)
opens_none E (Ok x) keys ours bytes label rest same cut h = h
opens_none E (Err fault) keys ours bytes label rest same (inl labelled) h = λ other message o.
    let one = one_label bytes label rest o.label o.rest labelled o.labelled in
    let P : List (List ℕ) → Type 0 = λ ks. Contains ks o.key in
    h other o.key (subst P (sym same) o.ours) message (rw (one.0, one.1) o.encryption)
opens_none E (Err fault) keys ours bytes label rest same (inr whole) h = λ other message o. whole.2 o.label o.rest o.labelled

pub refused : {A : Type 0} (Cause : CipherFault → List ℕ → List ℕ → List ℕ → Type 0) (r : Result A CipherFault)
    (keys ours : List (List ℕ)) (bytes label rest : List ℕ) → ours ≡ keys
    → IsCut bytes label rest → IfErr r (λ fault. fault ≢ Memory → IsFaultOfKeys (λ f key. Cause f key label rest) ours fault)
    → IfErr r (λ fault. fault ≢ Memory → IsRefused Cause keys bytes fault)
refused Cause (Ok x) keys ours bytes label rest same cut h = h
refused Cause (Err fault) keys ours bytes label rest same cut h = λ other.
    let P : List (List ℕ) → Type 0 = λ ks. IsFaultOfKeys (λ f key. Cause f key label rest) ks fault in
    record { label = label; rest = rest; cut = cut; is = subst P same (h other) }

pub asks : {A : Type 0} (Cause : CipherFault → List ℕ → List ℕ → List ℕ → Type 0) (r : Result A CipherFault)
    (keys ours : List (List ℕ)) (bytes label rest : List ℕ) → ours ≡ keys → IsCut bytes label rest
    → (r ≡ Err Memory → (key : List ℕ) × Contains ours key × Cause Memory key label rest)
    → r ≡ Err Memory → AsksMemory Cause keys bytes
asks Cause r keys ours bytes label rest same cut h memory =
    let here = h memory in
    record {
      label = label;
      rest = rest;
      cut = cut;
      key = here.0;
      ours = subst (λ (ks : List (List ℕ)). Contains ks here.0) same here.1;
      cause = here.2;
    }
