-- Keys that were tried.
use Rattle.std.proofs.Common.{◌≡◌, ◌≢◌, inl, inr, ℕ, ◌+◌, ◌<◌, ◌≤◌, List, [], ◌∷◌, ◌++◌, length, get_or, take, drop}
use Rattle.std.proofs.Common.{refl, sym, ap, subst, ◌∙◌, arith}
use Rattle.std.specs.List.{Contains}
use Rattle.std.proofs.lemmas.List.{take_more, take_all, drop_more, take-append-drop}
use Rattle.std.proofs.lemmas.List.Elements.{Contains-push_cases, Contains-get_or}
use Rattle.memberlist_cipher.specs.declared.fault.CipherFault.{CipherFault}
use Rattle.memberlist_cipher.specs.declared.fault.CipherFault.TheVariants.{WrongTag, Memory}
use Rattle.memberlist_keyring.specs.Opening.{IsFirst}
use Rattle.memberlist_keyring.specs.Cutting.{IsFaultOfKeys}

-- none of the keys decrypts it, and this is the fault, which is not `Memory`
pub record Tried (Opened : List ℕ → List ℕ → Type 0) (Cause : CipherFault → List ℕ
    → Type 0) (keys : List (List ℕ)) (fault : CipherFault) : Type 0 where
  pub none : (key : List ℕ) → Contains keys key → (message : List ℕ) → ¬ Opened key message
  pub is : IsFaultOfKeys Cause keys fault
  pub other : fault ≢ Memory

pub Tried-none : (Opened : List ℕ → List ℕ → Type 0) (Cause : CipherFault → List ℕ → Type 0) → Tried Opened Cause [] WrongTag
Tried-none Opened Cause = record { none = λ key c message. absurd (omega (arith, c.1)); is = inl (refl, refl); other = λ e. cc }

pub Tried-push : (Opened : List ℕ → List ℕ → Type 0) (Cause : CipherFault → List ℕ
    → Type 0) (keys : List (List ℕ)) (last fault : CipherFault) (key : List ℕ)
    → Tried Opened Cause keys last → Cause fault key → fault ≢ Memory → ((message : List ℕ) → ¬ Opened key message)
    → Tried Opened Cause (keys ++ key ∷ []) fault
Tried-push Opened Cause keys last fault key tried cause other lacks = record {
  none = λ k c message opened. elim (Contains-push_cases keys key k c) [
    | inl before ↦ tried.none k before message opened
    | inr same ↦ let P : List ℕ → Type 0 = λ y. Opened y message in lacks message (subst P (sym same) opened)
  ];
  is = inr (record { before = keys; key = key; last = refl; cause = cause });
  other = other;
}

pub Tried-more : (Opened : List ℕ → List ℕ → Type 0) (Cause : CipherFault → List ℕ → Type 0) (keys : List (List ℕ)) (i : ℕ)
    (last fault : CipherFault) (key : List ℕ)
    → i < length keys → key ≡ get_or keys i key → Tried Opened Cause (take i keys) last → Cause fault key → fault ≢ Memory
    → ((message : List ℕ) → ¬ Opened key message) → Tried Opened Cause (take (i + 1) keys) fault
Tried-more Opened Cause keys i last fault key within read tried cause other lacks =
    let P : List (List ℕ) → Type 0 = λ ks. Tried Opened Cause ks fault in
    let e : take (i + 1) keys ≡ take i keys ++ key ∷ [] = take_more keys i key within ∙ ap
    (λ (k : List ℕ). take i keys ++ k ∷ []) (sym read) in
    subst P (sym e) (Tried-push Opened Cause (take i keys) last fault key tried cause other lacks)

-- if all were tried
pub Tried-all : (Opened : List ℕ → List ℕ → Type 0) (Cause : CipherFault → List ℕ → Type 0) (keys : List (List ℕ)) (i : ℕ)
    (fault : CipherFault) → length keys ≤ i
    → Tried Opened Cause (take i keys) fault → (key : List ℕ) → Contains keys key → (message : List ℕ) → ¬ Opened key message
Tried-all Opened Cause keys i fault end tried =
    let P : List (List ℕ) → Type 0 = λ ks. (key : List ℕ) → Contains ks key → (message : List ℕ) → ¬ Opened key message in
    subst P (take_all i keys end) tried.none

-- the key that is tried is one of them
pub is_ours : (keys : List (List ℕ)) (i : ℕ) (key : List ℕ) → i < length keys → key ≡ get_or keys i key → Contains keys key
is_ours keys i key within read = subst (λ (k : List ℕ). Contains keys k) (sym read) (Contains-get_or keys i key within)

-- the key that decrypts it, if those before it do not
pub IsFirst-at : (Opened : List ℕ → List ℕ → Type 0) (Cause : CipherFault → List ℕ → Type 0) (keys : List (List ℕ)) (i : ℕ)
    (last : CipherFault) (key message : List ℕ) → i < length keys
    → key ≡ get_or keys i key → Tried Opened Cause (take i keys) last → Opened key message → IsFirst Opened keys message
IsFirst-at Opened Cause keys i last key message within read tried opened =
    let rest : drop i keys ≡ key ∷ drop (i + 1) keys = drop_more keys i key within ∙ ap
    (λ (k : List ℕ). k ∷ drop (i + 1) keys) (sym read) in record {
      before = take i keys;
      key = key;
      after = drop (i + 1) keys;
      parts = sym (take-append-drop i keys) ∙ ap (λ (ks : List (List ℕ)). take i keys ++ ks) rest;
      earlier = tried.none;
      opened = opened;
    }
