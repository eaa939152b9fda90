-- What holds keys, in order.
use Rattle.std.proofs.Common.{◌≡◌, ℕ, ◌+◌, ◌<◌, List, [], ◌∷◌, ◌++◌, length, get_or, take, drop, map, refl, sym, ap, subst, ◌∙◌, arith}
use Rattle.std.proofs.lemmas.List.{append-nil, append_assoc, map-append, length-map, length-take-le, take_more}
use Rattle.std.proofs.lemmas.List.{drop_more, take-append-drop, get_or_default}
use Rattle.memberlist_keyring.specs.KeyFile.{HoldInOrder, IsFirstKeyless}

pub HoldInOrder-push : {X : Type 0} (Holds : X → List (List ℕ) → Type 0) (xs : List X) (x : X) (keys held : List (List ℕ))
    → HoldInOrder Holds xs keys → Holds x held
    → HoldInOrder Holds (xs ++ x ∷ []) (keys ++ held)
HoldInOrder-push Holds [] x keys held h new =
    (held, [], new, refl, ap (λ (k : List (List ℕ)). k ++ held) h ∙ sym (append-nil held))
HoldInOrder-push Holds (y ∷ ys) x keys held h new = (
  h.0,
  h.1 ++ held,
  h.2,
  HoldInOrder-push Holds ys x h.1 held h.3 new,
  ap (λ (k : List (List ℕ)). k ++ held) h.4 ∙ append_assoc h.0 h.1 held,
)

map_take_more : {X Y : Type 0} (f : Y → X) (ys : List Y) (i : ℕ) (y : Y) → i < length ys → y ≡ get_or ys i y → map f
    (take (i + 1) ys) ≡ map f (take i ys) ++ f y ∷ []
map_take_more f ys i y within read =
    ap (map f) (take_more ys i y within ∙ ap (λ z. take i ys ++ z ∷ []) (sym read)) ∙ map-append f (take i ys) (y ∷ [])

pub HoldInOrder-more : {X Y : Type 0} (Holds : X → List (List ℕ) → Type 0) (f : Y → X) (ys : List Y) (i : ℕ) (y : Y)
    (keys held : List (List ℕ)) → i < length ys → y ≡ get_or ys i y
    → HoldInOrder Holds (map f (take i ys)) keys → Holds (f y) held → HoldInOrder Holds (map f (take (i + 1) ys)) (keys ++ held)
HoldInOrder-more {X} Holds f ys i y keys held within read h new =
    let P : List X → Type 0 = λ xs. HoldInOrder Holds xs (keys ++ held) in
    subst P (sym (map_take_more f ys i y within read)) (HoldInOrder-push Holds (map f (take i ys)) (f y) keys held h new)

unfoldable pub first_wrong : {X Y : Type 0} (Holds : X → List (List ℕ) → Type 0) (f : Y → X) (ys : List Y) (i : ℕ) (y : Y)
    (keys : List (List ℕ)) → i < length ys → y ≡ get_or ys i y
    → HoldInOrder Holds (map f (take i ys)) keys → ((held : List (List ℕ)) → ¬ Holds (f y) held) → IsFirstKeyless Holds (map f ys) (i + 1)
first_wrong Holds f ys i y keys within read h lacks =
    let rest : drop i ys ≡ y ∷ drop (i + 1) ys = drop_more ys i y within ∙ ap (λ z. z ∷ drop (i + 1) ys) (sym read) in
    let parts : ys ≡ take i ys ++ y ∷ drop (i + 1) ys = sym (take-append-drop i ys) ∙ ap (λ zs. take i ys ++ zs) rest in record {
      before = map f (take i ys);
      wrong = f y;
      after = map f (drop (i + 1) ys);
      keys = keys;
      parts = ap (map f) parts ∙ map-append f (take i ys) (y ∷ drop (i + 1) ys);
      place = omega (arith, length-map (take i ys) f, length-take-le i ys (omega arith));
      right = h;
      nothing = lacks;
    }

lacks_one : {X : Type 0} (Holds : X → List (List ℕ) → Type 0) (before : List X) (wrong : X) (after : List X)
    (keys : List (List ℕ)) → ((held : List (List ℕ)) → ¬ Holds wrong held)
    → ¬ HoldInOrder Holds (before ++ wrong ∷ after) keys
lacks_one Holds [] wrong after keys lacks h = lacks h.0 h.2
lacks_one Holds (x ∷ xs) wrong after keys lacks h = lacks_one Holds xs wrong after h.1 lacks h.3

-- if one holds nothing, all hold nothing
pub first_wrong_lacks : {X : Type 0} (Holds : X → List (List ℕ) → Type 0) (xs : List X) (number : ℕ)
    → IsFirstKeyless Holds xs number → (keys : List (List ℕ))
    → ¬ HoldInOrder Holds xs keys
first_wrong_lacks {X} Holds xs number w keys h =
    let P : List X → Type 0 = λ ys. HoldInOrder Holds ys keys in
    lacks_one Holds w.before w.wrong w.after keys w.nothing (subst P w.parts h)

pub empty : (xs : List ℕ) → length xs ≡ 0 → xs ≡ []
empty [] e = refl
empty (x ∷ xs) e = absurd (omega arith)

-- ---- the same for an element that is read with a default

pub HoldInOrder-more_at : {X Y : Type 0} (Holds : X → List (List ℕ) → Type 0) (f : Y → X) (ys : List Y) (i : ℕ) (d : Y)
    (keys held : List (List ℕ)) → i < length ys
    → HoldInOrder Holds (map f (take i ys)) keys → Holds (f (get_or ys i d)) held
    → HoldInOrder Holds (map f (take (i + 1) ys)) (keys ++ held)
HoldInOrder-more_at Holds f ys i d keys held within h new =
    HoldInOrder-more Holds f ys i (get_or ys i d) keys held within (get_or_default ys i d (get_or ys i d) within) h new

pub first_wrong_at : {X Y : Type 0} (Holds : X → List (List ℕ) → Type 0) (f : Y → X) (ys : List Y) (i : ℕ) (d : Y)
    (keys : List (List ℕ)) (all : List X) → map f ys ≡ all → i < length ys
    → HoldInOrder Holds (map f (take i ys)) keys
    → ((held : List (List ℕ)) → ¬ Holds (f (get_or ys i d)) held) → IsFirstKeyless Holds all (i + 1)
first_wrong_at {X} Holds f ys i d keys all same within h lacks =
    let P : List X → Type 0 = λ xs. IsFirstKeyless Holds xs (i + 1) in
    subst P same (first_wrong Holds f ys i (get_or ys i d) keys within (get_or_default ys i d (get_or ys i d) within) h lacks)
