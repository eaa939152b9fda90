-- What the checks of a message as a whole accept, and what they refuse.
use Rattle.std.proofs.Common.{◌≡◌, ◌≢◌, ◌⊎◌, ℕ, Bool, true, false, cond, ◌||◌, eqb, List, [], ◌∷◌, length, Result, Ok}
use Rattle.std.proofs.Common.{Err, refl, sym, ap, arith}
use Rattle.std.proofs.lemmas.Bool.Decides.{nat_tests}
use Rattle.swim_claim.specs.Details.{DetailsValue, IsAddress, IsVersions}
use Rattle.swim_wire.specs.declared.fault.WireFault.{WireFault}
use Rattle.swim_wire.specs.declared.fault.WireFault.TheVariants.{NameEmpty, BadAddress, BadVersions, Trailing}
use Rattle.swim_wire.specs.Reading.{checked, nothing_after, with_name, with_details}
use Rattle.swim_wire.proofs.Readings.{read, refused, read_value, read_rest}

abbrev pub passed : {A : Type 0} → A → Result A WireFault
passed x = Ok x

abbrev pub failed : (A : Type 0) → WireFault → Result A WireFault
failed A error = Err error

pub passed_is : {A : Type 0} (x y : A) → passed x ≡ passed y → y ≡ x
passed_is x y e = cc

-- a test with two outcomes
pub split : {A : Type 0} (b : Bool) (P : A → Type 0) (x y : A) → (b ≡ true → P x) → (b ≡ false → P y) → P (cond b x y)
split true P x y first other = first refl
split false P x y first other = other refl

pub checked_ok : {A : Type 0} (r : Result A WireFault) (mid : List ℕ) (x : A) (rest : List ℕ)
    → checked r mid ≡ read x rest → (r ≡ passed x) × (mid ≡ rest)
checked_ok (Ok y) mid x rest e = (ap passed (read_value y x mid rest e), read_rest y x mid rest e)
checked_ok (Err error) mid x rest e = absurd cc

pub checked_err : {A : Type 0} (r : Result A WireFault) (mid : List ℕ) (error : WireFault)
    → checked r mid ≡ refused A error → r ≡ failed A error
checked_err (Ok y) mid error e = absurd cc
checked_err (Err other) mid error e = cc

-- ---- with nothing after it

pub nothing_after_ok : {A : Type 0} (r : Result (A × List ℕ) WireFault) (x : A) → nothing_after r ≡ passed x → r ≡ read x []
nothing_after_ok (Ok (y, [])) x e = ap (λ z. read z []) (sym (passed_is y x e))
nothing_after_ok (Ok (y, byte ∷ rest)) x e = absurd cc
nothing_after_ok (Err error) x e = absurd cc

-- it is refused, or bytes follow it
pub nothing_after_err : {A : Type 0} (r : Result (A × List ℕ) WireFault) (error : WireFault)
    → nothing_after r ≡ failed A error → (P : Type 0)
    → (r ≡ refused A error → P) → ((x : A) (byte : ℕ) (rest : List ℕ) → r ≡ read x (byte ∷ rest) → Trailing ≡ error → P) → P
nothing_after_err (Ok (x, [])) error e P first more = absurd cc
nothing_after_err (Ok (x, byte ∷ rest)) error e P first more = more x byte rest refl cc
nothing_after_err {A} (Err other) error e P first more = first cc

-- ---- the name

pub with_name_ok : {A : Type 0} (name : List ℕ) (r : Result A WireFault) (x : A)
    → with_name name r ≡ passed x → (name ≢ []) × (r ≡ passed x)
with_name_ok [] r x e = absurd cc
with_name_ok (byte ∷ bytes) r x e = ((λ empty. cc), e)

pub with_name_again : {A : Type 0} (name : List ℕ) (r : Result A WireFault) → name ≢ [] → with_name name r ≡ r
with_name_again [] r named = absurd (named refl)
with_name_again (byte ∷ bytes) r named = refl

pub with_name_err : {A : Type 0} (name : List ℕ) (r : Result A WireFault) (error : WireFault) → with_name name r ≡ failed A error
    → (P : Type 0) → (name ≡ [] → NameEmpty ≡ error → P) → (name ≢ [] → r ≡ failed A error → P) → P
with_name_err [] r error e P empty named = empty refl cc
with_name_err (byte ∷ bytes) r error e P empty named = named (λ none. cc) e

-- ---- the details

one_of_true : (x a b : ℕ) → (eqb x a || eqb x b) ≡ true → (x ≡ a) ⊎ (x ≡ b)
one_of_true x a b e = grind (arith, nat_tests)

one_of_false : (x a b : ℕ) → (eqb x a || eqb x b) ≡ false → ¬ ((x ≡ a) ⊎ (x ≡ b))
one_of_false x a b e h = grind (arith, nat_tests)

one_of_again : (x a b : ℕ) → (x ≡ a) ⊎ (x ≡ b) → (eqb x a || eqb x b) ≡ true
one_of_again x a b h = grind (arith, nat_tests)

pub with_details_ok : {A : Type 0} (d : DetailsValue) (f : DetailsValue → A) (x : A) → with_details d f ≡ passed x
    → IsAddress d.addr × IsVersions d.vsn × (x ≡ f d)
with_details_ok {A} d f x = split address P _ _
    (λ a. split versions P _ _ (λ v e. (one_of_true (length d.addr) 4 16 a, one_of_true (length d.vsn) 0 6 v, is e)) (λ v e. absurd cc))
    (λ a e. absurd cc)
  where
    address : Bool
    address = eqb (length d.addr) 4 || eqb (length d.addr) 16

    versions : Bool
    versions = eqb (length d.vsn) 0 || eqb (length d.vsn) 6

    P : Result A WireFault → Type 0
    P r = r ≡ passed x → IsAddress d.addr × IsVersions d.vsn × (x ≡ f d)

    is : passed (f d) ≡ passed x → x ≡ f d
    is e = cc

pub with_details_again : {A : Type 0} (d : DetailsValue) (f : DetailsValue → A) → IsAddress d.addr
    → IsVersions d.vsn → with_details d f ≡ passed (f d)
with_details_again d f address versions =
    let a = one_of_again (length d.addr) 4 16 address in
    let v = one_of_again (length d.vsn) 0 6 versions in
    rw (a, v) refl

pub with_details_err : {A : Type 0} (d : DetailsValue) (f : DetailsValue → A) (error : WireFault) → with_details d f ≡ failed A error
    → (Q : Type 0) → ((¬ IsAddress d.addr) → BadAddress ≡ error → Q)
    → (IsAddress d.addr → (¬ IsVersions d.vsn) → BadVersions ≡ error → Q) → Q
with_details_err {A} d f error fails Q address_fails versions_fail = split address P _ _
    (λ a. split versions P _ _ (λ v e. absurd cc)
    (λ v e. versions_fail (one_of_true (length d.addr) 4 16 a)
    (one_of_false (length d.vsn) 0 6 v) cc))
    (λ a e. address_fails (one_of_false (length d.addr) 4 16 a) cc) fails
  where
    address : Bool
    address = eqb (length d.addr) 4 || eqb (length d.addr) 16

    versions : Bool
    versions = eqb (length d.vsn) 0 || eqb (length d.vsn) 6

    P : Result A WireFault → Type 0
    P r = r ≡ failed A error → Q
