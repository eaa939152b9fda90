-- What the first and the second of two readings return.
use Rattle.std.proofs.Common.{◌≡◌, ℕ, List, ◌++◌, Option, Some, None, Result, Ok, Err, refl, sym, ap, ◌∙◌, append_assoc}
use Rattle.swim_pack.specs.declared.fault.PackFault.{PackFault}
use Rattle.swim_pack.specs.Composing.{then_read, some_or, lift_error}
use Rattle.swim_wire.specs.declared.fault.WireFault.{WireFault}
use Rattle.swim_wire.specs.Reading.{Reading}

abbrev pub read : {A : Type 0} → A → List ℕ → Result (A × List ℕ) WireFault
read value rest = Ok (value, rest)

abbrev pub refused : (A : Type 0) → WireFault → Result (A × List ℕ) WireFault
refused A error = Err error

abbrev pub pair_of : {A : Type 0} → A → List ℕ → A × List ℕ
pair_of x r = (x, r)

read_pair : {A : Type 0} (x y : A) (r s : List ℕ) → read x r ≡ read y s → pair_of x r ≡ pair_of y s
read_pair x y r s e = cc

pub read_value : {A : Type 0} (x y : A) (r s : List ℕ) → read x r ≡ read y s → x ≡ y
read_value {A} x y r s e = ap (λ (p : A × List ℕ). p.0) (read_pair x y r s e)

pub read_rest : {A : Type 0} (x y : A) (r s : List ℕ) → read x r ≡ read y s → r ≡ s
read_rest {A} x y r s e = ap (λ (p : A × List ℕ). p.1) (read_pair x y r s e)

-- both readings returned a value
pub then_ok : {A B : Type 0} (r : Result (A × List ℕ) WireFault) (next : A
    → Reading B) (y : B) (rest : List ℕ) → then_read next r ≡ read y rest
    → (x : A) × (mid : List ℕ) × (r ≡ read x mid) × (next x mid ≡ read y rest)
then_ok (Ok r) next y rest e = (r.0, r.1, refl, e)
then_ok (Err error) next y rest e = absurd cc

-- one of two readings refused
pub then_err : {A B : Type 0} (r : Result (A × List ℕ) WireFault) (next : A → Reading B) (error : WireFault)
    → then_read next r ≡ refused B error
    → (P : Type 0) → (r ≡ refused A error → P) → ((x : A) (mid : List ℕ) → r ≡ read x mid → next x mid ≡ refused B error → P) → P
then_err {A} (Ok r) next error e P first second = second r.0 r.1 refl e
then_err {A} (Err other) next error e P first second = first cc

pub lift_ok : {A : Type 0} (f : PackFault → WireFault) (r : Result (A × List ℕ) PackFault) (x : A) (rest : List ℕ)
    → lift_error f r ≡ read x rest → r ≡ Ok (x, rest)
lift_ok f (Ok r) x rest e = cc
lift_ok f (Err error) x rest e = absurd cc

pub lift_err : {A : Type 0} (f : PackFault → WireFault) (r : Result (A × List ℕ) PackFault) (error : WireFault)
    → lift_error f r ≡ refused A error → (pack : PackFault) × (error ≡ f pack)
lift_err f (Ok r) error e = absurd cc
lift_err f (Err pack) error e = (pack, cc)

pub some_ok : {A : Type 0} (error : WireFault) (o : Option A) (mid : List ℕ) (x : A) (rest : List ℕ)
    → some_or error o mid ≡ read x rest → (o ≡ Some x) × (mid ≡ rest)
some_ok error None mid x rest e = absurd cc
some_ok error (Some y) mid x rest e = (ap Some (read_value y x mid rest e), read_rest y x mid rest e)

-- ---- what was consumed from the start

-- the same text, and the same rest under another name
pub parts_to : {bytes mid rest : List ℕ} (text : List ℕ) → bytes ≡ text ++ mid → mid ≡ rest → bytes ≡ text ++ rest
parts_to text first same = first ∙ ap (λ (r : List ℕ). text ++ r) same

-- two texts, one after the other
pub parts_joined : {bytes mid : List ℕ} (front back rest : List ℕ) → bytes ≡ front ++ mid
    → mid ≡ back ++ rest → bytes ≡ (front ++ back) ++ rest
parts_joined front back rest first second = first ∙ ap (λ (r : List ℕ). front ++ r) second ∙ sym (append_assoc front back rest)
