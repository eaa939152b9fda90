-- The steps of reading a list of values.
use Rattle.std.proofs.Common.{◌≡◌, ℕ, suc, List, [], ◌∷◌, ◌++◌, Result, Ok, Err, refl, sym, ap, ◌∙◌, append_assoc, append-nil, map}
use Rattle.std.proofs.lemmas.List.{map-append}
use Rattle.swim_pack.specs.Composing.{gives, then_read}
use Rattle.serf_message.specs.declared.fault.SerfFault.{SerfFault}
use Rattle.serf_message.specs.Reading.{Reading, without_rest}
use Rattle.serf_message.specs.Many.{many_at}

abbrev pub Many : Type 0 → Type 0
Many A = Result (List A × List ℕ) SerfFault

-- these values before those that are read
abbrev pub before : {A : Type 0} → List A → Many A → Many A
before front (Ok read) = Ok (front ++ read.0, read.1)
before front (Err error) = Err error

before_none : {A : Type 0} (r : Many A) → before [] r ≡ r
before_none (Ok read) = refl
before_none (Err error) = refl

before_both : {A : Type 0} (front back : List A) (r : Many A) → before front (before back r) ≡ before (front ++ back) r
before_both front back (Ok read) = ap (λ (xs : List _). Ok (xs, read.1)) (sym (append_assoc front back read.0))
before_both front back (Err error) = refl

first_of_many : {A : Type 0} (first : A) (r : Many A) → then_read (λ others. gives (first ∷ others)) r ≡ before (first ∷ []) r
first_of_many first (Ok read) = refl
first_of_many first (Err error) = refl

-- one value
one_of_many : {A : Type 0} (reading : Reading A) (n next : ℕ) (first : A) (bytes after : List ℕ)
    → n ≡ suc next → reading bytes ≡ Ok (first, after)
    → many_at reading n bytes ≡ before (first ∷ []) (many_at reading next after)
unfolding many_at
one_of_many reading n next first bytes after e read = rw (e, read) (first_of_many first (many_at reading next after))

-- a value that is refused
bad_of_many : {A : Type 0} (reading : Reading A) (n next : ℕ) (bytes : List ℕ) (error : SerfFault)
    → n ≡ suc next → reading bytes ≡ Err error
    → many_at reading n bytes ≡ Err error
unfolding many_at
bad_of_many reading n next bytes error e read = rw (e, read) refl

-- before the first value
pub none_yet : {A : Type 0} (reading : Reading A) (n m : ℕ) (start : List ℕ) (front : List A) → front ≡ []
    → m ≡ n → many_at reading n start ≡ before front (many_at reading m start)
none_yet reading n m start front none e = rw (none, e) (sym (before_none (many_at reading n start)))

-- one more value behind those before it
pub one_more : {A : Type 0} (reading : Reading A) (n k next : ℕ) (front more : List A) (first : A) (start bytes after : List ℕ)
    → many_at reading n start ≡ before front (many_at reading k bytes) → k ≡ suc next → more ≡ front ++ first ∷ []
    → reading bytes ≡ Ok (first, after) → many_at reading n start ≡ before more (many_at reading next after)
one_more reading n k next front more first start bytes after e s m read =
    rw m (e ∙ ap (before front) (one_of_many reading k next first bytes after s read)
    ∙ before_both front (first ∷ []) (many_at reading next after))

-- one value too many
pub bad_one : {A : Type 0} (reading : Reading A) (n k next : ℕ) (front : List A) (error : SerfFault) (start bytes : List ℕ)
    → many_at reading n start ≡ before front (many_at reading k bytes) → k ≡ suc next
    → reading bytes ≡ Err error → without_rest (many_at reading n start) ≡ Err error
bad_one reading n k next front error start bytes e s read =
    ap without_rest (e ∙ ap (before front) (bad_of_many reading k next bytes error s read))

-- all values
pub all_read : {A : Type 0} (reading : Reading A) (n k : ℕ) (front : List A) (start rest : List ℕ)
    → many_at reading n start ≡ before front (many_at reading k rest) → k ≡ 0 → without_rest (many_at reading n start) ≡ Ok front
unfolding many_at
all_read reading n k front start rest e none =
    ap without_rest (e ∙ ap (λ (i : ℕ). before front (many_at reading i rest)) none) ∙ ap (λ (xs : List _). Ok xs) (append-nil front)

-- one value too many, and what follows
pub bad_many : {A : Type 0} (reading : Reading A) (n k next : ℕ) (front : List A) (error : SerfFault) (start bytes : List ℕ)
    → many_at reading n start ≡ before front (many_at reading k bytes) → k ≡ suc next
    → reading bytes ≡ Err error → many_at reading n start ≡ Err error
bad_many reading n k next front error start bytes e s read = e ∙ ap (before front) (bad_of_many reading k next bytes error s read)

-- all values, and what follows
pub many_read : {A : Type 0} (reading : Reading A) (n k : ℕ) (front : List A) (start rest : List ℕ)
    → many_at reading n start ≡ before front (many_at reading k rest) → k ≡ 0 → many_at reading n start ≡ Ok (front, rest)
unfolding many_at
many_read reading n k front start rest e none =
    e ∙ ap (λ (i : ℕ). before front (many_at reading i rest)) none ∙ ap (λ (xs : List _). Ok (xs, rest)) (append-nil front)

-- what is seen of one more value
pub mapped_more : {X A : Type 0} (view : X → A) (xs ys : List X) (x : X) → ys ≡ xs ++ x ∷ [] → map view ys ≡ map view xs ++ view x ∷ []
mapped_more view xs ys x e = ap (map view) e ∙ map-append view xs (x ∷ [])
