-- Which broadcast is sent first.
use Rattle.std.proofs.Common.{◌≡◌, ℕ, ◌+◌, ◌<◌, ◌≤◌, ◌⊎◌, inl, inr, Bool, true, false, if◌then◌else◌, zero, suc, List, [], ◌∷◌, ◌++◌, slice_set, length, Option, None, Some, refl, sym, subst, ap, ◌∙◌, arith}
use Rattle.std.proofs.Math.Nat.{eq-or-lt_of_le}
use Rattle.std.proofs.lemmas.Option.{slice_get_within}
use Rattle.std.specs.List.{slice_get}
use Rattle.std.specs.Str.{bytes_eq}
use Rattle.memberlist_member.specs.declared.queue.Broadcast.{Broadcast}
use Rattle.memberlist_member.specs.Queues.{GoesBefore, IsAbout, IsBest, IsFirstAbout, put}
use Rattle.memberlist_member.specs.Queues.GoesBefore.{fewer, longer, newer}

pub not_true : (b : Bool) → ¬ (b ≡ true) → b ≡ false
not_true true no_way = absurd (no_way refl)
not_true false no_way = refl

pub not_itself : (a : Broadcast) → ¬ GoesBefore a a
not_itself a (fewer less) = absurd (omega (arith, less))
not_itself a (longer same less) = absurd (omega (arith, less))
not_itself a (newer same len less) = absurd (omega (arith, less))

pub through : (a b c : Broadcast) → GoesBefore a b → GoesBefore b c → GoesBefore a c
through a b c (fewer x) (fewer y) = fewer (omega (arith, x, y))
through a b c (fewer x) (longer y l) = fewer (omega (arith, x, y))
through a b c (fewer x) (newer y l i) = fewer (omega (arith, x, y))
through a b c (longer x k) (fewer y) = fewer (omega (arith, x, y))
through a b c (longer x k) (longer y l) = longer (x ∙ y) (omega (arith, k, l))
through a b c (longer x k) (newer y l i) = longer (x ∙ y) (omega (arith, k, l))
through a b c (newer x k j) (fewer y) = fewer (omega (arith, x, y))
through a b c (newer x k j) (longer y l) = longer (x ∙ y) (omega (arith, k, l))
through a b c (newer x k j) (newer y l i) = newer (x ∙ y) (k ∙ l) (omega (arith, i, j))

pub one : (waiting : List Broadcast) (at : ℕ) (b c : Broadcast) → slice_get waiting at ≡ Some b → slice_get waiting at ≡ Some c → c ≡ b
one waiting at b c is also = (let same : Some c ≡ Some b = sym also ∙ is in cc (same))

-- up to one more: either below, or at it
up_to : (P : ℕ → Type 0) (n : ℕ) → ((other : ℕ) → other < n → P other) → P n → (other : ℕ) → other < n + 1 → P other
up_to P n below at other less = cases (eq-or-lt_of_le (let le : other ≤ n = omega (arith, less) in le)) where
  cases : (other ≡ n) ⊎ (other < n) → P other
  cases (inl same) = subst P (sym same) at
  cases (inr lower) = below other lower

module _ (Can : Broadcast → Type 0) (waiting : List Broadcast) (index : ℕ) (b : Broadcast) (is : slice_get waiting index ≡ Some b) where
  -- it cannot be picked
  pub passed_over : (best : Option ℕ) → ¬ Can b → IsBest Can waiting index best → IsBest Can waiting (index + 1) best
  passed_over None cannot none = λ other c less. up_to (λ o. slice_get waiting o ≡ Some c → ¬ Can c) index
      (λ o lower. none o c lower)
      (λ there can. cannot (subst Can (one waiting index b c is there) can)) other less
  passed_over (Some i) cannot (f, at, f_can, first) = (
    f,
    at,
    f_can,
    λ other c less. up_to (λ o. slice_get waiting o ≡ Some c → Can c → ¬ GoesBefore c f) index
        (λ o lower. first o c lower)
        (λ there can. absurd (cannot (subst Can (one waiting index b c is there) can))) other less,
  )

  -- it is the first that can be picked
  pub first_found : Can b → IsBest Can waiting index None → IsBest Can waiting (index + 1) (Some index)
  first_found can none = (
    b,
    is,
    can,
    λ other c less. up_to (λ o. slice_get waiting o ≡ Some c → Can c → ¬ GoesBefore c b) index
        (λ o lower there c_can. absurd (none o c lower there c_can))
        (λ there c_can before. not_itself b (subst (λ x. GoesBefore x b) (one waiting index b c is there) before)) other less,
  )

  -- it goes before the one that was found
  pub goes_first : (i : ℕ) (f : Broadcast) → slice_get waiting i ≡ Some f → Can b → GoesBefore b f
      → IsBest Can waiting index (Some i) → IsBest Can waiting (index + 1) (Some index)
  goes_first i f at can before (g, there_g, g_can, first) =
      let same = one waiting i f g at there_g in (
        b,
        is,
        can,
        λ other c less. up_to (λ o. slice_get waiting o ≡ Some c → Can c → ¬ GoesBefore c b) index
            (λ o lower there c_can c_before. first o c lower there c_can
            (subst (λ x. GoesBefore c x) (sym same) (through c b f c_before before)))
            (λ there c_can c_before. not_itself b (subst (λ x. GoesBefore x b) (one waiting index b c is there) c_before)) other less,
      )

  -- it does not
  pub stays_behind : (i : ℕ) (f : Broadcast) → slice_get waiting i ≡ Some f → ¬ GoesBefore b f
      → IsBest Can waiting index (Some i) → IsBest Can waiting (index + 1) (Some i)
  stays_behind i f at behind (g, there_g, g_can, first) =
      let same = one waiting i f g at there_g in (
        g,
        there_g,
        g_can,
        λ other c less. up_to (λ o. slice_get waiting o ≡ Some c → Can c → ¬ GoesBefore c g) index
            (λ o lower. first o c lower)
            (λ there c_can c_before. behind (subst (λ x. GoesBefore x f) (one waiting index b c is there)
            (subst (λ x. GoesBefore c x) same c_before))) other less,
      )

-- ---- the broadcast about a member

pub not_about : (subject : List ℕ) (waiting : List Broadcast) (index : ℕ) (b : Broadcast) → slice_get waiting index ≡ Some b
    → bytes_eq b.subject.items subject ≡ false → ((other : ℕ) → other < index → ¬ IsAbout subject waiting other)
    → (other : ℕ) → other < index + 1 → ¬ IsAbout subject waiting other
not_about subject waiting index b is differs before = up_to (λ o. ¬ IsAbout subject waiting o) index before
    (λ about. let same = one waiting index b about.0 is about.1 in
    let its : bytes_eq b.subject.items subject ≡ true = subst (λ x. bytes_eq x.subject.items subject ≡ true) same about.2 in
    absurd (cc (differs, its)))

pub none_about : (subject : List ℕ) (waiting : List Broadcast) (count : ℕ) → count ≡ length waiting
    → ((other : ℕ) → other < count → ¬ IsAbout subject waiting other) → (other : ℕ) → ¬ IsAbout subject waiting other
none_about subject waiting count all none other about =
    let within = slice_get_within waiting other about.0 about.1 in
    none other (omega (arith, within, all)) about

-- ---- a broadcast is added

pub put_over : (b : Broadcast) (waiting : List Broadcast) (index : ℕ) → IsFirstAbout b.subject.items waiting index
    → slice_set waiting index b ≡ put b waiting
put_over b [] index (about, first) = absurd (cc (about.1))
put_over b (x ∷ xs) zero ((y, is, same), first) =
    let one_is : y ≡ x = cc in
    let here : bytes_eq x.subject.items b.subject.items ≡ true = subst (λ z. bytes_eq z.subject.items b.subject.items ≡ true) one_is same in
    sym (ap (λ e. if e then b ∷ xs else x ∷ put b xs) here)
put_over b (x ∷ xs) (suc index) (about, first) =
    let other : bytes_eq x.subject.items b.subject.items ≡ false =
    not_true (bytes_eq x.subject.items b.subject.items)
    (λ same. first zero (let some : 0 < suc index = omega arith in some) (x, refl, same)) in
    ap (λ l. x ∷ l) (put_over b xs index (about, λ o below has. first (suc o) (omega (arith, below)) has))
    ∙ sym (ap (λ e. if e then b ∷ xs else x ∷ put b xs) other)

pub put_last : (b : Broadcast) (waiting : List Broadcast) → ((other : ℕ) → ¬ IsAbout b.subject.items waiting other)
    → waiting ++ b ∷ [] ≡ put b waiting
put_last b [] none = refl
put_last b (x ∷ xs) none =
    let other : bytes_eq x.subject.items b.subject.items ≡ false =
    not_true (bytes_eq x.subject.items b.subject.items) (λ same. none zero (x, refl, same)) in
    ap (λ l. x ∷ l) (put_last b xs (λ o has. none (suc o) has))
    ∙ sym (ap (λ e. if e then b ∷ xs else x ∷ put b xs) other)
