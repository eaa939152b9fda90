-- The first name above another one.
use Rattle.std.proofs.Common.{◌≡◌, ℕ, zero, suc, ◌+◌, ◌<◌, ◌≤◌, true, false, List, [], ◌∷◌, length, refl, ap, subst}
use Rattle.std.proofs.Common.{◌∙◌, slice_get, inl, inr, arith}
use Rattle.std.specs.Ordering.{is_lt}
use Rattle.std.specs.declared.cmp.Ordering.TheVariants.{Less, Equal, Greater}
use Rattle.std.proofs.lemmas.Bool.{cases_lt}
use Rattle.std.proofs.lemmas.Cmp.{nat_list_cmp_total, tied_itself}
use Rattle.swim_claim.specs.Claim.{name_of}
use Rattle.swim_table.specs.Standing.{Standing}
use Rattle.swim_table.specs.Table.{Entries, name_cmp, after, IsAscending}
use Rattle.swim_table.specs.Place.{name_at, IsAt, IsGapFor}
use Rattle.swim_table.proofs.Place.{turned, less_at}

-- the names above this one begin at index i
record IsFrom (table : Entries) (name : List ℕ) (i : ℕ) : Type 0 where
  pub not_above : (j : ℕ) (d : Standing) → j < i → j < length table → is_lt (name_cmp name (name_at table j d)) ≡ false
  pub above : (j : ℕ) (d : Standing) → i ≤ j → j < length table → is_lt (name_cmp name (name_at table j d)) ≡ true

first_from : (table : Entries) (name : List ℕ) (i : ℕ) → IsFrom table name i → slice_get table i ≡ after table name
first_from [] name i from = refl
first_from (entry ∷ rest) name zero from =
    let here : is_lt (name_cmp name (name_of entry.top)) ≡ true = from.above 0 entry (omega arith) (omega arith) in
    rw here refl
first_from (entry ∷ rest) name (suc i) from =
    let here : is_lt (name_cmp name (name_of entry.top)) ≡ false = from.not_above 0 entry (omega arith) (omega arith) in
    rw here (first_from rest name i (record {
      not_above = λ j d below in_range. from.not_above (suc j) d (omega arith) (omega arith);
      above = λ j d up in_range. from.above (suc j) d (omega arith) (omega arith);
    }))

pub after_gap : (table : Entries) (name : List ℕ) (i : ℕ) → IsGapFor table name i → slice_get table i ≡ after table name
after_gap table name i gap = first_from table name i (record {
  not_above = λ j d below in_range. ap is_lt (turned (name_at table j d) name Less (gap.smaller_before j d below));
  above = λ j d up in_range. ap is_lt (turned (name_at table j d) name Greater (gap.greater_after j d up in_range));
})

pub after_at : (table : Entries) (name : List ℕ) (i : ℕ) → IsAscending table → IsAt table name i
    → slice_get table (i + 1) ≡ after table name
after_at table name i up at = first_from table name (i + 1) (record {
  not_above = λ j d below in_range. elim (cases_lt j i) [
    | inl less ↦ ap is_lt (subst (λ n. name_cmp n (name_at table j d) ≡ Greater) (at.has_name d)
        (turned (name_at table j d) (name_at table i d) Less (less_at table j i d up less at.in_range)))
    | inr same ↦
        let is : j ≡ i = omega (arith, below, same) in
        let tied : name_cmp name name ≡ Equal = tied_itself nat_list_cmp_total name in
        ap is_lt (ap (λ (k : ℕ). name_cmp name (name_at table k d)) is ∙ ap (name_cmp name) (at.has_name d) ∙ tied)
  ];
  above = λ j d above in_range. ap is_lt
      (subst (λ n. name_cmp n (name_at table j d) ≡ Less) (at.has_name d)
      (less_at table i j d up (omega (arith, above)) in_range));
})
