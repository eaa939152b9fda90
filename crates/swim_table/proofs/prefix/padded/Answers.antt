use Rattle.std.proofs.Common.{◌≡◌, ℕ, zero, suc, ◌+◌, ◌-◌, ◌<◌, ◌++◌, min, List, length, take, drop, replicate, get_or}
use Rattle.std.proofs.Common.{inl, inr, refl, sym, ap, ◌∙◌, arith, get_or-drop, length-take}
use Rattle.std.proofs.lemmas.Bool.{cases_lt}
use Rattle.std.proofs.lemmas.List.{get_or_append_left, get_or-append_right, get_or-take, get_or_past}
use Rattle.swim_table.proofs.prefix.padded.Goals as goal

zeros : (n i : ℕ) → ◌≡◌ {A = ℕ} (get_or (replicate n 0) i 0) 0
zeros zero i = refl
zeros (suc n) zero = refl
zeros (suc n) (suc i) = zeros n i

-- the bytes that are there, and then zeros
padded : (front name : List ℕ) (len k : ℕ) → front ≡ take len name → len ≡ min (length name) 16 → k < 16
    → ◌≡◌ {A = ℕ} (get_or (front ++ drop len (replicate 16 0)) k 0) (get_or name k 0)
padded front name len k is fits high =
    let long : length front ≡ len = ap length is ∙ length-take len name ∙ omega arith in
    elim (cases_lt k len) [
      | inl low ↦ get_or_append_left front (drop len (replicate 16 0)) 0 k (omega arith) ∙ ap
          (λ l. get_or l k 0) is ∙ get_or-take len name k 0 low
      | inr past ↦
          get_or-append_right front (drop len (replicate 16 0)) len k 0 long past
          ∙ (get_or-drop len (replicate 16 0) (k - len) 0 ∙ zeros 16 (len + (k - len)))
          ∙ sym (get_or_past name k 0 (omega arith))
    ]

pub returns : goal.returns
returns c = λ k high. padded c.copy_from_slice.new.self c.args.name.now c.min-len.result k
    c.copy_from_slice.ensures.after c.min-len.ensures high
