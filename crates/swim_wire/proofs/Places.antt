-- The indices of keys in a layout.
use Rattle.std.proofs.Common.{◌≡◌, ℕ, ◌+◌, Bool, true, false, not, List, [], ◌∷◌, map, refl, ap, cond}
use Rattle.std.proofs.lemmas.List.{length-map}
use Rattle.std.specs.List.{position, prefix_len}
use Rattle.std.specs.Str.{bytes_eq}
use Rattle.swim_wire.specs.declared.layout.Field.{Field}
use Rattle.swim_wire.specs.Keys.{key_text}
use Rattle.swim_wire.specs.Reading.{place_of}
use Rattle.swim_wire.specs.Slots.{layout_of}

pub prefix_len-map : {X Y : Type 0} (f : X → Y) (p : Y → Bool) (xs : List X) → prefix_len p (map f xs) ≡ prefix_len (λ x. p (f x)) xs
prefix_len-map f p [] = refl
prefix_len-map f p (x ∷ xs) = elim (p (f x)) as
    (λ b. cond b (1 + prefix_len p (map f xs)) 0 ≡ cond b (1 + prefix_len (λ x. p (f x)) xs) 0) [
      | true ↦ ap (λ n. 1 + n) (prefix_len-map f p xs)
      | false ↦ refl
    ]

pub position-map : {X Y : Type 0} (f : X → Y) (p : Y → Bool) (xs : List X) → position p (map f xs) ≡ position (λ x. p (f x)) xs
position-map f p xs = rw (prefix_len-map f (λ y. not (p y)) xs, length-map xs f) refl

-- a key of the code's layout, at its index
pub place_of-layout : (fields : List Field) (key : List ℕ)
    → place_of (layout_of fields) key ≡ position (λ field. bytes_eq (key_text field.key) key) fields
place_of-layout fields key = position-map (λ field. (key_text field.key, field.limit)) (λ field. bytes_eq field.0 key) fields
