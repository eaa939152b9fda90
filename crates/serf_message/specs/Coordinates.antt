-- Network coordinates, and their reading from the payload of an ack (ping_delegate.go).
use Rattle.std.specs.Prelude.{ℕ, ◌<◌, ◌^◌, ◌==◌, List, [], ◌∷◌, ◌++◌, length, Result, Ok, Err, if◌then◌else◌}
use Rattle.std.specs.List.{AllByRecursion, flat_map}
use Rattle.serf_message.specs.declared.fault.SerfFault.{SerfFault}
use Rattle.serf_message.specs.declared.fault.SerfFault.TheVariants.{Ended, WrongVersion}
use Rattle.serf_message.specs.declared.coordinate.Coordinate.{Coordinate}
use Rattle.serf_message.specs.declared.layout.Key.TheVariants as keys
use Rattle.serf_message.specs.Layouts.{coordinate_layout}
use Rattle.serf_message.specs.Messages.{with_fields}
use Rattle.serf_message.specs.Reading.{and_then, float_at}
use Rattle.serf_message.specs.Many.{listed}
use Rattle.serf_message.specs.Slots.{Slots, huge_in, raw_in}
use Rattle.serf_message.specs.Writing.{Spelled, Entry, entries_text, list_len_text, float_text}

-- Serf's coordinate.Coordinate: the bits of its numbers
pub record CoordinateValue : Type 0 where
  pub vec : List ℕ
  pub error : ℕ
  pub adjustment : ℕ
  pub height : ℕ

abbrev pub coordinate_value : Coordinate → CoordinateValue
coordinate_value c = record {
  vec = c.vec.items;
  error = c.error;
  adjustment = c.adjustment;
  height = c.height;
}

-- the coordinate of these fields, if its vector is a list of numbers with a floating point
unfoldable pub coordinate_from : Slots → Result CoordinateValue SerfFault
coordinate_from slots = and_then (listed float_at (raw_in slots 0)) (λ vec.
    Ok (record {
      vec = vec;
      error = huge_in slots 1;
      adjustment = huge_in slots 2;
      height = huge_in slots 3;
    }))

unfoldable pub coordinate_after : List ℕ → Result CoordinateValue SerfFault
coordinate_after body = with_fields coordinate_layout coordinate_from body

-- the coordinate in a payload: version 1 and its fields
abbrev pub coordinate_of : List ℕ → Result CoordinateValue SerfFault
coordinate_of [] = Err Ended
coordinate_of (first ∷ body) = if first == 1 then coordinate_after body else Err (WrongVersion first)

-- the list of these numbers
abbrev pub floats_text : List ℕ → List ℕ
floats_text vec = list_len_text (length vec) ++ flat_map float_text vec

abbrev pub coordinate_entries : CoordinateValue → List Entry
coordinate_entries c =
    (keys.Adjustment, Spelled.float c.adjustment) ∷ (keys.Error, Spelled.float c.error)
    ∷ (keys.Height, Spelled.float c.height) ∷ (keys.Vec, Spelled.whole (floats_text c.vec)) ∷ []

-- the payload with this coordinate
abbrev pub coordinate_bytes : CoordinateValue → List ℕ
coordinate_bytes c = 1 ∷ entries_text (coordinate_entries c)

-- the numbers of a coordinate are bits of 64, and few enough for a length in two bytes
pub record IsCoordinateInRange (c : CoordinateValue) : Type 0 where
  pub few : length c.vec < 2 ^ 16
  pub vec : AllByRecursion (λ v. v < 2 ^ 64) c.vec
  pub error : c.error < 2 ^ 64
  pub adjustment : c.adjustment < 2 ^ 64
  pub height : c.height < 2 ^ 64
