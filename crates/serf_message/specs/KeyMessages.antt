-- The messages about keys that queries and their responses carry (keymanager.go, internal_query.go).
use Rattle.std.specs.Prelude.{ℕ, ◌<◌, ◌^◌, ◌==◌, Bool, List, [], ◌∷◌, ◌++◌, length, map, Result, Ok, if◌then◌else◌}
use Rattle.std.specs.List.{flat_map}
use Rattle.swim_pack.specs.Spelling.{raw_text}
use Rattle.serf_message.specs.declared.fault.SerfFault.{SerfFault}
use Rattle.serf_message.specs.declared.key_messages.KeyResponse.{KeyResponse}
use Rattle.serf_message.specs.declared.layout.Key.TheVariants as keys
use Rattle.serf_message.specs.Layouts.{key_request_layout, key_response_layout}
use Rattle.serf_message.specs.Messages.{with_fields}
use Rattle.serf_message.specs.Reading.{and_then, body_of, text_at}
use Rattle.serf_message.specs.Many.{listed}
use Rattle.serf_message.specs.Slots.{Slots, raw_in, flag_in}
use Rattle.serf_message.specs.Writing.{Spelled, Entry, entries_text, list_len_text, IsShortList}

-- Serf's nodeKeyResponse
pub record KeyResponseValue : Type 0 where
  pub result : Bool
  pub message : List ℕ
  pub keys : List (List ℕ)
  pub primary_key : List ℕ

abbrev pub key_response_value : KeyResponse → KeyResponseValue
key_response_value m = record {
  result = m.result;
  message = m.message.items;
  keys = map (λ v. v.items) m.keys.items;
  primary_key = m.primary_key.items;
}

-- the key of a request
unfoldable pub key_request_after : List ℕ → Result (List ℕ) SerfFault
key_request_after body = with_fields key_request_layout (λ slots. Ok (raw_in slots 0)) body

-- a key request: type 7 and its field
abbrev pub key_request_of : List ℕ → Result (List ℕ) SerfFault
key_request_of bytes = and_then (body_of 7 bytes) key_request_after

-- the response of these fields, if its keys are a list of texts
unfoldable pub key_response_from : Slots → Result KeyResponseValue SerfFault
key_response_from slots = and_then (listed text_at (raw_in slots 2)) (λ texts.
    Ok (record {
      result = flag_in slots 0;
      message = raw_in slots 1;
      keys = texts;
      primary_key = raw_in slots 3;
    }))

unfoldable pub key_response_after : List ℕ → Result KeyResponseValue SerfFault
key_response_after body = with_fields key_response_layout key_response_from body

-- a key response: type 8 and its fields
abbrev pub key_response_of : List ℕ → Result KeyResponseValue SerfFault
key_response_of bytes = and_then (body_of 8 bytes) key_response_after

-- ---- what is written

abbrev pub key_request_bytes : List ℕ → List ℕ
key_request_bytes key = 7 ∷ entries_text ((keys.Key, Spelled.bytes key) ∷ [])

-- a list of texts, or nil for none
abbrev pub texts_text : List (List ℕ) → List ℕ
texts_text xs = if length xs == 0 then 0xc0 ∷ [] else list_len_text (length xs) ++ flat_map raw_text xs

abbrev pub key_response_entries : KeyResponseValue → List Entry
key_response_entries m =
    (keys.Keys, Spelled.whole (texts_text m.keys)) ∷ (keys.Message, Spelled.text m.message)
    ∷ (keys.PrimaryKey, Spelled.text m.primary_key) ∷ (keys.Result, Spelled.flag m.result) ∷ []

abbrev pub key_response_bytes : KeyResponseValue → List ℕ
key_response_bytes m = 8 ∷ entries_text (key_response_entries m)

-- the texts of a key response are short enough for a length in two bytes
pub record IsShortKeyResponse (m : KeyResponseValue) : Type 0 where
  pub message : length m.message < 2 ^ 16
  pub keys : IsShortList m.keys
  pub primary_key : length m.primary_key < 2 ^ 16
