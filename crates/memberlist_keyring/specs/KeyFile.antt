-- Which keys a file holds, and why one is refused.
use Rattle.std.specs.Prelude.{◌≡◌, ◌≢◌, ◌⊎◌, ℕ, ◌+◌, ◌==◌, List, [], ◌∷◌, ◌++◌, length, map, Some, IsUtf8}
use Rattle.std.specs.List.{All, slice_split}
use Rattle.std.specs.Str.Lines.{strip_carriage_return}
use Rattle.base64.specs.Engines.{standard}
use Rattle.base64.specs.GeneralPurpose.{IsBytes, encode_of}
use Rattle.serde_json.specs.Data.{Data, string, array}
use Rattle.serde_json.specs.Read.{read as read_text}
use Rattle.serde_json.specs.View.{items_of}
use Rattle.memberlist_cipher.specs.Encryption.{IsKey}
use Rattle.memberlist_keyring.specs.declared.fault.KeyFileFault.{KeyFileFault}
use Rattle.memberlist_keyring.specs.declared.fault.KeyFileFault.TheVariants.{Line, Item, NotList, Memory}

-- The text is the base64 of this key, in the standard alphabet and padded (RFC 4648).
pub record IsKeyText (text key : List ℕ) : Type 0 where
  pub good : IsKey key
  pub bytes : IsBytes key
  pub written : text ≡ encode_of standard key

-- the number of characters is that of a key's base64
abbrev pub HasKeySize : List ℕ → Type 0
HasKeySize text = (length text ≡ 24) ⊎ (length text ≡ 32) ⊎ (length text ≡ 44)

-- the keys that these hold, one after another
abbrev pub HoldInOrder : {X : Type 0} → (X → List (List ℕ) → Type 0) → List X → List (List ℕ)
    → Type 0
HoldInOrder Holds [] keys = keys ≡ []
HoldInOrder Holds (x ∷ xs) keys =
    (first : List (List ℕ)) × (others : List (List ℕ)) × Holds x first
    × HoldInOrder Holds xs others × (keys ≡ first ++ others)

-- An empty line holds no key, every other one a key. One carriage return at the end of a line is
-- ignored.
abbrev pub LineHolds : List ℕ → List (List ℕ) → Type 0
LineHolds line keys =
    ((strip_carriage_return line ≡ []) × (keys ≡ []))
    ⊎ ((key : List ℕ) × IsKeyText (strip_carriage_return line) key × (keys ≡ key ∷ []))

-- the lines between line feeds
abbrev pub lines_of : List ℕ → List (List ℕ)
lines_of text = slice_split (λ b. b == 10) text

-- a text in JSON holds a key
abbrev pub ItemHolds : Data → List (List ℕ) → Type 0
ItemHolds d keys =
    (text : List ℕ) × (key : List ℕ) × (d ≡ string text) × IsKeyText text key × (keys ≡ key ∷ [])

-- a list in JSON, and its items
abbrev pub IsJsonList : List ℕ → List Data → Type 0
IsJsonList text items = IsUtf8 text × (read_text text ≡ Some (array (items_of items)))

-- a space, a tab, a line feed or a carriage return
abbrev pub IsBlank : ℕ → Type 0
IsBlank b = (b ≡ 32) ⊎ (b ≡ 9) ⊎ (b ≡ 10) ⊎ (b ≡ 13)

-- after blanks the text starts with `[`
abbrev pub IsListText : List ℕ → Type 0
IsListText text =
    (front : List ℕ) × (others : List ℕ) × (text ≡ front ++ 91 ∷ others) × All IsBlank front

-- A text that starts with `[` is a list of texts in JSON, each of a key; any other text is lines.
abbrev pub IsKeyFile : List ℕ → List (List ℕ) → Type 0
IsKeyFile text keys =
    (IsListText text × (items : List Data) × IsJsonList text items
    × HoldInOrder ItemHolds items keys)
    ⊎ (¬ IsListText text × HoldInOrder LineHolds (lines_of text) keys)

-- The first that holds nothing has this number, counted from 1.
pub record IsFirstKeyless {X : Type 0} (Holds : X → List (List ℕ) → Type 0) (xs : List X)
    (number : ℕ) : Type 0 where
  pub before : List X
  pub wrong : X
  pub after : List X
  pub keys : List (List ℕ)
  pub parts : xs ≡ before ++ wrong ∷ after
  pub place : number ≡ length before + 1
  pub right : HoldInOrder Holds before keys
  pub nothing : (held : List (List ℕ)) → ¬ Holds wrong held

-- A line has as many characters as a key's, and those before it are right.
pub record IsKeySized (lines : List (List ℕ)) : Type 0 where
  pub before : List (List ℕ)
  pub line : List ℕ
  pub after : List (List ℕ)
  pub keys : List (List ℕ)
  pub parts : lines ≡ before ++ line ∷ after
  pub right : HoldInOrder LineHolds before keys
  pub sized : HasKeySize (strip_carriage_return line)

-- a wrong item that is a text
pub record IsWrongText (items : List Data) (number : ℕ) : Type 0 where
  pub first : IsFirstKeyless ItemHolds items number
  pub text : List ℕ
  pub is : first.wrong ≡ string text

-- why the items of a list are refused
abbrev pub ItemsCause : KeyFileFault → List Data → Type 0
ItemsCause (Line number) items = ⊥
ItemsCause (Item number) items = IsWrongText items number
ItemsCause NotList items = (texts : List (List ℕ)) → items ≢ map string texts
ItemsCause Memory items = Unit {0}

-- why a file is refused; for lines, memory is requested only if one may be a key's
abbrev pub KeyFileCause : KeyFileFault → List ℕ → Type 0
KeyFileCause (Line number) text =
    ¬ IsListText text × IsFirstKeyless LineHolds (lines_of text) number
KeyFileCause (Item number) text =
    IsListText text × (items : List Data) × IsJsonList text items × IsWrongText items number
KeyFileCause NotList text =
    IsListText text × ((texts : List (List ℕ)) → ¬ IsJsonList text (map string texts))
KeyFileCause Memory text = IsListText text ⊎ IsKeySized (lines_of text)
