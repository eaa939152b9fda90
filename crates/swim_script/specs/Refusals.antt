-- Why a line is refused, and what is reported about it. Words are read from left to right, and the
-- first wrong one counts.
use Rattle.std.specs.Prelude.{◌≡◌, ◌≢◌, ◌⊎◌, ℕ, ◌+◌, ◌<◌, ◌≤◌, Bool, true, false, ◌||◌, List, [], ◌∷◌, ◌++◌, None, length, codes, ◌==◌}
use Rattle.std.specs.Str.Lines.{strip_carriage_return}
use Rattle.percent_encoding.specs.Percent.{percent_decode}
use Rattle.swim_claim.specs.Details.{DetailsValue, IsAddress, IsVersions}
use Rattle.swim_claim.specs.Limits.{max_meta_len, max_name_len}
use Rattle.swim_claim.specs.Name.{IsLegalName}
use Rattle.swim_sync.specs.declared.event.Event.{Event}
use Rattle.swim_program.specs.declared.report.Place.{Place}
use Rattle.swim_program.specs.declared.report.Place.TheVariants.{Line}
use Rattle.swim_program.specs.declared.report.What.{What}
use Rattle.swim_program.specs.declared.report.What.TheVariants.{Refused, Device, Memory}
use Rattle.swim_program.specs.Lines.{input_lines}
use Rattle.swim_program.specs.Report.{TellsDatagram}
use Rattle.swim_script.specs.declared.keyword.Keyword.{Keyword}
use Rattle.swim_script.specs.declared.keyword.Keyword.TheVariants as key
use Rattle.swim_script.specs.Script.{Start, Decimal, HexBytes, NodeNumber, ScriptOf, words}

-- ---- which faults

-- the fault is that of an event that is refused: TooManyRecords, NoSuchNode or SameNode
abbrev pub is_of_event : ℕ → Bool
is_of_event number = (number == 23 || number == 26) || number == 27

-- it is not the fault of an event, nor that of a device
abbrev pub IsOfReading : What → Type 0
IsOfReading (Refused number found) = is_of_event number ≡ false
IsOfReading Device = ⊥
IsOfReading Memory = Unit {0}

-- ---- one word

-- the word is not a number that may be in this place (31)
abbrev pub NoNumber : ℕ → List ℕ → What → Type 0
NoNumber most word what = ((n : ℕ) → ¬ Decimal most word n) × (what ≡ Refused 31 None)

-- the word is not hexadecimal (30)
abbrev pub NoBytes : List ℕ → What → Type 0
NoBytes word what = ((bytes : List ℕ) → ¬ HexBytes word bytes) × (what ≡ Refused 30 None)

-- the name is empty (11) or too long (12)
abbrev pub NoName : List ℕ → What → Type 0
NoName name what = ((name ≡ []) × (what ≡ Refused 11 None))
    ⊎ ((max_name_len < length name) × (what ≡ Refused 12 None))

-- the address is invalid (13), or else the metadata is too long (14), or else the versions are
-- invalid (15)
abbrev pub NoDetails : DetailsValue → What → Type 0
NoDetails details what = ((¬ IsAddress details.addr) × (what ≡ Refused 13 None))
    ⊎ (IsAddress details.addr × (max_meta_len < length details.meta) × (what ≡ Refused 14 None))
    ⊎ (IsAddress details.addr × (length details.meta ≤ max_meta_len) × (¬ IsVersions details.vsn)
    × (what ≡ Refused 15 None))

-- ---- the words of a line

-- One of the words after `node` is wrong, and those before it are right; or all are right, and the
-- name is invalid; or the name is valid, and the details are invalid.
pub data NoNode (name addr port meta vsn inc : List ℕ) (what : What) : Type 0 where
  no_addr : NoBytes addr what → NoNode name addr port meta vsn inc what
  no_port : (a : List ℕ) → HexBytes addr a → NoNumber 65535 port what
      → NoNode name addr port meta vsn inc what
  no_meta : (a : List ℕ) (p : ℕ) → HexBytes addr a → Decimal 65535 port p → NoBytes meta what
      → NoNode name addr port meta vsn inc what
  no_vsn : (a m : List ℕ) (p : ℕ) → HexBytes addr a → Decimal 65535 port p → HexBytes meta m
      → NoBytes vsn what → NoNode name addr port meta vsn inc what
  no_inc : (a m v : List ℕ) (p : ℕ) → HexBytes addr a → Decimal 65535 port p → HexBytes meta m
      → HexBytes vsn v → NoNumber 4294967295 inc what → NoNode name addr port meta vsn inc what
  no_name : (d : DetailsValue) (i : ℕ) → HexBytes addr d.addr → Decimal 65535 port d.port
      → HexBytes meta d.meta → HexBytes vsn d.vsn → Decimal 4294967295 inc i
      → NoName (percent_decode name) what → NoNode name addr port meta vsn inc what
  no_details : (d : DetailsValue) (i : ℕ) → HexBytes addr d.addr → Decimal 65535 port d.port
      → HexBytes meta d.meta → HexBytes vsn d.vsn → Decimal 4294967295 inc i
      → IsLegalName (percent_decode name) → NoDetails d what
      → NoNode name addr port meta vsn inc what

-- there are not six words after `node` (31), or else they do not describe a node
abbrev pub RefusesNode : List (List ℕ) → What → Type 0
RefusesNode fields what = ((length fields ≢ 6) × (what ≡ Refused 31 None))
    ⊎ ((name addr port meta vsn inc : List ℕ)
    × (fields ≡ name ∷ addr ∷ port ∷ meta ∷ vsn ∷ inc ∷ [])
    × NoNode name addr port meta vsn inc what)

-- There are not two words after `hear` (31), or else the first is not the number of a node, or else
-- the second is not hexadecimal, or else its bytes are not a datagram.
pub data RefusesHear (fields : List (List ℕ)) (what : What) : Type 0 where
  not_two : length fields ≢ 2 → what ≡ Refused 31 None → RefusesHear fields what
  no_number : (node datagram : List ℕ) → fields ≡ node ∷ datagram ∷ []
      → NoNumber 18446744073709551615 node what → RefusesHear fields what
  no_hex : (node datagram : List ℕ) (k : ℕ) → fields ≡ node ∷ datagram ∷ [] → NodeNumber node k
      → NoBytes datagram what → RefusesHear fields what
  no_datagram : (node datagram bytes : List ℕ) (k : ℕ) → fields ≡ node ∷ datagram ∷ []
      → NodeNumber node k → HexBytes datagram bytes → TellsDatagram bytes what
      → RefusesHear fields what

-- what is reported about the words after the first one, if that is the first word of an event: all
-- but `hear` take only numbers
abbrev pub RefusesEvent : Keyword → List (List ℕ) → What → Type 0
RefusesEvent key.Hear fields what = RefusesHear fields what
RefusesEvent keyword fields what = what ≡ Refused 31 None

-- What is reported about the words of a line; `nodes` says whether lines of nodes may still come.
-- There are more than seven (31); or they begin with `node`, which may come, or with `hear`, and
-- are wrong; or they begin otherwise (31).
pub data RefusesWords (nodes : Bool) (line : List (List ℕ)) (what : What) : Type 0 where
  many : 7 < length line → what ≡ Refused 31 None → RefusesWords nodes line what
  node : (fields : List (List ℕ)) → nodes ≡ true → line ≡ codes "node" ∷ fields
      → RefusesNode fields what → RefusesWords nodes line what
  hear : (fields : List (List ℕ)) → line ≡ codes "hear" ∷ fields → RefusesHear fields what
      → RefusesWords nodes line what
  other : (nodes ≡ true → (fields : List (List ℕ)) → line ≢ codes "node" ∷ fields)
      → ((fields : List (List ℕ)) → line ≢ codes "hear" ∷ fields) → what ≡ Refused 31 None
      → RefusesWords nodes line what

-- ---- the first wrong line

-- what is reported about a line after the events so far and the line `level`, if it came: no line
-- may follow that one (31)
pub record RefusesLine (told : List Event) (last : List (List ℕ)) (line : List ℕ) (what : What)
    : Type 0 where
  pub ended : last ≢ [] → what ≡ Refused 31 None
  pub open_still : last ≡ [] → RefusesWords (length told == 0) (words line) what

-- The place names the line, counted from 1, with which the input is not a script: the lines before
-- it are one, and with it they are not, whatever follows. This is reported about it.
pub record IsFirstWrongLine (input : List ℕ) (place : Place) (what : What) : Type 0 where
  pub before : List (List ℕ)
  pub line : List ℕ
  pub after : List (List ℕ)
  pub parts : input_lines input ≡ before ++ line ∷ after
  pub starts : List Start
  pub events : List Event
  pub right : ScriptOf before starts events
  pub wrong : (more : List (List ℕ)) (nodes : List Start) (told : List Event)
      → ¬ ScriptOf (before ++ line ∷ more) nodes told
  pub said : RefusesLine right.told right.last (strip_carriage_return line) what
  pub named : place ≡ Line (length before + 1)
