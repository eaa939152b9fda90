-- Scripts: which lines describe which nodes and which events.
use Rattle.std.specs.Prelude.{◌≡◌, ℕ, ◌+◌, ◌<◌, ◌≤◌, ◌⊎◌, List, [], ◌∷◌, ◌++◌, length, map, Ok, codes, ◌==◌}
use Rattle.std.specs.List.{AllZip, slice_split}
use Rattle.std.specs.Str.Lines.{strip_carriage_return}
use Rattle.std.specs.Str.Parse.{IsNumeral, digits_value}
use Rattle.hex.specs.Hex.{decode_of}
use Rattle.percent_encoding.specs.Percent.{percent_decode}
use Rattle.swim_claim.specs.declared.claim.Claim.{Claim}
use Rattle.swim_claim.specs.declared.claim.Claim.TheVariants.{Alive}
use Rattle.swim_claim.specs.Details.{DetailsValue, IsLegalDetails}
use Rattle.swim_claim.specs.Name.{IsLegalName}
use Rattle.swim_table.specs.Node.{NodeValue}
use Rattle.swim_table.specs.Table.{TableOf}
use Rattle.swim_wire.specs.Packet.{PacketValue}
use Rattle.swim_wire.specs.Texts.{PacketText, DatagramText}
use Rattle.swim_sync.specs.declared.event.Event.{Event}
use Rattle.swim_sync.specs.declared.event.Event.TheVariants.{Hear, HearAll, Exchange, Half, Refute}
use Rattle.swim_sync.specs.Heard.{Member}
use Rattle.swim_sync.specs.Levels.{level_list}
use Rattle.swim_program.specs.declared.report.Place.{Place}
use Rattle.swim_program.specs.declared.report.Place.TheVariants.{Line}
use Rattle.swim_program.specs.Lines.{input_lines}

-- ---- words

-- the words of a line, separated by its spaces; a word may be empty
abbrev pub words : List ℕ → List (List ℕ)
words line = slice_split (λ b. b == 32) line

-- The word is a decimal number: 1 to 20 digits, and at most the greatest value of its place.
pub record Decimal (most : ℕ) (word : List ℕ) (n : ℕ) : Type 0 where
  pub numeral : IsNumeral 10 word
  pub few : length word ≤ 20
  pub value : n ≡ digits_value 10 word
  pub within : n ≤ most

-- the number of a node; the node need not exist
abbrev pub NodeNumber : List ℕ → ℕ → Type 0
NodeNumber word k = Decimal 18446744073709551615 word k

-- the word is `-`, for no bytes, or at least one byte in hexadecimal
abbrev pub HexBytes : List ℕ → List ℕ → Type 0
HexBytes word bytes = ((word ≡ codes "-") × (bytes ≡ []))
    ⊎ ((0 < length word) × (decode_of word ≡ Ok bytes))

-- ---- a line

-- who a node is at the start
pub record Start : Type 0 where
  pub name : List ℕ
  pub details : DetailsValue
  pub inc : ℕ

-- the member that the node is
abbrev pub started_member : Start → Member
started_member start = record { name = start.name; details = start.details }

-- what the node has heard at the start: its own Alive
abbrev pub start_claims : Start → List Claim
start_claims start = Alive start.name start.inc start.details ∷ []

-- the node is as it is at the start
abbrev pub IsStarted : NodeValue → Start → Type 0
IsStarted node start = (node.name ≡ start.name) × (node.details ≡ start.details)
    × TableOf node.table (start_claims start)

-- so is each node, in order
abbrev pub AreStarted : List NodeValue → List Start → Type 0
AreStarted nodes starts = AllZip IsStarted nodes starts

-- The words after `node` say this; the name and the details may be invalid.
pub record SaysNode (name_word addr_word port_word meta_word vsn_word inc_word : List ℕ)
    (start : Start) : Type 0 where
  pub name : start.name ≡ percent_decode name_word
  pub addr : HexBytes addr_word start.details.addr
  pub port : Decimal 65535 port_word start.details.port
  pub meta : HexBytes meta_word start.details.meta
  pub vsn : HexBytes vsn_word start.details.vsn
  pub inc : Decimal 4294967295 inc_word start.inc

-- The words after `node` say who the node is.
pub record NodeFields (name_word addr_word port_word meta_word vsn_word inc_word : List ℕ)
    (start : Start) : Type 0 where
  pub says : SaysNode name_word addr_word port_word meta_word vsn_word inc_word start
  pub legal_name : IsLegalName start.name
  pub legal_details : IsLegalDetails start.details

-- the words are those of a node
abbrev pub NodeWords : List (List ℕ) → Start → Type 0
NodeWords line start =
    (name addr port meta vsn inc : List ℕ)
    × (line ≡ codes "node" ∷ name ∷ addr ∷ port ∷ meta ∷ vsn ∷ inc ∷ [])
    × NodeFields name addr port meta vsn inc start

-- The node hears the datagram: the claim of a packet, or all claims of a compound packet, which
-- begins with 7.
pub data HearsBytes (k : ℕ) (bytes : List ℕ) (event : Event) : Type 0 where
  packet : (p : PacketValue) → PacketText bytes p → event ≡ Hear k p.claim
      → HearsBytes k bytes event
  compound : (body : List ℕ) (packets : List PacketValue) → bytes ≡ 7 ∷ body
      → DatagramText bytes packets
      → event ≡ HearAll k (map (λ p. p.claim) packets) → HearsBytes k bytes event

-- The words are those of an event.
pub data EventWords (line : List (List ℕ)) (event : Event) : Type 0 where
  hear : (node datagram : List ℕ) (k : ℕ) (bytes : List ℕ)
      → line ≡ codes "hear" ∷ node ∷ datagram ∷ [] → NodeNumber node k → HexBytes datagram bytes
      → HearsBytes k bytes event → EventWords line event
  exchange : (first second : List ℕ) (j k : ℕ) → line ≡ codes "exchange" ∷ first ∷ second ∷ []
      → NodeNumber first j → NodeNumber second k → event ≡ Exchange j k → EventWords line event
  half : (first second : List ℕ) (j k : ℕ) → line ≡ codes "half" ∷ first ∷ second ∷ []
      → NodeNumber first j → NodeNumber second k → event ≡ Half j k → EventWords line event
  refute : (node : List ℕ) (k : ℕ) → line ≡ codes "refute" ∷ node ∷ []
      → NodeNumber node k → event ≡ Refute k → EventWords line event

-- the words are those of the line that levels all nodes
abbrev pub LevelWords : List (List ℕ) → Type 0
LevelWords line = line ≡ codes "level" ∷ []

-- ---- a script

-- the lines that are not empty
abbrev pub not_empty : List (List ℕ) → List (List ℕ)
not_empty [] = []
not_empty ([] ∷ lines) = not_empty lines
not_empty ((byte ∷ bytes) ∷ lines) = (byte ∷ bytes) ∷ not_empty lines

-- the lines of a script: one carriage return at the end of each is dropped, and empty lines are
-- skipped
abbrev pub script_lines : List (List ℕ) → List (List ℕ)
script_lines lines = not_empty (map strip_carriage_return lines)

-- the line describes this node
abbrev pub NodeLine : List ℕ → Start → Type 0
NodeLine line start = NodeWords (words line) start

-- each line describes one node
abbrev pub NodeLines : List (List ℕ) → List Start → Type 0
NodeLines lines starts = AllZip NodeLine lines starts

-- the line describes this event
abbrev pub EventLine : List ℕ → Event → Type 0
EventLine line event = EventWords (words line) event

-- each line describes one event
abbrev pub EventLines : List (List ℕ) → List Event → Type 0
EventLines lines events = AllZip EventLine lines events

-- nothing, or one line that levels this many nodes
abbrev pub LastLine : ℕ → List (List ℕ) → List Event → Type 0
LastLine nodes [] events = events ≡ []
LastLine nodes (line ∷ lines) events = LevelWords (words line) × (lines ≡ [])
    × (events ≡ level_list nodes)

-- The lines are the script of these nodes and these events: lines of nodes, then lines of events,
-- and possibly `level` at the end.
pub record ScriptOf (all : List (List ℕ)) (starts : List Start) (events : List Event) : Type 0 where
  pub node_lines : List (List ℕ)
  pub event_lines : List (List ℕ)
  pub last : List (List ℕ)
  pub told : List Event
  pub levelled : List Event
  pub lines : script_lines all ≡ node_lines ++ event_lines ++ last
  pub nodes : NodeLines node_lines starts
  pub each : EventLines event_lines told
  pub ends : LastLine (length starts) last levelled
  pub whole : events ≡ told ++ levelled

-- the input is the script of these nodes and these events
abbrev pub Script : List ℕ → List Start → List Event → Type 0
Script input starts events = ScriptOf (input_lines input) starts events

-- Event k comes with the line, counted from 1, that the place names: the lines before it describe
-- only earlier events, and with it also that one.
pub record ComesWith (lines : List (List ℕ)) (starts : List Start) (events : List Event) (k : ℕ)
    (place : Place) : Type 0 where
  pub before : List (List ℕ)
  pub line : List ℕ
  pub after : List (List ℕ)
  pub parts : lines ≡ before ++ line ∷ after
  pub earlier : List Event
  pub own : List Event
  pub later : List Event
  pub order : events ≡ (earlier ++ own) ++ later
  pub without : ScriptOf before starts earlier
  pub tells : ScriptOf (before ++ line ∷ []) starts (earlier ++ own)
  pub not_before : length earlier ≤ k
  pub not_after : k < length (earlier ++ own)
  pub named : place ≡ Line (length before + 1)
