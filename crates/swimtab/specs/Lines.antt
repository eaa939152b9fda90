-- The claims that the lines of an input make.
use Rattle.std.specs.Prelude.{◌≡◌, ℕ, ◌+◌, List, [], ◌∷◌, ◌++◌, length, map, Ok, Err, None}
use Rattle.std.specs.Str.Lines.{strip_carriage_return}
use Rattle.hex.specs.Hex.{decode_of}
use Rattle.hex.specs.declared.error.FromHexError.{FromHexError}
use Rattle.swim_claim.specs.declared.claim.Claim.{Claim}
use Rattle.swim_wire.specs.Packet.{PacketValue}
use Rattle.swim_wire.specs.Texts.{DatagramText}
use Rattle.swim_program.specs.declared.report.Place.{Place}
use Rattle.swim_program.specs.declared.report.Place.TheVariants.{Line}
use Rattle.swim_program.specs.declared.report.What.{What}
use Rattle.swim_program.specs.declared.report.What.TheVariants.{Refused}
use Rattle.swim_program.specs.Lines.{input_lines}
use Rattle.swim_program.specs.Report.{TellsDatagram}

-- a text that is not empty is the hexadecimal of a datagram whose packets make these claims; an
-- empty text makes none
abbrev pub TextClaims : List ℕ → List Claim → Type 0
TextClaims [] claims = claims ≡ []
TextClaims (digit ∷ digits) claims =
    (bytes : List ℕ) × (packets : List PacketValue) × (decode_of (digit ∷ digits) ≡ Ok bytes)
    × DatagramText bytes packets × (claims ≡ map (λ p. p.claim) packets)

-- one carriage return at the end of a line is dropped
abbrev pub LineClaims : List ℕ → List Claim → Type 0
LineClaims line claims = TextClaims (strip_carriage_return line) claims

-- the lines make these claims, one line after another
abbrev pub EachLine : List (List ℕ) → List Claim → Type 0
EachLine [] claims = claims ≡ []
EachLine (line ∷ lines) claims =
    (own : List Claim) × (others : List Claim) × LineClaims line own × EachLine lines others
    × (claims ≡ own ++ others)

-- the lines of the input make these claims
abbrev pub PacketLines : List ℕ → List Claim → Type 0
PacketLines input claims = EachLine (input_lines input) claims

-- What is reported about a text that makes no claims: it is not hexadecimal, or the fault at which
-- reading its bytes stops.
pub data TellsText (text : List ℕ) (what : What) : Type 0 where
  no_hex : (error : FromHexError) → decode_of text ≡ Err error → what ≡ Refused 30 None
      → TellsText text what
  no_datagram : (bytes : List ℕ) → decode_of text ≡ Ok bytes → TellsDatagram bytes what
      → TellsText text what

-- The place is the first line that makes no claims, counted from 1, and this is reported about it.
pub record IsFirstWrong (input : List ℕ) (place : Place) (what : What) : Type 0 where
  pub before : List (List ℕ)
  pub line : List ℕ
  pub after : List (List ℕ)
  pub lines : input_lines input ≡ before ++ line ∷ after
  pub claims : List Claim
  pub right : EachLine before claims
  pub wrong : (own : List Claim) → ¬ LineClaims line own
  pub told : TellsText (strip_carriage_return line) what
  pub named : place ≡ Line (length before + 1)
