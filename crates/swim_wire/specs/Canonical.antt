-- The canonical bytes of messages: every key of the layout in alphabetical order, each value in its
-- canonical encoding.
use Rattle.std.specs.Prelude.{ℕ, List, [], ◌∷◌, ◌++◌, map}
use Rattle.swim_claim.specs.declared.claim.Claim.{Claim}
use Rattle.swim_claim.specs.declared.claim.Claim.TheVariants.{Alive, Suspect, Confirm, Leave}
use Rattle.swim_claim.specs.Details.{DetailsValue}
use Rattle.swim_pack.specs.Spelling.{number_text, raw_text, flag_text, count_text}
use Rattle.swim_wire.specs.declared.layout.Key.TheVariants as keys
use Rattle.swim_wire.specs.declared.layout.Key.{Key}
use Rattle.swim_wire.specs.declared.stream.Header.{Header}
use Rattle.swim_wire.specs.Keys.{key_text}
use Rattle.swim_wire.specs.Packet.{PacketValue}
use Rattle.swim_wire.specs.Texts.{compound_bytes}

-- a key and a number
abbrev pub number_pair : Key → ℕ → List ℕ
number_pair key v = raw_text (key_text key) ++ number_text v

-- a key and bytes
abbrev pub raw_pair : Key → List ℕ → List ℕ
raw_pair key s = raw_text (key_text key) ++ raw_text s

-- memberlist's alive
abbrev pub alive_bytes : List ℕ → ℕ → DetailsValue → List ℕ
alive_bytes name inc details =
    4 ∷ count_text 6 ++ raw_pair keys.Addr details.addr
    ++ number_pair keys.Incarnation inc ++ raw_pair keys.Meta details.meta
    ++ raw_pair keys.Node name ++ number_pair keys.Port details.port
    ++ raw_pair keys.Vsn details.vsn

-- memberlist's suspect and dead, selected by their type
abbrev pub accusation_bytes : ℕ → List ℕ → ℕ → List ℕ → List ℕ
accusation_bytes type name inc from =
    type ∷ count_text 3 ++ raw_pair keys.From from ++ number_pair keys.Incarnation inc
    ++ raw_pair keys.Node name

-- the packet of a claim, made by the member of this name
abbrev pub claim_bytes : Claim → List ℕ → List ℕ
claim_bytes (Alive name inc details) from = alive_bytes name inc details
claim_bytes (Suspect name inc) from = accusation_bytes 3 name inc from
claim_bytes (Confirm name inc) from = accusation_bytes 5 name inc from
claim_bytes (Leave name inc) from = accusation_bytes 5 name inc from

-- a packet
abbrev pub packet_bytes : PacketValue → List ℕ
packet_bytes p = claim_bytes p.claim p.from

-- a compound packet of these packets
abbrev pub packets_bytes : List PacketValue → List ℕ
packets_bytes packets = compound_bytes (map packet_bytes packets)

-- memberlist's pushPullHeader
abbrev pub header_bytes : Header → List ℕ
header_bytes h =
    6 ∷ count_text 3 ++ (raw_text (key_text keys.Join) ++ flag_text h.join)
    ++ number_pair keys.Nodes h.nodes ++ number_pair keys.UserStateLen h.user_len

-- memberlist's pushNodeState; only an Alive has an address, a port, metadata and versions
abbrev pub record_bytes : List ℕ → ℕ → ℕ → DetailsValue → List ℕ
record_bytes name inc state details =
    count_text 7 ++ raw_pair keys.Addr details.addr ++ number_pair keys.Incarnation inc
    ++ raw_pair keys.Meta details.meta ++ raw_pair keys.Name name
    ++ number_pair keys.Port details.port ++ number_pair keys.State state
    ++ raw_pair keys.Vsn details.vsn

-- the details in the state record of a Suspect, Confirm or Leave
abbrev pub no_details : DetailsValue
no_details = record { addr = []; port = 0; meta = []; vsn = [] }

-- the state record of a claim: states 0 to 3 are alive, suspect, dead and left
abbrev pub state_bytes : Claim → List ℕ
state_bytes (Alive name inc details) = record_bytes name inc 0 details
state_bytes (Suspect name inc) = record_bytes name inc 1 no_details
state_bytes (Confirm name inc) = record_bytes name inc 2 no_details
state_bytes (Leave name inc) = record_bytes name inc 3 no_details

-- the state record of a claim with these details, since memberlist requires versions in each
-- record; an Alive has its own
abbrev pub state_bytes_with : DetailsValue → Claim → List ℕ
state_bytes_with details (Alive name inc own) = record_bytes name inc 0 own
state_bytes_with details (Suspect name inc) = record_bytes name inc 1 details
state_bytes_with details (Confirm name inc) = record_bytes name inc 2 details
state_bytes_with details (Leave name inc) = record_bytes name inc 3 details
