-- Messages of memberlist: which bytes are which packet, header, state record or datagram.
use Rattle.std.specs.Prelude.{◌≡◌, ◌≢◌, ℕ, ◌≤◌, ◌<◌, ◌^◌, ◌⊎◌, List, [], ◌∷◌, ◌++◌, length, All}
use Rattle.std.specs.List.{flat_map}
use Rattle.std.specs.Int.{w16, to_be_bytes}
use Rattle.swim_claim.specs.declared.claim.Claim.{Claim}
use Rattle.swim_claim.specs.declared.claim.Claim.TheVariants.{Alive, Suspect, Confirm, Leave}
use Rattle.swim_claim.specs.Details.{DetailsValue, IsAddress, IsVersions}
use Rattle.swim_wire.specs.declared.layout.Key.TheVariants as keys
use Rattle.swim_wire.specs.declared.stream.Header.{Header}
use Rattle.swim_wire.specs.Layout.{Pairs, MapText, number_of, raw_of, flag_of, alive_layout, accusation_layout, header_layout, state_layout}
use Rattle.swim_wire.specs.Limits.{max_nodes, max_user_state_len}
use Rattle.swim_wire.specs.Packet.{PacketValue}

-- the details in the pairs
abbrev pub told_details : Pairs → DetailsValue
told_details pairs = record {
  addr = raw_of keys.Addr pairs;
  port = number_of keys.Port pairs;
  meta = raw_of keys.Meta pairs;
  vsn = raw_of keys.Vsn pairs;
}

-- an address has 4 or 16 bytes, and there are no version bytes or 6
abbrev pub HasLegalDetails : Pairs → Type 0
HasLegalDetails pairs = IsAddress (raw_of keys.Addr pairs)
    × IsVersions (raw_of keys.Vsn pairs)

-- The bytes b are the packet p: a type byte, and then one map that passes the checks of the whole.
-- A dead message from the member itself says that it left.
pub data PacketText (b : List ℕ) (p : PacketValue) : Type 0 where
  alive : (m : List ℕ) (pairs : Pairs) → b ≡ 4 ∷ m → MapText alive_layout m pairs
      → raw_of keys.Node pairs ≢ [] → HasLegalDetails pairs
      → p ≡ record {
        claim = Alive (raw_of keys.Node pairs) (number_of keys.Incarnation pairs)
            (told_details pairs);
        from = [];
      }
      → PacketText b p
  suspect : (m : List ℕ) (pairs : Pairs) → b ≡ 3 ∷ m → MapText accusation_layout m pairs
      → raw_of keys.Node pairs ≢ []
      → p ≡ record {
        claim = Suspect (raw_of keys.Node pairs) (number_of keys.Incarnation pairs);
        from = raw_of keys.From pairs;
      }
      → PacketText b p
  leave : (m : List ℕ) (pairs : Pairs) → b ≡ 5 ∷ m → MapText accusation_layout m pairs
      → raw_of keys.Node pairs ≢ [] → raw_of keys.From pairs ≡ raw_of keys.Node pairs
      → p ≡ record {
        claim = Leave (raw_of keys.Node pairs) (number_of keys.Incarnation pairs);
        from = raw_of keys.From pairs;
      }
      → PacketText b p
  confirm : (m : List ℕ) (pairs : Pairs) → b ≡ 5 ∷ m → MapText accusation_layout m pairs
      → raw_of keys.Node pairs ≢ [] → raw_of keys.From pairs ≢ raw_of keys.Node pairs
      → p ≡ record {
        claim = Confirm (raw_of keys.Node pairs) (number_of keys.Incarnation pairs);
        from = raw_of keys.From pairs;
      }
      → PacketText b p

-- The bytes b are the header h of a stream: the byte 6, and then one map that passes the checks.
pub record HeaderText (b : List ℕ) (h : Header) : Type 0 where
  pub map_text : List ℕ
  pub pairs : Pairs
  pub bytes : b ≡ 6 ∷ map_text
  pub text : MapText header_layout map_text pairs
  pub few_nodes : number_of keys.Nodes pairs ≤ max_nodes
  pub short_user : number_of keys.UserStateLen pairs ≤ max_user_state_len
  pub header : h ≡ record {
    nodes = number_of keys.Nodes pairs;
    user_len = number_of keys.UserStateLen pairs;
    join = flag_of keys.Join pairs;
  }

-- the claim of a state record: states 0 to 3 are alive, suspect, dead and left
pub data IsStateOf (pairs : Pairs) (c : Claim) : Type 0 where
  alive : number_of keys.State pairs ≡ 0 → HasLegalDetails pairs
      → c ≡ Alive (raw_of keys.Name pairs) (number_of keys.Incarnation pairs)
      (told_details pairs)
      → IsStateOf pairs c
  suspect : number_of keys.State pairs ≡ 1
      → c ≡ Suspect (raw_of keys.Name pairs) (number_of keys.Incarnation pairs)
      → IsStateOf pairs c
  confirm : number_of keys.State pairs ≡ 2
      → c ≡ Confirm (raw_of keys.Name pairs) (number_of keys.Incarnation pairs)
      → IsStateOf pairs c
  leave : number_of keys.State pairs ≡ 3
      → c ≡ Leave (raw_of keys.Name pairs) (number_of keys.Incarnation pairs)
      → IsStateOf pairs c

-- The bytes b are the state record of the claim c: one map that passes the checks.
pub record StateText (b : List ℕ) (c : Claim) : Type 0 where
  pub pairs : Pairs
  pub text : MapText state_layout b pairs
  pub name : raw_of keys.Name pairs ≢ []
  pub state : IsStateOf pairs c

-- the part of a compound packet is a packet by its first byte
abbrev pub IsPacketPart : List ℕ → Type 0
IsPacketPart [] = ⊥
IsPacketPart (first ∷ rest) = (first ≡ 3) ⊎ (first ≡ 4) ⊎ (first ≡ 5)

-- The parts of a compound packet have these packets, in order; every other part is skipped.
abbrev pub PartTexts : List (List ℕ) → List PacketValue → Type 0
PartTexts [] packets = packets ≡ []
PartTexts (part ∷ parts) packets =
    ((p : PacketValue) × (rest : List PacketValue) × PacketText part p × PartTexts parts rest
    × (packets ≡ p ∷ rest))
    ⊎ ((¬ IsPacketPart part) × PartTexts parts packets)

-- the byte 7, the count of the parts in one byte, their lengths in two bytes each, and the parts
abbrev pub compound_bytes : List (List ℕ) → List ℕ
compound_bytes parts = 7 ∷ length parts ∷ flat_map (λ part. to_be_bytes w16 (length part)) parts
    ++ flat_map (λ part. part) parts

-- The bytes b are a datagram of these packets: one packet, or a compound packet of them.
pub data DatagramText (b : List ℕ) (packets : List PacketValue) : Type 0 where
  packet : (p : PacketValue) → PacketText b p → packets ≡ p ∷ [] → DatagramText b packets
  compound : (parts : List (List ℕ)) → length parts < 256 → All (λ part. length part < 2 ^ 16) parts
      → b ≡ compound_bytes parts → PartTexts parts packets → DatagramText b packets
