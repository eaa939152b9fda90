-- The canonical bytes of messages are texts of them.
use Rattle.std.proofs.Common.{◌≡◌, ◌≢◌, ℕ, ◌<◌, ◌≤◌, ◌^◌, Bool, List, [], length, Some, refl, ap, inl, inr, lit<, lit≤, arith}
use Rattle.std.specs.Option.{unwrap_or}
use Rattle.swim_claim.specs.declared.claim.Claim.{Claim}
use Rattle.swim_claim.specs.declared.claim.Claim.TheVariants.{Alive, Suspect, Confirm, Leave}
use Rattle.swim_claim.specs.Claim.{details_of, IsLegalClaim}
use Rattle.swim_claim.specs.Details.{DetailsValue, IsLegalDetails}
use Rattle.swim_claim.specs.Name.{IsLegalName}
use Rattle.swim_wire.specs.declared.layout.Key.TheVariants as keys
use Rattle.swim_wire.specs.declared.layout.Limit.TheVariants as limits
use Rattle.swim_wire.specs.declared.stream.Header.{Header}
use Rattle.swim_wire.specs.Canonical.{claim_bytes, packet_bytes, header_bytes, record_bytes, state_bytes, state_bytes_with, no_details}
use Rattle.swim_wire.specs.Keys.{key_text}
use Rattle.swim_wire.specs.Layout.{Layout, MapText, of_key, alive_layout, accusation_layout, header_layout, state_layout}
use Rattle.swim_wire.specs.Layout.Spelled.{number, raw, flag}
use Rattle.swim_wire.specs.Packet.{PacketValue, IsLegalPacket}
use Rattle.swim_wire.specs.Pairs.{map_text}
use Rattle.swim_wire.specs.Texts.{PacketText, PacketText as packets, HeaderText, StateText, IsStateOf, IsStateOf as states}
use Rattle.swim_wire.proofs.Keys.{alive_legal, accusation_legal, header_legal, state_legal}
use Rattle.swim_wire.proofs.SpelledMaps.{IsPairOf, MapText-canonical}
use Rattle.swim_wire.proofs.SpelledPairs.{alive_pairs, accusation_pairs, header_pairs, record_pairs, alive_bytes-pairs}
use Rattle.swim_wire.proofs.SpelledPairs.{accusation_bytes-pairs, header_bytes-pairs, record_bytes-pairs}

-- a number and bytes within the limit of their key
number_within : (layout : Layout) (key : List ℕ) (max v : ℕ) → of_key key layout ≡ Some (limits.Number max)
    → length key < 2 ^ 16 → v ≤ max → max < 2 ^ 64 → IsPairOf layout (key, number v)
number_within layout key max v in_layout short within fits =
    record { limit = limits.Number max; in_layout = in_layout; short = short; value = (within, omega arith) }

raw_within : (layout : Layout) (key : List ℕ) (limit : ℕ) (s : List ℕ) → of_key key layout ≡ Some (limits.Raw limit)
    → length key < 2 ^ 16 → length s ≤ limit → limit < 2 ^ 16 → IsPairOf layout (key, raw s)
raw_within layout key limit s in_layout short within fits =
    record { limit = limits.Raw limit; in_layout = in_layout; short = short; value = (within, omega arith) }

flag_within : (layout : Layout) (key : List ℕ) (f : Bool) → of_key key layout ≡ Some limits.Flag
    → length key < 2 ^ 16 → IsPairOf layout (key, flag f)
flag_within layout key f in_layout short = record { limit = limits.Flag; in_layout = in_layout; short = short; value = tt }

not_empty : (s : List ℕ) → 1 ≤ length s → s ≢ []
not_empty s least e = absurd (omega (arith, ap length e))

-- ---- headers

header_map : (h : Header) → h.nodes ≤ 131072 → h.user_len ≤ 20971520 → MapText header_layout (map_text (header_pairs h)) (header_pairs h)
header_map h few short =
    let join = flag_within header_layout (key_text keys.Join) h.join refl (lit< tt) in
    let nodes = number_within header_layout (key_text keys.Nodes) 0xffff_ffff_ffff_ffff h.nodes refl (lit< tt) (omega arith) (lit< tt) in
    let user = number_within header_layout (key_text keys.UserStateLen) 0xffff_ffff_ffff_ffff h.user_len refl
    (lit< tt) (omega arith) (lit< tt) in
    MapText-canonical header_layout (header_pairs h) (lit< tt) (join, (nodes, (user, tt))) header_legal.distinct

pub HeaderText-canonical : (h : Header) → h.nodes ≤ 131072 → h.user_len ≤ 20971520 → HeaderText (header_bytes h) h
HeaderText-canonical h few short = record {
  map_text = map_text (header_pairs h);
  pairs = header_pairs h;
  bytes = header_bytes-pairs h;
  text = header_map h few short;
  few_nodes = few;
  short_user = short;
  header = refl;
}

-- ---- state records

-- the parts of details are within their limits
pub record Fits (details : DetailsValue) : Type 0 where
  addr : length details.addr ≤ 16
  port : details.port ≤ 0xffff
  meta : length details.meta ≤ 512
  vsn : length details.vsn ≤ 6

pub Fits-legal : (details : DetailsValue) → IsLegalDetails details → Fits details
Fits-legal details legal = record {
  addr = elim legal.addr [ inl is ↦ omega arith | inr is ↦ omega arith ];
  port = omega (arith, legal.port);
  meta = legal.meta;
  vsn = elim legal.vsn [ inl is ↦ omega arith | inr is ↦ omega arith ];
}

pub Fits-none : Fits no_details
Fits-none = record { addr = lit≤ tt; port = lit≤ tt; meta = lit≤ tt; vsn = lit≤ tt }

record_map : (name : List ℕ) (inc state : ℕ) (details : DetailsValue) → length name ≤ 1024 → inc < 2 ^ 32 → state < 4 → Fits details
    → MapText state_layout (record_bytes name inc state details) (record_pairs name inc state details)
record_map name inc state details most inc_fits state_fits fits =
    let addr = raw_within state_layout (key_text keys.Addr) 16 details.addr refl (lit< tt) fits.addr (lit< tt) in
    let incarnation = number_within state_layout (key_text keys.Incarnation) 0xffff_ffff inc refl (lit< tt) (omega arith) (lit< tt) in
    let meta = raw_within state_layout (key_text keys.Meta) 512 details.meta refl (lit< tt) fits.meta (lit< tt) in
    let named = raw_within state_layout (key_text keys.Name) 1024 name refl (lit< tt) most (lit< tt) in
    let port = number_within state_layout (key_text keys.Port) 0xffff details.port refl (lit< tt) fits.port (lit< tt) in
    let known = number_within state_layout (key_text keys.State) 0xffff_ffff_ffff_ffff state refl (lit< tt) (omega arith) (lit< tt) in
    let vsn = raw_within state_layout (key_text keys.Vsn) 6 details.vsn refl (lit< tt) fits.vsn (lit< tt) in
    rw (record_bytes-pairs name inc state details)
    (MapText-canonical state_layout (record_pairs name inc state details) (lit< tt)
    (addr, (incarnation, (meta, (named, (port, (known, (vsn, tt))))))) state_legal.distinct)

state_text : (c : Claim) (name : List ℕ) (inc state : ℕ) (details : DetailsValue) → IsLegalName name
    → inc < 2 ^ 32 → state < 4 → Fits details
    → IsStateOf (record_pairs name inc state details) c → StateText (record_bytes name inc state details) c
state_text c name inc state details legal inc_fits state_fits fits is = record {
  pairs = record_pairs name inc state details;
  text = record_map name inc state details legal.most inc_fits state_fits fits;
  name = not_empty name legal.least;
  state = is;
}

pub StateText-canonical : (c : Claim) → IsLegalClaim c → StateText (state_bytes c) c
StateText-canonical (Alive name inc details) legal =
    state_text _ name inc 0 details legal.name legal.inc (lit< tt) (Fits-legal details legal.details)
    (states.alive refl (legal.details.addr, legal.details.vsn) refl)
StateText-canonical (Suspect name inc) legal = state_text _ name inc 1 no_details legal.name legal.inc
    (lit< tt) Fits-none (states.suspect refl refl)
StateText-canonical (Confirm name inc) legal = state_text _ name inc 2 no_details legal.name legal.inc
    (lit< tt) Fits-none (states.confirm refl refl)
StateText-canonical (Leave name inc) legal = state_text _ name inc 3 no_details legal.name legal.inc
    (lit< tt) Fits-none (states.leave refl refl)

-- a record with these details, unless the claim has its own
pub StateText-with : (details : DetailsValue) (c : Claim) → IsLegalClaim c → Fits (unwrap_or (details_of c) details) → StateText
    (state_bytes_with details c) c
StateText-with details (Alive name inc own) legal fits = StateText-canonical (Alive name inc own) legal
StateText-with details (Suspect name inc) legal fits = state_text _ name inc 1 details legal.name legal.inc
    (lit< tt) fits (states.suspect refl refl)
StateText-with details (Confirm name inc) legal fits = state_text _ name inc 2 details legal.name legal.inc
    (lit< tt) fits (states.confirm refl refl)
StateText-with details (Leave name inc) legal fits = state_text _ name inc 3 details legal.name legal.inc
    (lit< tt) fits (states.leave refl refl)

pub StateText-beside : (c : Claim) (details : DetailsValue) → IsLegalClaim c → Fits details → StateText (state_bytes_with details c) c
StateText-beside (Alive name inc own) details legal fits = StateText-canonical (Alive name inc own) legal
StateText-beside (Suspect name inc) details legal fits = StateText-with details (Suspect name inc) legal fits
StateText-beside (Confirm name inc) details legal fits = StateText-with details (Confirm name inc) legal fits
StateText-beside (Leave name inc) details legal fits = StateText-with details (Leave name inc) legal fits

-- ---- packets

alive_map : (name : List ℕ) (inc : ℕ) (details : DetailsValue) → length name ≤ 1024 → inc < 2 ^ 32 → Fits details
    → MapText alive_layout (map_text (alive_pairs name inc details)) (alive_pairs name inc details)
alive_map name inc details most inc_fits fits =
    let addr = raw_within alive_layout (key_text keys.Addr) 16 details.addr refl (lit< tt) fits.addr (lit< tt) in
    let incarnation = number_within alive_layout (key_text keys.Incarnation) 0xffff_ffff inc refl (lit< tt) (omega arith) (lit< tt) in
    let meta = raw_within alive_layout (key_text keys.Meta) 512 details.meta refl (lit< tt) fits.meta (lit< tt) in
    let node = raw_within alive_layout (key_text keys.Node) 1024 name refl (lit< tt) most (lit< tt) in
    let port = number_within alive_layout (key_text keys.Port) 0xffff details.port refl (lit< tt) fits.port (lit< tt) in
    let vsn = raw_within alive_layout (key_text keys.Vsn) 6 details.vsn refl (lit< tt) fits.vsn (lit< tt) in
    MapText-canonical alive_layout (alive_pairs name inc details) (lit< tt)
    (addr, (incarnation, (meta, (node, (port, (vsn, tt)))))) alive_legal.distinct

accusation_map : (name : List ℕ) (inc : ℕ) (from : List ℕ) → length name ≤ 1024 → inc < 2 ^ 32 → length from ≤ 1024
    → MapText accusation_layout (map_text (accusation_pairs name inc from)) (accusation_pairs name inc from)
accusation_map name inc from most inc_fits from_most =
    let accuser = raw_within accusation_layout (key_text keys.From) 1024 from refl (lit< tt) from_most (lit< tt) in
    let incarnation = number_within accusation_layout (key_text keys.Incarnation) 0xffff_ffff inc refl (lit< tt) (omega arith) (lit< tt) in
    let node = raw_within accusation_layout (key_text keys.Node) 1024 name refl (lit< tt) most (lit< tt) in
    MapText-canonical accusation_layout (accusation_pairs name inc from) (lit< tt)
    (accuser, (incarnation, (node, tt))) accusation_legal.distinct

claim_text : (c : Claim) (from : List ℕ) → IsLegalClaim c → IsLegalPacket c from
    → PacketText (claim_bytes c from) (record { claim = c; from = from })
claim_text (Alive name inc details) from legal made =
    packets.alive (map_text (alive_pairs name inc details)) (alive_pairs name inc details) (alive_bytes-pairs name inc details)
    (alive_map name inc details legal.name.most legal.inc (Fits-legal details legal.details)) (not_empty name legal.name.least)
    (legal.details.addr, legal.details.vsn) (ap (λ f. record { claim = Alive name inc details; from = f }) made.0)
claim_text (Suspect name inc) from legal made =
    packets.suspect (map_text (accusation_pairs name inc from)) (accusation_pairs name inc from) (accusation_bytes-pairs 3 name inc from)
    (accusation_map name inc from legal.name.most legal.inc made.1) (not_empty name legal.name.least) refl
claim_text (Confirm name inc) from legal made =
    packets.confirm (map_text (accusation_pairs name inc from)) (accusation_pairs name inc from) (accusation_bytes-pairs 5 name inc from)
    (accusation_map name inc from legal.name.most legal.inc made.1) (not_empty name legal.name.least) made.0 refl
claim_text (Leave name inc) from legal made =
    packets.leave (map_text (accusation_pairs name inc from)) (accusation_pairs name inc from) (accusation_bytes-pairs 5 name inc from)
    (accusation_map name inc from legal.name.most legal.inc made.1) (not_empty name legal.name.least) made.0 refl

pub PacketText-canonical : (p : PacketValue) → IsLegalClaim p.claim → IsLegalPacket p.claim p.from → PacketText (packet_bytes p) p
PacketText-canonical p legal made = claim_text p.claim p.from legal made
