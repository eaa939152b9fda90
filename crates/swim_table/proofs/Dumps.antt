-- The canonical dump of a table is a stream of the claims that it keeps, and of no others.
use Rattle.std.proofs.Common.{◌≡◌, ◌≤◌, Bool, List, [], ◌∷◌, length, All, Contains, ◌↔◌, refl, sym, subst, append-nil, arith}
use Rattle.std.proofs.lemmas.List.Elements.{All-head, All-tail}
use Rattle.std.specs.List.{flat_map}
use Rattle.swim_claim.specs.declared.claim.Claim.{Claim}
use Rattle.swim_claim.specs.Claim.{IsLegalClaim}
use Rattle.swim_wire.specs.declared.stream.Header.{Header}
use Rattle.swim_wire.specs.Canonical.{header_bytes, state_bytes}
use Rattle.swim_wire.specs.Streams.{StateTexts, StreamText}
use Rattle.swim_wire.specs.Streams.StateTexts.{none, one}
use Rattle.swim_wire.proofs.OneStream.{one_stream}
use Rattle.swim_wire.proofs.SpelledTexts.{HeaderText-canonical, StateText-canonical}
use Rattle.swim_wire.specs.Limits.{max_nodes}
use Rattle.swim_table.specs.Dump.{dump_bytes}
use Rattle.swim_table.specs.Table.{Entries, Reduced, TableOf, IsLegalTable}
use Rattle.swim_table.proofs.Tables.{TableOf-unique}

-- canonical records are the texts of their claims
StateTexts-canonical : (claims : List Claim) → All IsLegalClaim claims → StateTexts (flat_map state_bytes claims) claims
StateTexts-canonical [] legal = none
StateTexts-canonical (c ∷ claims) legal =
    one (state_bytes c) (flat_map state_bytes claims) c claims (StateText-canonical c (All-head IsLegalClaim c claims legal))
    (StateTexts-canonical claims (All-tail IsLegalClaim c claims legal))

-- the header of the dump
abbrev pub dump_header : Entries → Bool → Header
dump_header table join = record { nodes = length (Reduced table); user_len = 0; join = join }

pub dump_is_stream : (table : Entries) (join : Bool) → IsLegalTable table → length (Reduced table) ≤ max_nodes → StreamText
    (dump_bytes table join) (Reduced table) join
dump_is_stream table join legal few = record {
  header = dump_header table join;
  head = header_bytes (dump_header table join);
  records = flat_map state_bytes (Reduced table);
  user = [];
  bytes = sym (append-nil (dump_bytes table join));
  head_text = HeaderText-canonical (dump_header table join) few (omega arith);
  flag = refl;
  nodes = refl;
  record_texts = StateTexts-canonical (Reduced table) legal.claims;
  user_len = refl;
}

-- a stream text of the dump has its claims and its flag
pub dump_claims : (table : Entries) (join flag : Bool) (claims : List Claim) → IsLegalTable table → length (Reduced table) ≤ max_nodes
    → StreamText (dump_bytes table join) claims flag → (claims ≡ Reduced table) × (flag ≡ join)
dump_claims table join flag claims legal few text =
    let same =
    one_stream (dump_bytes table join) (dump_bytes table join) [] [] claims (Reduced table) flag join text
    (dump_is_stream table join legal few) refl in
    (same.1, same.2)

-- and is read as the table
pub dump_read_back : (table other : Entries) (join flag : Bool) (claims : List Claim) → IsLegalTable table
    → length (Reduced table) ≤ max_nodes
    → TableOf other claims → StreamText (dump_bytes table join) claims flag → (other ≡ table) × (flag ≡ join)
dump_read_back table other join flag claims legal few is text =
    let same = dump_claims table join flag claims legal few text in (
      TableOf-unique other table claims (Reduced table) is legal.own
          (λ c. subst (λ l. Contains claims c ↔ Contains l c) same.0 (λ made. made, λ made. made)),
      same.1,
    )

-- tables with the same dump are the same
pub same_table_dumped : (table other : Entries) (join flag : Bool) → IsLegalTable table → IsLegalTable other → length
    (Reduced table) ≤ max_nodes → length (Reduced other) ≤ max_nodes
    → dump_bytes table join ≡ dump_bytes other flag → (table ≡ other) × (join ≡ flag)
same_table_dumped table other join flag h g few few' same =
    dump_read_back other table flag join (Reduced table) g few' h.own
    (subst (λ b. StreamText b (Reduced table) join) same (dump_is_stream table join h few))
