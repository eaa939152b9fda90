-- A stream with nothing after it, and a canonical dump that is read back.
use Rattle.std.proofs.Common.{◌≡◌, ◌≢◌, inl, inr, ℕ, Result, Ok, Err, IfOk, IfErr, ◌≤◌, Bool, List, [], ◌++◌, length}
use Rattle.std.proofs.Common.{refl, sym, ap, subst, ◌∙◌, append-nil}
use Rattle.std.proofs.lemmas.List.{append_cancel_left}
use Rattle.swim_claim.specs.declared.claim.Claim.{Claim}
use Rattle.swim_pack.specs.Composing.{UnlessFailed}
use Rattle.swim_wire.specs.declared.fault.WireFault.{WireFault}
use Rattle.swim_wire.specs.declared.fault.WireFault.TheVariants.{Fault, Memory, Trailing}
use Rattle.swim_wire.specs.Reading.{wire_cause}
use Rattle.swim_wire.specs.Streams.{StreamText}
use Rattle.swim_wire.proofs.OneStream.{one_stream}
use Rattle.swim_wire.specs.Limits.{max_nodes}
use Rattle.swim_table.specs.Dump.{dump_bytes}
use Rattle.swim_table.specs.Steps.{ReasonForStream, ReasonForDump}
use Rattle.swim_table.specs.Steps.ReasonForStream.{header, record_of, user_state}
use Rattle.swim_table.specs.Table.{Entries, Reduced, TableOf, TakesIn, IsLegalTable}
use Rattle.swim_table.proofs.Tables.{TableOf-table_of}
use Rattle.swim_table.proofs.Dumps.{dump_is_stream, dump_read_back}

-- the bytes do not begin with a stream
abbrev pub HasNone : List ℕ → Type 0
HasNone bytes = (text rest : List ℕ) → ((claims : List Claim) × (join : Bool) × StreamText text claims join) → bytes ≡ text ++ rest → ⊥

pub refused_whole : (fault : WireFault) (bytes : List ℕ) → UnlessFailed (wire_cause fault) (HasNone bytes)
    → (fault ≡ Fault → ⊥) → fault ≢ Memory
    → (claims : List Claim) (join : Bool) → ¬ StreamText bytes claims join
refused_whole Fault bytes none no_fault no_memory claims join text = no_fault refl
refused_whole Memory bytes none no_fault no_memory claims join text = no_memory refl
refused_whole error bytes none no_fault no_memory claims join text = none bytes [] (claims, join, text) (sym (append-nil bytes))

-- bytes that begin with a stream are refused only if out of memory
pub refused_front : (fault : WireFault) (bytes front rest : List ℕ) (claims : List Claim) (join : Bool) → UnlessFailed
    (wire_cause fault) (HasNone bytes) → (fault ≡ Fault → ⊥)
    → StreamText front claims join → bytes ≡ front ++ rest → fault ≡ Memory
refused_front Fault bytes front rest claims join none no_fault text parts = absurd (no_fault refl)
refused_front Memory bytes front rest claims join none no_fault text parts = refl
refused_front error bytes front rest claims join none no_fault text parts = absurd (none front rest (claims, join, text) parts)

-- a stream with bytes after it is not a stream
pub trailing_whole : (bytes text rest : List ℕ) (claims others : List Claim) (join flag : Bool)
    → StreamText text claims join → bytes ≡ text ++ rest → rest ≢ []
    → ¬ StreamText bytes others flag
trailing_whole bytes text rest claims others join flag front parts more whole =
    let same : text ≡ bytes = (one_stream text bytes rest [] claims others join flag front whole (sym parts ∙ sym (append-nil bytes))).0 in
    more (append_cancel_left text rest [] (sym parts ∙ sym same ∙ sym (append-nil text)))

-- a stream with nothing after it
pub all_taken : (bytes text rest : List ℕ) (claims : List Claim) (join : Bool) → StreamText text claims join
    → bytes ≡ text ++ rest → rest ≡ [] → StreamText bytes claims join
all_taken bytes text rest claims join whole parts none =
    subst (λ (b : List ℕ). StreamText b claims join) (sym (parts ∙ ap (λ (r : List ℕ). text ++ r) none ∙ append-nil text)) whole

-- the bytes are the canonical dump of a table
pub dumped : (bytes : List ℕ) (table : Entries) (join : Bool) → IsLegalTable table → length (Reduced table) ≤ max_nodes
    → bytes ≡ dump_bytes table join → StreamText bytes (Reduced table) join
dumped bytes table join legal few is = subst
    (λ (b : List ℕ). StreamText b (Reduced table) join) (sym is) (dump_is_stream table join legal few)

pub read_back : (bytes : List ℕ) (table other : Entries) (join flag : Bool) (claims : List Claim) → IsLegalTable table
    → length (Reduced table) ≤ max_nodes → bytes ≡ dump_bytes table join
    → TableOf other claims → StreamText bytes claims flag → (other ≡ table) × (flag ≡ join)
read_back bytes table other join flag claims legal few is of text =
    dump_read_back table other join flag claims legal few of (subst (λ (b : List ℕ). StreamText b claims flag) is text)

-- no part of a stream is followed by bytes
not_trailing : (bytes : List ℕ) → ¬ ReasonForStream Trailing bytes
not_trailing bytes (header why) = why.0
not_trailing bytes (record_of front rest h claims begun more parts why) = why.0
not_trailing bytes (user_state front rest h claims begun all parts (inl (is, short))) = cc
not_trailing bytes (user_state front rest h claims begun all parts (inr is)) = cc

-- why the bytes do not begin with a stream is why they are not a dump
pub no_dump : (fault : WireFault) (bytes : List ℕ) → (fault ≡ Fault → ⊥) → ReasonForStream fault bytes → ReasonForDump fault bytes
no_dump Trailing bytes no_fault why = absurd (not_trailing bytes why)
no_dump Fault bytes no_fault why = absurd (no_fault refl)
no_dump fault bytes no_fault why = why

-- ---- reads into a table of no claims

-- what a table of no claims took in is all that it has
pub read_alone : (r : Result (Entries × Bool) WireFault) (P : List Claim → Bool → Type 0)
    → IfOk r (λ read. (claims : List Claim) × TakesIn [] read.0 claims × P claims read.1)
    → IfOk r (λ read. (claims : List Claim) × TableOf read.0 claims × P claims read.1)
read_alone (Ok read) P h = (h.0, h.1 [] (TableOf-table_of []), h.2)
read_alone (Err _) P h = tt

only_memory : (fault : WireFault) → ¬ (fault ≢ Memory) → fault ≡ Memory
only_memory Memory h = refl
only_memory error h = absurd (h (λ e. absurd cc))

pub dump_back : (r : Result (Entries × Bool) WireFault) (bytes : List ℕ) (table : Entries) (join : Bool) → IsLegalTable table
    → length (Reduced table) ≤ max_nodes → bytes ≡ dump_bytes table join
    → IfOk r (λ read. (claims : List Claim) × TakesIn [] read.0 claims × StreamText bytes claims read.1)
    → IfErr r (λ fault. fault ≢ Memory → (claims : List Claim) (join : Bool) → ¬ StreamText bytes claims join)
    → IfOk r (λ read. (read.0 ≡ table) × (read.1 ≡ join)) × IfErr r (λ fault. fault ≡ Memory)
dump_back (Ok read) bytes table join legal few is h refuses =
    (read_back bytes table read.0 join read.1 h.0 legal few is (h.1 [] (TableOf-table_of [])) h.2, tt)
dump_back (Err fault) bytes table join legal few is h refuses =
    (tt, only_memory fault (λ other. refuses other (Reduced table) join (dumped bytes table join legal few is)))
