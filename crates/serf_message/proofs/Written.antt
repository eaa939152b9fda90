-- Messages that are written are read back.
use Rattle.std.proofs.Common.{◌≡◌, ℕ, ◌<◌, ◌^◌, List, [], ◌∷◌, ◌++◌, length, Option, Some, None, Ok, ℤ, w64, refl, sym}
use Rattle.std.proofs.Common.{ap, ◌∙◌, append-nil, lit<}
use Rattle.std.specs.Prelude.{FitsSigned}
use Rattle.serf_message.specs.declared.layout.Key.TheVariants as keys
use Rattle.serf_message.specs.declared.layout.Kind.TheVariants as kinds
use Rattle.serf_message.specs.Layouts.{leave_layout, join_layout, event_layout, query_layout, response_layout, relay_layout, address_layout}
use Rattle.serf_message.specs.Messages.{LeaveValue, JoinValue, EventValue, QueryValue, ResponseValue, RelayValue}
use Rattle.serf_message.specs.Messages.{MessageValue, message_of, message_after, leave_after, join_after, event_after}
use Rattle.serf_message.specs.Messages.{query_after, query_from, response_after, relay_after}
use Rattle.serf_message.specs.Reading.{Fields, fields_at, fields_in, pairs_at, value_at, number_value_at}
use Rattle.std.specs.List.{flat_map}
use Rattle.serf_message.specs.Slots.{Slot, Slots, no_slots}
use Rattle.serf_message.specs.Writing.{Spelled, Entry, IsShort, IsShortQuery, IsShortRelay, IsInRange, IsQueryInRange}
use Rattle.serf_message.specs.Writing.{entry_text, entries_text, signed_text, list_text, message_bytes, leave_entries}
use Rattle.serf_message.specs.Writing.{join_entries, event_entries, query_entries, response_entries, address_entries}
use Rattle.serf_message.specs.Writing.{relay_entries}
use Rattle.serf_message.proofs.Again.{read, entry_step, fields_again, huge_again, long_again, short_again, tiny_again}
use Rattle.serf_message.proofs.Again.{string_again, array_again, truth_again}
use Rattle.serf_message.proofs.Signs.{signed_again}
use Rattle.serf_message.proofs.Skipped.{ArePassed, whole_again, list_text_passed, list_text_again, map_passed}
use Rattle.serf_message.proofs.Skipped.{bytes_passed, number_passed, raw_passed}
use Rattle.serf_message.proofs.Slotting.{no_pairs, filled}

-- a map of fields, behind which nothing follows
pub alone_again : (layout : Fields) (entries : List Entry) (out : Slots) → length entries < 16
    → pairs_at layout (length entries) no_slots (flat_map entry_text entries ++ []) ≡ filled out []
    → fields_at layout (entries_text entries) ≡ filled out []
alone_again layout entries out few e = ap (fields_at layout) (sym (append-nil (entries_text entries)))
    ∙ fields_again layout entries out [] few e

join_again : (m : JoinValue) → m.time < 2 ^ 64 → length m.node < 2 ^ 16
    → message_of (message_bytes (MessageValue.join m)) ≡ Ok (MessageValue.join m)
unfolding message_of message_after join_after
join_again m time node =
    let e2 : Entry = (keys.Node, Spelled.text m.node) in
    let e1 : Entry = (keys.Time, Spelled.number m.time) in
    let s1 = entry_step join_layout e1 (e2 ∷ []) no_slots 0 (Slot.huge m.time) [] (lit< tt) refl (lit< tt)
    (λ more. huge_again None m.time more time) in
    let s2 = entry_step join_layout e2 [] _ 1 (Slot.raw m.node) [] (lit< tt) refl (lit< tt) (λ more. string_again None m.node more node) in
    let fields = alone_again join_layout (join_entries m) _ (lit< tt) (s1 ∙ s2 ∙ no_pairs join_layout 0 _ _ refl) in
    rw fields refl

leave_again : (m : LeaveValue) → m.time < 2 ^ 64 → length m.node < 2 ^ 16
    → message_of (message_bytes (MessageValue.leave m)) ≡ Ok (MessageValue.leave m)
unfolding message_of message_after leave_after
leave_again m time node =
    let e3 : Entry = (keys.Prune, Spelled.flag m.prune) in
    let e2 : Entry = (keys.Node, Spelled.text m.node) in
    let e1 : Entry = (keys.Time, Spelled.number m.time) in
    let s1 = entry_step leave_layout e1 (e2 ∷ e3 ∷ []) no_slots 0 (Slot.huge m.time) [] (lit< tt) refl
    (lit< tt) (λ more. huge_again None m.time more time) in
    let s2 = entry_step leave_layout e2 (e3 ∷ []) _ 1 (Slot.raw m.node) [] (lit< tt) refl (lit< tt)
    (λ more. string_again None m.node more node) in
    let s3 = entry_step leave_layout e3 [] _ 2 (Slot.flag m.prune) [] (lit< tt) refl (lit< tt) (λ more. truth_again None m.prune more) in
    let fields = alone_again leave_layout (leave_entries m) _ (lit< tt) (s1 ∙ s2 ∙ s3 ∙ no_pairs leave_layout 0 _ _ refl) in
    rw fields refl

event_again : (m : EventValue) → m.time < 2 ^ 64 → length m.name < 2 ^ 16 → length m.payload < 2 ^ 16
    → message_of (message_bytes (MessageValue.event m)) ≡ Ok (MessageValue.event m)
unfolding message_of message_after event_after
event_again m time name payload =
    let e4 : Entry = (keys.Payload, Spelled.bytes m.payload) in
    let e3 : Entry = (keys.Name, Spelled.text m.name) in
    let e2 : Entry = (keys.Time, Spelled.number m.time) in
    let e1 : Entry = (keys.Coalesce, Spelled.flag m.coalesce) in
    let s1 = entry_step event_layout e1 (e2 ∷ e3 ∷ e4 ∷ []) no_slots 3 (Slot.flag m.coalesce) []
    (lit< tt) refl (lit< tt) (λ more. truth_again None m.coalesce more) in
    let s2 = entry_step event_layout e2 (e3 ∷ e4 ∷ []) _ 0 (Slot.huge m.time) [] (lit< tt) refl (lit< tt)
    (λ more. huge_again None m.time more time) in
    let s3 = entry_step event_layout e3 (e4 ∷ []) _ 1 (Slot.raw m.name) [] (lit< tt) refl (lit< tt)
    (λ more. string_again None m.name more name) in
    let s4 = entry_step event_layout e4 [] _ 2 (Slot.raw m.payload) [] (lit< tt) refl (lit< tt)
    (λ more. array_again None m.payload more payload) in
    let fields = alone_again event_layout (event_entries m) _ (lit< tt) (s1 ∙ s2 ∙ s3 ∙ s4 ∙ no_pairs event_layout 0 _ _ refl) in
    rw fields refl

-- the values of a query
abbrev query_slots : QueryValue → Slots
query_slots m =
    Some (Slot.huge m.time) ∷ Some (Slot.long m.id) ∷ Some (Slot.raw m.addr) ∷ Some (Slot.short m.port) ∷ Some (Slot.raw m.source_node)
    ∷ Some (Slot.raw (list_text m.filters)) ∷ Some (Slot.long m.flags) ∷ Some (Slot.tiny m.relay_factor) ∷ Some (Slot.signed m.timeout)
    ∷ Some (Slot.raw m.name) ∷ Some (Slot.raw m.payload) ∷ []

-- the values of an address
abbrev address_slots : RelayValue → Slots
address_slots m =
    Some (Slot.raw m.addr) ∷ Some (Slot.short m.port) ∷ Some (Slot.raw m.zone) ∷ None ∷ None ∷ None ∷ None ∷ None ∷ None ∷ None ∷ None ∷ []

-- a number with a sign is read into its slot
signed_field_again : (old : Option Slot) (z : ℤ) (rest : List ℕ) → FitsSigned w64 z
    → value_at kinds.Int64 old (signed_text z ++ rest) ≡ read (Slot.signed z) rest
unfolding value_at number_value_at
signed_field_again old z rest fits = rw (signed_again z rest fits) refl

-- the bytes of a value are read into its slot
pub whole_field_again : (old : Option Slot) (t rest : List ℕ) → ArePassed 1 t
    → value_at kinds.Whole old (t ++ rest) ≡ read (Slot.raw t) rest
unfolding value_at number_value_at
whole_field_again old t rest passed = rw (whole_again t rest passed) refl

query_fields_again : (m : QueryValue) → IsShortQuery m → IsQueryInRange m
    → fields_at query_layout (entries_text (query_entries m)) ≡ filled (query_slots m) []
query_fields_again m short range =
    let e11 : Entry = (keys.Timeout, Spelled.signed m.timeout) in
    let e10 : Entry = (keys.SourceNode, Spelled.text m.source_node) in
    let e9 : Entry = (keys.RelayFactor, Spelled.number m.relay_factor) in
    let e8 : Entry = (keys.Port, Spelled.number m.port) in
    let e7 : Entry = (keys.Payload, Spelled.bytes m.payload) in
    let e6 : Entry = (keys.Name, Spelled.text m.name) in
    let e5 : Entry = (keys.Time, Spelled.number m.time) in
    let e4 : Entry = (keys.Id, Spelled.number m.id) in
    let e3 : Entry = (keys.Flags, Spelled.number m.flags) in
    let e2 : Entry = (keys.Filters, Spelled.whole (list_text m.filters)) in
    let e1 : Entry = (keys.Addr, Spelled.bytes m.addr) in
    let s1 = entry_step query_layout e1 (e2 ∷ e3 ∷ e4 ∷ e5 ∷ e6 ∷ e7 ∷ e8 ∷ e9 ∷ e10 ∷ e11 ∷ []) no_slots 2
    (Slot.raw m.addr) [] (lit< tt) refl (lit< tt) (λ more. array_again _ m.addr more short.addr) in
    let s2 = entry_step query_layout e2 (e3 ∷ e4 ∷ e5 ∷ e6 ∷ e7 ∷ e8 ∷ e9 ∷ e10 ∷ e11 ∷ []) _ 5
    (Slot.raw (list_text m.filters)) [] (lit< tt) refl (lit< tt)
    (λ more. whole_field_again _ (list_text m.filters) more
    (list_text_passed m.filters short.filters)) in
    let s3 = entry_step query_layout e3 (e4 ∷ e5 ∷ e6 ∷ e7 ∷ e8 ∷ e9 ∷ e10 ∷ e11 ∷ []) _ 6
    (Slot.long m.flags) [] (lit< tt) refl (lit< tt) (λ more. long_again _ m.flags more range.flags) in
    let s4 = entry_step query_layout e4 (e5 ∷ e6 ∷ e7 ∷ e8 ∷ e9 ∷ e10 ∷ e11 ∷ []) _ 1 (Slot.long m.id) []
    (lit< tt) refl (lit< tt) (λ more. long_again _ m.id more range.id) in
    let s5 = entry_step query_layout e5 (e6 ∷ e7 ∷ e8 ∷ e9 ∷ e10 ∷ e11 ∷ []) _ 0 (Slot.huge m.time) []
    (lit< tt) refl (lit< tt) (λ more. huge_again _ m.time more range.time) in
    let s6 = entry_step query_layout e6 (e7 ∷ e8 ∷ e9 ∷ e10 ∷ e11 ∷ []) _ 9 (Slot.raw m.name) []
    (lit< tt) refl (lit< tt) (λ more. string_again _ m.name more short.name) in
    let s7 = entry_step query_layout e7 (e8 ∷ e9 ∷ e10 ∷ e11 ∷ []) _ 10 (Slot.raw m.payload) []
    (lit< tt) refl (lit< tt) (λ more. array_again _ m.payload more short.payload) in
    let s8 = entry_step query_layout e8 (e9 ∷ e10 ∷ e11 ∷ []) _ 3 (Slot.short m.port) [] (lit< tt) refl
    (lit< tt) (λ more. short_again _ m.port more range.port) in
    let s9 = entry_step query_layout e9 (e10 ∷ e11 ∷ []) _ 7 (Slot.tiny m.relay_factor) [] (lit< tt) refl
    (lit< tt) (λ more. tiny_again _ m.relay_factor more range.relay_factor) in
    let s10 = entry_step query_layout e10 (e11 ∷ []) _ 4 (Slot.raw m.source_node) [] (lit< tt) refl (lit< tt)
    (λ more. string_again _ m.source_node more short.source_node) in
    let s11 = entry_step query_layout e11 [] _ 8 (Slot.signed m.timeout) [] (lit< tt) refl (lit< tt)
    (λ more. signed_field_again _ m.timeout more range.timeout) in
    alone_again query_layout (query_entries m) (query_slots m) (lit< tt)
    (s1 ∙ s2 ∙ s3 ∙ s4 ∙ s5 ∙ s6 ∙ s7 ∙ s8 ∙ s9 ∙ s10 ∙ s11 ∙ no_pairs query_layout 0 _ _ refl)

query_again : (m : QueryValue) → IsShortQuery m → IsQueryInRange m
    → message_of (message_bytes (MessageValue.query m)) ≡ Ok (MessageValue.query m)
unfolding message_of message_after query_after query_from
query_again m short range = rw (query_fields_again m short range, list_text_again m.filters short.filters) refl

response_again : (m : ResponseValue) → m.time < 2 ^ 64 → m.id < 2 ^ 32 → m.flags < 2 ^ 32
    → length m.from < 2 ^ 16 → length m.payload < 2 ^ 16
    → message_of (message_bytes (MessageValue.response m)) ≡ Ok (MessageValue.response m)
unfolding message_of message_after response_after
response_again m time id flags from payload =
    let e5 : Entry = (keys.Payload, Spelled.bytes m.payload) in
    let e4 : Entry = (keys.Time, Spelled.number m.time) in
    let e3 : Entry = (keys.Id, Spelled.number m.id) in
    let e2 : Entry = (keys.From, Spelled.text m.from) in
    let e1 : Entry = (keys.Flags, Spelled.number m.flags) in
    let s1 = entry_step response_layout e1 (e2 ∷ e3 ∷ e4 ∷ e5 ∷ []) no_slots 3 (Slot.long m.flags) []
    (lit< tt) refl (lit< tt) (λ more. long_again _ m.flags more flags) in
    let s2 = entry_step response_layout e2 (e3 ∷ e4 ∷ e5 ∷ []) _ 2 (Slot.raw m.from) [] (lit< tt) refl
    (lit< tt) (λ more. string_again _ m.from more from) in
    let s3 = entry_step response_layout e3 (e4 ∷ e5 ∷ []) _ 1 (Slot.long m.id) [] (lit< tt) refl (lit< tt)
    (λ more. long_again _ m.id more id) in
    let s4 = entry_step response_layout e4 (e5 ∷ []) _ 0 (Slot.huge m.time) [] (lit< tt) refl (lit< tt)
    (λ more. huge_again _ m.time more time) in
    let s5 = entry_step response_layout e5 [] _ 4 (Slot.raw m.payload) [] (lit< tt) refl (lit< tt)
    (λ more. array_again _ m.payload more payload) in
    let fields = alone_again response_layout (response_entries m) _ (lit< tt)
    (s1 ∙ s2 ∙ s3 ∙ s4 ∙ s5 ∙ no_pairs response_layout 0 _ _ refl) in
    rw fields refl

address_again : (m : RelayValue) → IsShortRelay m → m.port < 2 ^ 16
    → fields_at address_layout (entries_text (address_entries m)) ≡ filled (address_slots m) []
address_again m short port =
    let e3 : Entry = (keys.Zone, Spelled.text m.zone) in
    let e2 : Entry = (keys.Port, Spelled.number m.port) in
    let e1 : Entry = (keys.Ip, Spelled.bytes m.addr) in
    let s1 = entry_step address_layout e1 (e2 ∷ e3 ∷ []) no_slots 0 (Slot.raw m.addr) [] (lit< tt) refl
    (lit< tt) (λ more. array_again _ m.addr more short.addr) in
    let s2 = entry_step address_layout e2 (e3 ∷ []) _ 1 (Slot.short m.port) [] (lit< tt) refl (lit< tt)
    (λ more. short_again _ m.port more port) in
    let s3 = entry_step address_layout e3 [] _ 2 (Slot.raw m.zone) [] (lit< tt) refl (lit< tt)
    (λ more. string_again _ m.zone more short.zone) in
    alone_again address_layout (address_entries m) (address_slots m) (lit< tt) (s1 ∙ s2 ∙ s3 ∙ no_pairs address_layout 0 _ _ refl)

address_passed : (m : RelayValue) → IsShortRelay m → ArePassed 1 (entries_text (address_entries m))
address_passed m short =
    map_passed (address_entries m) (lit< tt) (
      (lit< tt, bytes_passed m.addr short.addr),
      ((lit< tt, number_passed m.port), ((lit< tt, raw_passed m.zone short.zone), tt)),
    )

relay_again : (m : RelayValue) → IsShortRelay m → m.port < 2 ^ 16
    → message_of (message_bytes (MessageValue.relay m)) ≡ Ok (MessageValue.relay m)
unfolding message_of message_after relay_after fields_in
relay_again m short port =
    let e2 : Entry = (keys.DestName, Spelled.text m.name) in
    let e1 : Entry = (keys.DestAddr, Spelled.whole (entries_text (address_entries m))) in
    let s1 = entry_step relay_layout e1 (e2 ∷ []) no_slots 0
    (Slot.raw (entries_text (address_entries m))) m.message (lit< tt) refl (lit< tt)
    (λ more. whole_field_again _ (entries_text (address_entries m)) more (address_passed m short)) in
    let s2 = entry_step relay_layout e2 [] _ 1 (Slot.raw m.name) m.message (lit< tt) refl (lit< tt)
    (λ more. string_again _ m.name more short.name) in
    let fields = fields_again relay_layout (relay_entries m) _ m.message (lit< tt) (s1 ∙ s2 ∙ no_pairs relay_layout 0 _ _ refl) in
    rw (fields, address_again m short port) refl

pub message_again : (m : MessageValue) → IsShort m → IsInRange m → message_of (message_bytes m) ≡ Ok m
message_again (MessageValue.leave m) short range = leave_again m range short
message_again (MessageValue.join m) short range = join_again m range short
message_again (MessageValue.event m) short range = event_again m range short.0 short.1
message_again (MessageValue.query m) short range = query_again m short range
message_again (MessageValue.response m) short range = response_again m range.0 range.1 range.2 short.0 short.1
message_again (MessageValue.relay m) short range = relay_again m short range
