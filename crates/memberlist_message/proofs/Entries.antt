-- Maps that are written are read back, and with them pings.
use Rattle.std.proofs.Common.{◌≡◌, ℕ, suc, ◌+◌, ◌-◌, ◌<◌, ◌^◌, Bool, true, false, cond, not, ltb, eqb, List, [], ◌∷◌}
use Rattle.std.proofs.Common.{◌++◌, length, set, Option, Some, None, Ok, refl, sym, ap, ◌∙◌, append_assoc, append-nil}
use Rattle.std.proofs.Common.{lit<, arith}
use Rattle.std.specs.Prelude.{count_by}
use Rattle.std.specs.List.{flat_map}
use Rattle.std.proofs.lemmas.Bool.{lt-ltb, le-ltb, eqb-true}
use Rattle.std.proofs.lemmas.List.{nil_from_length}
use Rattle.std.proofs.lemmas.List.Sums.{count_by-le-length, sum_by-cons}
use Rattle.swim_pack.specs.Spelling.{number_text, raw_text, flag_text}
use Rattle.swim_wire.specs.Layout.Spelled.{number, raw as raws, flag as flags}
use Rattle.swim_wire.specs.Pairs.{value_text}
use Rattle.memberlist_message.specs.declared.form.Count.TheVariants.{Fixed}
use Rattle.memberlist_message.specs.declared.form.Form.TheVariants as forms
use Rattle.memberlist_message.specs.declared.layout.Key.TheVariants as keys
use Rattle.memberlist_message.specs.declared.layout.Kind.TheVariants as kinds
use Rattle.memberlist_message.specs.Forms.{form_of}
use Rattle.memberlist_message.specs.Keys.{key_text}
use Rattle.memberlist_message.specs.Layouts.{ping_layout, indirect_ping_layout}
use Rattle.memberlist_message.specs.Messages.{PingValue, IndirectPingValue, MessageValue, message_of, message_after}
use Rattle.memberlist_message.specs.Messages.{claimless_after, ping_after, indirect_ping_after, ping_of}
use Rattle.memberlist_message.specs.Messages.{indirect_ping_of}
use Rattle.memberlist_message.specs.Reading.{Fields, count_at, fields_at, fields_of, in_map, pair_at, pairs_at, value_at}
use Rattle.memberlist_message.specs.Slots.{Slot, Slots, slot, no_slots}
use Rattle.memberlist_message.specs.Slots.Slot.{long, short, raw, flag}
use Rattle.memberlist_message.specs.Writing.{Entry, is_written, entry_text, entries_text, ping_entries, ping_bytes}
use Rattle.memberlist_message.specs.Writing.{indirect_ping_entries, indirect_ping_bytes}
use Rattle.memberlist_message.proofs.Again.{read, number_again, flag_again, pair_again, long_again, string_again, array_again}
use Rattle.memberlist_message.proofs.Slotting.{one_pair, no_pairs, filled}

step_by : (layout : Fields) (b : Bool) (n : ℕ) (slots out : Slots) (text more : List ℕ)
    → pair_at layout slots (text ++ more) ≡ filled out more
    → pairs_at layout (cond b (suc n) n) slots (cond b text [] ++ more) ≡ pairs_at layout n (cond b out slots) more
step_by layout true n slots out text more e = one_pair layout (suc n) n slots out (text ++ more) more refl e
step_by layout false n slots out text more e = refl

count_one : (entry : Entry) (entries : List Entry)
    → count_by is_written (entry ∷ entries) ≡ cond (is_written entry) (suc (count_by is_written entries))
    (count_by is_written entries)
count_one entry entries = sum_by-cons
    (λ x. cond (is_written x) 1 0) entry entries
    ∙ count_of (is_written entry) (count_by is_written entries)
  where
    count_of : (b : Bool) (n : ℕ) → cond b 1 0 + n ≡ cond b (suc n) n
    count_of true n = omega arith
    count_of false n = omega arith

-- one field, if it is written
entry_step : (layout : Fields) (entry : Entry) (entries : List Entry) (slots out : Slots) (rest : List ℕ)
    → pair_at layout slots ((raw_text (key_text entry.0) ++ value_text entry.1)
    ++ (flat_map entry_text entries ++ rest)) ≡ filled out (flat_map entry_text entries ++ rest)
    → pairs_at layout (count_by is_written (entry ∷ entries)) slots (flat_map entry_text (entry ∷ entries) ++ rest)
    ≡ pairs_at layout (count_by is_written entries) (cond (is_written entry) out slots) (flat_map entry_text entries ++ rest)
entry_step layout entry entries slots out rest e =
    let more = flat_map entry_text entries ++ rest in
    ap (λ n. pairs_at layout n slots (flat_map entry_text (entry ∷ entries) ++ rest)) (count_one entry entries)
    ∙ ap (pairs_at layout (cond (is_written entry) (suc (count_by is_written entries))
    (count_by is_written entries)) slots)
    (append_assoc (entry_text entry) (flat_map entry_text entries) rest)
    ∙ step_by layout (is_written entry) (count_by is_written entries) slots out (raw_text (key_text entry.0) ++ value_text entry.1) more e

map_form : (n : ℕ) → n < 16 → form_of (0x80 + n) ≡ Some (forms.Map (Fixed n))
unfolding form_of
map_form n lt =
    let a : ltb (0x80 + n) 0x80 ≡ false = le-ltb _ _ (omega arith) in
    let b : ltb (0x80 + n) 0x90 ≡ true = lt-ltb _ _ (omega arith) in
    let e : 0x80 + n - 0x80 ≡ n = omega arith in
    rw (a, b, e) refl

-- a map of fields
fields_again : (layout : Fields) (entries : List Entry) (out : Slots) → length entries < 16
    → pairs_at layout (count_by is_written entries) no_slots
    (flat_map entry_text entries ++ []) ≡ filled out []
    → fields_at layout (entries_text entries) ≡ filled out []
unfolding fields_at fields_of in_map count_at
fields_again layout entries out few e =
    let lt : count_by is_written entries < 16 = omega (arith, count_by-le-length is_written entries) in
    rw (map_form (count_by is_written entries) lt)
    (ap (pairs_at layout (count_by is_written entries) no_slots)
    (sym (append-nil (flat_map entry_text entries))) ∙ e)

short_again : (old : Option Slot) (v : ℕ) (rest : List ℕ) → v < 2 ^ 16
    → value_at kinds.Uint16 old (number_text v ++ rest) ≡ read (short v) rest
unfolding value_at
short_again old v rest lt = rw (number_again 0xffff v rest (omega arith) (omega arith)) refl

truth_again : (old : Option Slot) (f : Bool) (rest : List ℕ) → value_at kinds.Flag old (flag_text f ++ rest) ≡ read (flag f) rest
unfolding value_at
truth_again old f rest = rw (flag_again f rest) refl

-- what is left out is zero
not_false : (b : Bool) → not b ≡ false → b ≡ true
not_false true e = refl
not_false false e = absurd cc

no_raw : (s : List ℕ) → not (eqb (length s) 0) ≡ false → s ≡ []
no_raw s e = nil_from_length s (eqb-true _ _ (not_false _ e))

no_number : (v : ℕ) → not (eqb v 0) ≡ false → v ≡ 0
no_number v e = eqb-true _ _ (not_false _ e)

-- ---- a ping

abbrev ping_slots : Bool → Bool → Bool → PingValue → Slots
ping_slots addr node port p =
    let two = set (set no_slots 1 (Some (raw p.node))) 0 (Some (long p.seq_no)) in
    let three = cond addr (set two 2 (Some (raw p.source_addr))) two in
    let four = cond node (set three 4 (Some (raw p.source_node))) three in
    cond port (set four 3 (Some (short p.source_port))) four

abbrev record_of : PingValue → List ℕ → List ℕ → ℕ → PingValue
record_of p addr node port = record { seq_no = p.seq_no; node = p.node; source_addr = addr; source_port = port; source_node = node }

ping_equal : (p : PingValue) (addr node : List ℕ) (port : ℕ) → addr ≡ p.source_addr → node ≡ p.source_node → port ≡ p.source_port
    → record_of p addr node port ≡ p
ping_equal p addr node port a n o = rw (a, n, o) refl

ping_filled : (addr node port : Bool) (p : PingValue) → (addr ≡ false → p.source_addr ≡ [])
    → (node ≡ false → p.source_node ≡ []) → (port ≡ false → p.source_port ≡ 0)
    → ping_of (ping_slots addr node port p) ≡ p
ping_filled true true true p a n o = refl
ping_filled true true false p a n o = ping_equal p p.source_addr p.source_node 0 refl refl (sym (o refl))
ping_filled true false true p a n o = ping_equal p p.source_addr [] p.source_port refl (sym (n refl)) refl
ping_filled true false false p a n o = ping_equal p p.source_addr [] 0 refl (sym (n refl)) (sym (o refl))
ping_filled false true true p a n o = ping_equal p [] p.source_node p.source_port (sym (a refl)) refl refl
ping_filled false true false p a n o = ping_equal p [] p.source_node 0 (sym (a refl)) refl (sym (o refl))
ping_filled false false true p a n o = ping_equal p [] [] p.source_port (sym (a refl)) (sym (n refl)) refl
ping_filled false false false p a n o = ping_equal p [] [] 0 (sym (a refl)) (sym (n refl)) (sym (o refl))

pub ping_again : (p : PingValue) → p.seq_no < 2 ^ 32 → p.source_port < 2 ^ 16 → length p.node < 2 ^ 16
    → length p.source_addr < 2 ^ 16 → length p.source_node < 2 ^ 16
    → message_of (ping_bytes p) ≡ Ok (MessageValue.ping p)
unfolding message_of message_after claimless_after ping_after
ping_again p seq port node addr source =
    let e5 : Entry = (keys.SourcePort, number p.source_port) in
    let e4 : Entry = (keys.SourceNode, raws p.source_node) in
    let e3 : Entry = (keys.SourceAddr, raws p.source_addr) in
    let e2 : Entry = (keys.SeqNo, number p.seq_no) in
    let e1 : Entry = (keys.Node, raws p.node) in
    let s1 = entry_step ping_layout e1 (e2 ∷ e3 ∷ e4 ∷ e5 ∷ []) no_slots _ []
    (pair_again ping_layout no_slots (key_text keys.Node) (raw_text p.node) _ 1 (raw p.node) (lit< tt) refl
    (lit< tt) (string_again None p.node _ node)) in
    let s2 = entry_step ping_layout e2 (e3 ∷ e4 ∷ e5 ∷ []) _ _ []
    (pair_again ping_layout _ (key_text keys.SeqNo) (number_text p.seq_no) _ 0 (long p.seq_no) (lit< tt) refl
    (lit< tt) (long_again None p.seq_no _ seq)) in
    let s3 = entry_step ping_layout e3 (e4 ∷ e5 ∷ []) _ _ []
    (pair_again ping_layout _ (key_text keys.SourceAddr) (raw_text p.source_addr) _ 2 (raw p.source_addr)
    (lit< tt) refl (lit< tt) (array_again p.source_addr _ addr)) in
    let s4 = entry_step ping_layout e4 (e5 ∷ []) _ _ []
    (pair_again ping_layout _ (key_text keys.SourceNode) (raw_text p.source_node) _ 4 (raw p.source_node)
    (lit< tt) refl (lit< tt) (string_again _ p.source_node _ source)) in
    let s5 = entry_step ping_layout e5 [] _ _ []
    (pair_again ping_layout _ (key_text keys.SourcePort) (number_text p.source_port) _ 3
    (short p.source_port) (lit< tt) refl (lit< tt) (short_again _ p.source_port _ port)) in
    let all = s1 ∙ s2 ∙ s3 ∙ s4 ∙ s5 ∙ no_pairs ping_layout 0 _ _ refl in
    let fields = fields_again ping_layout (ping_entries p) _ (omega arith) all in
    rw fields (ap (λ (v : PingValue). Ok (MessageValue.ping v))
    (ping_filled _ _ _ p (no_raw p.source_addr) (no_raw p.source_node) (no_number p.source_port)))

-- ---- an indirect ping

abbrev sourced_slots : Bool → Bool → Bool → IndirectPingValue → Slots
sourced_slots addr node port p =
    let four = set (set (set (set no_slots 4 (Some (flag p.nack))) 3 (Some (raw p.node))) 2
    (Some (short p.port))) 0 (Some (long p.seq_no)) in
    let five = cond addr (set four 5 (Some (raw p.source_addr))) four in
    let six = cond node (set five 7 (Some (raw p.source_node))) five in
    cond port (set six 6 (Some (short p.source_port))) six

no_target : (addr node port : Bool) (p : IndirectPingValue) → slot (sourced_slots addr node port p) 1 ≡ None
no_target true true true p = refl
no_target true true false p = refl
no_target true false true p = refl
no_target true false false p = refl
no_target false true true p = refl
no_target false true false p = refl
no_target false false true p = refl
no_target false false false p = refl

abbrev indirect_of : IndirectPingValue → List ℕ → List ℕ → ℕ → IndirectPingValue
indirect_of p addr node port = record {
  seq_no = p.seq_no;
  target = p.target;
  port = p.port;
  node = p.node;
  nack = p.nack;
  source_addr = addr;
  source_port = port;
  source_node = node;
}

indirect_equal : (p : IndirectPingValue) (addr node : List ℕ) (port : ℕ) → addr ≡ p.source_addr
    → node ≡ p.source_node → port ≡ p.source_port
    → indirect_of p addr node port ≡ p
indirect_equal p addr node port a n o = rw (a, n, o) refl

indirect_filled : (addr node port : Bool) (p : IndirectPingValue) → (addr ≡ false → p.source_addr ≡ [])
    → (node ≡ false → p.source_node ≡ []) → (port ≡ false → p.source_port ≡ 0)
    → indirect_ping_of (set (sourced_slots addr node port p) 1 (Some (raw p.target))) ≡ p
indirect_filled true true true p a n o = refl
indirect_filled true true false p a n o = indirect_equal p p.source_addr p.source_node 0 refl refl (sym (o refl))
indirect_filled true false true p a n o = indirect_equal p p.source_addr [] p.source_port refl (sym (n refl)) refl
indirect_filled true false false p a n o = indirect_equal p p.source_addr [] 0 refl (sym (n refl)) (sym (o refl))
indirect_filled false true true p a n o = indirect_equal p [] p.source_node p.source_port (sym (a refl)) refl refl
indirect_filled false true false p a n o = indirect_equal p [] p.source_node 0 (sym (a refl)) refl (sym (o refl))
indirect_filled false false true p a n o = indirect_equal p [] [] p.source_port (sym (a refl)) (sym (n refl)) refl
indirect_filled false false false p a n o = indirect_equal p [] [] 0 (sym (a refl)) (sym (n refl)) (sym (o refl))

pub indirect_ping_again : (p : IndirectPingValue) → p.seq_no < 2 ^ 32 → p.port < 2 ^ 16
    → p.source_port < 2 ^ 16 → length p.target < 2 ^ 16 → length p.node < 2 ^ 16
    → length p.source_addr < 2 ^ 16 → length p.source_node < 2 ^ 16 → message_of (indirect_ping_bytes p) ≡ Ok (MessageValue.indirect_ping p)
unfolding message_of message_after claimless_after indirect_ping_after
indirect_ping_again p seq port sourced target node addr source =
    let layout = indirect_ping_layout in
    let e8 : Entry = (keys.Target, raws p.target) in
    let e7 : Entry = (keys.SourcePort, number p.source_port) in
    let e6 : Entry = (keys.SourceNode, raws p.source_node) in
    let e5 : Entry = (keys.SourceAddr, raws p.source_addr) in
    let e4 : Entry = (keys.SeqNo, number p.seq_no) in
    let e3 : Entry = (keys.Port, number p.port) in
    let e2 : Entry = (keys.Node, raws p.node) in
    let e1 : Entry = (keys.Nack, flags p.nack) in
    let s1 = entry_step layout e1 (e2 ∷ e3 ∷ e4 ∷ e5 ∷ e6 ∷ e7 ∷ e8 ∷ []) no_slots _ []
    (pair_again layout no_slots (key_text keys.Nack) (flag_text p.nack) _ 4 (flag p.nack) (lit< tt) refl
    (lit< tt) (truth_again None p.nack _)) in
    let s2 = entry_step layout e2 (e3 ∷ e4 ∷ e5 ∷ e6 ∷ e7 ∷ e8 ∷ []) _ _ []
    (pair_again layout _ (key_text keys.Node) (raw_text p.node) _ 3 (raw p.node) (lit< tt) refl (lit< tt)
    (string_again None p.node _ node)) in
    let s3 = entry_step layout e3 (e4 ∷ e5 ∷ e6 ∷ e7 ∷ e8 ∷ []) _ _ []
    (pair_again layout _ (key_text keys.Port) (number_text p.port) _ 2 (short p.port) (lit< tt) refl
    (lit< tt) (short_again None p.port _ port)) in
    let s4 = entry_step layout e4 (e5 ∷ e6 ∷ e7 ∷ e8 ∷ []) _ _ []
    (pair_again layout _ (key_text keys.SeqNo) (number_text p.seq_no) _ 0 (long p.seq_no) (lit< tt) refl
    (lit< tt) (long_again None p.seq_no _ seq)) in
    let s5 = entry_step layout e5 (e6 ∷ e7 ∷ e8 ∷ []) _ _ []
    (pair_again layout _ (key_text keys.SourceAddr) (raw_text p.source_addr) _ 5 (raw p.source_addr)
    (lit< tt) refl (lit< tt) (array_again p.source_addr _ addr)) in
    let s6 = entry_step layout e6 (e7 ∷ e8 ∷ []) _ _ []
    (pair_again layout _ (key_text keys.SourceNode) (raw_text p.source_node) _ 7 (raw p.source_node)
    (lit< tt) refl (lit< tt) (string_again _ p.source_node _ source)) in
    let s7 = entry_step layout e7 (e8 ∷ []) _ _ []
    (pair_again layout _ (key_text keys.SourcePort) (number_text p.source_port) _ 6 (short p.source_port)
    (lit< tt) refl (lit< tt) (short_again _ p.source_port _ sourced)) in
    let last = sourced_slots (is_written e5) (is_written e6) (is_written e7) p in
    let vacant = no_target (is_written e5) (is_written e6) (is_written e7) p in
    let s8 = entry_step layout e8 [] last _ []
    (pair_again layout last (key_text keys.Target) (raw_text p.target) [] 1 (raw p.target) (lit< tt) refl (lit< tt)
    (ap (λ (old : Option Slot). value_at kinds.Bytes old (raw_text p.target ++ [])) vacant ∙ array_again p.target [] target)) in
    let all = s1 ∙ s2 ∙ s3 ∙ s4 ∙ s5 ∙ s6 ∙ s7 ∙ s8 ∙ no_pairs layout 0 _ _ refl in
    let fields = fields_again layout (indirect_ping_entries p) _ (lit< tt) all in
    rw fields (ap (λ (v : IndirectPingValue). Ok (MessageValue.indirect_ping v))
    (indirect_filled _ _ _ p (no_raw p.source_addr) (no_raw p.source_node) (no_number p.source_port)))
