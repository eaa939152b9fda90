-- Messages that are written are read back.
use Rattle.std.proofs.Common.{◌≡◌, ℕ, ◌<◌, ◌^◌, List, [], ◌++◌, length, None, Ok, refl, ◌∙◌, arith}
use Rattle.swim_pack.specs.Spelling.{number_text, raw_text}
use Rattle.memberlist_message.specs.declared.layout.Key.TheVariants as keys
use Rattle.memberlist_message.specs.Forms.{form_of}
use Rattle.memberlist_message.specs.Keys.{key_text}
use Rattle.memberlist_message.specs.Layouts.{ack_layout, nack_layout, error_layout}
use Rattle.memberlist_message.specs.Messages.{AckValue, MessageValue, message_of, message_after, claimless_after}
use Rattle.memberlist_message.specs.Messages.{ack_after, nack_after, error_after}
use Rattle.memberlist_message.specs.Reading.{count_at, fields_at, fields_of, in_map}
use Rattle.memberlist_message.specs.Slots.{no_slots}
use Rattle.memberlist_message.specs.Slots.Slot.{long, raw}
use Rattle.memberlist_message.specs.Writing.{ack_bytes, nack_bytes, user_bytes, error_bytes}
use Rattle.memberlist_message.proofs.Again.{pair_again, long_again, string_again, array_again}
use Rattle.memberlist_message.proofs.Slotting.{one_pair, no_pairs}

pub user_again : (bytes : List ℕ) → message_of (user_bytes bytes) ≡ Ok (MessageValue.user bytes)
unfolding message_of message_after claimless_after
user_again bytes = refl

pub nack_again : (seq_no : ℕ) → seq_no < 2 ^ 32 → message_of (nack_bytes seq_no) ≡ Ok (MessageValue.nack seq_no)
unfolding message_of message_after claimless_after nack_after fields_at fields_of in_map count_at form_of
nack_again seq_no lt =
    let key = key_text keys.SeqNo in
    let first = pair_again nack_layout no_slots key (number_text seq_no) [] 0 (long seq_no)
    (omega arith) refl (omega arith) (long_again None seq_no [] lt) in
    let all = one_pair nack_layout 1 0 no_slots _ _ _ refl first ∙ no_pairs nack_layout 0 _ _ refl in
    rw all refl

pub error_again : (text : List ℕ) → length text < 2 ^ 16 → message_of (error_bytes text) ≡ Ok (MessageValue.error text)
unfolding message_of message_after claimless_after error_after fields_at fields_of in_map count_at form_of
error_again text lt =
    let key = key_text keys.Error in
    let first = pair_again error_layout no_slots key (raw_text text) [] 0 (raw text) (omega arith) refl
    (omega arith) (string_again None text [] lt) in
    let all = one_pair error_layout 1 0 no_slots _ _ _ refl first ∙ no_pairs error_layout 0 _ _ refl in
    rw all refl

pub ack_again : (a : AckValue) → a.seq_no < 2 ^ 32 → length a.payload < 2 ^ 16 → message_of (ack_bytes a) ≡ Ok (MessageValue.ack a)
unfolding message_of message_after claimless_after ack_after fields_at fields_of in_map count_at form_of
ack_again a lt short =
    let seq = raw_text (key_text keys.SeqNo) ++ number_text a.seq_no in
    let first = pair_again ack_layout no_slots (key_text keys.Payload) (raw_text a.payload) (seq ++ []) 1
    (raw a.payload) (omega arith) refl (omega arith) (array_again a.payload (seq ++ []) short) in
    let second = pair_again ack_layout _ (key_text keys.SeqNo) (number_text a.seq_no) [] 0 (long a.seq_no)
    (omega arith) refl (omega arith) (long_again None a.seq_no [] lt) in
    let all = one_pair ack_layout 2 1 no_slots _ _ _ refl first ∙ one_pair ack_layout 1 0 _ _ _ _ refl second
    ∙ no_pairs ack_layout 0 _ _ refl in
    rw all refl
