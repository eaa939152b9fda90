use Rattle.std.proofs.Common.{◌<◌, ◌++◌, ◌∙◌, List, ℕ, Bor, map, take, length, slice_index_or, sym, ap, refl}
use Rattle.std.proofs.Common.{append-nil, append_assoc, arith}
use Rattle.std.proofs.lemmas.List.{take_more}
use Rattle.memberlist_message.specs.Messages.{MessageValue, message_of}
use Rattle.swimwatch.specs.Datagrams.{values, if_read, messages_in}
use Rattle.swimwatch.proofs.LeavesRead.{message_read, no_part, one_more_part}
use Rattle.swimwatch.proofs.heard.messages.Messages.take_all.Goals as goal

pub loop-part-init : goal.loop-part-init
loop-part-init c = record { read = sym (append-nil (values c.args.self.now.read.items)); room = refl }

pub loop-part-preserved : goal.loop-part-preserved
loop-part-preserved c =
    let parts = c.args.parts.now in
    let i = c.loop-part.part-index in
    let part = slice_index_or parts i no_part in
    let was = values c.args.self.now.read.items in
    let past = map (λ (p : Bor (List ℕ)). p.now) (take i parts) in
    let one = if_read (message_of part.now) in
    let within : i < length parts = omega arith in
    record {
      read =
          c.in_ok-take.ensures.read ∙ ap (λ (ms : List MessageValue). ms ++ one) c.loop-part.invariant.read
          ∙ append_assoc was (messages_in past) one ∙ ap (λ (ms : List MessageValue). was ++ ms) (sym (message_read past part.now))
          ∙ ap (λ (ps : List (List ℕ)). was ++ messages_in ps) (sym (one_more_part parts i part within (take_more parts i no_part within)));
      room = c.in_ok-take.ensures.room ∙ c.loop-part.invariant.room;
    }
