-- the parts so far were read
use Rattle.std.proofs.Common.{◌≡◌, ◌++◌, ℕ, List, Bor, map, take}
use Rattle.swimwatch.specs.Datagrams.{values, messages_in}
use Rattle.swimwatch.proofs.heard.messages.Messages.take_all.Given as goal

abbrev pub invariant-loop-part : goal.invariant-loop-part
invariant-loop-part l = record {
  read : values l.self.read.items ≡ values l.initial.self.read.items ++ messages_in
      (map (λ (part : Bor (List ℕ)). part.now) (take l.part-index l.parts));
  room : l.self.room ≡ l.initial.self.room;
}
