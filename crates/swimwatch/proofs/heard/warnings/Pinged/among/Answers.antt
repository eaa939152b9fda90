use Rattle.std.proofs.Common.{◌≡◌, ◌+◌, ◌<◌, length, [], ◌∷◌, ◌++◌, take, sym, ap, ◌∙◌, subst, arith}
use Rattle.std.proofs.lemmas.List.{take_more}
use Rattle.std.specs.BTreeSet.{BTreeSet}
use Rattle.memberlist_message.specs.declared.message.Message.{Message}
use Rattle.memberlist_message.specs.declared.message.Message.TheVariants as message
use Rattle.swimwatch.specs.Pinged.{HasPings}
use Rattle.swimwatch.proofs.Pings.{Pair, HasPings-ping, HasPings-other}
use Rattle.swimwatch.proofs.heard.warnings.Pinged.among.Goals as goal
use Rattle.swimwatch.proofs.heard.warnings.Pinged.among.Goals.{in-Ping+in_ok-insert, in_default}

pub loop-message-preserved : goal.loop-message-preserved
loop-message-preserved c =
    let items = c.args.messages.now in
    let i = c.loop-message.message-index in
    let m = c.message-item.result in
    let before = c.loop-message.pairs in
    let after = c.match-message.pairs in
    let within : i < length items = omega arith in
    let more : take (i + 1) items ≡ take i items ++ m ∷ [] =
    take_more items i m within ∙ ap (λ (x : Message). take i items ++ x ∷ []) (sym c.message-item.is) in
    let last : HasPings after (take i items ++ m ∷ []) = elim c.match-message.branch [
      | in-Ping+in_ok-insert w ↦ subst (λ (x : Message). HasPings after (take i items ++ x ∷ [])) (sym w.in-Ping.is)
          (subst (λ (pairs : BTreeSet Pair). HasPings pairs (take i items ++ message.Ping w.in-Ping.ping ∷ [])) (sym w.pairs-is)
          (HasPings-ping before w.insert.new.self (w.as_slice.result, w.as_slice-in-Ping.result) w.in-Ping.ping (take i items)
          w.in_ok-insert.ensures.keys w.as_slice.ensures.value w.as_slice-in-Ping.ensures.value c.loop-message.invariant))
      | in_default w ↦ subst (λ (pairs : BTreeSet Pair). HasPings pairs (take i items ++ m ∷ [])) (sym w.pairs-is)
          (HasPings-other before m (take i items) (λ ping is. w.in_default.not-Ping ping is) c.loop-message.invariant)
    ] in
    subst (HasPings after) (sym more) last
