use Rattle.std.proofs.Common.{◌≡◌, ◌<◌, ◌+◌, ◌∷◌, [], ◌++◌, List, take, length, arith, rules, subst, sym, ap, ◌∙◌}
use Rattle.std.proofs.lemmas.List.{take_more}
use Rattle.memberlist_message.specs.declared.message.Message.{Message}
use Rattle.memberlist_view.specs.Told.{ViewValue}
use Rattle.swimwatch.specs.Pinged.{HasPings}
use Rattle.swimwatch.specs.Views.{HearsMessage, HearsMessages}
use Rattle.swimwatch.proofs.Hearing.{message_heard}
use Rattle.swimwatch.proofs.listening.watch.Watch.messages.Goals as goal

pub loop-message-preserved : goal.loop-message-preserved
loop-message-preserved c =
    let items = c.deref-message-items.result.now in
    let i = c.loop-message.message-index in
    let m = c.message-item.result in
    let time = c.args.sent.time in
    let old = c.if-any.self.listener.view in
    let mid = c.loop-message.self.listener.view in
    let new = c.message.new.self.listener.view in
    let within : i < length items = omega arith in
    let more : take (i + 1) items ≡ take i items ++ m ∷ [] =
    take_more items i m within ∙ ap (λ (x : Message). take i items ++ x ∷ []) (sym c.message-item.is) in
    let whole : c.deref-2.result.now ≡ items = search rules in
    let pings : HasPings c.in_ok-pinged.pinged.pairs items =
    subst (HasPings c.in_ok-pinged.pinged.pairs) whole c.in_ok-pinged.ensures in
    let same : c.said.new.self.listener.view ≡ mid = search rules in
    let last : HearsMessage time items m mid new =
    subst (λ (v : ViewValue). HearsMessage time items m v new) same (c.in_ok-message.ensures items pings) in
    subst (λ (past : List Message). HearsMessages time items past old new) (sym more)
    (message_heard time items (take i items) m old mid new c.loop-message.invariant last)
