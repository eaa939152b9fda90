use Rattle.std.proofs.Common.{◌≡◌, true, refl, rules}
use Rattle.std.proofs.Math.Path.{subst}
use Rattle.std.specs.Prelude.{length}
use Rattle.swimwatch.specs.Connected.HearsFlow.{before, empty, stream}
use Rattle.swimwatch.specs.Views.{HearsStream}
use Rattle.swimwatch.proofs.Connecting.{empty_of}
use Rattle.swimwatch.proofs.Flowing.{on_ok, whenever}
use Rattle.swimwatch.proofs.listening.progress.hear_whole.Goals as goal

pub returns-then-progress : goal.returns-then-progress
returns-then-progress c segments read of heard =
    let is : c.args.progress.is_read ≡ true = search rules in
    let same : c.count_bytes.new.self.listener.view ≡ c.args.watch.now.listener.view = search rules in
    whenever c.count_bytes.result (before (heard is) same)

pub returns-then-not-is_empty : goal.returns-then-not-is_empty
returns-then-not-is_empty c segments read of heard =
    on_ok c.stream.result (λ h. stream c.sent_at-sent.result.time h.0 of
    (subst (λ b. HearsStream c.args.opening.clear c.args.opening.keys.now b c.sent_at-sent.result.time h.0 c.args.watch.now.listener.view
    c.stream.new.self.listener.view) c.bytes-bytes.ensures.is h.1)) c.stream.ensures.hears

pub returns-then-has_gap : goal.returns-then-has_gap
returns-then-has_gap c segments read of heard =
    let no_bytes : length c.bytes-bytes.result.now ≡ 0 = search rules in
    let none = empty_of c.bytes-bytes.result.now c.args.flow.now.text.items c.bytes-bytes.ensures.is no_bytes in
    let same : c.headless.new.self.listener.view ≡ c.args.watch.now.listener.view = search rules in
    whenever c.headless.result (empty none same)

pub returns : goal.returns
returns c segments read of heard =
    let no_bytes : length c.bytes-bytes.result.now ≡ 0 = search rules in
    let none = empty_of c.bytes-bytes.result.now c.args.flow.now.text.items c.bytes-bytes.ensures.is no_bytes in
    empty none refl
