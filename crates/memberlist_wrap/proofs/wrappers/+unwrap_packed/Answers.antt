use Rattle.std.proofs.Common.{◌≡◌, ◌-◌, length, drop, ap, ◌∙◌, arith, inl, inr}
use Rattle.std.proofs.lemmas.Result.{err_from_is_err_and}
use Rattle.memberlist_wrap.specs.Reasons.{fault_of_map}
use Rattle.memberlist_wrap.specs.Peeling.PackedFails.{inside}
use Rattle.memberlist_wrap.proofs.Weakening.{IfOk-weaker, IfErr-weaker}
use Rattle.memberlist_wrap.proofs.Layers.{behind_front, no_longer, message_unwraps, map_fails, packed_unwraps, packed_fails}
use Rattle.memberlist_wrap.proofs.wrappers.+unwrap_packed.Goals as goal

pub returns-in_err-message-clause-err : goal.returns-in_err-message-clause-err
returns-in_err-message-clause-err t c =
    let exit = err_from_is_err_and c.from_residual-in_err-message.result c.from_residual-in_err-message.ensures.1 in
    let lzw = rw c.deref.ensures.value at c.in_ok-layer.ensures.decodes in
    let why = rw c.deref-2.ensures.value at (c.in_err-message.ensures.err c.args.limit) in
    rw (exit.1, exit.2) (λ m. inside c.in_ok-layer.layer.items lzw c.in_ok-layer.ensures.within why)

pub returns-in_err-inner-in-Compression-clause-err : goal.returns-in_err-inner-in-Compression-clause-err
returns-in_err-inner-in-Compression-clause-err t c =
    let exit = err_from_is_err_and c.from_residual-in_err-inner-in-Compression.result
    c.from_residual-in_err-inner-in-Compression.ensures.1 in
    let is = exit.2 in
    let lzw = rw c.deref.ensures.value at c.in_ok-layer.ensures.decodes in
    let holds = rw (c.deref-2.ensures.value, c.in-Compression.is) at c.in_ok-message.ensures.ok in
    rw exit.1 (λ m. elim c.in_err-inner-in-Compression.ensures.exact [
      | inl no_map ↦
          inside c.in_ok-layer.layer.items lzw c.in_ok-layer.ensures.within
          (map_fails c.args.depth c.args.limit c.in-Compression.left c.in_ok-layer.layer.items c.in-Compression.map.now holds.0
          holds.1 (holds.2 c.args.limit) _ _ no_map is)
      | inr memory ↦ absurd (m (is ∙ ap fault_of_map memory))
    ])

pub returns-in-Message-clause-ok : goal.returns-in-Message-clause-ok
returns-in-Message-clause-ok t c =
    let layer = c.in_ok-layer.layer.items in
    let message = c.in-Message.message.now in
    let lzw = rw c.deref.ensures.value at c.in_ok-layer.ensures.decodes in
    let holds = rw (c.deref-2.ensures.value, c.in-Message.is) at c.in_ok-message.ensures.ok in
    let start : c.len.result - length message ≡ length layer - length message = omega (arith, c.len.ensures, c.in_ok-layer.layer.ok.0) in
    let short = no_longer layer message holds.0 in
    let within = c.in_ok-layer.ensures.within in
    rw (c.without_front.ensures ∙ ap (λ n. drop n layer) start ∙ behind_front layer message holds.0) (record {
      inner = layer;
      lzw = lzw;
      within = within;
      unwraps = message_unwraps c.args.depth c.args.limit layer message holds.2.0 holds.2.1 (holds.2.2 c.args.limit) holds.1 (omega arith);
    })

pub returns-in_ok-inner-in-Compression-clause-ok : goal.returns-in_ok-inner-in-Compression-clause-ok
returns-in_ok-inner-in-Compression-clause-ok t c =
    let lzw = rw c.deref.ensures.value at c.in_ok-layer.ensures.decodes in
    let holds = rw (c.deref-2.ensures.value, c.in-Compression.is) at c.in_ok-message.ensures.ok in
    IfOk-weaker c.unwrap_packed.result c.unwrap_packed.ensures.ok (λ message p. record {
      inner = c.in_ok-layer.layer.items;
      lzw = lzw;
      within = c.in_ok-layer.ensures.within;
      unwraps =
          packed_unwraps c.args.depth c.args.limit c.in-Compression.left c.in_ok-layer.layer.items c.in-Compression.map.now
          holds.0 holds.1 (holds.2 c.args.limit)
          c.in_ok-inner-in-Compression.inner.items message.items c.in_ok-inner-in-Compression.ensures.reads p;
    })

pub returns-in_ok-inner-in-Compression-clause-err : goal.returns-in_ok-inner-in-Compression-clause-err
returns-in_ok-inner-in-Compression-clause-err t c =
    let lzw = rw c.deref.ensures.value at c.in_ok-layer.ensures.decodes in
    let holds = rw (c.deref-2.ensures.value, c.in-Compression.is) at c.in_ok-message.ensures.ok in
    IfErr-weaker c.unwrap_packed.result c.unwrap_packed.ensures.err (λ fault why m.
    inside c.in_ok-layer.layer.items lzw c.in_ok-layer.ensures.within
    (packed_fails c.args.depth c.args.limit c.in-Compression.left c.in_ok-layer.layer.items
    c.in-Compression.map.now holds.0 holds.1 (holds.2 c.args.limit)
    c.in_ok-inner-in-Compression.inner.items fault c.in_ok-inner-in-Compression.ensures.reads (why m)))
