use Rattle.std.proofs.Common.{ap, ◌∙◌, inl, inr}
use Rattle.std.proofs.lemmas.Result.{err_from_is_err_and}
use Rattle.memberlist_wrap.specs.Reasons.{fault_of_map}
use Rattle.memberlist_wrap.proofs.Weakening.{IfOk-weaker, IfErr-weaker}
use Rattle.memberlist_wrap.proofs.Layers.{map_fails, packed_unwraps, packed_fails, compression_asks}
use Rattle.memberlist_wrap.proofs.wrappers.unwrap_slice.Goals as goal

pub returns-in_err-packed-in-Compression-clause-err : goal.returns-in_err-packed-in-Compression-clause-err
returns-in_err-packed-in-Compression-clause-err c =
    let exit = err_from_is_err_and c.from_residual-in_err-packed-in-Compression.result
    c.from_residual-in_err-packed-in-Compression.ensures.1 in
    let is = exit.2 in
    let holds = rw c.in-Compression.is at c.in_ok-message.ensures.ok in
    rw exit.1 (λ m. elim c.in_err-packed-in-Compression.ensures.exact [
      | inl no_map ↦
          map_fails 4 c.args.limit c.in-Compression.depth c.args.bytes.now c.in-Compression.map.now holds.0
          holds.1 (holds.2 c.args.limit) _ _ no_map is
      | inr memory ↦ absurd (m (is ∙ ap fault_of_map memory))
    ])

pub returns-in_ok-packed-in-Compression-clause-ok : goal.returns-in_ok-packed-in-Compression-clause-ok
returns-in_ok-packed-in-Compression-clause-ok c =
    let holds = rw c.in-Compression.is at c.in_ok-message.ensures.ok in
    IfOk-weaker c.unwrap_packed.result c.unwrap_packed.ensures.ok (λ message p.
    packed_unwraps 4 c.args.limit c.in-Compression.depth c.args.bytes.now c.in-Compression.map.now holds.0 holds.1 (holds.2 c.args.limit)
    c.in_ok-packed-in-Compression.packed.items message.items c.in_ok-packed-in-Compression.ensures.reads p)

pub returns-in_ok-packed-in-Compression-clause-err : goal.returns-in_ok-packed-in-Compression-clause-err
returns-in_ok-packed-in-Compression-clause-err c =
    let holds = rw c.in-Compression.is at c.in_ok-message.ensures.ok in
    IfErr-weaker c.unwrap_packed.result c.unwrap_packed.ensures.err (λ fault why m.
    packed_fails 4 c.args.limit c.in-Compression.depth c.args.bytes.now c.in-Compression.map.now holds.0 holds.1 (holds.2 c.args.limit)
    c.in_ok-packed-in-Compression.packed.items fault c.in_ok-packed-in-Compression.ensures.reads (why m))

pub returns-in_err-packed-in-Compression-clause-memory : goal.returns-in_err-packed-in-Compression-clause-memory
returns-in_err-packed-in-Compression-clause-memory c =
    let holds = rw c.in-Compression.is at c.in_ok-message.ensures.ok in
    λ is. compression_asks 4 c.args.limit c.in-Compression.depth c.args.bytes.now c.in-Compression.map.now
    holds.0 holds.1 (holds.2 c.args.limit)

pub returns-in_ok-packed-in-Compression-clause-memory : goal.returns-in_ok-packed-in-Compression-clause-memory
returns-in_ok-packed-in-Compression-clause-memory c =
    let holds = rw c.in-Compression.is at c.in_ok-message.ensures.ok in
    λ is. compression_asks 4 c.args.limit c.in-Compression.depth c.args.bytes.now c.in-Compression.map.now
    holds.0 holds.1 (holds.2 c.args.limit)
