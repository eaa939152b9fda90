use Rattle.std.proofs.lemmas.Result.{err_from_is_err_and}
use Rattle.swim_pack.proofs.Composing.{Reads-exit}
use Rattle.capture.specs.Blocks.{section_text}
use Rattle.capture.specs.Captures.{step_at}
use Rattle.capture.proofs.Steps.{block-step}
use Rattle.capture.proofs.reader.step_pcapng.Goals as goal

pub returns-in_err-block-clause-exact : goal.returns-in_err-block-clause-exact
unfolding step_at
returns-in_err-block-clause-exact g c =
    let p = err_from_is_err_and c.from_residual.result c.from_residual.ensures.1 in
    rw (p.1, p.2) (Reads-exit _ c.in_err-block.ensures)

pub returns-clause-exact : goal.returns-clause-exact
returns-clause-exact g c =
    block-step (section_text c.args.section.now)
    (section_text c.take_block.new.section) c.read_block.new.bytes.items c.in_ok-block.block
    c.take_block.result
    c.take_block.ensures.taken c.take_block.ensures.refused c.in_ok-block.ensures
