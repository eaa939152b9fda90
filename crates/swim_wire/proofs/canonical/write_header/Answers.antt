use Rattle.swim_wire.proofs.SpelledTexts.{HeaderText-canonical}
use Rattle.swim_wire.proofs.canonical.write_header.Goals as goal

pub returns-in_err-resize-clause-text : goal.returns-in_err-resize-clause-text
returns-in_err-resize-clause-text c = HeaderText-canonical c.args.header.now

pub returns-clause-text : goal.returns-clause-text
returns-clause-text c = HeaderText-canonical c.args.header.now
