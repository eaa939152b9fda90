use Rattle.std.proofs.lemmas.Result.{IfOk-weaker, IfErr-weaker}
use Rattle.swim_script.proofs.Refused.{exit_with, node_refused, start_right, start_wrong}
use Rattle.swim_script.proofs.script_line.read_node.Goals as goal

pub returns-in_err-read-clause-refuses : goal.returns-in_err-read-clause-refuses
returns-in_err-read-clause-refuses c = exit_with _ _ _ c.from_residual.ensures.1
    (λ seen start. node_refused _ _ start (c.in_err-read.ensures.tells seen))

pub returns-clause-reads : goal.returns-clause-reads
returns-clause-reads c = IfOk-weaker c.into_node.result _ _
    (λ node made. (c.in_ok-read.field-0, start_right _ _ c.in_ok-read.ensures.reads made.0 made.1, made.2)) c.into_node.ensures.reads

pub returns-clause-refuses : goal.returns-clause-refuses
returns-clause-refuses c = IfErr-weaker c.into_node.result _ _
    (λ what told seen start. node_refused _ what start (start_wrong _ _ _ c.in_ok-read.ensures.reads (told seen)))
    c.into_node.ensures.tells

pub returns-clause-tells : goal.returns-clause-tells
returns-clause-tells c = IfErr-weaker c.into_node.result _ _
    (λ what told seen. start_wrong _ _ _ c.in_ok-read.ensures.reads (told seen)) c.into_node.ensures.tells
