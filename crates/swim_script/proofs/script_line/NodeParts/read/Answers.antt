use Rattle.std.proofs.Common.{arith}
use Rattle.swim_script.specs.Refusals.NoNode.{no_addr, no_port, no_meta, no_vsn, no_inc}
use Rattle.swim_script.proofs.Refused.{exit_with, node_spelled, node_wrong}
use Rattle.swim_script.proofs.script_line.NodeParts.read.Goals as goal

pub returns-in_err-addr-clause-tells : goal.returns-in_err-addr-clause-tells
returns-in_err-addr-clause-tells c = exit_with _ _ _ c.from_residual-in_err-addr.ensures.1
    (λ seen. node_wrong _ _ _ (omega arith) (no_addr (c.in_err-addr.ensures.tells seen)))

pub returns-in_err-port-clause-tells : goal.returns-in_err-port-clause-tells
returns-in_err-port-clause-tells c = exit_with _ _ _ c.from_residual-in_err-port.ensures.1
    (λ seen. node_wrong _ _ _ (omega arith) (no_port _ c.in_ok-addr.ensures.reads c.in_err-port.ensures.tells))

pub returns-in_err-meta-clause-tells : goal.returns-in_err-meta-clause-tells
returns-in_err-meta-clause-tells c = exit_with _ _ _ c.from_residual-in_err-meta.ensures.1
    (λ seen. node_wrong _ _ _ (omega arith)
    (no_meta _ _ c.in_ok-addr.ensures.reads c.in_ok-port.ensures.reads (c.in_err-meta.ensures.tells seen)))

pub returns-in_err-vsn-clause-tells : goal.returns-in_err-vsn-clause-tells
returns-in_err-vsn-clause-tells c = exit_with _ _ _ c.from_residual-in_err-vsn.ensures.1
    (λ seen. node_wrong _ _ _ (omega arith)
    (no_vsn _ _ _ c.in_ok-addr.ensures.reads c.in_ok-port.ensures.reads c.in_ok-meta.ensures.reads (c.in_err-vsn.ensures.tells seen)))

pub returns-in_err-inc-clause-tells : goal.returns-in_err-inc-clause-tells
returns-in_err-inc-clause-tells c = exit_with _ _ _ c.from_residual-in_err-inc.ensures.1
    (λ seen. node_wrong _ _ _ (omega arith)
    (no_inc _ _ _ _ c.in_ok-addr.ensures.reads c.in_ok-port.ensures.reads c.in_ok-meta.ensures.reads
    c.in_ok-vsn.ensures.reads c.in_err-inc.ensures.tells))

pub returns-clause-reads : goal.returns-clause-reads
returns-clause-reads c = node_spelled _ _ _ (omega arith) (record {
  name = c.in_ok-name.ensures;
  addr = c.in_ok-addr.ensures.reads;
  port = c.in_ok-port.ensures.reads;
  meta = c.in_ok-meta.ensures.reads;
  vsn = c.in_ok-vsn.ensures.reads;
  inc = c.in_ok-inc.ensures.reads;
})
