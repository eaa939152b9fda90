use Rattle.swim_wire.proofs.Claimlesses.{claimless_reads, claimless_refuses}
use Rattle.swim_wire.proofs.claimless.decode_claimless.Goals as goal

pub returns-clause-reads : goal.returns-clause-reads
returns-clause-reads c = claimless_reads _ _ c.decode_whole_claimless.ensures

pub returns-clause-refuses : goal.returns-clause-refuses
returns-clause-refuses c = claimless_refuses _ _ c.decode_whole_claimless.ensures
