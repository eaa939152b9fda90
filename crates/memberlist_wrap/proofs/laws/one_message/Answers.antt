use Rattle.memberlist_wrap.proofs.OneCrc.{one_crc}
use Rattle.memberlist_wrap.proofs.OneLzw.{one_lzw}
use Rattle.memberlist_wrap.proofs.Unwrapping.{one_message}
use Rattle.memberlist_wrap.proofs.laws.one_message.Goals as goal

pub returns-clause-crc : goal.returns-clause-crc
returns-clause-crc c = one_crc

pub returns-clause-lzw : goal.returns-clause-lzw
returns-clause-lzw c = one_lzw

pub returns-clause-wraps : goal.returns-clause-wraps
returns-clause-wraps c = one_message
