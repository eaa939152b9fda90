use Rattle.memberlist_keyring.proofs.Once.{one_key, one_file}
use Rattle.memberlist_keyring.proofs.laws.one_file.Goals as goal

pub returns-clause-text : goal.returns-clause-text
returns-clause-text c = one_key

pub returns-clause-file : goal.returns-clause-file
returns-clause-file c = one_file
