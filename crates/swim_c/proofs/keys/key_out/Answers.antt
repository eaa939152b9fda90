use Rattle.swim_c.specs.Keyring.{KeyGiven}
use Rattle.swim_c.proofs.keys.key_out.Goals as goal

pub returns-in-Some : goal.returns-in-Some
returns-in-Some c = KeyGiven.given c.in-Some.key.now c.in-Some.ensures c.copy_out.ensures
