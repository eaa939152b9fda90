use Rattle.std.proofs.Common.{map}
use Rattle.std.proofs.lemmas.Result.{IfErr-weaker}
use Rattle.serde_json.specs.View.{view}
use Rattle.memberlist_keyring.specs.KeyFile.{ItemsCause, KeyFileCause}
use Rattle.memberlist_keyring.proofs.Files.{list_cause}
use Rattle.memberlist_keyring.proofs.key_file.keys_of_list.Goals as goal

pub returns-clause-err : goal.returns-clause-err
returns-clause-err c =
    IfErr-weaker c.keys_of_items-keys.result (λ fault. ItemsCause fault (map view c.deref.result.now))
    (λ fault. KeyFileCause fault c.args.text.now)
    (λ fault cause. list_cause fault c.args.text.now (view c.in-Ok.value) (map view c.deref.result.now) c.requires
    c.in-Ok.ensures.ok (rw c.deref.ensures.value c.in-Some.ensures) cause)
    c.keys_of_items-keys.ensures.err
