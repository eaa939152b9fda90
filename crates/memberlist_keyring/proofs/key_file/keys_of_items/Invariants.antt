use Rattle.std.proofs.Common.{take, map}
use Rattle.serde_json.specs.View.{view}
use Rattle.memberlist_keyring.specs.KeyFile.{HoldInOrder, ItemHolds}
use Rattle.memberlist_keyring.proofs.key_file.keys_of_items.Given as goal

abbrev pub invariant-loop-i : goal.invariant-loop-i
invariant-loop-i l = HoldInOrder ItemHolds (map view (take l.i l.items)) l.keys.items
