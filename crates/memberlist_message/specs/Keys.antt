-- The names of fields, as keys of maps.
use Rattle.std.specs.Prelude.{ℕ, List, codes}
use Rattle.memberlist_message.specs.declared.layout.Key.{Key}
use Rattle.memberlist_message.specs.declared.layout.Key.TheVariants as keys

-- the text of a key, which is memberlist's name of the field
abbrev pub key_text : Key → List ℕ
key_text keys.Addr = codes "Addr"
key_text keys.Error = codes "Error"
key_text keys.From = codes "From"
key_text keys.Incarnation = codes "Incarnation"
key_text keys.Meta = codes "Meta"
key_text keys.Nack = codes "Nack"
key_text keys.Node = codes "Node"
key_text keys.Payload = codes "Payload"
key_text keys.Port = codes "Port"
key_text keys.SeqNo = codes "SeqNo"
key_text keys.SourceAddr = codes "SourceAddr"
key_text keys.SourceNode = codes "SourceNode"
key_text keys.SourcePort = codes "SourcePort"
key_text keys.Target = codes "Target"
key_text keys.Vsn = codes "Vsn"
