-- The fields of each message, in the order of memberlist's structs (net.go).
use Rattle.std.specs.Prelude.{[], ◌∷◌}
use Rattle.memberlist_message.specs.declared.layout.Field.{Field}
use Rattle.memberlist_message.specs.declared.layout.Key.{Key}
use Rattle.memberlist_message.specs.declared.layout.Key.TheVariants as keys
use Rattle.memberlist_message.specs.declared.layout.Kind.{Kind}
use Rattle.memberlist_message.specs.declared.layout.Kind.TheVariants as kinds
use Rattle.memberlist_message.specs.Reading.{Fields}

-- a field of this name and kind
abbrev pub field : Key → Kind → Field
field key kind = record { key = key; kind = kind }

-- memberlist's ping
abbrev pub ping_layout : Fields
ping_layout =
    field keys.SeqNo kinds.Uint32 ∷ field keys.Node kinds.Text
    ∷ field keys.SourceAddr kinds.Bytes ∷ field keys.SourcePort kinds.Uint16
    ∷ field keys.SourceNode kinds.Text ∷ []

-- memberlist's indirectPingReq
abbrev pub indirect_ping_layout : Fields
indirect_ping_layout =
    field keys.SeqNo kinds.Uint32 ∷ field keys.Target kinds.Bytes
    ∷ field keys.Port kinds.Uint16 ∷ field keys.Node kinds.Text
    ∷ field keys.Nack kinds.Flag ∷ field keys.SourceAddr kinds.Bytes
    ∷ field keys.SourcePort kinds.Uint16 ∷ field keys.SourceNode kinds.Text ∷ []

-- memberlist's ackResp
abbrev pub ack_layout : Fields
ack_layout =
    field keys.SeqNo kinds.Uint32 ∷ field keys.Payload kinds.Bytes ∷ []

-- memberlist's nackResp
abbrev pub nack_layout : Fields
nack_layout =
    field keys.SeqNo kinds.Uint32 ∷ []

-- memberlist's errResp
abbrev pub error_layout : Fields
error_layout =
    field keys.Error kinds.Text ∷ []

-- memberlist's suspect and dead
abbrev pub accusation_layout : Fields
accusation_layout =
    field keys.Incarnation kinds.Uint32 ∷ field keys.Node kinds.Text
    ∷ field keys.From kinds.Text ∷ []

-- memberlist's alive
abbrev pub alive_layout : Fields
alive_layout =
    field keys.Incarnation kinds.Uint32 ∷ field keys.Node kinds.Text
    ∷ field keys.Addr kinds.Bytes ∷ field keys.Port kinds.Uint16
    ∷ field keys.Meta kinds.Bytes ∷ field keys.Vsn kinds.Bytes ∷ []
