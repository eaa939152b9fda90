-- The fields of each message, in the order of Serf's structs.
use Rattle.std.specs.Prelude.{[], ◌∷◌}
use Rattle.serf_message.specs.declared.layout.Field.{Field}
use Rattle.serf_message.specs.declared.layout.Key.{Key}
use Rattle.serf_message.specs.declared.layout.Key.TheVariants as keys
use Rattle.serf_message.specs.declared.layout.Kind.{Kind}
use Rattle.serf_message.specs.declared.layout.Kind.TheVariants as kinds
use Rattle.serf_message.specs.Reading.{Fields}

-- a field of this name and kind
abbrev pub field : Key → Kind → Field
field key kind = record { key = key; kind = kind }

-- Serf's messageLeave
abbrev pub leave_layout : Fields
leave_layout =
    field keys.Time kinds.Uint64 ∷ field keys.Node kinds.Text ∷ field keys.Prune kinds.Flag
    ∷ []

-- Serf's messageJoin
abbrev pub join_layout : Fields
join_layout =
    field keys.Time kinds.Uint64 ∷ field keys.Node kinds.Text ∷ []

-- Serf's messageUserEvent
abbrev pub event_layout : Fields
event_layout =
    field keys.Time kinds.Uint64 ∷ field keys.Name kinds.Text
    ∷ field keys.Payload kinds.Bytes ∷ field keys.Coalesce kinds.Flag ∷ []

-- Serf's messageQuery
abbrev pub query_layout : Fields
query_layout =
    field keys.Time kinds.Uint64 ∷ field keys.Id kinds.Uint32 ∷ field keys.Addr kinds.Bytes
    ∷ field keys.Port kinds.Uint16 ∷ field keys.SourceNode kinds.Text
    ∷ field keys.Filters kinds.Whole ∷ field keys.Flags kinds.Uint32
    ∷ field keys.RelayFactor kinds.Uint8 ∷ field keys.Timeout kinds.Int64
    ∷ field keys.Name kinds.Text ∷ field keys.Payload kinds.Bytes ∷ []

-- Serf's messageQueryResponse
abbrev pub response_layout : Fields
response_layout =
    field keys.Time kinds.Uint64 ∷ field keys.Id kinds.Uint32 ∷ field keys.From kinds.Text
    ∷ field keys.Flags kinds.Uint32 ∷ field keys.Payload kinds.Bytes ∷ []

-- Serf's relayHeader
abbrev pub relay_layout : Fields
relay_layout =
    field keys.DestAddr kinds.Whole ∷ field keys.DestName kinds.Text ∷ []

-- Go's net.UDPAddr
abbrev pub address_layout : Fields
address_layout =
    field keys.Ip kinds.Bytes ∷ field keys.Port kinds.Uint16 ∷ field keys.Zone kinds.Text
    ∷ []

-- Serf's coordinate.Coordinate
abbrev pub coordinate_layout : Fields
coordinate_layout =
    field keys.Vec kinds.Whole ∷ field keys.Error kinds.Float
    ∷ field keys.Adjustment kinds.Float ∷ field keys.Height kinds.Float ∷ []

-- Serf's messagePushPull
abbrev pub state_layout : Fields
state_layout =
    field keys.Time kinds.Uint64 ∷ field keys.StatusTimes kinds.Whole
    ∷ field keys.LeftMembers kinds.Whole ∷ field keys.EventTime kinds.Uint64
    ∷ field keys.Events kinds.Whole ∷ field keys.QueryTime kinds.Uint64 ∷ []

-- Serf's userEvents
abbrev pub group_layout : Fields
group_layout =
    field keys.Time kinds.Uint64 ∷ field keys.Events kinds.Whole ∷ []

-- Serf's userEvent
abbrev pub grouped_layout : Fields
grouped_layout =
    field keys.Name kinds.Text ∷ field keys.Payload kinds.Bytes ∷ []

-- Serf's keyRequest
abbrev pub key_request_layout : Fields
key_request_layout =
    field keys.Key kinds.Bytes ∷ []

-- Serf's nodeKeyResponse
abbrev pub key_response_layout : Fields
key_response_layout =
    field keys.Result kinds.Flag ∷ field keys.Message kinds.Text
    ∷ field keys.Keys kinds.Whole ∷ field keys.PrimaryKey kinds.Text ∷ []
