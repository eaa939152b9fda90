-- The statuses of wrapped and encrypted bytes: the number of a fault, and 10 for any lack of
-- memory.
use Rattle.std.specs.Prelude.{ℕ}
use Rattle.memberlist_cipher.specs.declared.fault.CipherFault.{CipherFault}
use Rattle.memberlist_cipher.specs.declared.fault.CipherFault.TheVariants as cipher
use Rattle.memberlist_cipher.specs.Fault.{cipher_number}
use Rattle.memberlist_transport.specs.declared.fault.PacketFault.{PacketFault}
use Rattle.memberlist_transport.specs.declared.fault.PacketFault.TheVariants as packet
use Rattle.memberlist_transport.specs.declared.fault.StreamFault.{StreamFault}
use Rattle.memberlist_transport.specs.declared.fault.StreamFault.TheVariants as stream
use Rattle.memberlist_wrap.specs.declared.fault.WrapFault.{WrapFault}
use Rattle.memberlist_wrap.specs.declared.fault.WrapFault.TheVariants as wrap
use Rattle.memberlist_wrap.specs.Fault.{wrap_number}

-- a growth of memory was refused
abbrev pub memory : ℕ
memory = 10

-- a number is too large
abbrev pub out_of_range : ℕ
out_of_range = 3

-- text or bytes are too long
abbrev pub too_long : ℕ
too_long = 6

-- an address has another length than 4 or 16
abbrev pub bad_address : ℕ
bad_address = 13

-- there is too much metadata
abbrev pub meta_too_long : ℕ
meta_too_long = 14

-- the bytes end too soon, or there are none
abbrev pub ended : ℕ
ended = 1

-- the message has another type, or none
abbrev pub wrong_type : ℕ
wrong_type = 16

-- the user state of a stream is too long
abbrev pub user_too_long : ℕ
user_too_long = 21

-- a label is too long
abbrev pub cipher_too_long : ℕ
cipher_too_long = 51

-- it is not encrypted, there are keys, and only what is encrypted is read
abbrev pub unencrypted : ℕ
unencrypted = 59

-- the handle has no node
abbrev pub no_node : ℕ
no_node = 64

-- the handle has a node already
abbrev pub node_there : ℕ
node_there = 65

-- the buffer is too small
abbrev pub too_small : ℕ
too_small = 66

-- there is no member at this place, or of this name
abbrev pub no_member : ℕ
no_member = 67

-- a member that confirms its own death has left
abbrev pub own_name : ℕ
own_name = 68

-- a compound packet has at most 255 packets
abbrev pub too_many_packets : ℕ
too_many_packets = 69

-- a dump has form 0 or 1, and only form 1 has user state
abbrev pub bad_form : ℕ
bad_form = 70

-- there is no key, part or accuser at this index
abbrev pub no_item : ℕ
no_item = 71

-- the first key encrypts, so it is not removed
abbrev pub key_in_use : ℕ
key_in_use = 72

-- the member has not come back
abbrev pub not_back : ℕ
not_back = 73

-- a multiplier of a configuration is too large
abbrev pub bad_multiplier : ℕ
bad_multiplier = 75

-- the datagrams of a configuration are too short
abbrev pub short_datagrams : ℕ
short_datagrams = 76

abbrev pub no_seed : ℕ
no_seed = 77

abbrev pub cipher_status : CipherFault → ℕ
cipher_status cipher.Memory = memory
cipher_status fault = cipher_number fault

abbrev pub wrap_status : WrapFault → ℕ
wrap_status wrap.Memory = memory
wrap_status fault = wrap_number fault

-- a packet that no key decrypts has the tag of another key (54)
abbrev pub packet_status : PacketFault → ℕ
packet_status (packet.Wrapped fault) = wrap_status fault
packet_status (packet.NoMessage first) = wrong_type
packet_status packet.NoKeyFits = 54
packet_status packet.Unencrypted = unencrypted
packet_status packet.Memory = memory

-- what one side of a connection sends ends too soon, wherever it does (1)
abbrev pub stream_status : StreamFault → ℕ
stream_status (stream.Wrapped wrap.Ended) = ended
stream_status (stream.Wrapped fault) = wrap_status fault
stream_status (stream.Closed cipher.TooShort) = ended
stream_status (stream.Closed fault) = cipher_status fault
stream_status stream.Unencrypted = unencrypted
stream_status (stream.NoStream first) = wrong_type
stream_status stream.Empty = 1
stream_status stream.Memory = memory
