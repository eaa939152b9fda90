-- Tables that come over connections.
use Rattle.std.specs.Prelude.{◌≡◌, ℕ, Bool, List, ◌++◌}
use Rattle.std.specs.List.{Contains}
use Rattle.std.specs.declared.alloc.Global.{Global}
use Rattle.std.specs.declared.vec.Vec.{Vec}
use Rattle.swim_claim.specs.declared.claim.Claim.{Claim}
use Rattle.swim_wire.specs.Streams.{StreamText}
use Rattle.memberlist_member.specs.Covers.{OpensStreamOf}
use Rattle.memberlist_member.specs.declared.cover.Cover.{Cover}
use Rattle.memberlist_member.specs.declared.cover.Opened.TheVariants.{Message}

-- a message begins with a table of these records
abbrev pub BeginsWithTable : List ℕ → List Claim → Type 0
BeginsWithTable message records =
    (text rest : List ℕ) × (join : Bool) × (message ≡ text ++ rest) × StreamText text records join

-- one of them
abbrev pub IsRecordOf : List ℕ → Claim → Type 0
IsRecordOf message each = (records : List Claim) × BeginsWithTable message records × Contains records each

-- a record of the table in what came over a connection
abbrev pub IsRecordIn : Cover → List ℕ → Claim → Type 0
IsRecordIn cover came each = (is_reply : Bool) × (message : Vec ℕ Global)
    × OpensStreamOf cover is_reply came (Message message) × IsRecordOf message.items each
