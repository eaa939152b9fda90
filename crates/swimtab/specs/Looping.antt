-- Exchanging tables over a connection, and why it fails.
use Rattle.std.specs.Prelude.{◌≡◌, ◌⊎◌, ◌↔◌, ◌<◌, ◌≤◌, ℕ, Bool, false, None, List, ◌++◌, length, IsTrue}
use Rattle.swim_claim.specs.declared.claim.Claim.{Claim}
use Rattle.swim_program.specs.Limits.{max_input_len}
use Rattle.swim_wire.specs.declared.fault.WireFault.{WireFault}
use Rattle.swim_wire.specs.Streams.{StreamText}
use Rattle.swim_table.specs.Dump.{dump_bytes}
use Rattle.swim_table.specs.Listing.{listing}
use Rattle.swim_table.specs.Table.{Entries, Reduced, TableOf}
use Rattle.swim_program.specs.declared.report.Place.TheVariants.{Loop, Output}
use Rattle.swim_program.specs.declared.report.What.{What}
use Rattle.swim_program.specs.declared.report.What.TheVariants.{Refused, Memory}
use Rattle.swim_program.specs.declared.report.Report.{Report}
use Rattle.swimtab.specs.Files.{FileClaims, IsNoDump}
use Rattle.swim_program.specs.Report.{what_of}

-- bytes of a dump that is sent to this process itself
abbrev pub max_dump_len : ℕ
max_dump_len = 16384

-- the canonical dump of the table is short enough to be sent to this process itself
abbrev pub FitsLoop : Entries → Type 0
FitsLoop table = length (dump_bytes table false) ≤ max_dump_len

-- The table is that of the file's claims, and can be sent.
pub record IsLoopTable (file : List ℕ) (table : Entries) : Type 0 where
  pub short : length file ≤ max_input_len
  pub claims : List Claim
  pub made : FileClaims file claims
  pub table_of : TableOf table claims
  pub fits : FitsLoop table

-- Why a file has no table that can be sent: the file is too long or not a stream, the table is too
-- large, or memory ran out.
pub data IsLoopRefused (file : List ℕ) (what : What) : Type 0 where
  too_long : max_input_len < length file → what ≡ Refused 32 None → IsLoopRefused file what
  no_stream : length file ≤ max_input_len → IsNoDump file what → IsLoopRefused file what
  too_large : (claims : List Claim) (table : Entries) → length file ≤ max_input_len
      → FileClaims file claims → TableOf table claims
      → max_dump_len < length (dump_bytes table false)
      → what ≡ Refused 28 None → IsLoopRefused file what
  memory : length file ≤ max_input_len → what ≡ Memory → IsLoopRefused file what

-- The table took in these claims, which are those of a stream, and lost none of its own.
pub record TakesIn (before after : Entries) (claims : List Claim) : Type 0 where
  pub text : List ℕ
  pub join : Bool
  pub stream : StreamText text claims join
  pub reduced : TableOf after (Reduced before ++ claims)
  pub all : (known : List Claim) → TableOf before known → TableOf after (known ++ claims)

-- Each of two tables took in the claims of a stream; the text lists the first, and the flag is whether
-- both are equal.
pub record IsLooped (first second : Entries) (text : List ℕ) (equal : Bool) : Type 0 where
  pub claims : List Claim
  pub others : List Claim
  pub one : Entries
  pub other : Entries
  pub taken : TakesIn first one claims
  pub taken_too : TakesIn second other others
  pub shown : text ≡ listing one
  pub told : IsTrue equal ↔ (one ≡ other)

-- No stream came over the connection, or it failed, or memory ran out; at the output only for the
-- listing.
pub record IsLoopStopped (report : Report) : Type 0 where
  pub fault : WireFault
  pub what : report.what ≡ what_of fault
  pub place : (report.place ≡ Loop) ⊎ ((report.place ≡ Output) × (report.what ≡ Memory))
