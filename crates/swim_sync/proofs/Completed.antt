-- A completed exchange: each side takes in the dump of the other one from what comes to it.
use Rattle.std.proofs.Common.{◌≡◌, ◌↔◌, ℕ, Bool, Option, Some, None, List, ◌++◌, refl, sym, ap, subst, ◌∙◌}
use Rattle.std.proofs.lemmas.List.{append_cancel_left}
use Rattle.swim_claim.specs.declared.claim.Claim.{Claim}
use Rattle.swim_pack.specs.Ends.{Source, ConsumesKnownText}
use Rattle.swim_pack.proofs.Composing.{taken_text}
use Rattle.swim_wire.specs.Streams.{StreamText}
use Rattle.swim_wire.proofs.OneStream.{one_stream}
use Rattle.swim_table.specs.Dump.{dump_bytes}
use Rattle.swim_table.specs.Join.{Join, table_of}
use Rattle.swim_table.specs.Table.{Entries, Reduced, TableOf}
use Rattle.swim_table.proofs.Dumps.{dump_is_stream}
use Rattle.swim_table.proofs.Showing.{TableOf-sent}
use Rattle.swim_table.proofs.Tables.{TableOf-table_of, TableOf-unique, TableOf-Reduced, TableOf-Join, Join-comm}
use Rattle.swim_sync.specs.Exchanging.{IsSendable, Brings, TakesDump, TakesStream}
use Rattle.swim_sync.proofs.Exchanging.{both_take}

-- the stream at the start of a dump is the dump
dump_taken : (old new : Option (List ℕ)) (other : Entries) (sent read : Bool) (rest : List ℕ) (claims : List Claim) → IsSendable other
    → old ≡ Some (dump_bytes other sent ++ rest) → ConsumesKnownText old new (λ b. StreamText b claims read)
    → (claims ≡ Reduced other) × (read ≡ sent) × (new ≡ Some rest)
dump_taken None new other sent read rest claims can is taken = absurd cc
dump_taken (Some bytes) None other sent read rest claims can is taken = absurd taken
dump_taken (Some bytes) (Some left) other sent read rest claims can is taken =
    let dump = dump_bytes other sent in
    let same : bytes ≡ dump ++ rest = cc in
    let parts : taken.0 ++ left ≡ dump ++ rest = sym taken.2 ∙ same in
    let one = one_stream taken.0 dump left rest claims (Reduced other) read sent taken.1
    (dump_is_stream other sent can.legal can.few) parts in
    (one.1, one.2, ap Some (append_cancel_left dump left rest (ap (λ (text : List ℕ). text ++ left) (sym one.0) ∙ parts)))

-- the table of the claims of both is the join
joined_as : (before other after : Entries) → TableOf after (Reduced before ++ Reduced other) → after ≡ Join before other
joined_as before other after kept =
    let all = Reduced before ++ Reduced other in
    TableOf-unique after (Join before other) all all kept (TableOf-table_of all) (λ c. (λ made. made, λ made. made))

pub side_took : (before after other : Entries) (sent read : Bool) (old new : Source) (rest : List ℕ)
    → IsSendable other → Brings old other sent rest
    → TakesStream old new before after read → (after ≡ Join before other) × (read ≡ sent) × (new.coming ≡ Some rest)
side_took before after other sent read old new rest can brings took =
    let one = dump_taken old.coming new.coming other sent read rest took.claims can brings took.taken in
    let kept : TableOf after (Reduced before ++ Reduced other) = subst
    (λ claims. TableOf after (Reduced before ++ claims)) one.0 took.reduced in
    (joined_as before other after kept, one.1, one.2)

-- and the join takes it in
side_takes : (before other : Entries) (sent : Bool) (old new : Source) (rest : List ℕ) → IsSendable other → Brings old other sent rest
    → new.coming ≡ Some rest → TakesStream old new before (Join before other) sent
side_takes before other sent old new rest can brings left =
    let P : List ℕ → Type 0 = λ b. StreamText b (Reduced other) sent in
    let dump = dump_bytes other sent in
    let front : ConsumesKnownText (Some (dump ++ rest)) (Some rest) P = (dump, dump_is_stream other sent can.legal can.few, refl) in
    record {
      claims = Reduced other;
      taken = subst (λ (a : Option (List ℕ)). ConsumesKnownText a new.coming P) (sym brings)
          (subst (λ (b : Option (List ℕ)). ConsumesKnownText (Some (dump ++ rest)) b P) (sym left) front);
      reduced = TableOf-table_of (Reduced before ++ Reduced other);
      all = λ others h. TableOf-Join before other others (Reduced other) h can.legal.own;
    }

pub side : (before after other : Entries) (sent read : Bool) (old new : Source) (rest : List ℕ)
    → IsSendable other → Brings old other sent rest
    → (TakesStream old new before after read ↔ ((after ≡ Join before other) × (read ≡ sent) × (new.coming ≡ Some rest)))
side before after other sent read old new rest can brings = (
  side_took before after other sent read old new rest can brings,
  λ is.
      subst (λ (flag : Bool). TakesStream old new before after flag) (sym is.1)
      (subst (λ (table : Entries). TakesStream old new before table sent) (sym is.0)
      (side_takes before other sent old new rest can brings is.2)),
)

-- whatever the inlet, a side took a stream in
pub any_end : (before after : Entries) (read : Bool) (old new : Source) → TakesStream old new before after read
    → (text : List ℕ) × (claims : List Claim) × StreamText text claims read × (after ≡ Join before (table_of claims))
any_end before after read old new took =
    let text = taken_text old.coming new.coming (λ b. StreamText b took.claims read) took.taken in
    let theirs = table_of took.claims in
    let kept : TableOf after (Reduced before ++ Reduced theirs) =
    TableOf-sent theirs after took.claims (Reduced theirs) (Reduced before) (TableOf-table_of took.claims)
    (TableOf-Reduced theirs took.claims (TableOf-table_of took.claims)) took.reduced in
    (text.0, took.claims, text.1, joined_as before theirs after kept)

-- a side that took the other one's dump in is the join
dump_joined : (before after other : Entries) → IsSendable other → TakesDump before after other → after ≡ Join before other
dump_joined before after other can took =
    (side_took before after other took.sent took.read took.old took.new took.rest can took.brings took.takes).0

pub both_joined : (first second a b : Entries) → IsSendable first → IsSendable second → TakesDump first a second → TakesDump second b first
    → (a ≡ Join first second) × (b ≡ Join first second)
both_joined first second a b can could took gave = (
  dump_joined first a second could took,
  dump_joined second b first can gave ∙ Join-comm second first,
)

pub both_took : (first second a b : Entries) → IsSendable first → IsSendable second → TakesDump first a second → TakesDump second b first
    → (claims others : List Claim) → TableOf first claims → TableOf second others
    → TableOf a (claims ++ others) × TableOf b (claims ++ others)
both_took first second a b can could took gave = both_take first second a b (both_joined first second a b can could took gave)
