-- Nodes that met each other through node 0.
use Rattle.std.proofs.Common.{◌≡◌, ◌⊎◌, ℕ, ◌+◌, ◌-◌, ◌<◌, Some, List, ◌++◌, length, take, refl, sym, ap, subst, ◌∙◌, inl, inr, arith}
use Rattle.std.specs.Prelude.{slice_get}
use Rattle.std.proofs.Math.Seq.{take-append-add}
use Rattle.std.proofs.lemmas.List.{length-map, take-append-le}
use Rattle.std.proofs.lemmas.Option.{slice_get_within}
use Rattle.swim_claim.specs.declared.claim.Claim.{Claim}
use Rattle.swim_table.specs.Node.{NodeValue}
use Rattle.swim_table.specs.Table.{TableOf}
use Rattle.swim_table.proofs.Tables.{TableOf-unique, TableOf-same}
use Rattle.swim_sync.specs.declared.event.Event.{Event}
use Rattle.swim_sync.specs.declared.event.Event.TheVariants.{Exchange}
use Rattle.swim_sync.specs.declared.stop.Stop.{Stop}
use Rattle.swim_sync.specs.declared.stop.Why.{Why}
use Rattle.swim_sync.specs.declared.stop.Why.TheVariants.{NoSuchNode, SameNode, TooManyRecords, Memory}
use Rattle.swim_sync.specs.Cluster.{member_of, members_of, TablesOf, Ran, StopsBy, LevelStopped, AreLevel}
use Rattle.swim_sync.specs.Heard.{heard, heard_by}
use Rattle.swim_sync.specs.Levels.{meet_each, level_list, all_heard}
use Rattle.swim_sync.proofs.Clusters.{ran-append}
use Rattle.swim_sync.proofs.Levelling.{length-meet_each, length-level_list, met_at, get-front, get-back, level}
use Rattle.swim_sync.proofs.Runs.{length-heard}

-- a run neither adds nor removes a node
pub length-ran : (old new : List NodeValue) (events : List Event) → Ran old new events → length new ≡ length old
length-ran old new events r = sym (length-map new member_of) ∙ ap length r.members ∙ length-map old member_of

-- node 0 met each other node, and all except the last again
pub levelled : (old mid new : List NodeValue) (others again : ℕ) → others ≡ length old - 1 → again ≡ length old - 2
    → Ran old mid (meet_each others) → Ran mid new (meet_each again) → Ran old new (level_list (length old))
levelled old mid new others again one two r s =
    ran-append old mid new (meet_each (length old - 1)) (meet_each (length old - 2))
    (subst (λ (n : ℕ). Ran old mid (meet_each n)) one r) (subst (λ (n : ℕ). Ran mid new (meet_each n)) two s)

pub are_level : (old new : List NodeValue) → Ran old new (level_list (length old)) → AreLevel old new
are_level old new r = record {
  all = all;
  one_table = λ start h j k node other at_node at_other.
      TableOf-unique node.table other.table (all_heard start) (all_heard start) (all start h j node at_node)
      (all start h k other at_other) (λ c. (λ made. made, λ made. made));
}
  where
    all : (start : List (List Claim)) → TablesOf old start → (k : ℕ) (node : NodeValue)
        → slice_get new k ≡ Some node → TableOf node.table (all_heard start)
    all start h k node at =
        let events = level_list (length start) in
        let tables : TablesOf new (heard (members_of old) start events) =
        subst (λ (n : ℕ). TablesOf new (heard (members_of old) start (level_list n))) (sym h.number) (r.tables start h) in
        let within = slice_get_within new k node at in
        let number = tables.number in
        let same = length-heard (members_of old) start events in
        let below : k < length start = omega (arith, within, number, same) in
        TableOf-same node.table (heard_by (heard (members_of old) start events) k) (all_heard start)
        (level (members_of old) start k below) (tables.each k node at)

-- an exchange of two of the nodes stops only for these reasons
stops_so : (nodes : List NodeValue) (i : ℕ) (why : Why) → i + 1 < length nodes → StopsBy nodes (Exchange 0 (i + 1)) why →
    (why ≡ TooManyRecords) ⊎ (why ≡ Memory)
stops_so nodes i NoSuchNode below stops = absurd (stops (omega (arith, below), below))
stops_so nodes i SameNode below stops = (let same = stops.1 in absurd (omega (arith, same)))
stops_so nodes i TooManyRecords below stops = inl refl
stops_so nodes i Memory below stops = inr refl

-- node 0 did not meet each other node
pub stopped_first : (old new : List NodeValue) (others i : ℕ) (stop : Stop) → others ≡ length old - 1 → i < others → stop.done ≡ i
    → Ran old new (take i (meet_each others)) → StopsBy new (Exchange 0 (i + 1)) stop.why → LevelStopped old new stop
stopped_first old new others i stop one below done r stops =
    let number = length-meet_each (length old - 1) in
    let count = length-level_list (length old) (omega (arith, one, below)) in
    let same = length-ran old new (take i (meet_each others)) r in
    let front : take i (level_list (length old)) ≡ take i (meet_each (length old - 1)) =
    take-append-le i (meet_each (length old - 1)) (meet_each (length old - 2)) (omega (arith, number, one, below)) in
    let at : slice_get (level_list (length old)) i ≡ Some (Exchange 0 (i + 1)) =
    get-front (meet_each (length old - 1)) (meet_each (length old - 2)) i (Exchange 0 (i + 1))
    (met_at (length old - 1) i (omega (arith, one, below))) in
    record {
      stopped = record {
        before = omega (arith, done, count, one, below);
        ran =
            subst (λ (n : ℕ). Ran old new (take n (level_list (length old)))) (sym done)
            (subst (Ran old new) (sym front) (subst (λ (n : ℕ). Ran old new (take i (meet_each n))) one r));
        why = (Exchange 0 (i + 1), ap (slice_get (level_list (length old))) done ∙ at, stops);
      };
      done = omega (arith, done, one, below);
      cause = stops_so new i stop.why (omega (arith, same, one, below)) stops;
    }

-- node 0 met each other node, but not all except the last again
pub stopped_again : (old mid new : List NodeValue) (others again i : ℕ) (stop : Stop) → others ≡ length old - 1
    → again ≡ length old - 2 → i < again → stop.done ≡ others + i
    → Ran old mid (meet_each others) → Ran mid new (take i (meet_each again))
    → StopsBy new (Exchange 0 (i + 1)) stop.why → LevelStopped old new stop
stopped_again old mid new others again i stop one two below done r s stops =
    let number = length-meet_each (length old - 1) in
    let count = length-level_list (length old) (omega (arith, two, below)) in
    let same = length-ran old mid (meet_each others) r in
    let again_same = length-ran mid new (take i (meet_each again)) s in
    let place : stop.done ≡ length (meet_each (length old - 1)) + i = omega (arith, done, number, one) in
    let front : take (length (meet_each (length old - 1)) + i) (level_list (length old)) ≡ meet_each
    (length old - 1) ++ take i (meet_each (length old - 2)) =
    take-append-add (meet_each (length old - 1)) (meet_each (length old - 2)) i in
    let at : slice_get (level_list (length old)) (length (meet_each (length old - 1)) + i) ≡ Some (Exchange 0 (i + 1)) =
    get-back (meet_each (length old - 1)) (meet_each (length old - 2)) i ∙ met_at (length old - 2) i (omega (arith, two, below)) in
    record {
      stopped = record {
        before = omega (arith, done, count, one, two, below);
        ran = subst (λ (n : ℕ). Ran old new (take n (level_list (length old)))) (sym place) (subst (Ran old new) (sym front)
            (ran-append old mid new (meet_each (length old - 1)) (take i (meet_each (length old - 2)))
            (subst (λ (n : ℕ). Ran old mid (meet_each n)) one r) (subst (λ (n : ℕ). Ran mid new (take i (meet_each n))) two s)));
        why = (Exchange 0 (i + 1), ap (slice_get (level_list (length old))) place ∙ at, stops);
      };
      done = omega (arith, done, one, two, below);
      cause = stops_so new i stop.why (omega (arith, same, again_same, two, below)) stops;
    }
