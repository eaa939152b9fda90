-- What one event does to the nodes of a cluster.
use Rattle.std.proofs.Common.{◌≡◌, ◌≢◌, ◌⊎◌, ℕ, ◌+◌, ◌<◌, ◌≤◌, Bool, true, false, Option, Some, None, Result, Ok, Err}
use Rattle.std.proofs.Common.{List, [], ◌∷◌, ◌++◌, length, get_or, set, take, drop, if◌then◌else◌, refl, sym, ap, subst}
use Rattle.std.proofs.Common.{◌∙◌, inl, inr, arith, length-set, append-nil}
use Rattle.std.specs.Option.{option_map}
use Rattle.std.specs.Prelude.{slice_get, IfOk, IfSome, OnOk, OnErr}
use Rattle.std.specs.Result.{result_eq}
use Rattle.std.proofs.lemmas.List.{set-get_or, take_more, drop_all, take_all}
use Rattle.std.proofs.lemmas.Option.{slice_get_within, slice_get-map, slice_get_read, get_or_from_slice_get}
use mathlib.Core.Bool.{false≢true}
use Rattle.swim_claim.specs.declared.claim.Claim.{Claim}
use Rattle.swim_table.specs.declared.fault.RefuteFault.{RefuteFault}
use Rattle.swim_table.specs.declared.fault.RefuteFault.TheVariants.{Exhausted, Gone, Memory}
use Rattle.swim_table.specs.Lending.{with_table}
use Rattle.swim_table.specs.Node.{NodeValue, SameMember}
use Rattle.swim_table.specs.Refuting.{IsRefutedBy, IsAtRest, IsExhausted, IsGone}
use Rattle.swim_table.specs.Table.{Entries, Reduced, TableOf}
use Rattle.swim_table.proofs.Tables.{TableOf-unique, TableOf-same, Same-append_comm}
use Rattle.swim_sync.specs.declared.event.Event.{Event}
use Rattle.swim_sync.specs.declared.event.Event.TheVariants.{Hear, HearAll, Exchange, Half, Refute}
use Rattle.swim_sync.specs.declared.stop.Why.{Why}
use Rattle.swim_sync.specs.declared.stop.Why.TheVariants as why
use Rattle.swim_sync.specs.Cluster.{member_of, members_of, TablesOf, Dumps, CanHappen, EachCanHappen, Ran, BothExchange}
use Rattle.swim_sync.specs.Cluster.{DumpsTooMany, StopsBy}
use Rattle.swim_sync.specs.OverMemory.{Hinders}
use Rattle.swim_sync.specs.Exchanging.{HasTooMany}
use Rattle.swim_sync.specs.Heard.{Member, heard, heard_by, hear, hear_both, after, refutation, refutation_of, refutation_by}
use Rattle.swim_sync.specs.Paths.{AreTwoNodes}
use Rattle.swim_sync.proofs.Nodes.{replaced, kept_at, members_same, in_parts, set_swap, at_front, at_back}
use Rattle.swim_sync.proofs.Refutations.{refuted_table, at_rest_adds, exhausted_adds, gone_adds}
use Rattle.swim_sync.proofs.Runs.{heard-append, hear_same, hear_other, both_first, both_second, both_other, two_nodes_test}
use Rattle.swim_wire.specs.Limits.{max_nodes}

-- ---- answers

module _ {T E : Type 0} (r : Result T E) (P : Type 0) where
  pub done : (x : T) → r ≡ Ok x → P → OnOk r P
  done x is p = subst (λ (o : Result T E). OnOk o P) (sym is) p

  pub not_done : (y : E) → r ≡ Err y → OnOk r P
  not_done y is = subst (λ (o : Result T E). OnOk o P) (sym is) tt

  pub refused : (y : E) → r ≡ Err y → P → OnErr r P
  refused y is p = subst (λ (o : Result T E). OnErr o P) (sym is) p

  pub not_refused : (x : T) → r ≡ Ok x → OnErr r P
  not_refused x is = subst (λ (o : Result T E). OnErr o P) (sym is) tt

  pub always_refused : P → OnErr r P
  always_refused p = by_answer r
    where
      by_answer : (o : Result T E) → OnErr o P
      by_answer (Ok x) = tt
      by_answer (Err y) = p

-- the node at an index
pub node_at : (nodes : List NodeValue) (k : ℕ) (node : NodeValue) → k < length nodes
    → node ≡ get_or nodes k node → slice_get nodes k ≡ Some node
node_at nodes k node below is = slice_get_read nodes (length nodes) k node refl below is

-- ---- one node hears more

pub one_hears : (nodes : List NodeValue) (lists : List (List Claim)) (k : ℕ) (node new : NodeValue) (added : List Claim)
    → TablesOf nodes lists → slice_get nodes k ≡ Some node
    → (TableOf node.table (heard_by lists k) → TableOf new.table (heard_by lists k ++ added))
    → TablesOf (set nodes k new) (hear lists k added)
one_hears nodes lists k node new added h at takes = record {
  number = length-set lists k (heard_by lists k ++ added) ∙ h.number ∙ sym (length-set nodes k new);
  each = λ y other is. elim (replaced nodes k y new other is) [
    | inl same ↦
        subst (λ (n : NodeValue). TableOf n.table (heard_by (hear lists k added) y)) (sym same.1)
        (subst (λ (i : ℕ). TableOf new.table (heard_by (hear lists k added) i)) (sym same.0)
        (subst (TableOf new.table) (sym (hear_same lists k added below)) (takes (h.each k node at))))
    | inr old ↦ subst (TableOf other.table) (sym (hear_other lists k added y old.0)) (h.each y other old.1)
  ];
}
  where
    below : k < length lists
    below = let within = slice_get_within nodes k node at in let number = h.number in omega (arith, within, number)

-- ---- one event

member_same : (old new : NodeValue) → SameMember old new → member_of new ≡ member_of old
member_same old new same = λ i. record { name = same.name i; details = same.details i }

-- an event by which node k alone hears more
pub ran_one : (nodes : List NodeValue) (k : ℕ) (node new : NodeValue) (event : Event) (adds : List (List Claim) → List Claim)
    → slice_get nodes k ≡ Some node → SameMember node new
    → ((lists : List (List Claim)) → TablesOf nodes lists → after (members_of nodes) lists event ≡ hear lists k (adds lists))
    → ((lists : List (List Claim)) → TableOf node.table (heard_by lists k) → TableOf new.table (heard_by lists k ++ adds lists))
    → ((lists : List (List Claim)) → TablesOf nodes lists → CanHappen lists event)
    → Ran nodes (set nodes k new) (event ∷ [])
ran_one nodes k node new event adds at same hears takes can = record {
  members = members_same nodes k node new at (member_same node new same);
  tables = λ lists h. subst (TablesOf (set nodes k new)) (sym (hears lists h))
      (one_hears nodes lists k node new (adds lists) h at (takes lists));
  could = λ lists h. (can lists h, tt);
}

-- node k exists for what the nodes heard
pub named_heard : (nodes : List NodeValue) (lists : List (List Claim)) (k : ℕ) → TablesOf nodes lists → k < length nodes → k < length lists
named_heard nodes lists k h below = let number = h.number in omega (arith, below, number)

pub ran_hear : (nodes : List NodeValue) (k : ℕ) (node new : NodeValue) (claim : Claim) → slice_get nodes k ≡ Some node → SameMember node new
    → ((claims : List Claim) → TableOf node.table claims → TableOf new.table (claims ++ claim ∷ []))
    → Ran nodes (set nodes k new) (Hear k claim ∷ [])
ran_hear nodes k node new claim at same takes =
    ran_one nodes k node new (Hear k claim) (λ lists. claim ∷ []) at same (λ lists h. refl) (λ lists. takes (heard_by lists k))
    (λ lists h. record {
      named = named_heard nodes lists k h (slice_get_within nodes k node at);
      differ = λ no. no;
      few = λ y table no. absurd no;
    })

pub ran_hear_all : (nodes : List NodeValue) (k : ℕ) (node new : NodeValue) (all : List Claim)
    → slice_get nodes k ≡ Some node → SameMember node new
    → ((claims : List Claim) → TableOf node.table claims → TableOf new.table (claims ++ all))
    → Ran nodes (set nodes k new) (HearAll k all ∷ [])
ran_hear_all nodes k node new all at same takes =
    ran_one nodes k node new (HearAll k all) (λ lists. all) at same (λ lists h. refl) (λ lists. takes (heard_by lists k))
    (λ lists h. record {
      named = named_heard nodes lists k h (slice_get_within nodes k node at);
      differ = λ no. no;
      few = λ y table no. absurd no;
    })

-- ---- a node that is unchanged

-- if neither the member nor the table of a node changed, the node is unchanged
pub unchanged_node : (nodes : List NodeValue) (k : ℕ) (node new : NodeValue) → slice_get nodes k ≡ Some node
    → SameMember node new → new.table ≡ node.table → set nodes k new ≡ nodes
unchanged_node nodes k node new at same table =
    let is : new ≡ node = λ i. record { name = same.name i; details = same.details i; table = table i } in
    ap (λ (n : NodeValue). set nodes k n) (is ∙ sym (get_or_from_slice_get nodes k node node at)) ∙ set-get_or nodes k node

-- ---- a refutation

-- what the refutation of node k adds
refutation_at : (nodes : List NodeValue) (lists : List (List Claim)) (k : ℕ) (node : NodeValue) → slice_get nodes k ≡ Some node
    → refutation_of (members_of nodes) lists k ≡ refutation (member_of node) (heard_by lists k)
refutation_at nodes lists k node at =
    ap (λ (o : Option Member). refutation_by o (heard_by lists k)) (slice_get-map member_of nodes k ∙ ap (option_map member_of) at)

pub ran_refute : (nodes : List NodeValue) (k : ℕ) (node new : NodeValue) → slice_get nodes k ≡ Some node → SameMember node new
    → ((claims : List Claim) → TableOf node.table claims → TableOf new.table (claims ++ refutation (member_of node) claims))
    → Ran nodes (set nodes k new) (Refute k ∷ [])
ran_refute nodes k node new at same takes =
    ran_one nodes k node new (Refute k) (λ lists. refutation (member_of node) (heard_by lists k)) at same
    (λ lists h. ap (hear lists k) (refutation_at nodes lists k node at))
    (λ lists. takes (heard_by lists k))
    (λ lists h. record {
      named = named_heard nodes lists k h (slice_get_within nodes k node at);
      differ = λ no. no;
      few = λ y table no. absurd no;
    })

-- a node that did not change has the table of what it had heard and nothing more
stayed : (old new : NodeValue) (claims added : List Claim) → new ≡ old → added ≡ []
    → TableOf old.table claims → TableOf new.table (claims ++ added)
stayed old new claims added same none h =
    subst (λ (n : NodeValue). TableOf n.table (claims ++ added)) (sym same)
    (subst (TableOf old.table) (sym (ap (λ (l : List Claim). claims ++ l) none ∙ append-nil claims)) h)

-- a result that is not equal to out of memory is not out of memory
pub not_memory : (same : Option ℕ → Option ℕ → Bool) (alike : RefuteFault → RefuteFault → Bool) → alike Memory Memory ≡ true
    → (result : Result (Option ℕ) RefuteFault) → false ≡ result_eq same alike result (Err Memory) → result ≢ Err Memory
not_memory same alike own result differ is = false≢true
    (differ ∙ ap (λ (r : Result (Option ℕ) RefuteFault). result_eq same alike r (Err Memory)) is ∙ own)

-- unless memory ran out, the node has heard its refutation
pub refute_takes : (old new : NodeValue) (result : Result (Option ℕ) RefuteFault)
    → IfOk result (λ answer. IfSome answer (λ inc. inc ≤ 4294967295))
    → IfOk result (λ answer. IfSome answer (IsRefutedBy old new))
    → (result ≡ Ok None → IsAtRest old × (new ≡ old))
    → (result ≡ Err Exhausted → IsExhausted old)
    → ((inc : ℕ) → result ≡ Err (Gone inc) → IsGone old inc)
    → OnErr result (new ≡ old)
    → result ≢ Err Memory
    → (claims : List Claim) → TableOf old.table claims → TableOf new.table (claims ++ refutation (member_of old) claims)
refute_takes old new (Ok (Some inc)) within refuted rest exhausted gone err not_memory claims
    h = refuted_table old new inc refuted within claims h
refute_takes old new (Ok None) within refuted rest exhausted gone err not_memory claims h =
    stayed old new claims (refutation (member_of old) claims) (rest refl).1 (at_rest_adds old (rest refl).0 claims h) h
refute_takes old new (Err Exhausted) within refuted rest exhausted gone err not_memory claims h =
    stayed old new claims (refutation (member_of old) claims) err (exhausted_adds old (exhausted refl) claims h) h
refute_takes old new (Err (Gone inc)) within refuted rest exhausted gone err not_memory claims h =
    stayed old new claims (refutation (member_of old) claims) err (gone_adds old inc (gone inc refl) claims h) h
refute_takes old new (Err Memory) within refuted rest exhausted gone err not_memory claims h = absurd (not_memory refl)

-- ---- exchanges

-- the table of what node k has heard has as few records as its own
few_at : (nodes : List NodeValue) (lists : List (List Claim)) (k : ℕ) (node : NodeValue) → TablesOf nodes lists
    → slice_get nodes k ≡ Some node → ¬ HasTooMany node.table
    → (table : Entries) → TableOf table (heard_by lists k) → ¬ HasTooMany table
few_at nodes lists k node h at few table own =
    subst (λ (t : Entries). ¬ HasTooMany t)
    (TableOf-unique node.table table (heard_by lists k) (heard_by lists k) (h.each k node at) own (λ c. (λ made. made, λ made. made)))
    few

-- an exchange, or half of one, of two nodes with few enough records can happen
few_both : (nodes : List NodeValue) (lists : List (List Claim)) (j k : ℕ) (first second : NodeValue) → TablesOf nodes lists
    → slice_get nodes j ≡ Some first → slice_get nodes k ≡ Some second → (¬ HasTooMany first.table) × (¬ HasTooMany second.table)
    → (x : ℕ) (table : Entries) → (x ≡ j) ⊎ (x ≡ k) → TableOf table (heard_by lists x) → ¬ HasTooMany table
few_both nodes lists j k first second h at_first at_second few x table of own = elim of [
  | inl same ↦ few_at nodes lists j first h at_first few.0 table (subst (λ (i : ℕ). TableOf table (heard_by lists i)) same own)
  | inr same ↦ few_at nodes lists k second h at_second few.1 table (subst (λ (i : ℕ). TableOf table (heard_by lists i)) same own)
]

two_heard : (nodes : List NodeValue) (lists : List (List Claim)) (j k : ℕ) → TablesOf nodes lists → AreTwoNodes
    (length nodes) j k → AreTwoNodes (length lists) j k
two_heard nodes lists j k h two = subst (λ (n : ℕ). AreTwoNodes n j k) (sym h.number) two

after_exchange : (members : List Member) (lists : List (List Claim)) (j k : ℕ) → AreTwoNodes (length lists) j k
    → after members lists (Exchange j k) ≡ hear_both lists j k (heard_by lists j ++ heard_by lists k)
after_exchange members lists j k two =
    ap (λ b. if b then hear_both lists j k (heard_by lists j ++ heard_by lists k) else lists) (two_nodes_test (length lists) j k two)

after_half : (members : List Member) (lists : List (List Claim)) (j k : ℕ) → AreTwoNodes (length lists) j k
    → after members lists (Half j k) ≡ hear lists k (heard_by lists j)
after_half members lists j k two = ap (λ b. if b then hear lists k (heard_by lists j) else lists) (two_nodes_test (length lists) j k two)

pub ran_half : (nodes : List NodeValue) (j k : ℕ) (first second new : NodeValue) → AreTwoNodes (length nodes) j k
    → slice_get nodes j ≡ Some first → slice_get nodes k ≡ Some second → SameMember second new
    → (¬ HasTooMany first.table) × (¬ HasTooMany second.table)
    → ((claims others : List Claim) → TableOf second.table claims → TableOf first.table others → TableOf new.table (claims ++ others))
    → Ran nodes (set nodes k new) (Half j k ∷ [])
ran_half nodes j k first second new two at_first at_second same few takes = record {
  members = members_same nodes k second new at_second (member_same second new same);
  tables = λ lists h.
      subst (TablesOf (set nodes k new)) (sym (after_half (members_of nodes) lists j k (two_heard nodes lists j k h two)))
      (one_hears nodes lists k second new (heard_by lists j) h at_second
      (λ own. takes (heard_by lists k) (heard_by lists j) own (h.each j first at_first)));
  could = λ lists h. (
    record {
      named = ((two_heard nodes lists j k h two).0, (two_heard nodes lists j k h two).1);
      differ = two.2;
      few = few_both nodes lists j k first second h at_first at_second few;
    },
    tt,
  );
}

-- two nodes hear what both had heard
two_hear : (nodes : List NodeValue) (lists : List (List Claim)) (j k : ℕ) (a b : NodeValue) (both : List Claim)
    → TablesOf nodes lists → AreTwoNodes (length lists) j k
    → TableOf a.table both → TableOf b.table both → TablesOf (set (set nodes j a) k b) (hear_both lists j k both)
two_hear nodes lists j k a b both h two own theirs = record {
  number = length-set (set lists j both) k both ∙ length-set lists j both ∙ h.number
      ∙ sym (length-set (set nodes j a) k b ∙ length-set nodes j a);
  each = λ y node is. elim (replaced (set nodes j a) k y b node is) [
    | inl same ↦ at y node k b same.0 same.1 (subst (TableOf b.table) (sym (both_second lists j k both two)) theirs)
    | inr kept ↦
        elim (replaced nodes j y a node kept.1) [
          | inl same ↦ at y node j a same.0 same.1 (subst (TableOf a.table) (sym (both_first lists j k both two)) own)
          | inr old ↦ subst (TableOf node.table) (sym (both_other lists j k both y old.0 kept.0)) (h.each y node old.1)
        ]
  ];
}
  where
    at : (y : ℕ) (node : NodeValue) (x : ℕ) (new : NodeValue) → y ≡ x → node ≡ new
        → TableOf new.table (heard_by (hear_both lists j k both) x)
        → TableOf node.table (heard_by (hear_both lists j k both) y)
    at y node x new place same takes =
        subst (λ (n : NodeValue). TableOf n.table (heard_by (hear_both lists j k both) y)) (sym same)
        (subst (λ (i : ℕ). TableOf new.table (heard_by (hear_both lists j k both) i)) (sym place) takes)

-- two nodes' tables are those of the claims of both
ran_both : (nodes : List NodeValue) (j k : ℕ) (first second a b : NodeValue) → AreTwoNodes (length nodes) j k
    → slice_get nodes j ≡ Some first → slice_get nodes k ≡ Some second → SameMember first a → SameMember second b
    → (¬ HasTooMany first.table) × (¬ HasTooMany second.table)
    → ((claims others : List Claim) → TableOf first.table claims → TableOf second.table others
    → TableOf a.table (claims ++ others) × TableOf b.table (claims ++ others))
    → Ran nodes (set (set nodes j a) k b) (Exchange j k ∷ [])
ran_both nodes j k first second a b two at_first at_second same_first same_second few takes = record {
  members =
      members_same (set nodes j a) k second b
      (kept_at nodes j k a second at_second (λ same. two.2 (sym same)))
      (member_same second b same_second)
      ∙ members_same nodes j first a at_first (member_same first a same_first);
  tables = λ lists h.
      (let joined = takes (heard_by lists j) (heard_by lists k) (h.each j first at_first) (h.each k second at_second) in
      subst (TablesOf (set (set nodes j a) k b)) (sym (after_exchange (members_of nodes) lists j k (two_heard nodes lists j k h two)))
      (two_hear nodes lists j k a b (heard_by lists j ++ heard_by lists k) h (two_heard nodes lists j k h two) joined.0 joined.1));
  could = λ lists h. (
    record {
      named = ((two_heard nodes lists j k h two).0, (two_heard nodes lists j k h two).1);
      differ = two.2;
      few = few_both nodes lists j k first second h at_first at_second few;
    },
    tt,
  );
}

pub ran_exchange : (nodes new : List NodeValue) (j k : ℕ) → AreTwoNodes (length nodes) j k
    → BothExchange nodes new j k → Ran nodes new (Exchange j k ∷ [])
ran_exchange nodes new j k two both =
    subst (λ (l : List NodeValue). Ran nodes l (Exchange j k ∷ [])) (sym both.nodes)
    (ran_both nodes j k both.first both.second (with_table both.first both.one)
    (with_table both.second both.other) two both.at_first both.at_second
    (record { name = refl; details = refl }) (record { name = refl; details = refl }) both.few both.joined)

-- the exchange of the greater number with the smaller one is that of the two
pub exchange_turned : (nodes new : List NodeValue) (j k : ℕ) → AreTwoNodes (length nodes) j k
    → BothExchange nodes new k j → Ran nodes new (Exchange j k ∷ [])
exchange_turned nodes new j k two both =
    subst (λ (l : List NodeValue). Ran nodes l (Exchange j k ∷ [])) (sym (both.nodes ∙ set_comm))
    (ran_both nodes j k both.second both.first (with_table both.second both.other)
    (with_table both.first both.one) two both.at_second both.at_first
    (record { name = refl; details = refl }) (record { name = refl; details = refl }) (both.few.1, both.few.0)
    (λ claims others h g. (let joined = both.joined others claims g h
    in (swapped both.other others claims joined.1, swapped both.one others claims joined.0))))
  where
    set_comm : set (set nodes k (with_table both.first both.one)) j (with_table both.second both.other)
        ≡ set (set nodes j (with_table both.second both.other)) k (with_table both.first both.one)
    set_comm = set_swap nodes k j (with_table both.first both.one) (with_table both.second both.other) (λ same. two.2 (sym same))

    swapped : (table : Entries) (claims others : List Claim) → TableOf table (claims ++ others) → TableOf table (others ++ claims)
    swapped table claims others = TableOf-same table (claims ++ others) (others ++ claims) (Same-append_comm claims others)

pub ok_both : {T E P Q R : Type 0} (r : Result T E) → (P → Q → R) → OnOk r P → OnOk r Q → OnOk r R
ok_both (Ok x) both p q = both p q
ok_both (Err y) both p q = q

-- two nodes' tables were exchanged in two parts of the list
pub both_in_parts : (nodes front back : List NodeValue) (j k : ℕ) (first second : NodeValue) (one other : Entries)
    → nodes ≡ front ++ back → length front ≡ k → j < k → k < length nodes → first ≡ get_or front j first → second ≡ get_or back 0 second
    → (¬ HasTooMany first.table) × (¬ HasTooMany second.table)
    → ((claims others : List Claim) → TableOf first.table claims → TableOf second.table others
    → TableOf one (claims ++ others) × TableOf other (claims ++ others))
    → BothExchange nodes (set front j (with_table first one) ++ set back 0 (with_table second other)) j k
both_in_parts nodes front back j k first second one other parts size below within is_first is_second few joined = record {
  first = first;
  second = second;
  at_first = at_front nodes front back j first parts (omega (arith, size, below)) is_first;
  at_second = at_back nodes front back k second parts size within is_second;
  one = one;
  other = other;
  nodes = in_parts nodes front back j k (with_table first one) (with_table second other) parts size below;
  few = few;
  joined = joined;
}

-- an obstacle with a weaker condition
pub hinders_as : (P Q : Type 0) → (P → Q) → (why : Why) → Hinders P why → Hinders Q why
hinders_as P Q also why.NoSuchNode hinders = hinders
hinders_as P Q also why.SameNode hinders = hinders
hinders_as P Q also why.TooManyRecords hinders = also hinders
hinders_as P Q also why.Memory hinders = hinders

-- one of two nodes has too many records
pub too_many_at : (nodes : List NodeValue) (j k : ℕ) (first second : NodeValue) (event : Event)
    → slice_get nodes j ≡ Some first → slice_get nodes k ≡ Some second
    → ((x : ℕ) → (x ≡ j) ⊎ (x ≡ k) → Dumps event x) → HasTooMany first.table ⊎ HasTooMany second.table → DumpsTooMany nodes event
too_many_at nodes j k first second event at_first at_second dumps many = elim many [
  | inl own ↦ (j, first, dumps j (inl refl), at_first, own)
  | inr theirs ↦ (k, second, dumps k (inr refl), at_second, theirs)
]

pub few_enough : (table : Entries) → length (Reduced table) ≤ max_nodes → ¬ HasTooMany table
few_enough table few many = omega (arith, few, many)

-- why an exchange, or half of one, of two nodes does not happen
pub stops_exchange : (nodes : List NodeValue) (j k : ℕ) → AreTwoNodes (length nodes) j k → (why : Why) → Hinders
    (DumpsTooMany nodes (Exchange j k)) why → StopsBy nodes (Exchange j k) why
stops_exchange nodes j k two why.NoSuchNode hinders = absurd hinders
stops_exchange nodes j k two why.SameNode hinders = absurd hinders
stops_exchange nodes j k two why.TooManyRecords hinders = ((two.0, two.1), two.2, hinders)
stops_exchange nodes j k two why.Memory hinders = ((two.0, two.1), two.2, tt)

pub stops_half : (nodes : List NodeValue) (j k x : ℕ) (node : NodeValue) → AreTwoNodes (length nodes) j k
    → slice_get nodes x ≡ Some node → Dumps (Half j k) x
    → (why : Why) → Hinders (HasTooMany node.table) why → StopsBy nodes (Half j k) why
stops_half nodes j k x node two at dumps why.NoSuchNode hinders = absurd hinders
stops_half nodes j k x node two at dumps why.SameNode hinders = absurd hinders
stops_half nodes j k x node two at dumps why.TooManyRecords hinders = ((two.0, two.1), two.2, (x, node, dumps, at, hinders))
stops_half nodes j k x node two at dumps why.Memory hinders = ((two.0, two.1), two.2, tt)

-- an exchange of two tables in the list, named in either order
pub turned_too_many : (nodes : List NodeValue) (j k : ℕ) → DumpsTooMany nodes (Exchange k j) → DumpsTooMany nodes (Exchange j k)
turned_too_many nodes j k (x, node, dumps, at, many) = (x, node, other dumps, at, many)
  where
    other : (x ≡ k) ⊎ (x ≡ j) → (x ≡ j) ⊎ (x ≡ k)
    other (inl same) = inr same
    other (inr same) = inl same

-- the whole list, if as many nodes were written as there are
pub all_written : (nodes new : List NodeValue) (n : ℕ) → n ≡ length nodes → length new ≡ length nodes
    → take n (new ++ drop (length new) nodes) ≡ new
all_written nodes new n number same =
    ap (λ (l : List NodeValue). take n (new ++ l)) (drop_all (length new) nodes (omega (arith, same)))
    ∙ ap (λ (l : List NodeValue). take n l) (append-nil new) ∙ take_all n new (omega (arith, number, same))

pub length-exchanged : (old new : List NodeValue) (j k : ℕ) → BothExchange old new j k → length new ≡ length old
length-exchanged old new j k both =
    ap length both.nodes ∙ length-set (set old j (with_table both.first both.one)) k (with_table both.second both.other)
    ∙ length-set old j (with_table both.first both.one)

-- ---- runs of events

pub ran_nothing : (nodes : List NodeValue) → Ran nodes nodes []
ran_nothing nodes = record { members = refl; tables = λ start h. h; could = λ start h. tt }

could-append : (members : List Member) (start : List (List Claim)) (events others : List Event)
    → EachCanHappen members start events → EachCanHappen members (heard members start events) others
    → EachCanHappen members start (events ++ others)
could-append members start [] others each more = more
could-append members start (event ∷ events) others each more = (
  each.0,
  could-append members (after members start event) events others each.1 more,
)

pub ran-append : (old mid new : List NodeValue) (events others : List Event) → Ran old mid events
    → Ran mid new others → Ran old new (events ++ others)
ran-append old mid new events others r s = record {
  members = s.members ∙ r.members;
  tables = λ start h.
      subst (TablesOf new) (sym (heard-append (members_of old) start events others))
      (subst (λ (members : List Member). TablesOf new (heard members (heard (members_of old) start events) others)) r.members
      (s.tables (heard (members_of old) start events) (r.tables start h)));
  could = λ start h.
      could-append (members_of old) start events others (r.could start h)
      (subst (λ (members : List Member). EachCanHappen members (heard (members_of old) start events) others) r.members
      (s.could (heard (members_of old) start events) (r.tables start h)));
}

-- a run of one more event
pub ran_more : (old mid new : List NodeValue) (events : List Event) (i : ℕ) (event : Event)
    → i < length events → event ≡ get_or events i event
    → Ran old mid (take i events) → Ran mid new (event ∷ []) → Ran old new (take (i + 1) events)
ran_more old mid new events i event below is r s =
    subst (Ran old new) (sym (take_more events i event below ∙ ap (λ (e : Event). take i events ++ e ∷ []) (sym is)))
    (ran-append old mid new (take i events) (event ∷ []) r s)
