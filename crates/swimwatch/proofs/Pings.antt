-- Whether a set of pings has one after one more was put in.
use Rattle.std.proofs.Common.{◌≡◌, ℕ, Bool, true, false, ◌||◌, ◌&&◌, List, [], ◌∷◌, ◌++◌, refl, sym, ap, ap₂, ◌∙◌}
use Rattle.std.proofs.lemmas.Map.Text.{is_eq-slice_cmp}
use Rattle.std.proofs.lemmas.Map.Lookups.{exact_bytes}
use Rattle.std.proofs.lemmas.List.Folds.{list_any-append}
use Rattle.std.specs.Borrow.{Bor}
use Rattle.std.specs.Cmp.Lexicographic.{slice_cmp, on_texts_equal}
use Rattle.std.specs.Str.{bytes_eq}
use Rattle.std.specs.Ordering.{match_ordering, is_eq, nat_cmp, ordering_then}
use Rattle.std.specs.declared.cmp.Ordering.{Ordering}
use Rattle.std.specs.declared.cmp.Ordering.TheVariants.{Less, Equal, Greater}
use Rattle.std.specs.BTreeMap.{is_at}
use Rattle.std.specs.BTreeSet.{BTreeSet, insert_key}
use Rattle.std.specs.List.{list_any}
use Rattle.memberlist_message.specs.declared.message.Message.{Message}
use Rattle.memberlist_message.specs.declared.message.Message.TheVariants as message
use Rattle.memberlist_message.specs.declared.message.Ping.{Ping}
use Rattle.swimwatch.specs.Pinged.{HasPings, is_pinged}
use Rattle.swimwatch.specs.Views.{is_nil, warns}

again : (p q : Bool) → p || (p || q) ≡ p || q
again true q = refl
again false q = refl

swapped : (p q r : Bool) → p || (q || r) ≡ q || (p || r)
swapped true true r = refl
swapped true false r = refl
swapped false q r = refl

or-false : (b : Bool) → b || false ≡ b
or-false true = refl
or-false false = refl

-- a query that does not tell equal keys apart finds what was put in, or what was there
module _ {K : Type 0} (cmp : K → K → Ordering) (f : K → Ordering)
    (same : (x y : K) → cmp x y ≡ Equal → f x ≡ f y) where
  pub any-insert_key : (keys : List K) (k : K)
      → list_any (is_at f) (insert_key cmp keys k) ≡ is_at f k || list_any (is_at f) keys
  any-insert_key [] k = refl
  any-insert_key (x ∷ xs) k = by (cmp k x) refl (any-insert_key xs k)
    where
      by : (o : Ordering) → cmp k x ≡ o
          → list_any (is_at f) (insert_key cmp xs k) ≡ is_at f k || list_any (is_at f) xs
          → list_any (is_at f) (match_ordering o (k ∷ x ∷ xs) (x ∷ xs) (x ∷ insert_key cmp xs k))
          ≡ is_at f k || (is_at f x || list_any (is_at f) xs)
      by Less e later = refl
      by Equal e later = sym (ap (λ (o : Ordering). is_eq o || (is_at f x || list_any (is_at f) xs)) (same k x e)
          ∙ again (is_at f x) (list_any (is_at f) xs))
      by Greater e later = ap (λ (b : Bool). is_at f x || b) later
          ∙ swapped (is_at f x) (is_at f k) (list_any (is_at f) xs)

-- what a ping adds, as one pair and by the two queries
pub one_more : (to by none old other : Bool)
    → ((to && by) || old) || ((to && none) || other) ≡ (old || other) || ((to && (none || by)) || false)
one_more false by none true other = refl
one_more false by none false true = refl
one_more false by none false false = refl
one_more true true none true other = refl
one_more true true true false true = refl
one_more true true true false false = refl
one_more true true false false true = refl
one_more true true false false false = refl
one_more true false none true other = refl
one_more true false true false true = refl
one_more true false true false false = refl
one_more true false false false true = refl
one_more true false false false false = refl

-- ---- pairs of names

abbrev pub Pair : Type 0
Pair = Bor (List ℕ) × Bor (List ℕ)

abbrev pub pair_cmp : Pair → Pair → Ordering
pair_cmp x y = ordering_then (slice_cmp nat_cmp x.0.now y.0.now) (slice_cmp nat_cmp x.1.now y.1.now)

abbrev query : List ℕ → List ℕ → Pair → Ordering
query suspect accuser k =
    ordering_then (slice_cmp nat_cmp suspect k.0.now) (slice_cmp nat_cmp accuser k.1.now)

both_equal : (o p : Ordering) → ordering_then o p ≡ Equal → (o ≡ Equal) × (p ≡ Equal)
both_equal Less p e = absurd cc
both_equal Equal p e = (refl, e)
both_equal Greater p e = absurd cc

-- a query does not tell equal pairs apart
query-same : (suspect accuser : List ℕ) (x y : Pair) → pair_cmp x y ≡ Equal
    → query suspect accuser x ≡ query suspect accuser y
query-same suspect accuser x y e =
    let parts = both_equal (slice_cmp nat_cmp x.0.now y.0.now) (slice_cmp nat_cmp x.1.now y.1.now) e in
    ap (λ (n : List ℕ). ordering_then (slice_cmp nat_cmp suspect n) (slice_cmp nat_cmp accuser x.1.now))
    (exact_bytes x.0.now y.0.now parts.0)
    ∙ ap (λ (n : List ℕ). ordering_then (slice_cmp nat_cmp suspect y.0.now) (slice_cmp nat_cmp accuser n))
    (exact_bytes x.1.now y.1.now parts.1)

both_are : (o p : Ordering) → is_eq (ordering_then o p) ≡ is_eq o && is_eq p
both_are Less p = refl
both_are Equal p = refl
both_are Greater p = refl

bytes_eq-sym : (xs ys : List ℕ) → bytes_eq xs ys ≡ bytes_eq ys xs
bytes_eq-sym = (on_texts_equal (λ (xs : List ℕ). xs)).symm

nobody : (xs : List ℕ) → bytes_eq xs [] ≡ is_nil xs
nobody [] = refl
nobody (x ∷ xs) = refl

-- whether a query finds a pair
at-pair : (suspect accuser : List ℕ) (k : Pair)
    → is_at (query suspect accuser) k ≡ bytes_eq k.0.now suspect && bytes_eq k.1.now accuser
at-pair suspect accuser k = both_are (slice_cmp nat_cmp suspect k.0.now) (slice_cmp nat_cmp accuser k.1.now)
    ∙ ap (λ (b : Bool). b && is_eq (slice_cmp nat_cmp accuser k.1.now))
    (is_eq-slice_cmp suspect k.0.now ∙ bytes_eq-sym suspect k.0.now)
    ∙ ap (λ (b : Bool). bytes_eq k.0.now suspect && b)
    (is_eq-slice_cmp accuser k.1.now ∙ bytes_eq-sym accuser k.1.now)

-- one more ping
pub HasPings-ping : (old new : BTreeSet Pair) (k : Pair) (ping : Ping) (past : List Message)
    → new.keys ≡ insert_key pair_cmp old.keys k → k.0.now ≡ ping.node.items → k.1.now ≡ ping.source_node.items
    → HasPings old past → HasPings new (past ++ message.Ping ping ∷ [])
HasPings-ping old new k ping past keys node source h suspect accuser =
    let to = bytes_eq ping.node.items suspect in
    let found : (a : List ℕ) → is_pinged new suspect a
    ≡ (to && bytes_eq ping.source_node.items a) || is_pinged old suspect a = λ a.
    ap (list_any (is_at (query suspect a))) keys
    ∙ any-insert_key pair_cmp (query suspect a) (query-same suspect a) old.keys k
    ∙ ap (λ (b : Bool). b || is_pinged old suspect a)
    (at-pair suspect a k
    ∙ ap₂ (λ (n s : List ℕ). bytes_eq n suspect && bytes_eq s a) node source) in
    ap₂ (λ (b c : Bool). b || c) (found accuser)
    (found [] ∙ ap (λ (b : Bool). (to && b) || is_pinged old suspect []) (nobody ping.source_node.items))
    ∙ one_more to (bytes_eq ping.source_node.items accuser) (is_nil ping.source_node.items)
    (is_pinged old suspect accuser) (is_pinged old suspect [])
    ∙ ap (λ (b : Bool). b || (warns suspect accuser (message.Ping ping) || false)) (h suspect accuser)
    ∙ sym (list_any-append (warns suspect accuser) past (message.Ping ping ∷ []))

quiet : (suspect accuser : List ℕ) (m : Message) → ((ping : Ping) → ¬ (m ≡ message.Ping ping))
    → warns suspect accuser m ≡ false
quiet suspect accuser (message.Ping ping) none = absurd (none ping refl)
quiet suspect accuser (message.IndirectPing ping) none = refl
quiet suspect accuser (message.Ack ack) none = refl
quiet suspect accuser (message.Nack nack) none = refl
quiet suspect accuser (message.User bytes) none = refl
quiet suspect accuser (message.Error response) none = refl
quiet suspect accuser (message.Claim packet) none = refl

-- one more message that is no ping
pub HasPings-other : (pairs : BTreeSet Pair) (m : Message) (past : List Message)
    → ((ping : Ping) → ¬ (m ≡ message.Ping ping)) → HasPings pairs past → HasPings pairs (past ++ m ∷ [])
HasPings-other pairs m past none h suspect accuser = h suspect accuser
    ∙ sym (or-false (list_any (warns suspect accuser) past))
    ∙ ap (λ (b : Bool). list_any (warns suspect accuser) past || (b || false)) (sym (quiet suspect accuser m none))
    ∙ sym (list_any-append (warns suspect accuser) past (m ∷ []))
