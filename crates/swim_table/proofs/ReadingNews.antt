-- A push/pull stream of which a part was read, and what a table lacks of it.
use mathlib.Core.Bool.{false≢true}
use Rattle.std.proofs.Common.{◌≡◌, ◌≢◌, ◌↔◌, true, false, IsTrue, MatchBool, ℕ, ◌+◌, ◌<◌, ◌⊎◌, inl, inr, Bool, List, []}
use Rattle.std.proofs.Common.{Err, ◌∷◌, ◌++◌, length, Option, Some, None, Contains, MatchOption, refl, sym, ap, subst}
use Rattle.std.proofs.Common.{◌∙◌, append_assoc, append-nil, length-append, arith}
use Rattle.std.proofs.lemmas.List.Elements.{Contains-append_cases, Contains-append_left, Contains-append_right}
use Rattle.std.specs.Prelude.{IfSome}
use Rattle.swim_claim.specs.Claim.{name_of}
use Rattle.swim_claim.specs.declared.claim.Claim.{Claim}
use Rattle.swim_pack.specs.Composing.{Answers, ReadsAs, UnlessFailed, same}
use Rattle.swim_pack.specs.Ends.{Source, ConsumesText, NoTextAtFront}
use Rattle.swim_pack.proofs.Composing.{ConsumesText-both, ConsumesText-mono, UnlessFailed-weaker}
use Rattle.swim_wire.specs.declared.fault.WireFault.{WireFault}
use Rattle.swim_wire.specs.declared.fault.WireFault.TheVariants.{Ended, Fault, Memory}
use Rattle.swim_wire.specs.Checks.{ReasonForStart, ReasonForState}
use Rattle.swim_wire.specs.declared.stream.Header.{Header}
use Rattle.swim_wire.specs.Reading.{wire_cause, state_at}
use Rattle.swim_wire.specs.Streams.{StreamText, StateTexts as texts}
use Rattle.swim_wire.specs.Texts.{HeaderText, StateText}
use Rattle.swim_table.specs.Steps.{BeginText, IsWanted, IsWanted as wants, ReasonForStep, ReasonForStep as why_step, ReasonForStream}
use Rattle.swim_table.specs.Streaming.{Streaming}
use Rattle.swim_table.specs.Standing.{Standing}
use Rattle.swim_table.specs.Table.{Entries, get, IsAscending, Reduced, Same, TableOf}
use Rattle.swim_table.specs.Join.{Join, combined, joined, put, standing_of}
use Rattle.swim_table.specs.News.{IsKnown, IsNewsOf, TakesNews, TakesNews as takes}
use Rattle.swim_table.proofs.Changed.{get-Join}
use Rattle.swim_table.proofs.Lookups.{IsAscending-put, get-put, get_cases, get_here, joined_both, joined-none, same_table}
use Rattle.swim_table.proofs.Streams.{ReadSome, begun_more, none_wanted, record_asks, step_reason, user_reason, whole}
use Rattle.swim_table.proofs.Tables.{Same-append_comm, standing_of_top, TableOf-Join, TableOf-put, TableOf-Reduced}
use Rattle.swim_table.proofs.Tables.{TableOf-same, TableOf-table_of, TableOf-unique}

-- ---- a claim that adds nothing

module _ (table : Entries) (up : IsAscending table) (c : Claim) where
  named : name_of (standing_of c).top ≡ name_of c
  named = ap name_of (standing_of_top c)

  pub known_put : IsKnown table c → put table (standing_of c) ≡ table
  known_put is = same_table (put table (standing_of c)) table (IsAscending-put table (standing_of c) up) up
      (λ name. get-put table (standing_of c) up name ∙ each name)
    where
      each : (name : List ℕ) → joined (get table name) (get (standing_of c ∷ []) name) ≡ get table name
      each name = elim (get_cases (standing_of c) [] name) [
        | inl here ↦
            joined_both refl here.1 ∙ subst (λ n. joined (get table n) (Some (standing_of c)) ≡ get table n) (sym (here.0 ∙ named)) is
        | inr later ↦ joined_both refl later.1 ∙ joined-none (get table name)
      ]

  pub put_known : put table (standing_of c) ≡ table → IsKnown table c
  put_known is =
      sym (joined_both refl (get_here (standing_of c) [] (name_of c) (sym named))) ∙ sym (get-put table (standing_of c) up (name_of c))
      ∙ ap (λ t. get t (name_of c)) is

some_is : (e s : Standing) → Some s ≡ Some e → s ≡ e
some_is e s is = cc

pub told_known : (table : Entries) (c : Claim) (e : Standing) (known : Bool) → get table (name_of c) ≡ Some e
    → IsTrue known ↔ (combined e (standing_of c) ≡ e) → MatchBool known (IsKnown table c) (¬ IsKnown table c)
told_known table c e true at is = rw at (ap Some (is.0 refl))
told_known table c e false at is = λ known. false≢true (is.1 (some_is e (combined e (standing_of c)) (rw at at known)))

pub unknown : (table : Entries) (c : Claim) → get table (name_of c) ≡ None → ¬ IsKnown table c
unknown table c none = λ known. let is : Some (standing_of c) ≡ None = rw none at known in absurd cc

-- ---- the claims in another order

swapped : (xs ys zs : List Claim) → Same (xs ++ (ys ++ zs)) (xs ++ (zs ++ ys))
swapped xs ys zs c = (turned ys zs, turned zs ys)
  where
    turned : (ys zs : List Claim) → Contains (xs ++ (ys ++ zs)) c → Contains (xs ++ (zs ++ ys)) c
    turned ys zs made = elim (Contains-append_cases xs (ys ++ zs) c made) [
      | inl m ↦ Contains-append_left xs (zs ++ ys) c m
      | inr m ↦ Contains-append_right xs (zs ++ ys) c ((Same-append_comm ys zs c).0 m)
    ]

twice : (xs : List Claim) (c : Claim) → Same ((xs ++ c ∷ []) ++ c ∷ []) (xs ++ c ∷ [])
twice xs c d = (
  λ made. elim (Contains-append_cases (xs ++ c ∷ []) (c ∷ []) d made) [ inl m ↦ m | inr m ↦ Contains-append_right xs (c ∷ []) d m ],
  λ made. Contains-append_left (xs ++ c ∷ []) (c ∷ []) d made,
)

-- ---- the news

module _ (table : Entries) (h : TableOf table (Reduced table)) where
  pub no_news : IsNewsOf table [] []
  no_news = record {
    joins = λ taken of. TableOf-Join table [] taken [] of (TableOf-table_of []);
    changes = λ name. get-Join table [] h (TableOf-table_of []) name ∙ joined-none (get table name);
  }

  module _ (old new : Entries) (g : TableOf old (Reduced old)) (claims : List Claim) (c : Claim) (w : IsNewsOf table old claims) where
    known_news : IsKnown table c → IsNewsOf table old (claims ++ c ∷ [])
    known_news is = record {
      joins =
          λ taken of.
          (let more = subst (λ t. TableOf t (taken ++ c ∷ [])) (known_put table h.ascending c is) (TableOf-put table taken c of) in
          TableOf-same (Join table old) (taken ++ (c ∷ [] ++ claims)) (taken ++ (claims ++ c ∷ [])) (swapped taken (c ∷ []) claims)
          (subst (TableOf (Join table old)) (append_assoc taken (c ∷ []) claims) (w.joins (taken ++ c ∷ []) more)));
      changes = w.changes;
    }

    module _ (all : (claims : List Claim) → TableOf old claims → TableOf new (claims ++ c ∷ [])) where
      -- joining the new news is putting the claim into the join with the old ones
      one_more : Join table new ≡ put (Join table old) (standing_of c)
      one_more =
          TableOf-unique (Join table new) (put (Join table old) (standing_of c))
          (Reduced table ++ (Reduced old ++ c ∷ [])) ((Reduced table ++ Reduced old) ++ c ∷ [])
          (TableOf-Join table new (Reduced table) (Reduced old ++ c ∷ []) h (all (Reduced old) g))
          (TableOf-put (Join table old) (Reduced table ++ Reduced old) c (TableOf-table_of (Reduced table ++ Reduced old)))
          (λ d. (
            subst (λ l. Contains l d) (sym (append_assoc (Reduced table) (Reduced old) (c ∷ []))),
            subst (λ l. Contains l d) (append_assoc (Reduced table) (Reduced old) (c ∷ [])),
          ))

      own : TableOf new (Reduced new)
      own = TableOf-Reduced new (Reduced old ++ c ∷ []) (all (Reduced old) g)

      at_other : (name : List ℕ) → name ≢ name_of c → get new name ≡ get old name
      at_other name other = elim (get_cases (standing_of c) [] name) [
        | inl here ↦ absurd (other (here.0 ∙ named table h.ascending c))
        | inr later ↦
            (let is : new ≡ put old (standing_of c) =
            TableOf-unique new (put old (standing_of c)) (Reduced old ++ c ∷ []) (Reduced old ++ c ∷ []) (all (Reduced old) g)
            (TableOf-put old (Reduced old) c g) (λ d. (λ x. x, λ x. x)) in
            ap (λ t. get t name) is ∙ get-put old (standing_of c) g.ascending name ∙ joined_both refl later.1 ∙ joined-none (get old name))
      ]

      -- to put the claim into the join again changes nothing
      again : put (Join table new) (standing_of c) ≡ Join table new
      again =
          let all_of = Reduced table ++ Reduced old in
          let whole =
          subst (TableOf (Join table new)) (sym (append_assoc (Reduced table) (Reduced old) (c ∷ [])))
          (TableOf-Join table new (Reduced table) (Reduced old ++ c ∷ []) h (all (Reduced old) g)) in
          TableOf-unique (put (Join table new) (standing_of c)) (Join table new) ((all_of ++ c ∷ []) ++ c ∷ []) (all_of ++ c ∷ [])
          (TableOf-put (Join table new) (all_of ++ c ∷ []) c whole) whole (twice all_of c)

      at_claim : ¬ IsKnown table c → get (Join table new) (name_of c) ≢ get table (name_of c)
      at_claim not same =
          let up = (TableOf-table_of (Reduced table ++ Reduced new)).ascending in
          not (subst (λ o. joined o (Some (standing_of c)) ≡ o) same (put_known (Join table new) up c again))

      taken_news : ¬ IsKnown table c → IsNewsOf table new (claims ++ c ∷ [])
      taken_news not = record {
        joins =
            λ taken of.
            subst (TableOf (Join table new)) (append_assoc taken claims (c ∷ []))
            (subst (λ t. TableOf t ((taken ++ claims) ++ c ∷ [])) (sym one_more)
            (TableOf-put (Join table old) (taken ++ claims) c (w.joins taken of)));
        changes = λ name. by_entry name (get new name) refl;
      }
        where
          by_entry : (name : List ℕ) (o : Option Standing) → get new name ≡ o
              → MatchOption o (get (Join table new) name ≡ get table name) (λ _. get (Join table new) name ≢ get table name)
          by_entry name None is = get-Join table new h own name ∙ joined_both refl is ∙ joined-none (get table name)
          by_entry name (Some s) is = λ same. elim (get_cases (standing_of c) [] name) [
            | inl here ↦
                (let at : name ≡ name_of c = here.0 ∙ named table h.ascending c in
                at_claim not (subst (λ n. get (Join table new) n ≡ get table n) at same))
            | inr later ↦
                (let other = λ (at : name ≡ name_of c). later.0 (at ∙ sym (named table h.ascending c)) in
                let before : get old name ≡ Some s = sym (at_other name other) ∙ is in
                let changed : get (Join table old) name ≢ get table name =
                subst (λ o. MatchOption o (get (Join table old) name ≡ get table name)
                (λ _. get (Join table old) name ≢ get table name)) before
                (w.changes name) in
                changed
                (get-Join table old h g name ∙ joined_both refl (sym (at_other name other)) ∙ sym (get-Join table new h own name) ∙ same))
          ]

  pub more_news : (old new : Entries) → TableOf old (Reduced old) → (claims : List Claim) (c : Claim) → IsNewsOf table old claims
      → TakesNews table old new c → IsNewsOf table new (claims ++ c ∷ [])
  more_news old new g claims c w (takes.known is same) =
      subst (λ t. IsNewsOf table t (claims ++ c ∷ [])) (sym same) (known_news old old g claims c w is)
  more_news old new g claims c w (takes.taken not all) = taken_news old new g claims c w all not

-- ---- the part that was read

-- What was taken since the stream began: its header, and the records of some claims, of which these
-- are the news.
pub record ReadNews (old new : Source) (header : Header) (left : ℕ) (table news : Entries) : Type 0 where
  pub claims : List Claim
  pub counted : length claims + left ≡ header.nodes
  pub taken : ConsumesText old new (λ b. BeginText b header claims)
  pub are_news : IsNewsOf table news claims

pub begun_news : (old new : Source) (reader : Streaming) (header : Header) (table news : Entries) → header ≡ reader.header → news ≡ []
    → ConsumesText old new (λ b. HeaderText b reader.header) → TableOf table (Reduced table)
    → ReadNews old new header header.nodes table news
begun_news old new reader header table news same none taken h = record {
  claims = [];
  counted = omega arith;
  taken =
      ConsumesText-mono old.coming new.coming _ _
      (λ b text. record {
        head = b;
        records = [];
        bytes = sym (append-nil b);
        head_text = text;
        record_texts = texts.none;
      })
      (subst (λ h. ConsumesText old new (λ b. HeaderText b h)) (sym same) taken);
  are_news = subst (λ n. IsNewsOf table n []) (sym none) (no_news table h);
}

pub read_more : (old mid new : Source) (header : Header) (left next : ℕ) (table before after : Entries) (c : Claim)
    → ReadNews old mid header left table before → left ≡ next + 1 → ConsumesText mid new (λ b. StateText b c)
    → TableOf table (Reduced table) → TableOf before (Reduced before) → TakesNews table before after c
    → ReadNews old new header next table after
read_more old mid new header left next table before after c some steps text h g take =
    let count = length-append some.claims (c ∷ []) in
    let sum = some.counted in
    record {
      claims = some.claims ++ c ∷ [];
      counted = omega (arith, count, sum, steps);
      taken = ConsumesText-both old.coming mid.coming new.coming _ _ _ (begun_more header some.claims c) some.taken text;
      are_news = more_news table h before after g some.claims c some.are_news take;
    }

pub read_all : (old mid new : Source) (header : Header) (left : ℕ) (table news : Entries)
    → ReadNews old mid header left table news → left ≡ 0
    → ConsumesText mid new (λ b. length b ≡ header.user_len)
    → (claims : List Claim) × IsNewsOf table news claims × ConsumesText old new (λ b. StreamText b claims header.join)
read_all old mid new header left table news some none user =
    let sum = some.counted in
    let count : length some.claims ≡ header.nodes = omega (arith, sum, none) in (
      some.claims,
      some.are_news,
      ConsumesText-both old.coming mid.coming new.coming _ _ _ (λ x y. whole header some.claims x y count) some.taken user,
    )

-- ---- the bytes do not begin with a stream, and why

abbrev IsStream : List ℕ → Type 0
IsStream b = (claims : List Claim) × (join : Bool) × StreamText b claims join

not_wanted : (reader : Streaming) (mid : Source) (P : List ℕ → Type 0) → ((b : List ℕ) → IsWanted reader b → P b) → NoTextAtFront mid P
    → NoTextAtFront mid (IsWanted reader)
not_wanted reader mid P f lacks = known mid.coming lacks
  where
    known : (o : Option (List ℕ)) → IfSome o (λ bytes. (text rest : List ℕ) → P text → bytes ≡ text ++ rest → ⊥)
        → IfSome o (λ bytes. (text rest : List ℕ) → IsWanted reader text → bytes ≡ text ++ rest → ⊥)
    known None l = tt
    known (Some bytes) l = λ text rest is parts. l text rest (f text is) parts

module _ (old mid : Source) (header : Header) (left : ℕ) (table news : Entries) (some : ReadNews old mid header left table news) where
  abbrev reader : Streaming
  reader = record { header = header; left = left; table = Join table news }

  -- the same part, as if its claims were taken into the table
  as_some : ReadSome old mid table reader
  as_some = record { claims = some.claims; table = some.are_news.joins; counted = some.counted; taken = some.taken }

  pub no_record : (fault : WireFault) → 0 < left → UnlessFailed (wire_cause fault) (NoTextAtFront mid (λ b. (c : Claim) × StateText b c))
      → UnlessFailed (wire_cause fault) (NoTextAtFront old IsStream)
  no_record fault more =
      UnlessFailed-weaker (wire_cause fault)
      (λ lacks. none_wanted old mid table reader as_some
      (not_wanted reader mid (λ b. (c : Claim) × StateText b c) from lacks))
    where
      from : (b : List ℕ) → IsWanted reader b → (c : Claim) × StateText b c
      from b (wants.record_of c some text) = (c, text)
      from b (wants.user_state over long) = absurd (omega (arith, more, over))

  pub no_user : (fault : WireFault) → left ≡ 0 → UnlessFailed (wire_cause fault) (NoTextAtFront mid (λ b. length b ≡ header.user_len))
      → UnlessFailed (wire_cause fault) (NoTextAtFront old IsStream)
  no_user fault over =
      UnlessFailed-weaker (wire_cause fault)
      (λ lacks. none_wanted old mid table reader as_some
      (not_wanted reader mid (λ b. length b ≡ header.user_len) from lacks))
    where
      from : (b : List ℕ) → IsWanted reader b → length b ≡ header.user_len
      from b (wants.record_of c more text) = absurd (omega (arith, more, over))
      from b (wants.user_state none long) = long

  pub record_reason : (fault : WireFault) (new : Source) → 0 < left → ReasonForStart (ReasonForState fault) mid
      → ReadsAs {E = WireFault} {X = Claim} {V = Claim} wire_cause same state_at mid new (Err fault)
      → IfSome old.coming (ReasonForStream fault)
  record_reason fault new more why exact = step_reason fault old mid table reader as_some (known mid.coming new.coming why exact.answer)
    where
      known : (o n : Option (List ℕ)) → IfSome o (ReasonForState fault)
          → Answers {E = WireFault} {X = Claim} {V = Claim} wire_cause same state_at o n (Err fault)
          → IfSome o (ReasonForStep reader fault)
      known None n w a = tt
      known (Some bytes) None w a = why_step.record_of more (w, a)
      known (Some bytes) (Some rest) w a = why_step.record_of more (w, a)

  pub memory_reason : (new : Source) (c : Claim) → left ≢ 0 → ConsumesText mid new (λ b. StateText b c)
      → IfSome old.coming (ReasonForStream Memory)
  memory_reason new c more text = step_reason Memory old mid table reader as_some (record_asks reader reader mid new c refl more text)

  pub state_reason : (fault : WireFault) → left ≡ 0 → (fault ≡ Ended) ⊎ (fault ≡ Fault)
      → UnlessFailed (wire_cause fault) (NoTextAtFront mid (λ b. length b ≡ header.user_len)) → IfSome old.coming (ReasonForStream fault)
  state_reason fault over which lacks = step_reason fault old mid table reader as_some
      (user_reason reader reader fault mid refl over which lacks)
