-- What came over connections, and the tables in it.
use Rattle.std.proofs.Common.{◌≡◌, ℕ, ◌≤◌, arith, length, Bool, false, cond, List, [], ◌∷◌, ◌++◌, map, set, zero, suc, get_or, true, Some, refl, sym, subst, ap, ◌∙◌, inl, inr, ◌⊎◌, append_assoc, append-nil}
use Rattle.std.specs.Prelude.{⊤, IsPermutation, Result, Ok, Err, OnOk, OnErr}
use Rattle.std.specs.declared.alloc.AllocError.{AllocError}
use Rattle.std.specs.List.{All, Contains, position}
use Rattle.std.proofs.lemmas.Bool.{eqb-true}
use Rattle.std.proofs.lemmas.List.Quantifiers.{position-Some}
use Rattle.std.proofs.lemmas.List.Elements.{All-append, All-contains_itself}
use Rattle.std.proofs.lemmas.List.Sorted.{All-permutation}
use Rattle.swim_claim.specs.declared.claim.Claim.{Claim}
use Rattle.swim_wire.specs.Streams.{StateTexts}
use Rattle.swim_wire.specs.Streams.StateTexts.{none, one}
use Rattle.swim_wire.specs.Texts.{StateText}
use Rattle.memberlist_view.specs.declared.heard.Said.{Said}
use Rattle.memberlist_member.specs.Lists.{with_first, without_first}
use Rattle.memberlist_member.specs.Covers.{OpensStreamOf}
use Rattle.memberlist_member.specs.Saying.{said_in_table}
use Rattle.memberlist_member.specs.Tables.{BeginsWithTable, IsRecordIn}
use Rattle.memberlist_member.specs.Showing.{GoesBy, GoesByLines, GrowsLine, HasCome, IsInTable, IsSaidOver, IsToldAnywhere, IsToldNow, IsToldOver, MayHaveCome, lines_of}
use Rattle.memberlist_member.specs.Connecting.{has_conn, looked_at}
use Rattle.memberlist_member.specs.declared.connections.Connection.{Connection}
use Rattle.memberlist_member.specs.declared.cover.Opened.TheVariants.{Message}
use Rattle.std.specs.declared.alloc.Global.{Global}
use Rattle.std.specs.declared.vec.Vec.{Vec}
use Rattle.memberlist_member.specs.declared.member.Member.{Member}
use Rattle.memberlist_member.proofs.Begun.{all_without}
use Rattle.memberlist_member.proofs.Showing.{IsSame, goes_by_more, left_more, right_more}
use Rattle.memberlist_member.proofs.Members.{In, all_from, contains_from_in, in_append, in_from_contains, of_all}

module _ {X : Type 0} where
  -- one was taken out
  pub in_left : (test : X → Bool) (xs ys : List X) → IsPermutation (without_first test xs) ys → (x : X) → Contains ys x → Contains xs x
  in_left test xs ys moved x within =
      of_all (Contains xs) ys (All-permutation (Contains xs) (without_first test xs) ys moved
      (all_without (Contains xs) test xs (All-contains_itself xs)))
      x (in_from_contains ys x within)

  -- one was made another
  pub in_with : (test : X → Bool) (other : X → X) (xs : List X) (x : X) → In x (with_first test other xs)
      → (y : X) × In y xs × ((x ≡ y) ⊎ (x ≡ other y))
  in_with test other [] x void = absurd void
  in_with test other (y ∷ ys) x within = cases (in_with test other ys x) (test y) within where
    cases : (In x (with_first test other ys) → (z : X) × In z ys × ((x ≡ z) ⊎ (x ≡ other z))) → (t : Bool)
        → In x (cond t (other y ∷ ys) (y ∷ with_first test other ys)) → (z : X) × In z (y ∷ ys) × ((x ≡ z) ⊎ (x ≡ other z))
    cases later true (inl same) = (y, inl refl, inr (sym same))
    cases later true (inr there) = (x, inr there, inl refl)
    cases later false (inl same) = (y, inl refl, inl (sym same))
    cases later false (inr there) = let (z, z_in, is) = later there in (z, inr z_in, is)

-- more records are read
pub texts_more : (records b : List ℕ) (claims : List Claim) (c : Claim) → StateTexts records claims → StateText b c
    → StateTexts (records ++ b) (claims ++ c ∷ [])
texts_more _ b _ c none text = subst (λ (r : List ℕ). StateTexts r (c ∷ [])) (append-nil b) (one b [] c [] text none)
texts_more _ b _ c (one a rest d claims first texts) text =
    subst (λ (r : List ℕ). StateTexts r (d ∷ claims ++ c ∷ [])) (sym (append_assoc a rest b))
    (one a (rest ++ b) d (claims ++ c ∷ []) first (texts_more rest b claims c texts text))

pub line_left : (lines left : List Connection) (gone conn : ℕ) (came : List ℕ) → IsPermutation (without_first (has_conn gone) lines) left
    → HasCome conn came left → HasCome conn came lines
line_left lines left gone conn came moved has = record {
  line = has.line;
  within = in_left (has_conn gone) lines left moved has.line has.within;
  number = has.number;
  bytes = has.bytes;
  some = has.some;
}

-- one over which nothing came yet was added
pub line_added : (lines more : List Connection) (added : Connection) (result : Result ⊤ AllocError) (conn : ℕ) (came : List ℕ)
    → added.came.items ≡ [] → OnOk result (more ≡ lines ++ added ∷ []) → OnErr result (more ≡ lines)
    → HasCome conn came more → HasCome conn came lines
line_added lines more added (Ok done) conn came empty ok err has =
    elim (in_append lines (added ∷ []) has.line (subst (In has.line) ok (in_from_contains more has.line has.within))) [
      | inl before ↦ record {
        line = has.line;
        within = contains_from_in lines has.line before;
        number = has.number;
        bytes = has.bytes;
        some = has.some;
      }
      | inr (inl same) ↦
          let nothing : length came ≡ 0 = ap length (sym has.bytes ∙ ap (λ (c : Connection). c.came.items) (sym same) ∙ empty) in
          absurd (omega (arith, has.some, nothing))
      | inr (inr void) ↦ absurd void
    ]
line_added lines more added (Err error) conn came empty ok err has = subst (HasCome conn came) err has

pub over_line : (m : Member) (conn : ℕ) (c : Connection) (is_reply : Bool) (message : Vec ℕ Global) → Contains m.connections.list.items c
    → c.conn ≡ conn → 1 ≤ length c.came.items → OpensStreamOf m.cover is_reply c.came.items (Message message) → (told : List Said)
    → All (IsInTable message.items m) told → All (IsToldOver conn m) told
over_line m conn c is_reply message within number some opens told all k d less =
    let (each, record_of, says) = all k d less in (
      c.came.items,
      record { line = c; within = within; number = number; bytes = refl; some = some },
      (each, (is_reply, message, opens, record_of), says),
    )

-- the first connection with this number
pub that_line : (xs : List Connection) (conn k : ℕ) (c : Connection) → position (has_conn conn) xs ≡ Some k → c ≡ get_or xs k c
    → Contains xs c × (c.conn ≡ conn)
that_line xs conn k c is there =
    let (less, passes, below) = position-Some (has_conn conn) xs k c is in
    ((k, less, sym there), eqb-true c.conn conn (subst (λ d. has_conn conn d ≡ true) (sym there) passes))

-- another one is in its place
pub in_set : {X : Type 0} (xs : List X) (k : ℕ) (y x : X) → In x (set xs k y) → (x ≡ y) ⊎ In x xs
in_set [] k y x void = absurd void
in_set (z ∷ zs) zero y x (inl same) = inl (sym same)
in_set (z ∷ zs) zero y x (inr there) = inr (inr there)
in_set (z ∷ zs) (suc k) y x (inl same) = inr (inl same)
in_set (z ∷ zs) (suc k) y x (inr there) = elim (in_set zs k y x there) [ inl is ↦ inl is | inr in_ ↦ inr (inr in_) ]

in_map : {X Y : Type 0} (f : X → Y) (xs : List X) (y : Y) → In y (map f xs) → (x : X) × In x xs × (f x ≡ y)
in_map f [] y void = absurd void
in_map f (x ∷ xs) y (inl same) = (x, inl refl, same)
in_map f (x ∷ xs) y (inr there) = let (z, z_in, is) = in_map f xs y there in (z, inr z_in, is)

map_in : {X Y : Type 0} (f : X → Y) (xs : List X) (x : X) → In x xs → In (f x) (map f xs)
map_in f [] x void = absurd void
map_in f (y ∷ ys) x (inl same) = inl (ap f same)
map_in f (y ∷ ys) x (inr there) = inr (map_in f ys x there)

-- what the records of a table say
pub said_all : (me : List ℕ) (claims : List Claim)
    → All (λ each. Contains (map (said_in_table me) claims) (said_in_table me each)) claims
said_all me claims = all_from (λ each. Contains (map (said_in_table me) claims) (said_in_table me each)) claims
    (λ each within. contains_from_in (map (said_in_table me) claims) (said_in_table me each) (map_in (said_in_table me) claims each within))

pub all_in_table : (message : List ℕ) (m : Member) (claims : List Claim) → BeginsWithTable message claims
    → All (IsInTable message m) (map (said_in_table m.own.name) claims)
all_in_table message m claims begins = all_from (IsInTable message m) (map (said_in_table m.own.name) claims)
    (λ said within.
    let (each, each_in, is) = in_map (said_in_table m.own.name) claims said within in
    (each, (claims, begins, contains_from_in claims each each_in), sym is))

-- bytes that were looked at are no others
pub line_looked : (lines list : List Connection) (test : Connection → Bool) (conn : ℕ) (came : List ℕ)
    → list ≡ with_first test looked_at lines → HasCome conn came list → HasCome conn came lines
line_looked lines list test conn came looked has =
    let (d, d_in, is) = in_with test looked_at lines has.line
    (subst (In has.line) looked (in_from_contains list has.line has.within)) in
    let there = contains_from_in lines d d_in in
    elim is [
      | inl e ↦ record {
        line = d;
        within = there;
        number = ap (λ (x : Connection). x.conn) (sym e) ∙ has.number;
        bytes = ap (λ (x : Connection). x.came.items) (sym e) ∙ has.bytes;
        some = has.some;
      }
      | inr e ↦ record {
        line = d;
        within = there;
        number = ap (λ (x : Connection). x.conn) (sym e) ∙ has.number;
        bytes = ap (λ (x : Connection). x.came.items) (sym e) ∙ has.bytes;
        some = has.some;
      }
    ]

-- after what is told over lines, what is told over more
pub more_lines : (old middle new : Member) → IsSame old middle → IsSame middle new → GoesByLines old middle → (more : List Said)
    → All (IsToldAnywhere old) more → GoesBy more middle new → GoesByLines old new
more_lines old middle new same later (told, each, goes) more said on = (
  told ++ more,
  All-append (IsToldAnywhere old) told more each said,
  λ first word before.
      goes_by_more middle new more (told ++ more) later (right_more told more) on first word
      (goes_by_more old middle told (told ++ more) same (left_more told more) goes first word before),
)

-- what is said of a member is said of one with the same keys and name
pub said_over_too : (old new : Member) → new.cover ≡ old.cover → new.own.name ≡ old.own.name → (came : List ℕ) (said : Said)
    → IsSaidOver came new said → IsSaidOver came old said
said_over_too old new cover name came said (each, read, says) =
    (each, subst (λ c. IsRecordIn c came each) cover read, subst (λ n. said ≡ said_in_table n each) name says)

-- nothing came over a connection, or something
come_or_not : (lines : List Connection) (c : Connection) (conn : ℕ) (came : List ℕ) → Contains lines c → c.conn ≡ conn → c.came.items ≡ came
    → (came ≡ []) ⊎ HasCome conn came lines
come_or_not lines c conn [] within number bytes = inl refl
come_or_not lines c conn (b ∷ came) within number bytes =
    inr (record { line = c; within = within; number = number; bytes = bytes; some = omega arith })

-- one connection has these bytes more, or the same
pub line_grows : (old : Member) (conn k : ℕ) (c now : Connection) (bytes : List ℕ)
    → position (has_conn conn) (lines_of old) ≡ Some k → c ≡ get_or (lines_of old) k c → now.conn ≡ c.conn
    → (now.came.items ≡ c.came.items) ⊎ (now.came.items ≡ c.came.items ++ bytes)
    → (each : ℕ) (came : List ℕ) → HasCome each came (set (lines_of old) k now)
    → HasCome each came (lines_of old)
    ⊎ ((before : List ℕ) × (each ≡ conn) × (came ≡ before ++ bytes) × MayHaveCome each before old)
line_grows old conn k c now bytes is there number more each came has =
    let xs = lines_of old in
    let (c_in, c_number) = that_line xs conn k c is there in
    elim (in_set xs k now has.line (in_from_contains (set xs k now) has.line has.within)) [
      | inl e ↦
          let c_each : c.conn ≡ each = sym number ∙ ap (λ (x : Connection). x.conn) (sym e) ∙ has.number in
          let now_came : now.came.items ≡ came = ap (λ (x : Connection). x.came.items) (sym e) ∙ has.bytes in
          elim more [
            | inl as_before ↦ inl (record { line = c; within = c_in; number = c_each; bytes = sym as_before ∙ now_came; some = has.some })
            | inr longer ↦ inr (
              c.came.items,
              sym c_each ∙ c_number,
              sym now_came ∙ longer,
              come_or_not xs c each c.came.items c_in c_each refl,
            )
          ]
      | inr d_in ↦ inl (record {
        line = has.line;
        within = contains_from_in xs has.line d_in;
        number = has.number;
        bytes = has.bytes;
        some = has.some;
      })
    ]

-- one connection is another, over which the same came
pub line_same : (xs : List Connection) (conn k : ℕ) (c now : Connection) → position (has_conn conn) xs ≡ Some k → c ≡ get_or xs k c
    → now.conn ≡ c.conn → now.came.items ≡ c.came.items → (each : ℕ) (came : List ℕ) → HasCome each came (set xs k now)
    → HasCome each came xs
line_same xs conn k c now is there number bytes each came has =
    elim (in_set xs k now has.line (in_from_contains (set xs k now) has.line has.within)) [
      | inl e ↦ record {
        line = c;
        within = (that_line xs conn k c is there).0;
        number = sym number ∙ ap (λ (x : Connection). x.conn) (sym e) ∙ has.number;
        bytes = sym bytes ∙ ap (λ (x : Connection). x.came.items) (sym e) ∙ has.bytes;
        some = has.some;
      }
      | inr d_in ↦ record {
        line = has.line;
        within = contains_from_in xs has.line d_in;
        number = has.number;
        bytes = has.bytes;
        some = has.some;
      }
    ]

-- what is said over a connection that grew
pub now_before : (old middle : Member) (conn : ℕ) (bytes : List ℕ) → GrowsLine conn bytes old middle → middle.cover ≡ old.cover
    → middle.own.name ≡ old.own.name → (told : List Said) → All (IsToldOver conn middle) told → All (IsToldNow conn bytes old) told
now_before old middle conn bytes grows cover name told all k d less =
    let (came, has, says) = all k d less in
    let says_too = said_over_too old middle cover name came (get_or told k d) says in
    elim (grows conn came has) [
      | inl there ↦ (came, inr there, inl says_too)
      | inr grown ↦
          let (before, number, is, there) = grown in
          (before, there, inr (subst (λ b. IsSaidOver b old (get_or told k d)) is says_too))
    ]

-- what one of the records says is among what all say
pub said_of_one : (me too : List ℕ) → too ≡ me → (told : List Said) (claims : List Claim) (claim : Claim)
    → All (λ each. Contains told (said_in_table me each)) claims → Contains claims claim → Contains told (said_in_table too claim)
said_of_one me too same told claims claim each within =
    subst (λ n. Contains told (said_in_table n claim)) (sym same)
    (of_all (λ c. Contains told (said_in_table me c)) claims each claim (in_from_contains claims claim within))
