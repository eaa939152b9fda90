-- Bytes are read as a message that makes no claim exactly if they are one.
use Rattle.std.proofs.Common.{◌≡◌, ◌≢◌, ℕ, List, [], ◌∷◌, length, inl, inr, Option, Some, None, Result, Ok, Err, IfOk}
use Rattle.std.proofs.Common.{IfErr, refl, sym, ap, subst, ◌∙◌, append-nil, true, eqb, eqb-true}
use Rattle.swim_wire.specs.declared.claimless.Claimless.{Claimless}
use Rattle.swim_wire.specs.declared.claimless.Claimless.TheVariants.{Ping, IndirectPing, Ack, User, Nack, Error}
use Rattle.swim_wire.specs.declared.fault.WireFault.{WireFault}
use Rattle.swim_wire.specs.declared.fault.WireFault.TheVariants.{Memory}
use Rattle.swim_wire.specs.Claimless.{type_of, claimless_layout, IsMapOf, BodyText, ClaimlessText, claimless_kind}
use Rattle.swim_wire.specs.Claimless.{whole_map, whole_body, as_kind, behind_type, whole_claimless}
use Rattle.swim_wire.specs.Layout.{Layout, MapText}
use Rattle.swim_wire.specs.Reading.{Slots, map_at, nothing_after, AnswersUnlessMemory}
use Rattle.swim_wire.proofs.Keys.{IsLegalLayout, claimless_legal, some_is}
use Rattle.swim_wire.proofs.Maps.{map_takes, map_again}
use Rattle.swim_wire.proofs.Checking.{passed, passed_is, failed, split, nothing_after_ok}

-- ---- maps with nothing after them

map_taken : (layout : Layout) (b : List ℕ) (slots : Slots) → IsLegalLayout layout → whole_map layout b ≡ passed slots → IsMapOf layout b
map_taken layout b slots legal e =
    let t = map_takes layout b slots [] legal (nothing_after_ok (map_at layout b) slots e) in
    (t.1, subst (λ x. MapText layout x t.1) (sym (t.3 ∙ append-nil t.0)) t.2)

map_read_again : (layout : Layout) (b : List ℕ) → IsLegalLayout layout → IsMapOf layout b
    → (slots : Slots) × (whole_map layout b ≡ passed slots)
map_read_again layout b legal text =
    let a = map_again layout b text.0 [] legal text.1 in
    (a.0, ap nothing_after (ap (map_at layout) (sym (append-nil b)) ∙ a.1))

-- ---- what follows the first byte

body_taken : (kind : Claimless) (body : List ℕ) (slots : Slots) → whole_body kind body ≡ passed slots → BodyText body kind
body_taken Ping body slots e = map_taken (claimless_layout (length body) Ping) body slots (claimless_legal (length body) Ping) e
body_taken IndirectPing body slots e = map_taken (claimless_layout (length body) IndirectPing) body slots
    (claimless_legal (length body) IndirectPing) e
body_taken Ack body slots e = map_taken (claimless_layout (length body) Ack) body slots (claimless_legal (length body) Ack) e
body_taken User body slots e = tt
body_taken Nack body slots e = map_taken (claimless_layout (length body) Nack) body slots (claimless_legal (length body) Nack) e
body_taken Error body slots e = map_taken (claimless_layout (length body) Error) body slots (claimless_legal (length body) Error) e

body_read_again : (kind : Claimless) (body : List ℕ) → BodyText body kind → (slots : Slots) × (whole_body kind body ≡ passed slots)
body_read_again Ping body is = map_read_again (claimless_layout (length body) Ping) body (claimless_legal (length body) Ping) is
body_read_again IndirectPing body is = map_read_again (claimless_layout (length body) IndirectPing) body
    (claimless_legal (length body) IndirectPing) is
body_read_again Ack body is = map_read_again (claimless_layout (length body) Ack) body (claimless_legal (length body) Ack) is
body_read_again User body is = ([], refl)
body_read_again Nack body is = map_read_again (claimless_layout (length body) Nack) body (claimless_legal (length body) Nack) is
body_read_again Error body is = map_read_again (claimless_layout (length body) Error) body (claimless_legal (length body) Error) is

-- ---- the first byte

type_is : (first : ℕ) (kind : Claimless) → claimless_kind first ≡ Some kind → first ≡ type_of kind
type_is first kind e =
    split (eqb first 0) P _ _ (found Ping)
    (λ _. split (eqb first 1) P _ _ (found IndirectPing)
    (λ _. split (eqb first 2) P _ _ (found Ack)
    (λ _. split (eqb first 8) P _ _ (found User)
    (λ _. split (eqb first 11) P _ _ (found Nack)
    (λ _. split (eqb first 13) P _ _ (found Error) (λ _ none. absurd cc)))))) e
  where
    P : Option Claimless → Type 0
    P o = o ≡ Some kind → first ≡ type_of kind

    found : (k : Claimless) → eqb first (type_of k) ≡ true → Some k ≡ Some kind → first ≡ type_of kind
    found k t same = eqb-true _ _ t ∙ ap type_of (some_is k kind same)

kind_again : (kind : Claimless) → claimless_kind (type_of kind) ≡ Some kind
kind_again Ping = refl
kind_again IndirectPing = refl
kind_again Ack = refl
kind_again User = refl
kind_again Nack = refl
kind_again Error = refl

-- ---- whole messages

body_known : (kind other : Claimless) (first : ℕ) (body : List ℕ) (r : Result Slots WireFault)
    → whole_body other body ≡ r → claimless_kind first ≡ Some other
    → as_kind other r ≡ passed kind → ClaimlessText (first ∷ body) kind
body_known kind other first body (Ok slots) at known e =
    let same : other ≡ kind = sym (passed_is other kind e) in
    record {
      body = body;
      text = ap (λ (n : ℕ). n ∷ body) (type_is first kind (known ∙ ap Some same));
      is = subst (BodyText body) same (body_taken other body slots at);
    }
body_known kind other first body (Err error) at known e = absurd cc

pub whole_takes : (b : List ℕ) (kind : Claimless) → whole_claimless b ≡ passed kind → ClaimlessText b kind
whole_takes [] kind e = absurd cc
whole_takes (first ∷ body) kind e = by (claimless_kind first) refl e
  where
    by : (o : Option Claimless) → claimless_kind first ≡ o → behind_type first body o ≡ passed kind → ClaimlessText (first ∷ body) kind
    by None at e = absurd cc
    by (Some other) at e = body_known kind other first body (whole_body other body) refl at e

-- each message is read
pub whole_again : (b : List ℕ) (kind : Claimless) → ClaimlessText b kind → whole_claimless b ≡ passed kind
whole_again b kind text =
    let read = body_read_again kind text.body text.is in
    ap whole_claimless text.text ∙ ap (behind_type (type_of kind) text.body) (kind_again kind) ∙ ap (as_kind kind) read.1

ok≢err : (kind : Claimless) (error : WireFault) (r : Result Claimless WireFault) → r ≡ passed kind → r ≡ failed Claimless error → ⊥
ok≢err kind error r ok err = cc

err_is : (error other : WireFault) → failed Claimless error ≡ failed Claimless other → error ≡ other
err_is error other e = cc

pub claimless_reads : (b : List ℕ) (r : Result Claimless WireFault)
    → AnswersUnlessMemory (whole_claimless b) r → IfOk r (λ kind. ClaimlessText b kind)
claimless_reads b (Ok kind) (inl e) = whole_takes b kind (sym e)
claimless_reads b (Ok kind) (inr e) = absurd (ok≢err kind Memory (Ok kind) refl e)
claimless_reads b (Err error) h = tt

pub claimless_refuses : (b : List ℕ) (r : Result Claimless WireFault) → AnswersUnlessMemory (whole_claimless b) r
    → IfErr r (λ error. error ≢ Memory → (kind : Claimless) → ¬ ClaimlessText b kind)
claimless_refuses b (Ok kind) h = tt
claimless_refuses b (Err error) (inl e) = λ _ kind text. ok≢err kind error (whole_claimless b) (whole_again b kind text) (sym e)
claimless_refuses b (Err error) (inr e) = λ other. absurd (other (err_is error Memory e))
