-- Wrappers around bytes: there is one way to remove them, and what refusals rule out.
use Rattle.std.proofs.Common.{◌≡◌, ◌≢◌, ℕ, ◌+◌, ◌-◌, ◌≤◌, List, [], ◌∷◌, ◌++◌, length, take, drop, refl, sym, ap, subst}
use Rattle.std.proofs.Common.{◌∙◌, arith, inl, inr}
use Rattle.std.proofs.lemmas.List.{length-append, take_at, drop_at}
use Rattle.swim_wire.proofs.Compressions.{one_compression, whole_lacks}
use Rattle.memberlist_cipher.proofs.Labels.{one_text, lacks_text}
use Rattle.memberlist_wrap.specs.declared.fault.WrapFault.{WrapFault}
use Rattle.memberlist_wrap.specs.declared.fault.WrapFault.TheVariants.{Ended, Trailing, BadCode, BadChecksum, BadMap}
use Rattle.memberlist_wrap.specs.declared.fault.WrapFault.TheVariants.{BadAlgo, BadLabel, TooLarge, TooDeep, Memory}
use Rattle.memberlist_wrap.specs.Reasons.{WrapperFails, ChecksumFails, LabelFails, FailsHere, ReasonForIn}
use Rattle.memberlist_wrap.specs.Reasons.FailsHere.{deep, broken, large}
use Rattle.memberlist_wrap.specs.Lzw.{Lzw}
use Rattle.memberlist_wrap.specs.Wrapping.{CheckedText, Wrapper, kind, WrapText, Wrapped, IsBare, Wraps, UnwrapsIn}
use Rattle.memberlist_wrap.specs.Wrapping.Wrapper.{compression, checksum, label}
use Rattle.memberlist_wrap.proofs.OneLzw.{one_lzw, no_lzw, no_lzw_within}
use Rattle.memberlist_wrap.proofs.Polynomials.{number_heads}

-- ---- one thing in a wrapper

-- the first four bytes, and the rest
pub four : (bytes digits inner : List ℕ) → length digits ≡ 4 → bytes ≡ digits ++ inner → (take 4 bytes ≡ digits) × (drop 4 bytes ≡ inner)
four bytes digits inner size e = (ap (take 4) e ∙ take_at digits inner 4 size, ap (drop 4) e ∙ drop_at digits inner 4 size)

pub one_inner : (m n : ℕ) (w : Wrapper) (rest a b : List ℕ) → WrapText m w rest a → WrapText n w rest b → a ≡ b
one_inner m n compression rest a b p q =
    let P : List ℕ → Type 0 = λ x. Lzw x a in
    one_lzw q.packed a b (subst P (one_compression rest p.packed q.packed p.map q.map) p.lzw) q.lzw
one_inner m n checksum rest a b p q = sym (four rest p.digits a p.size p.text).1 ∙ (four rest q.digits b q.size q.text).1
one_inner m n label rest a b p q = (one_text (244 ∷ rest) p.0 a q.0 b p.1 q.1).1

same_kind : (w v : Wrapper) → kind w ≡ kind v → w ≡ v
same_kind compression compression e = refl
same_kind compression checksum e = absurd (omega arith)
same_kind compression label e = absurd (omega arith)
same_kind checksum compression e = absurd (omega arith)
same_kind checksum checksum e = refl
same_kind checksum label e = absurd (omega arith)
same_kind label compression e = absurd (omega arith)
same_kind label checksum e = absurd (omega arith)
same_kind label label e = refl

-- bytes that start with a wrapper start with no other one
pub one_wrapper : (w v : Wrapper) (bytes rest rest' : List ℕ) → bytes ≡ kind w ∷ rest → bytes ≡ kind v ∷ rest' → (w ≡ v) × (rest ≡ rest')
one_wrapper w v bytes rest rest' e f =
    let parts = number_heads (kind w) (kind v) rest rest' (sym e ∙ f) in
    (same_kind w v parts.0, parts.1)

-- ---- wrappers in wrappers

pub Wrapped-then : (limit : ℕ) (ws vs : List Wrapper) (bytes mid inner : List ℕ) → Wrapped limit ws bytes mid
    → Wrapped limit vs mid inner → Wrapped limit (ws ++ vs) bytes inner
Wrapped-then limit [] vs bytes mid inner p q = rw p q
Wrapped-then limit (w ∷ ws) vs bytes mid inner p q = (p.0, p.1, p.2, p.3, Wrapped-then limit ws vs p.1 mid inner p.4 q)

-- What wraps a message continues where the wrappers have come to.
pub record GoesOn (n : ℕ) (ws : List Wrapper) (inner : List ℕ) (all : List Wrapper) (message : List ℕ) : Type 0 where
  pub others : List Wrapper
  pub is : all ≡ ws ++ others
  pub wrapped : Wrapped n others inner message

same_wrappers : (w v : Wrapper) (ws vs : List Wrapper) → w ≡ v → ws ≡ vs → w ∷ ws ≡ v ∷ vs
same_wrappers w v ws vs e f = cc

pub goes_on : (m n : ℕ) (ws : List Wrapper) (bytes inner : List ℕ) (all : List Wrapper) (message : List ℕ)
    → Wrapped m ws bytes inner → Wrapped n all bytes message → IsBare message
    → GoesOn n ws inner all message
goes_on m n [] bytes inner all message p q bare = record { others = all; is = refl; wrapped = rw p at q }
goes_on m n (w ∷ ws) bytes inner [] message p q bare = absurd (bare w p.0 (sym q ∙ p.2))
goes_on m n (w ∷ ws) bytes inner (v ∷ all) message p q bare =
    let one = one_wrapper w v bytes p.0 q.0 p.2 q.2 in
    let mid = one_inner m n w p.0 p.1 q.1 p.3 (rw (one.0, one.1) q.3) in
    let more = goes_on m n ws p.1 inner all message p.4 (rw mid q.4) bare in record {
      others = more.others;
      is = same_wrappers v w all (ws ++ more.others) (sym one.0) more.is;
      wrapped = more.wrapped;
    }

none_left : (n : ℕ) (others : List Wrapper) (inner message : List ℕ) → Wrapped n others inner message
    → IsBare inner → (others ≡ []) × (inner ≡ message)
none_left n [] inner message p bare = (refl, p)
none_left n (v ∷ others) inner message p bare = absurd (bare v p.0 p.2)

-- bytes wrap one message, in one way
pub one_message : (m n : ℕ) (bytes : List ℕ) (ws vs : List Wrapper) (a b : List ℕ) → Wraps m ws bytes a
    → Wraps n vs bytes b → (ws ≡ vs) × (a ≡ b)
one_message m n bytes ws vs a b p q =
    let on = goes_on m n ws bytes a vs b p.wrapped q.wrapped q.bare in
    let none = none_left n on.others a b on.wrapped p.bare in
    (sym (on.is ∙ ap (λ (o : List Wrapper). ws ++ o) none.0 ∙ append-nil ws), none.1)
  where
    append-nil : (l : List Wrapper) → l ++ [] ≡ l
    append-nil [] = refl
    append-nil (w ∷ l) = ap (λ (o : List Wrapper). w ∷ o) (append-nil l)

-- ---- what is in no wrapper

no_checksum : (fault : WrapFault) (rest inner : List ℕ) → ChecksumFails fault rest → CheckedText rest inner → ⊥
no_checksum Ended rest inner fails text = omega (arith, ap length text.text, length-append text.digits inner, text.size)
no_checksum BadChecksum rest inner fails text =
    let theirs = four rest fails.0 fails.1 fails.2 fails.3 in
    let ours = four rest text.digits inner text.size text.text in
    let digits = sym theirs.0 ∙ ours.0 in
    let behind = sym theirs.1 ∙ ours.1 in
    fails.4 (rw (digits, behind) text.crc)
no_checksum Trailing rest inner fails text = fails
no_checksum BadCode rest inner fails text = fails
no_checksum BadMap rest inner fails text = fails
no_checksum BadAlgo rest inner fails text = fails
no_checksum BadLabel rest inner fails text = fails
no_checksum TooLarge rest inner fails text = fails
no_checksum TooDeep rest inner fails text = fails
no_checksum Memory rest inner fails text = fails

no_label : (fault : WrapFault) (rest inner : List ℕ) → LabelFails fault rest → WrapText 0 label rest inner → ⊥
no_label fault rest inner fails text = lacks_text fails.0 (244 ∷ rest) text.0 inner fails.1 text.1

-- a wrapper that fails within a limit contains nothing within it
no_inner : (limit : ℕ) (fault : WrapFault) (w : Wrapper) (rest inner : List ℕ)
    → WrapperFails limit fault w rest → WrapText limit w rest inner → ⊥
no_inner limit fault compression rest inner (inl no_map) text = whole_lacks rest no_map.0 no_map.1 text.packed text.map
no_inner limit fault compression rest inner (inr no_lzw_in) text =
    let P : List ℕ → Type 0 = λ x. Lzw x inner in
    let past = no_lzw_within limit fault no_lzw_in.0 no_lzw_in.2 inner
    (subst P (one_compression rest text.packed no_lzw_in.0 text.map no_lzw_in.1) text.lzw) in
    omega (arith, text.within)
no_inner limit fault checksum rest inner fails text = no_checksum fault rest inner fails text
no_inner limit fault label rest inner fails text = no_label fault rest inner fails text

-- one that fails for another cause than the limit contains nothing
no_inner_at_all : (limit any : ℕ) (fault : WrapFault) (w : Wrapper) (rest inner : List ℕ) → fault ≢ TooLarge
    → WrapperFails limit fault w rest → WrapText any w rest inner → ⊥
no_inner_at_all limit any fault compression rest inner other (inl no_map) text = whole_lacks rest no_map.0 no_map.1 text.packed text.map
no_inner_at_all limit any fault compression rest inner other (inr no_lzw_in) text =
    let P : List ℕ → Type 0 = λ x. Lzw x inner in
    no_lzw limit fault no_lzw_in.0 no_lzw_in.2 other inner
    (subst P (one_compression rest text.packed no_lzw_in.0 text.map no_lzw_in.1) text.lzw)
no_inner_at_all limit any fault checksum rest inner other fails text = no_checksum fault rest inner fails text
no_inner_at_all limit any fault label rest inner other fails text = no_label fault rest inner fails text

-- ---- what a refusal rules out

-- a message in this many wrappers has none that fails
fails_within : (depth limit : ℕ) (fault : WrapFault) (inner : List ℕ) (others : List Wrapper)
    (message : List ℕ) → FailsHere depth limit fault inner
    → length others ≤ depth → Wrapped limit others inner message → IsBare message → length message ≤ limit → ⊥
fails_within depth limit fault inner [] message (deep w rest is none name) few wrapped bare short = bare w rest (sym wrapped ∙ is)
fails_within depth limit fault inner (v ∷ others) message (deep w rest is none name) few wrapped bare short = omega arith
fails_within depth limit fault inner [] message (broken w rest is some fails) few wrapped bare short = bare w rest (sym wrapped ∙ is)
fails_within depth limit fault inner (v ∷ others) message (broken w rest is some fails) few wrapped bare short =
    let one = one_wrapper w v inner rest wrapped.0 is wrapped.2 in
    no_inner limit fault w rest wrapped.1 fails (rw (one.0, one.1) wrapped.3)
fails_within depth limit fault inner others message (large none long name) few wrapped bare short =
    let left = none_left limit others inner message wrapped none in
    omega (arith, ap length left.1)

pub no_message : (depth limit : ℕ) (fault : WrapFault) (bytes : List ℕ) → ReasonForIn depth limit fault bytes →
    (message : List ℕ) → ¬ UnwrapsIn depth limit bytes message
no_message depth limit fault bytes why message unwraps =
    let wraps = unwraps.wraps in
    let on = goes_on limit limit why.wrappers bytes why.inner unwraps.wrappers message why.wrapped wraps.wrapped wraps.bare in
    let few = unwraps.few in
    fails_within (depth - length why.wrappers) limit fault why.inner on.others message why.fails
    (omega (arith, ap length on.is, lengths why.wrappers on.others)) on.wrapped wraps.bare wraps.within
  where
    lengths : (a b : List Wrapper) → length (a ++ b) ≡ length a + length b
    lengths [] b = omega arith
    lengths (w ∷ a) b = omega (arith, lengths a b)

fails_at_all : (depth limit any : ℕ) (fault : WrapFault) (inner : List ℕ) (others : List Wrapper)
    (message : List ℕ) → FailsHere depth limit fault inner
    → fault ≢ TooLarge → fault ≢ TooDeep → Wrapped any others inner message → IsBare message → ⊥
fails_at_all depth limit any fault inner others message (deep w rest is none name) other shallow wrapped bare = shallow name
fails_at_all depth limit any fault inner [] message
    (broken w rest is some fails) other shallow wrapped bare = bare w rest (sym wrapped ∙ is)
fails_at_all depth limit any fault inner (v ∷ others) message (broken w rest is some fails) other shallow wrapped bare =
    let one = one_wrapper w v inner rest wrapped.0 is wrapped.2 in
    no_inner_at_all limit any fault w rest wrapped.1 other fails (rw (one.0, one.1) wrapped.3)
fails_at_all depth limit any fault inner others message (large none long name) other shallow wrapped bare = other name

pub no_message_at_all : (depth limit : ℕ) (fault : WrapFault) (bytes : List ℕ)
    → ReasonForIn depth limit fault bytes → fault ≢ TooLarge → fault ≢ TooDeep
    → (any : ℕ) (ws : List Wrapper) (message : List ℕ) → ¬ Wraps any ws bytes message
no_message_at_all depth limit fault bytes why other shallow any ws message wraps =
    let on = goes_on limit any why.wrappers bytes why.inner ws message why.wrapped wraps.wrapped wraps.bare in
    fails_at_all (depth - length why.wrappers) limit any fault why.inner on.others message why.fails other shallow on.wrapped wraps.bare
