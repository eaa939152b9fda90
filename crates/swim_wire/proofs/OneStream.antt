-- No push/pull stream is a proper prefix of another one, and each has one list of claims and one
-- join flag.
use Rattle.std.proofs.Common.{◌≡◌, ℕ, Bool, List, [], ◌∷◌, ◌++◌, length, take, refl, sym, ap, ◌∙◌, append_assoc, arith}
use Rattle.std.proofs.lemmas.List.{append_cancel_left}
use Rattle.std.proofs.Math.Seq.{take-append_seam}
use Rattle.swim_claim.specs.declared.claim.Claim.{Claim}
use Rattle.swim_wire.specs.Streams.{StateTexts, StreamText}
use Rattle.swim_wire.specs.Streams.StateTexts.{none, one}
use Rattle.swim_wire.proofs.OneMessage.{header_one, state_one}

-- if texts start with the same bytes, the rest after these is the same
after_same : (a b x y : List ℕ) → a ≡ b → a ++ x ≡ b ++ y → x ≡ y
after_same a b x y same e = append_cancel_left b x y (ap (λ z. z ++ x) (sym same) ∙ e)

-- the same number of bytes of both
same_bytes : (a b x y : List ℕ) → length a ≡ length b → a ++ x ≡ b ++ y → a ≡ b
same_bytes a b x y same e =
    sym (take-append_seam a x) ∙ ap (λ n. take n (a ++ x)) same ∙ ap (take (length b)) e ∙ take-append_seam b y

-- the same number of state records in both
pub records_one : (a b x y : List ℕ) (claims others : List Claim) → length claims ≡ length others
    → StateTexts a claims → StateTexts b others
    → a ++ x ≡ b ++ y → (a ≡ b) × (claims ≡ others)
records_one [] [] x y [] [] many none none e = (refl, refl)
records_one _ _ x y _ _ many none (one b rest d others text texts) e = absurd (omega arith)
records_one _ _ x y _ _ many (one a rest c claims text texts) none e = absurd (omega arith)
records_one _ _ x y _ _ many (one a left c claims text texts) (one b right d others text' texts') e =
    let parts : a ++ (left ++ x) ≡ b ++ (right ++ y) = sym (append_assoc a left x) ∙ e ∙ append_assoc b right y in
    let first = state_one a b (left ++ x) (right ++ y) c d text text' parts in
    let fewer : length claims ≡ length others = omega arith in
    let rest = records_one left right x y claims others fewer texts texts' (after_same a b (left ++ x) (right ++ y) first.0 parts) in
    ((λ i. first.0 i ++ rest.0 i), (λ i. first.1 i ∷ rest.1 i))

pub one_stream : (a b x y : List ℕ) (claims others : List Claim) (join flag : Bool)
    → StreamText a claims join → StreamText b others flag → a ++ x ≡ b ++ y
    → (a ≡ b) × (claims ≡ others) × (join ≡ flag)
one_stream a b x y claims others join flag s t e =
    let parts : s.head ++ (s.records ++ (s.user ++ x)) ≡ t.head ++ (t.records ++ (t.user ++ y)) =
    sym (in_parts s.head s.records s.user x) ∙ ap (λ z. z ++ x) (sym s.bytes) ∙ e ∙ ap
    (λ z. z ++ y) t.bytes ∙ in_parts t.head t.records t.user y in
    let heads = header_one s.head t.head _ _ s.header t.header s.head_text t.head_text parts in
    let behind = after_same s.head t.head _ _ heads.0 parts in
    let records =
    records_one s.records t.records (s.user ++ x) (t.user ++ y) claims others
    (s.nodes ∙ ap (λ h. h.nodes) heads.1 ∙ sym t.nodes) s.record_texts t.record_texts behind in
    let user =
    same_bytes s.user t.user x y (s.user_len ∙ ap (λ h. h.user_len) heads.1 ∙ sym t.user_len)
    (after_same s.records t.records _ _ records.0 behind) in
    (s.bytes ∙ (λ i. heads.0 i ++ records.0 i ++ user i) ∙ sym t.bytes, records.1, sym s.flag ∙ ap (λ h. h.join) heads.1 ∙ t.flag)
  where
    in_parts : (head records user more : List ℕ) → (head ++ records ++ user) ++ more ≡ head ++ (records ++ (user ++ more))
    in_parts head records user more = simp append_assoc
