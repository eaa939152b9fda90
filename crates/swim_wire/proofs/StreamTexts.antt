-- A header or a state record that is read is a text of its value, each text is read, and what a
-- refusal means for the bytes.
use Rattle.std.proofs.Common.{◌≡◌, ◌≢◌, ℕ, ◌<◌, ◌≤◌, Bool, true, false, cond, eqb, ltb, List, [], ◌∷◌, ◌++◌, Result, Ok}
use Rattle.std.proofs.Common.{Err, refl, sym, ap, subst, ◌∙◌, eqb-true, ltb-true, ltb-false, le-ltb, arith}
use Rattle.std.proofs.lemmas.Bool.Decides.{nat_tests}
use Rattle.swim_claim.specs.declared.claim.Claim.{Claim}
use Rattle.swim_claim.specs.declared.claim.Claim.TheVariants.{Alive, Suspect, Confirm, Leave}
use Rattle.swim_claim.specs.Details.{DetailsValue}
use Rattle.swim_pack.proofs.Composing.{ConsumedText}
use Rattle.swim_pack.specs.Composing.{then_read, refuses}
use Rattle.swim_wire.specs.declared.fault.WireFault.{WireFault}
use Rattle.swim_wire.specs.declared.fault.WireFault.TheVariants.{Ended, Memory, NameEmpty, BadAddress, BadVersions}
use Rattle.swim_wire.specs.declared.fault.WireFault.TheVariants.{WrongType, BadState, TooManyNodes, UserTooLong}
use Rattle.swim_wire.specs.declared.layout.Key.TheVariants as keys
use Rattle.swim_wire.specs.declared.stream.Header.{Header}
use Rattle.swim_wire.specs.Checks.{HeaderFails, StateFails, ReasonForHeader, ReasonForState}
use Rattle.swim_wire.specs.Layout.{Pairs, number_of, raw_of, flag_of, header_layout, state_layout}
use Rattle.swim_wire.specs.Reading.{Reading, checked, with_name, with_details, map_at, header_of, header_at, state_of, state_at}
use Rattle.swim_wire.specs.Texts.{HeaderText, StateText, IsStateOf, told_details}
use Rattle.swim_wire.specs.Texts.IsStateOf.{alive, suspect, confirm, leave}
use Rattle.swim_wire.proofs.Readings.{read, refused}
use Rattle.swim_wire.proofs.Keys.{header_legal, state_legal}
use Rattle.swim_wire.proofs.MapFaults.{explained_by_map}
use Rattle.swim_wire.proofs.Messages.{IsMessage, message_at, message_takes, message_again, message_refusal}
use Rattle.swim_wire.proofs.Checking.{passed, passed_is, failed, split, with_name_ok, with_name_again, with_name_err}
use Rattle.swim_wire.proofs.Checking.{with_details_ok, with_details_again, with_details_err}

-- ---- the header in the pairs of a map, or the first check that they fail

abbrev header_with : Pairs → Header
header_with pairs = record {
  nodes = number_of keys.Nodes pairs;
  user_len = number_of keys.UserStateLen pairs;
  join = flag_of keys.Join pairs;
}

abbrev header_from : Pairs → Result Header WireFault
header_from pairs =
    cond (ltb 131072 (number_of keys.Nodes pairs)) (Err TooManyNodes)
    (cond (ltb 20971520 (number_of keys.UserStateLen pairs)) (Err UserTooLong) (Ok (header_with pairs)))

header_message : IsMessage header_layout header_of header_from
header_message = record {
  legal = header_legal;
  same = λ pairs slots holds. rw (holds 0 (omega arith), holds 1 (omega arith), holds 2 (omega arith)) refl;
}

header_ok : (pairs : Pairs) (h : Header) → header_from pairs ≡ passed h
    → (number_of keys.Nodes pairs ≤ 131072) × (number_of keys.UserStateLen pairs ≤ 20971520) × (h ≡ header_with pairs)
header_ok pairs h = split (ltb 131072 (number_of keys.Nodes pairs)) P _ _ (λ many e. absurd cc)
    (λ few. split (ltb 20971520 (number_of keys.UserStateLen pairs)) P _ _ (λ long e. absurd cc)
    (λ short e. (ltb-false _ _ few, ltb-false _ _ short, passed_is (header_with pairs) h e)))
  where
    P : Result Header WireFault → Type 0
    P r = r ≡ passed h → (number_of keys.Nodes pairs ≤ 131072) × (number_of keys.UserStateLen pairs ≤ 20971520) × (h ≡ header_with pairs)

header_err : (pairs : Pairs) (error : WireFault) → header_from pairs ≡ failed Header error
    → (Q : Type 0) → (HeaderFails TooManyNodes pairs → TooManyNodes ≡ error → Q)
    → (HeaderFails UserTooLong pairs → UserTooLong ≡ error → Q) → Q
header_err pairs error fails Q nodes user = split (ltb 131072 (number_of keys.Nodes pairs)) P _ _ (λ many e. nodes (ltb-true _ _ many) cc)
    (λ few. split (ltb 20971520 (number_of keys.UserStateLen pairs)) P _ _
    (λ long e. user (ltb-false _ _ few, ltb-true _ _ long) cc) (λ short e. absurd cc))
    fails
  where
    P : Result Header WireFault → Type 0
    P r = r ≡ failed Header error → Q

-- ---- headers

-- after the byte 6
abbrev header_after : Reading Header
header_after = message_at header_layout header_of

header_after_takes : (first : ℕ) (bytes : List ℕ) (h : Header) (rest : List ℕ) → first ≡ 6 → header_after bytes ≡ read h rest
    → ConsumedText (λ b. HeaderText b h) (first ∷ bytes) rest
header_after_takes first bytes h rest type e =
    let m = message_takes header_message bytes h rest e in
    let is = header_ok m.1 h m.3 in
    record {
      text = first ∷ m.0;
      is = record {
        map_text = m.0;
        pairs = m.1;
        bytes = ap (λ (x : ℕ). x ∷ m.0) type;
        text = m.2;
        few_nodes = is.0;
        short_user = is.1;
        header = is.2;
      };
      parts = ap (λ (r : List ℕ). first ∷ r) m.4;
    }

-- the reading of a header, by its first byte
by_type : (b : Bool) (first : ℕ) (bytes : List ℕ) → (P : Result (Header × List ℕ) WireFault → Type 0) → eqb first 6 ≡ b
    → (first ≡ 6 → P (header_after bytes)) → ((first ≢ 6) → P (Err (WrongType first)))
    → P (then_read (λ slots. checked (header_of slots)) (cond b (map_at header_layout) (refuses (WrongType first)) bytes))
by_type true first bytes P t six other = six (eqb-true _ _ t)
by_type false first bytes P t six other = other (λ same. grind (arith, nat_tests))

pub header_takes : (bytes : List ℕ) (h : Header) (rest : List ℕ) → header_at bytes ≡ read h rest
    → ConsumedText (λ b. HeaderText b h) bytes rest
unfolding header_at
header_takes [] h rest e = absurd cc
header_takes (first ∷ bytes) h rest e =
    by_type (eqb first 6) first bytes (λ r. r ≡ read h rest → ConsumedText (λ b. HeaderText b h) (first ∷ bytes) rest) refl
    (λ six. header_after_takes first bytes h rest six) (λ other wrong. absurd cc) e

pub header_again : (b rest : List ℕ) (h : Header) → HeaderText b h → header_at (b ++ rest) ≡ read h rest
unfolding header_at
header_again b rest h text =
    let few : ltb 131072 (number_of keys.Nodes text.pairs) ≡ false = le-ltb _ _ text.few_nodes in
    let short : ltb 20971520 (number_of keys.UserStateLen text.pairs) ≡ false = le-ltb _ _ text.short_user in
    let passes : header_from text.pairs ≡ passed (header_with text.pairs) = rw (few, short) refl in
    rw text.bytes (message_again header_message text.map_text rest text.pairs h text.text (passes ∙ ap passed (sym text.header)))

header_after_refusal : (first : ℕ) (bytes : List ℕ) (error : WireFault) → error ≢ Memory → first ≡ 6
    → header_after bytes ≡ refused Header error → ReasonForHeader error (first ∷ bytes)
header_after_refusal first bytes error other type e =
    let six : first ∷ bytes ≡ 6 ∷ bytes = ap (λ (x : ℕ). x ∷ bytes) type in
    message_refusal header_message bytes error e (ReasonForHeader error (first ∷ bytes))
    (λ map. (explained_by_map error (first ∷ bytes) other map).1)
    (λ pairs fails begins. header_err pairs error fails (ReasonForHeader error (first ∷ bytes))
    (λ many is. subst (λ f. ReasonForHeader f (first ∷ bytes)) is (bytes, six, begins (HeaderFails TooManyNodes) many))
    (λ long is. subst (λ f. ReasonForHeader f (first ∷ bytes)) is (bytes, six, begins (HeaderFails UserTooLong) long)))

pub header_refusal : (bytes : List ℕ) (error : WireFault) → error ≢ Memory
    → header_at bytes ≡ refused Header error → ReasonForHeader error bytes
unfolding header_at
header_refusal [] error memory e = let is : Ended ≡ error = cc in subst (λ f. ReasonForHeader f []) is tt
header_refusal (first ∷ bytes) error memory e =
    by_type (eqb first 6) first bytes (λ r. r ≡ refused Header error → ReasonForHeader error (first ∷ bytes)) refl
    (λ six. header_after_refusal first bytes error memory six)
    (λ other wrong. let is : WrongType first ≡ error = cc in subst (λ f. ReasonForHeader f (first ∷ bytes)) is ((bytes, refl), other)) e

-- ---- the claim in the pairs of a map, or the first check that they fail

abbrev alive_with : Pairs → DetailsValue → Claim
alive_with pairs details = Alive (raw_of keys.Name pairs) (number_of keys.Incarnation pairs) details

abbrev suspect_with : Pairs → Claim
suspect_with pairs = Suspect (raw_of keys.Name pairs) (number_of keys.Incarnation pairs)

abbrev confirm_with : Pairs → Claim
confirm_with pairs = Confirm (raw_of keys.Name pairs) (number_of keys.Incarnation pairs)

abbrev leave_with : Pairs → Claim
leave_with pairs = Leave (raw_of keys.Name pairs) (number_of keys.Incarnation pairs)

abbrev claim_from : Pairs → ℕ → Result Claim WireFault
claim_from pairs state =
    cond (eqb state 0) (with_details (told_details pairs) (alive_with pairs))
    (cond (eqb state 1) (Ok (suspect_with pairs))
    (cond (eqb state 2) (Ok (confirm_with pairs))
    (cond (eqb state 3) (Ok (leave_with pairs)) (Err (BadState state)))))

abbrev state_from : Pairs → Result Claim WireFault
state_from pairs = with_name (raw_of keys.Name pairs) (claim_from pairs (number_of keys.State pairs))

state_message : IsMessage state_layout state_of state_from
state_message = record {
  legal = state_legal;
  same = λ pairs slots holds. rw (
    holds 0 (omega arith),
    holds 1 (omega arith),
    holds 2 (omega arith),
    holds 3 (omega arith),
    holds 4 (omega arith),
    holds 5 (omega arith),
    holds 6 (omega arith),
  ) refl;
}

-- the state is n
state_is : (pairs : Pairs) (state n : ℕ) → state ≡ number_of keys.State pairs → eqb state n ≡ true → number_of keys.State pairs ≡ n
state_is pairs state n same t = sym same ∙ eqb-true _ _ t

claim_ok : (pairs : Pairs) (state : ℕ) (c : Claim) → state ≡ number_of keys.State pairs
    → claim_from pairs state ≡ passed c → IsStateOf pairs c
claim_ok pairs state c same =
    split (eqb state 0) P _ _
    (λ t e. let legal = with_details_ok (told_details pairs) (alive_with pairs) c e
    in alive (state_is pairs state 0 same t) (legal.0, legal.1) legal.2)
    (λ _.
    split (eqb state 1) P _ _ (λ t e. suspect (state_is pairs state 1 same t) (passed_is (suspect_with pairs) c e)) (λ _.
    split (eqb state 2) P _ _ (λ t e. confirm (state_is pairs state 2 same t) (passed_is (confirm_with pairs) c e)) (λ _.
    split (eqb state 3) P _ _ (λ t e. leave (state_is pairs state 3 same t) (passed_is (leave_with pairs) c e)) (λ _ e. absurd cc))))
  where
    P : Result Claim WireFault → Type 0
    P r = r ≡ passed c → IsStateOf pairs c

claim_again : (pairs : Pairs) (c : Claim) → IsStateOf pairs c → claim_from pairs (number_of keys.State pairs) ≡ passed c
claim_again pairs c (alive state legal is) = rw (state, is) (with_details_again (told_details pairs) (alive_with pairs) legal.0 legal.1)
claim_again pairs c (suspect state is) = rw (state, is) refl
claim_again pairs c (confirm state is) = rw (state, is) refl
claim_again pairs c (leave state is) = rw (state, is) refl

-- a state not from 0 to 3
above_three : (state : ℕ) → eqb state 0 ≡ false → eqb state 1 ≡ false → eqb state 2 ≡ false → eqb state 3 ≡ false → 3 < state
above_three state none one two three = grind (arith, nat_tests)

claim_err : (pairs : Pairs) (state : ℕ) (error : WireFault) → state ≡ number_of keys.State pairs → raw_of
    keys.Name pairs ≢ [] → claim_from pairs state ≡ failed Claim error
    → (Q : Type 0) → (StateFails BadAddress pairs → BadAddress ≡ error → Q)
    → (StateFails BadVersions pairs → BadVersions ≡ error → Q) → (StateFails (BadState state) pairs → BadState state ≡ error → Q)
    → Q
claim_err pairs state error same named fails Q address versions bad =
    split (eqb state 0) P _ _
    (λ t e. with_details_err (told_details pairs) (alive_with pairs) error e Q
    (λ a is. address (named, state_is pairs state 0 same t, a) is)
    (λ a v is. versions (named, state_is pairs state 0 same t, (a, v)) is)) (λ none.
    split (eqb state 1) P _ _ (λ t e. absurd cc) (λ one.
    split (eqb state 2) P _ _ (λ t e. absurd cc) (λ two.
    split (eqb state 3) P _ _ (λ t e. absurd cc) (λ three e. bad (named, sym same, above_three state none one two three) cc)))) fails
  where
    P : Result Claim WireFault → Type 0
    P r = r ≡ failed Claim error → Q

-- ---- state records

pub state_takes : (bytes : List ℕ) (c : Claim) (rest : List ℕ) → state_at bytes ≡ read c rest → ConsumedText (λ b. StateText b c) bytes rest
unfolding state_at
state_takes bytes c rest e =
    let m = message_takes state_message bytes c rest e in
    let named = with_name_ok (raw_of keys.Name m.1) (claim_from m.1 (number_of keys.State m.1)) c m.3 in
    record {
      text = m.0;
      is = record { pairs = m.1; text = m.2; name = named.0; state = claim_ok m.1 (number_of keys.State m.1) c refl named.1 };
      parts = m.4;
    }

pub state_again : (b rest : List ℕ) (c : Claim) → StateText b c → state_at (b ++ rest) ≡ read c rest
unfolding state_at
state_again b rest c text =
    message_again state_message b rest text.pairs c text.text (with_name_again _ _ text.name ∙ claim_again text.pairs c text.state)

pub state_refusal : (bytes : List ℕ) (error : WireFault) → error ≢ Memory
    → state_at bytes ≡ refused Claim error → ReasonForState error bytes
unfolding state_at
state_refusal bytes error other e =
    message_refusal state_message bytes error e (ReasonForState error bytes) (λ map. (explained_by_map error bytes other map).2)
    (λ pairs fails begins. let state = number_of keys.State pairs in
    with_name_err (raw_of keys.Name pairs) (claim_from pairs state) error fails (ReasonForState error bytes)
    (λ empty is. subst (λ f. ReasonForState f bytes) is (begins (StateFails NameEmpty) empty))
    (λ named more. claim_err pairs state error refl named more (ReasonForState error bytes)
    (λ address is. subst (λ f. ReasonForState f bytes) is (begins (StateFails BadAddress) address))
    (λ versions is. subst (λ f. ReasonForState f bytes) is (begins (StateFails BadVersions) versions))
    (λ bad is. subst (λ f. ReasonForState f bytes) is (begins (StateFails (BadState state)) bad))))
