-- The outcome of lines, one line after the other.
use Rattle.std.proofs.Common.{◌≡◌, ℕ, zero, suc, ◌+◌, ◌<◌, Bool, List, [], ◌∷◌, ◌++◌, length, take, get_or, refl, ap}
use Rattle.std.proofs.Common.{ap₂, ◌∙◌, sym, subst, append_assoc, length-take-le, arith}
use Rattle.std.specs.List.{enumerate_from}
use Rattle.std.proofs.lemmas.List.FromFn.{length-enumerate_from, get_or-enumerate_from}
use Rattle.std.proofs.Math.Seq.{take-suc}
use Rattle.std.proofs.lemmas.Bool.Decides.{nat_tests}
use Rattle.memberlist_transport.specs.declared.in_the_clear.InTheClear.{InTheClear}
use Rattle.swimunwrap.specs.declared.cause.Cause.{Cause}
use Rattle.swimunwrap.specs.Lines.{Becomes, AllBecome, BecomeTooLong}
use Rattle.swimunwrap.specs.Unwrapped.{parted}

-- one more line, after those before
behind : (policy : InTheClear) (keys : List (List ℕ)) (skip : Bool) (before : List ℕ) (lines : List (List ℕ)) (line text own : List ℕ)
    (causes first : List Cause) → AllBecome policy keys skip (before ∷ lines) text causes → Becomes policy keys skip line own first
    → AllBecome policy keys skip (before ∷ lines ++ line ∷ []) (text ++ 10 ∷ own) (causes ++ first)
behind policy keys skip before [] line text own causes first each h = (text, own, causes, first, each, h, refl, refl)
behind policy keys skip before (next ∷ lines) line text own causes first each h =
    let own0 = each.0 in
    let rest = each.1 in
    let first0 = each.2 in
    let more = each.3 in (
      own0,
      rest ++ 10 ∷ own,
      first0,
      more ++ first,
      each.4,
      behind policy keys skip next lines line rest own more first each.5 h,
      ap (λ t. t ++ 10 ∷ own) each.6 ∙ append_assoc own0 (10 ∷ rest) (10 ∷ own),
      ap (λ t. t ++ first) each.7 ∙ append_assoc first0 more first,
    )

-- a line after others starts with a line feed
parted-more : (index : ℕ) (text : List ℕ) → parted (suc index) text ≡ text ++ 10 ∷ []
parted-more index text = grind (arith, nat_tests)

-- one more line, by how many are before it
pub AllBecome-push : (policy : InTheClear) (keys : List (List ℕ)) (skip : Bool) (lines : List (List ℕ)) (index : ℕ) (line text own : List ℕ)
    (causes first : List Cause) → index ≡ length lines
    → AllBecome policy keys skip lines text causes → Becomes policy keys skip line own first
    → AllBecome policy keys skip (lines ++ line ∷ []) (parted index text ++ own) (causes ++ first)
AllBecome-push policy keys skip [] zero line text own causes first e each h =
    let T : List ℕ → Type 0 = λ t. Becomes policy keys skip line (t ++ own) (causes ++ first) in
    let C : List Cause → Type 0 = λ c. Becomes policy keys skip line own (c ++ first) in
    subst T (sym each.0) (subst C (sym each.1) h)
AllBecome-push policy keys skip [] (suc index) line text own causes first e each h = absurd cc
AllBecome-push policy keys skip (before ∷ lines) zero line text own causes first e each h = absurd cc
AllBecome-push policy keys skip (before ∷ lines) (suc index) line text own causes first e each h =
    let T : List ℕ → Type 0 = λ t. AllBecome policy keys skip (before ∷ lines ++ line ∷ []) t (causes ++ first) in
    subst T (sym (append_assoc text (10 ∷ []) own) ∙ sym (ap (λ t. t ++ own) (parted-more index text)))
    (behind policy keys skip before lines line text own causes first each h)

-- one more line of an input, by how many of them were read before
pub AllBecome-next : (policy : InTheClear) (keys : List (List ℕ)) (skip : Bool) (lines before : List (List ℕ)) (n index : ℕ)
    (line text own : List ℕ) (causes first : List Cause) → before ≡ take n lines
    → (n < length (enumerate_from 0 lines)) × ((index, line) ≡ get_or (enumerate_from 0 lines) n (index, line))
    → AllBecome policy keys skip before text causes → Becomes policy keys skip line own first
    → (before ++ line ∷ [] ≡ take (suc n) lines)
    × AllBecome policy keys skip (before ++ line ∷ []) (parted index text ++ own) (causes ++ first)
AllBecome-next policy keys skip lines before n index line text own causes first front here each h =
    let within : n < length lines = omega (arith, here.0, length-enumerate_from 0 lines) in
    let at : (index, line) ≡ (0 + n, get_or lines n line) = here.1 ∙ get_or-enumerate_from 0 lines n (index, line) within in
    let counted : index ≡ 0 + n = ap (λ (p : ℕ × List ℕ). p.0) at in
    let many : length before ≡ n = ap length front ∙ length-take-le n lines (omega (arith, within)) in
    let more : before ++ line ∷ [] ≡ take (suc n) lines =
    ap₂ (λ xs x. xs ++ x ∷ []) front (ap (λ (p : ℕ × List ℕ). p.1) at) ∙ sym (take-suc lines n line within) in
    (more, AllBecome-push policy keys skip before index line text own causes first (omega (arith, counted, many)) each h)

-- the text of the first lines is too long
pub too_long : (policy : InTheClear) (keys : List (List ℕ)) (skip : Bool) (limit n : ℕ) (lines before : List (List ℕ)) (text : List ℕ)
    (causes : List Cause) → before ≡ take (suc n) lines
    → AllBecome policy keys skip before text causes → limit < length text → BecomeTooLong policy keys skip limit lines
too_long policy keys skip limit n lines before text causes front each long =
    record {
      count = suc n;
      text = text;
      causes = causes;
      become = subst (λ b. AllBecome policy keys skip b text causes) front each;
      long = long;
    }
