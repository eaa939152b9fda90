-- Words as parts of the output.
use Rattle.std.proofs.Common.{◌≡◌, ℕ, zero, suc, ◌+◌, ◌-◌, ◌<◌, ◌≤◌, List, [], ◌∷◌, ◌++◌, length, get_or, take, drop}
use Rattle.std.proofs.Common.{refl, sym, ap, subst, ◌∙◌, arith, append_assoc, add-one, inl, inr}
use Rattle.std.specs.Bool.{⊤}
use Rattle.std.specs.List.{concat}
use Rattle.std.proofs.lemmas.List.{append-nil, take_rest, get_or-take, drop-drop, take-append-drop, drop_at, take_all}
use Rattle.std.proofs.lemmas.List.{length-append, length-drop, length-take, drop-append-le, take-append-le, drop_all}
use Rattle.std.proofs.lemmas.List.{drop_more, get_or_append_left, get_or_push, get_or_read}
use Rattle.std.proofs.lemmas.Bool.{cases_lt}
use Rattle.memberlist_wrap.specs.Lzw.{StandsFor}
use Rattle.memberlist_wrap.specs.Lzw.StandsFor.{literal, again as repeated}
use Rattle.memberlist_wrap.specs.Dictionary.{next_start, words_at, AreStarts, again}

pub AreStarts-tail : (end s : ℕ) (r : List ℕ) → AreStarts end (s ∷ r) → AreStarts end r
AreStarts-tail end s r are = record {
  ascending = λ k h. are.ascending (suc k) (omega arith);
  inside = λ k h. are.inside (suc k) (omega arith);
}

pub below_next : (end s : ℕ) (r : List ℕ) → AreStarts end (s ∷ r) → (s < next_start end r) × (next_start end r ≤ end)
below_next end s [] are = (are.inside 0 (omega arith), omega arith)
below_next end s (e ∷ r) are =
    let last = are.inside 1 (omega arith) in
    (are.ascending 0 (omega arith), omega arith)

pub length-words_at : (output starts : List ℕ) → length (words_at output starts) ≡ length starts
length-words_at output [] = refl
length-words_at output (s ∷ r) = ap suc (length-words_at output r)

pub concat_words_at : (output : List ℕ) (s : ℕ) (r : List ℕ) → AreStarts (length output) (s ∷ r)
    → concat (words_at output (s ∷ r)) ≡ drop s output
concat_words_at output s [] are = append-nil _ ∙ take_rest output s
concat_words_at output s (e ∷ r) are =
    let up = are.ascending 0 (omega arith) in
    let gap : s + (e - s) ≡ e = omega arith in
    ap (λ x. take (e - s) (drop s output) ++ x)
    (concat_words_at output e r (AreStarts-tail _ s (e ∷ r) are) ∙ ap (λ n. drop n output) (sym gap) ∙ sym (drop-drop (e - s) s output))
    ∙ take-append-drop (e - s) (drop s output)

part_grown : (output v : List ℕ) (s t : ℕ) → s ≤ t → t ≤ length output → take (t - s) (drop s (output ++ v)) ≡ take (t - s) (drop s output)
part_grown output v s t up within =
    ap (take (t - s)) (drop-append-le s output v (omega arith))
    ∙ take-append-le (t - s) (drop s output) v (omega (arith, length-drop s output))

next_grown : (output v : List ℕ) (r : List ℕ) → next_start (length (output ++ v)) (r ++ length output ∷ []) ≡ next_start (length output) r
next_grown output v [] = refl
next_grown output v (e ∷ r) = refl

same_cons : (a b : List ℕ) (p q : List (List ℕ)) → a ≡ b → p ≡ q → a ∷ p ≡ b ∷ q
same_cons a b p q e f = cc

-- one more word
pub words_at_grown : (output v starts : List ℕ) → AreStarts (length output) starts
    → words_at (output ++ v) (starts ++ length output ∷ []) ≡ words_at output starts ++ v ∷ []
words_at_grown output v [] are =
    same_cons _ _ _ _
    (ap (take (length (output ++ v) - length output)) (drop_at output v (length output) refl)
    ∙ take_all _ v (omega (arith, length-append output v)))
    refl
words_at_grown output v (s ∷ r) are =
    let next = below_next (length output) s r are in
    same_cons _ _ _ _
    (ap (λ n. take (n - s) (drop s (output ++ v))) (next_grown output v r) ∙ part_grown output v s _ (omega (arith, next.0)) next.1)
    (words_at_grown output v r (AreStarts-tail _ s r are))

pub AreStarts-grown : (end more : ℕ) (starts : List ℕ) → AreStarts end starts → end < more → AreStarts more (starts ++ end ∷ [])
AreStarts-grown end more starts are up = record {
  ascending = λ k h. elim (cases_lt (suc k) (length starts)) [
    | inl lt ↦ up_left k lt
    | inr le ↦ up_end k (omega (arith, length-append starts (end ∷ [])))
  ];
  inside = λ k h. elim (cases_lt k (length starts)) [
    | inl lt ↦ (let at = left k lt in let low = are.inside k lt in omega arith)
    | inr le ↦ (let at = last k (omega (arith, length-append starts (end ∷ []))) in omega arith)
  ];
}
  where
    left : (k : ℕ) → k < length starts → get_or (starts ++ end ∷ []) k 0 ≡ get_or starts k 0
    left k h = get_or_append_left starts (end ∷ []) 0 k h

    last : (k : ℕ) → length starts ≡ k → get_or (starts ++ end ∷ []) k 0 ≡ end
    last k e = get_or_push starts end 0 k e

    up_left : (k : ℕ) → suc k < length starts → get_or (starts ++ end ∷ []) k 0 < get_or (starts ++ end ∷ []) (suc k) 0
    up_left k h = let a = left k (omega arith) in let b = left (suc k) h in let u = are.ascending k h in omega arith

    up_end : (k : ℕ) → length starts ≡ suc k → get_or (starts ++ end ∷ []) k 0 < get_or (starts ++ end ∷ []) (suc k) 0
    up_end k e = let a = left k (omega arith) in let b = last (suc k) e in let u = are.inside k (omega arith) in omega arith

-- ---- a word at its place

pub record WordAt (output starts : List ℕ) (place : ℕ) : Type 0 where
  pub before : List (List ℕ)
  pub old : List ℕ
  pub after : List (List ℕ)
  pub parts : words_at output starts ≡ before ++ old ∷ after
  pub place_is : length before ≡ place
  pub old_is : old ≡ take (next_start (length output) (drop (suc place) starts) - get_or starts place 0)
      (drop (get_or starts place 0) output)
  pub after_is : concat after ≡ drop (next_start (length output) (drop (suc place) starts)) output

pub word_at : (output starts : List ℕ) (place : ℕ) → AreStarts (length output) starts → place < length starts → WordAt output starts place
word_at output [] place are within = absurd (omega arith)
word_at output (s ∷ []) zero are within =
    record {
      before = [];
      old = _;
      after = [];
      parts = refl;
      place_is = refl;
      old_is = refl;
      after_is = sym (drop_all (length output) output (omega arith));
    }
word_at output (s ∷ e ∷ r) zero are within =
    record {
      before = [];
      old = _;
      after = words_at output (e ∷ r);
      parts = refl;
      place_is = refl;
      old_is = refl;
      after_is = concat_words_at output e r (AreStarts-tail _ s (e ∷ r) are);
    }
word_at output (s ∷ r) (suc place) are within =
    let w = word_at output r place (AreStarts-tail _ s r are) (omega arith) in
    record {
      before = take (next_start (length output) r - s) (drop s output) ∷ w.before;
      old = w.old;
      after = w.after;
      parts = ap (λ x. take (next_start (length output) r - s) (drop s output) ∷ x) w.parts;
      place_is = ap suc w.place_is;
      old_is = w.old_is;
      after_is = w.after_is;
    }

-- ---- what a code means

-- no word is empty
abbrev pub AreFull : List (List ℕ) → Type 0
AreFull [] = ⊤
AreFull (w ∷ ws) = (0 < length w) × AreFull ws

pub AreFull-words_at : (output starts : List ℕ) → AreStarts (length output) starts → AreFull (words_at output starts)
AreFull-words_at output [] are = tt
AreFull-words_at output (s ∷ r) are =
    let next = below_next (length output) s r are in
    let n = next_start (length output) r in (
      omega (arith, next.0, next.1, length-take (n - s) (drop s output), length-drop s output),
      AreFull-words_at output r (AreStarts-tail _ s r are),
    )

full_at : (before : List (List ℕ)) (old : List ℕ) (after : List (List ℕ)) → AreFull (before ++ old ∷ after) → 0 < length old
full_at [] old after full = full.0
full_at (w ∷ before) old after full = full_at before old after full.1

same_parts : (a b : List ℕ) (p q : List (List ℕ)) → a ∷ p ≡ b ∷ q → (a ≡ b) × (p ≡ q)
same_parts a b p q e = (cc, cc)

-- a list is split at a place in one way
split_once : (words before : List (List ℕ)) (old : List ℕ) (after before' : List (List ℕ)) (old' : List ℕ) (after' : List (List ℕ))
    → words ≡ before ++ old ∷ after → words ≡ before' ++ old' ∷ after' → length before ≡ length before' → (old ≡ old') × (after ≡ after')
split_once words before old after before' old' after' e f same =
    same_parts old old' after after'
    (sym (drop_at before (old ∷ after) (length before) refl) ∙ ap (drop (length before)) (sym e ∙ f)
    ∙ ap (λ n. drop n (before' ++ old' ∷ after')) same ∙ drop_at before' (old' ∷ after') (length before') refl)

-- the byte after a word does not depend on what follows it
next_of : (old : List ℕ) (after : List (List ℕ)) (word : List ℕ) → 0 < length old → word ≡ old ++ take 1
    (concat after ++ word) → take 1 (concat after ++ word) ≡ take 1 (concat after ++ old)
next_of old after word full e =
    let z = take 1 (concat after ++ word) in
    ap (λ w. take 1 (concat after ++ w)) e
    ∙ ap (take 1) (sym (append_assoc (concat after) old z))
    ∙ take-append-le 1 (concat after ++ old) z (omega (arith, length-append (concat after) old))

pub one_word : (words : List (List ℕ)) (code : ℕ) (a b : List ℕ) → AreFull words → StandsFor words code a → StandsFor words code b → a ≡ b
one_word words code a b full (literal c e) (literal d f) = e ∙ sym f
one_word words code a b full (literal c e) (repeated before old after p q r) = absurd (omega arith)
one_word words code a b full (repeated before old after p q r) (literal d f) = absurd (omega arith)
one_word words code a b full (repeated before old after p q r) (repeated before' old' after' p' q' r') =
    let same : length before ≡ length before' = omega arith in
    let parts = split_once words before old after before' old' after' p p' same in
    let f = full_at before old after (subst AreFull p full) in
    let f' = full_at before' old' after' (subst AreFull p' full) in
    r ∙ ap (λ x. old ++ x) (next_of old after a f r)
    ∙ ap (λ x. x ++ take 1 (concat after ++ x)) parts.0
    ∙ ap (λ x. old' ++ take 1 (concat x ++ old')) parts.1
    ∙ ap (λ x. old' ++ x) (sym (next_of old' after' b f' r'))
    ∙ sym r'

-- a word that is repeated has one byte more
longer : (old : List ℕ) (after : List (List ℕ)) (word : List ℕ) → 0 < length old
    → word ≡ old ++ take 1 (concat after ++ word) → length word ≡ length old + 1
longer old after word full e =
    let z = concat after ++ word in
    omega (arith, ap length e, length-append old (take 1 z), length-take 1 z, length-append (concat after) word)

pub ends_of : (end : ℕ) (starts : List ℕ) (place : ℕ) → AreStarts end starts → place < length starts
    → (get_or starts place 0 < next_start end (drop (suc place) starts)) × (next_start end (drop (suc place) starts) ≤ end)
ends_of end [] place are within = absurd (omega arith)
ends_of end (s ∷ r) zero are within = below_next end s r are
ends_of end (s ∷ r) (suc place) are within = ends_of end r place (AreStarts-tail end s r are) (omega arith)

-- the byte after a part, when the part and that byte are appended
next_byte : (output part : List ℕ) (to x : ℕ) → to ≤ length output → 0 < length part → x ≡ get_or (output ++ part) to 0
    → take 1 (drop to output ++ (part ++ x ∷ [])) ≡ x ∷ []
next_byte output part to x within full is =
    let all = output ++ (part ++ x ∷ []) in
    let long : to < length all = omega (arith, length-append output (part ++ x ∷ []), length-append part (x ∷ [])) in
    let here : get_or all to 0 ≡ x =
    ap (λ l. get_or l to 0) (sym (append_assoc output part (x ∷ [])))
    ∙ get_or_append_left (output ++ part) (x ∷ []) 0 to (omega (arith, length-append output part))
    ∙ sym is in
    ap (take 1) (sym (drop-append-le to output (part ++ x ∷ []) within) ∙ drop_more all to 0 long)
    ∙ ap (λ y. y ∷ []) here

-- the repeated part
pub Stands-again : (output starts : List ℕ) (place : ℕ) → AreStarts (length output) starts → place < length starts
    → StandsFor (words_at output starts) (258 + place)
    (again output (get_or starts place 0) (next_start (length output) (drop (suc place) starts)))
Stands-again output starts place are within =
    let w = word_at output starts place are within in
    let from = get_or starts place 0 in
    let to = next_start (length output) (drop (suc place) starts) in
    let part = take (to - from) (drop from output) in
    let ends = ends_of (length output) starts place are within in
    let full : 0 < length part = omega (arith, ends.0, ends.1, length-take (to - from) (drop from output), length-drop from output) in
    let code : 258 + place ≡ 258 + length w.before = omega (arith, w.place_is) in
    let x = get_or (output ++ part) to 0 in
    repeated w.before w.old w.after w.parts code
    (ap (λ l. part ++ l) (sym (ap (λ l. take 1 (l ++ (part ++ x ∷ []))) w.after_is ∙ next_byte output part to x ends.1 full refl))
    ∙ ap (λ l. l ++ take 1 (concat w.after ++ (part ++ x ∷ []))) (sym w.old_is))

-- a place after the last word means nothing
pub none_there : (words : List (List ℕ)) (place : ℕ) (word : List ℕ) → length words ≤ place → ¬ StandsFor words (258 + place) word
none_there words place word behind (literal c e) = absurd (omega arith)
none_there words place word behind (repeated before old after p q r) = omega (arith, ap length p, length-append before (old ∷ after))

-- places stay places if the output grows
pub AreStarts-longer : (end more : ℕ) (starts : List ℕ) → AreStarts end starts → end ≤ more → AreStarts more starts
AreStarts-longer end more starts are up = record {
  ascending = are.ascending;
  inside = λ k h. let low = are.inside k h in omega arith;
}

pub length-again : (output : List ℕ) (from to : ℕ) → from < to → to ≤ length output → length (again output from to) ≡ to - from + 1
length-again output from to some within =
    let part = take (to - from) (drop from output) in
    omega (
      arith,
      length-append part (get_or (output ++ part) to 0 ∷ []),
      length-take (to - from) (drop from output),
      length-drop from output,
    )

-- the ends of a part, as the code reads them
pub record ReadEnds (out starts : List ℕ) (place from to : ℕ) : Type 0 where
  pub from_is : from ≡ get_or starts place 0
  pub to_is : to ≡ next_start (length out) (drop (suc place) starts)
  pub some : from < to
  pub within : to ≤ length out

pub read_ends : (out starts seen : List ℕ) (place n start from to : ℕ) → AreStarts (length out) starts → n ≡ length starts
    → place < n → start ≡ length out → seen ≡ starts
    → from ≡ get_or starts place from → to ≡ next_start start (drop (place + 1) seen) → ReadEnds out starts place from to
read_ends out starts seen place n start from to are size inside end same f t =
    let ends = ends_of (length out) starts place are (omega arith) in
    let from_is : from ≡ get_or starts place 0 = get_or_read starts place from (omega arith) f 0 in
    let to_is : to ≡ next_start (length out) (drop (suc place) starts) =
    t ∙ ap (λ s. next_start s (drop (place + 1) seen)) end ∙ ap (λ l. next_start (length out) (drop (place + 1) l)) same
    ∙ ap (λ k. next_start (length out) (drop k starts)) (add-one place) in
    record {
      from_is = from_is;
      to_is = to_is;
      some = omega (arith, ends.0);
      within = omega (arith, ends.1);
    }

pub full_word : (words : List (List ℕ)) (code : ℕ) (word : List ℕ) → AreFull words → StandsFor words code word → 0 < length word
full_word words code word full (literal c e) = omega (arith, ap length e)
full_word words code word full (repeated before old after p q r) =
    let f = full_at before old after (subst AreFull p full) in
    omega (arith, longer old after word f r)

-- ---- as many words as are kept

pub AreFull-take : (n : ℕ) (words : List (List ℕ)) → AreFull words → AreFull (take n words)
AreFull-take zero [] full = tt
AreFull-take zero (w ∷ words) full = tt
AreFull-take (suc n) [] full = tt
AreFull-take (suc n) (w ∷ words) full = (full.0, AreFull-take n words full.1)

-- the words before the last do not change if the output grows
words_at_longer : (n : ℕ) (output v starts : List ℕ) → AreStarts (length output) starts → n < length starts → take n
    (words_at (output ++ v) starts) ≡ take n (words_at output starts)
words_at_longer n output v [] are within = absurd (omega arith)
words_at_longer zero output v (s ∷ r) are within = refl
words_at_longer (suc n) output v (s ∷ []) are within = absurd (omega arith)
words_at_longer (suc n) output v (s ∷ e ∷ r) are within =
    let up = are.ascending 0 (omega arith) in
    let last = are.inside 1 (omega arith) in
    same_cons _ _ _ _ (part_grown output v s e (omega arith) (omega arith))
    (words_at_longer n output v (e ∷ r) (AreStarts-tail _ s (e ∷ r) are) (omega arith))

-- the words that are kept, after one more was output
pub words_at_kept : (n : ℕ) (output v starts : List ℕ) → AreStarts (length output) starts → length starts ≤ suc n
    → take n (words_at (output ++ v) (take (suc n) (starts ++ length output ∷ []))) ≡ take n (take n (words_at output starts) ++ v ∷ [])
words_at_kept n output v starts are few = elim (cases_lt (length starts) (suc n)) [
  | inl room ↦
      ap (λ s. take n (words_at (output ++ v) s))
      (take_all (suc n) (starts ++ length output ∷ [])
      (omega (arith, length-append starts (length output ∷ []))))
      ∙ ap (take n) (words_at_grown output v starts are)
      ∙ ap (λ x. take n (x ++ v ∷ [])) (sym (take_all n (words_at output starts) (omega (arith, length-words_at output starts))))
  | inr full ↦
      ap (λ s. take n (words_at (output ++ v) s)) (take-append-le (suc n) starts (length output ∷ []) full ∙ take_all (suc n) starts few)
      ∙ words_at_longer n output v starts are (omega arith)
      ∙ sym (
      take-append-le n (take n (words_at output starts)) (v ∷ [])
      (omega (arith, length-take n (words_at output starts), length-words_at output starts))
      ∙ take_all n (take n (words_at output starts)) (omega (arith, length-take n (words_at output starts)))
      )
]

AreStarts-take : (n end : ℕ) (starts : List ℕ) → AreStarts end starts → AreStarts end (take n starts)
AreStarts-take n end starts are = record {
  ascending = λ k h.
      let size = length-take n starts in
      let low = get_or-take n starts k 0 (omega arith) in
      let high = get_or-take n starts (suc k) 0 (omega arith) in
      let up = are.ascending k (omega arith) in
      omega arith;
  inside = λ k h.
      let size = length-take n starts in
      let low = get_or-take n starts k 0 (omega arith) in
      let up = are.inside k (omega arith) in
      omega arith;
}

pub AreStarts-kept : (n end more : ℕ) (starts : List ℕ) → AreStarts end starts → end < more → AreStarts more (take n (starts ++ end ∷ []))
AreStarts-kept n end more starts are up = AreStarts-take n more (starts ++ end ∷ []) (AreStarts-grown end more starts are up)

take_split : (m : ℕ) (before : List (List ℕ)) (old : List ℕ) (after : List (List ℕ)) → length before < m
    → take m (before ++ old ∷ after) ≡ before ++ old ∷ take (m - suc (length before)) after
take_split zero before old after within = absurd (omega arith)
take_split (suc m) [] old after within = let same : suc m - 1 ≡ m = omega arith in ap (λ k. old ∷ take k after) (sym same)
take_split (suc m) (w ∷ before) old after within =
    let same : suc m - suc (suc (length before)) ≡ m - suc (length before) = omega arith in
    ap (λ l. w ∷ l) (take_split m before old after (omega arith)) ∙ ap (λ k. w ∷ before ++ old ∷ take k after) (sym same)

-- the byte after a word is the first of the next word
first_kept : (k : ℕ) (after : List (List ℕ)) (word : List ℕ) → AreFull after → 0 < k
    → take 1 (concat after ++ word) ≡ take 1 (concat (take k after) ++ word)
first_kept zero after word full some = absurd (omega arith)
first_kept (suc k) [] word full some = refl
first_kept (suc k) ([] ∷ after) word full some = absurd (omega (arith, full.0))
first_kept (suc k) ((b ∷ w) ∷ after) word full some = refl

full_after : (before : List (List ℕ)) (old : List ℕ) (after : List (List ℕ)) → AreFull (before ++ old ∷ after) → AreFull after
full_after [] old after full = full.1
full_after (w ∷ before) old after full = full_after before old after full.1

-- a code means the same word after the words that are kept
Stands-kept : (m : ℕ) (words : List (List ℕ)) (place : ℕ) (word : List ℕ) → AreFull words → place + 2 ≤ m → StandsFor words
    (258 + place) word → StandsFor (take m words) (258 + place) word
Stands-kept m words place word full room (literal c e) = absurd (omega arith)
Stands-kept m words place word full room (repeated before old after p q r) =
    let k = m - suc (length before) in
    repeated before old (take k after) (ap (take m) p ∙ take_split m before old after (omega arith)) q
    (r ∙ ap (λ x. old ++ x) (first_kept k after word (full_after before old after (subst AreFull p full)) (omega arith)))

-- an earlier word once more, as the code finds it
pub Stands-read : (m : ℕ) (out starts : List ℕ) (place from to : ℕ) → AreStarts (length out) starts → place < length starts
    → place + 2 ≤ m → ReadEnds out starts place from to
    → StandsFor (take m (words_at out starts)) (258 + place) (again out from to)
Stands-read m out starts place from to are inside room ends =
    Stands-kept m (words_at out starts) place (again out from to) (AreFull-words_at out starts are) room
    (rw (ends.from_is, ends.to_is) (Stands-again out starts place are inside))
