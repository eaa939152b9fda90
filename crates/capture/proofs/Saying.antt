-- The bytes that segments give at a place, and a flow that gives the same.
use Rattle.std.proofs.Common.{◌≡◌, ◌≢◌, ℕ, ◌+◌, ◌-◌, ◌^◌, ◌<◌, ◌≤◌, inl, inr, true, false, nat_lt, List, [], ◌∷◌, ◌++◌}
use Rattle.std.proofs.Common.{length, take, drop, get_or, refl, sym, ◌∙◌, ap, arith, length-append, length-take}
use Rattle.std.proofs.Common.{length-drop, get_or-take, get_or-drop}
use Rattle.std.specs.Prelude.{Option, Some, None, find, fold, filter}
use Rattle.std.specs.Option.{option_or}
use Rattle.std.proofs.Math.ListN.{get_or-append}
use Rattle.std.proofs.lemmas.List.{get_or-append_right, ext_get_or}
use Rattle.std.proofs.lemmas.List.Folds.{find-append}
use Rattle.capture.specs.Flows.{Placed, end_of, covers, byte_in, byte_at, closer, SaysFrom, AreCovered, IsNext, FlowText, Says, Assembled}
use Rattle.capture.proofs.Covering.{which, lt_tells, covers_yes, covers_below, covers_low, covers_high, covers_behind}
use Rattle.capture.proofs.Covering.{covers_not, stop_le, stop_above, find_none, find_stays, found_covers, find_filtered}

or_some : (k : ℕ) (o p : Option Placed) (b : ℕ) → byte_in k o ≡ Some b → byte_in k (option_or o p) ≡ Some b
or_some k None p b said = (let wrong : Some b ≡ None = sym said in cc)
or_some k (Some s) p b said = said

or_none : (o : Option Placed) → option_or o None ≡ o
or_none None = refl
or_none (Some s) = refl

or_same : (k : ℕ) (o p q : Option Placed) → byte_in k o ≡ byte_in k p → byte_in k (option_or o q) ≡ byte_in k (option_or p q)
or_same k None None q same = refl
or_same k None (Some t) q same = (let wrong : Some (get_or t.bytes (k - t.at) 0) ≡ None = sym same in cc)
or_same k (Some s) None q same = (let wrong : Some (get_or s.bytes (k - s.at) 0) ≡ None = same in cc)
or_same k (Some s) (Some t) q same = same

or_gap : (o p : Option Placed) → option_or o p ≡ None → (o ≡ None) × (p ≡ None)
or_gap None p none = (refl, none)
or_gap (Some s) p none = (let wrong : Some s ≡ None = none in cc)

-- a place without a byte is not covered
pub gap_of : (k : ℕ) (o : Option Placed) → byte_in k o ≡ None → o ≡ None
gap_of k None none = refl
gap_of k (Some s) none = (let wrong : Some (get_or s.bytes (k - s.at) 0) ≡ None = none in cc)

-- a byte that the first segments give is given by all of them
pub said_append : (k : ℕ) (xs ys : List Placed) (b : ℕ) → byte_at k xs ≡ Some b → byte_at k (xs ++ ys) ≡ Some b
said_append k xs ys b said =
    rw (find-append (covers k) xs ys) (or_some k (find (covers k) xs) (find (covers k) ys) b said)

-- the same segments after those that give the same bytes
pub same_append : (k : ℕ) (xs ys zs : List Placed) → byte_at k xs ≡ byte_at k ys
    → byte_at k (xs ++ zs) ≡ byte_at k (ys ++ zs)
same_append k xs ys zs same =
    rw (find-append (covers k) xs zs, find-append (covers k) ys zs) (
    or_same k (find (covers k) xs) (find (covers k) ys) (find (covers k) zs) same)

-- segments that do not cover a place give no byte there
pub unsaid_append : (k : ℕ) (xs ys : List Placed) → find (covers k) ys ≡ None → byte_at k (xs ++ ys) ≡ byte_at k xs
unsaid_append k xs ys none = rw (find-append (covers k) xs ys, none, or_none (find (covers k) xs)) refl

-- one segment
pub one_out : (k : ℕ) (s : Placed) → covers k s ≡ false → find (covers k) (s ∷ []) ≡ None
one_out k s out = rw out refl

pub one_in : (k : ℕ) (s : Placed) → covers k s ≡ true → find (covers k) (s ∷ []) ≡ Some s
one_in k s is = rw is refl

pub one_gap : (k : ℕ) (s : Placed) → find (covers k) (s ∷ []) ≡ None → covers k s ≡ false
one_gap k s none =
    elim (which (covers k s)) [ inl is ↦ (let wrong : Some s ≡ None = rw is at none in cc) | inr isnt ↦ isnt ]

-- a segment covers its places, whatever comes before it
pub covered_by : (k : ℕ) (xs : List Placed) (s : Placed) → covers k s ≡ true → find (covers k) (xs ++ s ∷ []) ≢ None
covered_by k xs s on none =
    let both = or_gap (find (covers k) xs) (find (covers k) (s ∷ [])) (sym (find-append (covers k) xs (s ∷ [])) ∙ none) in
    let wrong : false ≡ true = sym (one_gap k s both.1) ∙ on in
    absurd (cc (wrong))

-- the first of the bytes from a place on
pub says_part : (segments : List Placed) (here n : ℕ) (found : List ℕ) → SaysFrom segments here found
    → SaysFrom segments here (take n found)
says_part segments here n found says k less =
    let count = length-take n found in
    let inside : k < n = omega (arith, less, count) in
    says k (omega (arith, less, count)) ∙ ap (λ b. Some b) (sym (get_or-take n found k 0 inside))

-- a part of a segment that is the first to cover each of the part's places
pub next_part : (whole : List Placed) (p : Placed) (here stop : ℕ) (part : List ℕ) → p.at ≤ here → here < stop
    → stop ≤ end_of p → end_of p ≤ 2 ^ 25
    → ((k : ℕ) → here ≤ k → k < stop → find (covers k) whole ≡ Some p)
    → part ≡ take ((stop - p.at) - (here - p.at)) (drop (here - p.at) p.bytes)
    → IsNext whole here part
next_part whole p here stop part low more high small each part_is =
    let count : length part ≡ stop - here = rw part_is (simp (length-take, length-drop) (omega arith)) in
    record {
      some = omega (arith, count);
      near = omega (arith, count);
      says = λ k less.
          let within : here + k < stop = omega (arith, count, less) in
          let found : find (covers (here + k)) whole ≡ Some p = each (here + k) (omega arith) within in
          let place : (here + k) - p.at ≡ (here - p.at) + k = omega arith in
          let inside : k < (stop - p.at) - (here - p.at) = omega arith in
          let read : get_or (take ((stop - p.at) - (here - p.at)) (drop (here - p.at) p.bytes)) k 0 ≡ get_or p.bytes ((here - p.at) + k) 0 =
          get_or-take ((stop - p.at) - (here - p.at)) (drop (here - p.at) p.bytes) k 0 inside ∙ get_or-drop (here - p.at) p.bytes k 0 in
          let same : get_or p.bytes ((here + k) - p.at) 0 ≡ get_or part k 0 = rw (place, part_is) (sym read) in
          rw (found, same) refl;
    }

-- a part of the first segment that covers a place, up to where another one starts
pub next_found : (segments : List Placed) (seg p : Placed) (here stop : ℕ) (part : List ℕ)
    → find (covers here) segments ≡ Some p → stop ≡ fold (closer here) (end_of p) segments → end_of p ≤ 2 ^ 25
    → part ≡ take ((stop - p.at) - (here - p.at)) (drop (here - p.at) p.bytes)
    → IsNext (segments ++ seg ∷ []) here part
next_found segments seg p here stop part found stop_is small part_is =
    let on : covers here p ≡ true = found_covers here segments p found in
    let above : here < fold (closer here) (end_of p) segments = stop_above here segments (end_of p) (covers_high here p on) in
    let within : fold (closer here) (end_of p) segments ≤ end_of p = stop_le here segments (end_of p) in
    next_part (segments ++ seg ∷ []) p here stop part (covers_low here p on) (rw stop_is above) (rw stop_is within) small
    (λ k low near.
    let less : k < fold (closer here) (end_of p) segments = rw (sym stop_is) near in
    let inside : k < end_of p = omega (arith, less, within) in
    let same : find (covers k) segments ≡ Some p = find_stays here k segments (end_of p) p low less found inside in
    rw (find-append (covers k) segments (seg ∷ []), same) refl)
    part_is

-- a part of the last segment, if no other one covers a place, up to where another one starts
pub next_fresh : (segments : List Placed) (seg : Placed) (here stop : ℕ) (part : List ℕ)
    → find (covers here) segments ≡ None → seg.at ≤ here → here < end_of seg
    → stop ≡ fold (closer here) (end_of seg) segments → end_of seg ≤ 2 ^ 25
    → part ≡ take ((stop - seg.at) - (here - seg.at)) (drop (here - seg.at) seg.bytes)
    → IsNext (segments ++ seg ∷ []) here part
next_fresh segments seg here stop part none low high stop_is small part_is =
    let above : here < fold (closer here) (end_of seg) segments = stop_above here segments (end_of seg) high in
    let within : fold (closer here) (end_of seg) segments ≤ end_of seg = stop_le here segments (end_of seg) in
    next_part (segments ++ seg ∷ []) seg here stop part low (rw stop_is above) (rw stop_is within) small
    (λ k behind near.
    let less : k < fold (closer here) (end_of seg) segments = rw (sym stop_is) near in
    let clear : find (covers k) segments ≡ None = find_none here k segments (end_of seg) behind less none in
    let on : covers k seg ≡ true = covers_yes k seg (omega arith) (omega (arith, less, within)) in
    rw (find-append (covers k) segments (seg ∷ []), clear, on) refl)
    part_is

-- the same, as the code slices them
pub next_found_cut : (segments : List Placed) (seg p : Placed) (here at : ℕ) (bytes part : List ℕ)
    → find (covers here) segments ≡ Some p → end_of p ≤ 2 ^ 25 → at ≡ p.at → bytes ≡ p.bytes
    → part ≡ take ((fold (closer here) (at + length bytes) segments - at) - (here - at)) (drop (here - at) bytes)
    → IsNext (segments ++ seg ∷ []) here part
next_found_cut segments seg p here at bytes part found small at_is bytes_is part_is =
    let cut = rw (at_is, bytes_is) at part_is in
    next_found segments seg p here (fold (closer here) (end_of p) segments) part found refl small cut

-- no segment covers the place
pub next_none : (segments : List Placed) (seg : Placed) (here : ℕ) → find (covers here) segments ≡ None
    → covers here seg ≡ false → find (covers here) (segments ++ seg ∷ []) ≡ None
next_none segments seg here none out = rw (find-append (covers here) segments (seg ∷ []), none, out) refl

-- bytes, and the next ones
pub says_more : (whole : List Placed) (here : ℕ) (found part : List ℕ) → SaysFrom whole here found
    → IsNext whole (here + length found) part → SaysFrom whole here (found ++ part)
says_more whole here found part says next k less =
    elim (lt_tells k (length found)) [
      | inl p ↦ rw (get_or-append found part 0 k p.1) (says k p.1)
      | inr p ↦
          (let long : length (found ++ part) ≡ length found + length part = length-append found part in
          let inside : k - length found < length part = omega (arith, less, long) in
          let said = next.says (k - length found) inside in
          let place : (here + length found) + (k - length found) ≡ here + k = omega arith in
          let read : get_or (found ++ part) k 0 ≡ get_or part (k - length found) 0 =
          get_or-append_right found part (length found) k 0 refl p.1 in
          rw (sym place, read) said)
    ]

-- a flow of no segments
pub says_empty : (start : ℕ) → Says [] (record { start = start; text = []; waiting = [] })
says_empty start = record { front = λ k less. absurd (omega (arith, less)); behind = λ k far. refl }

-- a flow whose text ends at a gap has the bytes of its segments
pub says_assembled : (segments : List Placed) (f : FlowText) → byte_at (length f.text) f.waiting ≡ None
    → Says segments f → Assembled segments f.text
says_assembled segments f tight says =
    record { covered = says.front; longest = says.behind (length f.text) (omega arith) ∙ tight }

-- a segment whose bytes after the text are all there
says_known : (segments : List Placed) (f : FlowText) (seg : Placed)
    → ((k : ℕ) → length f.text ≤ k → covers k seg ≡ true → (b : ℕ) × (byte_at k f.waiting ≡ Some b))
    → Says segments f → Says (segments ++ seg ∷ []) f
says_known segments f seg known says = record {
  front = λ k less. said_append k segments (seg ∷ []) (get_or f.text k 0) (says.front k less);
  behind = λ k far.
      elim (which (covers k seg)) [
        | inl on ↦
            (let there = known k far on in
            let said : byte_at k segments ≡ Some there.0 = says.behind k far ∙ there.1 in
            said_append k segments (seg ∷ []) there.0 said ∙ sym there.1)
        | inr off ↦ unsaid_append k segments (seg ∷ []) (one_out k seg off) ∙ says.behind k far
      ];
}

-- a segment without bytes
pub says_bare : (segments : List Placed) (f : FlowText) (seg : Placed) → length seg.bytes ≡ 0 → Says segments f
    → Says (segments ++ seg ∷ []) f
says_bare segments f seg bare says =
    says_known segments f seg
    (λ k far on. let low = covers_low k seg on in let high = covers_high k seg on in absurd (omega (arith, low, high, bare))) says

-- a segment that ends within the text
pub says_old : (segments : List Placed) (f : FlowText) (seg : Placed) → end_of seg ≤ length f.text → Says segments f
    → Says (segments ++ seg ∷ []) f
says_old segments f seg old says =
    says_known segments f seg
    (λ k far on. let high = covers_high k seg on in absurd (omega (arith, far, high, old))) says

-- a segment whose places the waiting segments cover
pub says_covered : (segments : List Placed) (f : FlowText) (seg : Placed) (here stop : ℕ)
    → AreCovered seg.at here f.waiting → AreCovered stop (end_of seg) f.waiting → stop ≤ here
    → Says segments f → Says (segments ++ seg ∷ []) f
says_covered segments f seg here stop front back met says =
    says_known segments f seg
    (λ k far on. elim (lt_tells k here) [
      | inl before ↦
          (let there = front k (covers_low k seg on) before.1 in
          (get_or there.0.bytes (k - there.0.at) 0, rw there.1 refl))
      | inr behind ↦
          (let there = back k (omega (arith, behind.1, met)) (covers_high k seg on) in
          (get_or there.0.bytes (k - there.0.at) 0, rw there.1 refl))
    ]) says

-- a segment that waits
pub says_held : (segments : List Placed) (f : FlowText) (seg : Placed) → Says segments f
    → Says (segments ++ seg ∷ []) (record { start = f.start; text = f.text; waiting = f.waiting ++ seg ∷ [] })
says_held segments f seg says = record {
  front = λ k less. said_append k segments (seg ∷ []) (get_or f.text k 0) (says.front k less);
  behind = λ k far. same_append k segments f.waiting (seg ∷ []) (says.behind k far);
}

-- a segment that closes the gap, and the bytes up to the next one
pub says_joined : (segments : List Placed) (f : FlowText) (seg : Placed) (more : List ℕ) (kept : List Placed) (gap : ℕ)
    → seg.at ≤ length f.text → gap ≡ length f.text + length more
    → SaysFrom (f.waiting ++ seg ∷ []) (length f.text) more
    → find (covers (length f.text + length more)) (f.waiting ++ seg ∷ []) ≡ None
    → kept ≡ filter (λ s. nat_lt gap s.at) f.waiting → Says segments f
    → Says (segments ++ seg ∷ []) (record { start = f.start; text = f.text ++ more; waiting = kept })
says_joined segments f seg more kept gap low gap_is next none kept_is says =
    let whole = f.waiting ++ seg ∷ [] in
    let clear : find (covers gap) whole ≡ None = rw gap_is none in
    let apart = or_gap (find (covers gap) f.waiting) (find (covers gap) (seg ∷ []))
    (rw (sym (find-append (covers gap) f.waiting (seg ∷ []))) clear) in
    let ended : end_of seg ≤ gap = covers_not gap seg (one_gap gap seg apart.1) (omega (arith, low, gap_is)) in
    record {
      front = λ k less.
          elim (lt_tells k (length f.text)) [
            | inl p ↦ rw (get_or-append f.text more 0 k p.1) (said_append k segments (seg ∷ []) (get_or f.text k 0) (says.front k p.1))
            | inr p ↦
                (let there = same_append k segments f.waiting (seg ∷ []) (says.behind k p.1) in
                let inside : k - length f.text < length more = omega (arith, less, length-append f.text more) in
                let said = next (k - length f.text) inside in
                let place : length f.text + (k - length f.text) ≡ k = omega (arith, p.1) in
                let read : get_or (f.text ++ more) k 0 ≡ get_or more (k - length f.text) 0 =
                get_or-append_right f.text more (length f.text) k 0 refl p.1 in
                let here : byte_at k whole ≡ Some (get_or more (k - length f.text) 0) = rw place at said in
                rw read (there ∙ here))
          ];
      behind = λ k far.
          let past : gap ≤ k = omega (arith, far, gap_is, length-append f.text more) in
          let there = same_append k segments f.waiting (seg ∷ []) (says.behind k (omega (arith, past, gap_is))) in
          let out : covers k seg ≡ false = covers_behind k seg (omega (arith, ended, past)) in
          let unsaid = unsaid_append k f.waiting (seg ∷ []) (one_out k seg out) in
          let same : find (covers k) (filter (λ s. nat_lt gap s.at) f.waiting) ≡ find (covers k) f.waiting =
          find_filtered gap k f.waiting past apart.0 in
          let stays : byte_at k f.waiting ≡ byte_at k kept = rw (kept_is, same) refl in
          there ∙ unsaid ∙ stays;
    }

-- and its text ends at a gap
pub joined_tight : (waiting kept : List Placed) (seg : Placed) (gap : ℕ)
    → find (covers gap) (waiting ++ seg ∷ []) ≡ None → kept ≡ filter (λ s. nat_lt gap s.at) waiting
    → byte_at gap kept ≡ None
joined_tight waiting kept seg gap none kept_is =
    let apart = or_gap (find (covers gap) waiting) (find (covers gap) (seg ∷ []))
    (rw (sym (find-append (covers gap) waiting (seg ∷ []))) none) in
    let same : find (covers gap) (filter (λ s. nat_lt gap s.at) waiting) ≡ find (covers gap) waiting =
    find_filtered gap gap waiting (omega arith) apart.0 in
    rw (kept_is, same, apart.0) refl

-- the same, in whatever order they wait
pub says_put : (segments : List Placed) (f : FlowText) (seg : Placed) (waiting : List Placed)
    → ((k : ℕ) → byte_at k (f.waiting ++ seg ∷ []) ≡ byte_at k waiting) → Says segments f
    → Says (segments ++ seg ∷ []) (record { start = f.start; text = f.text; waiting = waiting })
says_put segments f seg waiting same says =
    let held = says_held segments f seg says in
    record { front = held.front; behind = λ k far. held.behind k far ∙ same k }

-- a segment that starts after the gap leaves it
pub held_tight : (waiting : List Placed) (seg : Placed) (gap : ℕ) → byte_at gap waiting ≡ None → gap < seg.at
    → byte_at gap (waiting ++ seg ∷ []) ≡ None
held_tight waiting seg gap none above =
    let out : covers gap seg ≡ false = covers_below gap seg above in
    unsaid_append gap waiting (seg ∷ []) (one_out gap seg out) ∙ none

-- no text of a flow is longer than another
no_longer : (segments : List Placed) (a b : List ℕ) → Assembled segments a → Assembled segments b → length b ≤ length a
no_longer segments a b first second =
    elim (lt_tells (length a) (length b)) [
      | inl p ↦ (let wrong : Some (get_or b (length a) 0) ≡ None = sym (second.covered (length a) p.1) ∙ first.longest in cc)
      | inr p ↦ p.1
    ]

-- the segments of a flow determine one text
pub one_text : (segments : List Placed) (a b : List ℕ) → Assembled segments a → Assembled segments b → a ≡ b
one_text segments a b first second =
    let short = no_longer segments a b first second in
    let long = no_longer segments b a second first in
    let same : length a ≡ length b = omega (arith, short, long) in
    ext_get_or 0 a b same (λ i less.
    let both : Some (get_or a i 0) ≡ Some (get_or b i 0) =
    sym (first.covered i less) ∙ second.covered i (omega (arith, same, less)) in
    cc)
