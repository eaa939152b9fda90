-- A map that is read: its count, and then its pairs, one after the other.
use Rattle.std.proofs.Common.{◌≡◌, ℕ, zero, suc, ◌-◌, ◌<◌, List, Option, Result, Ok, Err, subst, arith}
use Rattle.swim_pack.specs.Ends.{Source}
use Rattle.swim_pack.specs.Composing.{ReadsAs, same, lift, ◌>>=◌}
use Rattle.swim_pack.specs.Composing as composing
use Rattle.swim_pack.specs.Reading.{cause_of}
use Rattle.swim_pack.specs.declared.fault.PackFault.{PackFault}
use Rattle.swim_pack.proofs.Composing.{Reads-then, Reads-exit, Reads-gives}
use Rattle.swim_wire.specs.declared.fault.WireFault.{WireFault}
use Rattle.swim_wire.specs.declared.map.Value.{Value}
use Rattle.swim_wire.specs.Fault.{fault_of_pack}
use Rattle.swim_wire.specs.Layout.{Layout}
use Rattle.swim_wire.specs.Reading.{Reading, Slots, wire_cause, pair_at, pairs_at}
use Rattle.swim_wire.specs.Slots.{slots_of}
use Rattle.swim_wire.proofs.Lifting.{Wire-ok}

-- what completes the pairs from here on also completes the map
pub record Completes (start now : Source) (reading rest : Reading Slots) : Type 0 where
  pub by : (end : Source) (r : Result (List (Option Value)) WireFault) → ReadsAs wire_cause slots_of rest now end r
      → ReadsAs wire_cause slots_of reading start end r

pub Completes-start : (start now : Source) (first : composing.Reading PackFault ℕ) (n : ℕ) (next : ℕ → Reading Slots)
    → ReadsAs cause_of same first start now (Ok n) → Completes start now (lift fault_of_pack first >>= next) (next n)
Completes-start start now first n next p = record { by = λ end r q. Reads-then next (Wire-ok p) q }

-- one more pair
pub Completes-pair : {X : Type 0} {view : X → Slots} {x : X} (start now after : Source) (layout : Layout)
    (reading : Reading Slots) (left : ℕ) (slots : Slots) → 0 < left
    → Completes start now reading (pairs_at layout left slots) → ReadsAs wire_cause view (pair_at layout slots) now after (Ok x)
    → Completes start after reading (pairs_at layout (left - 1) (view x))
unfolding pairs_at
Completes-pair start now after layout reading zero slots pos c p = absurd (omega arith)
Completes-pair {view} {x} start now after layout reading (suc left) slots pos c p =
    let one : suc left - 1 ≡ left = omega arith in
    record {
      by = λ end r q. c.by end r (Reads-then (pairs_at layout left) p
          (subst (λ n. ReadsAs wire_cause slots_of (pairs_at layout n (view x)) after end r) one q));
    }

pub Completes-exit : {X : Type 0} {view : X → Slots} (start now after : Source) (layout : Layout) (reading : Reading Slots)
    (left : ℕ) (slots : Slots) (error : WireFault) → 0 < left
    → Completes start now reading (pairs_at layout left slots)
    → ReadsAs {X = X} wire_cause view (pair_at layout slots) now after (Err error)
    → ReadsAs {X = List (Option Value)} wire_cause slots_of reading start after (Err error)
unfolding pairs_at
Completes-exit start now after layout reading zero slots error pos c p = absurd (omega arith)
Completes-exit start now after layout reading (suc left) slots error pos c p = c.by after (Err error) (Reads-exit (pairs_at layout left) p)

pub Completes-end : (start now : Source) (layout : Layout) (reading : Reading Slots) (left : ℕ) (values : List (Option Value)) → left ≡ 0
    → Completes start now reading (pairs_at layout left (slots_of values)) → ReadsAs wire_cause slots_of reading start now (Ok values)
unfolding pairs_at
Completes-end start now layout reading zero values e c = c.by now (Ok values) (Reads-gives {view = slots_of} values)
Completes-end start now layout reading (suc left) values e c = absurd (omega arith)
