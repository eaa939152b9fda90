-- Readings of messages that consume only what determines their result.
use Rattle.std.proofs.Common.{ℕ, zero, suc, length, Option, Some, None, Result, Ok, Err, ◌==◌}
use Rattle.swim_pack.proofs.Prompt.{IsPrompt, prompt-then, prompt-gives, prompt-refuses, prompt-some_or, prompt-if}
use Rattle.swim_pack.proofs.Prompt.{prompt-lift, prompt-first, prompt-uint, prompt-count, prompt-raw, prompt-flag}
use Rattle.swim_wire.specs.declared.fault.WireFault.{WireFault}
use Rattle.swim_wire.specs.declared.layout.Limit.{Limit}
use Rattle.swim_wire.specs.declared.layout.Limit.TheVariants as limits
use Rattle.swim_wire.specs.Fault.{fault_of_pack, fault_of_key}
use Rattle.swim_wire.specs.Layout.{Layout, Spelled, header_layout, state_layout}
use Rattle.swim_wire.specs.Reading.{Reading, wire_cause, Slots, slot, value_at, limit_at, if_vacant, key_at, pair_at}
use Rattle.swim_wire.specs.Reading.{pairs_at, no_slots, map_at, checked, header_of, header_at, state_of, state_at}
use Rattle.swim_wire.proofs.Lifting.{same_cause, same_cause_of_key}

prompt-value : (limit : Limit) → IsPrompt wire_cause (value_at limit)
unfolding value_at
prompt-value (limits.Number max) = prompt-then (prompt-lift fault_of_pack same_cause (prompt-uint max)) (λ v. prompt-gives _)
prompt-value (limits.Raw limit) = prompt-then (prompt-lift fault_of_pack same_cause (prompt-raw limit)) (λ s. prompt-gives _)
prompt-value limits.Flag = prompt-then (prompt-lift fault_of_pack same_cause prompt-flag) (λ f. prompt-gives _)

prompt-key : (layout : Layout) → IsPrompt wire_cause (key_at layout)
unfolding key_at
prompt-key layout = prompt-then (prompt-lift fault_of_key same_cause_of_key (prompt-raw 12)) (λ key. prompt-some_or _ _)

prompt-vacant : {A : Type 0} (o : Option Spelled) {reading : Reading A} → IsPrompt wire_cause reading
    → IsPrompt wire_cause (if_vacant o reading)
prompt-vacant None p = p
prompt-vacant (Some value) p = prompt-refuses _

prompt-pair : (layout : Layout) (slots : Slots) → IsPrompt wire_cause (pair_at layout slots)
unfolding pair_at
prompt-pair layout slots =
    prompt-then (prompt-key layout) (λ place. prompt-then
    (prompt-vacant (slot slots place) (prompt-value (limit_at layout place)))
    (λ value. prompt-gives _))

prompt-pairs : (layout : Layout) (n : ℕ) (slots : Slots) → IsPrompt wire_cause (pairs_at layout n slots)
unfolding pairs_at
prompt-pairs layout zero slots = prompt-gives slots
prompt-pairs layout (suc n) slots = prompt-then (prompt-pair layout slots) (prompt-pairs layout n)

prompt-map : (layout : Layout) → IsPrompt wire_cause (map_at layout)
unfolding map_at
prompt-map layout = prompt-then (prompt-lift fault_of_pack same_cause (prompt-count (length layout))) (λ n. prompt-pairs layout n no_slots)

prompt-checked : {A : Type 0} (r : Result A WireFault) → IsPrompt wire_cause (checked r)
prompt-checked (Ok x) = prompt-gives x
prompt-checked (Err fault) = prompt-refuses fault

pub prompt-state : IsPrompt wire_cause state_at
unfolding state_at
prompt-state = prompt-then (prompt-map state_layout) (λ slots. prompt-checked (state_of slots))

pub prompt-header : IsPrompt wire_cause header_at
unfolding header_at
prompt-header =
    prompt-then (prompt-lift fault_of_pack same_cause prompt-first)
    (λ first. prompt-then (prompt-if (first == 6) (prompt-map header_layout) (prompt-refuses _))
    (λ slots. prompt-checked (header_of slots)))
