-- User state that is dropped in pieces.
use Rattle.std.proofs.Common.{◌≡◌, ℕ, ◌+◌, ◌≤◌, List, length, Option, Some, None, refl, ap, ◌∙◌, length-append, arith}
use Rattle.std.specs.Io.KnownBytes.{Consumes}
use Rattle.swim_pack.specs.declared.fault.PullFault.{PullFault}
use Rattle.swim_pack.specs.declared.fault.PullFault.TheVariants as pulls
use Rattle.swim_pack.specs.Composing.{UnlessFailed}
use Rattle.swim_pack.specs.Ends.{Source, NoTextAtFront, IsShorter}
use Rattle.swim_wire.specs.Fault.{fault_of_pull}
use Rattle.swim_wire.specs.Reading.{wire_cause}

too_few : (a b : Option (List ℕ)) (faults len left size : ℕ) (bytes : List ℕ) → Consumes a b bytes
    → length bytes + left ≡ len → size ≤ left → IsShorter b size
    → NoTextAtFront (record { coming = a; faults = faults }) (λ b. length b ≡ len)
too_few None b faults len left size bytes gone sum le short = tt
too_few (Some all) None faults len left size bytes gone sum le short = absurd gone
too_few (Some all) (Some rest) faults len left size bytes gone sum le short = λ text behind long parts.
    let is_all : length all ≡ length bytes + length rest = ap length gone ∙ length-append bytes rest in
    let in_text : length all ≡ length text + length behind = ap length parts ∙ length-append text behind in
    omega (arith, is_all, in_text, long, sum, le, short)

-- the pull of a piece was refused
pub user_lacks : (a b : Source) (len left size : ℕ) (bytes : List ℕ) (pull : PullFault) → Consumes a.coming b.coming bytes
    → length bytes + left ≡ len → size ≤ left
    → (pull ≡ pulls.Ended → IsShorter b.coming size)
    → UnlessFailed (wire_cause (fault_of_pull pull)) (NoTextAtFront a (λ b. length b ≡ len))
user_lacks a b len left size bytes pulls.Ended gone sum le short = too_few a.coming b.coming a.faults len
    left size bytes gone sum le (short refl)
user_lacks a b len left size bytes pulls.Fault gone sum le short = tt
