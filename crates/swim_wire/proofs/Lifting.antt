-- Reads of the layer below.
use Rattle.std.proofs.Common.{◌≡◌, ◌≤◌, ℕ, [], Ok, Err, refl}
use Rattle.swim_pack.specs.Ends.{Source, IsShorter, CountsFault, ConsumesSome}
use Rattle.swim_pack.specs.Composing.{ReadsAs, lift, same}
use Rattle.swim_pack.specs.Composing as composing
use Rattle.swim_pack.specs.Reading.{cause_of, next_byte}
use Rattle.swim_pack.specs.Numbers.{pack_fault}
use Rattle.swim_pack.specs.declared.fault.PullFault.{PullFault}
use Rattle.swim_pack.specs.declared.fault.PullFault.TheVariants as pulls
use Rattle.swim_pack.specs.declared.fault.PackFault.{PackFault}
use Rattle.swim_pack.specs.declared.fault.PackFault.TheVariants.{Ended, NotUnsigned, OutOfRange, NotBool, NotRaw}
use Rattle.swim_pack.specs.declared.fault.PackFault.TheVariants.{TooLong, NotMap, MapCount, Fault, Memory}
use Rattle.swim_pack.proofs.Composing.{Reads-lift}
use Rattle.swim_pack.proofs.Pulls.{Reads-no_byte, Reads-refused}
use Rattle.swim_wire.specs.Fault.{fault_of_pack, fault_of_key, fault_of_pull}
use Rattle.swim_wire.specs.Reading.{wire_cause}

pub same_cause : (fault : PackFault) → wire_cause (fault_of_pack fault) ≡ cause_of fault
same_cause Ended = refl
same_cause NotUnsigned = refl
same_cause OutOfRange = refl
same_cause NotBool = refl
same_cause NotRaw = refl
same_cause TooLong = refl
same_cause NotMap = refl
same_cause MapCount = refl
same_cause Fault = refl
same_cause Memory = refl

pub same_cause_of_key : (fault : PackFault) → wire_cause (fault_of_key fault) ≡ cause_of fault
same_cause_of_key Ended = refl
same_cause_of_key NotUnsigned = refl
same_cause_of_key OutOfRange = refl
same_cause_of_key NotBool = refl
same_cause_of_key NotRaw = refl
same_cause_of_key TooLong = refl
same_cause_of_key NotMap = refl
same_cause_of_key MapCount = refl
same_cause_of_key Fault = refl
same_cause_of_key Memory = refl

-- a value that the layer below read
pub Wire-ok : {X V : Type 0} {view : X → V} {reading : composing.Reading PackFault V} {a b : Source} {x : X}
    → ReadsAs cause_of view reading a b (Ok x) → ReadsAs wire_cause view (lift fault_of_pack reading) a b (Ok x)
Wire-ok p = Reads-lift wire_cause fault_of_pack same_cause p

-- its refusal
pub Wire-err : {X V : Type 0} {view : X → V} {reading : composing.Reading PackFault V} {a b : Source} {error : PackFault}
    → ReadsAs {X = X} cause_of view reading a b (Err error)
    → ReadsAs {X = X} wire_cause view (lift fault_of_pack reading) a b (Err (fault_of_pack error))
Wire-err p = Reads-lift wire_cause fault_of_pack same_cause p

told_pull : (pull : PullFault) → fault_of_pack (pack_fault pull) ≡ fault_of_pull pull
told_pull pulls.Ended = refl
told_pull pulls.Fault = refl

-- a byte that was not pulled
pub Wire-pulled : {a b : Source} (pull : PullFault) → (pull ≡ pulls.Ended → IsShorter a.coming 1)
    → (pull ≡ pulls.Fault → CountsFault a.faults b.faults)
    → ConsumesSome a.coming b.coming → a.faults ≤ b.faults
    → ReadsAs {X = ℕ} wire_cause same (lift fault_of_pack next_byte) a b (Err (fault_of_pull pull))
Wire-pulled {a} {b} pull short rose over stay =
    rw (← told_pull pull) (Wire-err (Reads-no_byte {X = Unit {0}} {view = λ _. []} (Reads-refused 1 pull short rose over stay)))

-- a key that the layer below read, or its refusal
pub Key-ok : {X V : Type 0} {view : X → V} {reading : composing.Reading PackFault V} {a b : Source} {x : X}
    → ReadsAs cause_of view reading a b (Ok x) → ReadsAs wire_cause view (lift fault_of_key reading) a b (Ok x)
Key-ok p = Reads-lift wire_cause fault_of_key same_cause_of_key p

pub Key-err : {X V : Type 0} {view : X → V} {reading : composing.Reading PackFault V} {a b : Source} {error : PackFault}
    → ReadsAs {X = X} cause_of view reading a b (Err error)
    → ReadsAs {X = X} wire_cause view (lift fault_of_key reading) a b (Err (fault_of_key error))
Key-err p = Reads-lift wire_cause fault_of_key same_cause_of_key p
