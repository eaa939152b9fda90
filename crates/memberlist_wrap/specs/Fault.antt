-- The numbers of faults, and where the reading of compressed bytes stops.
use Rattle.std.specs.Prelude.{◌≢◌, ℕ, ◌<◌, ◌≤◌, List, length}
use Rattle.memberlist_wrap.specs.declared.fault.WrapFault.{WrapFault}
use Rattle.memberlist_wrap.specs.declared.fault.WrapFault.TheVariants.{Ended, Trailing, BadCode, BadChecksum, BadMap}
use Rattle.memberlist_wrap.specs.declared.fault.WrapFault.TheVariants.{BadAlgo, BadLabel, TooLarge, TooDeep, Memory}
use Rattle.memberlist_wrap.specs.Lzw.{NextCode, width, StandsFor, CodesGive}

-- the number of a fault in reports
abbrev pub wrap_number : WrapFault → ℕ
wrap_number Ended = 40
wrap_number Trailing = 41
wrap_number BadCode = 42
wrap_number BadChecksum = 43
wrap_number BadMap = 44
wrap_number BadAlgo = 45
wrap_number BadLabel = 46
wrap_number TooLarge = 47
wrap_number TooDeep = 48
wrap_number Memory = 49

-- ---- a compression

-- Where the reading of codes stops: too few bits for another one; the last code and 8 bits or more
-- after it; a code that is not in the dictionary; or more bytes than the limit.
abbrev pub CodesStopAt : ℕ → WrapFault → List ℕ → List (List ℕ) → List ℕ → Type 0
CodesStopAt limit Ended out words rest = length rest < width (length words)
CodesStopAt limit Trailing out words rest = (more : List ℕ) × NextCode words rest 257 more
    × (8 ≤ length more)
CodesStopAt limit BadCode out words rest =
    (code : ℕ) × (more : List ℕ) × NextCode words rest code more × (code ≢ 256) × (code ≢ 257)
    × ((word : List ℕ) → ¬ StandsFor words code word)
CodesStopAt limit TooLarge out words rest = limit < length out
CodesStopAt limit fault out words rest = ⊥

-- what a refusal says about bytes that are not a compression within the limit
pub record ReasonForLzw (limit : ℕ) (fault : WrapFault) (bytes : List ℕ) : Type 0 where
  pub out : List ℕ
  pub words : List (List ℕ)
  pub rest : List ℕ
  pub reaches : CodesGive bytes out words rest
  pub stops : CodesStopAt limit fault out words rest
