-- What a handle holds may go to another thread if a box of it may: a box owns the same (`Box-send`), and an empty handle nothing.
use Rattle.std.proofs.Common.{[], Bool, true, false, Option, Some, None}
use base.Shift.{Keyless}
use denote.Param.Send.{IsSend}
use denote.RattleType.{RattleType}
use denote.RawPtr.{Ptr}
use Rattle.std.proofs.Crossing.{Box-send}
use Rattle.swim_c.specs.Handle.{holds, heap}

pub holds_keyless : (X : RattleType) → IsSend X → (p : Ptr) (y : Bool) (n : Option X.Denot) → Keyless (holds X p y n)
holds_keyless X send p true (Some x) = ((Box-send X send).owned (record { ptr = p; alloc = heap; value = x }) []).1
holds_keyless X send p false None = tt
holds_keyless X send p true None = tt
holds_keyless X send p false (Some x) = tt
