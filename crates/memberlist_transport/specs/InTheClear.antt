-- What becomes of what is not encrypted.
use Rattle.std.specs.Prelude.{◌≡◌, ℕ, List, []}
use Rattle.memberlist_transport.specs.declared.in_the_clear.InTheClear.{InTheClear}
use Rattle.memberlist_transport.specs.declared.in_the_clear.InTheClear.TheVariants.{Refused, Accepted}

-- what is in the clear is read: there are no keys, or it is accepted
abbrev pub AcceptsClear : InTheClear → List (List ℕ) → Type 0
AcceptsClear Refused keys = keys ≡ []
AcceptsClear Accepted keys = Unit {0}
