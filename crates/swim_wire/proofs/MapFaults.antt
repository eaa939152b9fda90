-- Why a map is refused.
use Rattle.std.proofs.Common.{◌≡◌, ◌≢◌, ℕ, zero, suc, List, length, Option, Some, None, Result, refl, subst}
use Rattle.std.specs.Prelude.{slice_set}
use Rattle.swim_pack.specs.declared.fault.PackFault.{PackFault}
use Rattle.swim_pack.specs.declared.fault.PackFault.TheVariants as packs
use Rattle.swim_pack.specs.Composing.{◌>>=◌, gives, some_or, lift, lift_error}
use Rattle.swim_pack.specs.Reading.{uint_at, flag_at, raw_at, count_at}
use Rattle.swim_wire.specs.declared.fault.WireFault.{WireFault}
use Rattle.swim_wire.specs.declared.fault.WireFault.TheVariants.{Memory, NameEmpty, BadAddress, BadVersions, WrongType}
use Rattle.swim_wire.specs.declared.fault.WireFault.TheVariants.{BadState, TooManyNodes, UserTooLong, Trailing}
use Rattle.swim_wire.specs.declared.fault.WireFault.TheVariants.{UnknownKey, DuplicateKey}
use Rattle.swim_wire.specs.declared.layout.Limit.{Limit}
use Rattle.swim_wire.specs.declared.layout.Limit.TheVariants as limits
use Rattle.swim_wire.specs.Checks.{ReasonForPacket, ReasonForHeader, ReasonForState}
use Rattle.swim_wire.specs.Datagrams.{ReasonForDatagram}
use Rattle.swim_wire.specs.Fault.{fault_of_pack, fault_of_key}
use Rattle.swim_wire.specs.Layout.{Layout, Spelled}
use Rattle.swim_wire.specs.Layout.Spelled.{number, raw, flag}
use Rattle.swim_wire.specs.Reading.{Slots, slot, value_at, place_of, limit_at, if_vacant, key_at, pair_at, pairs_at, no_slots, map_at}
use Rattle.swim_wire.proofs.Readings.{refused, then_err, lift_err}
use Rattle.swim_wire.proofs.Keys.{found}

-- a refusal that comes neither from a check of the whole, nor from what surrounds a map
abbrev pub IsMapFault : WireFault → Type 0
IsMapFault NameEmpty = ⊥
IsMapFault BadAddress = ⊥
IsMapFault BadVersions = ⊥
IsMapFault (WrongType found) = ⊥
IsMapFault (BadState found) = ⊥
IsMapFault TooManyNodes = ⊥
IsMapFault UserTooLong = ⊥
IsMapFault Trailing = ⊥
IsMapFault error = Unit {0}

pub pack_fault : (pack : PackFault) → IsMapFault (fault_of_pack pack)
pack_fault packs.Ended = tt
pack_fault pack = tt

key_fault : (pack : PackFault) → IsMapFault (fault_of_key pack)
key_fault packs.TooLong = tt
key_fault pack = tt

pub lift_fault : {A : Type 0} (f : PackFault
    → WireFault) (r : Result (A × List ℕ) PackFault) (error : WireFault)
    → ((pack : PackFault) → IsMapFault (f pack))
    → lift_error f r ≡ refused A error → IsMapFault error
lift_fault f r error each e = let t = lift_err f r error e in rw t.1 (each t.0)

value_fault : (limit : Limit) (bytes : List ℕ) (error : WireFault) → value_at limit bytes ≡ refused Spelled error → IsMapFault error
unfolding value_at
value_fault (limits.Number max) bytes error e = then_err (lift fault_of_pack (uint_at max) bytes)
    (λ v. gives (number v)) error e (IsMapFault error)
    (λ first. lift_fault fault_of_pack (uint_at max bytes) error pack_fault first) (λ x mid ok other. absurd cc)
value_fault (limits.Raw limit) bytes error e = then_err (lift fault_of_pack (raw_at limit) bytes)
    (λ s. gives (raw s)) error e (IsMapFault error)
    (λ first. lift_fault fault_of_pack (raw_at limit bytes) error pack_fault first) (λ x mid ok other. absurd cc)
value_fault limits.Flag bytes error e = then_err (lift fault_of_pack flag_at bytes) (λ f. gives (flag f)) error e (IsMapFault error)
    (λ first. lift_fault fault_of_pack (flag_at bytes) error pack_fault first) (λ x mid ok other. absurd cc)

unknown_fault : (o : Option ℕ) (mid : List ℕ) (error : WireFault) → some_or UnknownKey o mid ≡ refused ℕ error → IsMapFault error
unknown_fault None mid error e = let is : UnknownKey ≡ error = cc in subst IsMapFault is tt
unknown_fault (Some place) mid error e = absurd cc

vacant_fault : (o : Option Spelled) (limit : Limit) (mid : List ℕ) (error : WireFault) → if_vacant o
    (value_at limit) mid ≡ refused Spelled error → IsMapFault error
vacant_fault None limit mid error e = value_fault limit mid error e
vacant_fault (Some value) limit mid error e = let is : DuplicateKey ≡ error = cc in subst IsMapFault is tt

pair_fault : (layout : Layout) (slots : Slots) (bytes : List ℕ) (error : WireFault)
    → pair_at layout slots bytes ≡ refused Slots error → IsMapFault error
unfolding pair_at key_at
pair_fault layout slots bytes error e =
    then_err (key_at layout bytes)
    (λ place. if_vacant (slot slots place) (value_at (limit_at layout place)) >>= (λ value. gives (slice_set slots place (Some value))))
    error e (IsMapFault error)
    (λ first. then_err (lift fault_of_key (raw_at 12) bytes)
    (λ key. some_or UnknownKey (place_of layout key)) error first (IsMapFault error)
    (λ key. lift_fault fault_of_key (raw_at 12 bytes) error key_fault key)
    (λ key mid ok unknown. unknown_fault (place_of layout key) mid error unknown))
    (λ place mid ok second. then_err (if_vacant (slot slots place) (value_at (limit_at layout place)) mid)
    (λ value. gives (slice_set slots place (Some value)))
    error second (IsMapFault error)
    (λ value. vacant_fault (slot slots place) (limit_at layout place) mid error value)
    (λ value rest ok other. absurd cc))

pairs_fault : (layout : Layout) (n : ℕ) (slots : Slots) (bytes : List ℕ) (error : WireFault)
    → pairs_at layout n slots bytes ≡ refused Slots error → IsMapFault error
unfolding pairs_at
pairs_fault layout zero slots bytes error e = absurd cc
pairs_fault layout (suc n) slots bytes error e = then_err (pair_at layout slots bytes) (pairs_at layout n) error e (IsMapFault error)
    (λ first. pair_fault layout slots bytes error first) (λ next mid ok more. pairs_fault layout n next mid error more)

-- why a map is refused
pub map_refusal : (layout : Layout) (bytes : List ℕ) (error : WireFault) → map_at layout bytes ≡ refused Slots error → IsMapFault error
unfolding map_at
map_refusal layout bytes error e = then_err (lift fault_of_pack (count_at (length layout)) bytes)
    (λ n. pairs_at layout n no_slots) error e (IsMapFault error)
    (λ first. lift_fault fault_of_pack (count_at (length layout) bytes) error pack_fault first)
    (λ n mid ok more. pairs_fault layout n no_slots mid error more)

-- so no reason says more of it
pub explained_by_map : (error : WireFault) (bytes : List ℕ) → error ≢ Memory → IsMapFault error
    → ReasonForPacket error bytes × ReasonForHeader error bytes × ReasonForState error bytes × ReasonForDatagram error bytes
explained_by_map NameEmpty bytes other h = absurd h
explained_by_map BadAddress bytes other h = absurd h
explained_by_map BadVersions bytes other h = absurd h
explained_by_map (WrongType found) bytes other h = absurd h
explained_by_map (BadState found) bytes other h = absurd h
explained_by_map TooManyNodes bytes other h = absurd h
explained_by_map UserTooLong bytes other h = absurd h
explained_by_map Trailing bytes other h = absurd h
explained_by_map Memory bytes other h = absurd (other refl)
explained_by_map error bytes other h = (tt, tt, tt, tt)
