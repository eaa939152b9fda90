-- Refused pulls of inlets over memory, which leave all the bytes.
use Rattle.std.proofs.Common.{◌≡◌, ℕ, ◌<◌, ◌≤◌, Bool, true, false, List, [], ◌++◌, length, take, drop, Some, Result, Ok}
use Rattle.std.proofs.Common.{Err, refl, sym, ap, ◌∙◌, arith}
use Rattle.std.proofs.lemmas.List.{length-take-le, take-append-drop}
use Rattle.std.specs.Prelude.{OnErr, IsOk, IsTrue, MatchBool, ◌↔◌}
use Rattle.swim_pack.specs.declared.fault.PullFault.{PullFault}
use Rattle.swim_pack.specs.declared.fault.PullFault.TheVariants.{Ended, Fault}
use Rattle.swim_pack.specs.Ends.{Source, ConsumesSome, ConsumesCount}

-- bytes that stay are a suffix of themselves
pub ConsumesSome-kept : {A E : Type 0} (r : Result A E) (old new : List ℕ) → OnErr r (new ≡ old)
    → OnErr r (ConsumesSome (Some old) (Some new))
ConsumesSome-kept (Ok x) old new kept = tt
ConsumesSome-kept (Err error) old new kept = ([], sym kept)

-- if refused, fewer bytes are left
pub short_where_refused : {A E : Type 0} (r : Result A E) (error : E) (wanted left : ℕ)
    → (IsOk r ↔ (wanted ≤ left)) → r ≡ Err error → left < wanted
short_where_refused (Ok x) error wanted left enough e = absurd cc
short_where_refused (Err other) error wanted left enough e = let refused = enough.1 in grind arith

-- a pull with an empty buffer is never refused
pub ok_where_empty : {A : Type 0} (r : Result A PullFault) (wanted left calls : ℕ) →
    (r ≡ Err Fault ↔ (0 < wanted) × (calls ≤ 1)) → (r ≡ Err Ended → left < wanted) → wanted ≡ 0 → IsOk r
ok_where_empty (Ok x) wanted left calls stops ended none = refl
ok_where_empty (Err Ended) wanted left calls stops ended none = let short = ended refl in absurd (omega arith)
ok_where_empty (Err Fault) wanted left calls stops ended none = let room = (stops.0 refl).0 in absurd (omega arith)

-- a source with known bytes, which never failed
abbrev told : List ℕ → Source
told bytes = record { coming = Some bytes; faults = 0 }

-- count bytes are consumed if that many are left
pub passed_front : (b : Bool) (count : ℕ) (old new : List ℕ) → MatchBool b (new ≡ drop count old) (new ≡ old)
    → (IsTrue b ↔ (count ≤ length old))
    → MatchBool b (ConsumesCount (told old) (told new) count) (told new ≡ told old)
passed_front true count old new is enough =
    let long : count ≤ length old = enough.0 refl in (
      (
        take count old,
        length-take-le count old long,
        sym (take-append-drop count old) ∙ ap (λ (r : List ℕ). take count old ++ r) (sym is),
      ),
      refl,
    )
passed_front false count old new is enough = ap told is
