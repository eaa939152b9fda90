-- Filling buffers of the library, and why one is not filled.
use Rattle.std.proofs.Common.{◌≡◌, ℕ, List, inl, inr, refl, sym, subst}
use Rattle.swim_table.specs.declared.fault.EncodeFault.{EncodeFault}
use Rattle.swim_table.specs.declared.fault.EncodeFault.TheVariants as encode
use Rattle.swim_table.specs.Fault.{encode_number}
use Rattle.swim_table.specs.Table.{Entries}
use Rattle.swim_c.specs.declared.buffer.Buffer.{Buffer}
use Rattle.swim_c.specs.Forms.{Wanted, HasTooManyIn}
use Rattle.swim_c.specs.NewBytes.{HasBytes, FilledOr, IsUndumped}

pub filled : (bytes kept : List ℕ) (old new : Buffer) (Refused : ℕ → Type 0) → kept ≡ bytes
    → HasBytes kept new → FilledOr bytes old new 0 Refused
filled bytes kept old new Refused is has = FilledOr.filled refl (subst (λ (b : List ℕ). HasBytes b new) is has)

-- no dump was made
undumped : (form : Wanted) (table : Entries) (bytes : List ℕ) (buffer : Buffer) (fault : EncodeFault)
    → (fault ≡ encode.TooManyRecords → HasTooManyIn form table)
    → FilledOr bytes buffer buffer (encode_number fault) (IsUndumped form table)
undumped form table bytes buffer encode.TooManyRecords many = FilledOr.refused (inl (refl, many refl)) refl
undumped form table bytes buffer encode.Memory many = FilledOr.refused (inr refl) refl

pub unfilled : (form : Wanted) (table : Entries) (bytes : List ℕ) (buffer : Buffer) (fault : EncodeFault)
    (status : ℕ) → status ≡ encode_number fault
    → (fault ≡ encode.TooManyRecords → HasTooManyIn form table) → FilledOr bytes buffer buffer status (IsUndumped form table)
unfilled form table bytes buffer fault status is many =
    subst (λ (n : ℕ). FilledOr bytes buffer buffer n (IsUndumped form table)) (sym is) (undumped form table bytes buffer fault many)
