-- A view that begins with the records of a table.
use Rattle.std.proofs.Common.{◌≡◌, ℕ, List, [], ◌∷◌, ◌++◌, refl}
use Rattle.swim_claim.specs.declared.claim.Claim.{Claim}
use Rattle.memberlist_view.specs.Told.{ViewValue, view_after}
use Rattle.swimwatch.specs.Viewed.{begin_with, said_at_start}

-- with one record more
pub begin_more : (time : ℕ) (view : ViewValue) (past : List Claim) (c : Claim)
    → begin_with time view (past ++ c ∷ []) ≡ view_after (begin_with time view past) (record { time = time; said = said_at_start c })
begin_more time view [] c = refl
begin_more time view (first ∷ past) c =
    begin_more time (view_after view (record { time = time; said = said_at_start first })) past c
