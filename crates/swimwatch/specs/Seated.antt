-- What the views of several captures hear.
use Rattle.std.specs.Prelude.{◌≡◌, ℕ, zero, suc, Bool, true, false, not, ◌||◌, List, [], ◌∷◌, ◌++◌, ⊤}
use Rattle.capture.specs.Pcap.{RecordText}
use Rattle.memberlist_view.specs.Told.{ViewValue}
use Rattle.swimwatch.specs.declared.arguments.chosen.Verb.{Verb}
use Rattle.swimwatch.specs.declared.arguments.chosen.Verb.TheVariants.{Members, Timeline}
use Rattle.swimwatch.specs.declared.listening.seat.Seat.{Seat}
use Rattle.swimwatch.specs.declared.listening.setting.Setting.{Setting}
use Rattle.swimwatch.specs.Filtered.{Choice}
use Rattle.swimwatch.specs.Viewed.{HasHeard, HasEnded}

-- what several captures may have a view each for, unless they are merged
abbrev pub has_views : Verb → Bool
has_views Members = true
has_views Timeline = true
has_views other = false

abbrev pub is_merged : Setting → Bool
is_merged s = s.chosen.now.merge || not (has_views s.chosen.now.verb)

-- one view after the other has heard these records so far
abbrev pub EachHas : Choice → ViewValue → List (List RecordText) → List Seat → Type 0
EachHas s first [] [] = ⊤
EachHas s first [] (seat ∷ seats) = ⊥
EachHas s first (records ∷ heard) [] = ⊥
EachHas s first (records ∷ heard) (seat ∷ seats) =
    HasHeard s first records seat × EachHas s first heard seats

-- and what the connections carried that were open at the end
abbrev pub EachEnded : Choice → ViewValue → List (List RecordText) → List Seat → Type 0
EachEnded s first [] [] = ⊤
EachEnded s first [] (seat ∷ seats) = ⊥
EachEnded s first (records ∷ heard) [] = ⊥
EachEnded s first (records ∷ heard) (seat ∷ seats) =
    HasEnded s first records seat × EachEnded s first heard seats

-- one record more for the view at an index, which may be a new one
abbrev pub put : List (List RecordText) → ℕ → RecordText → List (List RecordText)
put [] view r = (r ∷ []) ∷ []
put (records ∷ heard) zero r = (records ++ r ∷ []) ∷ heard
put (records ∷ heard) (suc view) r = records ∷ put heard view r

-- there is a view if none heard a record
abbrev pub at_least_one : List (List RecordText) → List (List RecordText)
at_least_one [] = [] ∷ []
at_least_one (records ∷ heard) = records ∷ heard

-- the views have heard these records, or one more view has begun; one record more for the view at
-- this index is one more than these
abbrev pub HasView : Choice → ViewValue → List (List RecordText) → ℕ → List Seat → Type 0
HasView s first heard view seats = (now : List (List RecordText)) × EachHas s first now seats
    × ((r : RecordText) → put now view r ≡ put heard view r)

-- views that have heard the same, and may have printed more
abbrev pub AreAlike : List Seat → List Seat → Type 0
AreAlike [] [] = ⊤
AreAlike [] (new ∷ later) = ⊥
AreAlike (old ∷ seats) [] = ⊥
AreAlike (old ∷ seats) (new ∷ later) = (new.watch.listener.view ≡ old.watch.listener.view)
    × (new.traffic ≡ old.traffic) × AreAlike seats later
