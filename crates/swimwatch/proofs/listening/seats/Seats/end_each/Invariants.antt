use Rattle.std.proofs.Common.{◌≡◌, List, length}
use Rattle.capture.specs.Pcap.{RecordText}
use Rattle.swimwatch.specs.Seated.{EachHas}
use Rattle.swimwatch.specs.Viewed.{choice_in, first_view}
use Rattle.swimwatch.proofs.Seats.{Ending}
use Rattle.swimwatch.proofs.listening.seats.Seats.end_each.Given as goal

abbrev pub invariant-loop-index : goal.invariant-loop-index
invariant-loop-index l = (l.self.setting ≡ l.initial.self.setting)
    × (length l.self.seats.items ≡ length l.initial.self.seats.items)
    × ((heard : List (List RecordText))
    → EachHas (choice_in l.initial.self.setting) (first_view l.initial.self.setting) heard l.initial.self.seats.items
    → Ending (choice_in l.initial.self.setting) (first_view l.initial.self.setting) l.index heard l.self.seats.items)
