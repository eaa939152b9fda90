use Rattle.std.proofs.Common.{◌≡◌, ℕ, List, length}
use Rattle.capture.specs.Pcap.{RecordText}
use Rattle.swimwatch.specs.Yielded.{AreHeard, HearsSources}
use Rattle.swimwatch.proofs.input.captures.read_until.Given as goal

abbrev pub invariant-loop : goal.invariant-loop
invariant-loop l = (l.views.seats.setting ≡ l.initial.views.seats.setting)
    × ((heard : List (List RecordText)) → AreHeard l.initial.views heard → (read : List (ℕ × RecordText))
    × (now : List (List RecordText)) × (length read ≡ l.counter)
    × HearsSources l.initial.views.seats.setting.window l.time l.initial.sources heard read l.sources now
    × AreHeard l.views now)
