use Rattle.std.proofs.Common.{◌≡◌}
use Rattle.std.specs.List.{All, flat_map}
use Rattle.std.specs.String.{string_bytes}
use Rattle.swimwatch.specs.Svg.{IsInert, in_xml}
use Rattle.swimwatch.proofs.chart.svg.escaped.Given as goal

abbrev pub invariant-loop-byte : goal.invariant-loop-byte
invariant-loop-byte l = All IsInert (string_bytes l.text) × (string_bytes l.text ≡ flat_map in_xml l.yielded)
