use Rattle.std.proofs.Common.{◌∷◌, [], ◌++◌, ap, sym, ◌∙◌, append-nil}
use Rattle.std.proofs.lemmas.Grind.{flat_map-append}
use Rattle.std.proofs.lemmas.List.Elements.{All-append}
use Rattle.std.specs.String.{string_bytes}
use Rattle.std.specs.List.{flat_map}
use Rattle.swimwatch.specs.Svg.{IsInert, in_xml}
use Rattle.swimwatch.proofs.chart.svg.escaped.Goals as goal

pub loop-byte-preserved : goal.loop-byte-preserved
loop-byte-preserved c = rw c.in_ok-push_byte.ensures.exact (
  All-append IsInert (string_bytes c.loop-byte.text) (in_xml c.in-Some.byte) c.loop-byte.invariant.0 c.push_byte.ensures.inert,
  ap (λ l. l ++ in_xml c.in-Some.byte) c.loop-byte.invariant.1
      ∙ sym (flat_map-append in_xml c.loop-byte.yielded (c.in-Some.byte ∷ []) ∙ ap
      (λ l. flat_map in_xml c.loop-byte.yielded ++ l) (append-nil (in_xml c.in-Some.byte))),
)
