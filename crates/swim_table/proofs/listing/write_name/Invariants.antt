use Rattle.std.proofs.Common.{◌≡◌, ◌++◌}
use Rattle.percent_encoding.specs.Percent.{percent_encode}
use Rattle.percent_encoding.specs.Iter.{encoded_text}
use Rattle.swim_table.specs.declared.listing.TheConstants.{ESCAPED}
use Rattle.swim_table.proofs.listing.write_name.Given as goal

abbrev pub invariant-loop-part : goal.invariant-loop-part
invariant-loop-part l = l.text.items ++ encoded_text l.part-iterator ≡ l.fn.text.items ++ percent_encode ESCAPED l.fn.name
