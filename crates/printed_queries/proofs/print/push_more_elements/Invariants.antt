use Rattle.std.proofs.Common.{take}
use Rattle.std.specs.Prelude.{map}
use Rattle.std.specs.Str.{chars}
use Rattle.query_tree.specs.Printing.{more_elements}
use Rattle.printed_queries.specs.Escapes.{Writes}
use Rattle.printed_queries.proofs.print.push_more_elements.Given as goal

abbrev pub invariant-loop-text : goal.invariant-loop-text
invariant-loop-text l = Writes l.initial.out l.out (more_elements (map chars (take l.text-index l.texts)))
