use Rattle.std.proofs.Common.{map, take}
use Rattle.std.specs.List.{join_with_byte}
use Rattle.std.specs.Fmt.{HasWritten, IsPlainFormatter}
use Rattle.query_tree.specs.Texts.{in_quotes}
use Rattle.query_tree.proofs.showing.show_elements.Given as goal

abbrev pub invariant-loop-shown : goal.invariant-loop-shown
invariant-loop-shown g l =
    IsPlainFormatter l.initial.f → HasWritten g.W.Write.write_str_gives l.initial.f (join_with_byte 32 (map in_quotes (take l.shown l.elements))) l.f
