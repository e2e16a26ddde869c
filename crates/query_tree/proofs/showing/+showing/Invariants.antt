use Rattle.std.proofs.Common.{map, take}
use Rattle.std.specs.List.{join_with_byte}
use Rattle.std.specs.Fmt.{HasWritten, IsPlainFormatter}
use Rattle.query_tree.specs.Texts.{whole_pair}
use Rattle.query_tree.proofs.showing.+showing.Given as goal

abbrev pub invariant-show_pairs-loop-shown : goal.invariant-show_pairs-loop-shown
invariant-show_pairs-loop-shown g l =
    IsPlainFormatter l.initial.f → HasWritten g.W.Write.write_str_gives l.initial.f (join_with_byte 32 (map whole_pair (take l.shown l.pairs))) l.f
