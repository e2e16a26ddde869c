use Rattle.std.proofs.Common.{◌≡◌}
use Rattle.chosen_blocks.specs.Blocks.{rest_from}
use Rattle.chosen_blocks.proofs.blocks.next_needed.Given as goal

abbrev pub invariant-loop-number : goal.invariant-loop-number
invariant-loop-number g l =
    rest_from (g.A.Automaton.machine l.automaton) (g.I.BlockIndex.blocks l.index) l.from ≡ rest_from (g.A.Automaton.machine l.automaton) (g.I.BlockIndex.blocks l.index) l.number
