use Rattle.std.proofs.Common.{◌≡◌, ◌-◌, drop}
use Rattle.block_addresses.specs.Written.{steps_upto}
use Rattle.block_addresses.proofs.writing.steps_upto.Given as goal

abbrev pub invariant-loop-i : goal.invariant-loop-i
invariant-loop-i l = steps_upto l.most (drop (l.i - 1) l.numbers) ≡ steps_upto l.most l.numbers
