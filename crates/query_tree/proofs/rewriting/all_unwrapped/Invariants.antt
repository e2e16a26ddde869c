use Rattle.std.proofs.Common.{◌≡◌, map}
use Rattle.query_tree.specs.Rewriting as spec
use Rattle.query_tree.proofs.rewriting.all_unwrapped.Given as goal

abbrev pub invariant-loop-occur : goal.invariant-loop-occur
invariant-loop-occur l = l.done.items ≡ map spec.unwrapped l.yielded
