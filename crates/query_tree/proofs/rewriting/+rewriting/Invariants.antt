use Rattle.std.proofs.Common.{◌≡◌, map}
use Rattle.query_tree.specs.Rewriting as spec
use Rattle.query_tree.proofs.rewriting.+rewriting.Given as goal

abbrev pub invariant-each_rewritten-loop-occur : goal.invariant-each_rewritten-loop-occur
invariant-each_rewritten-loop-occur l = l.done.items ≡ map (λ p. (p.0, spec.rewritten p.1)) l.yielded
