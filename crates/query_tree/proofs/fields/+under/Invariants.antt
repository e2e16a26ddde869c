use Rattle.std.proofs.Common.{◌≡◌, map}
use Rattle.query_tree.specs.Rewriting as rewriting
use Rattle.query_tree.proofs.fields.+under.Given as goal

abbrev pub invariant-pairs_under_field-loop-occur : goal.invariant-pairs_under_field-loop-occur
invariant-pairs_under_field-loop-occur l = l.done ≡ map (λ p. (p.0, rewriting.under_field l.name p.1)) l.yielded
