use Rattle.std.proofs.Common.{◌≡◌, ◌++◌, map, take}
use Rattle.query_tree.specs.Json.{commas}
use Rattle.query_json.specs.Pieces.{pair_json}
use Rattle.query_json.proofs.trees.+writing.Given as goal

abbrev pub invariant-push_pairs-loop-written : goal.invariant-push_pairs-loop-written
invariant-push_pairs-loop-written l = l.out ≡ l.initial.out ++ commas (map pair_json (take l.written l.pairs))
