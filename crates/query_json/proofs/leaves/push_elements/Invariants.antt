use Rattle.std.proofs.Common.{◌≡◌, ◌++◌, map, take}
use Rattle.json.specs.Print.{quoted}
use Rattle.query_tree.specs.Json.{commas}
use Rattle.query_json.proofs.leaves.push_elements.Given as goal

abbrev pub invariant-loop-written : goal.invariant-loop-written
invariant-loop-written l = l.out ≡ l.initial.out ++ commas (map quoted (take l.written l.elements))
