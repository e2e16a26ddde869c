use Rattle.std.proofs.Common.{◌≡◌, length, ◌∙◌, arith}
use Rattle.sstable_index.proofs.ReadingDeltas.{left-none}
use Rattle.sstable_index.proofs.run_v2.push_keys.Goals as goal

pub returns-clause-ok : goal.returns-clause-ok
returns-clause-ok c =
    let none : length c.deltas.rest.now ≡ 0 = grind arith in
    c.deltas.invariant.left ∙ left-none c.deltas.keys c.deltas.rest.now none
