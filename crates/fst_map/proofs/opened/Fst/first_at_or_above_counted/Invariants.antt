use Rattle.std.proofs.Common.{◌-◌}
use Rattle.fst_map.proofs.Searching.{IsSought, IsCounted}
use Rattle.fst_map.proofs.opened.Fst.first_at_or_above_counted.Given as goal

abbrev pub invariant-loop-low : goal.invariant-loop-low
invariant-loop-low g l = record {
  sought : IsSought l.self l.key l.low l.high;
  counted : IsCounted l.len l.initial.steps l.steps (l.high - l.low);
}

abbrev pub decreases-loop-low : goal.decreases-loop-low
decreases-loop-low g l = l.high - l.low
