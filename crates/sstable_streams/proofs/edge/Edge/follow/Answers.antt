use Rattle.std.proofs.Common.{sym, ◌∙◌}
use Rattle.sstable_streams.specs.Bounds.{bound_key}
use Rattle.sstable_streams.specs.Between.{target_of}
use Rattle.sstable_streams.proofs.EdgeLaws.{stays-above, is-greater}
use Rattle.sstable_streams.proofs.edge.Edge.follow.Goals as goal

pub returns-then-eq-clause-beside : goal.returns-then-eq-clause-beside
returns-then-eq-clause-beside c last beside comes =
    stays-above (target_of (bound_key c.args.self.now.bound)) last c.args.keep c.args.suffix.now c.args.self.now.order c.args.self.now.comparator _ (is-greater c.args.self.now.order (sym c.eq.ensures ∙ c.if-eq.true)) beside comes
