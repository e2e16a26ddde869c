use Rattle.block_addresses.specs.Lines.{after_first}
use Rattle.block_addresses.proofs.Nearness.{line_for-near}
use Rattle.block_addresses.proofs.Cutting.{small-after_first}
use Rattle.block_addresses.proofs.line.line_for.Goals as goal

pub returns-clause-near : goal.returns-clause-near
returns-clause-near c = line_for-near (after_first c.args.numbers.now) (small-after_first c.args.numbers.now c.requires.few c.requires.low)
