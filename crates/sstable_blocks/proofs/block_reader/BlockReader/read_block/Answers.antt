use Rattle.std.proofs.Common.{subst}
use Rattle.sstable_blocks.specs.BlockReader.{ReadsBlock}
use Rattle.sstable_blocks.proofs.LeavingLaws.{reads-fewer, reads-again}
use Rattle.sstable_blocks.proofs.block_reader.BlockReader.read_block.Goals as goal

pub returns-clause-falls : goal.returns-clause-falls
returns-clause-falls c =
    reads-fewer c.args.self.now c.enter_block.new.self c.enter_block.result
    (subst (λ s. ReadsBlock s c.enter_block.new.self c.enter_block.result) c.leave_block.ensures c.enter_block.ensures.read)

pub returns-clause-for_good : goal.returns-clause-for_good
returns-clause-for_good c =
    reads-again c.args.self.now c.enter_block.new.self c.enter_block.result
    (subst (λ s. ReadsBlock s c.enter_block.new.self c.enter_block.result) c.leave_block.ensures c.enter_block.ensures.read)
