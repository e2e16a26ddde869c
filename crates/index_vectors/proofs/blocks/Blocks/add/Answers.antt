use Rattle.std.proofs.Common.{arith}
use Rattle.index_vectors.proofs.BlockLaws.{ends-more, short-more}
use Rattle.index_vectors.proofs.blocks.Blocks.add.Goals as goal

pub invariant_of-self-2 : goal.invariant_of-self-2
invariant_of-self-2 c = record {
  adjoin = ends-more c.args.self.now.builder c.add_block.new.self c.args.key.now c.args.self.now.end c.in-Some.end c.args.self.now.ordinal c.in-Some-checked_add.ordinal c.in_ok-add_block.ensures.ok
      (omega (arith, c.in-Some-checked_add.ensures)) (omega (arith, c.in-Some-checked_add.ensures, c.ranges.keys.fits));
  short = short-more c.args.self.now.builder c.add_block.new.self c.args.key.now _ c.in_ok-add_block.ensures.ok c.args.self.now.short (omega (arith, c.if-key-gt65535.false));
}
