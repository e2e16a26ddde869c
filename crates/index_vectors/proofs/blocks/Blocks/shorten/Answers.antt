use Rattle.index_vectors.proofs.BlockLaws.{ends-shorter, short-shorter}
use Rattle.index_vectors.proofs.blocks.Blocks.shorten.Goals as goal

pub invariant_of-self : goal.invariant_of-self
invariant_of-self c = record {
  adjoin = ends-shorter c.args.self.now.builder c.shorten_last_block_key_given_next_key.new.self c.args.next.now c.args.self.now.end c.args.self.now.ordinal c.shorten_last_block_key_given_next_key.ensures c.args.self.now.adjoin;
  short = short-shorter c.args.self.now.builder c.shorten_last_block_key_given_next_key.new.self c.args.next.now c.shorten_last_block_key_given_next_key.ensures c.args.self.now.short;
}
