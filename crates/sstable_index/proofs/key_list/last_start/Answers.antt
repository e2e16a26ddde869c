use Rattle.std.proofs.Common.{refl, arith}
use Rattle.sstable_index.proofs.KeysKept.{begins-none, begins-last}
use Rattle.sstable_index.proofs.key_list.last_start.Goals as goal

pub returns-then-count-eq0 : goal.returns-then-count-eq0
returns-then-count-eq0 c = begins-none c.args.starts.now c.args.len c.args.len c.if-count-eq0.true refl

pub returns-else-count-eq0 : goal.returns-else-count-eq0
returns-else-count-eq0 c = begins-last c.args.starts.now c.args.len _ _ refl (omega (arith, c.if-count-eq0.false)) refl
