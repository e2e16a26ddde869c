use Rattle.std.proofs.Common.{arith}
use Rattle.sstable_values.proofs.VintLaws.{Progress-begin, Progress-more, Progress-end}
use Rattle.sstable_values.proofs.vint.serialize.Goals as goal

pub loop-rest-init : goal.loop-rest-init
loop-rest-init c = Progress-begin c.args.val c.args.buffer.now (omega arith) c.requires

pub loop-rest-preserved : goal.loop-rest-preserved
loop-rest-preserved c = Progress-more _ _ _ _ _ _ _ c.loop-rest.invariant (omega (arith, c.loop-rest.invariant.some)) c.loop-rest-test.true

pub bounds-buffer-len-2 : goal.bounds-buffer-len-2
bounds-buffer-len-2 c = let e = (Progress-end _ _ _ _ _ _ c.loop-rest.invariant c.loop-rest-test.false).0 in omega (arith, e, c.loop-rest.invariant.room)

pub returns-clause-within : goal.returns-clause-within
returns-clause-within c = let e = (Progress-end _ _ _ _ _ _ c.loop-rest.invariant c.loop-rest-test.false).0 in omega (arith, e)

pub returns-clause-written : goal.returns-clause-written
returns-clause-written c = (Progress-end _ _ _ _ _ _ c.loop-rest.invariant c.loop-rest-test.false).1

pub returns-clause-others : goal.returns-clause-others
returns-clause-others c = (Progress-end _ _ _ _ _ _ c.loop-rest.invariant c.loop-rest-test.false).2
