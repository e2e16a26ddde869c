use Rattle.common_wire.proofs.ShortVints.{ShortRead-more, ShortRead-cut, ShortRead-found, ShortRead-none, ShortRead-long}
use Rattle.common_wire.proofs.VintLaws.{GroupsRead-vint32}
use Rattle.common_wire.proofs.u32_vint.u32_vint_at.Goals as goal

pub loop-i-init : goal.loop-i-init
loop-i-init c = GroupsRead-vint32 _

pub returns-then-i-bytes-clause-none : goal.returns-then-i-bytes-clause-none
returns-then-i-bytes-clause-none c = ShortRead-cut _ _ _ _ c.loop-i.invariant c.loop-i-test.true c.if-i-bytes.true

pub returns-then-group-ge128-clause-found : goal.returns-then-group-ge128-clause-found
returns-then-group-ge128-clause-found c = ShortRead-found _ _ _ _ c.fitting.result c.loop-i.invariant c.loop-i-test.true c.if-i-bytes.false c.if-group-ge128.true c.fitting.ensures.some

pub returns-then-group-ge128-clause-none : goal.returns-then-group-ge128-clause-none
returns-then-group-ge128-clause-none c = ShortRead-none _ _ _ _ c.fitting.result c.loop-i.invariant c.loop-i-test.true c.if-i-bytes.false c.if-group-ge128.true c.fitting.ensures.none

pub loop-i-preserved : goal.loop-i-preserved
loop-i-preserved c = ShortRead-more _ _ _ _ c.loop-i.invariant c.loop-i-test.true c.if-i-bytes.false c.if-group-ge128.false

pub returns-clause-none : goal.returns-clause-none
returns-clause-none c = ShortRead-long _ _ _ _ c.loop-i.invariant c.loop-i-test.false
