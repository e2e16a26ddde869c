use Rattle.std.proofs.Common.{ℕ, List, ◌≤◌, ◌≡◌, arith}
use Rattle.sstable_values.proofs.VintLaws.{vint-none, vint-spelled, Reads, Reads-begin, Reads-more, Reads-cut, Reads-end, Reads-large, Reads-fits, Reads-fits_last}
use Rattle.sstable_values.proofs.vint.deserialize_read.Goals as goal

-- the loop ends at the tenth group
at_ninth : (left i v s : ℕ) (bytes : List ℕ) → Reads left i v s bytes → 9 ≤ i → Reads left 9 v s bytes
at_ninth left i v s bytes p h =
    let ninth : i ≡ 9 = omega (arith, p.total, p.some) in
    rw ninth at p

pub loop-i-init : goal.loop-i-init
loop-i-init c = Reads-begin c.args.buf.now

pub loop-i-preserved : goal.loop-i-preserved
loop-i-preserved c = Reads-more _ _ _ _ _ _ c.loop-i.invariant (omega (arith, c.loop-i-test.true)) (omega (arith, c.loop-i-test.true)) (omega arith) (omega arith) (omega (arith, c.type_inv.buf c.loop-i.i))

pub returns-then-i-buf-clause-none : goal.returns-then-i-buf-clause-none
returns-then-i-buf-clause-none c = Reads-cut _ _ _ _ _ c.loop-i.invariant (omega arith)

pub returns-then-group-lt128-clause-found : goal.returns-then-group-lt128-clause-found
returns-then-group-lt128-clause-found c = Reads-end _ _ _ _ _ c.loop-i.invariant c.if-i-buf.false c.if-group-lt128.true (Reads-fits _ _ _ _ _ _ c.loop-i.invariant c.loop-i-test.true c.if-group-lt128.true)

pub returns-then-buf-lt10-clause-none : goal.returns-then-buf-lt10-clause-none
returns-then-buf-lt10-clause-none c = Reads-cut _ _ _ _ _ c.loop-i.invariant (omega arith)

pub returns-then-group-lt2-clause-found : goal.returns-then-group-lt2-clause-found
returns-then-group-lt2-clause-found c =
    let ninth = at_ninth _ _ _ _ _ c.loop-i.invariant c.loop-i-test.false in
    Reads-end _ _ _ _ _ ninth (omega (arith, c.if-buf-lt10.false)) (omega (arith, c.if-group-lt2.true)) (Reads-fits_last _ _ _ _ _ ninth c.if-group-lt2.true)

pub returns-else-group-lt2-clause-none : goal.returns-else-group-lt2-clause-none
returns-else-group-lt2-clause-none c = Reads-large _ _ _ _ (at_ninth _ _ _ _ _ c.loop-i.invariant c.loop-i-test.false) (omega (arith, c.if-buf-lt10.false)) c.if-group-lt2.false

pub returns-then-i-buf-clause-no_front : goal.returns-then-i-buf-clause-no_front
returns-then-i-buf-clause-no_front c front rest n = vint-none _ front rest n (returns-then-i-buf-clause-none c)

pub returns-then-group-lt128-clause-spelled : goal.returns-then-group-lt128-clause-spelled
returns-then-group-lt128-clause-spelled c = vint-spelled _ _ _ (λ i. omega (arith, c.type_inv.buf i)) (omega (arith, c.if-i-buf.false)) (returns-then-group-lt128-clause-found c)

pub returns-then-buf-lt10-clause-no_front : goal.returns-then-buf-lt10-clause-no_front
returns-then-buf-lt10-clause-no_front c front rest n = vint-none _ front rest n (returns-then-buf-lt10-clause-none c)

pub returns-then-group-lt2-clause-spelled : goal.returns-then-group-lt2-clause-spelled
returns-then-group-lt2-clause-spelled c = vint-spelled c.args.buf.now _ 10 (λ i. omega (arith, c.type_inv.buf i)) (omega (arith, c.if-buf-lt10.false)) (returns-then-group-lt2-clause-found c)

pub returns-else-group-lt2-clause-no_front : goal.returns-else-group-lt2-clause-no_front
returns-else-group-lt2-clause-no_front c front rest n = vint-none _ front rest n (returns-else-group-lt2-clause-none c)
