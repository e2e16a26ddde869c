use Rattle.std.proofs.Common.{◌+◌, ◌-◌, ◌/◌, ap, sym, ◌∙◌, arith}
use Rattle.owned_bytes.specs.Keys.{is_below}
use Rattle.sstable_index.proofs.KeysKept.{between-begin, between-low, between-high, between-some, between-none}
use Rattle.sstable_index.proofs.key_list.KeyList.first_at_or_above.Goals as goal

pub halve-init : goal.halve-init
halve-init c = between-begin c.args.self.now c.args.key.now c.len-len.result c.len-len.ensures

pub halve-preserved-then-comes_before : goal.halve-preserved-then-comes_before
halve-preserved-then-comes_before c =
    between-low c.args.self.now c.args.key.now c.halve.low c.halve.high (c.halve.low + (c.halve.high - c.halve.low) / 2) c.requires c.halve.invariant (omega (arith, c.halve-test.true))
    (ap (λ key. is_below key c.args.key.now) (sym c.key.ensures) ∙ sym c.comes_before.ensures ∙ c.if-comes_before.true)

pub halve-preserved : goal.halve-preserved
halve-preserved c =
    between-high c.args.self.now c.args.key.now c.halve.low c.halve.high (c.halve.low + (c.halve.high - c.halve.low) / 2) c.requires c.halve.invariant (omega arith) (omega (arith, c.halve-test.true))
    (ap (λ key. is_below key c.args.key.now) (sym c.key.ensures) ∙ sym c.comes_before.ensures ∙ c.if-comes_before.false)

pub returns-then-low-len : goal.returns-then-low-len
returns-then-low-len c = between-some c.args.self.now c.args.key.now c.halve.low c.halve.high c.len-len.result c.halve.invariant c.halve-test.false c.len-len.ensures c.if-low-len.true

pub returns-else-low-len : goal.returns-else-low-len
returns-else-low-len c = between-none c.args.self.now c.args.key.now c.halve.low c.halve.high c.len-len.result c.halve.invariant c.halve-test.false c.len-len.ensures c.if-low-len.false
