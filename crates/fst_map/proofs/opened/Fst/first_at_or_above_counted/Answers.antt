use Rattle.std.proofs.Common.{◌+◌, ◌-◌, ◌/◌, ◌<◌, ◌≤◌, ℕ, sym, subst, ◌∙◌, arith}
use Rattle.fst_map.proofs.Searching.{IsCounted, counted-more, sought-low, sought-high, sought-some, sought-none}
use Rattle.fst_map.proofs.opened.Fst.first_at_or_above_counted.Goals as goal

-- the upper half, without its first key, and the lower half are at most half
upper-half : (low high : ℕ) → low < high → high - (low + (high - low) / 2 + 1) + (high - (low + (high - low) / 2 + 1)) ≤ high - low
upper-half low high more = omega arith

lower-half : (low high : ℕ) → low < high → low + (high - low) / 2 - low + (low + (high - low) / 2 - low) ≤ high - low
lower-half low high more = omega arith

pub loop-low-preserved-then-is_below_at : goal.loop-low-preserved-then-is_below_at
loop-low-preserved-then-is_below_at g c =
    record {
      sought =
          sought-low c.args.self.now c.args.key.now c.loop-low.low c.loop-low.high (c.loop-low.low + (c.loop-low.high - c.loop-low.low) / 2) c.len-len.ensures.rising c.loop-low.invariant.sought
          (omega (arith, c.loop-low-test.true)) (sym c.is_below_at.ensures.below ∙ c.if-is_below_at.true);
      counted =
          subst (λ now. IsCounted c.len-len.result c.args.steps.now now (c.loop-low.high - (c.loop-low.low + (c.loop-low.high - c.loop-low.low) / 2 + 1))) (sym c.is_below_at.ensures.steps)
          (counted-more c.len-len.result c.args.steps.now c.loop-low.steps (c.loop-low.high - c.loop-low.low) (c.loop-low.high - (c.loop-low.low + (c.loop-low.high - c.loop-low.low) / 2 + 1)) c.loop-low.invariant.counted
          (omega (arith, c.loop-low-test.true)) (upper-half c.loop-low.low c.loop-low.high c.loop-low-test.true));
    }

pub loop-low-preserved : goal.loop-low-preserved
loop-low-preserved g c = record {
  sought =
      sought-high c.args.self.now c.args.key.now c.loop-low.low c.loop-low.high (c.loop-low.low + (c.loop-low.high - c.loop-low.low) / 2) c.len-len.ensures.rising c.loop-low.invariant.sought
      (omega arith) (omega (arith, c.loop-low-test.true)) (sym c.is_below_at.ensures.below ∙ c.if-is_below_at.false);
  counted =
      subst (λ now. IsCounted c.len-len.result c.args.steps.now now (c.loop-low.low + (c.loop-low.high - c.loop-low.low) / 2 - c.loop-low.low)) (sym c.is_below_at.ensures.steps)
      (counted-more c.len-len.result c.args.steps.now c.loop-low.steps (c.loop-low.high - c.loop-low.low) (c.loop-low.low + (c.loop-low.high - c.loop-low.low) / 2 - c.loop-low.low) c.loop-low.invariant.counted
      (omega (arith, c.loop-low-test.true)) (lower-half c.loop-low.low c.loop-low.high c.loop-low-test.true));
}

pub returns-then-low-len-clause-place : goal.returns-then-low-len-clause-place
returns-then-low-len-clause-place g c = sought-some c.args.self.now c.args.key.now c.loop-low.low c.loop-low.high c.loop-low.invariant.sought c.loop-low-test.false (omega (arith, c.if-low-len.true, c.len-len.ensures.count))

pub returns-else-low-len-clause-place : goal.returns-else-low-len-clause-place
returns-else-low-len-clause-place g c = sought-none c.args.self.now c.args.key.now c.loop-low.low c.loop-low.high c.loop-low.invariant.sought c.loop-low-test.false (omega (arith, c.if-low-len.false, c.len-len.ensures.count))
