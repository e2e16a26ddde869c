use Rattle.std.proofs.Common.{◌≡◌, ℕ, List, ◌+◌, ◌-◌, ◌/◌, ◌%◌, length, take, arith, ap, ◌∙◌, sym, ◌<◌, ◌≤◌, length-take-le}
use Rattle.std.specs.Prelude.{slice_set}
use Rattle.std.proofs.Math.ListN.{length-set}
use Rattle.common_wire.specs.Wire.{group_bytes}
use Rattle.common_wire.proofs.SevenBits.{Progress, Progress-more, Progress-end}
use Rattle.common_wire.proofs.groups.put_groups.Goals as goal

-- what is left of the buffer falls by one
left_is : (b : List ℕ) (i v : ℕ) → length b - i - 1 ≡ length (slice_set b i v) - (i + 1)
left_is b i v = let same : length (slice_set b i v) ≡ length b = simp length-set in omega (arith, same)

one_more : (val len rest low high : ℕ) (buffer : List ℕ) → Progress val (length buffer - len) len rest buffer → 128 ≤ rest → low ≡ rest % 128 → high ≡ rest / 128
    → Progress val (length (slice_set buffer len low) - (len + 1)) (len + 1) high (slice_set buffer len low)
one_more val len rest low high buffer p long low_is high_is =
    let left = length buffer - len in
    let more = Progress-more val left (left - 1) len rest buffer p (omega (arith, p.some)) long in
    rw (low_is, high_is, ← left_is buffer len (rest % 128)) more

last_one : (val len rest low n : ℕ) (buffer : List ℕ) → Progress val (length buffer - len) len rest buffer → rest < 128 → low ≡ rest % 128 → length buffer ≡ n
    → take (len + 1) (slice_set buffer len (low + 128)) ≡ group_bytes n val
last_one val len rest low n buffer p short low_is same =
    let whole : low ≡ rest = omega (arith, low_is) in
    rw (whole, ← same) (Progress-end val (length buffer - len) len rest buffer p short).1

pub loop-buffer-preserved : goal.loop-buffer-preserved
loop-buffer-preserved g c = one_more _ _ _ _ _ _ c.loop-buffer.invariant c.loop-buffer-test.ensures.yes c.low.ensures c.high-rest.ensures

pub returns-clause-written : goal.returns-clause-written
returns-clause-written g c = last_one _ _ _ _ _ _ c.loop-buffer.invariant c.loop-buffer-test.ensures.no c.low-2.ensures c.loop-buffer.auto.buffer

pub returns-clause-len : goal.returns-clause-len
returns-clause-len g c =
    let put = slice_set c.loop-buffer.buffer c.loop-buffer.len (c.low-2.result + 128) in
    let written = last_one _ _ _ _ _ _ c.loop-buffer.invariant c.loop-buffer-test.ensures.no c.low-2.ensures c.loop-buffer.auto.buffer in
    let within : c.loop-buffer.len < length c.loop-buffer.buffer = omega (arith, c.loop-buffer.invariant.total, c.loop-buffer.invariant.some) in
    let same : length put ≡ length c.loop-buffer.buffer = simp length-set in
    sym (length-take-le (c.loop-buffer.len + 1) put (omega arith)) ∙ ap length written
