use Rattle.std.proofs.Common.{◌≡◌, ℕ, ◌+◌, ◌-◌, ◌*◌, ◌≤◌, ◌<◌, ◌^◌, arith}
use Rattle.std.proofs.Math.Nat.{mul-le-mul_left}
use Rattle.std.proofs.lemmas.Nat.{mul-add-lt}
use Rattle.std.proofs.lemmas.Result.{err_from_is_err_and}
use Rattle.common_wire.specs.Serialized.{limit}
use Rattle.common_wire.proofs.FromSources.{GroupsRead-more, GroupsRead-cut, GroupsRead-last, GroupsRead-large, GroupsRead-long, group_fits}
use Rattle.common_wire.proofs.SevenBits.{limit-rising, limit-least}
use Rattle.common_wire.proofs.VintLaws.{GroupsRead-number, IsTaking-fits_below, fits_below-is, fits_below-not}
use Rattle.common_wire.proofs.groups.read_groups.Goals as goal

-- the groups before the last fit
small : (v s b i k : ℕ) → v < s → s ≡ limit i → b < 128 → i < k → k ≤ 18 → v + s * b < 2 ^ 126
small v s b i k below scaled group before few =
    let fits : v + s * b < limit k = group_fits v s b i k below scaled group before in
    let most : limit k ≤ limit 18 = limit-least k 18 few in
    omega (arith, fits, most)

early_fits : (v s b i k top : ℕ) → v < s → s ≡ limit i → b < 128 → i < k → 0 < top → v + s * b < limit k * top
early_fits v s b i k top below scaled group before some =
    let fits : v + s * b < limit k = group_fits v s b i k below scaled group before in
    let more : limit k * 1 ≤ limit k * top = mul-le-mul_left (limit k) some in
    omega (arith, fits, more)

-- the last one fits where it is below the top
last_fits : (v s b i k top : ℕ) → v < s → s ≡ limit i → i ≡ k → b < top → v + s * b < limit k * top
last_fits v s b i k top below scaled end last =
    let in_order : b * s + v < s * top = mul-add-lt b s v top last below in
    rw (← end, ← scaled) (omega (arith, in_order))

last_small : (v s b i k top : ℕ) → v < s → s ≡ limit i → i ≡ k → k ≤ 18 → b < top → top ≤ 4 → v + s * b < 2 ^ 128
last_small v s b i k top below scaled end few last fits =
    let most : limit i ≤ limit 18 = limit-least i 18 (omega arith) in
    let more : s * b ≤ s * 3 = mul-le-mul_left s (omega arith) in
    omega (arith, most, more)

last_large : (v s b i k top : ℕ) → s ≡ limit i → i ≡ k → top ≤ b → limit k * top ≤ v + s * b
last_large v s b i k top scaled end large =
    let more : s * top ≤ s * b = mul-le-mul_left s large in
    rw (← end, ← scaled) (omega (arith, more))

pub loop-turn-init : goal.loop-turn-init
loop-turn-init g c =
    let all : c.args.more + 1 - 0 ≡ c.args.more + 1 = omega arith in
    record { read = rw all (GroupsRead-number (c.args.more + 1) (limit c.args.more * c.args.top) (g.R.Source.left c.args.reader.now)); later = omega arith; taken = omega arith }

pub returns-in_err-group-clause-bytes : goal.returns-in_err-group-clause-bytes
returns-in_err-group-clause-bytes g c =
    let p = err_from_is_err_and c.from_residual.result c.from_residual.ensures.1 in
    rw (p.1, p.2) (GroupsRead-cut _ _ _ _ (c.args.more - c.loop-turn.turn) _ _ _ _ _ _ _ (IsTaking-fits_below (limit c.args.more * c.args.top)) c.loop-turn.invariant.read (omega (arith, c.loop-turn-test.true)) c.in_err-group.ensures.bytes)

pub overflow_mul-result : goal.overflow_mul-result
overflow_mul-result g c = omega (arith, small c.loop-turn.value c.loop-turn.scale (c.in_ok-group.group - 128) c.loop-turn.turn c.args.more c.loop-turn.invariant.read.below c.loop-turn.invariant.read.scaled (omega arith) c.loop-turn-test.true c.requires.groups)

pub overflow_add-result : goal.overflow_add-result
overflow_add-result g c = omega (arith, small c.loop-turn.value c.loop-turn.scale (c.in_ok-group.group - 128) c.loop-turn.turn c.args.more c.loop-turn.invariant.read.below c.loop-turn.invariant.read.scaled (omega arith) c.loop-turn-test.true c.requires.groups)

pub returns-then-group-ge128-clause-bytes : goal.returns-then-group-ge128-clause-bytes
returns-then-group-ge128-clause-bytes g c =
    let fits = early_fits c.loop-turn.value c.loop-turn.scale (c.in_ok-group.group - 128) c.loop-turn.turn c.args.more c.args.top c.loop-turn.invariant.read.below c.loop-turn.invariant.read.scaled (omega arith) c.loop-turn-test.true c.requires.some in
    GroupsRead-last _ _ _ _ (c.args.more - c.loop-turn.turn) _ _ _ _ _ _ _ _ c.loop-turn.invariant.read (omega (arith, c.loop-turn-test.true)) c.if-group-ge128.true c.in_ok-group.ensures.bytes (λ bytes. fits_below-is (limit c.args.more * c.args.top) _ bytes fits)

pub returns-then-group-ge128-clause-bound : goal.returns-then-group-ge128-clause-bound
returns-then-group-ge128-clause-bound g c =
    early_fits c.loop-turn.value c.loop-turn.scale (c.in_ok-group.group - 128) c.loop-turn.turn c.args.more c.args.top c.loop-turn.invariant.read.below c.loop-turn.invariant.read.scaled (omega arith) c.loop-turn-test.true c.requires.some

pub overflow_mul-value : goal.overflow_mul-value
overflow_mul-value g c = omega (arith, small c.loop-turn.value c.loop-turn.scale c.in_ok-group.group c.loop-turn.turn c.args.more c.loop-turn.invariant.read.below c.loop-turn.invariant.read.scaled c.if-group-ge128.false c.loop-turn-test.true c.requires.groups)

pub overflow_add-value : goal.overflow_add-value
overflow_add-value g c = omega (arith, small c.loop-turn.value c.loop-turn.scale c.in_ok-group.group c.loop-turn.turn c.args.more c.loop-turn.invariant.read.below c.loop-turn.invariant.read.scaled c.if-group-ge128.false c.loop-turn-test.true c.requires.groups)

pub overflow_mul-scale : goal.overflow_mul-scale
overflow_mul-scale g c =
    let next : 128 * limit c.loop-turn.turn ≤ limit c.args.more = limit-rising c.loop-turn.turn c.args.more c.loop-turn-test.true in
    let most : limit c.args.more ≤ limit 18 = limit-least c.args.more 18 c.requires.groups in
    omega (arith, next, most, c.loop-turn.invariant.read.scaled)

pub loop-turn-preserved : goal.loop-turn-preserved
loop-turn-preserved g c =
    let fewer : c.args.more + 1 - (c.loop-turn.turn + 1) ≡ c.args.more - c.loop-turn.turn = omega arith in
    record {
      read = rw fewer (GroupsRead-more _ _ _ _ _ _ _ _ _ _ _ c.loop-turn.invariant.read (omega (arith, c.loop-turn-test.true)) c.if-group-ge128.false c.in_ok-group.ensures.bytes);
      later = omega (arith, c.loop-turn.invariant.later, c.read_byte.ensures.cause.later);
      taken = omega (arith, c.loop-turn.invariant.taken, c.read_byte.ensures.taken);
    }

pub returns-in_err-last-clause-bytes : goal.returns-in_err-last-clause-bytes
returns-in_err-last-clause-bytes g c =
    let p = err_from_is_err_and c.from_residual-in_err-last.result c.from_residual-in_err-last.ensures.1 in
    rw (p.1, p.2) (GroupsRead-cut _ _ _ _ 0 _ _ _ _ _ _ _ (IsTaking-fits_below (limit c.args.more * c.args.top)) c.loop-turn.invariant.read (omega (arith, c.loop-turn-test.false)) c.in_err-last.ensures.bytes)

pub returns-then-last-lt128-clause-bytes : goal.returns-then-last-lt128-clause-bytes
returns-then-last-lt128-clause-bytes g c = GroupsRead-long _ _ _ _ _ _ _ _ _ _ _ c.loop-turn.invariant.read (omega (arith, c.loop-turn-test.false)) c.if-last-lt128.true c.in_ok-last.ensures.bytes

pub returns-then-high-top-clause-bytes : goal.returns-then-high-top-clause-bytes
returns-then-high-top-clause-bytes g c =
    let end : c.loop-turn.turn ≡ c.args.more = omega (arith, c.loop-turn-test.false) in
    GroupsRead-large _ _ _ _ 0 _ _ _ _ _ _ _ c.loop-turn.invariant.read (omega (arith, c.loop-turn-test.false)) c.if-last-lt128.false c.in_ok-last.ensures.bytes
    (λ bytes. fits_below-not (limit c.args.more * c.args.top) _ bytes (last_large c.loop-turn.value c.loop-turn.scale (c.in_ok-last.last - 128) c.loop-turn.turn c.args.more c.args.top c.loop-turn.invariant.read.scaled end c.if-high-top.true))

pub overflow_mul-result-2 : goal.overflow_mul-result-2
overflow_mul-result-2 g c =
    let end : c.loop-turn.turn ≡ c.args.more = omega (arith, c.loop-turn-test.false) in
    omega (arith, last_small c.loop-turn.value c.loop-turn.scale (c.in_ok-last.last - 128) c.loop-turn.turn c.args.more c.args.top c.loop-turn.invariant.read.below c.loop-turn.invariant.read.scaled end c.requires.groups c.if-high-top.false c.requires.fits)

pub overflow_add-result-2 : goal.overflow_add-result-2
overflow_add-result-2 g c =
    let end : c.loop-turn.turn ≡ c.args.more = omega (arith, c.loop-turn-test.false) in
    omega (arith, last_small c.loop-turn.value c.loop-turn.scale (c.in_ok-last.last - 128) c.loop-turn.turn c.args.more c.args.top c.loop-turn.invariant.read.below c.loop-turn.invariant.read.scaled end c.requires.groups c.if-high-top.false c.requires.fits)

pub returns-clause-bytes : goal.returns-clause-bytes
returns-clause-bytes g c =
    let end : c.loop-turn.turn ≡ c.args.more = omega (arith, c.loop-turn-test.false) in
    GroupsRead-last _ _ _ _ 0 _ _ _ _ _ _ _ _ c.loop-turn.invariant.read (omega (arith, c.loop-turn-test.false)) c.if-last-lt128.false c.in_ok-last.ensures.bytes
    (λ bytes. fits_below-is (limit c.args.more * c.args.top) _ bytes (last_fits c.loop-turn.value c.loop-turn.scale (c.in_ok-last.last - 128) c.loop-turn.turn c.args.more c.args.top c.loop-turn.invariant.read.below c.loop-turn.invariant.read.scaled end c.if-high-top.false))

pub returns-clause-bound : goal.returns-clause-bound
returns-clause-bound g c =
    let end : c.loop-turn.turn ≡ c.args.more = omega (arith, c.loop-turn-test.false) in
    last_fits c.loop-turn.value c.loop-turn.scale (c.in_ok-last.last - 128) c.loop-turn.turn c.args.more c.args.top c.loop-turn.invariant.read.below c.loop-turn.invariant.read.scaled end c.if-high-top.false
