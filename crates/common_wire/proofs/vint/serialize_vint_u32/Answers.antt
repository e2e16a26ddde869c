use Rattle.std.proofs.Common.{◌∙◌, ap, ℕ, ◌<◌, arith}
use Rattle.common_wire.specs.Wire.{vint_bytes, group_bytes}
use Rattle.common_wire.specs.Serialized.{limit}
use Rattle.common_wire.proofs.SevenBits.{group_bytes-room}
use Rattle.common_wire.proofs.vint.serialize_vint_u32.Goals as goal

pub returns : goal.returns
unfolding vint_bytes
returns c =
    let eight : c.args.val < limit 8 = omega (arith, c.ranges.val.fits) in
    let ten : c.args.val < limit 10 = omega (arith, c.ranges.val.fits) in
    c.put_groups-len.ensures.written ∙ ap (λ (n : ℕ). group_bytes n c.args.val) c.told-buf ∙ group_bytes-room 8 10 c.args.val eight ten (omega arith) (omega arith)
