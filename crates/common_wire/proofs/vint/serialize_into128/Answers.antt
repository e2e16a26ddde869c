use Rattle.std.proofs.Common.{◌∙◌, ap, ℕ, length}
use Rattle.common_wire.specs.Wire.{vint128_bytes, group_bytes}
use Rattle.common_wire.proofs.vint.serialize_into128.Goals as goal

pub returns-clause-written : goal.returns-clause-written
unfolding vint128_bytes
returns-clause-written c = c.put_groups.ensures.written ∙ ap (λ (n : ℕ). group_bytes n c.args.val) c.told-buffer

pub returns-clause-len : goal.returns-clause-len
unfolding vint128_bytes
returns-clause-len c = c.put_groups.ensures.len ∙ ap (λ (n : ℕ). length (group_bytes n c.args.val)) c.told-buffer
