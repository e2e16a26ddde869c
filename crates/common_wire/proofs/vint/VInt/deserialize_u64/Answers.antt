use Rattle.common_wire.specs.Wire.{vint}
use Rattle.common_wire.proofs.vint.VInt.deserialize_u64.Goals as goal

pub returns-in-Ok-clause-bytes : goal.returns-in-Ok-clause-bytes
unfolding vint
returns-in-Ok-clause-bytes g c = c.in-Ok.ensures.bytes

pub returns-in-Err-clause-bytes : goal.returns-in-Err-clause-bytes
unfolding vint
returns-in-Err-clause-bytes g c = c.in-Err.ensures.bytes
