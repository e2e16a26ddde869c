use Rattle.std.proofs.Common.{rules}
use Rattle.common_wire.specs.Wire.{vint128}
use Rattle.common_wire.proofs.vint.VIntU128BinarySerializable.deserialize.Goals as goal

pub returns-in-Ok-clause-bytes : goal.returns-in-Ok-clause-bytes
unfolding vint128
returns-in-Ok-clause-bytes g c = search rules

pub returns-in-Err-clause-bytes : goal.returns-in-Err-clause-bytes
unfolding vint128
returns-in-Err-clause-bytes g c = search rules
