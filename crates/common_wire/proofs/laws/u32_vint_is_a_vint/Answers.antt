use Rattle.common_wire.proofs.SevenBits.{vint32-again, vint32-vint}
use Rattle.common_wire.proofs.laws.u32_vint_is_a_vint.Goals as goal

pub returns-clause-again : goal.returns-clause-again
returns-clause-again c = vint32-again

pub returns-clause-same : goal.returns-clause-same
returns-clause-same c = vint32-vint
