use Rattle.std.proofs.Common.{length, length-append, arith}
use Rattle.common_wire.specs.Wire.{text_bytes, vint_bytes}
use Rattle.common_wire.proofs.collections.text_num_bytes.Goals as goal

pub returns : goal.returns
unfolding text_bytes
returns c = omega (arith, length-append (vint_bytes (length c.args.text.now)) c.args.text.now, c.num_bytes.ensures, c.saturating_add.ensures)
