use Rattle.std.proofs.Common.{arith}
use Rattle.fst_map.proofs.Opening.{no-number, no-table}
use Rattle.fst_map.proofs.opened.table_len.Goals as goal

pub returns-then-bytes-lt8 : goal.returns-then-bytes-lt8
returns-then-bytes-lt8 c = no-number c.args.bytes.now c.if-bytes-lt8.true

pub returns-else-len-bytes : goal.returns-else-len-bytes
returns-else-len-bytes c = no-table c.args.bytes.now c.if-bytes-lt8.false (omega (arith, c.if-bytes-lt8.false, c.number_at-len.ensures, c.if-len-bytes.false))
