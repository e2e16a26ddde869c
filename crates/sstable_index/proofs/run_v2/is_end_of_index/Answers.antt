use Rattle.std.proofs.Common.{arith}
use Rattle.sstable_index.proofs.ReadingDeltas.{no-end}
use Rattle.sstable_index.proofs.run_v2.is_end_of_index.Goals as goal

pub returns-in_default : goal.returns-in_default
returns-in_default c = no-end c.args.rest.now (λ e. absurd (omega (arith, e, c.in_default.len_at_least, c.in_default.len_below))) (λ e. absurd (omega (arith, e, c.in_default.len_at_least, c.in_default.len_below)))

pub returns-in_default-6 : goal.returns-in_default-6
returns-in_default-6 c = no-end c.args.rest.now (λ e. absurd (omega (arith, e, c.in_default.len_at_least))) (λ e. absurd (omega (arith, e, c.in_default.len_at_least)))
