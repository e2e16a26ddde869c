use Rattle.std.proofs.Common.{arith}
use Rattle.sstable_values.proofs.ListLaws.{list-again}
use Rattle.sstable_values.proofs.vec_u32.write_list.Goals as goal

pub returns-clause-again : goal.returns-clause-again
returns-clause-again c = list-again c.args.numbers.now c.requires (λ i. omega (arith, c.type_inv.numbers i))
