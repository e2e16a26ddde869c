use Rattle.std.proofs.Common.{ap, arith}
use Rattle.common_bitset.specs.Subset.{word_at}
use Rattle.common_bitset.specs.Laws.Laid.{len_gathered_le}
use Rattle.common_bitset.proofs.bitset.BitSet.len.Goals as goal

pub returns-clause-most : goal.returns-clause-most
returns-clause-most c =
    let bound = len_gathered_le c.self.inside.max_value (word_at c.self.inside.tinysets.items) in
    let kept = ap (λ s. s.max_value) c.self.view_is in
    let count = c.self.invariant.count_is in
    omega (arith, bound, kept, count)
