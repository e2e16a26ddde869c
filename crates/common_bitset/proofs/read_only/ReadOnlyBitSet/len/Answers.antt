use Rattle.std.proofs.Common.{◌≡◌, ◌/◌, ◌∙◌, ap, length, arith}
use Rattle.std.specs.FinSet.{len}
use Rattle.std.specs.Int.{div_ceil}
use Rattle.common_bitset.specs.Counts.{total}
use Rattle.common_bitset.specs.Subset.{stored_word, gathered}
use Rattle.common_bitset.specs.Laws.Gathered.{total-len}
use Rattle.common_bitset.specs.Laws.Laid.{len_gathered_le, words_enough}
use Rattle.common_bitset.proofs.read_only.ReadOnlyBitSet.len.Goals as goal

counted : (c : goal.After-count_stored) → c.count_stored.result ≡ len (gathered c.self.inside.max_value (stored_word c.self.inside.words))
counted c =
    let long = c.self.invariant.length_is in
    let n : length c.self.inside.words / 8 ≡ div_ceil c.self.inside.max_value 64 = omega (arith, long) in
    c.count_stored.ensures ∙ ap (λ bs. total (length bs / 8) (stored_word bs)) c.as_slice.ensures ∙ ap (λ m. total m (stored_word c.self.inside.words)) n
    ∙ total-len c.self.inside.max_value (div_ceil c.self.inside.max_value 64) (stored_word c.self.inside.words) c.self.invariant.are_words (words_enough c.self.inside.max_value)

pub returns-clause-count : goal.returns-clause-count
returns-clause-count c = counted c ∙ ap (λ s. len s.elements) c.self.view_is

pub returns-clause-most : goal.returns-clause-most
returns-clause-most c =
    let bound = len_gathered_le c.self.inside.max_value (stored_word c.self.inside.words) in
    let kept = ap (λ s. s.max_value) c.self.view_is in
    omega (arith, bound, kept, counted c)
