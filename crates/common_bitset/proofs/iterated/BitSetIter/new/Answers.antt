use Rattle.std.proofs.Common.{ap, ◌∙◌, ◌/◌, ◌++◌, length}
use Rattle.common_bitset.specs.Subset.{stored_word}
use Rattle.common_bitset.specs.Iterated.{placed_at, elements_from}
use Rattle.common_bitset.specs.Laws.Iterated.{placed_at-empty}
use Rattle.common_bitset.proofs.iterated.BitSetIter.new.Goals as goal

pub returns : goal.returns
returns c =
    let rest = elements_from (stored_word c.args.words.now) (length c.args.words.now / 8) 0 in
    ap (λ s. placed_at 0 s ++ rest) c.empty.ensures ∙ ap (λ xs. xs ++ rest) (placed_at-empty 0)
