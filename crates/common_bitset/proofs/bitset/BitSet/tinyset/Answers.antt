use Rattle.std.proofs.Common.{◌<◌, sym, ap, subst, ◌∙◌}
use Rattle.common_bitset.specs.Subset.{word_at, word_in}
use Rattle.common_bitset.specs.Laws.Laid.{word_read}
use Rattle.common_bitset.specs.Laws.Gathered.{word_in-gathered}
use Rattle.std.specs.Int.{div_ceil}
use Rattle.std.proofs.Common.{length}
use Rattle.common_bitset.proofs.bitset.BitSet.tinyset.Goals as goal

pub returns : goal.returns
returns c =
    let asked = subst (λ s. c.args.bucket < div_ceil s.max_value 64) (sym c.self.view_is) c.requires in
    let long = c.self.invariant.length_is in
    let within : c.args.bucket < length c.self.inside.tinysets.items = subst (λ n. c.args.bucket < n) (sym long) asked in
    word_read c.self.inside.tinysets.items c.args.bucket c.index.result.now within c.index.ensures
    ∙ sym (word_in-gathered c.self.inside.max_value (word_at c.self.inside.tinysets.items) c.args.bucket c.self.invariant.are_words)
    ∙ ap (λ s. word_in s.elements c.args.bucket) c.self.view_is
