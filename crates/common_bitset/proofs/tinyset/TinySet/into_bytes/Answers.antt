use Rattle.std.proofs.Common.{ap, sym, ◌∙◌, w64}
use Rattle.std.specs.Int.{to_le_bytes}
use Rattle.common_bitset.specs.Words.{word_of}
use Rattle.common_bitset.specs.Laws.WordSets.{word_of-elements}
use Rattle.common_bitset.proofs.tinyset.TinySet.into_bytes.Goals as goal

pub returns : goal.returns
returns c = c.to_le_bytes.ensures ∙ ap (to_le_bytes w64) (sym (word_of-elements c.self.inside.0 c.self.invariant) ∙ ap word_of c.self.view_is)
