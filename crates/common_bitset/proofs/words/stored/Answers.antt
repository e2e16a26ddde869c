use Rattle.std.proofs.Common.{ap, ◌∙◌, ◌-◌, ◌*◌, length, take, drop, w64, arith, length-drop}
use Rattle.std.specs.Int.{from_le_bytes}
use Rattle.std.proofs.lemmas.List.{take_all}
use Rattle.common_bitset.specs.Words.{elements_of}
use Rattle.common_bitset.specs.Subset.{stored_word}
use Rattle.common_bitset.proofs.words.stored.Goals as goal

pub returns : goal.returns
unfolding stored_word
returns c =
    let rest = drop (8 * c.args.k) c.args.words.now in
    c.deserialize.ensures
    ∙ ap (λ xs. elements_of (from_le_bytes w64 xs)) (c.in-Some.ensures.cases.same ∙ ap (take 8) (take_all (length c.args.words.now - 8 * c.args.k) rest (omega (arith, length-drop (8 * c.args.k) c.args.words.now))))
