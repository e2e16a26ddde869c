use Rattle.std.proofs.Common.{◌*◌, ◌-◌, ◌/◌, ◌%◌, ◌^◌, ap, ◌∙◌, arith}
use Rattle.std.specs.Prelude.{bit_and}
use Rattle.std.proofs.lemmas.Nat.{and_mask, one_shl}
use Rattle.tantivy_bitpacker.proofs.Unpacking.{bits_from-word}
use Rattle.tantivy_bitpacker.proofs.groups.number_of_group.Goals as goal

pub returns : goal.returns
returns g c =
    let shift = c.args.i * g.row.W % 8 in
    ap (λ m. bit_and (c.whole_word.result / 2 ^ shift) (m - 1)) (one_shl g.row.W 64 (omega arith)) ∙ and_mask (c.whole_word.result / 2 ^ shift) g.row.W
    ∙ ap (λ m. m / 2 ^ shift % 2 ^ g.row.W) c.whole_word.ensures ∙ bits_from-word (c.args.i * g.row.W) g.row.W c.args.bytes.now (omega arith)
