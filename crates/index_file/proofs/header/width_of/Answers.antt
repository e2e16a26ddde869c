use Rattle.std.proofs.Common.{◌≡◌, ℕ, ◌-◌, ◌<◌, refl, ap, sym, ◌∙◌, arith}
unfoldable use Rattle.tantivy_bitpacker.specs.Packed.{digits_upto, num_bits}
use Rattle.index_file.proofs.header.width_of.Goals as goal

no_width : num_bits 0 ≡ 0
unfolding num_bits digits_upto
no_width = refl

none : (documents : ℕ) → documents < 2 → 0 ≡ num_bits (documents - 1)
none documents few = let zero : documents - 1 ≡ 0 = omega arith in sym (ap num_bits zero ∙ no_width)

pub returns-then-documents-lt2-clause-width : goal.returns-then-documents-lt2-clause-width
returns-then-documents-lt2-clause-width c = none c.args.documents c.if-documents-lt2.true
