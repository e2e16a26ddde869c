use Rattle.std.proofs.Common.{sym, refl, arith}
use Rattle.tantivy_bitpacker.proofs.Digits.{HasDigits-from_leading, num_bits_few, num_bits_many, HasDigits-least}
use Rattle.tantivy_bitpacker.proofs.bits.compute_num_bits.Goals as goal

pub returns-then-digits-le56 : goal.returns-then-digits-le56
returns-then-digits-le56 c =
    let has = HasDigits-from_leading c.args.n c.ranges.n.fits in
    record { exact = sym (num_bits_few _ _ has c.if-digits-le56.true); holds = has.above; least = λ some few. HasDigits-least _ _ has some; allowed = λ many. absurd (omega arith) }

pub returns-else-digits-le56 : goal.returns-else-digits-le56
returns-else-digits-le56 c =
    let has = HasDigits-from_leading c.args.n c.ranges.n.fits in
    record { exact = sym (num_bits_many _ _ has c.if-digits-le56.false); holds = c.ranges.n.fits; least = λ some few. absurd (omega arith); allowed = λ many. refl }
