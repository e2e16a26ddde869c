use Rattle.query_tree.proofs.Digits.{trimmed_valid}
use Rattle.query_tree.proofs.decimal.Decimal.new.Goals as goal

pub invariant_of-result : goal.invariant_of-result
invariant_of-result c =
    rw (c.in_ok-from_str.ensures, c.whole_part.ensures, c.in_ok-from_str-2.ensures, c.without_zeros_behind.ensures)
    (trimmed_valid c.args.whole.now c.args.fraction.now c.requires.digits c.requires.fraction_digits)
