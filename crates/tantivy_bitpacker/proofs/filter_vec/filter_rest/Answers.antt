use Rattle.std.proofs.Common.{◌+◌, ap, refl, arith}
use Rattle.std.specs.Int.{is_in_range}
use Rattle.std.specs.Prelude.{slice_index}
use Rattle.tantivy_bitpacker.proofs.Places.{Filtering-more, Filtering-end, bool_byte_is, bool_byte_le}
use Rattle.tantivy_bitpacker.proofs.filter_vec.filter_rest.Goals as goal

pub loop-i-preserved : goal.loop-i-preserved
loop-i-preserved c = (
  omega (arith, c.loop-i.invariant.0, bool_byte_le (is_in_range c.args.low c.args.high (slice_index c.loop-i.values c.loop-i.i))),
  λ xs f. Filtering-more _ _ _ _ c.loop-i.values c.loop-i.kept c.loop-i.i _ _ (c.loop-i.invariant.1 xs f) (omega arith) refl
      (ap (λ n. c.loop-i.kept + n) (bool_byte_is (is_in_range c.args.low c.args.high (slice_index c.loop-i.values c.loop-i.i)))),
)

pub returns-clause-kept : goal.returns-clause-kept
returns-clause-kept c = λ xs f. Filtering-end _ _ _ _ _ _ _ (c.loop-i.invariant.1 xs f) (omega (arith, f.long))
