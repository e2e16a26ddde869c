use Rattle.std.proofs.Common.{Some, rules, sym, subst}
use Rattle.tantivy_bitpacker.specs.Extremes.{AreExtremes, widened}
use Rattle.tantivy_bitpacker.proofs.ExtremesLaws.{extremes_of}
use Rattle.tantivy_bitpacker.proofs.bits.minmax.Goals as goal

pub returns : goal.returns
returns g c =
    let run = c.fold.ensures.runs in (
      run.0,
      run.1,
      run.2,
      subst (λ found. AreExtremes g.T.Ord.cmp run.0.items found) (sym (run.3 (λ found x. Some (widened g.T.Ord.cmp found x)) (λ x y r f called. search rules)))
          (extremes_of g.T.Ord.cmp g.met.T.Ord.total run.0.items),
    )
