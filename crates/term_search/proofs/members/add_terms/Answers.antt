use Rattle.std.specs.Prelude.{false}
use Rattle.term_search.proofs.Turns.{adds_next, adds_all, error_before}
use Rattle.term_search.proofs.Asking.{terms_next, terms_ended}
use Rattle.term_search.proofs.members.add_terms.Goals as goal

pub loop-term-preserved : goal.loop-term-preserved
loop-term-preserved g c = record {
  adds = adds_next _ _ _ c.args.field.now _ _ _ _ _ _ _ c.loop-term.invariant.asks.leaves.contents c.loop-term-test.true c.term-item.is c.as_str.ensures c.loop-term.invariant.adds c.in-Ok.ensures.adds;
  over = c.add_term.ensures.over;
  asks = terms_next _ c.args.field.now _ _ _ _ _ _ _ _ _ c.loop-term-test.true c.term-item.is c.as_str.ensures c.loop-term.invariant.asks c.in-Ok.ensures.asks;
}

pub returns-clause-adds : goal.returns-clause-adds
returns-clause-adds g c = adds_all _ _ c.args.field.now _ _ _ _ c.loop-term-test.false c.loop-term.invariant.adds

pub returns-clause-asks : goal.returns-clause-asks
returns-clause-asks g c = terms_ended _ c.args.field.now c.args.terms.now _ _ _ _ c.loop-term.invariant.asks

pub returns-in-Err-clause-error : goal.returns-in-Err-clause-error
returns-in-Err-clause-error g c = error_before c.args.index.now (g.H.FileHandle.state c.args.file.now) (g.H.FileHandle.state c.loop-term.file) false _ c.loop-term.invariant.asks.leaves.contents c.in-Err.ensures.error

pub returns-in-Err-clause-asks : goal.returns-in-Err-clause-asks
returns-in-Err-clause-asks g c =
    terms_ended _ c.args.field.now c.args.terms.now _ _ _ _
    (terms_next _ c.args.field.now _ _ _ _ _ _ _ _ _ c.loop-term-test.true c.term-item.is c.as_str.ensures c.loop-term.invariant.asks c.in-Err.ensures.asks)
