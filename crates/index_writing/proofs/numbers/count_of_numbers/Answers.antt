use Rattle.std.proofs.Common.{◌+◌, ◌∙◌, ap, arith, length}
use Rattle.std.proofs.lemmas.List.{take_all}
use Rattle.index_writing.specs.Emitting.{numbers_of_all}
use Rattle.index_writing.proofs.Inserts.{start-more, start-fits}
use Rattle.index_writing.proofs.numbers.count_of_numbers.Goals as goal

pub overflow_add-count : goal.overflow_add-count
overflow_add-count c =
    let fits = start-fits c.args.postings.now c.loop-posting.posting-index c.posting-item.result c.loop-posting.count c.loop-posting-test.true c.posting-item.is c.loop-posting.invariant in
    omega (arith, fits, c.len.ensures, c.requires)

pub loop-posting-preserved : goal.loop-posting-preserved
loop-posting-preserved c =
    start-more c.args.postings.now c.loop-posting.posting-index c.posting-item.result c.loop-posting.count _ c.loop-posting-test.true c.posting-item.is c.loop-posting.invariant (ap (λ n. c.loop-posting.count + n) c.len.ensures)

pub returns : goal.returns
returns c = c.loop-posting.invariant ∙ ap (λ postings. length (numbers_of_all postings)) (take_all c.loop-posting.posting-index c.args.postings.now c.loop-posting-test.false)
