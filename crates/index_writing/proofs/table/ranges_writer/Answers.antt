use Rattle.std.proofs.Common.{◌+◌, refl, ap, arith}
unfoldable use Rattle.index_writing.specs.Emitting.{ranged}
use Rattle.index_writing.proofs.Inserts.{is-taken, has-one-more, start-more, start-fits}
use Rattle.sstable_tables.proofs.Gathered.{gathered-none}
use Rattle.index_writing.proofs.table.ranges_writer.Goals as goal

pub loop-posting-init : goal.loop-posting-init
unfolding ranged
loop-posting-init c = record { inserted = gathered-none c.new-writer.result _ c.args.sink c.new-writer.ensures.begins c.set_block_len.ensures; start = refl }

pub overflow_add-end : goal.overflow_add-end
overflow_add-end c =
    let fits = start-fits c.args.postings.now c.loop-posting.posting-index c.posting-item.result c.loop-posting.start c.loop-posting-test.true c.posting-item.is c.loop-posting.invariant.start in
    omega (arith, fits, c.len.ensures, c.requires.few)

pub insert_next-requires-clause-taken : goal.insert_next-requires-clause-taken
insert_next-requires-clause-taken c =
    is-taken _ _ c.args.postings.now c.loop-posting.posting-index c.posting-item.result c.loop-posting.start _ c.loop-posting.invariant.inserted c.loop-posting-test.true c.posting-item.is
    c.requires.rising c.loop-posting.invariant.start (ap (λ n. c.loop-posting.start + n) c.len.ensures)

pub insert_next-requires-clause-gathers : goal.insert_next-requires-clause-gathers
insert_next-requires-clause-gathers c = c.loop-posting.invariant.inserted.block_len

pub loop-posting-preserved : goal.loop-posting-preserved
loop-posting-preserved c =
    let ps = c.args.postings.now in
    let i = c.loop-posting.posting-index in
    let to = ap (λ n. c.loop-posting.start + n) c.len.ensures in
    record {
      inserted = has-one-more _ _ _ ps i c.posting-item.result c.loop-posting.start _ c.loop-posting-test.true c.posting-item.is c.loop-posting.invariant.start to
          c.loop-posting.invariant.inserted c.in_ok-insert_next.ensures;
      start = start-more ps i c.posting-item.result c.loop-posting.start _ c.loop-posting-test.true c.posting-item.is c.loop-posting.invariant.start to;
    }
