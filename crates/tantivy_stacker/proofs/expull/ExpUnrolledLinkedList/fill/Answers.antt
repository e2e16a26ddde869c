use Rattle.std.proofs.Common.{◌≡◌, length, take, arith}
use Rattle.std.proofs.lemmas.List.{length-take-le}
use Rattle.tantivy_stacker.proofs.Lists.{has_block, free_lies, fill_step, rest_bound}
use Rattle.tantivy_stacker.proofs.expull.ExpUnrolledLinkedList.fill.Goals as goal

pub write-requires : goal.write-requires
write-requires c =
    let l = c.args.self.now in
    let count : length (take c.min-taken.result c.args.buf.now) ≡ c.min-taken.result = length-take-le c.min-taken.result c.args.buf.now (omega arith) in
    free_lies c.args.arena.now l c.requires.laid_out (has_block c.args.arena.now l c.requires.laid_out c.requires.rest) (length (take c.min-taken.result c.args.buf.now)) (omega arith) (omega arith)

pub returns-clause-extended : goal.returns-clause-extended
returns-clause-extended c =
    fill_step c.args.arena.now c.write.new.self c.args.self.now c.args.buf.now c.min-taken.result c.offset-self.result c.requires.laid_out (omega arith) (omega arith) (omega arith) c.write.ensures.pages c.write.ensures.written c.offset-self.ensures

pub returns-clause-in_use : goal.returns-clause-in_use
returns-clause-in_use c = omega (arith, rest_bound c.args.arena.now c.args.self.now c.requires.laid_out)
