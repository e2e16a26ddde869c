use Rattle.sstable_values.proofs.RisingLaws.{rest_is}
use Rattle.sstable_values.proofs.Counted.{number_at-place}
use Rattle.sstable_values.proofs.vec_u32.word_at.Goals as goal

pub returns-in-Some-clause-found : goal.returns-in-Some-clause-found
returns-in-Some-clause-found c =
    let e = rest_is c.args.at c.args.bytes.now in
    let cases = rw e at c.in-Some.ensures.cases in
    number_at-place c.args.at c.args.bytes.now c.in-Some.word.now _ cases.enough cases.same c.from_le_bytes.ensures
