use Rattle.std.proofs.Common.{Ok, Err}
use Rattle.tantivy_sstable.proofs.Opens.{opens-whole}
use Rattle.tantivy_sstable.proofs.dictionary.Dictionary.from_bytes.Goals as goal

pub returns-in-Ok-clause-opened : goal.returns-in-Ok-clause-opened
returns-in-Ok-clause-opened g c =
    opens-whole g.S.ValueReader.ValueReader.codec c.new-file.result.contents c.args.bytes c.new-slice.result (Ok c.in-Ok.dictionary)
    c.new-file.ensures.contents c.new-slice.ensures.start c.new-slice.ensures.end c.in-Ok.ensures.opened

pub returns-in-Err-clause-opened : goal.returns-in-Err-clause-opened
returns-in-Err-clause-opened g c =
    opens-whole g.S.ValueReader.ValueReader.codec c.new-file.result.contents c.args.bytes c.new-slice.result (Err c.in-Err.e)
    c.new-file.ensures.contents c.new-slice.ensures.start c.new-slice.ensures.end c.in-Err.ensures.opened
