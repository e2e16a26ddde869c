use Rattle.std.proofs.Common.{◌∙◌, arith}
use Rattle.index_reading.proofs.Failures.{failed-in}
use Rattle.index_reading.proofs.Openings.{reads-table}
use Rattle.index_reading.proofs.TableLaws.{opens-found, opens-refused}
use Rattle.index_reading.proofs.open.open_table.Goals as goal

pub returns-in-Ok-clause-opens : goal.returns-in-Ok-clause-opens
returns-in-Ok-clause-opens g c =
    opens-found (g.H.FileHandle.state c.args.handle.now).contents c.args.head.documents c.args.head.count c.args.start (g.H.FileHandle.state c.args.handle.now).size c.file_len-size.result c.part_from.result c.in-Ok.dictionary
    (g.met.H.FileHandle.contents_len c.args.handle.now) c.file_len-size.ensures c.part_from.ensures.start c.part_from.ensures.end c.requires.told c.in-Ok.ensures.opened

pub returns-in-Err-clause-opens : goal.returns-in-Err-clause-opens
returns-in-Err-clause-opens g c =
    opens-refused (g.H.FileHandle.state c.args.handle.now).contents c.args.head.documents c.args.head.count c.args.start (g.H.FileHandle.state c.args.handle.now).size c.file_len-size.result c.part_from.result c.in-Err.e c.error_of_table.result
    (g.met.H.FileHandle.contents_len c.args.handle.now) c.file_len-size.ensures (omega (arith, c.file_len-size.type_inv, c.file_len-size.ensures)) c.part_from.ensures.start c.part_from.ensures.end c.requires.told c.in-Err.ensures.opened c.error_of_table.ensures

pub returns-in-Ok-clause-reads : goal.returns-in-Ok-clause-reads
returns-in-Ok-clause-reads g c =
    reads-table (g.H.FileHandle.state c.args.handle.now) (g.H.FileHandle.state c.«open».new.handle) c.args.head.documents c.args.head.count c.args.start c.part_from.result _ _ (λ e. cc)
    (g.met.H.FileHandle.contents_len c.args.handle.now) c.part_from.ensures.start (c.part_from.ensures.end ∙ c.file_len-size.ensures) c.requires.told c.in-Ok.ensures.reads

pub returns-in-Err-clause-reads : goal.returns-in-Err-clause-reads
returns-in-Err-clause-reads g c =
    reads-table (g.H.FileHandle.state c.args.handle.now) (g.H.FileHandle.state c.«open».new.handle) c.args.head.documents c.args.head.count c.args.start c.part_from.result _ _ (failed-in c.args.start c.in-Err.e _ c.error_of_table.ensures)
    (g.met.H.FileHandle.contents_len c.args.handle.now) c.part_from.ensures.start (c.part_from.ensures.end ∙ c.file_len-size.ensures) c.requires.told c.in-Err.ensures.reads
