use Rattle.std.proofs.Common.{ap, arith}
use Rattle.common_wire.specs.Slices.{Span, span_len}
use Rattle.tantivy_sstable.specs.Steps.{ReadsFooter}
use Rattle.tantivy_sstable.proofs.Opens.{told-of, unread-footer}
use Rattle.tantivy_sstable.proofs.FileLaws.{part-read, failed-by, not_failed}
use Rattle.tantivy_sstable.proofs.dictionary.read_footer.Goals as goal

pub returns-in-Err-clause-told : goal.returns-in-Err-clause-told
returns-in-Err-clause-told g c = unread-footer (g.H.FileHandle.state c.args.handle.now).contents c.args.file c.in-Err.e _ c.from.ensures

pub returns-in-Ok-clause-told : goal.returns-in-Ok-clause-told
returns-in-Ok-clause-told g c =
    told-of (g.H.FileHandle.state c.args.handle.now) c.args.file c.slice_from_end-ending.result c.in-Ok.bytes c.min.result (ReadsFooter c.footer_of.result) (g.met.H.FileHandle.contents_len c.args.handle.now)
    c.requires.room c.requires.within (omega (arith, c.min.ensures, c.len.ensures)) c.slice_from_end-ending.ensures c.in-Ok.ensures.part
    (λ table whole ending. c.footer_of.ensures.told table (omega (arith, whole, c.len-in-Ok.ensures)) ending)

pub returns-in-Ok-clause-reads : goal.returns-in-Ok-clause-reads
returns-in-Ok-clause-reads g c =
    part-read (g.H.FileHandle.state c.args.handle.now) (g.H.FileHandle.state c.read_bytes.new.handle) _ _ _ 20 (λ failed. absurd (not_failed c.footer_of.result c.footer_of.ensures.error failed)) c.in-Ok.ensures.reads
    (omega (arith, ap (λ (s : Span). span_len s) c.slice_from_end-ending.ensures, c.min.ensures))

pub returns-in-Err-clause-reads : goal.returns-in-Err-clause-reads
returns-in-Err-clause-reads g c =
    part-read (g.H.FileHandle.state c.args.handle.now) (g.H.FileHandle.state c.read_bytes.new.handle) _ _ _ 20 (failed-by c.in-Err.e _ c.from.ensures) c.in-Err.ensures.reads
    (omega (arith, ap (λ (s : Span). span_len s) c.slice_from_end-ending.ensures, c.min.ensures))
