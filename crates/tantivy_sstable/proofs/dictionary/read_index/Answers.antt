use Rattle.std.proofs.Common.{◌∙◌, ◌-◌, ap, arith, subst, List, ℕ}
use Rattle.common_wire.specs.Slices.{Span, span_len, part_of}
use Rattle.tantivy_sstable.proofs.Opens.{index-told, unread-index}
use Rattle.tantivy_sstable.proofs.FileLaws.{part-read, failed-by, not_read, reads-whole}
use Rattle.tantivy_sstable.proofs.dictionary.read_index.Goals as goal

pub returns-in-Err-clause-told : goal.returns-in-Err-clause-told
returns-in-Err-clause-told g c = unread-index (g.H.FileHandle.state c.args.handle.now).contents c.args.file c.args.footer.now c.in-Err.e _ c.from.ensures

pub returns-in-Ok-clause-told : goal.returns-in-Ok-clause-told
returns-in-Ok-clause-told g c =
    index-told (g.H.FileHandle.state c.args.handle.now) c.args.file c.slice-part.result c.in-Ok.bytes c.args.footer.now c.load.result (g.met.H.FileHandle.contents_len c.args.handle.now) c.requires.within
    c.requires.fits (c.slice-part.ensures ∙ ap (λ n. part_of c.args.file c.args.footer.now.index_offset (n - 20)) c.len.ensures) c.in-Ok.ensures.part c.load.ensures

pub returns-in-Ok-clause-reads : goal.returns-in-Ok-clause-reads
returns-in-Ok-clause-reads g c =
    part-read (g.H.FileHandle.state c.args.handle.now) (g.H.FileHandle.state c.read_bytes.new.handle) _ _ _ _ (λ failed. absurd (not_read c.args.footer.now _ c.load.result c.load.ensures failed)) c.in-Ok.ensures.reads
    (omega (arith, ap (λ (s : Span). span_len s) c.slice-part.ensures, c.len.ensures))

pub returns-in-Err-clause-reads : goal.returns-in-Err-clause-reads
returns-in-Err-clause-reads g c =
    part-read (g.H.FileHandle.state c.args.handle.now) (g.H.FileHandle.state c.read_bytes.new.handle) _ _ _ _ (failed-by c.in-Err.e _ c.from.ensures) c.in-Err.ensures.reads
    (omega (arith, ap (λ (s : Span). span_len s) c.slice-part.ensures, c.len.ensures))

pub returns-in-Ok-clause-whole : goal.returns-in-Ok-clause-whole
returns-in-Ok-clause-whole g c = reads-whole c.args.footer.now _ c.load.result c.load.ensures
