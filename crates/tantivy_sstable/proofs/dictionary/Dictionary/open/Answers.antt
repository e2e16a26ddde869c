use Rattle.std.proofs.Common.{Option, List, ℕ, ap, subst, arith, Ok, Err}
use Rattle.common_wire.specs.Slices.{Span}
use Rattle.tantivy_sstable.specs.Opening.{TellsAt}
use Rattle.tantivy_sstable.specs.Steps.{ReadsIndexAt}
use Rattle.tantivy_sstable.proofs.Opens.{opens-short, opens-footer, opens-index, opens-found}
use Rattle.tantivy_sstable.proofs.FileLaws.{ends-none, ends-footer, ends-both, failed-as, whole-at}
use Rattle.tantivy_sstable.proofs.dictionary.Dictionary.open.Goals as goal

pub returns-then-len-lt-VERSION_LEN-clause-opened : goal.returns-then-len-lt-VERSION_LEN-clause-opened
returns-then-len-lt-VERSION_LEN-clause-opened g c =
    opens-short g.S.ValueReader.ValueReader.codec (g.H.FileHandle.state c.args.handle.now).contents c.args.file (omega (arith, c.if-len-lt-VERSION_LEN.true, c.len.ensures))

pub returns-then-len-lt-VERSION_LEN-clause-reads : goal.returns-then-len-lt-VERSION_LEN-clause-reads
returns-then-len-lt-VERSION_LEN-clause-reads g c = ends-none (g.H.FileHandle.state c.args.handle.now) c.args.file _ (λ e. cc)

pub returns-in-Err-clause-opened : goal.returns-in-Err-clause-opened
returns-in-Err-clause-opened g c =
    opens-footer g.S.ValueReader.ValueReader.codec (g.H.FileHandle.state c.args.handle.now).contents c.args.file c.in-Err.e c.in-Err.ensures.told

pub returns-in-Err-clause-reads : goal.returns-in-Err-clause-reads
returns-in-Err-clause-reads g c =
    ends-footer (g.H.FileHandle.state c.args.handle.now) (g.H.FileHandle.state c.read_footer.new.handle) c.args.file _ _ (failed-as c.in-Err.e) c.in-Err.ensures.reads

pub returns-in-Err-read_index-clause-opened : goal.returns-in-Err-read_index-clause-opened
returns-in-Err-read_index-clause-opened g c =
    opens-index g.S.ValueReader.ValueReader.codec (g.H.FileHandle.state c.args.handle.now).contents c.args.file c.in-Ok.footer c.in-Err-read_index.e (omega (arith, c.requires, g.met.H.FileHandle.contents_len c.args.handle.now)) c.in-Ok.ensures.few c.in-Ok.ensures.told
    (subst (λ (o : Option (List ℕ)). TellsAt o c.args.file (ReadsIndexAt c.in-Ok.footer (Err c.in-Err-read_index.e))) c.in-Ok.ensures.reads.leaves.contents c.in-Err-read_index.ensures.told)

pub returns-in-Err-read_index-clause-reads : goal.returns-in-Err-read_index-clause-reads
returns-in-Err-read_index-clause-reads g c =
    ends-both (g.H.FileHandle.state c.args.handle.now) (g.H.FileHandle.state c.read_footer.new.handle) (g.H.FileHandle.state c.read_index.new.handle) c.args.file c.in-Ok.footer _ _ _ (failed-as c.in-Err-read_index.e)
    (g.met.H.FileHandle.contents_len c.args.handle.now) c.requires c.in-Ok.ensures.fits c.in-Ok.ensures.told c.in-Ok.ensures.reads c.in-Err-read_index.ensures.reads

pub returns-clause-opened : goal.returns-clause-opened
returns-clause-opened g c =
    opens-found g.S.ValueReader.ValueReader.codec (g.H.FileHandle.state c.args.handle.now).contents c.args.file c.slice_to.result c.in-Ok.footer c.in-Ok-read_index.sstable_index _
    (g.met.H.FileHandle.contents_len c.args.handle.now) c.requires c.in-Ok.ensures.fits c.in-Ok.ensures.told
    (subst (λ (o : Option (List ℕ)). TellsAt o c.args.file (ReadsIndexAt c.in-Ok.footer (Ok c.in-Ok-read_index.sstable_index))) c.in-Ok.ensures.reads.leaves.contents c.in-Ok-read_index.ensures.told)
    c.slice_to.ensures

pub returns-clause-reads : goal.returns-clause-reads
returns-clause-reads g c =
    ends-both (g.H.FileHandle.state c.args.handle.now) (g.H.FileHandle.state c.read_footer.new.handle) (g.H.FileHandle.state c.read_index.new.handle) c.args.file c.in-Ok.footer _ _ _ (λ e. cc)
    (g.met.H.FileHandle.contents_len c.args.handle.now) c.requires c.in-Ok.ensures.fits c.in-Ok.ensures.told c.in-Ok.ensures.reads c.in-Ok-read_index.ensures.reads

pub invariant_of-result : goal.invariant_of-result
invariant_of-result g c =
    whole-at c.in-Ok-read_index.sstable_index c.in-Ok.footer.index_offset _ (omega (arith, ap (λ (s : Span). s.start) c.slice_to.ensures, ap (λ (s : Span). s.end) c.slice_to.ensures)) c.in-Ok-read_index.ensures.whole
