use Rattle.std.proofs.Common.{Option, List, ℕ, subst, sym, ◌∙◌, arith}
use Rattle.std.specs.Prelude.{IfSome, IfOk}
use Rattle.owned_bytes.proofs.FileReads.{leaves-none, leaves-as, leaves-then}
use Rattle.index_reading.specs.Opened.{LiesIn}
use Rattle.index_reading.specs.Opening.{OpensTold}
use Rattle.index_reading.specs.Steps.{HasHead, HasTable}
use Rattle.index_reading.proofs.Failures.{failed-as}
use Rattle.index_reading.proofs.Headers.{opens-short}
use Rattle.index_reading.proofs.Openings.{fetches-early, fetches-opening}
use Rattle.index_reading.proofs.TableLaws.{opens-headless, opens-far, has-table, opens-version, opens-unread}
use Rattle.index_reading.proofs.open.OpenIndex.open.Goals as goal

pub returns-then-size-lt-VERSION_LEN-clause-opens : goal.returns-then-size-lt-VERSION_LEN-clause-opens
returns-then-size-lt-VERSION_LEN-clause-opens g c =
    opens-short (g.H.FileHandle.state c.args.handle.now).contents (g.H.FileHandle.state c.args.handle.now).size (g.met.H.FileHandle.contents_len c.args.handle.now) (omega (arith, c.if-size-lt-VERSION_LEN.true, c.file_len-size.ensures))

pub returns-then-size-lt-VERSION_LEN-clause-file : goal.returns-then-size-lt-VERSION_LEN-clause-file
returns-then-size-lt-VERSION_LEN-clause-file g c =
    leaves-none (g.H.FileHandle.state c.args.handle.now) _ (λ e. cc)

pub returns-then-size-lt-VERSION_LEN-clause-reads : goal.returns-then-size-lt-VERSION_LEN-clause-reads
returns-then-size-lt-VERSION_LEN-clause-reads g c =
    omega arith

pub returns-then-size-lt-VERSION_LEN-clause-fetched : goal.returns-then-size-lt-VERSION_LEN-clause-fetched
returns-then-size-lt-VERSION_LEN-clause-fetched g c =
    fetches-early (g.H.FileHandle.state c.args.handle.now) (g.H.FileHandle.state c.args.handle.now) (omega arith)

pub returns-in-Err-clause-opens : goal.returns-in-Err-clause-opens
returns-in-Err-clause-opens g c =
    opens-version (Unit {0}) (g.H.FileHandle.state c.args.handle.now).contents c.in-Err.e c.in-Err.ensures.told

pub returns-in-Err-clause-file : goal.returns-in-Err-clause-file
returns-in-Err-clause-file g c =
    leaves-as (g.H.FileHandle.state c.args.handle.now) (g.H.FileHandle.state c.check_version.new.handle) _ _ (failed-as c.in-Err.e) c.in-Err.ensures.reads.leaves

pub returns-in-Err-clause-reads : goal.returns-in-Err-clause-reads
returns-in-Err-clause-reads g c =
    omega (arith, c.in-Err.ensures.reads.reads)

pub returns-in-Err-clause-fetched : goal.returns-in-Err-clause-fetched
returns-in-Err-clause-fetched g c =
    fetches-early (g.H.FileHandle.state c.args.handle.now) (g.H.FileHandle.state c.check_version.new.handle) (omega (arith, c.in-Err.ensures.reads.fetched))

pub returns-then-size-lt-HEADER_LEN-clause-opens : goal.returns-then-size-lt-HEADER_LEN-clause-opens
returns-then-size-lt-HEADER_LEN-clause-opens g c =
    opens-headless (g.H.FileHandle.state c.args.handle.now).contents (g.H.FileHandle.state c.args.handle.now).size (tt {0}) (g.met.H.FileHandle.contents_len c.args.handle.now) (omega (arith, c.if-size-lt-HEADER_LEN.true, c.file_len-size.ensures)) c.in-Ok.ensures.told

pub returns-then-size-lt-HEADER_LEN-clause-file : goal.returns-then-size-lt-HEADER_LEN-clause-file
returns-then-size-lt-HEADER_LEN-clause-file g c =
    leaves-as (g.H.FileHandle.state c.args.handle.now) (g.H.FileHandle.state c.check_version.new.handle) _ _ (λ e. cc) c.in-Ok.ensures.reads.leaves

pub returns-then-size-lt-HEADER_LEN-clause-reads : goal.returns-then-size-lt-HEADER_LEN-clause-reads
returns-then-size-lt-HEADER_LEN-clause-reads g c =
    omega (arith, c.in-Ok.ensures.reads.reads)

pub returns-then-size-lt-HEADER_LEN-clause-fetched : goal.returns-then-size-lt-HEADER_LEN-clause-fetched
returns-then-size-lt-HEADER_LEN-clause-fetched g c =
    fetches-early (g.H.FileHandle.state c.args.handle.now) (g.H.FileHandle.state c.check_version.new.handle) (omega (arith, c.in-Ok.ensures.reads.fetched))

pub read_head-requires : goal.read_head-requires
read_head-requires g c =
    omega (arith, c.if-size-lt-HEADER_LEN.false, c.file_len-size.ensures, c.in-Ok.ensures.reads.leaves.size)

pub returns-in-Err-read_head-clause-opens : goal.returns-in-Err-read_head-clause-opens
returns-in-Err-read_head-clause-opens g c =
    opens-unread (g.H.FileHandle.state c.args.handle.now).contents c.in-Err-read_head.e c.in-Err-read_head.ensures.error

pub returns-in-Err-read_head-clause-file : goal.returns-in-Err-read_head-clause-file
returns-in-Err-read_head-clause-file g c =
    leaves-as (g.H.FileHandle.state c.args.handle.now) (g.H.FileHandle.state c.read_head.new.handle) _ _ (failed-as c.in-Err-read_head.e) (leaves-then (g.H.FileHandle.state c.args.handle.now) (g.H.FileHandle.state c.check_version.new.handle) (g.H.FileHandle.state c.read_head.new.handle) _ _ c.in-Ok.ensures.reads.leaves c.in-Err-read_head.ensures.reads.leaves)

pub returns-in-Err-read_head-clause-reads : goal.returns-in-Err-read_head-clause-reads
returns-in-Err-read_head-clause-reads g c =
    omega (arith, c.in-Ok.ensures.reads.reads, c.in-Err-read_head.ensures.reads.reads)

pub returns-in-Err-read_head-clause-fetched : goal.returns-in-Err-read_head-clause-fetched
returns-in-Err-read_head-clause-fetched g c =
    fetches-early (g.H.FileHandle.state c.args.handle.now) (g.H.FileHandle.state c.read_head.new.handle) (omega (arith, c.in-Ok.ensures.reads.fetched, c.in-Err-read_head.ensures.reads.fetched))

pub returns-in-None-clause-opens : goal.returns-in-None-clause-opens
returns-in-None-clause-opens g c =
    let head = subst (λ (o : Option (List ℕ)). IfSome o (HasHead c.in-Ok-read_head.head.documents c.in-Ok-read_head.head.count)) c.in-Ok.ensures.reads.leaves.contents c.in-Ok-read_head.ensures.told in
    opens-far (g.H.FileHandle.state c.args.handle.now).contents (g.H.FileHandle.state c.args.handle.now).size c.in-Ok-read_head.head.documents c.in-Ok-read_head.head.count (tt {0})
    (g.met.H.FileHandle.contents_len c.args.handle.now) (omega (arith, c.if-size-lt-HEADER_LEN.false, c.file_len-size.ensures)) (omega (arith, c.in-None.ensures.none, c.file_len-size.ensures)) c.in-Ok.ensures.told head

pub returns-in-None-clause-file : goal.returns-in-None-clause-file
returns-in-None-clause-file g c =
    leaves-as (g.H.FileHandle.state c.args.handle.now) (g.H.FileHandle.state c.read_head.new.handle) _ _ (λ e. cc) (leaves-then (g.H.FileHandle.state c.args.handle.now) (g.H.FileHandle.state c.check_version.new.handle) (g.H.FileHandle.state c.read_head.new.handle) _ _ c.in-Ok.ensures.reads.leaves c.in-Ok-read_head.ensures.reads.leaves)

pub returns-in-None-clause-reads : goal.returns-in-None-clause-reads
returns-in-None-clause-reads g c =
    omega (arith, c.in-Ok.ensures.reads.reads, c.in-Ok-read_head.ensures.reads.reads)

pub returns-in-None-clause-fetched : goal.returns-in-None-clause-fetched
returns-in-None-clause-fetched g c =
    fetches-early (g.H.FileHandle.state c.args.handle.now) (g.H.FileHandle.state c.read_head.new.handle) (omega (arith, c.in-Ok.ensures.reads.fetched, c.in-Ok-read_head.ensures.reads.fetched))

pub open_table-requires-clause-fits : goal.open_table-requires-clause-fits
open_table-requires-clause-fits g c =
    omega (arith, c.in-Some.ensures.fits, c.file_len-size.ensures, c.in-Ok.ensures.reads.leaves.size, c.in-Ok-read_head.ensures.reads.leaves.size)

pub open_table-requires-clause-told : goal.open_table-requires-clause-told
open_table-requires-clause-told g c =
    let head = subst (λ (o : Option (List ℕ)). IfSome o (HasHead c.in-Ok-read_head.head.documents c.in-Ok-read_head.head.count)) c.in-Ok.ensures.reads.leaves.contents c.in-Ok-read_head.ensures.told in
    subst (λ (o : Option (List ℕ)). IfSome o (HasTable c.in-Ok-read_head.head.documents c.in-Ok-read_head.head.count c.in-Some.start)) (sym (c.in-Ok-read_head.ensures.reads.leaves.contents ∙ c.in-Ok.ensures.reads.leaves.contents))
    (has-table (g.H.FileHandle.state c.args.handle.now).contents (g.H.FileHandle.state c.args.handle.now).size c.in-Ok-read_head.head.documents c.in-Ok-read_head.head.count c.in-Some.start (tt {0})
    (g.met.H.FileHandle.contents_len c.args.handle.now) c.in-Some.ensures.some (omega (arith, c.in-Some.ensures.fits, c.file_len-size.ensures)) c.in-Ok.ensures.told head)

pub returns-in-Some-clause-opens : goal.returns-in-Some-clause-opens
returns-in-Some-clause-opens g c =
    subst (λ (o : Option (List ℕ)). OpensTold o c.open_table.result) (c.in-Ok-read_head.ensures.reads.leaves.contents ∙ c.in-Ok.ensures.reads.leaves.contents) c.open_table.ensures.opens

pub returns-in-Some-clause-lies : goal.returns-in-Some-clause-lies
returns-in-Some-clause-lies g c =
    subst (λ n. IfOk c.open_table.result (λ index. LiesIn index n)) (c.in-Ok-read_head.ensures.reads.leaves.size ∙ c.in-Ok.ensures.reads.leaves.size) c.open_table.ensures.lies

pub returns-in-Some-clause-file : goal.returns-in-Some-clause-file
returns-in-Some-clause-file g c =
    leaves-then (g.H.FileHandle.state c.args.handle.now) (g.H.FileHandle.state c.read_head.new.handle) (g.H.FileHandle.state c.open_table.new.handle) _ _ (leaves-then (g.H.FileHandle.state c.args.handle.now) (g.H.FileHandle.state c.check_version.new.handle) (g.H.FileHandle.state c.read_head.new.handle) _ _ c.in-Ok.ensures.reads.leaves c.in-Ok-read_head.ensures.reads.leaves) c.open_table.ensures.reads.leaves

pub returns-in-Some-clause-reads : goal.returns-in-Some-clause-reads
returns-in-Some-clause-reads g c =
    omega (arith, c.in-Ok.ensures.reads.reads, c.in-Ok-read_head.ensures.reads.reads, c.open_table.ensures.reads.reads)

pub returns-in-Some-clause-fetched : goal.returns-in-Some-clause-fetched
returns-in-Some-clause-fetched g c =
    fetches-opening (g.H.FileHandle.state c.args.handle.now) (g.H.FileHandle.state c.read_head.new.handle) (g.H.FileHandle.state c.open_table.new.handle) _ (c.in-Ok-read_head.ensures.reads.leaves.contents ∙ c.in-Ok.ensures.reads.leaves.contents) (omega (arith, c.in-Ok.ensures.reads.fetched, c.in-Ok-read_head.ensures.reads.fetched)) c.open_table.ensures.reads
