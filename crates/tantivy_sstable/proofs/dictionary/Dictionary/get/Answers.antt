use Rattle.std.proofs.Common.{ap, sym, ◌∙◌, subst, ℕ, List}
use Rattle.std.specs.Prelude.{IfErr}
use Rattle.common_wire.specs.Slices.{Span, span_len}
use Rattle.sstable_values.specs.Codec.{Address}
use Rattle.sstable_index.specs.Shown.{IsWhole}
use Rattle.tantivy_sstable.specs.Finding.{IsBlockAt, FailsToRead, TellsPlaceFrom}
use Rattle.sstable_index.specs.Shown.{shown_index}
use Rattle.tantivy_sstable.specs.Opened.{Opened}
use Rattle.tantivy_sstable.proofs.Getting.{finds-block, finds-no_block, finds-unread_block, tells-block, tells-unread_block, reads-found, reads-unread}
use Rattle.tantivy_sstable.proofs.dictionary.Dictionary.get.Goals as goal

pub returns-in-None-clause-found : goal.returns-in-None-clause-found
returns-in-None-clause-found g c =
    finds-no_block g.S.Value.StoredValue.shown g.S.ValueReader.ValueReader.codec c.args.self.now c.self.inside.sstable_index (g.H.FileHandle.state c.args.handle.now).contents c.args.key.now
    (sym (ap (λ (o : Opened). o.index) c.self.view_is)) c.in-None.ensures

pub returns-in-Ok-clause-found : goal.returns-in-Ok-clause-found
returns-in-Ok-clause-found g c =
    let b = (subst (λ (r : Span). IsBlockAt (g.H.FileHandle.state c.args.handle.now) r c.in-Some.block c.in-Ok.bytes) (ap (λ (o : Opened). o.blocks_range) c.self.view_is) c.in-Ok.ensures.part) in
    finds-block g.S.Value.StoredValue.shown g.S.ValueReader.ValueReader.codec c.args.self.now c.self.inside.sstable_index (g.H.FileHandle.state c.args.handle.now).contents (g.H.FileHandle.state c.args.handle.now).size c.args.key.now c.in-Some.block c.in-Ok.bytes c.value_in.result
    (sym (ap (λ (o : Opened). o.index) c.self.view_is)) c.in-Some.ensures (subst (IsWhole c.self.inside.sstable_index) (ap (λ (o : Opened). span_len o.blocks_range) c.self.view_is) c.self.invariant) (g.met.H.FileHandle.contents_len c.args.handle.now) c.requires b.lies b.read.bytes c.value_in.ensures.found

pub returns-in-Err-clause-found : goal.returns-in-Err-clause-found
returns-in-Err-clause-found g c =
    finds-unread_block g.S.Value.StoredValue.shown g.S.ValueReader.ValueReader.codec c.args.self.now c.self.inside.sstable_index (g.H.FileHandle.state c.args.handle.now).contents (g.H.FileHandle.state c.args.handle.now).size c.args.key.now c.in-Some.block c.in-Err.e
    (sym (ap (λ (o : Opened). o.index) c.self.view_is)) c.in-Some.ensures (subst (IsWhole c.self.inside.sstable_index) (ap (λ (o : Opened). span_len o.blocks_range) c.self.view_is) c.self.invariant) (g.met.H.FileHandle.contents_len c.args.handle.now) c.requires (subst (λ (r : Span). FailsToRead r c.in-Some.block c.in-Err.e) (ap (λ (o : Opened). o.blocks_range) c.self.view_is) c.in-Err.ensures.error)

pub returns-in-Ok-clause-compressed : goal.returns-in-Ok-clause-compressed
returns-in-Ok-clause-compressed g c =
    let b = (subst (λ (r : Span). IsBlockAt (g.H.FileHandle.state c.args.handle.now) r c.in-Some.block c.in-Ok.bytes) (ap (λ (o : Opened). o.blocks_range) c.self.view_is) c.in-Ok.ensures.part) in
    tells-block (g.H.FileHandle.state c.args.handle.now).contents c.args.self.now.blocks_range c.in-Some.block c.in-Ok.bytes c.value_in.result b.lies b.read.bytes
    (subst (λ (a : Address). IfErr c.value_in.result (TellsPlaceFrom a.start c.in-Ok.bytes)) c.block.view_is c.value_in.ensures.compressed)

pub returns-in-Err-clause-compressed : goal.returns-in-Err-clause-compressed
returns-in-Err-clause-compressed g c = tells-unread_block (g.H.FileHandle.state c.args.handle.now).contents c.args.self.now.blocks_range c.in-Some.block c.in-Err.e (subst (λ (r : Span). FailsToRead r c.in-Some.block c.in-Err.e) (ap (λ (o : Opened). o.blocks_range) c.self.view_is) c.in-Err.ensures.error)

pub returns-in-Ok-clause-reads : goal.returns-in-Ok-clause-reads
returns-in-Ok-clause-reads g c =
    reads-found g.S.ValueReader.ValueReader.codec c.args.self.now c.self.inside.sstable_index (g.H.FileHandle.state c.args.handle.now) (g.H.FileHandle.state c.read_block.new.handle) c.self.inside.sstable_slice c.args.key.now c.in-Some.block _ c.value_in.result
    (sym (ap (λ (o : Opened). o.index) c.self.view_is)) c.in-Some.ensures (g.met.H.FileHandle.contents_len c.args.handle.now) c.requires (ap (λ (o : Opened). o.blocks_range) c.self.view_is) c.value_in.ensures.error c.in-Ok.ensures.reads

pub returns-in-Err-clause-reads : goal.returns-in-Err-clause-reads
returns-in-Err-clause-reads g c =
    reads-unread g.S.ValueReader.ValueReader.codec c.args.self.now c.self.inside.sstable_index (g.H.FileHandle.state c.args.handle.now) (g.H.FileHandle.state c.read_block.new.handle) c.self.inside.sstable_slice c.args.key.now c.in-Some.block c.in-Err.e
    (sym (ap (λ (o : Opened). o.index) c.self.view_is)) c.in-Some.ensures (g.met.H.FileHandle.contents_len c.args.handle.now) c.requires (ap (λ (o : Opened). o.blocks_range) c.self.view_is) c.in-Err.ensures.reads
