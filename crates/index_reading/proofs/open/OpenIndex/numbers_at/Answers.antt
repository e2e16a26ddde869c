use Rattle.std.proofs.Common.{Option, List, ℕ, Ok, Err, subst, sym, arith}
use Rattle.index_reading.specs.Opened.{LiesIn}
use Rattle.index_reading.specs.LookUp.{GivesPlaces}
use Rattle.std.specs.Prelude.{IfSome}
use Rattle.index_reading.proofs.TableLaws.{names-compressed}
use Rattle.index_reading.proofs.Lookups.{looks-none, looks-error, looks-found, looks-refused, fetches-block, fetches-both}
use Rattle.index_reading.proofs.Failures.{failed-as, failed-in}
use Rattle.owned_bytes.proofs.FileReads.{leaves-as, leaves-then}
use Rattle.index_reading.proofs.open.OpenIndex.numbers_at.Goals as goal

pub returns-in-Ok-None-clause-found : goal.returns-in-Ok-None-clause-found
returns-in-Ok-None-clause-found g c =
    looks-none c.args.self.now (g.H.FileHandle.state c.args.handle.now).contents c.args.key.now (rw c.in-Ok-None.field-0-is at c.in-Ok-None.ensures.found)

pub returns-in-Err-clause-found : goal.returns-in-Err-clause-found
returns-in-Err-clause-found g c =
    looks-error c.args.self.now (g.H.FileHandle.state c.args.handle.now).contents c.args.key.now c.blocks_range.result.start c.in-Err.e c.error_of_table.result c.error_of_table.ensures c.in-Err.ensures.found

pub returns-in-Err-clause-compressed : goal.returns-in-Err-clause-compressed
returns-in-Err-clause-compressed g c =
    names-compressed (g.H.FileHandle.state c.args.handle.now).contents c.args.self.now.dictionary.blocks_range c.blocks_range.result.start c.in-Err.e c.error_of_table.result
    c.blocks_range.ensures.start (omega (arith, c.blocks_range.ensures.end, c.blocks_range.ensures.small)) c.error_of_table.ensures c.in-Err.ensures.compressed

pub returns-in-Ok-clause-found : goal.returns-in-Ok-clause-found
returns-in-Ok-clause-found g c =
    let found = rw c.in-Ok-Some.field-0-is at c.in-Ok-Some.ensures.found in
    let given = subst (λ (o : Option (List ℕ)). IfSome o (GivesPlaces c.args.self.now c.in-Ok-Some.places.start c.in-Ok-Some.places.end (Ok c.in-Ok.numbers))) c.get.ensures.reads.reads.leaves.contents c.in-Ok.ensures.given in
    looks-found c.args.self.now (g.H.FileHandle.state c.args.handle.now).contents c.args.key.now c.in-Ok-Some.places c.in-Ok.numbers found given

pub returns-in-Err-numbers_of-clause-found : goal.returns-in-Err-numbers_of-clause-found
returns-in-Err-numbers_of-clause-found g c =
    let found = rw c.in-Ok-Some.field-0-is at c.in-Ok-Some.ensures.found in
    let given = subst (λ (o : Option (List ℕ)). IfSome o (GivesPlaces c.args.self.now c.in-Ok-Some.places.start c.in-Ok-Some.places.end (Err c.in-Err-numbers_of.e))) c.get.ensures.reads.reads.leaves.contents c.in-Err-numbers_of.ensures.given in
    looks-refused c.args.self.now (g.H.FileHandle.state c.args.handle.now).contents c.args.key.now c.in-Ok-Some.places c.in-Err-numbers_of.e found given

pub returns-in-Ok-None-clause-file : goal.returns-in-Ok-None-clause-file
returns-in-Ok-None-clause-file g c =
    leaves-as (g.H.FileHandle.state c.args.handle.now) (g.H.FileHandle.state c.get.new.handle) _ _ (λ e. cc) c.in-Ok-None.ensures.reads.reads.leaves

pub returns-in-Ok-None-clause-reads : goal.returns-in-Ok-None-clause-reads
returns-in-Ok-None-clause-reads g c =
    omega (arith, c.in-Ok-None.ensures.reads.reads.reads)

pub returns-in-Ok-None-clause-fetched : goal.returns-in-Ok-None-clause-fetched
returns-in-Ok-None-clause-fetched g c =
    fetches-block c.args.self.now c.args.key.now (g.H.FileHandle.state c.args.handle.now) (g.H.FileHandle.state c.get.new.handle) _ c.in-Ok-None.ensures.reads

pub returns-in-Err-clause-file : goal.returns-in-Err-clause-file
returns-in-Err-clause-file g c =
    leaves-as (g.H.FileHandle.state c.args.handle.now) (g.H.FileHandle.state c.get.new.handle) _ _ (failed-in c.blocks_range.result.start c.in-Err.e _ c.error_of_table.ensures) c.in-Err.ensures.reads.reads.leaves

pub returns-in-Err-clause-reads : goal.returns-in-Err-clause-reads
returns-in-Err-clause-reads g c =
    omega (arith, c.in-Err.ensures.reads.reads.reads)

pub returns-in-Err-clause-fetched : goal.returns-in-Err-clause-fetched
returns-in-Err-clause-fetched g c =
    fetches-block c.args.self.now c.args.key.now (g.H.FileHandle.state c.args.handle.now) (g.H.FileHandle.state c.get.new.handle) _ c.in-Err.ensures.reads

pub returns-in-Ok-clause-file : goal.returns-in-Ok-clause-file
returns-in-Ok-clause-file g c =
    leaves-as (g.H.FileHandle.state c.args.handle.now) (g.H.FileHandle.state c.numbers_of.new.handle) _ _ (λ e. cc) (leaves-then (g.H.FileHandle.state c.args.handle.now) (g.H.FileHandle.state c.get.new.handle) (g.H.FileHandle.state c.numbers_of.new.handle) _ _ c.in-Ok-Some.ensures.reads.reads.leaves c.in-Ok.ensures.reads.reads.leaves)

pub returns-in-Ok-clause-reads : goal.returns-in-Ok-clause-reads
returns-in-Ok-clause-reads g c =
    omega (arith, c.in-Ok-Some.ensures.reads.reads.reads, c.in-Ok.ensures.reads.reads.reads)

pub returns-in-Ok-clause-fetched : goal.returns-in-Ok-clause-fetched
returns-in-Ok-clause-fetched g c =
    let found = rw c.in-Ok-Some.field-0-is at c.in-Ok-Some.ensures.found in
    fetches-both c.args.self.now c.args.key.now c.in-Ok-Some.places (g.H.FileHandle.state c.args.handle.now) (g.H.FileHandle.state c.get.new.handle) (g.H.FileHandle.state c.numbers_of.new.handle) _ _ found c.in-Ok-Some.ensures.reads c.in-Ok.ensures.reads

pub returns-in-Err-numbers_of-clause-file : goal.returns-in-Err-numbers_of-clause-file
returns-in-Err-numbers_of-clause-file g c =
    leaves-as (g.H.FileHandle.state c.args.handle.now) (g.H.FileHandle.state c.numbers_of.new.handle) _ _ (failed-as c.in-Err-numbers_of.e) (leaves-then (g.H.FileHandle.state c.args.handle.now) (g.H.FileHandle.state c.get.new.handle) (g.H.FileHandle.state c.numbers_of.new.handle) _ _ c.in-Ok-Some.ensures.reads.reads.leaves c.in-Err-numbers_of.ensures.reads.reads.leaves)

pub returns-in-Err-numbers_of-clause-reads : goal.returns-in-Err-numbers_of-clause-reads
returns-in-Err-numbers_of-clause-reads g c =
    omega (arith, c.in-Ok-Some.ensures.reads.reads.reads, c.in-Err-numbers_of.ensures.reads.reads.reads)

pub returns-in-Err-numbers_of-clause-fetched : goal.returns-in-Err-numbers_of-clause-fetched
returns-in-Err-numbers_of-clause-fetched g c =
    let found = rw c.in-Ok-Some.field-0-is at c.in-Ok-Some.ensures.found in
    fetches-both c.args.self.now c.args.key.now c.in-Ok-Some.places (g.H.FileHandle.state c.args.handle.now) (g.H.FileHandle.state c.get.new.handle) (g.H.FileHandle.state c.numbers_of.new.handle) _ _ found c.in-Ok-Some.ensures.reads c.in-Err-numbers_of.ensures.reads

pub numbers_of-requires : goal.numbers_of-requires
numbers_of-requires g c = subst (LiesIn c.args.self.now) (sym c.get.ensures.reads.reads.leaves.size) c.requires
