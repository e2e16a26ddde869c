use Rattle.std.proofs.Common.{◌≡◌, ◌<◌, ◌+◌, ◌^◌, List, Some, None, Ok, ap, sym, ◌∙◌, subst, arith, length, []}
use Rattle.std.specs.Prelude.{IfSome, IfErr}
use Rattle.sstable_blocks.specs.Entries.{Entry}
use Rattle.sstable_blocks.specs.Slices.{bytes_left, entries_here}
use Rattle.sstable_index.specs.Errors.{error_of_block}
use Rattle.sstable_format.proofs.RisingRuns.{run_of-rising}
use Rattle.block_search.specs.declared.by_key.KeyHit.{KeyHit}
use Rattle.block_search.specs.ByKey.{FindsKey}
use Rattle.block_search.proofs.Fresh.{bytes_left-begin}
use Rattle.tantivy_sstable.specs.Finding.{TellsPlaceFrom}
use Rattle.tantivy_sstable.proofs.Searched.{value-stands, value-missing, tells-from}
use Rattle.tantivy_sstable.proofs.lookup.value_in.Goals as goal

pub find_key-requires : goal.find_key-requires
find_key-requires g c =
    let left : bytes_left c.new-reader.result ≡ length c.args.blocks = bytes_left-begin g.S.ValueReader.ValueReader.codec c.new-reader.result c.args.blocks c.args.start c.new-reader.ensures.begins in
    omega (arith, left, c.requires)

pub returns-in-Ok-Exact-clause-found : goal.returns-in-Ok-Exact-clause-found
returns-in-Ok-Exact-clause-found g c entries run =
    let f = c.in-Ok-Exact.ensures.found entries c.new-reader.ensures.begins.slices (c.new-reader.ensures.run ∙ run) (run_of-rising g.S.ValueReader.ValueReader.codec c.args.blocks entries run) in
    let h = subst (λ (hit : KeyHit). FindsKey c.args.key.now entries c.find_key.new.reader (Ok hit)) c.in-Ok-Exact.field-0-is f in
    let value : g.S.Value.StoredValue.shown c.value.result.now ≡ h.0.value =
    subst (λ (o : _). IfSome o (λ (entry : Entry _). g.S.Value.StoredValue.shown c.value.result.now ≡ entry.value)) h.1 c.value.ensures in
    ap Some (c.in_ok-clone_value-in-Ok-Exact.ensures ∙ value) ∙ sym (value-stands c.args.key.now _ h.0.value entries h.2)

pub returns-in-Ok-Next-clause-found : goal.returns-in-Ok-Next-clause-found
returns-in-Ok-Next-clause-found g c entries run =
    let f = c.in-Ok-Next.ensures.found entries c.new-reader.ensures.begins.slices (c.new-reader.ensures.run ∙ run) (run_of-rising g.S.ValueReader.ValueReader.codec c.args.blocks entries run) in
    sym (value-missing c.args.key.now _ entries (subst (λ (hit : KeyHit). FindsKey c.args.key.now entries c.find_key.new.reader (Ok hit)) c.in-Ok-Next.field-0-is f))

pub returns-clause-found : goal.returns-clause-found
returns-clause-found g c entries run =
    let f = c.in-Err.ensures.found entries c.new-reader.ensures.begins.slices (c.new-reader.ensures.run ∙ run) (run_of-rising g.S.ValueReader.ValueReader.codec c.args.blocks entries run) in
    c.from.ensures ∙ ap error_of_block f

pub returns-clause-compressed : goal.returns-clause-compressed
returns-clause-compressed g c =
    subst (TellsPlaceFrom c.args.start c.args.blocks) (sym c.from.ensures)
    (tells-from g.S.ValueReader.ValueReader.codec c.new-reader.result c.args.blocks c.args.start c.in-Err.e c.new-reader.ensures.begins c.in-Err.ensures.compressed)
