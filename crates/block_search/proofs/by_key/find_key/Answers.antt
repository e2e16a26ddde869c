use Rattle.std.proofs.Common.{◌+◌, ◌≤◌, ◌<◌, arith}
use Rattle.std.specs.declared.cmp.Ordering.TheVariants.{Less, Equal, Greater}
use Rattle.sstable_blocks.specs.Slices.{bytes_left}
use Rattle.block_search.proofs.Keys.{still-begin, looked-at, looked-less, looked-equal, looked-greater, still-end}
use Rattle.block_search.proofs.Places.{going-begin, going-more, going-stopped, stands-here}
use Rattle.block_search.proofs.by_key.find_key.Goals as goal

pub entries-init : goal.entries-init
entries-init g c = record {
  still = λ entries one left rising. still-begin g.T.ValueReader.codec c.args.reader.now c.new-comparator.result c.args.key.now entries (c.new-comparator.ensures c.args.key.now) one left rising;
  counted = omega arith;
  place = going-begin c.args.reader.now;
}

pub overflow_add-below : goal.overflow_add-below
overflow_add-below g c =
    let counted : c.entries.below + bytes_left c.entries.reader ≤ bytes_left c.args.reader.now = c.entries.invariant.counted in
    let falls : bytes_left c.advance.new.self < bytes_left c.entries.reader = c.in-Ok-true.ensures.falls c.in-Ok-true.field-0-test in
    omega (arith, counted, falls, c.requires)

pub entries-preserved : goal.entries-preserved
entries-preserved g c = record {
  still = λ entries one left rising.
      let l = looked-at g.T.ValueReader.codec c.entries.reader c.advance.new.self c.args.key.now c.entries.below entries c.entries.comparator c.compare.new.self c.common_prefix_len.result c.suffix.result.now Less c.in-Ok-true.field-0
      (c.entries.invariant.still entries one left rising) c.in-Ok-true.field-0-test c.in-Ok-true.ensures.run c.in-Ok-true.ensures.stays c.common_prefix_len.ensures c.suffix.ensures c.in-Less.ensures in
      looked-less g.T.ValueReader.codec c.advance.new.self c.args.key.now c.entries.below entries c.compare.new.self l;
  counted =
      let counted : c.entries.below + bytes_left c.entries.reader ≤ bytes_left c.args.reader.now = c.entries.invariant.counted in
      let falls : bytes_left c.advance.new.self < bytes_left c.entries.reader = c.in-Ok-true.ensures.falls c.in-Ok-true.field-0-test in
      omega (arith, counted, falls);
  place = going-more g.T.ValueReader.codec c.args.reader.now c.entries.reader c.advance.new.self c.in-Ok-true.field-0 c.entries.invariant.place c.in-Ok-true.field-0-test c.in-Ok-true.ensures.step c.in-Ok-true.ensures.stays;
}

pub returns-in-Equal-clause-found : goal.returns-in-Equal-clause-found
returns-in-Equal-clause-found g c = λ entries one left rising.
    let l = looked-at g.T.ValueReader.codec c.entries.reader c.advance.new.self c.args.key.now c.entries.below entries c.entries.comparator c.compare.new.self c.common_prefix_len.result c.suffix.result.now Equal c.in-Ok-true.field-0
    (c.entries.invariant.still entries one left rising) c.in-Ok-true.field-0-test c.in-Ok-true.ensures.run c.in-Ok-true.ensures.stays c.common_prefix_len.ensures c.suffix.ensures c.in-Equal.ensures in
    looked-equal g.T.ValueReader.codec c.advance.new.self c.args.key.now c.entries.below entries c.compare.new.self l

pub returns-in-Greater-clause-found : goal.returns-in-Greater-clause-found
returns-in-Greater-clause-found g c = λ entries one left rising.
    let l = looked-at g.T.ValueReader.codec c.entries.reader c.advance.new.self c.args.key.now c.entries.below entries c.entries.comparator c.compare.new.self c.common_prefix_len.result c.suffix.result.now Greater c.in-Ok-true.field-0
    (c.entries.invariant.still entries one left rising) c.in-Ok-true.field-0-test c.in-Ok-true.ensures.run c.in-Ok-true.ensures.stays c.common_prefix_len.ensures c.suffix.ensures c.in-Greater.ensures in
    looked-greater g.T.ValueReader.codec c.advance.new.self c.args.key.now c.entries.below entries c.compare.new.self l

pub returns-in-Ok-false-clause-found : goal.returns-in-Ok-false-clause-found
returns-in-Ok-false-clause-found g c = λ entries one left rising.
    still-end g.T.ValueReader.codec c.entries.reader c.advance.new.self c.entries.comparator c.args.key.now c.entries.below entries c.in-Ok-false.field-0 (c.entries.invariant.still entries one left rising) c.in-Ok-false.field-0-test c.in-Ok-false.ensures.run

pub returns-in-Err-clause-found : goal.returns-in-Err-clause-found
returns-in-Err-clause-found g c = λ entries one left rising.
    let s = c.entries.invariant.still entries one left rising in
    c.in-Err.ensures.run s.last s.rest s.one s.left

pub returns-in-Err-clause-compressed : goal.returns-in-Err-clause-compressed
returns-in-Err-clause-compressed g c = going-stopped g.T.ValueReader.codec c.args.reader.now c.entries.reader c.advance.new.self c.in-Err.e c.entries.invariant.place c.in-Err.ensures.step

pub returns-in-Equal-clause-stands : goal.returns-in-Equal-clause-stands
returns-in-Equal-clause-stands g c = stands-here c.advance.new.self c.in-Ok-true.field-0 c.in-Ok-true.field-0-test c.in-Ok-true.ensures.stays
