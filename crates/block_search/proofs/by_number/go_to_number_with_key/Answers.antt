use Rattle.std.proofs.Common.{◌++◌, ◌∙◌, ap, arith}
use Rattle.block_search.proofs.Skipping.{skips-begin, passed-key, passed-more, passed-here, skips-end}
use Rattle.block_search.proofs.Places.{going-begin, going-more, going-stopped, going-reached}
use Rattle.block_search.proofs.by_number.go_to_number_with_key.Goals as goal

pub entries-init : goal.entries-init
entries-init g c = record {
  skips = λ before entries one is left. skips-begin g.T.ValueReader.codec c.args.reader.now c.args.number before c.args.key.now.items entries is one left;
  place = going-begin c.args.reader.now;
}

pub entries-preserved : goal.entries-preserved
entries-preserved g c = record {
  skips = λ before entries one is left.
      let p = passed-key g.T.ValueReader.codec c.entries.reader c.advance.new.self c.entries.before c.args.number c.entries.key.items c.extend_from_slice.new.self.items entries c.in-Ok-true.field-0 c.common_prefix_len.result c.suffix.result.now
      (c.entries.invariant.skips before entries one is left) c.in-Ok-true.field-0-test c.in-Ok-true.ensures.run c.in-Ok-true.ensures.stays c.common_prefix_len.ensures c.suffix.ensures
      (c.in_ok-extend_from_slice.ensures.items ∙ ap (λ l. l ++ c.suffix.result.now) c.truncate.ensures.items) in
      passed-more g.T.ValueReader.codec c.advance.new.self c.entries.before c.args.number c.extend_from_slice.new.self.items entries p (omega arith);
  place = going-more g.T.ValueReader.codec c.args.reader.now c.entries.reader c.advance.new.self c.in-Ok-true.field-0 c.entries.invariant.place c.in-Ok-true.field-0-test c.in-Ok-true.ensures.step c.in-Ok-true.ensures.stays;
}

pub returns-then-before-eq0-clause-found : goal.returns-then-before-eq0-clause-found
returns-then-before-eq0-clause-found g c = λ before entries one is left.
    let p = passed-key g.T.ValueReader.codec c.entries.reader c.advance.new.self c.entries.before c.args.number c.entries.key.items c.extend_from_slice.new.self.items entries c.in-Ok-true.field-0 c.common_prefix_len.result c.suffix.result.now
    (c.entries.invariant.skips before entries one is left) c.in-Ok-true.field-0-test c.in-Ok-true.ensures.run c.in-Ok-true.ensures.stays c.common_prefix_len.ensures c.suffix.ensures
    (c.in_ok-extend_from_slice.ensures.items ∙ ap (λ l. l ++ c.suffix.result.now) c.truncate.ensures.items) in
    passed-here g.T.ValueReader.codec c.advance.new.self c.entries.before c.args.number c.extend_from_slice.new.self.items entries p (omega arith)

pub returns-in-Ok-false-clause-found : goal.returns-in-Ok-false-clause-found
returns-in-Ok-false-clause-found g c = λ before entries one is left.
    skips-end g.T.ValueReader.codec c.entries.reader c.advance.new.self c.entries.before c.args.number c.entries.key.items entries c.in-Ok-false.field-0 (c.entries.invariant.skips before entries one is left) c.in-Ok-false.field-0-test c.in-Ok-false.ensures.run

pub returns-in-Err-clause-found : goal.returns-in-Err-clause-found
returns-in-Err-clause-found g c = λ before entries one is left.
    let s = c.entries.invariant.skips before entries one is left in
    c.in-Err.ensures.run s.last s.rest s.one s.left

pub returns-in-Err-clause-compressed : goal.returns-in-Err-clause-compressed
returns-in-Err-clause-compressed g c = going-stopped g.T.ValueReader.codec c.args.reader.now c.entries.reader c.advance.new.self c.in-Err.e c.entries.invariant.place c.in-Err.ensures.step

pub returns-then-before-eq0-clause-stands : goal.returns-then-before-eq0-clause-stands
returns-then-before-eq0-clause-stands g c = going-reached g.T.ValueReader.codec c.args.reader.now c.entries.reader c.advance.new.self c.in-Ok-true.field-0 c.entries.invariant.place c.in-Ok-true.field-0-test c.in-Ok-true.ensures.step c.in-Ok-true.ensures.stays
