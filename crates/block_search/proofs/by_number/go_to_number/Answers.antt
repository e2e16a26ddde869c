use Rattle.std.proofs.Common.{[], refl, unwrap_or, arith}
use Rattle.block_search.proofs.Skipping.{skips-begin, passed, passed-more, passed-here, skips-end}
use Rattle.block_search.proofs.Places.{going-begin, going-more, going-stopped, going-reached}
use Rattle.block_search.proofs.by_number.go_to_number.Goals as goal

pub entries-init : goal.entries-init
entries-init g c = record {
  skips = λ before entries one left. (unwrap_or before [], skips-begin g.T.ValueReader.codec c.args.reader.now c.args.number before (unwrap_or before []) entries refl one left);
  place = going-begin c.args.reader.now;
}

pub entries-preserved : goal.entries-preserved
entries-preserved g c = record {
  skips = λ before entries one left.
      let s = c.entries.invariant.skips before entries one left in
      let p = passed g.T.ValueReader.codec c.entries.reader c.advance.new.self c.entries.ahead c.args.number s.0 entries c.in-Ok-true.field-0 s.1 c.in-Ok-true.field-0-test c.in-Ok-true.ensures.run c.in-Ok-true.ensures.stays in
      (p.0, passed-more g.T.ValueReader.codec c.advance.new.self c.entries.ahead c.args.number p.0 entries p.1 (omega arith));
  place = going-more g.T.ValueReader.codec c.args.reader.now c.entries.reader c.advance.new.self c.in-Ok-true.field-0 c.entries.invariant.place c.in-Ok-true.field-0-test c.in-Ok-true.ensures.step c.in-Ok-true.ensures.stays;
}

pub returns-then-ahead-eq0-clause-found : goal.returns-then-ahead-eq0-clause-found
returns-then-ahead-eq0-clause-found g c = λ before entries one left.
    let s = c.entries.invariant.skips before entries one left in
    let p = passed g.T.ValueReader.codec c.entries.reader c.advance.new.self c.entries.ahead c.args.number s.0 entries c.in-Ok-true.field-0 s.1 c.in-Ok-true.field-0-test c.in-Ok-true.ensures.run c.in-Ok-true.ensures.stays in
    (p.0, passed-here g.T.ValueReader.codec c.advance.new.self c.entries.ahead c.args.number p.0 entries p.1 (omega arith))

pub returns-in-Ok-false-clause-found : goal.returns-in-Ok-false-clause-found
returns-in-Ok-false-clause-found g c = λ before entries one left.
    let s = c.entries.invariant.skips before entries one left in
    (s.0, skips-end g.T.ValueReader.codec c.entries.reader c.advance.new.self c.entries.ahead c.args.number s.0 entries c.in-Ok-false.field-0 s.1 c.in-Ok-false.field-0-test c.in-Ok-false.ensures.run)

pub returns-in-Err-clause-found : goal.returns-in-Err-clause-found
returns-in-Err-clause-found g c = λ before entries one left.
    let s = c.entries.invariant.skips before entries one left in
    (s.0, c.in-Err.ensures.run s.1.last s.1.rest s.1.one s.1.left)

pub returns-in-Err-clause-compressed : goal.returns-in-Err-clause-compressed
returns-in-Err-clause-compressed g c = going-stopped g.T.ValueReader.codec c.args.reader.now c.entries.reader c.advance.new.self c.in-Err.e c.entries.invariant.place c.in-Err.ensures.step

pub returns-then-ahead-eq0-clause-stands : goal.returns-then-ahead-eq0-clause-stands
returns-then-ahead-eq0-clause-stands g c = going-reached g.T.ValueReader.codec c.args.reader.now c.entries.reader c.advance.new.self c.in-Ok-true.field-0 c.entries.invariant.place c.in-Ok-true.field-0-test c.in-Ok-true.ensures.step c.in-Ok-true.ensures.stays
