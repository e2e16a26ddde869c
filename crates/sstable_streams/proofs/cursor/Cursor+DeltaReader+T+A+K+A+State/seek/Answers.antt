use Rattle.std.proofs.Common.{Bool, true, Ok, subst, arith}
use Rattle.sstable_streams.specs.Held.{KeepsHeld}
use Rattle.sstable_streams.proofs.HeldLaws.{keeps-on, keeps-error}
use Rattle.sstable_streams.specs.Steps.{current_of}
use Rattle.sstable_streams.specs.Places.{place_of}
use Rattle.sstable_streams.proofs.StepLaws.{seek-end, seek-above, seek-found, seek-on}
use Rattle.sstable_streams.proofs.cursor.Cursor+DeltaReader+T+A+K+A+State.seek.Goals as goal

pub returns-in-Ok-false-clause-entries : goal.returns-in-Ok-false-clause-entries
returns-in-Ok-false-clause-entries g c rest left =
    let new = c.step.new.self in
    seek-end (place_of g.T.ValueReader.codec g.A.Automaton.machine g.K.KeyTracking.tracked c.entries.self) (place_of g.T.ValueReader.codec g.A.Automaton.machine g.K.KeyTracking.tracked new)
    (current_of new.ord (g.K.KeyTracking.tracked new.trail.key) new.delta_reader.walk.current) rest c.in-Ok-false.field-0 c.in-Ok-false.field-0-test c.in-Ok-false.ensures.entries (c.entries.invariant.same_rest rest left)

pub returns-in-Err-clause-entries : goal.returns-in-Err-clause-entries
returns-in-Err-clause-entries g c rest left =
    let there = c.entries.invariant.same_rest rest left in
    c.in-Err.ensures.entries there.last there.entries there.has

pub returns-then-not-is_below_upper-clause-entries :
    goal.returns-then-not-is_below_upper-clause-entries
returns-then-not-is_below_upper-clause-entries g c rest left =
    let new = c.step.new.self in
    seek-above (place_of g.T.ValueReader.codec g.A.Automaton.machine g.K.KeyTracking.tracked c.entries.self) (place_of g.T.ValueReader.codec g.A.Automaton.machine g.K.KeyTracking.tracked new)
    (current_of new.ord (g.K.KeyTracking.tracked new.trail.key) new.delta_reader.walk.current) rest c.in-Ok-true.field-0 c.is_below_upper.result c.in-Ok-true.field-0-test c.in-Ok-true.ensures.entries
    (c.in-Ok-true.ensures.same c.in-Ok-true.field-0-test) c.is_below_upper.ensures c.if-not-is_below_upper.true (c.entries.invariant.same_rest rest left)

pub returns-then-is_taken-clause-entries : goal.returns-then-is_taken-clause-entries
returns-then-is_taken-clause-entries g c rest left =
    let new = c.step.new.self in
    seek-found (place_of g.T.ValueReader.codec g.A.Automaton.machine g.K.KeyTracking.tracked c.entries.self) (place_of g.T.ValueReader.codec g.A.Automaton.machine g.K.KeyTracking.tracked new)
    (current_of new.ord (g.K.KeyTracking.tracked new.trail.key) new.delta_reader.walk.current) rest c.in-Ok-true.field-0 c.is_below_upper.result c.is_taken.result c.in-Ok-true.field-0-test c.in-Ok-true.ensures.entries
    (c.in-Ok-true.ensures.same c.in-Ok-true.field-0-test) c.is_below_upper.ensures c.if-not-is_below_upper.false c.is_taken.ensures c.if-is_taken.true (c.entries.invariant.same_rest rest left)

pub entries-preserved : goal.entries-preserved
entries-preserved g c =
    let new = c.step.new.self in
    record {
      same_rest = λ rest left.
          seek-on (place_of g.T.ValueReader.codec g.A.Automaton.machine g.K.KeyTracking.tracked c.entries.self) (place_of g.T.ValueReader.codec g.A.Automaton.machine g.K.KeyTracking.tracked new)
          (current_of new.ord (g.K.KeyTracking.tracked new.trail.key) new.delta_reader.walk.current) rest c.in-Ok-true.field-0 c.is_below_upper.result c.is_taken.result c.in-Ok-true.field-0-test c.in-Ok-true.ensures.entries
          (c.in-Ok-true.ensures.same c.in-Ok-true.field-0-test) c.is_below_upper.ensures c.if-not-is_below_upper.false c.is_taken.ensures c.if-is_taken.false (c.entries.invariant.same_rest rest left);
      kept = keeps-on c.args.self.now.delta_reader c.entries.self.delta_reader new.delta_reader c.entries.invariant.kept
          (subst (λ (b : Bool). KeepsHeld c.entries.self.delta_reader new.delta_reader (Ok b)) c.in-Ok-true.field-0-test c.in-Ok-true.ensures.held);
      fewer = let falls = c.in-Ok-true.ensures.falls c.in-Ok-true.field-0-test in omega arith;
    }

pub returns-in-Err-clause-held : goal.returns-in-Err-clause-held
returns-in-Err-clause-held g c =
    keeps-error c.args.self.now.delta_reader c.entries.self.delta_reader c.step.new.self.delta_reader c.in-Err.error c.entries.invariant.kept c.in-Err.ensures.held

pub returns-then-is_taken-clause-held : goal.returns-then-is_taken-clause-held
returns-then-is_taken-clause-held g c =
    keeps-on c.args.self.now.delta_reader c.entries.self.delta_reader c.step.new.self.delta_reader c.entries.invariant.kept
    (subst (λ (b : Bool). KeepsHeld c.entries.self.delta_reader c.step.new.self.delta_reader (Ok b)) c.in-Ok-true.field-0-test c.in-Ok-true.ensures.held)
