use Rattle.std.proofs.Common.{Bool, true, false, Ok, Err, ap, sym, ◌∙◌, subst}
use Rattle.sstable_streams.specs.declared.streamer.Standing.TheVariants.{AtEntry, Ended, Failed}
use Rattle.sstable_streams.specs.Steps.{current_of}
use Rattle.sstable_streams.specs.Streams.{HasRest, IsLeft, Takes}
use Rattle.sstable_streams.specs.Places.{place_of}
use Rattle.sstable_streams.proofs.StreamLaws.{rest-left, answers}
use Rattle.sstable_streams.proofs.streamer.EntryStreamer.advance.Goals as goal
use Rattle.sstable_streams.proofs.streamer.EntryStreamer.advance.Goals.{in-Ok-true, in-Ok-false, in-Err}

pub returns-clause-entry : goal.returns-clause-entry
returns-clause-entry g c rest left =
    let C = g.T.ValueReader.codec in
    let M = g.A.Automaton.machine in
    let K = g.K.KeyTracking.tracked in
    let new = c.seek-answer.new.self in
    let now = current_of new.ord (K new.trail.key) new.delta_reader.walk.current in
    let there = rest-left C M K c.self.inside.cursor c.self.inside.standing rest c.in_default.not-Ended c.in_default.not-Failed (subst (λ s. HasRest C M s rest) (sym c.self.view_is) left) in
    elim c.match-answer.branch [
      | in-Ok-true w ↦ answers C M K new c.match-answer.self AtEntry now rest c.match-answer.answer (Ok true) w.self-is (w.answer-is ∙ ap (λ b. Ok b) w.in-Ok-true.field-0-test)
          (subst (λ (b : Bool). Takes (IsLeft (place_of C M K new)) now rest (Ok b)) w.in-Ok-true.field-0-test (w.in-Ok-true.ensures.entries rest there))
      | in-Ok-false w ↦ answers C M K new c.match-answer.self Ended now rest c.match-answer.answer (Ok false) w.self-is (w.answer-is ∙ ap (λ b. Ok b) w.in-Ok-false.field-0-test)
          (subst (λ (b : Bool). Takes (IsLeft (place_of C M K new)) now rest (Ok b)) w.in-Ok-false.field-0-test (w.in-Ok-false.ensures.entries rest there))
      | in-Err w ↦ answers C M K new c.match-answer.self (Failed w.in-Err.error) now rest c.match-answer.answer (Err w.in-Err.error) w.self-is w.answer-is (w.in-Err.ensures.entries rest there)
    ]
