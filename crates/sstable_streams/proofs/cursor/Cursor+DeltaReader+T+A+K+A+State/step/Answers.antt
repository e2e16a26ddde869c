use Rattle.std.proofs.Common.{◌≡◌, Bool, Ok, Err, true, subst, ap, ◌∙◌}
use Rattle.sstable_blocks.specs.Slices.{GivesPlaced, position}
use Rattle.sstable_streams.specs.Steps.{next_of}
use Rattle.sstable_streams.specs.Places.{known_of, place_of}
use Rattle.sstable_streams.specs.Held.{KeepsHeld}
use Rattle.sstable_streams.proofs.HeldLaws.{keeps, keeps-taken}
use Rattle.sstable_streams.proofs.StepLaws.{steps}
use Rattle.sstable_streams.proofs.cursor.Cursor+DeltaReader+T+A+K+A+State.step.Goals as goal

pub returns-clause-entries : goal.returns-clause-entries
returns-clause-entries g c last entries has =
    let codec = g.T.ValueReader.codec in
    let self = c.args.self.now in
    steps (place_of codec g.A.Automaton.machine g.K.KeyTracking.tracked self) (known_of g.A.Automaton.machine g.K.KeyTracking.tracked c.follow.new.self) last entries c.advance.new.self c.take_first_ordinal-ordinal.new.self c.in-Some.ord c.common_prefix_len-keep.result c.suffix.result.now c.checked_add-self.result
    has
    (subst (λ (b : Bool). GivesPlaced codec last (next_of self.next) entries c.advance.new.self (Ok b)) c.in-Ok-true.field-0-test (c.in-Ok-true.ensures.entries last (next_of self.next) entries has.left))
    c.take_first_ordinal-ordinal.ensures.taken
    (c.in-Some.ensures.some ∙ ap (λ o. position o (next_of self.next)) c.take_first_ordinal-ordinal.ensures.value)
    c.common_prefix_len-keep.ensures c.suffix.ensures c.in_ok-follow.ensures.knows c.checked_add-self.ensures

pub returns-in-Err-clause-held : goal.returns-in-Err-clause-held
returns-in-Err-clause-held g c =
    keeps g.T.ValueReader.codec c.args.self.now.delta_reader c.advance.new.self (Err c.in-Err.error) c.in-Err.ensures.step c.in-Err.ensures.stays

pub returns-clause-held : goal.returns-clause-held
returns-clause-held g c =
    let old = c.args.self.now.delta_reader in
    let new = c.advance.new.self in
    keeps-taken old new c.take_first_ordinal-ordinal.new.self c.take_first_ordinal-ordinal.ensures.taken
    (subst (λ (b : Bool). KeepsHeld old new (Ok b)) c.in-Ok-true.field-0-test (keeps g.T.ValueReader.codec old new (Ok c.in-Ok-true.field-0) c.in-Ok-true.ensures.step c.in-Ok-true.ensures.stays))
