use Rattle.std.proofs.Common.{◌≡◌, subst, None}
use Rattle.sstable_blocks.specs.EntryReader.{sliced}
use Rattle.sstable_blocks.specs.Slices.{AnswersFinal, Steps}
use Rattle.sstable_blocks.proofs.SliceLaws.{gives_placed, gives_here}
use Rattle.sstable_blocks.proofs.delta_reader.DeltaReader.advance.Goals as goal

pub returns-clause-entries : goal.returns-clause-entries
returns-clause-entries g c =
    let new = sliced g.T.ValueReader.loaded c.advance.new.self in
    gives_placed g.T.ValueReader.codec c.args.self.now new c.advance.result
    (subst (λ old. AnswersFinal old new c.advance.result) c.self.view_is c.advance.ensures.for_good)
    c.advance.ensures.stays
    (subst (λ old. old.final ≡ None → Steps g.T.ValueReader.codec old new c.advance.result) c.self.view_is c.advance.ensures.step)

pub returns-clause-run : goal.returns-clause-run
returns-clause-run g c =
    let new = sliced g.T.ValueReader.loaded c.advance.new.self in
    gives_here g.T.ValueReader.codec c.args.self.now new c.advance.result
    (subst (λ old. AnswersFinal old new c.advance.result) c.self.view_is c.advance.ensures.for_good)
    c.advance.ensures.stays
    (subst (λ old. old.final ≡ None → Steps g.T.ValueReader.codec old new c.advance.result) c.self.view_is c.advance.ensures.step)
