use Rattle.std.proofs.Common.{◌∙◌, ap, subst, Bool, Ok, ◌++◌}
use Rattle.sstable_blocks.specs.Slices.{GivesHere, Stays}
use Rattle.sstable_tables.proofs.ReaderLaws.{gives-entry}
use Rattle.sstable_tables.proofs.reader.Reader.advance.Goals as goal

pub returns-in-Ok-clause-entries : goal.returns-in-Ok-clause-entries
returns-in-Ok-clause-entries g c =
    rw (← c.self.view_is) (gives-entry g.T.ValueReader.codec c.self.inside.delta_reader c.advance.new.self c.self.inside.key.items _ c.common_prefix_len.result c.suffix.result.now c.self.inside.lost_key c.if-self.false
    (subst (λ (b : Bool). GivesHere g.T.ValueReader.codec c.self.inside.delta_reader c.advance.new.self (Ok b)) c.if-not-branch.false c.in_ok-advance.ensures.run)
    (subst (λ (b : Bool). Stays c.advance.new.self (Ok b)) c.if-not-branch.false c.in_ok-advance.ensures.stays)
    c.common_prefix_len.ensures c.suffix.ensures (c.in-Ok.ensures.items ∙ ap (λ l. l ++ c.suffix.result.now) c.truncate.ensures.items))
