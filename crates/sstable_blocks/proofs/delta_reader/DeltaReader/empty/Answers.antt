use Rattle.std.proofs.Common.{◌≡◌, [], ap, subst, ◌∙◌}
use Rattle.std.specs.Result.{IsOkAnd}
use Rattle.sstable_blocks.specs.BlockReader.{before_bytes}
use Rattle.sstable_blocks.specs.Run.{run_of}
use Rattle.sstable_blocks.specs.Slices.{Begins, placed_run}
use Rattle.sstable_blocks.proofs.SliceLaws.{run_of-none, placed_run-none}
use Rattle.sstable_blocks.proofs.delta_reader.DeltaReader.empty.Goals as goal

pub returns-clause-begins : goal.returns-clause-begins
returns-clause-begins g c =
    let none : c.unwrap.result ≡ [] = subst (λ r. IsOkAnd r (λ bytes. bytes ≡ [])) c.unwrap.ensures c.empty.ensures in
    subst (λ bytes. Begins g.T.ValueReader.codec c.new.result (before_bytes bytes 0)) none c.new.ensures.begins

pub returns-clause-run : goal.returns-clause-run
returns-clause-run g c =
    let none : c.unwrap.result ≡ [] = subst (λ r. IsOkAnd r (λ bytes. bytes ≡ [])) c.unwrap.ensures c.empty.ensures in
    c.new.ensures.run ∙ ap (run_of g.T.ValueReader.codec) none ∙ run_of-none g.T.ValueReader.codec

pub returns-clause-entries : goal.returns-clause-entries
returns-clause-entries g c next =
    let none : c.unwrap.result ≡ [] = subst (λ r. IsOkAnd r (λ bytes. bytes ≡ [])) c.unwrap.ensures c.empty.ensures in
    c.new.ensures.entries next ∙ ap (placed_run g.T.ValueReader.codec next) none ∙ placed_run-none g.T.ValueReader.codec next
