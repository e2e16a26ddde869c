use Rattle.std.proofs.Common.{◌++◌, ◌∷◌, [], Err}
use Rattle.owned_bytes.proofs.InTurn.{AppendsPrefix-first, AppendsPrefix-second}
use Rattle.sstable_index.specs.Building.{index_part}
use Rattle.sstable_tables.specs.Made.{footer}
use Rattle.sstable_tables.proofs.Finishing.{index-bytes}
use Rattle.sstable_tables.proofs.writer.write_end.Goals as goal

pub returns-in-Err-serialize-clause-bytes : goal.returns-in-Err-serialize-clause-bytes
returns-in-Err-serialize-clause-bytes g c =
    AppendsPrefix-second (g.W.Sink.written c.args.sink.now) (g.W.Sink.written c.append.new.sink) _ (0 ∷ 0 ∷ 0 ∷ 0 ∷ []) (index_part c.args.index_builder.now ++ footer c.args.index_offset c.args.num_terms) c.in-Ok.ensures.bytes
    (AppendsPrefix-first _ _ (index_part c.args.index_builder.now) (footer c.args.index_offset c.args.num_terms)
    (index-bytes c.args.index_builder.now (g.W.Sink.written c.append.new.sink) _ (Err c.in-Err-serialize.error) c.in-Err-serialize.ensures.serializes c.requires))

pub returns-in-Err-clause-bytes : goal.returns-in-Err-clause-bytes
returns-in-Err-clause-bytes g c =
    AppendsPrefix-first _ _ (0 ∷ 0 ∷ 0 ∷ 0 ∷ []) (index_part c.args.index_builder.now ++ footer c.args.index_offset c.args.num_terms) c.in-Err.ensures.bytes
