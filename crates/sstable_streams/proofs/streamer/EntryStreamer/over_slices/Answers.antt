use Rattle.std.proofs.Common.{sym, subst}
use Rattle.sstable_streams.specs.Held.{HoldsSlices}
use Rattle.sstable_streams.proofs.HeldLaws.{begins-held}
use Rattle.sstable_streams.proofs.StreamLaws.{if_ok-onward}
use Rattle.sstable_streams.proofs.streamer.EntryStreamer.over_slices.Goals as goal

pub returns-clause-rest : goal.returns-clause-rest
returns-clause-rest g c =
    if_ok-onward c.new.result (λ s read. λ entries placed rising. read entries (c.from_multiple_blocks-delta_reader.ensures.entries 0 entries placed) rising) c.new.ensures.rest

pub returns-clause-held : goal.returns-clause-held
returns-clause-held g c =
    if_ok-onward c.new.result (λ s is. subst (λ reader. HoldsSlices c.args.slices.items reader) (sym is) (begins-held g.T.ValueReader.codec c.args.slices.items c.from_multiple_blocks-delta_reader.result c.from_multiple_blocks-delta_reader.ensures.begins)) c.new.ensures.reader
