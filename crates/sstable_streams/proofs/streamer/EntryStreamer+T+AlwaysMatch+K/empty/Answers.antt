use Rattle.std.proofs.Common.{[]}
use Rattle.std.specs.declared.ops.Bound.TheVariants.{Unbounded}
use Rattle.fst_map.specs.Automaton.{always}
use Rattle.sstable_streams.proofs.StreamLaws.{if_ok-onward, rising-none, rest-none}
use Rattle.sstable_streams.proofs.streamer.EntryStreamer+T+AlwaysMatch+K.empty.Goals as goal

pub returns-clause-rest : goal.returns-clause-rest
returns-clause-rest g c =
    if_ok-onward c.new.result (λ s read. rest-none g.T.ValueReader.codec (λ _. always) Unbounded Unbounded always s (read [] (c.empty.ensures.entries 0) rising-none)) c.new.ensures.rest
