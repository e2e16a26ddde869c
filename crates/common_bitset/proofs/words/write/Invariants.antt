use Rattle.std.proofs.Common.{◌≤◌}
use Rattle.std.specs.Io.KnownBytes.{Appends}
use Rattle.common_bitset.specs.Subset.{word_at, words_bytes}
use Rattle.common_bitset.proofs.words.write.Given as goal

abbrev pub invariant-loop-k : goal.invariant-loop-k
invariant-loop-k g l = record {
  written : Appends (g.W.Sink.written l.initial.writer) (g.W.Sink.written l.writer) (words_bytes l.k (word_at l.words));
  later : g.W.Sink.faults l.initial.writer ≤ g.W.Sink.faults l.writer;
}
