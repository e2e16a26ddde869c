use Rattle.std.proofs.Common.{List, ◌≤◌, Ok, true}
use Rattle.sstable_blocks.specs.Placed.{Placed}
use Rattle.sstable_blocks.specs.Slices.{bytes_left}
use Rattle.sstable_streams.specs.Held.{KeepsHeld}
use Rattle.sstable_streams.specs.Streams.{IsLeft}
use Rattle.sstable_streams.specs.Places.{place_of}
use Rattle.sstable_streams.proofs.cursor.Cursor+DeltaReader+T+A+K+A+State.seek.Given as goal

abbrev pub invariant-entries : goal.invariant-entries
invariant-entries g l = record {
  same_rest : (rest : List (Placed _)) → IsLeft (place_of g.T.ValueReader.codec g.A.Automaton.machine g.K.KeyTracking.tracked l.fn.self) rest
      → IsLeft (place_of g.T.ValueReader.codec g.A.Automaton.machine g.K.KeyTracking.tracked l.self) rest;
  kept : KeepsHeld l.fn.self.delta_reader l.self.delta_reader (Ok true);
  fewer : bytes_left l.self.delta_reader ≤ bytes_left l.fn.self.delta_reader;
}

abbrev pub decreases-entries : goal.decreases-entries
decreases-entries g l = bytes_left l.self.delta_reader
