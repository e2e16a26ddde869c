use Rattle.tantivy_stacker.proofs.Entries.{IsSearching}
use Rattle.tantivy_stacker.proofs.shared_arena_hashmap.find.Given as goal

abbrev pub invariant-loop-step : goal.invariant-loop-step
invariant-loop-step l = IsSearching l.arena l.places l.key l.hash l._step l.bucket
