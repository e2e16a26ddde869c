use Rattle.std.proofs.Common.{◌≡◌, ℕ, ◌<◌, length}
use Rattle.tantivy_stacker.specs.Maps.{IsTaken, home, turn}
use Rattle.tantivy_stacker.proofs.table.free_place.Given as goal

abbrev pub invariant-loop-step : goal.invariant-loop-step
invariant-loop-step l =
    (l.bucket ≡ turn (length l.places) (home (length l.places) l.hash) l._step) × (l.bucket < length l.places) × ((d : ℕ) → d < l._step → IsTaken l.places (turn (length l.places) (home (length l.places) l.hash) d))
