-- Which ranges may follow each other.
use Rattle.std.specs.Prelude.{ℕ, List, [], ◌∷◌, Bool, true, nat_le, ◌&&◌, ◌==◌}
use Rattle.std.specs.declared.ops.Range.{Range}
use Rattle.sstable_values.specs.Values.{Values, listed}

-- the last range, where there is one, ends at the place
abbrev pub ends_at : List (Range ℕ) → ℕ → Bool
ends_at [] place = true
ends_at (range ∷ []) place = range.end == place
ends_at (range ∷ next ∷ ranges) place = ends_at (next ∷ ranges) place

-- a range may come after these: its end isn't below its start, and its start is the last end
abbrev pub may_adjoin : Values (Range ℕ) → Range ℕ → Bool
may_adjoin values range = nat_le range.start range.end && ends_at (listed values) range.start
