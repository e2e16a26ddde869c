-- Bounds of keys, and the keys within them.
use Rattle.std.specs.Prelude.{Bool, true, not, Option, Some, None}
use Rattle.std.specs.declared.ops.Bound.{Bound}
use Rattle.std.specs.declared.ops.Bound.TheVariants.{Included, Excluded, Unbounded}
use Rattle.owned_bytes.specs.Keys.{Key, is_below}

abbrev pub is_above_lower : Bound Key → Key → Bool
is_above_lower (Included bound) key = not (is_below key bound)
is_above_lower (Excluded bound) key = is_below bound key
is_above_lower Unbounded key = true

abbrev pub is_below_upper : Bound Key → Key → Bool
is_below_upper (Included bound) key = not (is_below bound key)
is_below_upper (Excluded bound) key = is_below key bound
is_below_upper Unbounded key = true

-- the key that a bound is at, where it is at one
abbrev pub target_of : Bound Key → Option Key
target_of (Included bound) = Some bound
target_of (Excluded bound) = Some bound
target_of Unbounded = None
