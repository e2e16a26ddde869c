-- The bounds of keys that vectors hold.
use Rattle.std.specs.Prelude.{ℕ, Vec}
use Rattle.std.specs.declared.ops.Bound.{Bound}
use Rattle.std.specs.declared.ops.Bound.TheVariants.{Included, Excluded, Unbounded}
use Rattle.owned_bytes.specs.Keys.{Key}

-- a bound at the bytes that a vector holds
abbrev pub bound_key : {G : Type 0} → Bound (Vec ℕ G) → Bound Key
bound_key (Included key) = Included key.items
bound_key (Excluded key) = Excluded key.items
bound_key Unbounded = Unbounded
