-- The values of a block.
use Rattle.std.specs.Prelude.{◌≡◌, ℕ, ◌<◌, List, [], ◌∷◌, ◌++◌, length, drop, Option, Some, None, slice_get}

-- One value for each place, or the same one at every place.
pub data Values (V : Type 0) : Type 0 where
  Listed : List V → Values V
  Everywhere : V → Values V

-- the values that stand one after the other
abbrev pub listed : {V : Type 0} → Values V → List V
listed (Listed values) = values
listed (Everywhere value) = []

-- the value at a place, where there is one
abbrev pub value_at : {V : Type 0} → Values V → ℕ → Option V
value_at (Listed values) i = slice_get values i
value_at (Everywhere value) i = Some value

-- how many values there are, where that is told
abbrev pub count_of : {V : Type 0} → Values V → Option ℕ
count_of (Listed values) = Some (length values)
count_of (Everywhere value) = None

-- the values from a place on
abbrev pub values_from : {V : Type 0} → ℕ → Values V → Values V
values_from n (Listed values) = Listed (drop n values)
values_from n (Everywhere value) = Everywhere value

-- there is a value at the place
abbrev pub HasPlace : {V : Type 0} → Values V → ℕ → Type 0
HasPlace (Listed values) i = i < length values
HasPlace (Everywhere value) i = Unit {0}

-- One more value: it comes last, or is the one that stands everywhere.
abbrev pub Gains : {V : Type 0} → Values V → V → Values V → Type 0
Gains (Listed values) v new = new ≡ Listed (values ++ v ∷ [])
Gains (Everywhere value) v new = (new ≡ Everywhere value) × (v ≡ value)
