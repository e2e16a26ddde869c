-- The places of the numbers within two bounds.
use Rattle.std.specs.Prelude.{◌≡◌, ℕ, ◌+◌, ◌-◌, ◌≤◌, List, [], ◌∷◌, length, take, drop, if◌then◌else◌}
use Rattle.std.specs.Int.{is_in_range}
use Rattle.std.specs.Range.{range_inclusive_start, range_inclusive_end}
use Rattle.std.specs.declared.ops.Range.{Range}
use Rattle.std.specs.declared.ops.RangeInclusive.{RangeInclusive}
use Rattle.tantivy_bitpacker.specs.Packed.{unpacked_from}

-- The places, counted from `place` on, of the values from `low` to `high`.
unfoldable pub places_within : ℕ → ℕ → ℕ → List ℕ → List ℕ
places_within low high place [] = []
places_within low high place (value ∷ values) =
    if is_in_range low high value then place ∷ places_within low high (place + 1) values else places_within low high (place + 1) values

-- The places from `first` on and before `end` whose packed values are from `low` to `high`.
abbrev pub ids_within : ℕ → ℕ → ℕ → ℕ → ℕ → List ℕ → List ℕ
ids_within low high first end width bytes = places_within low high first (unpacked_from first (end - first) width bytes)

-- The places, counted from `place` on, of the values within a range.
abbrev pub places_in : RangeInclusive ℕ → ℕ → List ℕ → List ℕ
places_in values place = places_within (range_inclusive_start values) (range_inclusive_end values) place

-- Those of a range of places whose packed values lie within a range.
abbrev pub ids_in : RangeInclusive ℕ → Range ℕ → ℕ → List ℕ → List ℕ
ids_in values ids width bytes = ids_within (range_inclusive_start values) (range_inclusive_end values) ids.start ids.end width bytes

-- Those of so many places from `first` on whose packed values are from `low` to `low + span`.
abbrev pub ids_above : ℕ → ℕ → ℕ → ℕ → ℕ → List ℕ → List ℕ
ids_above low span first count width bytes = places_within low (low + span) first (unpacked_from first count width bytes)

-- The same of a range of places.
abbrev pub ids_of : ℕ → ℕ → Range ℕ → ℕ → List ℕ → List ℕ
ids_of low span ids width bytes = ids_above low span ids.start (ids.end - ids.start) width bytes

-- A filter in place has come to the value i: the list that began as xs has the places of the values before it in front,
-- and is as it was from there on.
pub record Filtering (low high offset : ℕ) (xs now : List ℕ) (kept i : ℕ) : Type 0 where
  pub front : take kept now ≡ places_within low high offset (take i xs)
  pub rest : drop i now ≡ drop i xs
  pub behind : kept ≤ i
  pub long : length now ≡ length xs

-- Of whatever list a filter in place has come to the value i, the first `end` items now are the places of all its values.
abbrev pub FiltersRest : ℕ → ℕ → ℕ → ℕ → ℕ → List ℕ → List ℕ → ℕ → Type 0
FiltersRest low high offset kept i old new end = (xs : List ℕ) → Filtering low high offset xs old kept i → take end new ≡ places_within low high offset xs
