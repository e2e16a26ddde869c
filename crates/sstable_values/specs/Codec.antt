-- What the front of a block's content says of the values in the block.
use Rattle.std.specs.Prelude.{ℕ, zero, suc, ◌+◌, ◌-◌, ◌^◌, ◌<◌, All, Vec, List, [], ◌∷◌, ◌++◌, length, map, Bool, true, false, nat_lt, nat_le, ◌&&◌, ◌==◌, Option, None, Some}
use Rattle.std.specs.Int.{w32, to_le_bytes}
use Rattle.std.specs.List.{flat_map}
use Rattle.std.specs.declared.ops.Range.{Range}
use Rattle.owned_bytes.specs.Front.{Reading, number_at, counted}
use Rattle.owned_bytes.specs.Reader.{◌>>=◌, give, only_if}
use Rattle.sstable_values.specs.Vint.{vint, vint_at}
use Rattle.sstable_values.specs.Values.{Values, Listed, Everywhere, listed}
use Rattle.sstable_values.specs.Range.{may_adjoin}

-- A way to store values.
pub record Codec (V : Type 0) : Type 0 where
  -- the values at the front of a block's content
  pub values_of : Reading (Values V)
  -- the bytes that values are written as
  pub spelled : Values V → List ℕ
  -- a value may come after these
  pub accepts : Values V → V → Bool
  -- the value that stands at every place, of a way that stores none
  pub everywhere : Option V
  -- the first key of a block may go on from the last key of the block before
  pub goes_on : Bool

-- the one value that stands everywhere, or else none
abbrev pub everywhere_or_none : {V : Type 0} → Option V → Values V
everywhere_or_none None = Listed []
everywhere_or_none (Some value) = Everywhere value

-- what there is before any value was read or written
abbrev pub no_values : {V : Type 0} → Codec V → Values V
no_values codec = everywhere_or_none codec.everywhere

-- So many numbers, each stored as its difference from the one before it, the first from start.
unfoldable pub sums_at : ℕ → ℕ → Reading (List ℕ)
sums_at zero start = give []
sums_at (suc n) start = do
  difference ← vint_at
  only_if (nat_lt (start + difference) (2 ^ 64)) do
    others ← sums_at n (start + difference)
    give ((start + difference) ∷ others)

-- how many, and then the numbers
unfoldable pub rising_numbers_at : Reading (List ℕ)
rising_numbers_at = do
  count ← vint_at
  sums_at count 0

-- no number is below the one before it, the first not below start
abbrev pub never_falls : ℕ → List ℕ → Bool
never_falls start [] = true
never_falls start (n ∷ ns) = nat_le start n && never_falls n ns

-- the numbers, each stored as its difference from the one before it, the first from start
unfoldable pub sums : ℕ → List ℕ → List ℕ
sums start [] = []
sums start (n ∷ ns) = vint (n - start) ++ sums n ns

-- how many, and then the numbers
abbrev pub rising_numbers : List ℕ → List ℕ
rising_numbers ns = vint (length ns) ++ sums 0 ns

-- what can bound ranges: none, or two and more
abbrev pub are_bounds : List ℕ → Bool
are_bounds [] = true
are_bounds (a ∷ []) = false
are_bounds (a ∷ b ∷ bounds) = never_falls a (b ∷ bounds)

-- the ranges between neighbours
abbrev pub spans_between : List ℕ → List (Range ℕ)
spans_between [] = []
spans_between (a ∷ []) = []
spans_between (a ∷ b ∷ bounds) = record { start = a; end = b } ∷ spans_between (b ∷ bounds)

-- the bounds of ranges that adjoin
abbrev pub bounds_of : List (Range ℕ) → List ℕ
bounds_of [] = []
bounds_of (range ∷ ranges) = range.start ∷ map (λ (r : Range ℕ). r.end) (range ∷ ranges)

-- the last of the values, where there is one, is so
abbrev pub last_is : {V : Type 0} → (V → Bool) → List V → Bool
last_is test [] = true
last_is test (value ∷ []) = test value
last_is test (value ∷ next ∷ values) = last_is test (next ∷ values)

-- where a block stands, and the position of its first key
pub record Address : Type 0 where
  pub start : ℕ
  pub end : ℕ
  pub first_ordinal : ℕ

-- so many addresses, each as its length and its ordinal's difference; the first starts at start, and follows ordinal
unfoldable pub addresses_at : ℕ → ℕ → ℕ → Reading (List Address)
addresses_at zero start ordinal = give []
addresses_at (suc n) start ordinal = do
  len ← vint_at
  difference ← vint_at
  only_if (nat_lt (start + len) (2 ^ 64)) do
    only_if (nat_lt (ordinal + difference) (2 ^ 64)) do
      others ← addresses_at n (start + len) (ordinal + difference)
      give (record { start = start; end = start + len; first_ordinal = ordinal + difference } ∷ others)

-- each address as its length and its ordinal's difference from the one before, the first from ordinal
unfoldable pub addresses : ℕ → List Address → List ℕ
addresses ordinal [] = []
addresses ordinal (address ∷ others) =
    vint (address.end - address.start) ++ vint (address.first_ordinal - ordinal) ++ addresses address.first_ordinal others

-- where the first address starts
abbrev pub first_start : List Address → ℕ
first_start [] = 0
first_start (address ∷ others) = address.start

-- a block comes after another one: it starts where that one ends, and its ordinal isn't lower
abbrev pub comes_after : Address → Address → Bool
comes_after address before = before.end == address.start && nat_le before.first_ordinal address.first_ordinal

-- each block comes after the one before it, and ends at its start or above; the first starts at start, and its ordinal
-- isn't below ordinal
abbrev pub adjoin_from : ℕ → ℕ → List Address → Bool
adjoin_from start ordinal [] = true
adjoin_from start ordinal (address ∷ others) =
    nat_le address.start address.end && (start == address.start && nat_le ordinal address.first_ordinal)
    && adjoin_from address.end address.first_ordinal others

-- the places of blocks that adjoin
abbrev pub are_in_turn : List Address → Bool
are_in_turn found = adjoin_from (first_start found) 0 found

-- counts and lengths of 32 bits are below this
abbrev pub count_limit : ℕ
count_limit = 2 ^ 32

-- a count of 32 bits, and so many numbers of 32 bits
abbrev pub list_at : Reading (List ℕ)
list_at = do
  count ← number_at w32
  counted count (number_at w32)

abbrev pub list : List ℕ → List ℕ
list numbers = to_le_bytes w32 (length numbers) ++ flat_map (to_le_bytes w32) numbers

-- a count of 32 bits holds how many lists there are, and how long each is
abbrev pub AreCountable : List (List ℕ) → Type 0
AreCountable lists = (length lists < count_limit) × All (λ numbers. length numbers < count_limit) lists

-- the numbers of each vector
abbrev pub items_of : {A : Type 0} → List (Vec ℕ A) → List (List ℕ)
items_of vectors = map (λ numbers. numbers.items) vectors

-- no value but one, which takes no byte
unfoldable pub void : Codec (Unit {0})
void = record {
  values_of = give (Everywhere tt);
  spelled = λ values. [];
  accepts = λ values value. true;
  everywhere = Some tt;
  goes_on = false;
}

-- numbers that don't fall
unfoldable pub monotonic_u64 : Codec ℕ
monotonic_u64 = record {
  values_of = rising_numbers_at >>= (λ numbers. give (Listed numbers));
  spelled = λ values. rising_numbers (listed values);
  accepts = λ values n. last_is (λ last. nat_le last n) (listed values);
  everywhere = None;
  goes_on = false;
}

-- ranges, each of which starts where the one before ends
unfoldable pub range : Codec (Range ℕ)
range = record {
  values_of = rising_numbers_at >>= (λ bounds. give (Listed (spans_between bounds)));
  spelled = λ values. rising_numbers (bounds_of (listed values));
  accepts = may_adjoin;
  everywhere = None;
  goes_on = false;
}

-- lists of numbers of 32 bits
unfoldable pub vec_u32 : Codec (List ℕ)
vec_u32 = record {
  values_of = do
    count ← number_at w32
    lists ← counted count list_at
    give (Listed lists);
  spelled = λ values. to_le_bytes w32 (length (listed values)) ++ flat_map list (listed values);
  accepts = λ values numbers. nat_lt (length (listed values) + 1) count_limit && nat_lt (length numbers) count_limit;
  everywhere = None;
  goes_on = false;
}

-- addresses of blocks, each of which starts where the one before ends
unfoldable pub index : Codec Address
index = record {
  values_of = do
    count ← vint_at
    start ← vint_at
    found ← addresses_at count start 0
    give (Listed found);
  spelled = λ values. vint (length (listed values)) ++ vint (first_start (listed values)) ++ addresses 0 (listed values);
  accepts = λ values address. nat_le address.start address.end && last_is (comes_after address) (listed values);
  everywhere = None;
  goes_on = true;
}
