-- Worked values.
use Rattle.std.specs.Prelude.{◌≡◌, ◌^◌, ◌-◌, ℕ, [], ◌∷◌, Some, None, true, false, codes, refl}
use Rattle.sstable_values.specs.Hex.{hex}
use Rattle.sstable_values.specs.Vint.{vint, vint_at}
use Rattle.sstable_values.specs.Values.{Listed}
use Rattle.sstable_values.specs.Codec.{Address, range, index, monotonic_u64, vec_u32}
use Rattle.sstable_values.specs.Computes.{computes}

pub vint-127 : vint 127 ≡ hex (codes "7f")
unfolding computes
vint-127 = refl

pub vint-128 : vint 128 ≡ hex (codes "8001")
unfolding computes
vint-128 = refl

pub vint-123423418 : vint 123423418 ≡ hex (codes "ba95ed3a")
unfolding computes
vint-123423418 = refl

pub vint-read : vint_at (hex (codes "ba95ed3a 05")) ≡ Some (123423418, 5 ∷ [])
unfolding computes
vint-read = refl

pub vint-greatest : vint_at (vint (2 ^ 64 - 1)) ≡ Some (2 ^ 64 - 1, [])
unfolding computes
vint-greatest = refl

pub vint-longer : vint_at (hex (codes "8000")) ≡ Some (0, [])
unfolding computes
vint-longer = refl

pub vint-too_long : vint_at (hex (codes "80 80 80 80 80 80 80 80 80 80 00")) ≡ None
unfolding computes
vint-too_long = refl

pub vint-too_large : vint_at (hex (codes "80 80 80 80 80 80 80 80 80 02")) ≡ None
unfolding computes
vint-too_large = refl

pub ranges-read : range.values_of (hex (codes "04 640a0be908 07")) ≡ Some (Listed (record { start = 100; end = 110 } ∷ record { start = 110; end = 121 } ∷ record { start = 121; end = 1250 } ∷ []), 7 ∷ [])
unfolding computes
ranges-read = refl

pub no_range-read : range.values_of (hex (codes "00")) ≡ Some (Listed [], [])
unfolding computes
no_range-read = refl

pub lists-read : vec_u32.values_of (hex (codes "02000000 01000000 05000000 00000000 09")) ≡ Some (Listed ((5 ∷ []) ∷ [] ∷ []), 9 ∷ [])
unfolding computes
lists-read = refl

-- what a codec writes
pub ranges-spelled : range.spelled (Listed (record { start = 100; end = 110 } ∷ record { start = 110; end = 121 } ∷ record { start = 121; end = 1250 } ∷ [])) ≡ hex (codes "04 640a0be908")
unfolding computes
ranges-spelled = refl

pub numbers-spelled : monotonic_u64.spelled (Listed (1 ∷ 1 ∷ 300 ∷ [])) ≡ hex (codes "03 01 00 ab02")
unfolding computes
numbers-spelled = refl

pub lists-spelled : vec_u32.spelled (Listed ((5 ∷ []) ∷ [] ∷ [])) ≡ hex (codes "02000000 01000000 05000000 00000000")
unfolding computes
lists-spelled = refl

pub addresses-spelled : index.spelled (Listed (record { start = 0; end = 10; first_ordinal = 0 } ∷ record { start = 10; end = 20; first_ordinal = 5 } ∷ record { start = 20; end = 30; first_ordinal = 10 } ∷ [])) ≡ hex (codes "03000a000a050a05")
unfolding computes
addresses-spelled = refl

-- what a codec reads
pub numbers-read : monotonic_u64.values_of (hex (codes "03 01 00 ab02 09")) ≡ Some (Listed (1 ∷ 1 ∷ 300 ∷ []), 9 ∷ [])
unfolding computes
numbers-read = refl

pub numbers-cut : monotonic_u64.values_of (hex (codes "02 01")) ≡ None
unfolding computes
numbers-cut = refl

pub numbers-too_large : monotonic_u64.values_of (hex (codes "02 ffffffffffffffffff01 01")) ≡ None
unfolding computes
numbers-too_large = refl

pub addresses-read : index.values_of (hex (codes "03000a000a050a05")) ≡ Some (Listed (record { start = 0; end = 10; first_ordinal = 0 } ∷ record { start = 10; end = 20; first_ordinal = 5 } ∷ record { start = 20; end = 30; first_ordinal = 10 } ∷ []), [])
unfolding computes
addresses-read = refl

pub no_address-read : index.values_of (hex (codes "00 07 09")) ≡ Some (Listed [], 9 ∷ [])
unfolding computes
no_address-read = refl

pub no_address-cut : index.values_of (hex (codes "00")) ≡ None
unfolding computes
no_address-cut = refl

pub three_numbers-read : vec_u32.values_of (hex (codes "01000000 03000000 01000000 02000000 ffffffff")) ≡ Some (Listed ((1 ∷ 2 ∷ (2 ^ 32 - 1) ∷ []) ∷ []), [])
unfolding computes
three_numbers-read = refl

pub lists-cut : vec_u32.values_of (hex (codes "ffffffff 00000000")) ≡ None
unfolding computes
lists-cut = refl

-- what a codec accepts
pub lower-refused : monotonic_u64.accepts (Listed (5 ∷ [])) 4 ≡ false
unfolding computes
lower-refused = refl

pub same-accepted : monotonic_u64.accepts (Listed (5 ∷ [])) 5 ≡ true
unfolding computes
same-accepted = refl

pub gap-refused : range.accepts (Listed (record { start = 1; end = 3 } ∷ [])) (record { start = 4; end = 10 }) ≡ false
unfolding computes
gap-refused = refl

abbrev pub block : ℕ → ℕ → ℕ → Address
block start end ordinal = record { start = start; end = end; first_ordinal = ordinal }

pub ordinal-refused : index.accepts (Listed (block 0 10 5 ∷ [])) (block 10 20 4) ≡ false
unfolding computes
ordinal-refused = refl

pub ordinal-accepted : index.accepts (Listed (block 0 10 5 ∷ [])) (block 10 20 5) ≡ true
unfolding computes
ordinal-accepted = refl

pub block-gap-refused : index.accepts (Listed (block 0 10 5 ∷ [])) (block 11 20 6) ≡ false
unfolding computes
block-gap-refused = refl
