-- Worked values. A reader of contracts may skip this file.
use Rattle.std.specs.Prelude.{◌≡◌, [], ◌∷◌, Some, None, codes, refl}
use Rattle.sstable_values.specs.Hex.{hex}
use Rattle.block_addresses.specs.Written.{store_bytes}
use Rattle.block_addresses.specs.Opened.{opened}
use Rattle.block_addresses.specs.Shortened.{shortened}
use Rattle.block_addresses.specs.Lines.{line_for}
use Rattle.block_addresses.specs.Computes.{computes}

-- four blocks of ten bytes and five keys each, from place 10 on
pub four_blocks : store_bytes (record { starts = 10 ∷ 20 ∷ 30 ∷ 40 ∷ 50 ∷ []; ordinals = 0 ∷ 5 ∷ 10 ∷ 15 ∷ [] })
    ≡ hex (codes "2400000000000000 0000000000000000 0a00000000000000 0000000000000000 0a000000 05000000 01010300 7f")
unfolding computes
four_blocks = refl

-- two blocks of nine bytes and one key each
pub two_blocks : store_bytes (record { starts = 0 ∷ 9 ∷ 18 ∷ []; ordinals = 0 ∷ 1 ∷ [] })
    ≡ hex (codes "2400000000000000 0000000000000000 0000000000000000 0000000000000000 09000000 01000000 01010100 07")
unfolding computes
two_blocks = refl

-- the store of the four blocks is opened, and tells them
pub four_addresses : opened (hex (codes "2400000000000000 0000000000000000 0a00000000000000 0000000000000000 0a000000 05000000 01010300 7f"))
    ≡ Some (record { start = 10; end = 20; first_ordinal = 0 } ∷ record { start = 20; end = 30; first_ordinal = 5 }
    ∷ record { start = 30; end = 40; first_ordinal = 10 } ∷ record { start = 40; end = 50; first_ordinal = 15 } ∷ [])
unfolding computes
four_addresses = refl

-- slope 0 and the third bit 0: the second block is from 10 to 9
pub backwards : opened (hex (codes "2400000000000000 0000000000000000 0a00000000000000 0000000000000000 00000000 05000000 01010300 7b")) ≡ None
unfolding computes
backwards = refl

pub no_pairs : line_for [] ≡ record { slope = 0; bits = 1 }
unfolding computes
no_pairs = refl

-- slopes 10, 3 and 4: the pairs (2, 6) and (1, 10) give (16 + 1) / 3
pub three_pairs : line_for ((1, 10) ∷ (2, 6) ∷ (3, 12) ∷ []) ≡ record { slope = 5; bits = 4 }
unfolding computes
three_pairs = refl

-- one block as long as a length of 32 bits allows: its slope is the greatest `u32`, and its deviation 4
pub long_block : line_for ((1, 4294967299) ∷ []) ≡ record { slope = 4294967295; bits = 4 }
unfolding computes
long_block = refl

pub shortened-abc : shortened (codes "abcd") (codes "abzz") ≡ codes "abce"
unfolding computes
shortened-abc = refl

pub shortened-long : shortened (codes "aaaaaa") (codes "b") ≡ codes "ab"
unfolding computes
shortened-long = refl

pub shortened-prefix : shortened (codes "ab") (codes "abc") ≡ codes "ab"
unfolding computes
shortened-prefix = refl

pub shortened-high : shortened (97 ∷ 98 ∷ 255 ∷ 255 ∷ 7 ∷ 9 ∷ []) (codes "c") ≡ 97 ∷ 99 ∷ []
unfolding computes
shortened-high = refl

pub shortened-past_high : shortened (97 ∷ 255 ∷ 255 ∷ 7 ∷ 9 ∷ []) (codes "c") ≡ 97 ∷ 255 ∷ 255 ∷ 8 ∷ []
unfolding computes
shortened-past_high = refl
