-- Packed numbers: each at its width, least bit first, without gaps.
use Rattle.std.specs.Prelude.{◌≡◌, ℕ, zero, suc, ◌+◌, ◌-◌, ◌*◌, ◌/◌, ◌%◌, ◌^◌, ◌<◌, List, [], ◌∷◌, ◌++◌, take, map, Option, All, nat_le, if◌then◌else◌}
use Rattle.std.specs.Io.KnownBytes.{Appends}

-- The bytes as one number, the lowest byte first.
unfoldable pub as_number : List ℕ → ℕ
as_number [] = 0
as_number (byte ∷ bytes) = byte % 256 + 256 * as_number bytes

-- So many bits from a place on. Past the last byte they are 0.
unfoldable pub bits_from : ℕ → ℕ → List ℕ → ℕ
bits_from place width bytes = as_number bytes / 2 ^ place % 2 ^ width

-- So many numbers of one width, from the number `first` on.
unfoldable pub unpacked_from : ℕ → ℕ → ℕ → List ℕ → List ℕ
unpacked_from first zero width bytes = []
unpacked_from first (suc count) width bytes = bits_from (first * width) width bytes ∷ unpacked_from (first + 1) count width bytes

-- Those at the places from `from` to `to`, counted from `start`.
abbrev pub read_between : ℕ → ℕ → ℕ → ℕ → List ℕ → List ℕ
read_between start from to width bytes = unpacked_from (start + from) (to - from) width bytes

-- Up to `to` the items now show the numbers that they showed up to `from`, and then these.
abbrev pub Puts : {T : Type 0} → (T → ℕ) → List T → List T → ℕ → ℕ → List ℕ → Type 0
Puts number old new from to numbers = take to (map number new) ≡ take from (map number old) ++ numbers

-- The first numbers of one width.
abbrev pub unpacked : ℕ → ℕ → List ℕ → List ℕ
unpacked count width bytes = unpacked_from 0 count width bytes

-- The lowest bytes of a number, the lowest first.
unfoldable pub bytes_of : ℕ → ℕ → List ℕ
bytes_of zero number = []
bytes_of (suc count) number = number % 256 ∷ bytes_of count (number / 256)

-- The least number of bytes that hold so many bits.
abbrev pub bytes_for : ℕ → ℕ
bytes_for bits = (bits + 7) / 8

-- A run of bits: the number that they make, the first of them its lowest, and how many they are.
pub record Bits : Type 0 where
  pub number : ℕ
  pub count : ℕ

-- The run without bits.
abbrev pub no_bits : Bits
no_bits = record { number = 0; count = 0 }

-- The run, and then a value's bits.
abbrev pub with_value : Bits → ℕ → ℕ → Bits
with_value bits value width = record { number = bits.number + 2 ^ bits.count * value; count = bits.count + width }

-- The words of eight bytes that the run fills.
abbrev pub full_words : Bits → List ℕ
full_words bits = bytes_of (8 * (bits.count / 64)) bits.number

-- The words that the run fills with a value's bits behind it.
abbrev pub words_with : Bits → ℕ → ℕ → List ℕ
words_with bits value width = full_words (with_value bits value width)

-- The bits of the run after its full words.
abbrev pub open_word : Bits → Bits
open_word bits = record { number = bits.number / 2 ^ (64 * (bits.count / 64)); count = bits.count % 64 }

-- The run in the least number of bytes, the bits left over being 0.
abbrev pub whole_bytes : Bits → List ℕ
whole_bytes bits = bytes_of (bytes_for bits.count) bits.number

-- How many bits values take, each with its width beside it.
unfoldable pub total_width : List (ℕ × ℕ) → ℕ
total_width [] = 0
total_width ((value, width) ∷ pieces) = width + total_width pieces

-- The values' bits in order as one number, the first value's lowest.
unfoldable pub joined : List (ℕ × ℕ) → ℕ
joined [] = 0
joined ((value, width) ∷ pieces) = value + 2 ^ width * joined pieces

-- The values' bits in order.
abbrev pub bits_of : List (ℕ × ℕ) → Bits
bits_of pieces = record { number = joined pieces; count = total_width pieces }

-- The bytes that values are packed to, each with its width beside it.
abbrev pub packed_pieces : List (ℕ × ℕ) → List ℕ
packed_pieces pieces = whole_bytes (bits_of pieces)

-- Values with one width beside each.
abbrev pub at_width : ℕ → List ℕ → List (ℕ × ℕ)
at_width width values = map (λ value. (value, width)) values

-- The bytes that values of one width are packed to.
abbrev pub packed : ℕ → List ℕ → List ℕ
packed width values = packed_pieces (at_width width values)

-- Since these values were the first to be written, the sink that told `before` has gained the full words of their
-- bits, and the packer holds the bits after them.
pub record HasPacked (pieces : List (ℕ × ℕ)) (held : Bits) (before now : Option (List ℕ)) : Type 0 where
  pub appended : Appends before now (full_words (bits_of pieces))
  pub rest : held ≡ open_word (bits_of pieces)

-- Whatever was packed before, the packer has packed this value behind it.
abbrev pub PacksNext : ℕ → ℕ → Bits → Bits → Option (List ℕ) → Option (List ℕ) → Type 0
PacksNext value width held now_held told now_told = (pieces : List (ℕ × ℕ)) (before : Option (List ℕ))
    → HasPacked pieces held before told → HasPacked (pieces ++ (value, width) ∷ []) now_held before now_told

-- Whatever was packed before, the sink has the bytes of all of it.
abbrev pub PacksLast : Bits → Option (List ℕ) → Option (List ℕ) → Type 0
PacksLast held told now_told = (pieces : List (ℕ × ℕ)) (before : Option (List ℕ))
    → HasPacked pieces held before told → Appends before now_told (packed_pieces pieces)

-- The number of binary digits, of which there are at most `most`.
unfoldable pub digits_upto : ℕ → ℕ → ℕ
digits_upto zero n = 0
digits_upto (suc most) zero = 0
digits_upto (suc most) (suc n) = digits_upto most (suc n / 2) + 1

-- The width that numbers up to n, a `u64`, are packed at: its binary digits, or 64 where these pass 56.
unfoldable pub num_bits : ℕ → ℕ
num_bits n = if nat_le (digits_upto 64 n) 56 then digits_upto 64 n else 64

-- Each value is below the power of two of its width.
abbrev pub FitWidths : List (ℕ × ℕ) → Type 0
FitWidths pieces = All (λ (piece : ℕ × ℕ). piece.0 < 2 ^ piece.1) pieces

-- Each value is below the power of two of this width.
abbrev pub FitWidth : ℕ → List ℕ → Type 0
FitWidth width values = All (λ value. value < 2 ^ width) values
