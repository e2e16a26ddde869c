-- The bytes of values: the shortest spelling, which is written, and the value that stands at the front of bytes.
use Rattle.std.specs.Prelude.{ℕ, zero, suc, ◌+◌, ◌-◌, ◌*◌, ◌/◌, ◌%◌, ◌^◌, ℤ, List, [], ◌∷◌, ◌++◌, length, Bool, nat_le, nat_lt, ◌==◌, if◌then◌else◌}
use Rattle.std.specs.Int.{Width, byte_len, from_le_bytes, cast_signed, w64}
use Rattle.std.specs.List.{flat_map}
use Rattle.std.specs.Str.{is_utf8}
use Rattle.common_wire.specs.Serialized.{limit}
use Rattle.common_wire.specs.Taking.{Taking, ◌>>=◌, give, refuse, only_if, byte, bytes_of, counted}

-- a number of a fixed width, its lowest byte first
unfoldable pub number : Width → Taking ℕ
number w = do
  piece ← bytes_of (byte_len w)
  give (from_le_bytes w piece)

-- a signed number of 64 bits
unfoldable pub signed : Taking ℤ
signed = do
  n ← number w64
  give (cast_signed w64 n)

-- 0 or 1
unfoldable pub flag : Taking Bool
flag = do
  b ← byte
  only_if (nat_lt b 2) (give (b == 1))

abbrev pub flag_bytes : Bool → List ℕ
flag_bytes b = (if b then 1 else 0) ∷ []

-- Groups of seven bits, the lowest group first, at most so many. The last byte, and only it, has bit 128 set.
unfoldable pub groups : ℕ → Taking ℕ
groups zero = refuse
groups (suc k) = do
  b ← byte
  if nat_lt b 128 then (do
    high ← groups k
    give (b + 128 * high)) else give (b - 128)

-- the fewest groups of a number, where it has at most so many
unfoldable pub group_bytes : ℕ → ℕ → List ℕ
group_bytes zero n = []
group_bytes (suc k) n = if nat_lt n 128 then (n + 128) ∷ [] else n % 128 ∷ group_bytes k (n / 128)

-- a number below the bound, in at most so many groups
unfoldable pub number_below : ℕ → ℕ → Taking ℕ
number_below k bound = do
  n ← groups k
  only_if (nat_lt n bound) (give n)

-- a number of at most so many groups and one more, which is below `top`
abbrev pub groups_below : ℕ → ℕ → Taking ℕ
groups_below more top = number_below (more + 1) (limit more * top)

-- a number below 2 ^ 64, of at most ten bytes
unfoldable pub vint : Taking ℕ
vint = number_below 10 (2 ^ 64)

unfoldable pub vint_bytes : ℕ → List ℕ
vint_bytes n = group_bytes 10 n

-- a number below 2 ^ 32, of at most five bytes
unfoldable pub vint32 : Taking ℕ
vint32 = number_below 5 (2 ^ 32)

-- a number below 2 ^ 128, of at most nineteen bytes
unfoldable pub vint128 : Taking ℕ
vint128 = number_below 19 (2 ^ 128)

unfoldable pub vint128_bytes : ℕ → List ℕ
vint128_bytes n = group_bytes 19 n

-- the greatest length of a text or a list
abbrev pub max_length : ℕ
max_length = 2 ^ 32 - 1

-- a length, which is at most the greatest one
unfoldable pub length_taken : Taking ℕ
length_taken = do
  n ← vint
  only_if (nat_le n max_length) (give n)

-- so many bytes of UTF-8
unfoldable pub text_of : ℕ → Taking (List ℕ)
text_of n = do
  piece ← bytes_of n
  only_if (is_utf8 piece) (give piece)

-- a length, and then so many bytes of UTF-8
unfoldable pub text : Taking (List ℕ)
text = do
  n ← length_taken
  text_of n

-- a length, and then so many bytes
unfoldable pub blob : Taking (List ℕ)
blob = do
  n ← length_taken
  bytes_of n

unfoldable pub text_bytes : List ℕ → List ℕ
text_bytes bytes = vint_bytes (length bytes) ++ bytes

-- a length, and then so many values
unfoldable pub list_of : {A : Type 0} → Taking A → Taking (List A)
list_of item = do
  n ← length_taken
  counted n item

unfoldable pub list_bytes : {A : Type 0} → (A → List ℕ) → List A → List ℕ
list_bytes item xs = vint_bytes (length xs) ++ flat_map item xs

-- a first value, and then a second one
unfoldable pub pair : {A B : Type 0} → Taking A → Taking B → Taking (A × B)
pair first second = do
  a ← first
  b ← second
  give (a, b)
