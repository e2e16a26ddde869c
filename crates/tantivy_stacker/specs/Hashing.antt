-- The hash of a key: a fixed function of its bytes.
use Rattle.std.specs.Prelude.{ℕ, zero, suc, ◌+◌, ◌*◌, ◌/◌, ◌%◌, ◌^◌, List, length, take, drop, slice_index, ◌-◌, ◌==◌, nat_lt, if◌then◌else◌, bit_xor}
use Rattle.std.specs.Int.{w32, w64, from_le_bytes}

-- one word mixed into what was gathered so far
unfoldable pub mixed : ℕ → ℕ → ℕ
mixed h word = bit_xor (bit_xor h word * 11400714819323198485 % 2 ^ 64) (bit_xor h word * 11400714819323198485 % 2 ^ 64 / 2 ^ 32)

-- fewer than four bytes as a word: the first, the middle and the last one
unfoldable pub short_word : List ℕ → ℕ
short_word bytes = if length bytes == 0 then 0 else slice_index bytes 0 + slice_index bytes (length bytes / 2) * 256 + slice_index bytes (length bytes - 1) * 65536

-- fewer than eight bytes as a word: the first four and the last four, which may overlap
unfoldable pub tail_word : List ℕ → ℕ
tail_word bytes = if nat_lt (length bytes) 4 then short_word bytes else from_le_bytes w32 (take 4 bytes) + from_le_bytes w32 (take 4 (drop (length bytes - 4) bytes)) * 2 ^ 32

-- words of eight bytes, so many, and then the bytes that are left
unfoldable pub hash_words : ℕ → ℕ → List ℕ → ℕ
hash_words zero h bytes = mixed h (tail_word bytes)
hash_words (suc words) h bytes = hash_words words (mixed h (from_le_bytes w64 (take 8 bytes))) (drop 8 bytes)

-- the hash of a key, below 2^32
unfoldable pub hash_of : List ℕ → ℕ
hash_of key = hash_words (length key / 8) (length key) key % 2 ^ 32
