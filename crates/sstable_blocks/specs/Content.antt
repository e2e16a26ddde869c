-- The block at the front of some bytes.
use Rattle.std.specs.Prelude.{ℕ, ◌+◌, ◌-◌, List, [], ◌∷◌, ◌++◌, length, take, drop, Option, Some, None, Result, Ok, Err, nat_lt, not, ◌==◌, if◌then◌else◌}
use Rattle.std.specs.Int.{w32, from_le_bytes, to_le_bytes}
use Rattle.sstable_values.specs.declared.errors.BlockError.{BlockError}
use Rattle.sstable_values.specs.declared.errors.BlockError.TheVariants.{Corrupt, Compressed}

-- What stands at the front: a block's content with the bytes after the block, the end of the blocks, or a fault.
abbrev pub Found : Type 0
Found = Result (Option (List ℕ × List ℕ)) BlockError

-- Behind the length word, which stands at the place in the table: a compress byte 0, and so many bytes of content.
abbrev pub content_after : ℕ → ℕ → List ℕ → Found
content_after place len [] = Err Corrupt
content_after place len (compress ∷ bytes) =
    if compress == 1 then Err (Compressed place)
    else (if not (compress == 0) then Err Corrupt
    else (if nat_lt (length bytes) len then Err Corrupt
    else Ok (Some (take len bytes, drop len bytes))))

-- Blocks end with the bytes, or at a length word of 0 or 1. The length counts all that follows it. What is looked at
-- first gives the fault.
unfoldable pub block_at : ℕ → List ℕ → Found
block_at place bytes =
    if length bytes == 0 then Ok None
    else (if nat_lt (length bytes) 4 then Err Corrupt
    else (if nat_lt (from_le_bytes w32 (take 4 bytes)) 2 then Ok None
    else content_after place (from_le_bytes w32 (take 4 bytes) - 1) (drop 4 bytes)))

-- a block's length word and its compress byte
abbrev pub head_len : ℕ
head_len = 5

-- how a block is written
abbrev pub block : List ℕ → List ℕ
block content = to_le_bytes w32 (length content + 1) ++ 0 ∷ content
