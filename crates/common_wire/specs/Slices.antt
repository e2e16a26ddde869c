-- Slices of files: ranges, and what a read of one does to a handle.
use Rattle.std.specs.Prelude.{◌≡◌, ℕ, ◌+◌, ◌-◌, ◌<◌, min, List, slice_range, Option, Some, None}
use Rattle.owned_bytes.specs.Outside.{FileState, ReadsFile, IsRead}

-- the places that a slice covers, from the start up to the end
pub record Span : Type 0 where
  pub start : ℕ
  pub end : ℕ

abbrev pub span_len : Span → ℕ
span_len s = s.end - s.start

-- the part from one place to another, counted from the slice's start
abbrev pub part_of : Span → ℕ → ℕ → Span
part_of s from to = record { start = s.start + from; end = s.start + to }

-- the size of a piece of a file
abbrev pub piece_len : ℕ
piece_len = 1048576

-- the length of the next piece of what is left
abbrev pub next_len : Span → ℕ
next_len rest = min piece_len (span_len rest)

-- the next piece of what is left, which is there where something is left
abbrev pub IsPiece : FileState → Span → Option (List ℕ) → Type 0
IsPiece file rest None = span_len rest ≡ 0
IsPiece file rest (Some piece) = (0 < span_len rest) × IsRead file rest.start (rest.start + next_len rest) piece

-- A part of so many bytes was read, at most once. Where there is none of it nothing is touched.
pub record ReadsPart (before now : FileState) (failure : Type 0) (len : ℕ) : Type 0 where
  pub reads : ReadsFile before now failure 1 len
  pub untouched : len ≡ 0 → now ≡ before

-- a part of told bytes
abbrev pub part_told : ℕ → ℕ → Option (List ℕ) → Option (List ℕ)
part_told start end None = None
part_told start end (Some bytes) = Some (slice_range bytes start end)

-- a part of a file as a file: the counts are those of the whole
abbrev pub part_state : ℕ → ℕ → FileState → FileState
part_state start end file = record { contents = part_told start end file.contents; size = end - start; faults = file.faults; reads = file.reads; fetched = file.fetched }
