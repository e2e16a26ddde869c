-- What contracts see of bytes, and of the sinks, sources and files in memory.
use Rattle.std.specs.Prelude.{◌≡◌, ℕ, ◌+◌, ◌-◌, ◌^◌, min, List, length, take, drop, Some, Bool, ◌==◌, if◌then◌else◌}
use Rattle.std.specs.List.{list_any}
use Rattle.owned_bytes.specs.Outside.{FileState}

-- the first n bytes, and those after them
abbrev pub IsCut : List ℕ → ℕ → List ℕ × List ℕ → Type 0
IsCut bytes n parts = (parts.0 ≡ take n bytes) × (parts.1 ≡ drop n bytes)

-- a count that rises by n, up to the greatest `u64`
abbrev pub raised : ℕ → ℕ → ℕ
raised count n = min (count + n) (2 ^ 64 - 1)

-- Which calls shall fail, by their numbers from 1 on; how many calls were made; how many of them failed.
pub record Failing : Type 0 where
  pub fails : List ℕ
  pub calls : ℕ
  pub faults : ℕ

-- the next call is one that shall fail
abbrev pub fails_next : Failing → Bool
fails_next f = list_any (λ number. number == raised f.calls 1) f.fails

-- after the next call
abbrev pub after_call : Failing → Failing
after_call f = record { fails = f.fails; calls = raised f.calls 1; faults = if fails_next f then raised f.faults 1 else f.faults }

-- before any call
abbrev pub at_first : List ℕ → Failing
at_first fails = record { fails = fails; calls = 0; faults = 0 }

-- the bytes that a source has left, and how many were taken
pub record Unread : Type 0 where
  pub left : List ℕ
  pub taken : ℕ

-- the same, of a source with calls that shall fail
pub record FailingUnread : Type 0 where
  pub left : List ℕ
  pub taken : ℕ
  pub failing : Failing

-- the bytes that a sink was given, and its calls that shall fail
pub record FailingWritten : Type 0 where
  pub written : List ℕ
  pub failing : Failing

-- the bytes of a file, how many reads were made, and how many bytes they asked for
pub record Counted : Type 0 where
  pub contents : List ℕ
  pub reads : ℕ
  pub fetched : ℕ

-- the same, of a file with calls that shall fail
pub record FailingCounted : Type 0 where
  pub file : Counted
  pub failing : Failing

-- one more read, of n bytes
abbrev pub after_read : ℕ → Counted → Counted
after_read n f = record { contents = f.contents; reads = raised f.reads 1; fetched = raised f.fetched n }

-- bytes as a file that never fails and counts nothing
abbrev pub of_bytes : List ℕ → FileState
of_bytes bytes = record { contents = Some bytes; size = length bytes; faults = 0; reads = 0; fetched = 0 }

-- a file that never fails
abbrev pub of_counted : Counted → FileState
of_counted f = record { contents = Some f.contents; size = length f.contents; faults = 0; reads = f.reads; fetched = f.fetched }

-- a file with calls that shall fail
abbrev pub of_failing : FailingCounted → FileState
of_failing f = record { contents = Some f.file.contents; size = length f.file.contents; faults = f.failing.faults; reads = f.file.reads; fetched = f.file.fetched }
