-- What a search for a key finds.
use Rattle.std.specs.Prelude.{◌≡◌, ◌≢◌, ℕ, ◌+◌, ◌<◌, List, length, count_by}
use Rattle.tantivy_stacker.specs.declared.shared_arena_hashmap.Probe.{Probe}
use Rattle.tantivy_stacker.specs.declared.shared_arena_hashmap.Probe.TheVariants.{Taken, Free}
use Rattle.tantivy_stacker.specs.Arena.{Arena, null_address, Lies}
use Rattle.tantivy_stacker.specs.Maps.{place, is_taken, IsTaken, Leads, IsFiled, key_length, key_at}
use Rattle.tantivy_stacker.specs.Hashing.{hash_of}

-- What a search needs of a table and its entries.
pub record IsSearchable (a : Arena) (ps : List (ℕ × ℕ)) : Type 0 where
  pub room : count_by is_taken ps < length ps
  pub lies : (i : ℕ) → IsTaken ps i → Lies a (place ps i).0 (2 + key_length a (place ps i).0 + 1)
  pub hashed : (i : ℕ) → IsTaken ps i → (place ps i).1 ≡ hash_of (key_at a (place ps i).0)
  pub filed : (i : ℕ) → IsTaken ps i → IsFiled ps (place ps i)

-- Place i is taken by an entry of this key.
pub record IsAt (a : Arena) (ps : List (ℕ × ℕ)) (key : List ℕ) (i : ℕ) : Type 0 where
  pub taken : IsTaken ps i
  pub key_is : key_at a (place ps i).0 ≡ key

-- No place is taken by an entry of this key.
abbrev pub IsAbsent : Arena → List (ℕ × ℕ) → List ℕ → Type 0
IsAbsent a ps key = (j : ℕ) → IsTaken ps j → key_at a (place ps j).0 ≢ key

-- Place i is free, and a search for this hash leads there; no place is taken by an entry of this key.
pub record IsFreeFor (a : Arena) (ps : List (ℕ × ℕ)) (key : List ℕ) (hash i : ℕ) : Type 0 where
  pub leads : Leads ps hash i
  pub free : (place ps i).0 ≡ null_address
  pub within : i < length ps
  pub absent : IsAbsent a ps key

-- A search found the entry of the key, or the free place where it belongs.
abbrev pub ProbeIs : Arena → List (ℕ × ℕ) → List ℕ → ℕ → Probe → Type 0
ProbeIs a ps key hash (Taken i) = IsAt a ps key i
ProbeIs a ps key hash (Free i) = IsFreeFor a ps key hash i
