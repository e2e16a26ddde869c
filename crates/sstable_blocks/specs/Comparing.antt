-- What a comparator of keys knows, which sees of each key what it keeps and adds.
use Rattle.std.specs.Prelude.{◌≡◌, ◌≢◌, ℕ, List, ◌++◌, take, ◌⊎◌, true}
use Rattle.std.specs.Ordering.{nat_cmp}
use Rattle.std.specs.Cmp.Lexicographic.{slice_cmp}
use Rattle.std.specs.declared.cmp.Ordering.{Ordering}
use Rattle.std.specs.declared.cmp.Ordering.TheVariants.{Greater}
use Rattle.owned_bytes.specs.Keys.{Key, is_below, shared}

abbrev pub order : Key → Key → Ordering
order a b = slice_cmp nat_cmp a b

-- the key that keeps so many bytes of the key before, and adds a suffix
abbrev pub key_from : Key → ℕ → List ℕ → Key
key_from before keep suffix = take keep before ++ suffix

-- The key rises above the one before, and keeps all that it has in common with that one.
pub record Rises (before : Key) (keep : ℕ) (suffix : List ℕ) : Type 0 where
  pub above : is_below before (key_from before keep suffix) ≡ true
  pub keeps : keep ≡ shared before (key_from before keep suffix)

-- A key may come next that rises, and one that keeps nothing, as where a block begins.
abbrev pub ComesNext : Key → ℕ → List ℕ → Type 0
ComesNext before keep suffix = (keep ≡ 0) ⊎ Rises before keep suffix

-- So many bytes are those that the last key has in common with the target, which it isn't above.
pub record Follows (matched : ℕ) (target last : Key) : Type 0 where
  pub bytes : matched ≡ shared last target
  pub under : order last target ≢ Greater

-- The answer is the order of the key against the target. Unless the key lies above, it is the last key from then on.
pub record Compares (target key : Key) (answer : Ordering) (matched : ℕ) : Type 0 where
  pub right : answer ≡ order key target
  pub follows : answer ≢ Greater → Follows matched target key

-- the answer for the key that keeps the matched bytes of a last key, which are those that this shares with the target
abbrev pub ComparesBehind : ℕ → ℕ → Key → List ℕ → Ordering → Type 0
ComparesBehind old new target suffix answer =
    (last : Key) → old ≡ shared last target → Compares target (key_from last old suffix) answer new

-- the answer for the key that comes next after a last key
abbrev pub ComparesNext : ℕ → ℕ → Key → ℕ → List ℕ → Ordering → Type 0
ComparesNext old new target keep suffix answer =
    (last : Key) → Follows old target last → ComesNext last keep suffix → Compares target (key_from last keep suffix) answer new
