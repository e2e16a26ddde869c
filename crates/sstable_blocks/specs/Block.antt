-- One block: values at the front, and then keys, each as what it shares with the key before it and what it adds.
use Rattle.std.specs.Prelude.{ℕ, ◌+◌, ◌*◌, List, [], ◌∷◌, ◌++◌, length, take, drop, map, Option, Some, None, nat_lt, ◌==◌, ◌||◌, ◌&&◌, if◌then◌else◌}
use Rattle.std.specs.List.{zip}
use Rattle.owned_bytes.specs.Keys.{Key, is_below, shared}
use Rattle.owned_bytes.specs.Front.{◌>>=◌, provided, Front, End, piece_or_fault, pieces}
use Rattle.sstable_values.specs.Vint.{vint}
use Rattle.sstable_values.specs.Values.{Values, Listed, Everywhere}
use Rattle.sstable_values.specs.Codec.{Codec}
use Rattle.sstable_blocks.specs.Delta.{Delta}
unfoldable use Rattle.sstable_blocks.specs.Delta.{delta_at}

-- deltas go on to the end of the bytes
abbrev pub front_of_deltas : List ℕ → Front Delta
front_of_deltas [] = End
front_of_deltas (b ∷ bytes) = piece_or_fault (delta_at (b ∷ bytes))

-- the key that a delta makes of the key before
abbrev pub key_after : Key → Delta → Key
key_after before delta = take delta.keep before ++ delta.suffix

-- Keys after a key, by deltas. Each rises, and keeps all that it has in common with the one before.
unfoldable pub keys_after : Key → List Delta → Option (List Key)
keys_after before [] = Some []
keys_after before (delta ∷ deltas) = do
  let key = key_after before delta
  _ ← provided (delta.keep == shared before key)
  _ ← provided (is_below before key)
  others ← keys_after key deltas
  Some (key ∷ others)

-- The keys of a block after the key before, of which there is at least one. The first keeps nothing, or all that it
-- has in common with the key before.
unfoldable pub keys_of : Key → List Delta → Option (List Key)
keys_of before [] = None
keys_of before (delta ∷ deltas) = do
  let key = key_after before delta
  _ ← provided (delta.keep == 0 || delta.keep == shared before key)
  others ← keys_after key deltas
  Some (key ∷ others)

-- each key with its value, where there are as many values as keys
unfoldable pub paired : {V : Type 0} → List Key → Values V → Option (List (Key × V))
paired keys (Everywhere value) = Some (map (λ key. (key, value)) keys)
paired keys (Listed values) = do
  _ ← provided (length keys == length values)
  Some (zip keys values)

-- the entries of a block with this content, after the key before
unfoldable pub block_of : {V : Type 0} → Codec V → Key → List ℕ → Option (List (Key × V))
block_of codec before content = do
  values ← codec.values_of content
  deltas ← pieces front_of_deltas values.1
  keys ← keys_of before deltas.0
  paired keys values.0

-- how a delta is written
abbrev pub delta : Delta → List ℕ
delta d =
    (if nat_lt d.keep 16 && nat_lt (length d.suffix) 16
    then (d.keep + 16 * length d.suffix) ∷ []
    else 1 ∷ (vint d.keep ++ vint (length d.suffix)))
    ++ d.suffix

-- what a key keeps of the key before, and adds
abbrev pub delta_between : Key → Key → Delta
delta_between before key = record { keep = shared before key; suffix = drop (shared before key) key }

unfoldable pub deltas_between : Key → List Key → List Delta
deltas_between before [] = []
deltas_between before (key ∷ keys) = delta_between before key ∷ deltas_between key keys
