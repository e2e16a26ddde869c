-- Hash maps in an arena: a table of places, each free or taken by an entry, and the entries in the arena.
use Rattle.std.specs.Prelude.{◌≡◌, ◌≢◌, ℕ, ◌+◌, ◌-◌, ◌*◌, ◌^◌, ◌<◌, ◌≤◌, ◌==◌, ◌⊎◌, Bool, not, nat_lt, List, [], ◌∷◌, length, replicate, take, map, filter, count_by, slice_index_or, slice_set, bit_and, Option, MatchOption, if◌then◌else◌}
use Rattle.std.specs.Int.{w16, from_le_bytes}
use Rattle.tantivy_stacker.specs.Arena.{Arena, null_address, Lies, bytes_at, top, spent, IsFull, Keeps}
use Rattle.tantivy_stacker.specs.Lists.{KeepsBut, IsApart}
use Rattle.std.specs.List.{All, Contains}
use Rattle.tantivy_stacker.specs.Hashing.{hash_of}

-- the most bytes that a key has
abbrev pub longest_key : ℕ
longest_key = 65535

-- how many places the table of a new map has, and the fewest of one that doubled
abbrev pub first_places : ℕ
first_places = 4

abbrev pub least_doubled : ℕ
least_doubled = 8

-- the key that a map takes: at most so many first bytes
unfoldable pub cut_key : List ℕ → List ℕ
cut_key key = take longest_key key

-- A table: the address of an entry and its hash at each place, or the null address, and how many places are taken.
pub record Table : Type 0 where
  pub places : List (ℕ × ℕ)
  pub count : ℕ

-- A map with an arena of its own.
pub record OwnMap : Type 0 where
  pub arena : Arena
  pub table : Table

-- the bytes of a table
abbrev pub table_bytes : Table → ℕ
table_bytes t = length t.places * 8

-- place i of a table
abbrev pub place : List (ℕ × ℕ) → ℕ → ℕ × ℕ
place ps i = slice_index_or ps i (null_address, 0)

-- whether an entry takes the place
abbrev pub is_taken : ℕ × ℕ → Bool
is_taken p = not (p.0 == null_address)

-- An entry takes place i.
abbrev pub IsTaken : List (ℕ × ℕ) → ℕ → Type 0
IsTaken ps i = (place ps i).0 ≢ null_address

-- where the search for a hash begins, among n places
unfoldable pub home : ℕ → ℕ → ℕ
home n hash = bit_and hash (n - 1)

-- the place d further than place s, where the first place follows on the last
unfoldable pub turn : ℕ → ℕ → ℕ → ℕ
turn n s d = if nat_lt (s + d) n then s + d else s + d - n

-- A search for a hash meets place i after so many taken ones.
pub record Leads (ps : List (ℕ × ℕ)) (hash i : ℕ) : Type 0 where
  pub steps : ℕ
  pub near : steps < length ps
  pub there : turn (length ps) (home (length ps) hash) steps ≡ i
  pub before : (d : ℕ) → d < steps → IsTaken ps (turn (length ps) (home (length ps) hash) d)

-- A search for an entry's hash meets the entry.
pub record IsFiled (ps : List (ℕ × ℕ)) (p : ℕ × ℕ) : Type 0 where
  pub at : ℕ
  pub leads : Leads ps p.1 at
  pub is : place ps at ≡ p

-- ---- an entry at address e: the length of its key, the key, and a value of `size` bytes
unfoldable pub key_length : Arena → ℕ → ℕ
key_length a e = from_le_bytes w16 (bytes_at a e 2)

unfoldable pub key_at : Arena → ℕ → List ℕ
key_at a e = bytes_at a (e + 2) (key_length a e)

abbrev pub value_place : Arena → ℕ → ℕ
value_place a e = e + (2 + key_length a e)

abbrev pub entry_size : ℕ → Arena → ℕ → ℕ
entry_size size a e = 2 + key_length a e + size

-- the key of the entry of place i
abbrev pub key_in : Arena → Table → ℕ → List ℕ
key_in a t i = key_at a (place t.places i).0

-- The arena holds the entries of a table, as a call on the map left them.
pub record IsHeldMap (size : ℕ) (a : Arena) (t : Table) : Type 0 where
  pub some : 2 ≤ length t.places
  pub room : t.count < length t.places
  pub counted : count_by is_taken t.places ≡ t.count
  pub lies : (i : ℕ) → IsTaken t.places i → Lies a (place t.places i).0 (entry_size size a (place t.places i).0)
  pub hashed : (i : ℕ) → IsTaken t.places i → (place t.places i).1 ≡ hash_of (key_at a (place t.places i).0)
  pub filed : (i : ℕ) → IsTaken t.places i → IsFiled t.places (place t.places i)
  pub distinct : (i j : ℕ) → IsTaken t.places i → IsTaken t.places j → key_at a (place t.places i).0 ≡ key_at a (place t.places j).0 → i ≡ j
  pub apart : (i j : ℕ) → IsTaken t.places i → IsTaken t.places j → i ≢ j → ((place t.places i).0 + entry_size size a (place t.places i).0 ≤ (place t.places j).0) ⊎ ((place t.places j).0 + entry_size size a (place t.places j).0 ≤ (place t.places i).0)

-- A map has an entry of this key, with this value.
pub record HasEntry {V : Type 0} (size : ℕ) (item : List ℕ → V) (a : Arena) (t : Table) (key : List ℕ) (v : V) : Type 0 where
  pub at : ℕ
  pub taken : IsTaken t.places at
  pub key_is : key_at a (place t.places at).0 ≡ key
  pub value_is : item (bytes_at a (value_place a (place t.places at).0) size) ≡ v

-- what a map has at a key
abbrev pub Finds : {V : Type 0} → ℕ → (List ℕ → V) → Arena → Table → List ℕ → Option V → Type 0
Finds size item a t key found = MatchOption found ((i : ℕ) → IsTaken t.places i → key_at a (place t.places i).0 ≢ key) (HasEntry size item a t key)

-- An entry was written at e, and nothing else changed: its key and its value.
pub record EntryWritten {V : Type 0} (size : ℕ) (item : List ℕ → V) (old new : Arena) (e : ℕ) (key : List ℕ) (v : V) : Type 0 where
  pub keeps : Keeps old new e (e + (2 + length key + size))
  pub length_is : key_length new e ≡ length key
  pub key_is : key_at new e ≡ key
  pub value_is : item (bytes_at new (value_place new e) size) ≡ v
  pub end : top new ≡ top old
  pub spends : spent new ≡ spent old
  pub full : (m : ℕ) → IsFull old m → IsFull new m

-- After a call a map has this value at a key, and all else as before.
pub record MapPuts {V : Type 0} (size : ℕ) (item : List ℕ → V) (old new : Arena) (t u : Table) (key : List ℕ) (v : V) : Type 0 where
  pub entry : HasEntry size item new u key v
  pub kept : (k : List ℕ) (w : V) → k ≢ key → HasEntry size item old t k w → HasEntry size item new u k w
  pub only : (k : List ℕ) (w : V) → k ≢ key → HasEntry size item new u k w → HasEntry size item old t k w

-- A call on a map leaves all that it holds as it was.
pub record MapStays {V : Type 0} (size : ℕ) (item : List ℕ → V) (old new : Arena) (t u : Table) : Type 0 where
  pub kept : (k : List ℕ) (w : V) → HasEntry size item old t k w → HasEntry size item new u k w
  pub only : (k : List ℕ) (w : V) → HasEntry size item new u k w → HasEntry size item old t k w

-- the places of a map: the address and the length of each entry
unfoldable pub map_places : ℕ → Arena → Table → List (ℕ × ℕ)
map_places size a t = map (λ p. (p.0, entry_size size a p.0)) (filter is_taken t.places)

-- What a call leaves of the arena: the map is held, and what was handed out reads as before but for the map's places. These are
-- afterwards those that it had, and places that no earlier call handed out.
pub record MapWrite (size : ℕ) (old new : Arena) (t u : Table) : Type 0 where
  pub held : IsHeldMap size new u
  pub others : KeepsBut old new (map_places size old t)
  pub places : (j : ℕ) → IsTaken u.places j → ((i : ℕ) × IsTaken t.places i × ((place t.places i).0 ≡ (place u.places j).0) × (entry_size size old (place t.places i).0 ≡ entry_size size new (place u.places j).0)) ⊎ (top old ≤ (place u.places j).0)
  pub end : top old ≤ top new

-- A place was filed at a free place of a table, to which its hash leads.
pub record IsFiledAnew (old new : List (ℕ × ℕ)) (p : ℕ × ℕ) : Type 0 where
  pub at : ℕ
  pub leads : Leads old p.1 at
  pub free : (place old at).0 ≡ null_address
  pub within : at < length old
  pub is : new ≡ slice_set old at p

-- No two taken places have one address.
abbrev pub AreUnique : List (ℕ × ℕ) → Type 0
AreUnique ps = (i j : ℕ) → IsTaken ps i → IsTaken ps j → (place ps i).0 ≡ (place ps j).0 → i ≡ j

-- The taken places of one table stand, found by their hashes, in another: the first `upto` of them, and nothing else.
pub record Rehashes (ps qs : List (ℕ × ℕ)) (upto : ℕ) : Type 0 where
  pub filed : (i : ℕ) → i < upto → IsTaken ps i → IsFiled qs (place ps i)
  pub source : (j : ℕ) → IsTaken qs j → (i : ℕ) × (i < upto) × IsTaken ps i × (place ps i ≡ place qs j)
  pub unique : AreUnique qs
  pub counted : count_by is_taken qs ≡ count_by is_taken (take upto ps)

-- All of them do.
abbrev pub RehashesAll : List (ℕ × ℕ) → List (ℕ × ℕ) → Type 0
RehashesAll ps qs = Rehashes ps qs (length ps)

-- A table for so many entries has the greatest power of two of places at most that number, and at least two.
unfoldable pub IsTableSize : ℕ → ℕ → Type 0
IsTableSize size n = (k : ℕ) × (n ≡ 2 ^ k) × (1 ≤ k) × ((n ≤ size) ⊎ (n ≡ 2)) × (size < 2 * n)

-- a map of no entry
unfoldable pub IsEmptyMap : Table → Type 0
IsEmptyMap t = (t.places ≡ replicate (length t.places) (null_address, 0)) × (t.count ≡ 0) × (2 ≤ length t.places)

-- Any arena holds the empty map.
abbrev pub EmptyMapIsHeld : ℕ → Type 0
EmptyMapIsHeld size = (a : Arena) (t : Table) → IsEmptyMap t → IsHeldMap size a t

-- The empty map has no entry.
abbrev pub EmptyMapHasNone : {V : Type 0} → ℕ → (List ℕ → V) → Type 0
EmptyMapHasNone size item = (a : Arena) (t : Table) (key : List ℕ) (v : _) → IsEmptyMap t → HasEntry size item a t key v → ⊥

-- A map that is held has at most one value at a key.
abbrev pub EntriesAreOne : {V : Type 0} → ℕ → (List ℕ → V) → Type 0
EntriesAreOne size item = (a : Arena) (t : Table) (key : List ℕ) (v w : _) → IsHeldMap size a t → HasEntry size item a t key v → HasEntry size item a t key w → v ≡ w

-- A map whose places are apart from those that changed is held as before, with its entries and in its places.
abbrev pub OtherMapsStay : {V : Type 0} → ℕ → (List ℕ → V) → Type 0
OtherMapsStay size item =
    (old new : Arena) (changed : List (ℕ × ℕ)) (t : Table) →
    KeepsBut old new changed → IsHeldMap size old t → All (λ r. IsApart r.0 r.1 changed) (map_places size old t) →
    IsHeldMap size new t × MapStays size item old new t t × (map_places size new t ≡ map_places size old t)

-- the entries of a table, in the order of its places: each key with the address of its value
unfoldable pub entries_of : Arena → List (ℕ × ℕ) → List (List ℕ × ℕ)
entries_of a ps = map (λ p. (key_at a p.0, value_place a p.0)) (filter is_taken ps)

abbrev pub entries_in : Arena → Table → List (List ℕ × ℕ)
entries_in a t = entries_of a t.places

-- A list has each entry of a map once, in some order: its key, with the address of its value.
pub record AreEntries {V : Type 0} (size : ℕ) (item : List ℕ → V) (a : Arena) (t : Table) (entries : List (List ℕ × ℕ)) : Type 0 where
  pub listed : (key : List ℕ) (v : V) → HasEntry size item a t key v → (at : ℕ) × Contains entries (key, at) × (item (bytes_at a at size) ≡ v)
  pub only : (key : List ℕ) (at : ℕ) → Contains entries (key, at) → Lies a at size × HasEntry size item a t key (item (bytes_at a at size))
  pub once : (i j : ℕ) → i < length entries → j < length entries → (slice_index_or entries i ([], 0)).0 ≡ (slice_index_or entries j ([], 0)).0 → i ≡ j
  pub counted : length entries ≡ t.count

-- The entries of the taken places can be read.
abbrev pub CanBeRead : Arena → List (ℕ × ℕ) → Type 0
CanBeRead a ps = (i : ℕ) → IsTaken ps i → Lies a (place ps i).0 (2 + key_length a (place ps i).0 + 1)

-- An item is the first entry, and the others are left; at the end none is left.
abbrev pub GivesEntry : Arena → List (ℕ × ℕ) → Option (List ℕ × ℕ) → List (ℕ × ℕ) → Type 0
GivesEntry a before found after = MatchOption found ((entries_of a before ≡ []) × (after ≡ [])) (λ e. entries_of a before ≡ e ∷ entries_of a after)
