-- A list and a map in one arena.
use Rattle.std.specs.Prelude.{◌≡◌, ℕ, List}
use Rattle.std.specs.List.{All}
use Rattle.tantivy_stacker.specs.Arena.{Arena}
use Rattle.tantivy_stacker.specs.Lists.{IsHeld, IsApart, IsEmptyList, ListWrite, list_bytes, list_places}
use Rattle.tantivy_stacker.specs.Maps.{Table, IsHeldMap, IsEmptyMap, MapWrite, MapStays, map_places}
use Rattle.tantivy_stacker.specs.declared.expull.ExpUnrolledLinkedList.{ExpUnrolledLinkedList}

-- The arena holds both, in places that are apart.
pub record AreBeside (size : ℕ) (a : Arena) (l : ExpUnrolledLinkedList) (t : Table) : Type 0 where
  pub list_held : IsHeld a l
  pub map_held : IsHeldMap size a t
  pub apart : All (λ r. IsApart r.0 r.1 (map_places size a t)) (list_places a l)

-- the empty list and the empty map are beside each other in any arena
abbrev pub EmptyAreBeside : ℕ → Type 0
EmptyAreBeside size = (a : Arena) (l : ExpUnrolledLinkedList) (t : Table) → IsEmptyList l → IsEmptyMap t → AreBeside size a l t

-- a write to the list leaves the map's entries, and both stay beside each other
abbrev pub ListWritesBeside : {V : Type 0} → ℕ → (List ℕ → V) → Type 0
ListWritesBeside size item =
    (old new : Arena) (l m : ExpUnrolledLinkedList) (t : Table) → AreBeside size old l t → ListWrite old new l m → AreBeside size new m t × MapStays size item old new t t

-- a write to the map leaves the list's bytes, and both stay beside each other
abbrev pub MapWritesBeside : ℕ → Type 0
MapWritesBeside size =
    (old new : Arena) (l : ExpUnrolledLinkedList) (t u : Table) → AreBeside size old l t → MapWrite size old new t u → AreBeside size new l u × (list_bytes new l ≡ list_bytes old l)
