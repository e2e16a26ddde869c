-- Lists that stand side by side in one arena.
use Rattle.std.specs.Prelude.{◌≡◌, ◌≢◌, ℕ, ◌<◌, List, [], ◌∷◌, ◌++◌, length, slice_index_or, slice_set}
use Rattle.std.specs.List.{All}
use Rattle.tantivy_stacker.specs.declared.expull.ExpUnrolledLinkedList.{ExpUnrolledLinkedList}
use Rattle.tantivy_stacker.specs.Arena.{Arena}
use Rattle.tantivy_stacker.specs.Lists.{IsHeld, IsEmptyList, IsApart, ListWrite, list_bytes, list_places}

-- The places of one list lie outside of those of another.
abbrev pub AreApart : Arena → ExpUnrolledLinkedList → ExpUnrolledLinkedList → Type 0
AreApart a l m = All (λ r. IsApart r.0 r.1 (list_places a m)) (list_places a l)

-- An arena holds each of these lists, and no two of them have a place in common.
pub record AreTenants (a : Arena) (ls : List ExpUnrolledLinkedList) : Type 0 where
  pub held : All (IsHeld a) ls
  pub apart : (i j : ℕ) (d : ExpUnrolledLinkedList) → i < length ls → j < length ls → i ≢ j → AreApart a (slice_index_or ls i d) (slice_index_or ls j d)

-- Any arena holds no lists.
abbrev pub NoneAreTenants : Type 0
NoneAreTenants = (a : Arena) → AreTenants a []

-- An empty list joins them.
abbrev pub EmptyJoins : Type 0
EmptyJoins = (a : Arena) (ls : List ExpUnrolledLinkedList) (l : ExpUnrolledLinkedList) → AreTenants a ls → IsEmptyList l → AreTenants a (ls ++ l ∷ [])

-- A write to one of them leaves the others as they were, with their bytes.
abbrev pub WritesStayApart : Type 0
WritesStayApart =
    (old new : Arena) (ls : List ExpUnrolledLinkedList) (i : ℕ) (d m : ExpUnrolledLinkedList) → i < length ls →
    AreTenants old ls → ListWrite old new (slice_index_or ls i d) m →
    AreTenants new (slice_set ls i m) × ((j : ℕ) → j < length ls → j ≢ i → list_bytes new (slice_index_or ls j d) ≡ list_bytes old (slice_index_or ls j d))
