-- What an arena ends as, where bytes of it are lent.
use Rattle.std.specs.Prelude.{ℕ, List}
use Rattle.std.specs.Borrow.{Lends, MutBor, Fml, Array, u8}
use Rattle.tantivy_stacker.specs.Arena.{Arena, with_slice}
use Rattle.tantivy_stacker.specs.contracts.memory_arena.MemoryArena.{the_row}

-- once the borrow of the bytes ends, the arena has from address p on what was written through it
abbrev pub LendsBytes : MutBor Arena → ℕ → MutBor (List ℕ) → Fml
LendsBytes arena p bytes = Lends the_row (Array u8 0) arena bytes (with_slice arena.now p)
