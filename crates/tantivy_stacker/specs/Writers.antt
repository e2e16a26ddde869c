-- What a writer of a list does.
use Rattle.std.specs.Prelude.{ℕ, List, Result}
use Rattle.tantivy_stacker.specs.declared.error.ArenaError.{ArenaError}
use Rattle.tantivy_stacker.specs.declared.expull.ExpUnrolledLinkedListWriter.{ExpUnrolledLinkedListWriter}
use Rattle.tantivy_stacker.specs.Lists.{Appends}

-- A writer was to append these bytes to its list.
abbrev pub WriterAppends : {A : Type 0} → ExpUnrolledLinkedListWriter → ExpUnrolledLinkedListWriter → List ℕ → Result A ArenaError → Type 0
WriterAppends old new bs result = Appends old.arena.now new.arena.now old.eull.now new.eull.now bs result
