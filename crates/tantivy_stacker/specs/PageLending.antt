-- What a page ends as, where a part of it is lent.
use Rattle.std.specs.Prelude.{ℕ, List, length, take}
use Rattle.std.specs.Borrow.{Lends, MutBor, Fml, Array, u8}
use Rattle.tantivy_stacker.specs.Arena.{put_on_page}
use Rattle.tantivy_stacker.specs.contracts.page.Page.{the_row}

-- once the borrow of the part ends, the page has from a place on what was written through it
abbrev pub LendsPart : MutBor (List ℕ) → ℕ → MutBor (List ℕ) → Fml
LendsPart bytes place part = Lends the_row (Array u8 0) bytes part (λ new. take (length bytes.now) (put_on_page bytes.now place new))
