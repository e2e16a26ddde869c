use Rattle.std.proofs.Common.{refl, lit<, rules}
use Rattle.index_file.specs.Rows.{ThreeDocuments, NoDocuments, Damaged, OtherIndex}
unfoldable use Rattle.index_file.specs.Computes.{computes}
use Rattle.index_file.proofs.law.rows_hold.Goals as goal

three : ThreeDocuments
unfolding computes
three = record { valid = record { few = lit< tt; pairs = Prim.search rules }; table = refl }

none : NoDocuments
unfolding computes
none = record { valid = record { few = lit< tt; pairs = Prim.search rules }; table = refl }

damaged : Damaged
unfolding computes
damaged = record { cut = refl; compressed = refl; other_byte = refl; short = refl }

other : OtherIndex
unfolding computes
other = refl

pub returns : goal.returns
returns c = record { three_documents = three; no_documents = none; damaged = damaged; other_index = other }
