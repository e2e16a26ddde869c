use Rattle.tantivy_stacker.proofs.ListFacts.{empty_is_held, others_stay, places_lie, lies_before_top}
use Rattle.tantivy_stacker.proofs.laws.list_laws.Goals as goal

pub returns : goal.returns
returns c = record { empty = empty_is_held; others = others_stay; places = places_lie; top = lies_before_top }
