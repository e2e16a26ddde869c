use Rattle.tantivy_stacker.proofs.MapFacts.{empty_held, empty_none, entries_one, other_maps}
use Rattle.tantivy_stacker.proofs.laws.map_laws.Goals as goal

pub returns-clause-empty : goal.returns-clause-empty
returns-clause-empty g c = empty_held g.V.ArenaItem.SIZE

pub returns-clause-none : goal.returns-clause-none
returns-clause-none g c = empty_none g.V.ArenaItem.SIZE g.V.ArenaItem.item

pub returns-clause-one : goal.returns-clause-one
returns-clause-one g c = entries_one g.V.ArenaItem.SIZE g.V.ArenaItem.item

pub returns-clause-others : goal.returns-clause-others
returns-clause-others g c = other_maps g.V.ArenaItem.SIZE g.V.ArenaItem.item g.met.V.ArenaItem.some
