use Rattle.tantivy_stacker.proofs.BesideFacts.{empty_beside, list_beside, map_beside}
use Rattle.tantivy_stacker.proofs.laws.beside_laws.Goals as goal

pub returns-clause-empty : goal.returns-clause-empty
returns-clause-empty g c = empty_beside g.V.ArenaItem.SIZE

pub returns-clause-list : goal.returns-clause-list
returns-clause-list g c = list_beside g.V.ArenaItem.SIZE g.V.ArenaItem.item g.met.V.ArenaItem.some

pub returns-clause-map : goal.returns-clause-map
returns-clause-map g c = map_beside g.V.ArenaItem.SIZE
