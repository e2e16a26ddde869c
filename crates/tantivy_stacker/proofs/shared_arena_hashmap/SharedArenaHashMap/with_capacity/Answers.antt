use Rattle.std.proofs.Common.{◌∙◌, refl}
use Rattle.tantivy_stacker.proofs.MapFacts.{new_table, grown_from_none, empty_held}
use Rattle.tantivy_stacker.proofs.shared_arena_hashmap.SharedArenaHashMap.with_capacity.Goals as goal

pub returns-clause-empty : goal.returns-clause-empty
returns-clause-empty g c =
    new_table c.table_len.result 0 c.resize.new.self.items c.free.result c.table_len.ensures.at_least c.free.ensures (c.in_ok-resize.ensures.items ∙ grown_from_none c.table_len.result _ _ c.free.result c.new-table.ensures.items c.new-table.ensures.len) refl

pub returns-clause-held : goal.returns-clause-held
returns-clause-held g c = λ a. empty_held g.V.ArenaItem.SIZE a _ (returns-clause-empty g c)
