use Rattle.std.proofs.Common.{◌∙◌}
use Rattle.tantivy_stacker.proofs.Rehashing.{rehash_step}
use Rattle.tantivy_stacker.proofs.shared_arena_hashmap.fill_from.Goals as goal

pub loop-taken-preserved : goal.loop-taken-preserved
loop-taken-preserved c =
    let l = c.loop-taken in
    let s = rehash_step c.args.places.now l.table.items c.file.new.table.items l.taken-index c.taken-item.result c.requires.unique l.invariant.0 c.loop-taken-test.true c.taken-item.is c.file.ensures.free c.file.ensures.filed in
    (s.0, s.1 ∙ l.invariant.1)
