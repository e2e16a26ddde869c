use Rattle.tantivy_stacker.specs.Maps.{IsHeldMap}
use Rattle.tantivy_stacker.specs.Tenants.{AreTenants}
use Rattle.benches.proofs.gather.gather.Given as goal

abbrev pub invariant-loop-key : goal.invariant-loop-key
invariant-loop-key l = IsHeldMap 4 l.gathered.map.arena l.gathered.map.table × AreTenants l.gathered.arena l.gathered.lists.items
