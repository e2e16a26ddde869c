use Rattle.std.proofs.Common.{◌+◌, length, subst}
use Rattle.tantivy_stacker.specs.Arena.{HandsOut}
use Rattle.tantivy_stacker.specs.Maps.{MapWrite, MapPuts}
use Rattle.tantivy_stacker.proofs.Maps.{inserted_write, inserted_puts, placed}
use Rattle.tantivy_stacker.proofs.shared_arena_hashmap.SharedArenaHashMap.create.Goals as goal

pub returns-clause-write : goal.returns-clause-write
returns-clause-write g c =
    let a = c.args.arena.now in
    let b = c.allocate_space.new.self in
    let d = c.write_entry.new.arena in
    let t = c.args.self.now in
    let size = g.V.ArenaItem.SIZE in
    placed (record { places = c.self.inside.table.items; count = c.self.inside.len }) t c.args.bucket c.new.result (c.in-Ok.addr, c.args.hash) c.self.view_is c.new.ensures (λ u. MapWrite size a d t u)
    (inserted_write size g.V.ArenaItem.item a b d t c.args.key.now c.updater-value.result c.args.hash c.args.bucket c.in-Ok.addr g.met.V.ArenaItem.some c.requires.held c.requires.free c.requires.hash c.requires.room c.in-Ok.ensures.pages_after (subst (λ k. HandsOut a b c.in-Ok.addr (2 + length c.args.key.now + k)) c.SIZE.ensures c.in-Ok.ensures.laws) c.write_entry.ensures)

pub returns-clause-puts : goal.returns-clause-puts
returns-clause-puts g c =
    let a = c.args.arena.now in
    let b = c.allocate_space.new.self in
    let d = c.write_entry.new.arena in
    let t = c.args.self.now in
    let size = g.V.ArenaItem.SIZE in
    let item = g.V.ArenaItem.item in
    placed (record { places = c.self.inside.table.items; count = c.self.inside.len }) t c.args.bucket c.new.result (c.in-Ok.addr, c.args.hash) c.self.view_is c.new.ensures (λ u. MapPuts size item a d t u c.args.key.now c.updater-value.result)
    (inserted_puts size item a b d t c.args.key.now c.updater-value.result c.args.hash c.args.bucket c.in-Ok.addr g.met.V.ArenaItem.some c.requires.held c.requires.free c.requires.hash c.requires.room c.in-Ok.ensures.pages_after (subst (λ k. HandsOut a b c.in-Ok.addr (2 + length c.args.key.now + k)) c.SIZE.ensures c.in-Ok.ensures.laws) c.write_entry.ensures)
