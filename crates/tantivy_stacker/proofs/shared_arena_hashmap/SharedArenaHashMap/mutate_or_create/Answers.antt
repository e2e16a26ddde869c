use Rattle.tantivy_stacker.specs.Maps.{cut_key}
use Rattle.tantivy_stacker.proofs.Mutating.{held_now, room_now, finds_now, not_mutated, mutates}
use Rattle.tantivy_stacker.proofs.shared_arena_hashmap.SharedArenaHashMap.mutate_or_create.Goals as goal

pub put-requires-clause-held : goal.put-requires-clause-held
put-requires-clause-held g c = held_now g.V.ArenaItem.SIZE g.V.ArenaItem.item c.args.arena.now c.args.self.now c.make_room.new.self c.requires.held c.in-Ok.ensures.rehashed c.make_room.ensures.count c.in-Ok.ensures.room c.in-Ok.ensures.some

pub put-requires-clause-room : goal.put-requires-clause-room
put-requires-clause-room g c = room_now g.V.ArenaItem.SIZE g.V.ArenaItem.item c.args.arena.now c.args.self.now c.make_room.new.self c.requires.held c.in-Ok.ensures.rehashed c.make_room.ensures.count c.in-Ok.ensures.room c.in-Ok.ensures.some

pub put-requires-clause-callable : goal.put-requires-clause-callable
put-requires-clause-callable g c =
    λ before f. c.requires.callable before (finds_now g.V.ArenaItem.SIZE g.V.ArenaItem.item c.args.arena.now c.args.self.now c.make_room.new.self c.requires.held c.in-Ok.ensures.rehashed c.make_room.ensures.count c.in-Ok.ensures.room c.in-Ok.ensures.some c.cut.result.now (cut_key c.args.key.now) c.cut.ensures.value before f)

pub returns-in-Err : goal.returns-in-Err
returns-in-Err g c = not_mutated g.V.ArenaItem.SIZE g.V.ArenaItem.item c.args.arena.now c.args.self.now c.make_room.new.self (cut_key c.args.key.now) _ c.requires.held c.in-Err.ensures.unchanged

pub returns : goal.returns
returns g c =
    mutates g.V.ArenaItem.SIZE g.V.ArenaItem.item c.args.arena.now c.args.self.now c.make_room.new.self c.requires.held c.in-Ok.ensures.rehashed c.make_room.ensures.count c.in-Ok.ensures.room c.in-Ok.ensures.some c.put.result c.put.new.arena c.put.new.self c.cut.result.now (cut_key c.args.key.now) _ c.cut.ensures.value
    (record {
      write = c.put.ensures.write;
      puts = c.put.ensures.puts;
      called = c.put.ensures.called;
      unchanged = c.put.ensures.unchanged;
      arena = c.put.ensures.arena;
      space = c.put.ensures.space;
      there = c.put.ensures.there;
      full = c.put.ensures.full;
      places = c.put.ensures.places;
      one_more = c.put.ensures.one_more;
      same_count = c.put.ensures.same_count;
      absent = c.put.ensures.absent;
      at_limit = c.put.ensures.at_limit;
    })
    c.in-Ok.ensures.doubles
