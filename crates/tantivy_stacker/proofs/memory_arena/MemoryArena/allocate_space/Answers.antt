use Rattle.tantivy_stacker.proofs.Arena.{laws_from}
use Rattle.tantivy_stacker.proofs.memory_arena.MemoryArena.allocate_space.Goals as goal

pub returns-clause-laws : goal.returns-clause-laws
returns-clause-laws c =
    let e = c.hand_out.ensures in
    laws_from c.hand_out.result c.args.self.now c.hand_out.new.self c.args.len e.first e.last c.requires.bound c.requires.some e.place e.space
