use Rattle.std.proofs.Common.{Some}
use Rattle.index_writing.proofs.Inserts.{not-stopped}
use Rattle.index_writing.proofs.table.finish.Goals as goal

pub unreachable-requires : goal.unreachable-requires
unreachable-requires c = not-stopped Some c.args.writer c.in-Err.unfinished.sink c.in-Err.unfinished.error _ c.requires.ready c.requires.short c.in-Err.ensures.finishes c.in-Err.ensures.cause (λ e. e) c.in_default.not-Memory
