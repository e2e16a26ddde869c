use Rattle.std.proofs.Common.{List, ℕ, arith}
use Rattle.std.proofs.lemmas.Result.{IfOk-weaker}
use Rattle.common_wire.proofs.SliceParts.{IsRead-part, ReadsFile-part}
use Rattle.common_wire.proofs.slice_handle.SliceHandleFileHandle.read_bytes.Goals as goal

pub returns-clause-part : goal.returns-clause-part
returns-clause-part g c =
    IfOk-weaker c.read_bytes.result _ _ (λ (part : List ℕ) h. IsRead-part c.args.self.now.start c.args.self.now.end c.args.range.start c.args.range.end (g.H.FileHandle.state c.args.self.now.handle.now) part c.requires.ordered c.requires.within h) c.read_bytes.ensures.part

pub returns-clause-reads : goal.returns-clause-reads
returns-clause-reads g c = ReadsFile-part c.args.self.now.start c.args.self.now.end _ _ _ _ _ _ (omega arith) c.read_bytes.ensures.reads
