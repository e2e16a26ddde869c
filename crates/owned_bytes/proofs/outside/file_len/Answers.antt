use Rattle.std.proofs.Common.{sym, ◌∙◌}
use Rattle.owned_bytes.proofs.outside.file_len.Goals as goal

pub returns : goal.returns
returns g c = c.len.ensures ∙ sym (g.met.H.FileHandle.size_is c.args.handle.now)
