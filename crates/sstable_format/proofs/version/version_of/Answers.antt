use Rattle.std.proofs.Common.{ap, sym, ◌∙◌, Some}
use Rattle.std.specs.Int.{w32}
use Rattle.owned_bytes.specs.Front.{◌>>=◌}
use Rattle.sstable_format.proofs.Ends.{number_at_end}
use Rattle.sstable_format.proofs.version.version_of.Goals as goal

pub returns : goal.returns
returns c = ap (λ o. o >>= (λ ended. Some ended.0)) (number_at_end w32 c.args.ending.now c.requires) ∙ ap Some (sym c.last_u32.ensures)
