use Rattle.std.proofs.Common.{sym, ◌∙◌}
use Rattle.std.proofs.lemmas.List.{map-id}
use Rattle.tantivy_bitpacker.proofs.bitunpacker.BitUnpacker.get_range.Goals as goal

pub returns : goal.returns
returns c = sym (map-id c.unpack.new.output) ∙ c.unpack.ensures
