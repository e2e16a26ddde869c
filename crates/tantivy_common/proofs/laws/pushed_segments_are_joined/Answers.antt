use Rattle.tantivy_common.proofs.PathLaws.{text-all_pushed}
use Rattle.tantivy_common.proofs.laws.pushed_segments_are_joined.Goals as goal

pub returns : goal.returns
returns c = text-all_pushed
