use Rattle.std.proofs.Common.{reverse}
use Rattle.tantivy_common.proofs.Paths.{text_is_utf8}
use Rattle.tantivy_common.proofs.json_path_writer.StringFromJsonPathWriter.from.Goals as goal

pub from_utf8_unchecked-requires : goal.from_utf8_unchecked-requires
from_utf8_unchecked-requires c = text_is_utf8 c.value.inside.path.items (reverse c.value.inside.indices.items) c.value.invariant
