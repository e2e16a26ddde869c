use Rattle.std.proofs.Common.{sym, subst, reverse, IsUtf8}
use Rattle.tantivy_common.proofs.Paths.{text_is_utf8}
use Rattle.tantivy_common.proofs.json_path_writer.JsonPathWriter.as_str.Goals as goal

pub from_utf8_unchecked-requires : goal.from_utf8_unchecked-requires
from_utf8_unchecked-requires c = subst IsUtf8 (sym c.as_slice.ensures.value) (text_is_utf8 c.self.inside.path.items (reverse c.self.inside.indices.items) c.self.invariant)
