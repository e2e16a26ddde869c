use Rattle.std.proofs.Common.{rules}
use Rattle.term_index.proofs.SourceLaws.{too_long}
use Rattle.term_index.proofs.loading.load.Goals as goal

-- told bytes are too many
pub returns-in-Err-TooLong-clause-unread : goal.returns-in-Err-TooLong-clause-unread
returns-in-Err-TooLong-clause-unread g c = search (rules, too_long)
