use Rattle.term_search.proofs.Found.{increasing}
use Rattle.term_search.proofs.members.term_members.Goals as goal

pub from_ids-requires-clause-rising : goal.from_ids-requires-clause-rising
from_ids-requires-clause-rising g c =
    let numbers = (rw c.in-Ok-Some.field-0-is at c.in-Ok-Some.ensures.numbers) in increasing _ numbers.rising
