-- The pairs so far, and then those of the members that are left, are those of all.
use Rattle.std.proofs.Common.{◌≡◌, Some}
use Rattle.serde_json.specs.View.{members_view}
use Rattle.term_index.specs.Reading.{both, gathered, entries, pairs_of_member}
use Rattle.term_index.proofs.reading.read_members.Given as goal

abbrev pub invariant-loop-name : goal.invariant-loop-name
invariant-loop-name l =
    both (Some l.pairs) (gathered (λ m. pairs_of_member m.0 m.1) (entries (members_view l.name-iterator))) ≡ gathered (λ m. pairs_of_member m.0 m.1) (entries (members_view l.fn.members.entries))
