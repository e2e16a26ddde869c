use Rattle.std.proofs.Common.{◌≡◌, ◌++◌}
use Rattle.index_writing.proofs.gather.entries_of.Given as goal

abbrev pub invariant-loop-key : goal.invariant-loop-key
invariant-loop-key l = l.postings.items ++ l.key-iterator ≡ l.initial.key-iterator
