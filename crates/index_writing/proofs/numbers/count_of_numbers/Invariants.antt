use Rattle.std.proofs.Common.{◌≡◌, length, take}
use Rattle.index_writing.specs.Emitting.{numbers_of_all}
use Rattle.index_writing.proofs.numbers.count_of_numbers.Given as goal

abbrev pub invariant-loop-posting : goal.invariant-loop-posting
invariant-loop-posting l = l.count ≡ length (numbers_of_all (take l.posting-index l.postings))
