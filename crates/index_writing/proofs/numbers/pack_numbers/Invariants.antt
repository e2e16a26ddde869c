use Rattle.std.proofs.Common.{take, Some}
use Rattle.tantivy_bitpacker.specs.Packed.{HasPacked, at_width}
use Rattle.index_writing.specs.Emitting.{numbers_of_all}
use Rattle.index_writing.proofs.numbers.pack_numbers.Given as goal

abbrev pub invariant-loop-posting : goal.invariant-loop-posting
invariant-loop-posting l = HasPacked (at_width l.width (numbers_of_all (take l.posting-index l.postings))) l.packer (Some l.initial.sink) (Some l.sink)
