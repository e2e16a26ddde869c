use Rattle.std.proofs.Common.{◌∙◌, ap, ◌++◌, Some}
use Rattle.std.proofs.lemmas.List.{take_all}
use Rattle.tantivy_bitpacker.specs.Packed.{at_width, packed_pieces}
use Rattle.index_writing.specs.Emitting.{numbers_of_all}
use Rattle.index_writing.proofs.Inserts.{on-ok}
use Rattle.index_writing.proofs.Packing.{fit-posting, pack-posting}
use Rattle.index_writing.proofs.numbers.pack_numbers.Goals as goal

pub loop-posting-init : goal.loop-posting-init
loop-posting-init c = c.new-packer.ensures.run (Some c.args.sink.now)

pub pack_list-requires-clause-fits : goal.pack_list-requires-clause-fits
pack_list-requires-clause-fits c =
    fit-posting c.args.width c.args.postings.now c.loop-posting.posting-index c.posting-item.result c.as_slice.result.now c.loop-posting-test.true c.posting-item.is c.as_slice.ensures c.requires.fits

pub loop-posting-preserved : goal.loop-posting-preserved
loop-posting-preserved c =
    pack-posting c.args.width c.args.postings.now c.loop-posting.posting-index c.posting-item.result c.as_slice.result.now c.loop-posting.packer c.pack_list.new.packer c.args.sink.now c.loop-posting.sink c.pack_list.new.sink
    c.loop-posting-test.true c.posting-item.is c.as_slice.ensures c.loop-posting.invariant c.in_ok-pack_list.ensures

pub returns : goal.returns
returns c =
    let closed = on-ok c.close.result _ c.close.ensures.run c.in_ok-in_memory.ensures in
    let all = take_all c.loop-posting.posting-index c.args.postings.now c.loop-posting-test.false in
    closed _ (Some c.args.sink.now) c.loop-posting.invariant ∙ ap (λ postings. c.args.sink.now ++ packed_pieces (at_width c.args.width (numbers_of_all postings))) all
