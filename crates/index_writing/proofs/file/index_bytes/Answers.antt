use Rattle.std.proofs.Common.{◌∙◌, refl}
use Rattle.index_writing.proofs.Facts.{rising-at, small-at, fit-at, few-at}
use Rattle.index_writing.proofs.Files.{made-index}
use Rattle.index_writing.proofs.file.index_bytes.Goals as goal

pub count_of_numbers-count-requires : goal.count_of_numbers-count-requires
count_of_numbers-count-requires c = few-at c.args.docs.now c.as_slice.result.now c.requires.valid.few c.requires.small (c.as_slice.ensures.value ∙ c.in_ok-postings.ensures)

pub pack_numbers-requires-clause-fits : goal.pack_numbers-requires-clause-fits
pack_numbers-requires-clause-fits c = fit-at c.args.docs.now c.as_slice-2.result.now _ c.width_of.ensures.fits (c.as_slice-2.ensures.value ∙ c.in_ok-postings.ensures)

pub append_table-requires-clause-rising : goal.append_table-requires-clause-rising
append_table-requires-clause-rising c = rising-at c.args.docs.now c.as_slice-3.result.now (c.as_slice-3.ensures.value ∙ c.in_ok-postings.ensures)

pub append_table-requires-clause-few : goal.append_table-requires-clause-few
append_table-requires-clause-few c = few-at c.args.docs.now c.as_slice-3.result.now c.requires.valid.few c.requires.small (c.as_slice-3.ensures.value ∙ c.in_ok-postings.ensures)

pub append_table-requires-clause-small : goal.append_table-requires-clause-small
append_table-requires-clause-small c = small-at c.args.docs.now c.as_slice-3.result.now c.requires.small (c.as_slice-3.ensures.value ∙ c.in_ok-postings.ensures)

pub returns : goal.returns
returns c =
    made-index c.append_table.result c.args.docs.now c.as_slice.result.now c.as_slice-2.result.now c.as_slice-3.result.now
    c.new-sink.result c.write_header.new.sink c.pack_numbers.new.sink _ c.count_of_numbers-count.result c.width_of.result
    c.requires.valid (few-at c.args.docs.now _ c.requires.valid.few c.requires.small refl)
    (c.as_slice.ensures.value ∙ c.in_ok-postings.ensures) (c.as_slice-2.ensures.value ∙ c.in_ok-postings.ensures) (c.as_slice-3.ensures.value ∙ c.in_ok-postings.ensures)
    refl c.count_of_numbers-count.ensures
    c.width_of.ensures.width c.width_of.ensures.fits c.new-sink.ensures c.in_ok-write_header.ensures c.in_ok-pack_numbers.ensures c.append_table.ensures
