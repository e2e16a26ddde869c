-- A line 'unfolding computes' lets the definitions of this crate compute.
use Rattle.tantivy_bitpacker.specs.Packed.{digits_upto, num_bits, unpacked_from}
use Rattle.sstable_format.specs.Computes as tables
use Rattle.documents.specs.Postings.{gather}
use Rattle.index_file.specs.IndexFile.{adjoin, is_increasing, parted, table_of}

unfoldable pub computes : Unit {0}
unfolding tables.computes digits_upto num_bits unpacked_from gather adjoin is_increasing parted table_of
computes = tt
