-- A line 'unfolding computes' lets the definitions of this crate compute.
use Rattle.tantivy_bitpacker.specs.Packed.{as_number, bits_from}
use Rattle.fst_map.specs.Map as maps
use Rattle.sstable_blocks.specs.Computes as blocks
use Rattle.sstable_format.specs.Meta.{meta_at}
use Rattle.sstable_format.specs.Store.{start_of, ordinal_of, numbers_from, are_filled, joined, store_of}
use Rattle.sstable_format.specs.Index.{index_v2_of, index_v3_of}
use Rattle.sstable_format.specs.Table.{places_from, points_to, blocks_of, blocks_under, parts_of, whole_sst_of, sst_of}
use Rattle.sstable_format.specs.Entries.{value_at}

unfoldable pub computes : Unit {0}
unfolding blocks.computes maps.computes as_number bits_from meta_at start_of ordinal_of numbers_from are_filled joined store_of index_v2_of index_v3_of places_from points_to blocks_of blocks_under parts_of whole_sst_of sst_of value_at
computes = tt
