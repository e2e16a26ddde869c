use Rattle.sstable_tables.proofs.writer.finish_table.Goals as goal

pub returns-in-Ok-clause-bytes : goal.returns-in-Ok-clause-bytes
returns-in-Ok-clause-bytes g c = rw (c.finish-sink.ensures, c.written_bytes-index_offset.ensures) at c.in-Ok.ensures.bytes

pub returns-in-Err-clause-bytes : goal.returns-in-Err-clause-bytes
returns-in-Err-clause-bytes g c = rw (c.finish-sink.ensures, c.written_bytes-index_offset.ensures) at c.in-Err.ensures.bytes
