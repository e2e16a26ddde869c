use Rattle.owned_bytes.proofs.Pieces.{rest_is}
use Rattle.sstable_index.proofs.RunsV2.{to_come, added, after-none, after-some, after-err, memory_only}
use Rattle.sstable_index.proofs.builder_v2.write_next.Goals as goal

pub returns-in_err-write_entry-clause-err : goal.returns-in_err-write_entry-clause-err
returns-in_err-write_entry-clause-err c =
    let come = to_come c.args.builder.now c.args.i c.args.last.now c.args.writer.now c.key-key.result.now c.block_addr.result c.requires.written c.requires.within c.requires.rising c.requires.short c.block_addr.ensures.adjoining c.key-key.ensures c.block_addr.ensures.place in
    memory_only _ c.args.writer.now.values c.block_addr.result _ c.from_residual.ensures c.in_err-write_entry.ensures.refused come.accepted

pub returns-in-Ok-None-clause-ok : goal.returns-in-Ok-None-clause-ok
returns-in-Ok-None-clause-ok c =
    let come = to_come c.args.builder.now c.args.i c.args.last.now c.args.writer.now c.key-key.result.now c.block_addr.result c.requires.written c.requires.within c.requires.rising c.requires.short c.block_addr.ensures.adjoining c.key-key.ensures c.block_addr.ensures.place in
    let is = added c.args.builder.now c.args.i c.args.last.now c.args.writer.now c.write_entry.new.self c.key-key.result.now c.block_addr.result c.common_prefix_len-keep.result _ come c.common_prefix_len-keep.ensures.count (rest_is c.common_prefix_len-keep.result c.key-key.result.now)
    c.in_ok-write_entry.ensures.entries c.in_ok-write_entry.ensures.key c.in_ok-write_entry.ensures.value c.in_ok-write_entry.ensures.others in
    after-none c.args.builder.now c.args.i c.args.last.now c.args.writer.now c.write_entry.new.self c.flush_block_if_required.new.self c.key-key.result.now c.block_addr.result _ is c.in-Ok-None.field-0-is c.in-Ok-None.ensures.due c.in-Ok-None.ensures.not_due

pub returns-in-Ok-Some-clause-ok : goal.returns-in-Ok-Some-clause-ok
returns-in-Ok-Some-clause-ok c =
    let come = to_come c.args.builder.now c.args.i c.args.last.now c.args.writer.now c.key-key.result.now c.block_addr.result c.requires.written c.requires.within c.requires.rising c.requires.short c.block_addr.ensures.adjoining c.key-key.ensures c.block_addr.ensures.place in
    let is = added c.args.builder.now c.args.i c.args.last.now c.args.writer.now c.write_entry.new.self c.key-key.result.now c.block_addr.result c.common_prefix_len-keep.result _ come c.common_prefix_len-keep.ensures.count (rest_is c.common_prefix_len-keep.result c.key-key.result.now)
    c.in_ok-write_entry.ensures.entries c.in_ok-write_entry.ensures.key c.in_ok-write_entry.ensures.value c.in_ok-write_entry.ensures.others in
    after-some c.args.builder.now c.args.i c.args.last.now c.args.writer.now c.write_entry.new.self c.flush_block_if_required.new.self c.key-key.result.now c.block_addr.result _ _ is c.in-Ok-Some.field-0-is c.in-Ok-Some.ensures.due c.in-Ok-Some.ensures.not_due c.in-Ok-Some.ensures.run c.in-Ok-Some.ensures.next

pub returns-in-Err-clause-err : goal.returns-in-Err-clause-err
returns-in-Err-clause-err c =
    let come = to_come c.args.builder.now c.args.i c.args.last.now c.args.writer.now c.key-key.result.now c.block_addr.result c.requires.written c.requires.within c.requires.rising c.requires.short c.block_addr.ensures.adjoining c.key-key.ensures c.block_addr.ensures.place in
    let is = added c.args.builder.now c.args.i c.args.last.now c.args.writer.now c.write_entry.new.self c.key-key.result.now c.block_addr.result c.common_prefix_len-keep.result _ come c.common_prefix_len-keep.ensures.count (rest_is c.common_prefix_len-keep.result c.key-key.result.now)
    c.in_ok-write_entry.ensures.entries c.in_ok-write_entry.ensures.key c.in_ok-write_entry.ensures.value c.in_ok-write_entry.ensures.others in
    c.in_memory.ensures (after-err c.args.builder.now c.args.i c.args.last.now c.args.writer.now c.write_entry.new.self c.flush_block_if_required.new.self c.key-key.result.now c.block_addr.result c.in-Err.e is c.in-Err.ensures.due c.in-Err.ensures.not_due)
