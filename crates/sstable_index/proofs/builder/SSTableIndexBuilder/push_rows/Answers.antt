use Rattle.std.proofs.Common.{◌≡◌, ◌+◌, ◌-◌, ◌++◌, length, ap, sym, ◌∙◌, append_assoc, arith}
use Rattle.std.specs.Int.{w64, to_le_bytes}
use Rattle.std.specs.List.{flat_map}
use Rattle.sstable_blocks.specs.Writing.{keys_in}
use Rattle.sstable_format.specs.Store.{numbers_from}
use Rattle.sstable_index.specs.Building.{map_row, end_of}
use Rattle.sstable_index.proofs.KeyPlaces.{rows-step, rows-end}
use Rattle.sstable_index.proofs.builder.SSTableIndexBuilder.push_rows.Goals as goal

pub loop-i-preserved : goal.loop-i-preserved
loop-i-preserved c =
    let keys = keys_in c.args.self.now in
    let row : c.extend_from_slice-in-loop-i.new.self.items ≡ c.loop-i.bytes.items ++ map_row keys c.loop-i.i =
    c.in_ok-extend_from_slice-2.ensures.items ∙ ap (λ l. l ++ c.to_le_bytes-in-loop-i.result) c.in_ok-extend_from_slice.ensures.items
    ∙ append_assoc c.loop-i.bytes.items c.to_le_bytes.result c.to_le_bytes-in-loop-i.result
    ∙ ap (λ l. c.loop-i.bytes.items ++ (l ++ c.to_le_bytes-in-loop-i.result)) (c.to_le_bytes.ensures ∙ ap (to_le_bytes w64) c.key_end.ensures)
    ∙ ap (λ l. c.loop-i.bytes.items ++ (to_le_bytes w64 (end_of keys c.loop-i.i) ++ l)) c.to_le_bytes-in-loop-i.ensures in
    ap (λ l. l ++ flat_map (map_row keys) (numbers_from (c.loop-i.i + 1) (length c.args.self.now - (c.loop-i.i + 1)))) row ∙ sym (rows-step (map_row keys) c.loop-i.bytes.items c.loop-i.i (length c.args.self.now) (omega (arith, c.loop-i-test.true, c.len-i-end.ensures))) ∙ c.loop-i.invariant

pub returns : goal.returns
returns c =
    sym (rows-end (map_row (keys_in c.args.self.now)) c.loop-i.bytes.items c.loop-i.i (length c.args.self.now) (omega (arith, c.loop-i-test.false, c.len-i-end.ensures))) ∙ c.loop-i.invariant
