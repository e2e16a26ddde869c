use Rattle.std.proofs.Common.{◌≤◌, length, sym, arith}
use Rattle.std.proofs.lemmas.List.{take_all}
use Rattle.std.proofs.lemmas.List.Elements.{All-same}
use Rattle.sstable_values.specs.Reads.{ReadsAgain}
use Rattle.sstable_values.specs.Codec.{list_at, list, items_of}
use Rattle.sstable_values.proofs.RisingLaws.{starts-more}
use Rattle.sstable_values.proofs.ListLaws.{lists-again, items_of-length, length-fits, Lists-begin, Lists-more, Lists-again}
use Rattle.sstable_values.proofs.vec_u32.write_lists.Goals as goal

pub loop-numbers-init : goal.loop-numbers-init
loop-numbers-init c =
    rw (c.in_ok-extend_from_slice.ensures.items, c.to_le_bytes.ensures) (
      Lists-begin c.args.lists.now c.args.output.now.items,
      λ k d below. absurd (omega arith),
      starts-more _ _ _ (take_all (length c.args.output.now.items) c.args.output.now.items (omega arith)),
    )

pub write_list-requires : goal.write_list-requires
write_list-requires c = rw c.as_slice.ensures.value (length-fits _ _ _ c.requires c.loop-numbers-test.true c.numbers-item.is)

pub loop-numbers-preserved : goal.loop-numbers-preserved
loop-numbers-preserved c =
    let again = rw c.as_slice.ensures.value at c.in_ok-write_list.ensures.again in
    rw (c.in_ok-write_list.ensures.ok, c.as_slice.ensures.value) (
      Lists-more _ _ _ _ _ c.loop-numbers.invariant.0 c.loop-numbers-test.true c.numbers-item.is,
      Lists-again _ _ _ c.loop-numbers.invariant.1 c.loop-numbers-test.true c.numbers-item.is again,
      starts-more _ _ _ c.loop-numbers.invariant.2,
    )

pub returns-clause-again : goal.returns-clause-again
returns-clause-again c rest =
    let whole : length (items_of c.args.lists.now) ≤ c.loop-numbers.numbers-index = rw (items_of-length c.args.lists.now) (omega arith) in
    lists-again (items_of c.args.lists.now) rest c.requires.0
    (All-same (λ numbers. ReadsAgain list_at (list numbers) numbers) _ _ (sym (take_all c.loop-numbers.numbers-index (items_of c.args.lists.now) whole)) c.loop-numbers.invariant.1)
