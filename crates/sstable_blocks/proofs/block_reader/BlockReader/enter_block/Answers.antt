use Rattle.std.proofs.Common.{arith, refl}
use Rattle.sstable_values.proofs.RisingLaws.{rest_is}
use Rattle.sstable_blocks.proofs.BlockLaws.{block-within, goes_on}
use Rattle.sstable_blocks.proofs.block_reader.BlockReader.enter_block.Goals as goal

pub overflow_add-self-3 : goal.overflow_add-self-3
overflow_add-self-3 c =
    let read = rw (c.in-Ok-Some.field-0-is, c.as_slice.ensures, rest_is c.self.inside.next c.self.inside.reader) at c.in-Ok-Some.ensures in
    let within = block-within c.self.inside.reader c.in-Ok-Some.content.now c.in-Ok-Some._rest.now _ c.self.inside.next c.self.invariant.within read in
    omega (arith, within, c.self.invariant.placed)

pub invariant_of-self-2 : goal.invariant_of-self-2
invariant_of-self-2 c =
    let read = rw (c.in-Ok-Some.field-0-is, c.as_slice.ensures, rest_is c.self.inside.next c.self.inside.reader) at c.in-Ok-Some.ensures in
    let within = block-within c.self.inside.reader c.in-Ok-Some.content.now c.in-Ok-Some._rest.now _ c.self.inside.next c.self.invariant.within read in
    record { begun = omega arith; unread = omega arith; within = within; placed = c.self.invariant.placed; others = c.self.invariant.others }

pub returns-clause-read : goal.returns-clause-read
returns-clause-read c =
    let read = rw (c.in-Ok-Some.field-0-is, c.as_slice.ensures, rest_is c.self.inside.next c.self.inside.reader) at c.in-Ok-Some.ensures in
    let found = goes_on c.self.inside.reader c.in-Ok-Some.content.now c.in-Ok-Some._rest.now c.self.inside.start c.self.inside.next c.self.invariant.within read in
    rw (← c.self.view_is) (found.0, found.1, found.2, refl, refl)

pub returns-clause-placed : goal.returns-clause-placed
returns-clause-placed c =
    let read = rw (c.in-Ok-Some.field-0-is, c.as_slice.ensures, rest_is c.self.inside.next c.self.inside.reader) at c.in-Ok-Some.ensures in
    let within = block-within c.self.inside.reader c.in-Ok-Some.content.now c.in-Ok-Some._rest.now _ c.self.inside.next c.self.invariant.within read in
    omega (arith, within, c.self.invariant.placed)
