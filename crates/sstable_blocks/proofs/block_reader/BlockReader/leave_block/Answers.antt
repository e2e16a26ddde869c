use Rattle.std.proofs.Common.{◌≡◌, ◌<◌, length, arith, subst, sym, ◌∙◌}
use Rattle.std.specs.Vec.Iter.{into_iter_items}
use Rattle.sstable_blocks.proofs.LeavingLaws.{Leaving, Leaving-more, Leaving-last, Leaving-end, is_empty}
use Rattle.sstable_blocks.specs.BlockReader.{onto_bytes}
use Rattle.sstable_blocks.proofs.block_reader.BlockReader.leave_block.Goals as goal

pub loop-self-preserved : goal.loop-self-preserved
loop-self-preserved c =
    let s = c.loop-self.self-inside in
    Leaving-more s.start s.begin s.at s.next s.reader (into_iter_items s.next_slices) s.first_ordinal _ c.in-Some.slice (into_iter_items c.next.new.self) c.loop-self.invariant (omega arith) c.in-Some.ensures.items

pub returns-after-loop-self : goal.returns-after-loop-self
returns-after-loop-self c =
    let s = c.loop-self.self-inside in
    let some : s.next < length s.reader = omega (arith, c.loop-self.invariant.order.within) in
    Leaving-end s.start s.begin s.at s.next s.reader (into_iter_items s.next_slices) s.first_ordinal _ c.loop-self.invariant some

pub returns-in_default : goal.returns-in_default
returns-in_default c =
    let s = c.loop-self.self-inside in
    let none : length (into_iter_items s.next_slices) ≡ 0 = omega (arith, c.in_default.ensures.cases.0, s.next_slices.rest.ok.0) in
    let same : into_iter_items s.next_slices ≡ into_iter_items c.next.new.self = c.in_default.ensures.items in
    Leaving-last s.start s.begin s.at s.next s.reader (into_iter_items c.next.new.self) s.first_ordinal _
    (subst (λ more. Leaving s.start s.begin s.at s.next s.reader more s.first_ordinal (onto_bytes c.args.self.now.rest c.args.self.now.place c.args.self.now.more c.args.self.now.ordinal)) same c.loop-self.invariant)
    (sym same ∙ is_empty (into_iter_items s.next_slices) none)
