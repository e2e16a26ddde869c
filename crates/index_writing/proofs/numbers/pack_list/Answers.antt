use Rattle.std.proofs.Common.{subst}
use Rattle.std.proofs.lemmas.List.{take_all}
use Rattle.index_writing.specs.Emitting.{PacksAll}
use Rattle.index_writing.proofs.Inserts.{on-ok}
use Rattle.index_writing.proofs.Packing.{pack-none, pack-more}
use Rattle.index_writing.proofs.numbers.pack_list.Goals as goal

pub loop-number-init : goal.loop-number-init
loop-number-init c = pack-none c.args.width c.args.packer.now c.args.sink.now

pub loop-number-preserved : goal.loop-number-preserved
loop-number-preserved c =
    pack-more c.args.width c.args.numbers.now c.loop-number.number-index c.args.packer.now c.loop-number.packer c.write.new.self c.args.sink.now c.loop-number.sink c.write.new.output
    c.loop-number-test.true c.loop-number.invariant (on-ok c.write.result _ c.write.ensures.run c.in_ok-in_memory.ensures)

pub returns : goal.returns
returns c = subst (λ numbers. PacksAll c.args.width numbers c.args.packer.now c.loop-number.packer c.args.sink.now c.loop-number.sink) (take_all c.loop-number.number-index c.args.numbers.now c.loop-number-test.false) c.loop-number.invariant
