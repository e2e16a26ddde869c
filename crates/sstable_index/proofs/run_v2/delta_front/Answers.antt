use Rattle.std.proofs.Common.{refl}
use Rattle.sstable_blocks.proofs.DeltaLaws.{delta-no_lens}
use Rattle.sstable_index.proofs.ReadingDeltas.{front-cut, front-taken}
use Rattle.sstable_index.proofs.run_v2.delta_front.Goals as goal

pub returns-in_default-clause-none : goal.returns-in_default-clause-none
returns-in_default-clause-none c = delta-no_lens c.args.bytes.now c.in_default.ensures.none

pub returns-then-add-rest-clause-none : goal.returns-then-add-rest-clause-none
returns-then-add-rest-clause-none c = front-cut c.args.bytes.now _ c.in-Some.keep c.in-Some.add c.in-Some.len c.in-Some.ensures.found refl c.if-add-rest.true

pub returns-clause-found : goal.returns-clause-found
returns-clause-found c =
    front-taken c.args.bytes.now _ _ _ c.in-Some.keep c.in-Some.add c.in-Some.len c.in-Some.ensures.found refl c.if-add-rest.false c.split_at.ensures.front c.split_at.ensures.back
