use Rattle.std.proofs.Common.{◌<◌, ◌≤◌, length, arith, sym, ◌∙◌, ap}
use Rattle.chosen_blocks.proofs.Resting.{rest-on, rest-found, rest-end}
use Rattle.chosen_blocks.proofs.blocks.next_needed.Goals as goal

pub returns-then-is_needed : goal.returns-then-is_needed
returns-then-is_needed g c =
    let index = g.I.BlockIndex.blocks c.args.index.now in
    let within : c.loop-number.number < length index = omega arith in
    rest-found (g.A.Automaton.machine c.args.automaton.now) index c.args.from c.loop-number.number c.is_needed.result within c.is_needed.ensures c.if-is_needed.true c.loop-number.invariant

pub loop-number-preserved : goal.loop-number-preserved
loop-number-preserved g c =
    let index = g.I.BlockIndex.blocks c.args.index.now in
    let within : c.loop-number.number < length index = omega arith in
    rest-on (g.A.Automaton.machine c.args.automaton.now) index c.args.from c.loop-number.number c.is_needed.result within c.is_needed.ensures c.if-is_needed.false c.loop-number.invariant

pub returns : goal.returns
returns g c =
    let index = g.I.BlockIndex.blocks c.args.index.now in
    let past : length index ≤ c.loop-number.number = omega arith in
    c.loop-number.invariant ∙ rest-end (g.A.Automaton.machine c.args.automaton.now) index c.loop-number.number past
