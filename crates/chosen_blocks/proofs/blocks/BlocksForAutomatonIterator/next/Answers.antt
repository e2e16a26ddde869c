use Rattle.std.proofs.Common.{◌≡◌, ◌≤◌, ◌+◌, length, arith, sym, ◌∙◌}
use Rattle.chosen_blocks.specs.Blocks.{rest_from}
use Rattle.chosen_blocks.proofs.Resting.{rest-end, rest-taken, goes}
use Rattle.chosen_blocks.proofs.blocks.BlocksForAutomatonIterator.next.Goals as goal

pub returns-in_default-clause-steps : goal.returns-in_default-clause-steps
returns-in_default-clause-steps g c =
    let index = g.I.BlockIndex.blocks c.self.inside.index.now in
    let past : length index ≤ c.num_blocks-len.result = omega arith in
    (sym c.self.view_is ∙ c.in_default.ensures, rest-end (g.A.Automaton.machine c.self.inside.automaton.now) index c.num_blocks-len.result past)

pub returns-clause-steps : goal.returns-clause-steps
returns-clause-steps g c =
    sym c.self.view_is
    ∙ rest-taken (g.A.Automaton.machine c.self.inside.automaton.now) (g.I.BlockIndex.blocks c.self.inside.index.now) c.self.inside.number c.in-Some.number c.block_address.result c.in-Some.ensures c.block_address.ensures

pub returns-clause-goes : goal.returns-clause-goes
returns-clause-goes g c =
    goes _ c.args.self.now (rest_from (g.A.Automaton.machine c.self.inside.automaton.now) (g.I.BlockIndex.blocks c.self.inside.index.now) (c.in-Some.number + 1)) (c.in-Some.number, c.block_address.result) tt
    (sym c.self.view_is
    ∙ rest-taken (g.A.Automaton.machine c.self.inside.automaton.now) (g.I.BlockIndex.blocks c.self.inside.index.now) c.self.inside.number c.in-Some.number c.block_address.result c.in-Some.ensures c.block_address.ensures)
