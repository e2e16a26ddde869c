use Rattle.sstable_streams.proofs.StatesLaws.{last-is, last-none}
use Rattle.sstable_streams.proofs.trail.last_state.Goals as goal

pub returns-in-Some : goal.returns-in-Some
returns-in-Some g c key e = last-is (g.A.Automaton.machine c.args.automaton.now) c.args.states.now c.in-Some.state.now key c.in-Some.ensures.value e

pub returns-in-None : goal.returns-in-None
returns-in-None g c key e = absurd (last-none (g.A.Automaton.machine c.args.automaton.now) c.args.states.now key c.in-None.ensures.value e)
