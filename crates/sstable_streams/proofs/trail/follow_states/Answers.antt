use Rattle.std.proofs.Common.{take, ◌∙◌}
use Rattle.sstable_streams.proofs.StatesLaws.{along-begin, along-more}
use Rattle.sstable_streams.proofs.trail.follow_states.Goals as goal

pub loop-byte-init : goal.loop-byte-init
loop-byte-init g c key e =
    along-begin (g.A.Automaton.machine c.args.automaton.now) c.args.keep key c.args.suffix.now c.args.states.now.items c.keep_front.new.states.items c.last_state-state.result c.keep_front.ensures
    (λ k h. c.last_state-state.ensures k (c.as_slice.ensures.value ∙ h)) e

pub loop-byte-preserved : goal.loop-byte-preserved
loop-byte-preserved g c key e =
    along-more (g.A.Automaton.machine c.args.automaton.now) (take c.args.keep key) c.args.suffix.now c.loop-byte.byte-index c.loop-byte.states.items _ c.loop-byte.state c.accept-state.result (c.loop-byte.invariant key e) c.loop-byte-test.true c.accept-state.ensures c.in_ok-push.ensures.items
