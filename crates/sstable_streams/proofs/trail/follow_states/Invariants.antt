use Rattle.std.proofs.Common.{◌≡◌, ◌++◌, take}
use Rattle.owned_bytes.specs.Keys.{Key}
use Rattle.sstable_streams.specs.States.{states_of}
use Rattle.sstable_streams.proofs.StatesLaws.{Along}
use Rattle.sstable_streams.proofs.trail.follow_states.Given as goal

abbrev pub invariant-loop-byte : goal.invariant-loop-byte
invariant-loop-byte g l = (key : Key) → l.fn.states.items ≡ states_of (g.A.Automaton.machine l.automaton) key → Along (g.A.Automaton.machine l.automaton) (take l.keep key ++ take l.byte-index l.suffix) l.states.items l.state
