use Rattle.std.proofs.Common.{◌≡◌, ◌-◌, ◌/◌, length}
use Rattle.common_bitset.specs.Subset.{stored_word}
use Rattle.common_bitset.specs.Iterated.{elements_left, IsPlaced}
use Rattle.common_bitset.proofs.iterated.BitSetIterIterator.next.Given as goal

abbrev pub invariant-loop-self : goal.invariant-loop-self
invariant-loop-self l = record {
  left : elements_left (stored_word l.self-inside.words.now) (length l.self-inside.words.now / 8) l.self-inside.next l.self-inside.current
      ≡ elements_left (stored_word l.initial.self-inside.words.now) (length l.initial.self-inside.words.now / 8) l.initial.self-inside.next l.initial.self-inside.current;
  placed : IsPlaced (length l.self-inside.words.now / 8) l.self-inside.next;
}

abbrev pub decreases-loop-self : goal.decreases-loop-self
decreases-loop-self l = length l.self-inside.words.now / 8 - l.self-inside.next
