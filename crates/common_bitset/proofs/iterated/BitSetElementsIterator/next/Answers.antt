use Rattle.std.proofs.Common.{◌<◌, length, get_or, sym, ◌∙◌, arith}
use Rattle.std.specs.FinSet.{empty}
use Rattle.std.proofs.lemmas.List.{get_or_default}
use Rattle.common_bitset.specs.Subset.{word_at}
use Rattle.common_bitset.specs.Laws.Steps.{step_goes}
use Rattle.common_bitset.specs.Laws.Iterated.{elements_left-end, elements_left-load, elements_left-pop}
use Rattle.common_bitset.proofs.iterated.BitSetElementsIterator.next.Goals as goal

pub returns-then-self-clause-steps : goal.returns-then-self-clause-steps
returns-then-self-clause-steps c =
    let words = c.loop-self.self-inside.words.now in
    let ended = elements_left-end (word_at words) (length words) c.loop-self.self-inside.next c.loop-self.self-inside.current (c.is_empty.ensures.0 c.loop-self-test.true) (omega arith) in
    (sym c.self.view_is ∙ sym c.loop-self.invariant.left ∙ ended, ended)

pub loop-self-preserved : goal.loop-self-preserved
loop-self-preserved c =
    let words = c.loop-self.self-inside.words.now in
    let before = c.loop-self.invariant.placed.within in
    let few = c.loop-self.invariant.placed.few in
    let apart = c.if-self.false in
    let more : c.loop-self.self-inside.next < length words = omega arith in
    record {
      left =
          elements_left-load (word_at words) (length words) c.loop-self.self-inside.next c.loop-self.self-inside.current (get_or words c.loop-self.self-inside.next c.index-self-self.result) (c.is_empty.ensures.0 c.loop-self-test.true) more
          (get_or_default words c.loop-self.self-inside.next c.index-self-self.result empty more)
          ∙ c.loop-self.invariant.left;
      placed = record { few = few; within = omega arith };
    }

pub returns-clause-steps : goal.returns-clause-steps
returns-clause-steps c =
    let words = c.loop-self.self-inside.words.now in
    sym c.self.view_is ∙ sym c.loop-self.invariant.left
    ∙ elements_left-pop (word_at words) (length words) c.loop-self.self-inside.next c.in_ok-lowest.lowest c.saturating_sub.result c.loop-self.self-inside.current c.pop_lowest.new.self
    c.saturating_sub.ensures c.in_ok-lowest.ensures.below c.in_ok-lowest.ensures.least c.in_ok-lowest.ensures.after

pub returns-clause-goes : goal.returns-clause-goes
returns-clause-goes c = step_goes _ _ _ _ tt (returns-clause-steps c)
