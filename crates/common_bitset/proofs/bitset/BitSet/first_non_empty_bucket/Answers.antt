use Rattle.std.proofs.Common.{◌≡◌, ℕ, ◌≤◌, ◌↔◌, sym, ap, subst, ◌∙◌, IsNone, IfSome}
use Rattle.std.specs.FinSet.{empty}
use Rattle.common_bitset.specs.Numbers.{Numbers}
use Rattle.common_bitset.specs.Subset.{word_at, word_in, IsFirstNonEmpty}
use Rattle.common_bitset.specs.Laws.Gathered.{word_in-gathered}
use Rattle.common_bitset.proofs.bitset.BitSet.first_non_empty_bucket.Goals as goal

words_are : (c : goal.After-first_non_empty) → word_at c.as_slice.result.now ≡ word_in c.args.self.now.elements
words_are c = λ i k. (ap (λ ws. word_at ws k) c.as_slice.ensures.value
    ∙ sym (word_in-gathered c.self.inside.max_value (word_at c.self.inside.tinysets.items) k c.self.invariant.are_words)
    ∙ ap (λ s. word_in s.elements k) c.self.view_is) i

pub returns-clause-none : goal.returns-clause-none
returns-clause-none c =
    subst (λ (word : ℕ → Numbers). IsNone c.first_non_empty.result ↔ ((k : ℕ) → c.args.bucket ≤ k → word k ≡ empty)) (words_are c) c.first_non_empty.ensures.none

pub returns-clause-some : goal.returns-clause-some
returns-clause-some c = subst (λ (word : ℕ → Numbers). IfSome c.first_non_empty.result (IsFirstNonEmpty word c.args.bucket)) (words_are c) c.first_non_empty.ensures.some
