use Rattle.std.proofs.Common.{◌≡◌, arith, sym, ap, subst, ◌∙◌, inl, inr}
use Rattle.std.proofs.lemmas.Bool.{cases_lt}
use Rattle.std.specs.FinSet.{empty, difference, intersection}
use Rattle.std.proofs.lemmas.List.{get_or_past}
use Rattle.common_bitset.specs.Numbers.{below, IsBelow}
use Rattle.common_bitset.specs.Subset.{word_at, room}
use Rattle.common_bitset.specs.Laws.Sets.{IsBelow-difference, IsBelow-empty, intersection-difference, intersection-nothing, difference-none}
use Rattle.common_bitset.proofs.words.complement.Goals as goal

pub trim-requires-clause-short : goal.trim-requires-clause-short
trim-requires-clause-short c k = elim (cases_lt k c.loop-word.word-index) as (λ _. IsBelow 64 (word_at c.loop-word.words k)) [
  | inl h ↦ subst (IsBelow 64) (sym (c.loop-word.invariant.done k h)) (IsBelow-difference 64 (word_at c.args.words.now k))
  | inr h ↦ subst (IsBelow 64) (sym (get_or_past c.loop-word.words k empty (omega arith))) (IsBelow-empty 64)
]

pub returns : goal.returns
returns c k = c.trim.ensures k ∙ elim (cases_lt k c.loop-word.word-index) as (λ _. intersection (word_at c.loop-word.words k) (below (room c.args.max_value k)) ≡ difference (below (room c.args.max_value k)) (word_at c.args.words.now k)) [
  | inl h ↦ ap (λ s. intersection s (below (room c.args.max_value k))) (c.loop-word.invariant.done k h) ∙ intersection-difference (room c.args.max_value k) 64 (word_at c.args.words.now k) (omega arith)
  | inr h ↦ let none : room c.args.max_value k ≡ 0 = omega arith in
      ap (λ s. intersection s (below (room c.args.max_value k))) (get_or_past c.loop-word.words k empty (omega arith)) ∙ intersection-nothing (below (room c.args.max_value k))
      ∙ sym (ap (λ r. difference (below r) (word_at c.args.words.now k)) none ∙ difference-none (word_at c.args.words.now k))
]
