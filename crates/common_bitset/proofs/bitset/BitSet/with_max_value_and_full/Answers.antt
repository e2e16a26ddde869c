use Rattle.std.proofs.Common.{◌≡◌, ℕ, sym, ap, subst, ◌∙◌, length, replicate, take, drop, ◌++◌}
use Rattle.std.proofs.lemmas.List.{length-replicate}
use Rattle.std.specs.Int.{div_ceil}
use Rattle.std.specs.FinSet.{intersection}
use Rattle.common_bitset.specs.Numbers.{below, IsBelow}
use Rattle.common_bitset.specs.Subset.{word_at, gathered, room}
use Rattle.common_bitset.specs.Laid.{IsLaid}
use Rattle.common_bitset.specs.Laws.Laid.{laid_full, full_word, IsBelow-replicate}
use Rattle.common_bitset.specs.Laws.Gathered.{gathered-full}
use Rattle.common_bitset.proofs.WordLoops.{lent_whole}
use Rattle.common_bitset.proofs.bitset.BitSet.with_max_value_and_full.Goals as goal

items_are : (c : goal.After-as_mut_slice) → c.in_ok-tinysets.tinysets.items ≡ replicate (div_ceil c.args.max_value 64) (below 64)
items_are c = c.in_ok-tinysets.ensures.items_if_clones_equal (λ y h. h) ∙ (λ i. replicate (c.div_ceil.ensures i) (c.full.ensures i))

pub trim-requires-clause-short : goal.trim-requires-clause-short
trim-requires-clause-short c k =
    subst (λ ws. IsBelow 64 (word_at ws k)) (sym (c.as_mut_slice.ensures.value ∙ items_are c)) (IsBelow-replicate (div_ceil c.args.max_value 64) k)

were_full : (c : goal.After-tinysets-3-1) → c.in_ok-tinysets.tinysets.items ≡ replicate (div_ceil c.args.max_value 64) (below 64)
were_full c = c.in_ok-tinysets.ensures.items_if_clones_equal (λ y h. h) ∙ (λ i. replicate (c.div_ceil.ensures i) (c.full.ensures i))

each_full : (c : goal.After-tinysets-3-1) (k : ℕ) → word_at c.trim.new.words k ≡ below (room c.args.max_value k)
each_full c k =
    c.trim.ensures k ∙ ap (λ ws. intersection (word_at ws k) (below (room c.args.max_value k))) (c.as_mut_slice.ensures.value ∙ were_full c) ∙ full_word c.args.max_value k

stays : (c : goal.After-tinysets-3-1) → take c.in_ok-tinysets.tinysets.len (c.trim.new.words ++ drop (length c.trim.new.words) c.in_ok-tinysets.tinysets.items) ≡ c.trim.new.words
stays c =
    lent_whole c.in_ok-tinysets.tinysets.items c.trim.new.words _ (c.trim.auto.words ∙ ap length c.as_mut_slice.ensures.value)
    (sym c.as_mut_slice.ensures.len ∙ ap length c.as_mut_slice.ensures.value)

pub invariant_of-result : goal.invariant_of-result
invariant_of-result c =
    subst (λ ws. IsLaid ws c.args.max_value c.args.max_value) (sym (stays c))
    (laid_full c.trim.new.words c.args.max_value
    (c.trim.auto.words ∙ ap length (c.as_mut_slice.ensures.value ∙ were_full c) ∙ length-replicate (div_ceil c.args.max_value 64) (below 64)) c.ranges.max_value.fits (each_full c))

pub returns : goal.returns
returns c =
    let elements = ap (λ ws. gathered c.args.max_value (word_at ws)) (stays c) ∙ gathered-full c.args.max_value (word_at c.trim.new.words) (each_full c) in
    λ i. record { elements = elements i; max_value = c.args.max_value }
