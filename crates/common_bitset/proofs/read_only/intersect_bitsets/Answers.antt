use Rattle.std.proofs.Common.{◌≡◌, ◌/◌, ◌∙◌, ap, sym, subst, length, arith, refl}
use Rattle.std.specs.FinSet.{intersection}
use Rattle.std.specs.Int.{div_ceil}
use Rattle.common_bitset.specs.Subset.{gathered, stored_word}
use Rattle.common_bitset.specs.Laid.{AreStored}
use Rattle.common_bitset.specs.Laws.Stored.{Stores, stored_from, gathered_stored}
use Rattle.common_bitset.specs.Laws.Gathered.{AreWords-intersection, gathered-intersection}
use Rattle.common_bitset.proofs.read_only.intersect_bitsets.Goals as goal

stores : (c : goal.In_ok-new) → Stores c.in_ok-words.words.items (div_ceil c.left.inside.max_value 64) (λ k. intersection (stored_word c.left.inside.words k) (stored_word c.other.inside.words k))
stores c =
    let long = c.left.invariant.length_is in
    let n : length c.left.inside.words / 8 ≡ div_ceil c.left.inside.max_value 64 = omega (arith, long) in
    subst (λ m. Stores c.in_ok-words.words.items m (λ k. intersection (stored_word c.left.inside.words k) (stored_word c.other.inside.words k))) n
    (subst (λ ls. Stores c.in_ok-words.words.items (length ls / 8) (λ k. intersection (stored_word ls k) (stored_word c.other.inside.words k))) c.as_slice.ensures
    (subst (λ rs. Stores c.in_ok-words.words.items (length c.as_slice.result.now / 8) (λ k. intersection (stored_word c.as_slice.result.now k) (stored_word rs k))) c.as_slice-2.ensures c.in_ok-words.ensures))

pub invariant_of-result : goal.invariant_of-result
invariant_of-result c =
    subst (λ bs. AreStored bs c.left.inside.max_value) (sym c.in_ok-new.ensures)
    (stored_from c.in_ok-words.words.items c.left.inside.max_value _ (stores c)
    (AreWords-intersection c.left.inside.max_value (stored_word c.left.inside.words) (stored_word c.other.inside.words) _ c.left.invariant.are_words (λ k. refl)) c.left.invariant.small)

pub returns-clause-elements : goal.returns-clause-elements
returns-clause-elements c =
    let same_bound = ap (λ s. s.max_value) c.other.view_is ∙ c.requires ∙ ap (λ s. s.max_value) (sym c.left.view_is) in
    ap (λ bs. gathered c.left.inside.max_value (stored_word bs)) c.in_ok-new.ensures
    ∙ gathered_stored c.left.inside.max_value c.in_ok-words.words.items _ (stores c)
    ∙ gathered-intersection c.left.inside.max_value (stored_word c.left.inside.words) (stored_word c.other.inside.words) _ (λ k. refl)
    ∙ ap (λ m. intersection (gathered c.left.inside.max_value (stored_word c.left.inside.words)) (gathered m (stored_word c.other.inside.words))) (sym same_bound)
    ∙ (λ i. intersection (c.left.view_is i).elements (c.other.view_is i).elements)
