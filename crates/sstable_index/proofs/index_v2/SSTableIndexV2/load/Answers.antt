use Rattle.std.proofs.Common.{◌≡◌, ◌||◌, ℕ, List, drop, Bool, true, false, ap, sym, ◌∙◌}
use Rattle.owned_bytes.proofs.Pieces.{rest_is}
use Rattle.sstable_format.specs.Index.{is_zeros}
use Rattle.block_addresses.specs.Opened.{can_index}
use Rattle.sstable_index.proofs.LoadingV2.{no-run-loads, v2-cut, v2-unusable, v2-usable, tied-run}
use Rattle.sstable_index.proofs.index_v2.SSTableIndexV2.load.Goals.{then-not-is_end_of_index-via-then-not-is_end_of_index, then-not-is_end_of_index-via-else-not-is_end_of_index+then-not-can_index}
use Rattle.sstable_index.proofs.index_v2.SSTableIndexV2.load.Goals as goal

-- whether the run ends as an index does, by the bytes behind it
ends-is : (part whole bytes : List ℕ) (end : ℕ) (result t : Bool) → bytes ≡ whole → whole ≡ part → result ≡ (is_zeros 0 (drop end bytes) || is_zeros 4 (drop end bytes)) → result ≡ t → (is_zeros 0 (drop end part) || is_zeros 4 (drop end part)) ≡ t
ends-is part whole bytes end result t same copy is e = ap (λ bs. is_zeros 0 (drop end bs) || is_zeros 4 (drop end bs)) (sym (same ∙ copy)) ∙ sym is ∙ e

pub returns-in-Err : goal.returns-in-Err
returns-in-Err c = no-run-loads c.args.data c.in-Err.e c.in-Err.ensures.err

pub returns-then-not-is_end_of_index : goal.returns-then-not-is_end_of_index
returns-then-not-is_end_of_index c =
    let end : ℕ = c.in-Ok.run'.2 in
    elim c.then-not-is_end_of_index.branch [
      | then-not-is_end_of_index-via-then-not-is_end_of_index w ↦
          v2-cut c.args.data c.in-Ok.run'.0 c.in-Ok.run'.1.items end c.in-Ok.ensures.ok
          (ends-is c.args.data c.in_ok-whole.whole c.as_slice.result.now end c.is_end_of_index.result false c.as_slice.ensures c.in_ok-whole.ensures
          (c.is_end_of_index.ensures ∙ ap (λ bs. is_zeros 0 bs || is_zeros 4 bs) (rest_is end c.as_slice.result.now)) w.if-not-is_end_of_index.true)
      | then-not-is_end_of_index-via-else-not-is_end_of_index+then-not-can_index w ↦
          v2-unusable c.args.data c.in-Ok.run'.0 c.in-Ok.run'.1.items end c.in-Ok.ensures.ok
          (ap can_index (sym w.as_slice-else-not-is_end_of_index.ensures.value) ∙ sym w.can_index.ensures ∙ w.if-not-can_index.true)
    ]

pub returns : goal.returns
returns c =
    let end : ℕ = c.in-Ok.run'.2 in
    v2-usable c.args.data c.in-Ok.run'.0 c.in-Ok.run'.1.items end c.in-Ok.ensures.ok
    (ends-is c.args.data c.in_ok-whole.whole c.as_slice.result.now end c.is_end_of_index.result true c.as_slice.ensures c.in_ok-whole.ensures
    (c.is_end_of_index.ensures ∙ ap (λ bs. is_zeros 0 bs || is_zeros 4 bs) (rest_is end c.as_slice.result.now)) c.if-not-is_end_of_index.false)
    (ap can_index (sym c.as_slice-else-not-is_end_of_index.ensures.value) ∙ sym c.can_index.ensures ∙ c.if-not-can_index.false)

pub invariant_of-result : goal.invariant_of-result
invariant_of-result c =
    let end : ℕ = c.in-Ok.run'.2 in
    tied-run c.args.data c.in-Ok.run'.0 c.in-Ok.run'.1.items end c.in-Ok.ensures.ok
    (v2-usable c.args.data c.in-Ok.run'.0 c.in-Ok.run'.1.items end c.in-Ok.ensures.ok
    (ends-is c.args.data c.in_ok-whole.whole c.as_slice.result.now end c.is_end_of_index.result true c.as_slice.ensures c.in_ok-whole.ensures
    (c.is_end_of_index.ensures ∙ ap (λ bs. is_zeros 0 bs || is_zeros 4 bs) (rest_is end c.as_slice.result.now)) c.if-not-is_end_of_index.false)
    (ap can_index (sym c.as_slice-else-not-is_end_of_index.ensures.value) ∙ sym c.can_index.ensures ∙ c.if-not-can_index.false))
