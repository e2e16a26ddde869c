-- How much an arena that stands at its limit has handed out.
use Rattle.std.proofs.Common.{◌≡◌, ℕ, zero, suc, ◌+◌, ◌*◌, ◌<◌, ◌≤◌, inl, inr, List, [], ◌∷◌, length, sym, arith, subst}
use Rattle.std.specs.Prelude.{slice_index_or}
use Rattle.std.specs.List.{sum_by}
use Rattle.std.proofs.lemmas.Bool.{cases_eq}
use Rattle.std.proofs.lemmas.List.Sums.{sum_by-cons}
use Rattle.tantivy_stacker.specs.Arena.{page_bytes, last_page, FullIsSpent}
unfoldable use Rattle.tantivy_stacker.specs.Arena.{spent, IsFull}

suc_times : (n m : ℕ) → suc n * m ≡ m + n * m
suc_times n m = omega arith

pages_spent : (m : ℕ) (pages : List (List ℕ)) → ((i : ℕ) → i < length pages → page_bytes ≤ length (slice_index_or pages i []) + m) → length pages * page_bytes ≤ sum_by length pages + length pages * m
pages_spent m [] each = omega arith
pages_spent m (first ∷ pages) each =
    let here : page_bytes ≤ length first + m = each zero (omega arith) in
    let rest = pages_spent m pages (λ i within. each (suc i) (omega arith)) in
    let sum = sum_by-cons (λ (bytes : List ℕ). length bytes) first pages in
    let times : suc (length pages) * m ≡ m + length pages * m = suc_times (length pages) m in
    omega (arith, sum, times)

pub full_is_spent : FullIsSpent
unfolding spent IsFull
full_is_spent = λ a m full at.
    let each : (i : ℕ) → i < length a.pages → page_bytes ≤ length (slice_index_or a.pages i []) + m =
    λ i within. elim (cases_eq i (last_page a)) [
      | inl last ↦ subst (λ k. page_bytes ≤ length (slice_index_or a.pages k []) + m) (sym last) at.last
      | inr other ↦ full i (omega arith)
    ] in
    subst (λ n. n * page_bytes ≤ sum_by length a.pages + n * m) at.pages (pages_spent m a.pages each)
