-- Going over the taken places of a table.
use Rattle.std.proofs.Common.{◌≡◌, ℕ, ◌+◌, ◌-◌, ◌<◌, not, map, filter, List, [], ◌∷◌, length, take, drop, sym, ap, ◌∙◌, arith}
use Rattle.std.proofs.lemmas.Bool.{ne_eqb}
use Rattle.std.proofs.lemmas.List.{drop_more, drop_all, take_rest}
use Rattle.tantivy_stacker.specs.Arena.{Arena}
use Rattle.tantivy_stacker.specs.Maps.{place, is_taken, IsTaken, key_at, value_place, entries_of}
use Rattle.tantivy_stacker.proofs.Maps.{filter-cons_yes}

pub at_taken : (ps : List (ℕ × ℕ)) (i : ℕ) → i < length ps → IsTaken ps i → filter is_taken ps ≡ filter is_taken (drop i ps) → filter is_taken ps ≡ place ps i ∷ filter is_taken (drop (i + 1) ps)
at_taken ps i within taken so_far =
    so_far ∙ (ap (filter is_taken) (drop_more ps i (4294967295, 0) within) ∙ filter-cons_yes is_taken (place ps i) (drop (i + 1) ps) (ap not (ne_eqb (place ps i).0 4294967295 taken)))

pub at_end : (ps : List (ℕ × ℕ)) → filter is_taken ps ≡ filter is_taken (drop (length ps) ps) → filter is_taken ps ≡ []
at_end ps so_far = so_far ∙ ap (filter is_taken) (drop_all (length ps) ps (omega arith))

module _ (a : Arena) (ps : List (ℕ × ℕ)) (i : ℕ) (within : i < length ps) (taken : IsTaken ps i) (so_far : filter is_taken ps ≡ filter is_taken (drop i ps)) where
  pub first_entry : entries_of a ps ≡ (key_at a (place ps i).0, value_place a (place ps i).0) ∷ entries_of a (take (length ps - (i + 1)) (drop (i + 1) ps))
  unfolding entries_of
  first_entry =
      ap (map (λ (p : ℕ × ℕ). (key_at a p.0, value_place a p.0))) (at_taken ps i within taken so_far)
      ∙ ap (λ xs. (key_at a (place ps i).0, value_place a (place ps i).0) ∷ map (λ (p : ℕ × ℕ). (key_at a p.0, value_place a p.0)) (filter is_taken xs)) (sym (take_rest ps (i + 1)))

pub no_entry : (a : Arena) (ps : List (ℕ × ℕ)) → filter is_taken ps ≡ filter is_taken (drop (length ps) ps) → entries_of a ps ≡ []
unfolding entries_of
no_entry a ps so_far = ap (map (λ (p : ℕ × ℕ). (key_at a p.0, value_place a p.0))) (at_end ps so_far)

pub none_left : (ps : List (ℕ × ℕ)) (i : ℕ) → i ≡ length ps → take (length ps - i) (drop i ps) ≡ []
none_left ps i e = take_rest ps i ∙ drop_all i ps (omega arith)
