-- The value of digits, one after another.
use Rattle.std.proofs.Common.{◌≡◌, ℕ, ◌+◌, ◌-◌, ◌*◌, ◌<◌, ◌≤◌, List, [], ◌∷◌, length, get_or, drop, fold, arith, add-one}
use Rattle.std.proofs.Math.Seq.{drop-cons}
use Rattle.std.proofs.lemmas.List.{at_drop_all}
use Rattle.query_tree.specs.Grammar.{next_number}

pub number_turn : (n i : ℕ) (ds : List ℕ) → i < length ds → fold next_number n (drop i ds) ≡ fold next_number (10 * n + (get_or ds i 0 - 48)) (drop (i + 1) ds)
number_turn n i ds h = rw (add-one, drop-cons ds i 0)

pub number_grows : (n : ℕ) (ds : List ℕ) → n ≤ fold next_number n ds
number_grows n [] = omega arith
number_grows n (d ∷ ds) = omega (arith, number_grows (10 * n + (d - 48)) ds)

pub number_ends : (n i : ℕ) (ds : List ℕ) → length ds ≤ i → fold next_number n (drop i ds) ≡ n
number_ends n i ds h = at_drop_all (fold next_number n) ds i h
