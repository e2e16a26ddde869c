-- The addresses of blocks that adjoin, by their numbers.
use Rattle.std.proofs.Common.{◌≡◌, ℕ, zero, suc, ◌+◌, ◌-◌, ◌<◌, ◌≤◌, List, [], ◌∷◌, ◌++◌, length, take, drop, get_or, Option, Some, refl, ap, ◌∙◌, arith}
use Rattle.owned_bytes.specs.Front.{◌>>=◌, each}
use Rattle.sstable_values.specs.Codec.{Address}
use Rattle.sstable_format.specs.Store.{numbers_from}
use Rattle.block_addresses.specs.Lines.{Pair, numbered_from}
use Rattle.block_addresses.specs.Written.{addresses_between}

pub length-numbered_from : (place base : ℕ) (numbers : List ℕ) → length (numbered_from place base numbers) ≡ length numbers
unfolding numbered_from
length-numbered_from place base [] = refl
length-numbered_from place base (n ∷ numbers) = ap (λ k. suc k) (length-numbered_from (place + 1) base numbers)

pub get_or-numbered_from : (place base : ℕ) (numbers : List ℕ) (i : ℕ) (d : Pair) (e : ℕ) → i < length numbers → get_or (numbered_from place base numbers) i d ≡ (place + i, get_or numbers i e - base)
unfolding numbered_from
get_or-numbered_from place base [] i d e below = absurd (omega arith)
get_or-numbered_from place base (n ∷ numbers) zero d e below = ap (λ k. (k, n - base)) (omega arith)
get_or-numbered_from place base (n ∷ numbers) (suc i) d e below = get_or-numbered_from (place + 1) base numbers i d e (omega arith) ∙ ap (λ k. (k, get_or numbers i e - base)) (omega arith)

pub length-addresses_between : (starts ordinals : List ℕ) → length starts ≡ length ordinals + 1 → length (addresses_between starts ordinals) ≡ length ordinals
unfolding addresses_between
length-addresses_between [] ordinals long = absurd (omega arith)
length-addresses_between (start ∷ []) [] long = refl
length-addresses_between (start ∷ []) (ordinal ∷ ordinals) long = absurd (omega arith)
length-addresses_between (start ∷ end ∷ starts) [] long = absurd (omega arith)
length-addresses_between (start ∷ end ∷ starts) (ordinal ∷ ordinals) long = ap (λ k. suc k) (length-addresses_between (end ∷ starts) ordinals (omega arith))

pub get_or-addresses_between : (starts ordinals : List ℕ) (i : ℕ) (d : Address) → length starts ≡ length ordinals + 1 → i < length ordinals
    → get_or (addresses_between starts ordinals) i d ≡ record { start = get_or starts i 0; end = get_or starts (suc i) 0; first_ordinal = get_or ordinals i 0 }
unfolding addresses_between
get_or-addresses_between [] ordinals i d long below = absurd (omega arith)
get_or-addresses_between (start ∷ []) ordinals i d long below = absurd (omega arith)
get_or-addresses_between (start ∷ end ∷ starts) [] i d long below = absurd (omega arith)
get_or-addresses_between (start ∷ end ∷ starts) (ordinal ∷ ordinals) zero d long below = refl
get_or-addresses_between (start ∷ end ∷ starts) (ordinal ∷ ordinals) (suc i) d long below = get_or-addresses_between (end ∷ starts) ordinals i d (omega arith) (omega arith)

-- the first n blocks and those behind them
pub addresses_between-cut : (n : ℕ) (starts ordinals : List ℕ) → length starts ≡ length ordinals + 1 → n ≤ length ordinals
    → addresses_between starts ordinals ≡ addresses_between (take (suc n) starts) (take n ordinals) ++ addresses_between (drop n starts) (drop n ordinals)
unfolding addresses_between
addresses_between-cut zero [] ordinals long below = absurd (omega arith)
addresses_between-cut zero (start ∷ []) ordinals long below = refl
addresses_between-cut zero (start ∷ end ∷ starts) ordinals long below = refl
addresses_between-cut (suc n) [] ordinals long below = absurd (omega arith)
addresses_between-cut (suc n) (start ∷ []) ordinals long below = absurd (omega arith)
addresses_between-cut (suc n) (start ∷ end ∷ starts) [] long below = absurd (omega arith)
addresses_between-cut (suc n) (start ∷ end ∷ starts) (ordinal ∷ ordinals) long below =
    ap (λ xs. record { start = start; end = end; first_ordinal = ordinal } ∷ xs) (addresses_between-cut n (end ∷ starts) ordinals (omega arith) (omega arith))

-- a function that gives each number its element of a list
pub each-numbers_from : {A : Type 0} (f : ℕ → Option A) (k : ℕ) (xs : List A) → ((i : ℕ) (d : A) → i < length xs → f (k + i) ≡ Some (get_or xs i d)) → each f (numbers_from k (length xs)) ≡ Some xs
unfolding each numbers_from
each-numbers_from f k [] gives = refl
each-numbers_from {A} f k (x ∷ xs) gives =
    let first : f k ≡ Some x = ap f (omega arith) ∙ gives 0 x (omega arith) in
    let others : each f (numbers_from (k + 1) (length xs)) ≡ Some xs = each-numbers_from f (k + 1) xs (λ i d below. ap f (omega arith) ∙ gives (suc i) d (omega arith)) in
    ap (λ o. o >>= (λ y. each f (numbers_from (k + 1) (length xs)) >>= (λ ys. Some (y ∷ ys)))) first ∙ ap (λ o. o >>= (λ ys. Some (x ∷ ys))) others
