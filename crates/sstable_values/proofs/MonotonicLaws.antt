-- Laws of stored numbers that don't fall.
use Rattle.std.proofs.Common.{◌≡◌, ℕ, zero, suc, ◌+◌, ◌-◌, ◌^◌, ◌<◌, ◌≤◌, List, [], ◌∷◌, ◌++◌, length, drop, get_or, Bool, true, false, cond, Option, Some, None, refl, ap, sym, ◌∙◌, arith, append_assoc, append-nil, length-drop, drop-drop}
use Rattle.std.specs.Prelude.{nat_lt, nat_le}
use Rattle.std.proofs.lemmas.Bool.{lt-ltb, le-ltb, le-leb}
use Rattle.owned_bytes.specs.Front.{◌>>=◌}
use Rattle.sstable_values.specs.Vint.{vint_at}
use Rattle.sstable_values.specs.Values.{Values, Listed}
use Rattle.sstable_values.specs.Codec.{monotonic_u64, never_falls, last_is, sums_at, rising_numbers_at}
use Rattle.sstable_values.proofs.RisingLaws.{both-true, next_sum, sums_at-more}

-- numbers, and then further ones
abbrev pub with_numbers : List ℕ → Option (List ℕ × List ℕ) → Option (Values ℕ × List ℕ)
with_numbers numbers found = found >>= (λ more. Some (Listed (numbers ++ more.0), more.1))

-- a loop that reads: the numbers so far, and so many more after the one before
pub record NumbersOn (left before taken : ℕ) (numbers content : List ℕ) : Type 0 where
  pub within : taken ≤ length content
  pub found : monotonic_u64.values_of content ≡ with_numbers numbers (sums_at left before (drop taken content))

pub Numbers-no_count : (content : List ℕ) → vint_at content ≡ None → monotonic_u64.values_of content ≡ None
unfolding monotonic_u64 rising_numbers_at
Numbers-no_count content e = ap (λ o. (o >>= (λ count. sums_at count.0 0 count.1)) >>= (λ found. Some (Listed found.0, found.1))) e

none_before : (found : Option (List ℕ × List ℕ)) → with_numbers [] found ≡ (found >>= (λ more. Some (Listed more.0, more.1)))
none_before None = refl
none_before (Some more) = refl

pub Numbers-begin : (count left a : ℕ) (content : List ℕ) → vint_at content ≡ Some (count, drop a content) → left ≡ count → a ≤ length content → NumbersOn left 0 a [] content
unfolding monotonic_u64 rising_numbers_at
Numbers-begin count left a content e same h = record {
  within = h;
  found = ap (λ o. (o >>= (λ c. sums_at c.0 0 c.1)) >>= (λ found. Some (Listed found.0, found.1))) e
      ∙ ap (λ n. sums_at n 0 (drop a content) >>= (λ found. Some (Listed found.0, found.1))) (sym same) ∙ sym (none_before (sums_at left 0 (drop a content)));
}

pub Numbers-cut : (left before taken : ℕ) (numbers content : List ℕ) → NumbersOn left before taken numbers content → 0 < left
    → vint_at (drop taken content) ≡ None → monotonic_u64.values_of content ≡ None
unfolding sums_at
Numbers-cut zero before taken numbers content r h e = absurd (omega arith)
Numbers-cut (suc left) before taken numbers content r h e =
    r.found ∙ ap (λ o. with_numbers numbers (o >>= (λ d. next_sum left before d (nat_lt (before + d.0) (2 ^ 64))))) e

pub Numbers-large : (left before taken len difference : ℕ) (numbers content : List ℕ) → NumbersOn left before taken numbers content → 0 < left
    → vint_at (drop taken content) ≡ Some (difference, drop len (drop taken content)) → 2 ^ 64 ≤ before + difference → monotonic_u64.values_of content ≡ None
Numbers-large zero before taken len difference numbers content r h e large = absurd (omega arith)
Numbers-large (suc left) before taken len difference numbers content r h e large =
    r.found ∙ ap (with_numbers numbers) (sums_at-more left before (drop taken content) _ e
    ∙ ap (next_sum left before (difference, drop len (drop taken content))) (le-ltb (before + difference) (2 ^ 64) large))

numbers-onward : (numbers : List ℕ) (next : ℕ) (found : Option (List ℕ × List ℕ))
    → with_numbers numbers (found >>= (λ others. Some (next ∷ others.0, others.1))) ≡ with_numbers (numbers ++ next ∷ []) found
numbers-onward numbers next None = refl
numbers-onward numbers next (Some others) = ap (λ ns. Some (Listed ns, others.1)) (sym (append_assoc numbers (next ∷ []) others.0))

-- one more number
pub Numbers-more : (left more before taken len difference : ℕ) (numbers content : List ℕ) → NumbersOn left before taken numbers content → left ≡ suc more
    → len ≤ length (drop taken content) → vint_at (drop taken content) ≡ Some (difference, drop len (drop taken content)) → before + difference < 2 ^ 64
    → NumbersOn more (before + difference) (taken + len) (numbers ++ (before + difference) ∷ []) content
Numbers-more left more before taken len difference numbers content r same h e fits =
    let found : monotonic_u64.values_of content ≡ with_numbers numbers (sums_at (suc more) before (drop taken content)) = rw same at r.found in
    record {
      within = (let at_rest : len ≤ length content - taken = simp length-drop at h in omega (arith, at_rest, r.within));
      found = found ∙ ap (with_numbers numbers) (sums_at-more more before (drop taken content) _ e
          ∙ ap (next_sum more before (difference, drop len (drop taken content))) (lt-ltb (before + difference) (2 ^ 64) fits))
          ∙ numbers-onward numbers (before + difference) (sums_at more (before + difference) (drop len (drop taken content)))
          ∙ ap (λ rest. with_numbers (numbers ++ (before + difference) ∷ []) (sums_at more (before + difference) rest)) (drop-drop len taken content);
    }

pub Numbers-end : (before taken : ℕ) (numbers content : List ℕ) → NumbersOn 0 before taken numbers content → monotonic_u64.values_of content ≡ Some (Listed numbers, drop taken content)
unfolding sums_at
Numbers-end before taken numbers content r = r.found ∙ ap (λ ns. Some (Listed ns, drop taken content)) (append-nil numbers)

-- the test of the last value is one of the value at the last place
pub last_is-at : {V : Type 0} (test : V → Bool) (values : List V) (d : V) → 0 < length values → last_is test values ≡ test (get_or values (length values - 1) d)
last_is-at test [] d h = absurd (omega arith)
last_is-at test (a ∷ []) d h = refl
last_is-at test (a ∷ b ∷ values) d h =
    let outer : length (a ∷ b ∷ values) - 1 ≡ suc (length values) = omega arith in
    let inner : length (b ∷ values) - 1 ≡ length values = omega arith in
    let again : last_is test (b ∷ values) ≡ test (get_or (b ∷ values) (length (b ∷ values) - 1) d) = last_is-at test (b ∷ values) d (omega arith) in
    rw outer (rw inner at again)

never_falls-more : (start a : ℕ) (ns : List ℕ) (n : ℕ) → never_falls start (a ∷ ns) ≡ true → last_is (λ last. nat_le last n) (a ∷ ns) ≡ true → never_falls start (a ∷ ns ++ n ∷ []) ≡ true
never_falls-more start a [] n e h = let parts = both-true (nat_le start a) true e in rw (parts.0, h) refl
never_falls-more start a (b ∷ ns) n e h = let parts = both-true (nat_le start a) (never_falls a (b ∷ ns)) e in rw parts.0 (never_falls-more a b ns n parts.1 h)

-- numbers that don't fall still don't, whether one more was added or not
pub rising-kept : (added : Bool) (ns : List ℕ) (n : ℕ) → never_falls 0 ns ≡ true → last_is (λ last. nat_le last n) ns ≡ true → never_falls 0 (cond added (ns ++ n ∷ []) ns) ≡ true
rising-kept false ns n e h = e
rising-kept true [] n e h = rw (le-leb 0 n (omega arith)) refl
rising-kept true (a ∷ ns) n e h = never_falls-more 0 a ns n e h
