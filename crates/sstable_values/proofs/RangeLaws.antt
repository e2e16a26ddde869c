-- Laws of ranges between bounds.
use Rattle.std.proofs.Common.{◌≡◌, ℕ, zero, suc, ◌+◌, ◌-◌, ◌^◌, ◌<◌, ◌≤◌, List, [], ◌∷◌, ◌++◌, length, drop, map, get_or, Bool, true, false, Option, Some, None, cond, refl, ap, sym, ◌∙◌, arith, append_assoc, append-nil, zero-add, length-drop, drop-drop}
use Rattle.std.specs.Prelude.{nat_lt, nat_le, nat_eq}
use Rattle.std.specs.declared.ops.Range.{Range}
use Rattle.std.proofs.lemmas.Bool.{lt-ltb, le-ltb, leb-true, le-leb, eqb-true}
use Rattle.owned_bytes.specs.Front.{◌>>=◌, provided}
use Rattle.sstable_values.specs.Vint.{vint_at}
use Rattle.sstable_values.specs.Values.{Values, Listed}
use Rattle.sstable_values.specs.Codec.{range, never_falls, are_bounds, spans_between, bounds_of, rising_numbers, sums_at, rising_numbers_at}
use Rattle.sstable_values.specs.Range.{ends_at, may_adjoin}
use Rattle.sstable_values.proofs.VintLaws.{vint-fits}
use Rattle.sstable_values.proofs.RisingLaws.{both-true, next_sum, sums_at-more}

last_of : ℕ → List ℕ → ℕ
last_of b [] = b
last_of b (c ∷ bs) = last_of c bs

get_or-last : (b : ℕ) (bs : List ℕ) (d : ℕ) → get_or (b ∷ bs) (length bs) d ≡ last_of b bs
unfolding last_of
get_or-last b [] d = refl
get_or-last b (c ∷ bs) d = get_or-last c bs d

ends_at-last : (a b : ℕ) (bs : List ℕ) (place : ℕ) → ends_at (spans_between (a ∷ b ∷ bs)) place ≡ nat_eq (last_of b bs) place
unfolding last_of
ends_at-last a b [] place = refl
ends_at-last a b (c ∷ bs) place = ends_at-last b c bs place

-- the last range ends at the last bound
pub ends_at-bounds : (bounds : List ℕ) (place : ℕ) → are_bounds bounds ≡ true → 0 < length bounds → (d : ℕ) → ends_at (spans_between bounds) place ≡ nat_eq (get_or bounds (length bounds - 1) d) place
ends_at-bounds [] place e h d = absurd (omega arith)
ends_at-bounds (a ∷ []) place e h d = cc
ends_at-bounds (a ∷ b ∷ bs) place e h d =
    let at_end : length (a ∷ b ∷ bs) - 1 ≡ suc (length bs) = omega arith in
    rw at_end (ends_at-last a b bs place ∙ ap (λ n. nat_eq n place) (sym (get_or-last b bs d)))

never_falls-more : (a b : ℕ) (bs : List ℕ) (v : ℕ) → never_falls a (b ∷ bs) ≡ true → last_of b bs ≤ v → never_falls a (b ∷ bs ++ v ∷ []) ≡ true
unfolding last_of
never_falls-more a b [] v e h = let parts = both-true (nat_le a b) true e in rw (parts.0, le-leb b v h) refl
never_falls-more a b (c ∷ bs) v e h = let parts = both-true (nat_le a b) (never_falls b (c ∷ bs)) e in rw parts.0 (never_falls-more b c bs v parts.1 h)

spans-more : (a b : ℕ) (bs : List ℕ) (v : ℕ) → spans_between (a ∷ b ∷ bs ++ v ∷ []) ≡ spans_between (a ∷ b ∷ bs) ++ record { start = last_of b bs; end = v } ∷ []
unfolding last_of
spans-more a b [] v = refl
spans-more a b (c ∷ bs) v = ap (λ more. record { start = a; end = b } ∷ more) (spans-more b c bs v)

-- one more range
pub bounds-more : (bounds : List ℕ) (r : Range ℕ) → are_bounds bounds ≡ true → nat_eq (length bounds) 0 ≡ false → may_adjoin (Listed (spans_between bounds)) r ≡ true
    → (are_bounds (bounds ++ r.end ∷ []) ≡ true) × (spans_between (bounds ++ r.end ∷ []) ≡ spans_between bounds ++ r ∷ [])
bounds-more [] r e some may = cc
bounds-more (a ∷ []) r e some may = cc
bounds-more (a ∷ b ∷ bs) r e some may =
    let parts = both-true (nat_le r.start r.end) (ends_at (spans_between (a ∷ b ∷ bs)) r.start) may in
    let same : last_of b bs ≡ r.start = eqb-true _ _ (sym (ends_at-last a b bs r.start) ∙ parts.1) in
    let up : r.start ≤ r.end = leb-true _ _ parts.0 in (
      never_falls-more a b bs r.end e (omega arith),
      spans-more a b bs r.end ∙ ap (λ start. spans_between (a ∷ b ∷ bs) ++ record { start = start; end = r.end } ∷ []) same,
    )

-- what holds of the bounds of ranges holds of them as numbers that don't fall
pub bounds-rise : (bounds : List ℕ) → are_bounds bounds ≡ true → never_falls 0 bounds ≡ true
bounds-rise [] e = refl
bounds-rise (a ∷ []) e = cc
bounds-rise (a ∷ b ∷ bs) e = rw (le-leb 0 a (omega arith)) e

-- bounds stay bounds, whether the end of one more range was added or not
pub bounds-kept : (added : Bool) (bounds : List ℕ) (r : Range ℕ) → are_bounds bounds ≡ true → nat_eq (length bounds) 0 ≡ false → may_adjoin (Listed (spans_between bounds)) r ≡ true
    → are_bounds (cond added (bounds ++ r.end ∷ []) bounds) ≡ true
bounds-kept true bounds r e some may = (bounds-more bounds r e some may).0
bounds-kept false bounds r e some may = e

-- the bounds of the ranges between bounds
pub bounds_of-spans : (bounds : List ℕ) → are_bounds bounds ≡ true → bounds_of (spans_between bounds) ≡ bounds
bounds_of-spans [] e = refl
bounds_of-spans (a ∷ []) e = cc
bounds_of-spans (a ∷ b ∷ bs) e = ap (λ (ends : List ℕ). a ∷ b ∷ ends) (ends-spans b bs)
  where
    ends-spans : (b : ℕ) (bs : List ℕ) → map (λ (r : Range ℕ). r.end) (spans_between (b ∷ bs)) ≡ bs
    ends-spans b [] = refl
    ends-spans b (c ∷ bs) = ap (λ (ends : List ℕ). c ∷ ends) (ends-spans c bs)

as_ranges : List ℕ × List ℕ → Option (Values (Range ℕ) × List ℕ)
as_ranges found = Some (Listed (spans_between found.0), found.1)

-- ranges that were written are read again
pub range-again : (bounds rest : List ℕ) → are_bounds bounds ≡ true → rising_numbers_at (rising_numbers bounds ++ rest) ≡ Some (bounds, rest)
    → range.values_of (range.spelled (Listed (spans_between bounds)) ++ rest) ≡ Some (Listed (spans_between bounds), rest)
unfolding range as_ranges
range-again bounds rest e again =
    ap (λ (bs : List ℕ). rising_numbers_at (rising_numbers bs ++ rest) >>= as_ranges) (bounds_of-spans bounds e)
    ∙ ap (λ o. o >>= as_ranges) again

pub range-spelled : (bounds : List ℕ) → are_bounds bounds ≡ true → range.spelled (Listed (spans_between bounds)) ≡ rising_numbers bounds
unfolding range
range-spelled bounds e = ap rising_numbers (bounds_of-spans bounds e)

-- ranges, and then those between a bound and further ones
abbrev pub with_spans : List (Range ℕ) → ℕ → Option (List ℕ × List ℕ) → Option (Values (Range ℕ) × List ℕ)
with_spans ranges before found = found >>= (λ bounds. Some (Listed (ranges ++ spans_between (before ∷ bounds.0)), bounds.1))

-- a loop that reads: the ranges so far, and so many more bounds after the one before
pub record SpansOn (left before taken : ℕ) (ranges : List (Range ℕ)) (content : List ℕ) : Type 0 where
  pub within : taken ≤ length content
  pub found : range.values_of content ≡ with_spans ranges before (sums_at left before (drop taken content))

range-counted : (content : List ℕ) (count : ℕ × List ℕ) → vint_at content ≡ Some count → range.values_of content ≡ (sums_at count.0 0 count.1 >>= as_ranges)
unfolding range rising_numbers_at as_ranges
range-counted content count e = ap (λ o. (o >>= (λ c. sums_at c.0 0 c.1)) >>= as_ranges) e

pub Spans-no_count : (content : List ℕ) → vint_at content ≡ None → range.values_of content ≡ None
unfolding range rising_numbers_at as_ranges
Spans-no_count content e = ap (λ o. (o >>= (λ c. sums_at c.0 0 c.1)) >>= as_ranges) e

pub Spans-none : (content rest : List ℕ) → vint_at content ≡ Some (0, rest) → range.values_of content ≡ Some (Listed [], rest)
unfolding sums_at as_ranges
Spans-none content rest e = range-counted content (0, rest) e

pub Spans-no_first : (count : ℕ) (content rest : List ℕ) → vint_at content ≡ Some (count, rest) → 0 < count → vint_at rest ≡ None → range.values_of content ≡ None
unfolding sums_at as_ranges
Spans-no_first zero content rest e some none = absurd (omega arith)
Spans-no_first (suc n) content rest e some none = range-counted content (suc n, rest) e ∙ ap (λ o. (o >>= (λ d. next_sum n 0 d (nat_lt (0 + d.0) (2 ^ 64)))) >>= as_ranges) none

spans-begun : (first : ℕ) (found : Option (List ℕ × List ℕ)) → ((found >>= (λ others. Some (first ∷ others.0, others.1))) >>= as_ranges) ≡ with_spans [] first found
unfolding as_ranges
spans-begun first None = refl
spans-begun first (Some found) = refl

-- the first bound
pub Spans-begin : (count left first a b : ℕ) (content : List ℕ) → vint_at content ≡ Some (count, drop a content) → count ≡ suc left
    → vint_at (drop a content) ≡ Some (first, drop b (drop a content)) → a ≤ length content → b ≤ length (drop a content) → SpansOn left first (a + b) [] content
Spans-begin count left first a b content counted same found within_a within_b =
    let fits : first < 2 ^ 64 = vint-fits (drop a content) first (drop b (drop a content)) found in
    let rest = drop b (drop a content) in
    let summed : sums_at (suc left) 0 (drop a content) ≡ (sums_at left first rest >>= (λ others. Some (first ∷ others.0, others.1))) =
    sums_at-more left 0 (drop a content) (first, rest) found
    ∙ ap (λ n. step n (nat_lt n (2 ^ 64))) (zero-add first)
    ∙ ap (step first) (lt-ltb first (2 ^ 64) fits) in
    record {
      within = (let at_rest : b ≤ length content - a = simp length-drop at within_b in omega (arith, at_rest, within_a));
      found = range-counted content (count, drop a content) counted ∙ ap (λ n. sums_at n 0 (drop a content) >>= as_ranges) same
          ∙ ap (λ o. o >>= as_ranges) summed ∙ spans-begun first (sums_at left first rest)
          ∙ ap (λ bytes. with_spans [] first (sums_at left first bytes)) (drop-drop b a content);
    }
  where
    step : ℕ → Bool → Option (List ℕ × List ℕ)
    step n fits = provided fits >>= (λ _. sums_at left n (drop b (drop a content)) >>= (λ others. Some (n ∷ others.0, others.1)))

pub Spans-cut : (left before taken : ℕ) (ranges : List (Range ℕ)) (content : List ℕ) → SpansOn left before taken ranges content → 0 < left
    → vint_at (drop taken content) ≡ None → range.values_of content ≡ None
unfolding sums_at
Spans-cut zero before taken ranges content r h e = absurd (omega arith)
Spans-cut (suc left) before taken ranges content r h e =
    r.found ∙ ap (λ o. with_spans ranges before (o >>= (λ d. next_sum left before d (nat_lt (before + d.0) (2 ^ 64))))) e

pub Spans-large : (left before taken len difference : ℕ) (ranges : List (Range ℕ)) (content : List ℕ) → SpansOn left before taken ranges content → 0 < left
    → vint_at (drop taken content) ≡ Some (difference, drop len (drop taken content)) → 2 ^ 64 ≤ before + difference → range.values_of content ≡ None
Spans-large zero before taken len difference ranges content r h e large = absurd (omega arith)
Spans-large (suc left) before taken len difference ranges content r h e large =
    r.found ∙ ap (with_spans ranges before) (sums_at-more left before (drop taken content) _ e
    ∙ ap (next_sum left before (difference, drop len (drop taken content))) (le-ltb (before + difference) (2 ^ 64) large))

spans-onward : (ranges : List (Range ℕ)) (before next : ℕ) (found : Option (List ℕ × List ℕ))
    → with_spans ranges before (found >>= (λ others. Some (next ∷ others.0, others.1))) ≡ with_spans (ranges ++ record { start = before; end = next } ∷ []) next found
spans-onward ranges before next None = refl
spans-onward ranges before next (Some others) =
    ap (λ rs. Some (Listed rs, others.1)) (sym (append_assoc ranges (record { start = before; end = next } ∷ []) (spans_between (next ∷ others.0))))

-- one more range
pub Spans-more : (left more before taken len difference : ℕ) (ranges : List (Range ℕ)) (content : List ℕ) → SpansOn left before taken ranges content → left ≡ suc more
    → len ≤ length (drop taken content) → vint_at (drop taken content) ≡ Some (difference, drop len (drop taken content)) → before + difference < 2 ^ 64
    → SpansOn more (before + difference) (taken + len) (ranges ++ record { start = before; end = before + difference } ∷ []) content
Spans-more left more before taken len difference ranges content r same h e fits =
    let found : range.values_of content ≡ with_spans ranges before (sums_at (suc more) before (drop taken content)) = rw same at r.found in
    record {
      within = (let at_rest : len ≤ length content - taken = simp length-drop at h in omega (arith, at_rest, r.within));
      found = found ∙ ap (with_spans ranges before) (sums_at-more more before (drop taken content) _ e
          ∙ ap (next_sum more before (difference, drop len (drop taken content))) (lt-ltb (before + difference) (2 ^ 64) fits))
          ∙ spans-onward ranges before (before + difference) (sums_at more (before + difference) (drop len (drop taken content)))
          ∙ ap (λ rest. with_spans (ranges ++ record { start = before; end = before + difference } ∷ []) (before + difference) (sums_at more (before + difference) rest)) (drop-drop len taken content);
    }

pub Spans-end : (before taken : ℕ) (ranges : List (Range ℕ)) (content : List ℕ) → SpansOn 0 before taken ranges content → range.values_of content ≡ Some (Listed ranges, drop taken content)
unfolding sums_at
Spans-end before taken ranges content r = r.found ∙ ap (λ rs. Some (Listed rs, drop taken content)) (append-nil ranges)
