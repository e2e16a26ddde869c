-- A key that is sought in the middle of the keys that it may be among.
use Rattle.std.proofs.Common.{◌≡◌, ℕ, zero, suc, ◌+◌, ◌-◌, ◌*◌, ◌^◌, ◌<◌, ◌≤◌, List, [], ◌∷◌, length, map, Some, None, Bool, true, false, cond, refl, ap, sym, ◌∙◌, subst, arith, ltb, eqb}
use Rattle.std.proofs.lemmas.Bool.{ltb-true, ltb-false, lt-ltb, le-ltb, and_parts, false≢true, cond-false, ne_eqb}
use Rattle.std.proofs.lemmas.Nat.{pow-add, mul-le}
use Rattle.std.proofs.Math.Nat.{mul_assoc}
use Rattle.std.proofs.lemmas.List.Sums.{position_or_len_is}
use Rattle.std.specs.Prelude.{not}
use Rattle.std.specs.List.{position_or_len}
use Rattle.std.specs.Cmp.Lexicographic.{nat_list_cmp_total}
use Rattle.std.specs.declared.cmp.Ordering.{Ordering}
use Rattle.std.specs.declared.cmp.Ordering.TheVariants.{Less, Equal, Greater}
use Rattle.owned_bytes.specs.Keys.{Key, is_below, is_less}
unfoldable use Rattle.owned_bytes.specs.Keys.{is_rising}
use Rattle.fst_map.specs.Map.{entry_at, first_at_or_above}

less-is : (o : Ordering) → is_less o ≡ true → o ≡ Less
less-is Less e = refl
less-is Equal e = absurd cc
less-is Greater e = absurd cc

pub below-through : (a b c : Key) → is_below a b ≡ true → is_below b c ≡ true → is_below a c ≡ true
below-through a b c e f = ap is_less (nat_list_cmp_total.trans a b c (less-is _ e) (less-is _ f))

keys_of : List (Key × ℕ) → List Key
keys_of entries = map (λ entry. entry.0) entries

-- each key comes before each later one
first-below : (key : Key) (entries : List (Key × ℕ)) (k : ℕ) → is_rising (key ∷ map (λ entry. entry.0) entries) ≡ true → k < length entries → is_below key (entry_at entries k).0 ≡ true
unfolding is_rising
first-below key [] k rising within = absurd (omega arith)
first-below key (entry ∷ entries) zero rising within = (and_parts (is_below key entry.0) (is_rising (entry.0 ∷ map (λ entry. entry.0) entries)) rising).0
first-below key (entry ∷ entries) (suc k) rising within =
    let parts = and_parts (is_below key entry.0) (is_rising (entry.0 ∷ map (λ entry. entry.0) entries)) rising in
    below-through key entry.0 (entry_at entries k).0 parts.0 (first-below entry.0 entries k parts.1 (omega arith))

rising-rest : (key : Key) (keys : List Key) → is_rising (key ∷ keys) ≡ true → is_rising keys ≡ true
unfolding is_rising
rising-rest key [] e = refl
rising-rest key (next ∷ keys) e = (and_parts (is_below key next) (is_rising (next ∷ keys)) e).1

pub each-below : (entries : List (Key × ℕ)) (j k : ℕ) → is_rising (map (λ entry. entry.0) entries) ≡ true → j < k → k < length entries → is_below (entry_at entries j).0 (entry_at entries k).0 ≡ true
each-below [] j k rising order within = absurd (omega arith)
each-below (entry ∷ entries) j zero rising order within = absurd (omega arith)
each-below (entry ∷ entries) zero (suc k) rising order within = first-below entry.0 entries k rising (omega arith)
each-below (entry ∷ entries) (suc j) (suc k) rising order within = each-below entries j k (rising-rest entry.0 (map (λ entry. entry.0) entries) rising) (omega arith) (omega arith)

-- The keys before `low` are below the key, and those from `high` on are not.
pub record IsSought (entries : List (Key × ℕ)) (key : Key) (low high : ℕ) : Type 0 where
  pub ordered : low ≤ high
  pub within : high ≤ length entries
  pub below : (k : ℕ) → k < low → is_below (entry_at entries k).0 key ≡ true
  pub above : (k : ℕ) → high ≤ k → k < length entries → is_below (entry_at entries k).0 key ≡ false

pub sought-begin : (entries : List (Key × ℕ)) (key : Key) (len : ℕ) → len ≡ length entries → IsSought entries key 0 len
sought-begin entries key len e = record { ordered = omega arith; within = omega (arith, e); below = λ k less. absurd (omega (arith, less)); above = λ k past within. absurd (omega (arith, past, within, e)) }

pub sought-low : (entries : List (Key × ℕ)) (key : Key) (low high middle : ℕ) → is_rising (map (λ entry. entry.0) entries) ≡ true → IsSought entries key low high → middle < high → is_below (entry_at entries middle).0 key ≡ true
    → IsSought entries key (middle + 1) high
sought-low entries key low high middle rising s less is = record { ordered = omega (arith, less); within = s.within; below = λ k h. by k (ltb k middle) refl h; above = s.above }
  where
    by : (k : ℕ) (t : Bool) → ltb k middle ≡ t → k < middle + 1 → is_below (entry_at entries k).0 key ≡ true
    by k true e h = below-through (entry_at entries k).0 (entry_at entries middle).0 key (each-below entries k middle rising (ltb-true _ _ e) (omega (arith, less, s.within))) is
    by k false e h = let same : middle ≡ k = omega (arith, h, ltb-false _ _ e) in subst (λ k. is_below (entry_at entries k).0 key ≡ true) same is

pub sought-high : (entries : List (Key × ℕ)) (key : Key) (low high middle : ℕ) → is_rising (map (λ entry. entry.0) entries) ≡ true → IsSought entries key low high → low ≤ middle → middle < high → is_below (entry_at entries middle).0 key ≡ false
    → IsSought entries key low middle
sought-high entries key low high middle rising s more less is = record { ordered = more; within = omega (arith, less, s.within); below = s.below; above = λ k h within. by k (ltb middle k) refl h within }
  where
    by_below : (k : ℕ) (t : Bool) → is_below (entry_at entries k).0 key ≡ t → middle < k → k < length entries → is_below (entry_at entries k).0 key ≡ false
    by_below k false e later within = e
    by_below k true e later within =
        absurd (false≢true (sym is ∙ below-through (entry_at entries middle).0 (entry_at entries k).0 key (each-below entries middle k rising later within) e))

    by : (k : ℕ) (t : Bool) → ltb middle k ≡ t → middle ≤ k → k < length entries → is_below (entry_at entries k).0 key ≡ false
    by k true e h within = by_below k (is_below (entry_at entries k).0 key) refl (ltb-true _ _ e) within
    by k false e h within = let same : middle ≡ k = omega (arith, h, ltb-false _ _ e) in subst (λ k. is_below (entry_at entries k).0 key ≡ false) same is

found-at : (entries : List (Key × ℕ)) (key : Key) (low high : ℕ) → IsSought entries key low high → high ≤ low → position_or_len (λ entry. not (is_below entry.0 key)) entries ≡ low
found-at entries key low high s met =
    position_or_len_is (λ entry. not (is_below entry.0 key)) entries low ([], 0) (omega (arith, s.ordered, s.within, met)) (λ k less. ap not (s.below k less)) (λ within. ap not (s.above low met within))

pub sought-some : (entries : List (Key × ℕ)) (key : Key) (low high : ℕ) → IsSought entries key low high → high ≤ low → low < length entries → Some low ≡ first_at_or_above key entries
sought-some entries key low high s met within =
    sym (ap (λ n. cond (ltb n (length entries)) (Some n) None) (found-at entries key low high s met) ∙ ap (λ t. cond t (Some low) None) (lt-ltb low (length entries) within))

pub sought-none : (entries : List (Key × ℕ)) (key : Key) (low high : ℕ) → IsSought entries key low high → high ≤ low → length entries ≤ low → None ≡ first_at_or_above key entries
sought-none entries key low high s met past =
    sym (ap (λ n. cond (ltb n (length entries)) (Some n) None) (found-at entries key low high s met) ∙ ap (λ t. cond t (Some low) None) (le-ltb low (length entries) past))

-- how much 2 to the power of the comparisons that are still to come may be
abbrev pub weight : ℕ → ℕ
weight n = cond (eqb n 0) 1 (2 * n)

weight-some : (n : ℕ) → 0 < n → weight n ≡ 2 * n
weight-some n more = cond-false _ _ _ (ne_eqb n 0 (omega (arith, more)))

weight-most : (n : ℕ) → weight n ≤ 2 * n + 1
weight-most zero = omega arith
weight-most (suc n) = omega (arith, weight-some (suc n) (omega arith))

weight-least : (n : ℕ) → 1 ≤ weight n
weight-least zero = omega arith
weight-least (suc n) = omega (arith, weight-some (suc n) (omega arith))

weight-half : (left less : ℕ) → 0 < left → less + less ≤ left → 2 * weight less ≤ weight left
weight-half left zero more half = omega (arith, weight-some left more)
weight-half left (suc less) more half = omega (arith, weight-some left more, weight-some (suc less) (omega arith), half)

-- So many comparisons were made, and so many keys are left.
pub record IsCounted (len before now left : ℕ) : Type 0 where
  pub rise : before ≤ now
  pub few : 2 ^ (now - before) * weight left ≤ weight len

pub counted-begin : (len before : ℕ) → IsCounted len before before len
counted-begin len before =
    let none : before - before ≡ 0 = omega arith in
    let one : 1 * weight len ≤ weight len = omega arith in
    record { rise = omega arith; few = subst (λ n. 2 ^ n * weight len ≤ weight len) (sym none) one }

pub counted-more : (len before now left less : ℕ) → IsCounted len before now left → 0 < left → less + less ≤ left → IsCounted len before (now + 1) less
counted-more len before now left less c more half =
    let one : now + 1 - before ≡ now - before + 1 = omega (arith, c.rise) in
    let twice : 2 ^ (now - before + 1) * weight less ≡ 2 ^ (now - before) * (2 * weight less) = ap (λ p. p * weight less) (pow-add 2 (now - before) 1) ∙ mul_assoc (2 ^ (now - before)) 2 (weight less) in
    let most : 2 ^ (now - before) * (2 * weight less) ≤ 2 ^ (now - before) * weight left = mul-le (2 ^ (now - before)) (2 * weight less) (2 ^ (now - before)) (weight left) (omega arith) (weight-half left less more half) in
    record { rise = omega (arith, c.rise); few = subst (λ n. 2 ^ n * weight less ≤ weight len) (sym one) (omega (arith, twice, most, c.few)) }

pub counted-end : (len before now left : ℕ) → IsCounted len before now left → 2 ^ (now - before) ≤ 2 * len + 1
counted-end len before now left c =
    let least : 2 ^ (now - before) * 1 ≤ 2 ^ (now - before) * weight left = mul-le (2 ^ (now - before)) 1 (2 ^ (now - before)) (weight left) (omega arith) (weight-least left) in
    omega (arith, least, c.few, weight-most len)
