-- What the fields of an index show, and which block is found in it.
use Rattle.std.proofs.Common.{◌≡◌, ◌≢◌, ℕ, zero, suc, ◌+◌, ◌-◌, ◌<◌, ◌≤◌, List, [], ◌∷◌, length, map, drop, get_or, Bool, true, false, cond, Option, Some, None, refl, ap, sym, subst, ◌∙◌, arith}
use Rattle.std.specs.Prelude.{not, nat_lt, option_and_then, slice_index}
use Rattle.std.specs.List.{zip, position, prefix_len}
use Rattle.std.specs.Ordering.{nat_cmp, ordering_then}
use Rattle.std.specs.Cmp.{nat_cmp_is}
use Rattle.std.specs.Cmp.Lexicographic.{slice_cmp}
use Rattle.std.specs.declared.cmp.Ordering.TheVariants.{Equal}
use Rattle.std.proofs.lemmas.Bool.{and_parts}
use Rattle.std.proofs.lemmas.List.{length-map, drop_all, drop_more}
use Rattle.owned_bytes.specs.Keys.{Key, is_below, is_equal, is_same}
use Rattle.fst_map.specs.Map.{first_at_or_above}
use Rattle.sstable_values.specs.Codec.{Address}
use Rattle.sstable_blocks.specs.Writing.{keys_in}
unfoldable use Rattle.sstable_format.specs.Store.{numbers_from}
use Rattle.sstable_format.specs.Index.{IndexEntry}
use Rattle.block_addresses.specs.Found.{element_at}
use Rattle.block_addresses.specs.Opened.{ordinals_of, can_index, can_follow}
use Rattle.block_addresses.proofs.Stored.{ordinals-rise}
use Rattle.sstable_index.specs.Building.{addresses_in}
use Rattle.sstable_index.specs.Located.{number_with_key, block_with_key, IsLocated}
use Rattle.sstable_index.specs.Loaded.{entries_by, AreTied}
use Rattle.sstable_index.proofs.InOrder.{keys-zip, addresses-zip, same-is}

-- ---- fields

pub addresses-seen : (keys : List Key) (addresses : List Address) (now : List IndexEntry) → AreTied keys addresses → zip keys addresses ≡ now → addresses_in now ≡ addresses
addresses-seen keys addresses now is view = ap addresses_in (sym view) ∙ addresses-zip keys addresses is.counted

pub keys-seen : (keys : List Key) (addresses : List Address) (now : List IndexEntry) → AreTied keys addresses → zip keys addresses ≡ now → keys_in now ≡ keys
keys-seen keys addresses now is view = ap keys_in (sym view) ∙ keys-zip keys addresses is.counted

-- ---- a key that is looked for

prefix-map : {A B : Type 0} (p : B → Bool) (f : A → B) (xs : List A) → prefix_len p (map f xs) ≡ prefix_len (λ x. p (f x)) xs
prefix-map p f [] = refl
prefix-map p f (x ∷ xs) = ap (λ n. cond (p (f x)) (1 + n) 0) (prefix-map p f xs)

pub position-map : {A B : Type 0} (p : B → Bool) (f : A → B) (xs : List A) → position p (map f xs) ≡ position (λ x. p (f x)) xs
position-map p f xs =
    ap (λ n. cond (nat_lt n (length (map f xs))) (Some n) None) (prefix-map (λ x. not (p x)) f xs)
    ∙ ap (λ len. cond (nat_lt (prefix_len (λ x. not (p (f x))) xs) len) (Some (prefix_len (λ x. not (p (f x))) xs)) None) (length-map xs f)

pub number-by_keys : (key : Key) (keys : List Key) (entries : List IndexEntry) → keys_in entries ≡ keys → position (λ other. not (is_below other key)) keys ≡ number_with_key key entries
number-by_keys key keys entries is =
    ap (position (λ (other : Key). not (is_below other key))) (sym is) ∙ position-map (λ (other : Key). not (is_below other key)) (λ (e : IndexEntry). e.0) entries

pub number-by_map : (key : Key) (numbered : List (Key × ℕ)) (entries : List IndexEntry) → keys_in entries ≡ map (λ entry. entry.0) numbered → first_at_or_above key numbered ≡ number_with_key key entries
number-by_map key numbered entries is =
    sym (position-map (λ (other : Key). not (is_below other key)) (λ (e : Key × ℕ). e.0) numbered) ∙ number-by_keys key (map (λ (e : Key × ℕ). e.0) numbered) entries is

-- ---- values that are 0, 1, 2 and so on

abbrev values_of : List (Key × ℕ) → List ℕ
values_of numbered = map (λ entry. entry.1) numbered

-- so many values were looked at
abbrev pub AreNumbered : List (Key × ℕ) → ℕ → Type 0
AreNumbered numbered i = is_same (map (λ entry. entry.1) (drop i numbered)) (numbers_from i (length numbered - i)) ≡ is_same (map (λ entry. entry.1) numbered) (numbers_from 0 (length numbered))

pub numbered-begin : (numbered : List (Key × ℕ)) → AreNumbered numbered 0
numbered-begin numbered = let n : length numbered - 0 ≡ length numbered = omega arith in ap (λ m. is_same (values_of numbered) (numbers_from 0 m)) n

same-first : (n m : ℕ) (xs ys : List ℕ) → n ≡ m → is_same (n ∷ xs) (m ∷ ys) ≡ is_same xs ys
same-first n m xs ys e = ap (λ o. is_equal (ordering_then o (slice_cmp nat_cmp xs ys))) (sym (nat_cmp_is n m Equal e))

other-first : (n m : ℕ) (xs ys : List ℕ) → n ≢ m → is_same (n ∷ xs) (m ∷ ys) ≡ false
other-first n m xs ys apart = by (is_same (n ∷ xs) (m ∷ ys)) refl
  where
    by : (t : Bool) → is_same (n ∷ xs) (m ∷ ys) ≡ t → t ≡ false
    by true e = absurd (apart (let same : n ∷ xs ≡ m ∷ ys = same-is (n ∷ xs) (m ∷ ys) e in cc))
    by false e = refl

numbers-next : (i n : ℕ) → i < n → numbers_from i (n - i) ≡ i ∷ numbers_from (i + 1) (n - (i + 1))
unfolding numbers_from
numbers-next i n within = let e : n - i ≡ suc (n - (i + 1)) = omega arith in ap (numbers_from i) e

values-next : (numbered : List (Key × ℕ)) (i : ℕ) → i < length numbered → is_same (map (λ entry. entry.1) (drop i numbered)) (numbers_from i (length numbered - i))
    ≡ is_same ((get_or numbered i ([], 0)).1 ∷ values_of (drop (i + 1) numbered)) (i ∷ numbers_from (i + 1) (length numbered - (i + 1)))
values-next numbered i within =
    ap (λ es. is_same (values_of es) (numbers_from i (length numbered - i))) (drop_more numbered i ([], 0) within)
    ∙ ap (is_same ((get_or numbered i ([], 0)).1 ∷ values_of (drop (i + 1) numbered))) (numbers-next i (length numbered) within)

pub numbered-more : (numbered : List (Key × ℕ)) (i value : ℕ) → i < length numbered → value ≡ (get_or numbered i ([], 0)).1 → value ≡ i → AreNumbered numbered i → AreNumbered numbered (i + 1)
numbered-more numbered i value within is same all =
    sym (same-first (get_or numbered i ([], 0)).1 i (values_of (drop (i + 1) numbered)) (numbers_from (i + 1) (length numbered - (i + 1))) (sym is ∙ same)) ∙ sym (values-next numbered i within) ∙ all

pub numbered-not : (numbered : List (Key × ℕ)) (i value : ℕ) → i < length numbered → value ≡ (get_or numbered i ([], 0)).1 → value ≢ i → AreNumbered numbered i
    → false ≡ is_same (map (λ entry. entry.1) numbered) (numbers_from 0 (length numbered))
numbered-not numbered i value within is apart all =
    sym (other-first (get_or numbered i ([], 0)).1 i (values_of (drop (i + 1) numbered)) (numbers_from (i + 1) (length numbered - (i + 1))) (λ e. apart (is ∙ e))) ∙ sym (values-next numbered i within) ∙ all

pub numbered-end : (numbered : List (Key × ℕ)) (i : ℕ) → length numbered ≤ i → AreNumbered numbered i → true ≡ is_same (map (λ entry. entry.1) numbered) (numbers_from 0 (length numbered))
unfolding numbers_from
numbered-end numbered i past all =
    let none : drop i numbered ≡ [] = drop_all i numbered past in
    let zero_left : length numbered - i ≡ 0 = omega (arith, past) in
    let ends : is_same (map (λ (e : Key × ℕ). e.1) (drop i numbered)) (numbers_from i (length numbered - i)) ≡ true =
    ap (λ es. is_same (values_of es) (numbers_from i (length numbered - i))) none ∙ ap (λ n. is_same [] (numbers_from i n)) zero_left in
    sym ends ∙ all

-- ---- a position that is looked for

pub located-by : (ord n : ℕ) (addresses seen : List Address) → seen ≡ addresses → n < length addresses → (0 < n → slice_index (ordinals_of addresses) n ≤ ord)
    → ((i : ℕ) → n < i → i < length addresses → ord < slice_index (ordinals_of addresses) i) → IsLocated ord seen n
located-by ord n addresses seen is within at_most last = subst (λ places. IsLocated ord places n) (sym is) (record {
  within = λ some. within;
  at_most = at_most;
  last = last;
  none = λ zero. absurd (omega (arith, within, zero));
})

pub located-none : (ord n : ℕ) (addresses seen : List Address) → seen ≡ addresses → n ≡ 0 → length addresses ≡ 0 → IsLocated ord seen n
located-none ord n addresses seen is at_0 none = subst (λ places. IsLocated ord places n) (sym is) (record {
  within = λ some. absurd (omega (arith, some, none));
  at_most = λ more. absurd (omega (arith, more, at_0));
  last = λ i after within. absurd (omega (arith, within, none));
  none = λ _. at_0;
})

-- the address of a block
pub element-past : (addresses : List Address) (i : ℕ) → length addresses ≤ i → element_at addresses i ≡ None
element-past [] i past = refl
element-past (a ∷ addresses) zero past = absurd (omega (arith, past))
element-past (a ∷ addresses) (suc i) past = element-past addresses i (omega (arith, past))

pub element-is : (addresses : List Address) (i : ℕ) (a : Address) → i < length addresses → element_at addresses i ≡ Some (get_or addresses i a)
element-is [] i a within = absurd (omega (arith, within))
element-is (x ∷ addresses) zero a within = refl
element-is (x ∷ addresses) (suc i) a within = element-is addresses i a (omega (arith, within))

pub ordinal-at : (addresses : List Address) (i : ℕ) (a : Address) → i < length addresses → slice_index (ordinals_of addresses) i ≡ (get_or addresses i a).first_ordinal
ordinal-at [] i a within = absurd (omega (arith, within))
ordinal-at (x ∷ addresses) zero a within = refl
ordinal-at (x ∷ addresses) (suc i) a within = ordinal-at addresses i a (omega (arith, within))

-- the block that is looked for is at low or above, and below high
pub record Halves (addresses : List Address) (ord low high : ℕ) : Type 0 where
  pub order : low < high
  pub within : high ≤ length addresses
  pub at_most : 0 < low → slice_index (ordinals_of addresses) low ≤ ord
  pub above : high < length addresses → ord < slice_index (ordinals_of addresses) high

pub halves-begin : (addresses : List Address) (ord len : ℕ) → len ≡ length addresses → 0 < len → Halves addresses ord 0 len
halves-begin addresses ord len is some = record { order = some; within = omega (arith, is); at_most = λ more. absurd (omega (arith, more)); above = λ more. absurd (omega (arith, more, is)) }

pub halves-low : (addresses : List Address) (ord low high middle : ℕ) (a : Address) → Halves addresses ord low high → middle < high → a ≡ get_or addresses middle a → a.first_ordinal ≤ ord → Halves addresses ord middle high
halves-low addresses ord low high middle a h less is few =
    let at : slice_index (ordinals_of addresses) middle ≡ a.first_ordinal = ordinal-at addresses middle a (omega (arith, less, h.within)) ∙ ap (λ (x : Address). x.first_ordinal) (sym is) in
    record { order = less; within = h.within; at_most = λ _. omega (arith, at, few); above = h.above }

pub halves-high : (addresses : List Address) (ord low high middle : ℕ) (a : Address) → Halves addresses ord low high → low < middle → middle < high → a ≡ get_or addresses middle a → ord < a.first_ordinal → Halves addresses ord low middle
halves-high addresses ord low high middle a h more less is many =
    let at : slice_index (ordinals_of addresses) middle ≡ a.first_ordinal = ordinal-at addresses middle a (omega (arith, less, h.within)) ∙ ap (λ (x : Address). x.first_ordinal) (sym is) in
    record { order = more; within = omega (arith, less, h.within); at_most = h.at_most; above = λ _. omega (arith, at, many) }

pub halves-end : (addresses seen : List Address) (ord low high : ℕ) → can_index addresses ≡ true → seen ≡ addresses → Halves addresses ord low high → high ≤ low + 1 → IsLocated ord seen low
halves-end addresses seen ord low high possible is h met =
    located-by ord low addresses seen is (omega (arith, h.order, h.within)) h.at_most
    (λ i after within.
    let least : slice_index (ordinals_of addresses) high ≤ slice_index (ordinals_of addresses) i = ordinals-rise 0 addresses high i (and_parts (can_follow 0 addresses) _ possible).0 (omega (arith, after, met)) within in
    let high_above : ord < slice_index (ordinals_of addresses) high = h.above (omega (arith, after, within, met)) in
    omega (arith, least, high_above))
