-- Blocks in groups of 128: each group can be written, and together they have all addresses.
use Rattle.std.proofs.Common.{◌≡◌, ℕ, zero, suc, ◌+◌, ◌-◌, ◌*◌, ◌^◌, ◌<◌, ◌≤◌, min, List, [], ◌∷◌, ◌++◌, length, take, drop, get_or, map, true, Some, refl, ap, sym, ◌∙◌, inl, inr, arith, length-drop, length-take-le}
use Rattle.std.specs.Prelude.{nat_le, ◌&&◌, slice_range}
use Rattle.std.specs.List.{AllByRecursion}
use Rattle.std.proofs.lemmas.Bool.{leb-true, le-leb, lt-ltb, eq-eqb, cases_lt}
use Rattle.std.proofs.lemmas.Nat.{mul-le}
use Rattle.std.proofs.lemmas.List.{get_or-take, get_or-drop, drop-drop, drop_all}
use Rattle.block_addresses.specs.Lines.{after_first}
unfoldable use Rattle.block_addresses.specs.Lines.{numbered_from}
unfoldable use Rattle.sstable_format.specs.Store.{are_filled, joined, numbers_from, store_of}
use Rattle.block_addresses.specs.Written.{Blocks, AreStorable, AreNear, addresses_of, group_at, group_count, groups_of, packed_of, store_bytes}
unfoldable use Rattle.block_addresses.specs.Written.{addresses_between, steps_upto, metas_of, all_packed}
use Rattle.block_addresses.proofs.Nearness.{IsSmall, line_for-near}
use Rattle.owned_bytes.specs.Front.{◌>>=◌, provided}
use Rattle.sstable_values.specs.Codec.{Address}
use Rattle.block_addresses.specs.Opened.{passing, fits_u64, may_follow, can_index, opened}
unfoldable use Rattle.block_addresses.specs.Opened.{can_follow}
use Rattle.block_addresses.proofs.Passing.{both_true}
use Rattle.block_addresses.proofs.Between.{length-addresses_between, addresses_between-cut}
use Rattle.block_addresses.proofs.Groups.{IsGroup}
use Rattle.block_addresses.proofs.StoreLaw.{FitsGroup, store_of-groups}

-- one step of the numbers
record Steps (most a b : ℕ) : Type 0 where
  up : a ≤ b
  near : b ≤ a + most

steps-at : (most : ℕ) (numbers : List ℕ) (i : ℕ) → steps_upto most numbers ≡ true → suc i < length numbers → Steps most (get_or numbers i 0) (get_or numbers (suc i) 0)
unfolding steps_upto
steps-at most [] i steps below = absurd (omega arith)
steps-at most (a ∷ []) i steps below = absurd (omega arith)
steps-at most (a ∷ b ∷ numbers) zero steps below =
    let first = both_true (nat_le a b) (nat_le b (a + most) && steps_upto most (b ∷ numbers)) steps in
    let second = both_true (nat_le b (a + most)) (steps_upto most (b ∷ numbers)) first.1 in
    record { up = leb-true a b first.0; near = leb-true b (a + most) second.0 }
steps-at most (a ∷ b ∷ numbers) (suc i) steps below =
    let first = both_true (nat_le a b) (nat_le b (a + most) && steps_upto most (b ∷ numbers)) steps in
    let second = both_true (nat_le b (a + most)) (steps_upto most (b ∷ numbers)) first.1 in
    steps-at most (b ∷ numbers) i second.1 (omega arith)

steps-rest : (most a : ℕ) (numbers : List ℕ) → steps_upto most (a ∷ numbers) ≡ true → steps_upto most numbers ≡ true
unfolding steps_upto
steps-rest most a [] steps = refl
steps-rest most a (b ∷ numbers) steps =
    let first = both_true (nat_le a b) (nat_le b (a + most) && steps_upto most (b ∷ numbers)) steps in
    (both_true (nat_le b (a + most)) (steps_upto most (b ∷ numbers)) first.1).1

-- k steps of the numbers
rises : (most : ℕ) (numbers : List ℕ) (i k : ℕ) → steps_upto most numbers ≡ true → i + k < length numbers → Steps (k * most) (get_or numbers i 0) (get_or numbers (i + k) 0)
rises most numbers i zero steps below =
    let same : get_or numbers (i + 0) 0 ≡ get_or numbers i 0 = ap (λ n. get_or numbers n 0) (omega arith) in
    record { up = omega (arith, same); near = omega (arith, same) }
rises most numbers i (suc k) steps below =
    let before = rises most numbers i k steps (omega (arith, below)) in
    let next = steps-at most numbers (i + k) steps (omega (arith, below)) in
    let same : get_or numbers (i + suc k) 0 ≡ get_or numbers (suc (i + k)) 0 = ap (λ n. get_or numbers n 0) (omega arith) in
    record { up = omega (arith, same, before.up, next.up); near = omega (arith, same, before.near, next.near) }

get_or-slice : (xs : List ℕ) (a b i d : ℕ) → a + i < b → get_or (slice_range xs a b) i d ≡ get_or xs (a + i) d
get_or-slice xs a b i d below = get_or-take (b - a) (drop a xs) i d (omega arith) ∙ get_or-drop a xs i d

length-slice : (xs : List ℕ) (a b : ℕ) → a ≤ b → b ≤ length xs → length (slice_range xs a b) ≡ b - a
length-slice xs a b ordered within = length-take-le (b - a) (drop a xs) (omega (arith, length-drop a xs))

small-numbered : (place base : ℕ) (numbers : List ℕ) → place + length numbers ≤ 129 → ((i : ℕ) → i < length numbers → get_or numbers i 0 - base < 2 ^ 40) → AllByRecursion IsSmall (numbered_from place base numbers)
unfolding numbered_from
small-numbered place base [] few small = tt
small-numbered place base (n ∷ numbers) few small =
    let first : IsSmall (place, n - base) = record { place = omega arith; number = small 0 (omega arith) } in
    (first, small-numbered (place + 1) base numbers (omega arith) (λ i below. small (suc i) (omega arith)))

pub small-after_first : (numbers : List ℕ) → length numbers ≤ 129 → ((i : ℕ) → i < length numbers → get_or numbers i 0 - get_or numbers 0 0 < 2 ^ 40) → AllByRecursion IsSmall (after_first numbers)
small-after_first [] few small = tt
small-after_first (n ∷ numbers) few small = small-numbered 1 n numbers (omega arith) (λ i below. small (suc i) (omega arith))

-- a part of numbers that rise by small steps
record IsPart (xs part : List ℕ) (a : ℕ) : Type 0 where
  same : (i : ℕ) → i < length part → get_or part i 0 ≡ get_or xs (a + i) 0
  rise : (i : ℕ) → i < length part → get_or part 0 0 ≤ get_or part i 0
  low : (i : ℕ) → i < length part → get_or part i 0 - get_or part 0 0 < 2 ^ 40
  small : AllByRecursion IsSmall (after_first part)

part-of : (most : ℕ) (xs : List ℕ) (a b : ℕ) → steps_upto most xs ≡ true → most ≤ 4294967299 → a < b → b ≤ length xs → b ≤ a + 129 → IsPart xs (slice_range xs a b) a
part-of most xs a b steps low ordered within few =
    let part : List ℕ = slice_range xs a b in
    let long : length part ≡ b - a = length-slice xs a b (omega arith) within in
    let same : (i : ℕ) → i < length part → get_or part i 0 ≡ get_or xs (a + i) 0 = λ i below. get_or-slice xs a b i 0 (omega (arith, long, below)) in
    let first : get_or part 0 0 ≡ get_or xs a 0 = same 0 (omega (arith, long)) ∙ ap (λ n. get_or xs n 0) (omega arith) in
    let close : (i : ℕ) → i < length part → get_or part i 0 - get_or part 0 0 < 2 ^ 40 = λ i below.
    let bound : i * most ≤ 128 * 4294967299 = mul-le i most 128 4294967299 (omega (arith, long, below)) low in
    omega (arith, first, same i below, bound, (rises most xs a i steps (omega (arith, long, below))).near) in
    record {
      same = same;
      rise = λ i below. omega (arith, first, same i below, (rises most xs a i steps (omega (arith, long, below))).up);
      low = close;
      small = small-after_first part (omega (arith, long)) close;
    }

-- what is known of a group
record HasGroup (blocks : Blocks) (k : ℕ) : Type 0 where
  is : IsGroup (group_at blocks k)
  fits : FitsGroup (group_at blocks k)
  count : length (group_at blocks k).ordinals ≡ min (k * 128 + 128) (length blocks.ordinals) - k * 128

group-has : (blocks : Blocks) (k : ℕ) → AreStorable blocks → ((i : ℕ) → i < length blocks.starts → get_or blocks.starts i 0 < 2 ^ 64) → ((i : ℕ) → i < length blocks.ordinals → get_or blocks.ordinals i 0 < 2 ^ 64) → k * 128 < length blocks.ordinals → HasGroup blocks k
group-has blocks k are starts_fit ordinals_fit within =
    let a : ℕ = k * 128 in
    let end : ℕ = min (a + 128) (length blocks.ordinals) in
    let starts : List ℕ = slice_range blocks.starts a (end + 1) in
    let ordinals : List ℕ = slice_range blocks.ordinals a end in
    let long_starts : length starts ≡ end + 1 - a = length-slice blocks.starts a (end + 1) (omega arith) (omega (arith, are.ended)) in
    let long_ordinals : length ordinals ≡ end - a = length-slice blocks.ordinals a end (omega arith) (omega arith) in
    let of_starts = part-of 4294967299 blocks.starts a (end + 1) are.ranges (omega arith) (omega arith) (omega (arith, are.ended)) (omega arith) in
    let of_ordinals = part-of 4294967296 blocks.ordinals a end are.ordinals (omega arith) (omega arith) (omega arith) (omega arith) in
    record {
      is = record {
        ended = omega (arith, long_starts, long_ordinals);
        some = omega (arith, long_ordinals);
        starts_rise = of_starts.rise;
        ordinals_rise = of_ordinals.rise;
        ranges = line_for-near (after_first starts) of_starts.small;
        ordinals = line_for-near (after_first ordinals) of_ordinals.small;
      };
      fits = record {
        start = omega (arith, of_starts.same 0 (omega (arith, long_starts)), starts_fit (a + 0) (omega (arith, are.ended)));
        ordinal = omega (arith, of_ordinals.same 0 (omega (arith, long_ordinals)), ordinals_fit (a + 0) (omega arith));
        few = omega (arith, long_ordinals);
      };
      count = long_ordinals;
    }

-- a group of blocks that can be stored
pub group-near : (blocks : Blocks) (k : ℕ) → AreStorable blocks → k * 128 < length blocks.ordinals → AreNear (group_at blocks k)
group-near blocks k are within =
    let a : ℕ = k * 128 in
    let end : ℕ = min (a + 128) (length blocks.ordinals) in
    let starts : List ℕ = slice_range blocks.starts a (end + 1) in
    let ordinals : List ℕ = slice_range blocks.ordinals a end in
    let long_starts : length starts ≡ end + 1 - a = length-slice blocks.starts a (end + 1) (omega arith) (omega (arith, are.ended)) in
    let long_ordinals : length ordinals ≡ end - a = length-slice blocks.ordinals a end (omega arith) (omega arith) in
    let of_starts = part-of 4294967299 blocks.starts a (end + 1) are.ranges (omega arith) (omega arith) (omega (arith, are.ended)) (omega arith) in
    let of_ordinals = part-of 4294967296 blocks.ordinals a end are.ordinals (omega arith) (omega arith) (omega arith) (omega arith) in
    record {
      ended = omega (arith, long_starts, long_ordinals);
      some = omega (arith, long_ordinals);
      few = omega (arith, long_ordinals);
      starts = of_starts.low;
      ordinals = of_ordinals.low;
    }

groups-all : (P : Blocks → Type 0) (blocks : Blocks) (k n : ℕ) → ((j : ℕ) → j < k + n → P (group_at blocks j)) → AllByRecursion P (map (group_at blocks) (numbers_from k n))
unfolding numbers_from
groups-all P blocks k zero each = tt
groups-all P blocks k (suc n) each = (each k (omega arith), groups-all P blocks (k + 1) n (λ j below. each j (omega arith)))

-- a group that isn't the last has 128 blocks
groups-filled : (blocks : Blocks) (offset k n : ℕ) → ((j : ℕ) → j < k + n → HasGroup blocks j) → k + n ≡ group_count blocks → are_filled (metas_of offset (map (group_at blocks) (numbers_from k n))) ≡ true
unfolding are_filled metas_of numbers_from
groups-filled blocks offset k zero has all = refl
groups-filled blocks offset k (suc zero) has all = le-leb (length (group_at blocks k).ordinals) 128 (has k (omega arith)).fits.few
groups-filled blocks offset k (suc (suc n)) has all =
    let full : length (group_at blocks k).ordinals ≡ 128 = omega (arith, (has k (omega arith)).count, all) in
    ap (λ t. t && are_filled (metas_of (offset + length (packed_of (group_at blocks k))) (map (group_at blocks) (numbers_from (k + 1) (suc n))))) (eq-eqb (length (group_at blocks k).ordinals) 128 full)
    ∙ groups-filled blocks (offset + length (packed_of (group_at blocks k))) (k + 1) (suc n) (λ j below. has j (omega arith)) (omega arith)

no_blocks : (starts ordinals : List ℕ) → ordinals ≡ [] → addresses_between starts ordinals ≡ []
unfolding addresses_between
no_blocks starts ordinals none = ap (addresses_between starts) none ∙ nothing starts
  where
    nothing : (starts : List ℕ) → addresses_between starts [] ≡ []
    nothing [] = refl
    nothing (a ∷ []) = refl
    nothing (a ∷ b ∷ starts) = refl

-- the groups from group k on have the addresses from there on
groups-joined : (blocks : Blocks) (k n : ℕ) → length blocks.starts ≡ length blocks.ordinals + 1 → k + n ≡ group_count blocks
    → joined (map addresses_of (map (group_at blocks) (numbers_from k n))) ≡ addresses_between (drop (k * 128) blocks.starts) (drop (k * 128) blocks.ordinals)
unfolding joined numbers_from
groups-joined blocks k zero ended all = sym (no_blocks (drop (k * 128) blocks.starts) (drop (k * 128) blocks.ordinals) (drop_all (k * 128) blocks.ordinals (omega (arith, all))))
groups-joined blocks k (suc n) ended all =
    let a : ℕ = k * 128 in
    let end : ℕ = min (a + 128) (length blocks.ordinals) in
    let c : ℕ = end - a in
    let starts : List ℕ = drop a blocks.starts in
    let ordinals : List ℕ = drop a blocks.ordinals in
    let within : a < length blocks.ordinals = omega (arith, all) in
    let others : joined (map addresses_of (map (group_at blocks) (numbers_from (k + 1) n))) ≡ addresses_between (drop ((k + 1) * 128) blocks.starts) (drop ((k + 1) * 128) blocks.ordinals) = groups-joined blocks (k + 1) n ended (omega (arith, all)) in
    let behind : addresses_between (drop ((k + 1) * 128) blocks.starts) (drop ((k + 1) * 128) blocks.ordinals) ≡ addresses_between (drop c starts) (drop c ordinals) = elim (cases_lt (length blocks.ordinals) (a + 128)) [
      | inl last ↦ no_blocks (drop ((k + 1) * 128) blocks.starts) (drop ((k + 1) * 128) blocks.ordinals) (drop_all ((k + 1) * 128) blocks.ordinals (omega arith))
          ∙ sym (no_blocks (drop c starts) (drop c ordinals) (drop_all c ordinals (omega (arith, length-drop a blocks.ordinals))))
      | inr more ↦ let next : (k + 1) * 128 ≡ a + c = omega arith in
          ap (λ m. addresses_between (drop m blocks.starts) (drop m blocks.ordinals)) next
          ∙ ap (λ xs. addresses_between xs (drop (a + c) blocks.ordinals)) (sym (drop-drop c a blocks.starts)) ∙ ap (λ xs. addresses_between (drop c starts) xs) (sym (drop-drop c a blocks.ordinals))
    ] in
    let width : suc c ≡ end + 1 - a = omega (arith, within) in
    ap (λ xs. addresses_of (group_at blocks k) ++ xs) (others ∙ behind)
    ∙ ap (λ m. addresses_between (take m starts) (take c ordinals) ++ addresses_between (drop c starts) (drop c ordinals)) (sym width)
    ∙ sym (addresses_between-cut c starts ordinals (omega (arith, ended, within, length-drop a blocks.starts, length-drop a blocks.ordinals)) (omega (arith, within, length-drop a blocks.ordinals)))

-- What is written of blocks that can be stored tells their addresses.
pub store_of-bytes : (blocks : Blocks) → AreStorable blocks → ((i : ℕ) → i < length blocks.starts → get_or blocks.starts i 0 < 2 ^ 64) → ((i : ℕ) → i < length blocks.ordinals → get_or blocks.ordinals i 0 < 2 ^ 64)
    → length (all_packed (groups_of blocks)) < 2 ^ 64 → 36 * length (groups_of blocks) < 2 ^ 64 → store_of (store_bytes blocks) ≡ Some (addresses_of blocks)
store_of-bytes blocks are starts_fit ordinals_fit room few =
    let count : ℕ = group_count blocks in
    let has : (j : ℕ) → j < 0 + count → HasGroup blocks j = λ j below. group-has blocks j are starts_fit ordinals_fit (omega (arith, below)) in
    store_of-groups (groups_of blocks) (groups-all IsGroup blocks 0 count (λ j below. (has j below).is)) (groups-all FitsGroup blocks 0 count (λ j below. (has j below).fits))
    (groups-filled blocks 0 0 count has (omega arith)) room few
    ∙ ap (λ xs. Some xs) (groups-joined blocks 0 count are.ended (omega arith))

-- a table's blocks can have the addresses of blocks that adjoin
between-follow : (most steep before : ℕ) (starts ordinals : List ℕ) → steps_upto most starts ≡ true → steps_upto steep ordinals ≡ true → ((i : ℕ) → i < length starts → get_or starts i 0 < 2 ^ 64)
    → ((i : ℕ) → i < length ordinals → get_or ordinals i 0 < 2 ^ 64) → (0 < length ordinals → before ≤ get_or ordinals 0 0) → length starts ≡ length ordinals + 1 → can_follow before (addresses_between starts ordinals) ≡ true
unfolding can_follow addresses_between
between-follow most steep before [] ordinals ranges rise starts_fit ordinals_fit least ended = absurd (omega arith)
between-follow most steep before (start ∷ []) ordinals ranges rise starts_fit ordinals_fit least ended = refl
between-follow most steep before (start ∷ end ∷ starts) [] ranges rise starts_fit ordinals_fit least ended = absurd (omega arith)
between-follow most steep before (start ∷ end ∷ starts) (ordinal ∷ ordinals) ranges rise starts_fit ordinals_fit least ended =
    let others = between-follow most steep ordinal (end ∷ starts) ordinals (steps-rest most start (end ∷ starts) ranges) (steps-rest steep ordinal ordinals rise)
    (λ i below. starts_fit (suc i) (omega (arith, below))) (λ i below. ordinals_fit (suc i) (omega (arith, below)))
    (λ some. (steps-at steep (ordinal ∷ ordinals) 0 rise (omega (arith, some))).up) (omega (arith, ended)) in
    let one : may_follow before (record { start = start; end = end; first_ordinal = ordinal }) ≡ true =
    ap (λ t. (t && (fits_u64 end && fits_u64 ordinal)) && (nat_le start end && nat_le before ordinal)) (lt-ltb start (2 ^ 64) (starts_fit 0 (omega arith)))
    ∙ ap (λ t. (t && fits_u64 ordinal) && (nat_le start end && nat_le before ordinal)) (lt-ltb end (2 ^ 64) (starts_fit 1 (omega arith)))
    ∙ ap (λ t. t && (nat_le start end && nat_le before ordinal)) (lt-ltb ordinal (2 ^ 64) (ordinals_fit 0 (omega arith)))
    ∙ ap (λ t. t && nat_le before ordinal) (le-leb start end (steps-at most (start ∷ end ∷ starts) 0 ranges (omega arith)).up)
    ∙ le-leb before ordinal (least (omega arith)) in
    ap (λ t. t && can_follow ordinal (addresses_between (end ∷ starts) ordinals)) one ∙ others

-- What is written of blocks that can be stored is opened.
pub opened-bytes : (blocks : Blocks) → AreStorable blocks → ((i : ℕ) → i < length blocks.starts → get_or blocks.starts i 0 < 2 ^ 64) → ((i : ℕ) → i < length blocks.ordinals → get_or blocks.ordinals i 0 < 2 ^ 64)
    → length blocks.ordinals < 2 ^ 64 → store_of (store_bytes blocks) ≡ Some (addresses_of blocks) → opened (store_bytes blocks) ≡ Some (addresses_of blocks)
opened-bytes blocks are starts_fit ordinals_fit few again =
    let found : List Address = addresses_of blocks in
    let follow : can_follow 0 found ≡ true = between-follow 4294967299 4294967296 0 blocks.starts blocks.ordinals are.ranges are.ordinals starts_fit ordinals_fit (λ some. omega arith) are.ended in
    let long : length found ≡ length blocks.ordinals = length-addresses_between blocks.starts blocks.ordinals are.ended in
    ap (passing can_index) again ∙ ap (λ t. provided (t && fits_u64 (length found)) >>= (λ _. Some found)) follow
    ∙ ap (λ t. provided t >>= (λ _. Some found)) (lt-ltb (length found) (2 ^ 64) (omega (arith, long, few)))
