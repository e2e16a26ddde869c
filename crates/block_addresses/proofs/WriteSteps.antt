-- Steps of the loop that writes groups of blocks.
use Rattle.std.proofs.Common.{◌≡◌, ℕ, zero, suc, ◌+◌, ◌-◌, ◌*◌, ◌<◌, ◌≤◌, List, [], ◌∷◌, ◌++◌, length, map, refl, ap, sym, ◌∙◌, arith, append_assoc, append-nil, length-append, drop, get_or, length-drop}
use Rattle.std.proofs.lemmas.List.{length-map}
use Rattle.std.specs.Int.{w64, to_le_bytes}
use Rattle.std.specs.List.{flat_map}
unfoldable use Rattle.sstable_format.specs.Store.{numbers_from}
use Rattle.block_addresses.specs.Written.{Blocks, group_at, group_count, groups_of, packed_of, meta_of, meta_bytes, store_bytes}
unfoldable use Rattle.block_addresses.specs.Written.{metas_of, all_packed, steps_upto}
use Rattle.std.specs.Prelude.{nat_le, ◌&&◌, true}
use Rattle.std.proofs.lemmas.List.{drop_more}

-- what follows behind what was appended
pub behind : (a b c xs ys : List ℕ) → b ≡ a ++ xs → c ≡ b ++ ys → c ≡ a ++ (xs ++ ys)
behind a b c xs ys first second = second ∙ ap (λ zs. zs ++ ys) first ∙ append_assoc a xs ys

-- the groups from group k on
abbrev pub groups_from : Blocks → ℕ → List Blocks
groups_from blocks k = map (group_at blocks) (numbers_from k (group_count blocks - k))

groups_from-none : (blocks : Blocks) → groups_from blocks 0 ≡ groups_of blocks
groups_from-none blocks = ap (λ n. map (group_at blocks) (numbers_from 0 n)) (omega arith)

groups_from-more : (blocks : Blocks) (k : ℕ) → k < group_count blocks → groups_from blocks k ≡ group_at blocks k ∷ groups_from blocks (k + 1)
unfolding numbers_from
groups_from-more blocks k below =
    let left : group_count blocks - k ≡ suc (group_count blocks - (k + 1)) = omega arith in
    ap (λ n. map (group_at blocks) (numbers_from k n)) left

groups_from-all : (blocks : Blocks) (k : ℕ) → group_count blocks ≤ k → groups_from blocks k ≡ []
unfolding numbers_from
groups_from-all blocks k past =
    let none : group_count blocks - k ≡ 0 = omega arith in
    ap (λ n. map (group_at blocks) (numbers_from k n)) none

length-numbers_from : (k n : ℕ) → length (numbers_from k n) ≡ n
unfolding numbers_from
length-numbers_from k zero = refl
length-numbers_from k (suc n) = ap (λ m. suc m) (length-numbers_from (k + 1) n)

pub length-groups_of : (blocks : Blocks) → length (groups_of blocks) ≡ group_count blocks
length-groups_of blocks = length-map (numbers_from 0 (group_count blocks)) (group_at blocks) ∙ length-numbers_from 0 (group_count blocks)

-- what is written, with what the groups from group k on add, is all
pub record Writes (blocks : Blocks) (k : ℕ) (store packed : List ℕ) : Type 0 where
  pub told : store ++ flat_map meta_bytes (metas_of (length packed) (groups_from blocks k)) ≡ to_le_bytes w64 (36 * length (groups_of blocks)) ++ flat_map meta_bytes (metas_of 0 (groups_of blocks))
  pub stored : packed ++ all_packed (groups_from blocks k) ≡ all_packed (groups_of blocks)

pub writes-none : (blocks : Blocks) (n : ℕ) (store packed : List ℕ) → n ≡ group_count blocks → store ≡ to_le_bytes w64 (36 * n) → packed ≡ [] → Writes blocks 0 store packed
writes-none blocks n store packed is begun nothing = record {
  told = ap (λ bytes. bytes ++ flat_map meta_bytes (metas_of (length packed) (groups_from blocks 0))) (begun ∙ ap (λ m. to_le_bytes w64 (36 * m)) (is ∙ sym (length-groups_of blocks)))
      ∙ ap (λ bytes. to_le_bytes w64 (36 * length (groups_of blocks)) ++ flat_map meta_bytes (metas_of (length bytes) (groups_from blocks 0))) nothing
      ∙ ap (λ groups. to_le_bytes w64 (36 * length (groups_of blocks)) ++ flat_map meta_bytes (metas_of 0 groups)) (groups_from-none blocks);
  stored = ap (λ bytes. bytes ++ all_packed (groups_from blocks 0)) nothing ∙ ap all_packed (groups_from-none blocks);
}

pub writes-more : (blocks : Blocks) (k : ℕ) (store packed more_store more_packed : List ℕ) → k < group_count blocks → Writes blocks k store packed
    → more_store ≡ store ++ meta_bytes (meta_of (length packed) (group_at blocks k)) → more_packed ≡ packed ++ packed_of (group_at blocks k) → Writes blocks (k + 1) more_store more_packed
unfolding metas_of all_packed
writes-more blocks k store packed more_store more_packed below has one two =
    let group : Blocks = group_at blocks k in
    let rest : List Blocks = groups_from blocks (k + 1) in
    let here : groups_from blocks k ≡ group ∷ rest = groups_from-more blocks k below in
    let long : length more_packed ≡ length packed + length (packed_of group) = ap length two ∙ length-append packed (packed_of group) in
    record {
      told = ap (λ bytes. bytes ++ flat_map meta_bytes (metas_of (length more_packed) rest)) one
          ∙ ap (λ n. (store ++ meta_bytes (meta_of (length packed) group)) ++ flat_map meta_bytes (metas_of n rest)) long
          ∙ append_assoc store (meta_bytes (meta_of (length packed) group)) (flat_map meta_bytes (metas_of (length packed + length (packed_of group)) rest))
          ∙ ap (λ groups. store ++ flat_map meta_bytes (metas_of (length packed) groups)) (sym here) ∙ has.told;
      stored = ap (λ bytes. bytes ++ all_packed rest) two ∙ append_assoc packed (packed_of group) (all_packed rest)
          ∙ ap (λ groups. packed ++ all_packed groups) (sym here) ∙ has.stored;
    }

pub writes-all : (blocks : Blocks) (k : ℕ) (store packed : List ℕ) → group_count blocks ≤ k → Writes blocks k store packed → (store ++ packed ≡ store_bytes blocks) × (packed ≡ all_packed (groups_of blocks))
unfolding metas_of all_packed
writes-all blocks k store packed past has =
    let none : groups_from blocks k ≡ [] = groups_from-all blocks k past in
    let head : List ℕ = to_le_bytes w64 (36 * length (groups_of blocks)) in
    let metas : List ℕ = flat_map meta_bytes (metas_of 0 (groups_of blocks)) in
    let all : packed ≡ all_packed (groups_of blocks) = sym (append-nil packed) ∙ ap (λ groups. packed ++ all_packed groups) (sym none) ∙ has.stored in
    let told : store ≡ head ++ metas = sym (append-nil store) ∙ ap (λ groups. store ++ flat_map meta_bytes (metas_of (length packed) groups)) (sym none) ∙ has.told in
    (ap (λ bytes. bytes ++ packed) told ∙ append_assoc head metas packed ∙ ap (λ bytes. head ++ (metas ++ bytes)) all, all)

-- one step of the numbers, and those behind it
pub steps-more : (most : ℕ) (numbers : List ℕ) (i : ℕ) → 0 < i → i < length numbers
    → steps_upto most (drop (i - 1) numbers) ≡ (nat_le (get_or numbers (i - 1) 0) (get_or numbers i 0) && (nat_le (get_or numbers i 0) (get_or numbers (i - 1) 0 + most) && steps_upto most (drop i numbers)))
unfolding steps_upto
steps-more most numbers i some below =
    let a : ℕ = get_or numbers (i - 1) 0 in
    let b : ℕ = get_or numbers i 0 in
    let here : drop i numbers ≡ b ∷ drop (i + 1) numbers = drop_more numbers i 0 below in
    let before : drop (i - 1) numbers ≡ a ∷ drop i numbers = drop_more numbers (i - 1) 0 (omega arith) ∙ ap (λ n. a ∷ drop n numbers) (omega arith) in
    ap (steps_upto most) (before ∙ ap (λ xs. a ∷ xs) here) ∙ ap (λ xs. nat_le a b && (nat_le b (a + most) && steps_upto most xs)) (sym here)

pub steps-end : (most : ℕ) (numbers : List ℕ) (i : ℕ) → length numbers ≤ i → steps_upto most (drop (i - 1) numbers) ≡ true
unfolding steps_upto
steps-end most numbers i past = by (drop (i - 1) numbers) (omega (arith, length-drop (i - 1) numbers))
  where
    by : (xs : List ℕ) → length xs ≤ 1 → steps_upto most xs ≡ true
    by [] few = refl
    by (x ∷ []) few = refl
    by (x ∷ y ∷ xs) few = absurd (omega arith)
