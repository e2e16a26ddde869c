-- Laws of blocks of packed numbers.
use Rattle.std.proofs.Common.{◌≡◌, ℕ, zero, suc, ◌+◌, ◌-◌, ◌*◌, ◌/◌, ◌%◌, ◌^◌, ◌<◌, ◌≤◌, List, [], ◌∷◌, ◌++◌, length, take, get_or, map, All, refl, ap, sym, ◌∙◌, subst, arith, append_assoc, append-nil, length-append, Option, Fits, w64}
use Rattle.std.specs.List.{flat_map}
use Rattle.std.proofs.lemmas.List.{get_or-map, length-map, get_or-append_right, get_or_append_left, map-append, take_more, flat_map_more}
use Rattle.std.proofs.lemmas.List.Elements.{All-head, All-tail, All-nil, All-get_or, All-from_get_or}
use Rattle.std.proofs.lemmas.Simd.{map-map}
use Rattle.tantivy_bitpacker.specs.declared.blocked_bitpacker.PackedBlock.{PackedBlock}
use Rattle.tantivy_bitpacker.specs.Packed.{bits_from, unpacked_from, packed, bytes_for, FitWidth, Bits, at_width, HasPacked}
use Rattle.tantivy_bitpacker.proofs.Packing.{unpacked-packed, length-packed}
use Rattle.tantivy_bitpacker.specs.Blocked.{block_numbers, IsBlock, IsFullBlock, all_numbers}
use Rattle.tantivy_bitpacker.proofs.Unpacking.{length-unpacked_from, get_or-unpacked_from}

pub block_numbers-length : (block : PackedBlock) → length (block_numbers block) ≡ block.count
block_numbers-length block = length-map (unpacked_from 0 block.count block.num_bits block.bytes.items) (λ value. block.base_value + value) ∙ length-unpacked_from 0 block.count block.num_bits block.bytes.items

pub block_numbers-at : (block : PackedBlock) (i : ℕ) → i < block.count → get_or (block_numbers block) i 0 ≡ block.base_value + bits_from (i * block.num_bits) block.num_bits block.bytes.items
block_numbers-at block i below =
    let inside : i < length (unpacked_from 0 block.count block.num_bits block.bytes.items) = omega (arith, length-unpacked_from 0 block.count block.num_bits block.bytes.items) in
    let place : (0 + i) * block.num_bits ≡ i * block.num_bits = omega arith in
    get_or-map (λ value. block.base_value + value) (unpacked_from 0 block.count block.num_bits block.bytes.items) i 0 0 inside
    ∙ ap (λ v. block.base_value + v) (get_or-unpacked_from 0 block.count block.num_bits block.bytes.items i 0 below ∙ ap (λ p. bits_from p block.num_bits block.bytes.items) place)

-- a number of a block fits 64 bits
pub block_numbers-fit : (block : PackedBlock) (i : ℕ) → IsBlock block → i < block.count → block.base_value + bits_from (i * block.num_bits) block.num_bits block.bytes.items < 2 ^ 64
block_numbers-fit block i is below =
    subst (λ n. n < 2 ^ 64) (block_numbers-at block i below) (All-get_or (λ n. n < 2 ^ 64) (block_numbers block) i 0 (omega (arith, block_numbers-length block)) is.fit)

pub block_numbers-none : (block : PackedBlock) → block.count ≡ 0 → block_numbers block ≡ []
unfolding unpacked_from
block_numbers-none block none = ap (λ n. map (λ value. block.base_value + value) (unpacked_from 0 n block.num_bits block.bytes.items)) none

pub empty_block : (block : PackedBlock) → block.count ≡ 0 → block.num_bits ≡ 0 → IsBlock block
empty_block block none narrow = record {
  allowed = λ wide. absurd (omega arith);
  few = omega arith;
  within = rw none (omega arith);
  fit = subst (All (λ n. n < 2 ^ 64)) (sym (block_numbers-none block none)) (All-nil (λ n. n < 2 ^ 64));
}

-- ---- whole blocks

pub full-length : (blocks : List PackedBlock) → All IsFullBlock blocks → length (flat_map block_numbers blocks) ≡ 128 * length blocks
full-length [] full = refl
full-length (b ∷ blocks) full =
    omega (arith, length-append (block_numbers b) (flat_map block_numbers blocks), block_numbers-length b, (All-head IsFullBlock b blocks full).full, full-length blocks (All-tail IsFullBlock b blocks full))

-- the number at a place stands in the block of that place
pub full-at : (blocks : List PackedBlock) (rest : List ℕ) (block i : ℕ) (d : PackedBlock) → All IsFullBlock blocks → block < length blocks → i < 128
    → get_or (flat_map block_numbers blocks ++ rest) (block * 128 + i) 0 ≡ get_or (block_numbers (get_or blocks block d)) i 0
full-at [] rest block i d full below inside = absurd (omega arith)
full-at (b ∷ blocks) rest zero i d full below inside =
    let long : length (block_numbers b) ≡ 128 = block_numbers-length b ∙ (All-head IsFullBlock b blocks full).full in
    let e : 0 * 128 + i ≡ i = omega arith in
    ap (λ n. get_or (block_numbers b ++ flat_map block_numbers blocks ++ rest) n 0) e ∙ ap (λ l. get_or l i 0) (append_assoc (block_numbers b) (flat_map block_numbers blocks) rest)
    ∙ get_or_append_left (block_numbers b) (flat_map block_numbers blocks ++ rest) 0 i (omega arith)
full-at (b ∷ blocks) rest (suc block) i d full below inside =
    let long : length (block_numbers b) ≡ 128 = block_numbers-length b ∙ (All-head IsFullBlock b blocks full).full in
    let e : suc block * 128 + i - 128 ≡ block * 128 + i = omega arith in
    ap (λ l. get_or l (suc block * 128 + i) 0) (append_assoc (block_numbers b) (flat_map block_numbers blocks) rest)
    ∙ get_or-append_right (block_numbers b) (flat_map block_numbers blocks ++ rest) 128 (suc block * 128 + i) 0 long (omega arith)
    ∙ ap (λ n. get_or (flat_map block_numbers blocks ++ rest) n 0) e ∙ full-at blocks rest block i d (All-tail IsFullBlock b blocks full) (omega arith) inside

pub numbers-in_block : (blocks : List PackedBlock) (tail : PackedBlock) (buffer : List ℕ) (idx : ℕ) (d : PackedBlock) → All IsFullBlock blocks → idx / 128 < length blocks
    → get_or (block_numbers (get_or blocks (idx / 128) d)) (idx % 128) 0 ≡ get_or (all_numbers blocks tail buffer) idx 0
numbers-in_block blocks tail buffer idx d full below =
    let split : idx / 128 * 128 + idx % 128 ≡ idx = omega arith in
    sym (full-at blocks (block_numbers tail ++ buffer) (idx / 128) (idx % 128) d full below (omega arith)) ∙ ap (λ n. get_or (all_numbers blocks tail buffer) n 0) split

pub numbers-in_tail : (blocks : List PackedBlock) (tail : PackedBlock) (buffer : List ℕ) (idx : ℕ) → All IsFullBlock blocks → length blocks ≤ idx / 128 → idx - 128 * length blocks < tail.count
    → get_or (block_numbers tail) (idx - 128 * length blocks) 0 ≡ get_or (all_numbers blocks tail buffer) idx 0
numbers-in_tail blocks tail buffer idx full past below =
    sym (get_or-append_right (flat_map block_numbers blocks) (block_numbers tail ++ buffer) (128 * length blocks) idx 0 (full-length blocks full) (omega arith)
    ∙ get_or_append_left (block_numbers tail) buffer 0 (idx - 128 * length blocks) (omega (arith, block_numbers-length tail)))

pub numbers-in_buffer : (blocks : List PackedBlock) (tail : PackedBlock) (buffer : List ℕ) (idx : ℕ) → All IsFullBlock blocks → length blocks ≤ idx / 128 → tail.count ≤ idx - 128 * length blocks
    → get_or buffer (idx - 128 * length blocks - tail.count) 0 ≡ get_or (all_numbers blocks tail buffer) idx 0
numbers-in_buffer blocks tail buffer idx full past behind =
    sym (get_or-append_right (flat_map block_numbers blocks) (block_numbers tail ++ buffer) (128 * length blocks) idx 0 (full-length blocks full) (omega arith)
    ∙ get_or-append_right (block_numbers tail) buffer tail.count (idx - 128 * length blocks) 0 (block_numbers-length tail) behind)

pub numbers-length : (blocks : List PackedBlock) (tail : PackedBlock) (buffer : List ℕ) → All IsFullBlock blocks → length (all_numbers blocks tail buffer) ≡ 128 * length blocks + tail.count + length buffer
numbers-length blocks tail buffer full =
    omega (arith, length-append (flat_map block_numbers blocks) (block_numbers tail ++ buffer), length-append (block_numbers tail) buffer, block_numbers-length tail, full-length blocks full)

-- ---- packing a block

-- numbers with the least taken off, at a width, and read again
pub IsBlock-packed : (block : PackedBlock) (numbers : List ℕ) → block.count ≡ length numbers → length numbers ≤ 128 → (56 < block.num_bits → block.num_bits ≡ 64) → All (λ x. block.base_value ≤ x) numbers
    → FitWidth block.num_bits (map (λ x. x - block.base_value) numbers) → block.bytes.items ≡ packed block.num_bits (map (λ x. x - block.base_value) numbers) → block_numbers block ≡ numbers
IsBlock-packed block numbers count few allowed above fit bytes =
    let offs : List ℕ = map (λ x. x - block.base_value) numbers in
    let long : length offs ≡ block.count = length-map numbers (λ x. x - block.base_value) ∙ sym count in
    let read : unpacked_from 0 block.count block.num_bits block.bytes.items ≡ offs =
    ap (unpacked_from 0 block.count block.num_bits) (bytes ∙ sym (append-nil (packed block.num_bits offs))) ∙ ap (λ n. unpacked_from 0 n block.num_bits (packed block.num_bits offs ++ [])) (sym long) ∙ unpacked-packed block.num_bits offs [] fit in
    ap (map (λ value. block.base_value + value)) read ∙ map-map (λ value. block.base_value + value) (λ x. x - block.base_value) numbers ∙ put_back numbers above
  where
    put_back : (xs : List ℕ) → All (λ x. block.base_value ≤ x) xs → map (λ x. block.base_value + (x - block.base_value)) xs ≡ xs
    put_back [] all = refl
    put_back (x ∷ xs) all =
        let here : block.base_value ≤ x = All-head (λ y. block.base_value ≤ y) x xs all in
        let same : block.base_value + (x - block.base_value) ≡ x = omega arith in
        ap (λ y. y ∷ map (λ z. block.base_value + (z - block.base_value)) xs) same ∙ ap (λ ys. x ∷ ys) (put_back xs (All-tail (λ y. block.base_value ≤ y) x xs all))

pub packed-within : (width : ℕ) (values bytes : List ℕ) → bytes ≡ packed width values → length values * width ≤ 8 * length bytes
packed-within width values bytes is = let long : length bytes ≡ bytes_for (length values * width) = ap length is ∙ length-packed width values in omega arith

-- one more number packed with a base taken off
pub pack_above-more : (base width i number : ℕ) (numbers : List ℕ) (held next : Bits) (before now then : Option (List ℕ)) → i < length numbers → number ≡ get_or numbers i 0
    → (HasPacked (at_width width (map (λ x. x - base) (take i numbers))) held before now → HasPacked (at_width width (map (λ x. x - base) (take i numbers)) ++ (number - base, width) ∷ []) next before then)
    → HasPacked (at_width width (map (λ x. x - base) (take i numbers))) held before now → HasPacked (at_width width (map (λ x. x - base) (take (i + 1) numbers))) next before then
pack_above-more base width i number numbers held next before now then below is step has =
    let pieces : at_width width (map (λ x. x - base) (take i numbers)) ++ (number - base, width) ∷ [] ≡ at_width width (map (λ x. x - base) (take (i + 1) numbers)) =
    ap (λ n. at_width width (map (λ x. x - base) (take i numbers)) ++ (n - base, width) ∷ []) is
    ∙ sym (ap (λ l. at_width width (map (λ x. x - base) l)) (take_more numbers i 0 below)
    ∙ ap (at_width width) (map-append (λ x. x - base) (take i numbers) (get_or numbers i 0 ∷ [])) ∙ map-append (λ v. (v, width)) (map (λ x. x - base) (take i numbers)) ((get_or numbers i 0 - base) ∷ [])) in
    subst (λ ps. HasPacked ps next before then) pieces (step has)

pub block_from_numbers : (block : PackedBlock) (numbers : List ℕ) → block.count ≡ length numbers → length numbers ≤ 128 → (56 < block.num_bits → block.num_bits ≡ 64)
    → block.bytes.items ≡ packed block.num_bits (map (λ x. x - block.base_value) numbers) → block_numbers block ≡ numbers → ((k : ℕ) → Fits w64 (get_or numbers k 0)) → IsBlock block
block_from_numbers block numbers count few allowed bytes same fits = record {
  allowed = allowed;
  few = omega arith;
  within = let all : length (map (λ x. x - block.base_value) numbers) ≡ block.count = length-map numbers (λ x. x - block.base_value) ∙ sym count in
      subst (λ n. n * block.num_bits ≤ 8 * length block.bytes.items) all (packed-within block.num_bits (map (λ x. x - block.base_value) numbers) block.bytes.items bytes);
  fit = subst (All (λ n. n < 2 ^ 64)) (sym same) (All-from_get_or (λ n. n < 2 ^ 64) numbers 0 (λ k below. (fits k).fits));
}

-- numbers that were not packed become a whole block, or the shorter one
pub stored_block : (blocks : List PackedBlock) (block tail : PackedBlock) (buffer : List ℕ) → block_numbers block ≡ buffer → tail.count ≡ 0 → all_numbers (blocks ++ block ∷ []) tail [] ≡ all_numbers blocks tail buffer
stored_block blocks block tail buffer is none =
    let empty : block_numbers tail ≡ [] = block_numbers-none tail none in
    ap (λ l. flat_map block_numbers (blocks ++ block ∷ []) ++ (l ++ [])) empty ∙ append-nil (flat_map block_numbers (blocks ++ block ∷ [])) ∙ sym (flat_map_more block_numbers [] blocks block)
    ∙ ap (λ l. flat_map block_numbers blocks ++ l) is ∙ ap (λ l. flat_map block_numbers blocks ++ (l ++ buffer)) (sym empty)

pub stored_tail : (blocks : List PackedBlock) (block tail : PackedBlock) (buffer : List ℕ) → block_numbers block ≡ buffer → tail.count ≡ 0 → all_numbers blocks block [] ≡ all_numbers blocks tail buffer
stored_tail blocks block tail buffer is none =
    ap (λ l. flat_map block_numbers blocks ++ l) (append-nil (block_numbers block) ∙ is ∙ ap (λ l. l ++ buffer) (sym (block_numbers-none tail none)))

pub none_beside : (count : ℕ) (buffer : List ℕ) → (0 < count → buffer ≡ []) → 0 < length buffer → count ≡ 0
none_beside zero buffer apart some = refl
none_beside (suc count) buffer apart some = absurd (omega (arith, ap length (apart (omega arith))))

-- ---- copies
