-- A store of groups of blocks is read again.
use Rattle.std.proofs.Common.{◌≡◌, ℕ, suc, ◌+◌, ◌*◌, ◌^◌, ◌<◌, ◌≤◌, List, [], ◌∷◌, ◌++◌, length, get_or, map, Option, Some, refl, ap, sym, ◌∙◌, arith, append_assoc, length-append}
use Rattle.std.specs.Prelude.{true}
use Rattle.std.specs.Int.{w64}
use Rattle.std.specs.List.{flat_map, AllByRecursion}
use Rattle.owned_bytes.specs.Front.{◌>>=◌, provided, number_at, bytes_at}
unfoldable use Rattle.owned_bytes.specs.Front.{each, pieces}
use Rattle.sstable_values.specs.Codec.{Address}
use Rattle.sstable_format.specs.Meta.{Meta}
use Rattle.sstable_format.specs.Store.{front_of_metas, addresses_of_meta}
unfoldable use Rattle.sstable_format.specs.Store.{are_filled, joined, store_of}
use Rattle.block_addresses.specs.Written.{Blocks, addresses_of, packed_of, meta_of, meta_bytes, store_of_groups}
unfoldable use Rattle.block_addresses.specs.Written.{metas_of, all_packed}
use Rattle.owned_bytes.proofs.Pieces.{bytes_at-again}
use Rattle.block_addresses.proofs.Metas.{FitsMeta, again_64, metas-again, length-metas}
use Rattle.block_addresses.proofs.Groups.{IsGroup, addresses_of_meta-group}

-- the first start and the first ordinal are a `u64`, and there are at most 128 blocks
pub record FitsGroup (blocks : Blocks) : Type 0 where
  pub start : get_or blocks.starts 0 0 < 2 ^ 64
  pub ordinal : get_or blocks.ordinals 0 0 < 2 ^ 64
  pub few : length blocks.ordinals ≤ 128

pub groups-again : (whole front : List ℕ) (groups : List Blocks) → AllByRecursion IsGroup groups → whole ≡ front ++ all_packed groups → each (addresses_of_meta whole) (metas_of (length front) groups) ≡ Some (map addresses_of groups)
unfolding each metas_of all_packed
groups-again whole front [] all split = refl
groups-again whole front (group ∷ groups) all split =
    let first : addresses_of_meta whole (meta_of (length front) group) ≡ Some (addresses_of group) = addresses_of_meta-group whole front (all_packed groups) group all.0 split in
    let next : ℕ = length front + length (packed_of group) in
    let longer : whole ≡ (front ++ packed_of group) ++ all_packed groups = split ∙ sym (append_assoc front (packed_of group) (all_packed groups)) in
    let others : each (addresses_of_meta whole) (metas_of next groups) ≡ Some (map addresses_of groups) =
    ap (λ n. each (addresses_of_meta whole) (metas_of n groups)) (sym (length-append front (packed_of group))) ∙ groups-again whole (front ++ packed_of group) groups all.1 longer in
    ap (λ o. o >>= (λ (y : List Address). each (addresses_of_meta whole) (metas_of next groups) >>= (λ ys. Some (y ∷ ys)))) first
    ∙ ap (λ o. o >>= (λ ys. Some (addresses_of group ∷ ys))) others

metas-fit : (offset : ℕ) (groups : List Blocks) → AllByRecursion IsGroup groups → AllByRecursion FitsGroup groups → offset + length (all_packed groups) < 2 ^ 64 → AllByRecursion FitsMeta (metas_of offset groups)
unfolding metas_of all_packed
metas-fit offset [] all fit room = tt
metas-fit offset (group ∷ groups) all fit room =
    let long : length (packed_of group ++ all_packed groups) ≡ length (packed_of group) + length (all_packed groups) = length-append (packed_of group) (all_packed groups) in
    let is : IsGroup group = all.0 in
    let here : FitsGroup group = fit.0 in
    let first : FitsMeta (meta_of offset group) = record {
      data_offset = omega (arith, room, long);
      range_start = here.start;
      first_ordinal = here.ordinal;
      range_slope = is.ranges.slope;
      ordinal_slope = is.ordinals.slope;
      ordinal_bits = omega (arith, is.ordinals.few);
      range_bits = omega (arith, is.ranges.few);
      some = is.some;
      block_count = omega (arith, here.few);
    } in
    (first, metas-fit (offset + length (packed_of group)) groups all.1 fit.1 (omega (arith, room, long)))

pub length-metas_of : (offset : ℕ) (groups : List Blocks) → length (metas_of offset groups) ≡ length groups
unfolding metas_of
length-metas_of offset [] = refl
length-metas_of offset (group ∷ groups) = ap (λ n. suc n) (length-metas_of (offset + length (packed_of group)) groups)

-- what is left to read of a store after its metas' bytes
abbrev after_metas : List ℕ × List ℕ → Option (List Address)
after_metas parts = pieces front_of_metas parts.0 >>= (λ found. provided (are_filled found.0) >>= (λ _. each (addresses_of_meta parts.1) found.0 >>= (λ addresses. Some (joined addresses))))

store_of-is : (bytes : List ℕ) → store_of bytes ≡ (number_at w64 bytes >>= (λ len. bytes_at len.0 len.1 >>= after_metas))
unfolding store_of
store_of-is bytes = refl

-- what is written of groups of blocks, all of 128 but the last, tells their addresses
pub store_of-groups : (groups : List Blocks) → AllByRecursion IsGroup groups → AllByRecursion FitsGroup groups → are_filled (metas_of 0 groups) ≡ true
    → length (all_packed groups) < 2 ^ 64 → 36 * length groups < 2 ^ 64 → store_of (store_of_groups groups) ≡ Some (joined (map addresses_of groups))
store_of-groups groups all fit filled room few =
    let metas : List Meta = metas_of 0 groups in
    let written : List ℕ = flat_map meta_bytes metas in
    let behind : List ℕ = all_packed groups in
    let n : ℕ = 36 * length groups in
    let long : n ≡ length written = omega (arith, length-metas metas, length-metas_of 0 groups) in
    let parts : bytes_at n (written ++ behind) ≡ Some (written, behind) = ap (λ k. bytes_at k (written ++ behind)) long ∙ bytes_at-again written behind in
    let fits : AllByRecursion FitsMeta metas = metas-fit 0 groups all fit (omega (arith, room)) in
    store_of-is (store_of_groups groups)
    ∙ ap (λ o. o >>= (λ (len : ℕ × List ℕ). bytes_at len.0 len.1 >>= after_metas)) (again_64 n (written ++ behind) few)
    ∙ ap (λ o. o >>= after_metas) parts
    ∙ ap (λ o. o >>= (λ (found : List Meta × List ℕ). provided (are_filled found.0) >>= (λ _. each (addresses_of_meta behind) found.0 >>= (λ addresses. Some (joined addresses))))) (metas-again metas fits)
    ∙ ap (λ t. provided t >>= (λ _. each (addresses_of_meta behind) metas >>= (λ addresses. Some (joined addresses)))) filled
    ∙ ap (λ o. o >>= (λ addresses. Some (joined addresses))) (groups-again behind [] groups all refl)
