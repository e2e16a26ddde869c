-- What short index parts tell.
use Rattle.std.proofs.Common.{◌≡◌, ℕ, ◌-◌, ◌<◌, List, [], ◌∷◌, length, take, Some, None, refl, ap, ◌∙◌, arith}
use Rattle.std.specs.Int.{w64}
use Rattle.std.specs.Prelude.{◌==◌, if◌then◌else◌}
use Rattle.owned_bytes.specs.Front.{◌>>=◌, number_at}
use Rattle.sstable_values.specs.Codec.{Codec}
use Rattle.sstable_blocks.specs.Computes as blocks
use Rattle.sstable_format.specs.Index.{AtMostOneBlock, Entries, EndsWith, index_of_version, index_v2_of, index_v3_of, map_and_store_of}
use Rattle.sstable_format.specs.Table.{blocks_of}
use Rattle.sstable_format.proofs.Ends.{at_end-none, number_at_end}

-- fewer than four bytes are no blocks
pub blocks_of-short : {V : Type 0} (codec : Codec V) (front : List ℕ) → length front < 4 → blocks_of codec front ≡ None
unfolding blocks.computes blocks_of
blocks_of-short codec [] short = refl
blocks_of-short codec (a ∷ []) short = refl
blocks_of-short codec (a ∷ b ∷ []) short = refl
blocks_of-short codec (a ∷ b ∷ c ∷ []) short = refl
blocks_of-short codec (a ∷ b ∷ c ∷ d ∷ front) short = absurd (omega arith)

-- one to three bytes are no index of version 2
pub index_v2-short : (part : List ℕ) → length part < 4 → (part ≡ [] → ⊥) → index_v2_of part ≡ None
unfolding blocks.computes index_v2_of
index_v2-short [] short some = absurd (some refl)
index_v2-short (a ∷ []) short some = refl
index_v2-short (a ∷ b ∷ []) short some = refl
index_v2-short (a ∷ b ∷ c ∷ []) short some = refl
index_v2-short (a ∷ b ∷ c ∷ d ∷ part) short some = absurd (omega arith)

pub index_v2-empty : index_v2_of [] ≡ Some (Entries [])
unfolding blocks.computes index_v2_of
index_v2-empty = refl

pub index_v3-short : (part : List ℕ) → length part < 8 → index_v3_of part ≡ None
unfolding index_v3_of
index_v3-short part short = ap (λ o. o >>= (λ (stored : ℕ × List ℕ). if stored.0 == 0 then Some AtMostOneBlock else (map_and_store_of stored.0 stored.1 >>= (λ entries. Some (Entries entries))))) (at_end-none 8 (number_at w64) part short)

pub index_v3-zero : (part : List ℕ) → EndsWith part 0 → index_v3_of part ≡ Some AtMostOneBlock
unfolding index_v3_of
index_v3-zero part ends =
    ap (λ o. o >>= (λ (stored : ℕ × List ℕ). if stored.0 == 0 then Some AtMostOneBlock else (map_and_store_of stored.0 stored.1 >>= (λ entries. Some (Entries entries))))) (number_at_end w64 part ends.0)
    ∙ ap (λ n. if n == 0 then Some AtMostOneBlock else (map_and_store_of n (take (length part - 8) part) >>= (λ entries. Some (Entries entries)))) ends.1

-- the index part of a known version, read by its version
pub index-v2 : (version : ℕ) (part : List ℕ) → version ≡ 2 → index_of_version version part ≡ index_v2_of part
index-v2 version part two = ap (λ v. index_of_version v part) two

pub index-v3 : (version : ℕ) (part : List ℕ) → version ≡ 3 → index_of_version version part ≡ index_v3_of part
index-v3 version part three = ap (λ v. index_of_version v part) three
