-- Where a block is found to be compressed.
use Rattle.std.proofs.Common.{◌≡◌, ℕ, ◌-◌, ◌≤◌, List, [], ◌∷◌, length, take, drop, Bool, true, false, cond, Some, None, Ok, Err, refl, ap, sym, ◌∙◌, arith}
use Rattle.std.specs.Int.{w8, w32, from_le_bytes}
use Rattle.std.specs.Prelude.{is_some, nat_le, nat_lt, not, ◌&&◌, ◌==◌}
use Rattle.std.proofs.lemmas.Bool.{le-leb, ltb-false, eqb-true}
use Rattle.owned_bytes.specs.Front.{◌>>=◌, provided, number_at}
use Rattle.sstable_values.specs.declared.errors.BlockError.{BlockError}
use Rattle.sstable_values.specs.declared.errors.BlockError.TheVariants as blocks
use Rattle.sstable_blocks.specs.Content.{Found, content_after}
unfoldable use Rattle.sstable_blocks.specs.Content.{block_at}
use Rattle.sstable_format.specs.Refused.{is_compressed_at}
use Rattle.sstable_format.proofs.Ends.{number_at-front}

no_end : (b : Bool) (r : Found) (error : BlockError) → cond b (Ok None) r ≡ Err error → (b ≡ false) × (r ≡ Err error)
no_end true r error e = absurd cc
no_end false r error e = (refl, e)

no_fault : (b : Bool) (r : Found) (p : ℕ) → cond b (Err blocks.Corrupt) r ≡ Err (blocks.Compressed p) → (b ≡ false) × (r ≡ Err (blocks.Compressed p))
no_fault true r p e = absurd cc
no_fault false r p e = (refl, e)

place-is : (place p : ℕ) → ◌≡◌ {A = Found} (Err (blocks.Compressed place)) (Err (blocks.Compressed p)) → place ≡ p
place-is place p e = cc

-- behind the length stands a byte 1
content-compressed : (place len p : ℕ) (bytes : List ℕ) → content_after place len bytes ≡ Err (blocks.Compressed p) → (place ≡ p) × (rest : List ℕ) × (bytes ≡ 1 ∷ rest)
content-compressed place len p [] e = absurd cc
content-compressed place len p (c ∷ bytes) e = by_test (c == 1) refl e
  where
    plain : Bool → Found
    plain b = cond b (Err (blocks.Compressed place)) (cond (not (c == 0)) (Err blocks.Corrupt) (cond (nat_lt (length bytes) len) (Err blocks.Corrupt) (Ok (Some (take len bytes, drop len bytes)))))

    by_test : (b : Bool) → (c == 1) ≡ b → plain b ≡ Err (blocks.Compressed p) → (place ≡ p) × (rest : List ℕ) × (c ∷ bytes ≡ 1 ∷ rest)
    by_test true t e = (place-is place p e, bytes, ap (λ n. n ∷ bytes) (eqb-true _ _ t))
    by_test false t e =
        let first = no_fault (not (c == 0)) _ p e in
        let second = no_fault (nat_lt (length bytes) len) _ p first.1 in
        absurd (let none : ⊥ = cc in none)

compressed-front : (bytes rest : List ℕ) → 4 ≤ length bytes → 2 ≤ from_le_bytes w32 (take 4 bytes) → drop 4 bytes ≡ 1 ∷ rest → is_compressed_at 0 bytes ≡ true
compressed-front bytes rest long some one =
    ap (λ o. is_some (o >>= (λ (len : ℕ × List ℕ). number_at w8 len.1 >>= (λ compress. provided (nat_le 2 len.0 && (compress.0 == 1)))))) (number_at-front w32 bytes long)
    ∙ ap (λ r. is_some (number_at w8 r >>= (λ compress. provided (nat_le 2 (from_le_bytes w32 (take 4 bytes)) && (compress.0 == 1))))) one
    ∙ ap (λ o. is_some (o >>= (λ (compress : ℕ × List ℕ). provided (nat_le 2 (from_le_bytes w32 (take 4 bytes)) && (compress.0 == 1))))) (number_at-front w8 (1 ∷ rest) (omega arith))
    ∙ ap (λ t. is_some (provided (t && true))) (le-leb 2 (from_le_bytes w32 (take 4 bytes)) some)

pub found-compressed : (place p : ℕ) (bytes : List ℕ) → block_at place bytes ≡ Err (blocks.Compressed p) → (place ≡ p) × (is_compressed_at 0 bytes ≡ true)
unfolding block_at
found-compressed place p bytes e =
    let some = no_end (length bytes == 0) _ (blocks.Compressed p) e in
    let long = no_fault (nat_lt (length bytes) 4) _ p some.1 in
    let block = no_end (nat_lt (from_le_bytes w32 (take 4 bytes)) 2) _ (blocks.Compressed p) long.1 in
    let here = content-compressed place (from_le_bytes w32 (take 4 bytes) - 1) p (drop 4 bytes) block.1 in
    (here.0, compressed-front bytes here.1 (ltb-false _ _ long.0) (ltb-false _ _ block.0) here.2)
