-- What a store says of up to 128 blocks is read again.
use Rattle.std.proofs.Common.{◌≡◌, ℕ, suc, ◌+◌, ◌-◌, ◌*◌, ◌^◌, ◌<◌, ◌≤◌, List, [], ◌∷◌, ◌++◌, length, take, drop, get_or, Option, Some, None, refl, ap, sym, ◌∙◌, arith, append-nil, length-append, length-drop, drop-cons}
use Rattle.std.specs.Prelude.{nat_le}
use Rattle.std.proofs.lemmas.Bool.{leb-true}
use Rattle.std.proofs.lemmas.List.{drop-drop}
use Rattle.std.proofs.lemmas.Nat.{from_le_bytes-to_le_bytes_2, from_le_bytes-to_le_bytes_4, from_le_bytes-to_le_bytes_8}
use Rattle.std.specs.Int.{Width, byte_len, w8, w16, w32, w64, from_le_bytes, to_le_bytes}
use Rattle.std.specs.List.{flat_map, AllByRecursion}
use Rattle.owned_bytes.specs.Front.{Reading, ◌>>=◌, provided, number_at, Piece, piece_or_fault, bytes_at}
unfoldable use Rattle.owned_bytes.specs.Front.{pieces, pieces_upto}
use Rattle.sstable_format.specs.Meta.{Meta}
unfoldable use Rattle.sstable_format.specs.Meta.{meta_at}
use Rattle.sstable_format.specs.Store.{front_of_metas}
use Rattle.block_addresses.specs.Written.{meta_bytes}
use Rattle.owned_bytes.proofs.Pieces.{Shrinks, bytes_at-again, bytes_at-front, provided-true, bind_some, some_is, piece_is, pieces-spelled, with_front}

-- the numbers fit their places
pub record FitsMeta (m : Meta) : Type 0 where
  pub data_offset : m.data_offset < 2 ^ 64
  pub range_start : m.range_start < 2 ^ 64
  pub first_ordinal : m.first_ordinal < 2 ^ 64
  pub range_slope : m.range_slope < 2 ^ 32
  pub ordinal_slope : m.ordinal_slope < 2 ^ 32
  pub ordinal_bits : m.ordinal_bits < 2 ^ 8
  pub range_bits : m.range_bits < 2 ^ 8
  pub some : 0 < m.block_count
  pub block_count : m.block_count ≤ 2 ^ 16

again : (w : Width) (bytes rest : List ℕ) (n : ℕ) → length bytes ≡ byte_len w → from_le_bytes w bytes ≡ n → number_at w (bytes ++ rest) ≡ Some (n, rest)
again w bytes rest n long is =
    ap (λ len. bytes_at len (bytes ++ rest) >>= (λ piece. Some (from_le_bytes w piece.0, piece.1))) (sym long)
    ∙ ap (λ o. o >>= (λ piece. Some (from_le_bytes w piece.0, piece.1))) (bytes_at-again bytes rest)
    ∙ ap (λ m. Some (m, rest)) is

pub again_8 : (n : ℕ) (rest : List ℕ) → n < 2 ^ 8 → number_at w8 (to_le_bytes w8 n ++ rest) ≡ Some (n, rest)
again_8 n rest fits = again w8 (to_le_bytes w8 n) rest n refl (omega arith)

pub again_16 : (n : ℕ) (rest : List ℕ) → n < 2 ^ 16 → number_at w16 (to_le_bytes w16 n ++ rest) ≡ Some (n, rest)
again_16 n rest fits = again w16 (to_le_bytes w16 n) rest n refl (from_le_bytes-to_le_bytes_2 n fits)

pub again_32 : (n : ℕ) (rest : List ℕ) → n < 2 ^ 32 → number_at w32 (to_le_bytes w32 n ++ rest) ≡ Some (n, rest)
again_32 n rest fits = again w32 (to_le_bytes w32 n) rest n refl (from_le_bytes-to_le_bytes_4 n fits)

pub again_64 : (n : ℕ) (rest : List ℕ) → n < 2 ^ 64 → number_at w64 (to_le_bytes w64 n ++ rest) ≡ Some (n, rest)
again_64 n rest fits = again w64 (to_le_bytes w64 n) rest n refl (from_le_bytes-to_le_bytes_8 n fits)

-- a reading, and what goes on after it
then : {A B : Type 0} (reading : Reading A) (next : A → List ℕ → Option B) (bytes rest : List ℕ) (x : A) → reading bytes ≡ Some (x, rest) → (reading bytes >>= (λ found. next found.0 found.1)) ≡ next x rest
then reading next bytes rest x e = ap (λ o. o >>= (λ found. next found.0 found.1)) e

-- what is left to read of a meta after so many of its numbers
abbrev made : ℕ → ℕ → ℕ → ℕ → ℕ → ℕ → ℕ → ℕ → List ℕ → Option (Meta × List ℕ)
made a b c d e f g h bytes = Some (record { data_offset = a; range_start = b; first_ordinal = c; range_slope = d; ordinal_slope = e; ordinal_bits = f; range_bits = g; block_count = h + 1 }, bytes)

abbrev after_7 : ℕ → ℕ → ℕ → ℕ → ℕ → ℕ → ℕ → List ℕ → Option (Meta × List ℕ)
after_7 a b c d e f g bytes = number_at w16 bytes >>= (λ found. made a b c d e f g found.0 found.1)

abbrev after_6 : ℕ → ℕ → ℕ → ℕ → ℕ → ℕ → List ℕ → Option (Meta × List ℕ)
after_6 a b c d e f bytes = number_at w8 bytes >>= (λ found. after_7 a b c d e f found.0 found.1)

abbrev after_5 : ℕ → ℕ → ℕ → ℕ → ℕ → List ℕ → Option (Meta × List ℕ)
after_5 a b c d e bytes = number_at w8 bytes >>= (λ found. after_6 a b c d e found.0 found.1)

abbrev after_4 : ℕ → ℕ → ℕ → ℕ → List ℕ → Option (Meta × List ℕ)
after_4 a b c d bytes = number_at w32 bytes >>= (λ found. after_5 a b c d found.0 found.1)

abbrev after_3 : ℕ → ℕ → ℕ → List ℕ → Option (Meta × List ℕ)
after_3 a b c bytes = number_at w32 bytes >>= (λ found. after_4 a b c found.0 found.1)

abbrev after_2 : ℕ → ℕ → List ℕ → Option (Meta × List ℕ)
after_2 a b bytes = number_at w64 bytes >>= (λ found. after_3 a b found.0 found.1)

abbrev after_1 : ℕ → List ℕ → Option (Meta × List ℕ)
after_1 a bytes = number_at w64 bytes >>= (λ found. after_2 a found.0 found.1)

abbrev after_0 : List ℕ → Option (Meta × List ℕ)
after_0 bytes = number_at w64 bytes >>= (λ found. after_1 found.0 found.1)

meta_at-is : (bytes : List ℕ) → meta_at bytes ≡ after_0 bytes
unfolding meta_at
meta_at-is bytes = refl

pub meta_at-again : (m : Meta) (rest : List ℕ) → FitsMeta m → meta_at (meta_bytes m ++ rest) ≡ Some (m, rest)
meta_at-again m rest fits =
    let last : m.block_count - 1 + 1 ≡ m.block_count = omega (arith, fits.some) in
    let r7 : List ℕ = to_le_bytes w16 (m.block_count - 1) ++ rest in
    let r6 : List ℕ = to_le_bytes w8 m.range_bits ++ r7 in
    let r5 : List ℕ = to_le_bytes w8 m.ordinal_bits ++ r6 in
    let r4 : List ℕ = to_le_bytes w32 m.ordinal_slope ++ r5 in
    let r3 : List ℕ = to_le_bytes w32 m.range_slope ++ r4 in
    let r2 : List ℕ = to_le_bytes w64 m.first_ordinal ++ r3 in
    let r1 : List ℕ = to_le_bytes w64 m.range_start ++ r2 in
    let r0 : List ℕ = to_le_bytes w64 m.data_offset ++ r1 in
    meta_at-is r0
    ∙ then (number_at w64) after_1 r0 r1 m.data_offset (again_64 m.data_offset r1 fits.data_offset)
    ∙ then (number_at w64) (after_2 m.data_offset) r1 r2 m.range_start (again_64 m.range_start r2 fits.range_start)
    ∙ then (number_at w64) (after_3 m.data_offset m.range_start) r2 r3 m.first_ordinal (again_64 m.first_ordinal r3 fits.first_ordinal)
    ∙ then (number_at w32) (after_4 m.data_offset m.range_start m.first_ordinal) r3 r4 m.range_slope (again_32 m.range_slope r4 fits.range_slope)
    ∙ then (number_at w32) (after_5 m.data_offset m.range_start m.first_ordinal m.range_slope) r4 r5 m.ordinal_slope (again_32 m.ordinal_slope r5 fits.ordinal_slope)
    ∙ then (number_at w8) (after_6 m.data_offset m.range_start m.first_ordinal m.range_slope m.ordinal_slope) r5 r6 m.ordinal_bits (again_8 m.ordinal_bits r6 fits.ordinal_bits)
    ∙ then (number_at w8) (after_7 m.data_offset m.range_start m.first_ordinal m.range_slope m.ordinal_slope m.ordinal_bits) r6 r7 m.range_bits (again_8 m.range_bits r7 fits.range_bits)
    ∙ then (number_at w16) (made m.data_offset m.range_start m.first_ordinal m.range_slope m.ordinal_slope m.ordinal_bits m.range_bits) r7 rest (m.block_count - 1) (again_16 (m.block_count - 1) rest (omega (arith, fits.block_count, fits.some)))
    ∙ ap (λ k. Some (record { data_offset = m.data_offset; range_start = m.range_start; first_ordinal = m.first_ordinal; range_slope = m.range_slope; ordinal_slope = m.ordinal_slope; ordinal_bits = m.ordinal_bits; range_bits = m.range_bits; block_count = k }, rest)) last

bytes_at-takes : (n : ℕ) (bytes : List ℕ) (found : List ℕ × List ℕ) → bytes_at n bytes ≡ Some found → n + length found.1 ≡ length bytes
bytes_at-takes n bytes found e =
    let step = bind_some (provided (nat_le n (length bytes))) (λ _. Some (take n bytes, drop n bytes)) found e in
    let fits : n ≤ length bytes = leb-true n (length bytes) (provided-true _ step.0 step.1) in
    let same : (take n bytes, drop n bytes) ≡ found = some_is _ _ step.2 in
    let rest : drop n bytes ≡ found.1 = ap (λ (p : List ℕ × List ℕ). p.1) same in
    omega (arith, fits, ap length rest, length-drop n bytes)

number_at-takes : (w : Width) (bytes : List ℕ) (found : ℕ × List ℕ) → number_at w bytes ≡ Some found → byte_len w + length found.1 ≡ length bytes
number_at-takes w bytes found e =
    let s = bind_some (bytes_at (byte_len w) bytes) (λ piece. Some (from_le_bytes w piece.0, piece.1)) found e in
    let t = bytes_at-takes (byte_len w) bytes s.0 s.1 in
    let same : length s.0.1 ≡ length found.1 = ap (λ (p : ℕ × List ℕ). length p.1) (some_is _ _ s.2) in
    ap (λ n. byte_len w + n) (sym same) ∙ t

-- a number, and then so many bytes
number_then-takes : (w : Width) (next : ℕ → List ℕ → Option (Meta × List ℕ)) (k : ℕ) → ((x : ℕ) (rest : List ℕ) (found : Meta × List ℕ) → next x rest ≡ Some found → k + length found.1 ≡ length rest)
    → (bytes : List ℕ) (found : Meta × List ℕ) → (number_at w bytes >>= (λ f. next f.0 f.1)) ≡ Some found → byte_len w + (k + length found.1) ≡ length bytes
number_then-takes w next k others bytes found e =
    let s = bind_some (number_at w bytes) (λ f. next f.0 f.1) found e in
    ap (λ n. byte_len w + n) (others s.0.0 s.0.1 found s.2) ∙ number_at-takes w bytes s.0 s.1

made-takes : (a b c d e f g h : ℕ) (bytes : List ℕ) (found : Meta × List ℕ) → made a b c d e f g h bytes ≡ Some found → 0 + length found.1 ≡ length bytes
made-takes a b c d e f g h bytes found is = let same : length bytes ≡ length found.1 = ap (λ (p : Meta × List ℕ). length p.1) (some_is _ _ is) in omega (arith, same)

after_7-takes : (a b c d e f g : ℕ) (bytes : List ℕ) (found : Meta × List ℕ) → after_7 a b c d e f g bytes ≡ Some found → 2 + length found.1 ≡ length bytes
after_7-takes a b c d e f g bytes found is = let all : 2 + (0 + length found.1) ≡ length bytes = number_then-takes w16 (made a b c d e f g) 0 (made-takes a b c d e f g) bytes found is in omega (arith, all)

after_6-takes : (a b c d e f : ℕ) (bytes : List ℕ) (found : Meta × List ℕ) → after_6 a b c d e f bytes ≡ Some found → 3 + length found.1 ≡ length bytes
after_6-takes a b c d e f bytes found is = let all : 1 + (2 + length found.1) ≡ length bytes = number_then-takes w8 (after_7 a b c d e f) 2 (after_7-takes a b c d e f) bytes found is in omega (arith, all)

after_5-takes : (a b c d e : ℕ) (bytes : List ℕ) (found : Meta × List ℕ) → after_5 a b c d e bytes ≡ Some found → 4 + length found.1 ≡ length bytes
after_5-takes a b c d e bytes found is = let all : 1 + (3 + length found.1) ≡ length bytes = number_then-takes w8 (after_6 a b c d e) 3 (after_6-takes a b c d e) bytes found is in omega (arith, all)

after_4-takes : (a b c d : ℕ) (bytes : List ℕ) (found : Meta × List ℕ) → after_4 a b c d bytes ≡ Some found → 8 + length found.1 ≡ length bytes
after_4-takes a b c d bytes found is = let all : 4 + (4 + length found.1) ≡ length bytes = number_then-takes w32 (after_5 a b c d) 4 (after_5-takes a b c d) bytes found is in omega (arith, all)

after_3-takes : (a b c : ℕ) (bytes : List ℕ) (found : Meta × List ℕ) → after_3 a b c bytes ≡ Some found → 12 + length found.1 ≡ length bytes
after_3-takes a b c bytes found is = let all : 4 + (8 + length found.1) ≡ length bytes = number_then-takes w32 (after_4 a b c) 8 (after_4-takes a b c) bytes found is in omega (arith, all)

after_2-takes : (a b : ℕ) (bytes : List ℕ) (found : Meta × List ℕ) → after_2 a b bytes ≡ Some found → 20 + length found.1 ≡ length bytes
after_2-takes a b bytes found is = let all : 8 + (12 + length found.1) ≡ length bytes = number_then-takes w64 (after_3 a b) 12 (after_3-takes a b) bytes found is in omega (arith, all)

after_1-takes : (a : ℕ) (bytes : List ℕ) (found : Meta × List ℕ) → after_1 a bytes ≡ Some found → 28 + length found.1 ≡ length bytes
after_1-takes a bytes found is = let all : 8 + (20 + length found.1) ≡ length bytes = number_then-takes w64 (after_2 a) 20 (after_2-takes a) bytes found is in omega (arith, all)

after_0-takes : (bytes : List ℕ) (found : Meta × List ℕ) → after_0 bytes ≡ Some found → 36 + length found.1 ≡ length bytes
after_0-takes bytes found is = let all : 8 + (28 + length found.1) ≡ length bytes = number_then-takes w64 after_1 28 (after_1-takes) bytes found is in omega (arith, all)

pub meta_at-takes : (bytes : List ℕ) (found : Meta × List ℕ) → meta_at bytes ≡ Some found → 36 + length found.1 ≡ length bytes
meta_at-takes bytes found is = after_0-takes bytes found (sym (meta_at-is bytes) ∙ is)

-- fewer bytes are no meta
pub meta_at-short : (bytes : List ℕ) → length bytes < 36 → meta_at bytes ≡ None
meta_at-short bytes short = by (meta_at bytes) refl
  where
    by : (found : Option (Meta × List ℕ)) → meta_at bytes ≡ found → found ≡ None
    by None e = refl
    by (Some found) e = let t : 36 + length found.1 ≡ length bytes = meta_at-takes bytes found e in absurd (omega (arith, t, short))

-- the number of a width that stands so many bytes behind the front
abbrev pub number_in : Width → ℕ → List ℕ → ℕ
number_in w place bytes = from_le_bytes w (take (byte_len w) (drop place bytes))

-- the meta that 36 bytes are
abbrev pub meta_in : List ℕ → Meta
meta_in bytes = record {
  data_offset = number_in w64 0 bytes;
  range_start = number_in w64 8 bytes;
  first_ordinal = number_in w64 16 bytes;
  range_slope = number_in w32 24 bytes;
  ordinal_slope = number_in w32 28 bytes;
  ordinal_bits = number_in w8 32 bytes;
  range_bits = number_in w8 33 bytes;
  block_count = number_in w16 34 bytes + 1;
}

-- a number that stands behind so many bytes
number_at-front : (w : Width) (place next : ℕ) (bytes : List ℕ) → place + byte_len w ≤ length bytes → byte_len w + place ≡ next → number_at w (drop place bytes) ≡ Some (number_in w place bytes, drop next bytes)
number_at-front w place next bytes fits is =
    ap (λ o. o >>= (λ piece. Some (from_le_bytes w piece.0, piece.1))) (bytes_at-front (byte_len w) (drop place bytes) (omega (arith, fits, length-drop place bytes)))
    ∙ ap (λ rest. Some (number_in w place bytes, rest)) (drop-drop (byte_len w) place bytes ∙ ap (λ n. drop n bytes) (omega (arith, is)))

byte_in : (bytes : List ℕ) (i : ℕ) → i < length bytes → number_in w8 i bytes ≡ get_or bytes i 0
byte_in bytes i below = ap (λ xs. from_le_bytes w8 (take 1 xs)) (drop-cons bytes i 0 below) ∙ (omega arith)

-- 36 bytes are a meta
pub meta_at-front : (bytes : List ℕ) → 36 ≤ length bytes → meta_at bytes ≡ Some (meta_in bytes, drop 36 bytes)
meta_at-front bytes fits =
    let a = number_in w64 0 bytes in
    let b = number_in w64 8 bytes in
    let d = number_in w64 16 bytes in
    let e = number_in w32 24 bytes in
    let f = number_in w32 28 bytes in
    let g = number_in w8 32 bytes in
    let h = number_in w8 33 bytes in
    meta_at-is bytes
    ∙ then (number_at w64) after_1 bytes (drop 8 bytes) a (number_at-front w64 0 8 bytes (omega (arith, fits)) refl)
    ∙ then (number_at w64) (after_2 a) (drop 8 bytes) (drop 16 bytes) b (number_at-front w64 8 16 bytes (omega (arith, fits)) refl)
    ∙ then (number_at w64) (after_3 a b) (drop 16 bytes) (drop 24 bytes) d (number_at-front w64 16 24 bytes (omega (arith, fits)) refl)
    ∙ then (number_at w32) (after_4 a b d) (drop 24 bytes) (drop 28 bytes) e (number_at-front w32 24 28 bytes (omega (arith, fits)) refl)
    ∙ then (number_at w32) (after_5 a b d e) (drop 28 bytes) (drop 32 bytes) f (number_at-front w32 28 32 bytes (omega (arith, fits)) refl)
    ∙ then (number_at w8) (after_6 a b d e f) (drop 32 bytes) (drop 33 bytes) g (number_at-front w8 32 33 bytes (omega (arith, fits)) refl)
    ∙ then (number_at w8) (after_7 a b d e f g) (drop 33 bytes) (drop 34 bytes) h (number_at-front w8 33 34 bytes (omega (arith, fits)) refl)
    ∙ then (number_at w16) (made a b d e f g h) (drop 34 bytes) (drop 36 bytes) (number_in w16 34 bytes) (number_at-front w16 34 36 bytes (omega (arith, fits)) refl)

-- the meta whose numbers are those
pub meta_at-read : (bytes : List ℕ) (a b d e f g h k : ℕ) → 36 ≤ length bytes → a ≡ number_in w64 0 bytes → b ≡ number_in w64 8 bytes → d ≡ number_in w64 16 bytes → e ≡ number_in w32 24 bytes
    → f ≡ number_in w32 28 bytes → g ≡ get_or bytes 32 0 → h ≡ get_or bytes 33 0 → k ≡ number_in w16 34 bytes → meta_at bytes ≡ made a b d e f g h k (drop 36 bytes)
meta_at-read bytes a b d e f g h k fits ea eb ed ee ef eg eh ek =
    let rest : List ℕ = drop 36 bytes in
    let n1 = number_in w64 8 bytes in
    let n2 = number_in w64 16 bytes in
    let n3 = number_in w32 24 bytes in
    let n4 = number_in w32 28 bytes in
    let n5 = number_in w8 32 bytes in
    let n6 = number_in w8 33 bytes in
    let n7 = number_in w16 34 bytes in
    meta_at-front bytes fits
    ∙ ap (λ x. made x n1 n2 n3 n4 n5 n6 n7 rest) (sym ea) ∙ ap (λ x. made a x n2 n3 n4 n5 n6 n7 rest) (sym eb) ∙ ap (λ x. made a b x n3 n4 n5 n6 n7 rest) (sym ed)
    ∙ ap (λ x. made a b d x n4 n5 n6 n7 rest) (sym ee) ∙ ap (λ x. made a b d e x n5 n6 n7 rest) (sym ef)
    ∙ ap (λ x. made a b d e f x n6 n7 rest) (byte_in bytes 32 (omega arith) ∙ sym eg) ∙ ap (λ x. made a b d e f g x n7 rest) (byte_in bytes 33 (omega arith) ∙ sym eh)
    ∙ ap (λ x. made a b d e f g h x rest) (sym ek)

-- a meta takes bytes
pub metas-shrink : Shrinks front_of_metas
metas-shrink = record { shorter = by }
  where
    by : (bytes rest : List ℕ) (x : Meta) → front_of_metas bytes ≡ Piece x rest → length rest < length bytes
    by [] rest x e = absurd cc
    by (b ∷ bytes) rest x e =
        let t : 36 + length rest ≡ suc (length bytes) = meta_at-takes (b ∷ bytes) (x, rest) (piece_is (meta_at (b ∷ bytes)) x rest e) in
        omega (arith, t)

-- where a byte stands, a meta is to be read
pub front_of_metas-is : (bytes : List ℕ) → 0 < length bytes → front_of_metas bytes ≡ piece_or_fault (meta_at bytes)
front_of_metas-is [] some = absurd (omega arith)
front_of_metas-is (b ∷ bytes) some = refl

pub front_of_metas-again : (m : Meta) (rest : List ℕ) → FitsMeta m → front_of_metas (meta_bytes m ++ rest) ≡ Piece m rest
front_of_metas-again m rest fits = front_of_metas-is (meta_bytes m ++ rest) (omega arith) ∙ ap piece_or_fault (meta_at-again m rest fits)

pub no_metas : pieces front_of_metas [] ≡ Some ([], [])
unfolding pieces pieces_upto
no_metas = refl

-- the metas are read again
pub metas-again : (metas : List Meta) → AllByRecursion FitsMeta metas → pieces front_of_metas (flat_map meta_bytes metas) ≡ Some (metas, [])
metas-again metas fits =
    ap (pieces front_of_metas) (sym (append-nil (flat_map meta_bytes metas)))
    ∙ pieces-spelled front_of_metas metas-shrink meta_bytes FitsMeta front_of_metas-again metas fits []
    ∙ ap (with_front metas) (no_metas)
    ∙ ap (λ (xs : List Meta). Some (xs, [])) (append-nil metas)

pub length-metas : (metas : List Meta) → length (flat_map meta_bytes metas) ≡ 36 * length metas
length-metas [] = refl
length-metas (m ∷ metas) = omega (arith, length-append (meta_bytes m) (flat_map meta_bytes metas), length-metas metas)
