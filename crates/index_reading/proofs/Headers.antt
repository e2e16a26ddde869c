-- What the front and the end of an index file tell of it.
use Rattle.std.proofs.Common.{◌≡◌, ℕ, ◌+◌, ◌<◌, ◌≤◌, List, length, take, drop, Option, Some, None, true, false, refl, ap, sym, ◌∙◌, arith, length-drop, drop-drop, Err, leb}
use Rattle.std.proofs.lemmas.Bool.{leb-true, leb-false}
use Rattle.std.specs.Int.{w32, w64, from_le_bytes}
use Rattle.std.specs.Prelude.{is_some, not}
use Rattle.owned_bytes.specs.Front.{◌>>=◌, provided, number_at, bytes_at}
use Rattle.owned_bytes.specs.Outside.{HasLength}
use Rattle.sstable_values.specs.Codec.{range}
use Rattle.sstable_format.specs.Table.{sst_of}
use Rattle.sstable_format.specs.Version.{is_known, has_unknown_version}
use Rattle.sstable_format.proofs.Compressed.{number_at-short}
use Rattle.sstable_format.proofs.Ends.{at_end-none, number_at-front, bytes_at-front, bytes_at-none}
use Rattle.index_file.specs.Header.{Header, packed_length, header_at}
use Rattle.index_file.specs.IndexFile.{table_of, postings_of}
use Rattle.index_file.specs.Opening.{IsDamaged}
use Rattle.index_reading.specs.declared.errors.IndexError.TheVariants.{Corrupt}
use Rattle.index_reading.specs.Opening.{OpensTold}

-- the numbers at the front of a file
abbrev pub documents_in : List ℕ → ℕ
documents_in file = from_le_bytes w32 (take 4 file)

abbrev pub count_in : List ℕ → ℕ
count_in file = from_le_bytes w64 (take 8 (drop 4 file))

-- the header and what is behind it, by how many bytes the packed numbers take
abbrev behind : ℕ → ℕ → Option (List ℕ × List ℕ) → Option (Header × List ℕ)
behind documents count o = o >>= (λ packed. Some (record { documents = documents; count = count; packed = packed.0 }, packed.1))

header_at-by : (file : List ℕ) → 12 ≤ length file
    → header_at file ≡ behind (documents_in file) (count_in file) (bytes_at (packed_length (documents_in file) (count_in file)) (drop 12 file))
header_at-by file fits =
    let first = number_at-front w32 file (omega (arith, fits)) in
    let second : number_at w64 (drop 4 file) ≡ Some (count_in file, drop 12 file) =
    number_at-front w64 (drop 4 file) (omega (arith, fits, length-drop 4 file)) ∙ ap (λ (r : List ℕ). Some (count_in file, r)) (drop-drop 8 4 file) in
    ap (λ o. o >>= (λ (a : ℕ × List ℕ). number_at w64 a.1 >>= (λ (b : ℕ × List ℕ). behind a.0 b.0 (bytes_at (packed_length a.0 b.0) b.1)))) first
    ∙ ap (λ o. o >>= (λ (b : ℕ × List ℕ). behind (documents_in file) b.0 (bytes_at (packed_length (documents_in file) b.0) b.1))) second

pub header_at-found : (file : List ℕ) (documents count start : ℕ) → documents ≡ documents_in file → count ≡ count_in file
    → start ≡ 12 + packed_length documents count → start ≤ length file
    → header_at file ≡ Some (record { documents = documents; count = count; packed = take (packed_length documents count) (drop 12 file) }, drop start file)
header_at-found file documents count start is_documents is_count is_start fits =
    header_at-by file (omega (arith, is_start, fits))
    ∙ (λ i. behind (sym is_documents i) (sym is_count i) (bytes_at (packed_length (sym is_documents i) (sym is_count i)) (drop 12 file)))
    ∙ ap (behind documents count) (bytes_at-front (packed_length documents count) (drop 12 file) (omega (arith, is_start, fits, length-drop 12 file)))
    ∙ ap (λ (r : List ℕ). Some (record { documents = documents; count = count; packed = take (packed_length documents count) (drop 12 file) }, r))
    (drop-drop (packed_length documents count) 12 file ∙ ap (λ n. drop n file) (omega (arith, is_start)))

pub header_at-far : (file : List ℕ) (documents count : ℕ) → documents ≡ documents_in file → count ≡ count_in file
    → 12 ≤ length file → length file < 12 + packed_length documents count → header_at file ≡ None
header_at-far file documents count is_documents is_count fits far =
    header_at-by file fits
    ∙ (λ i. behind (sym is_documents i) (sym is_count i) (bytes_at (packed_length (sym is_documents i) (sym is_count i)) (drop 12 file)))
    ∙ ap (behind documents count) (bytes_at-none (packed_length documents count) (drop 12 file) (omega (arith, far, fits, length-drop 12 file)))

pub header_at-short : (file : List ℕ) → length file < 12 → header_at file ≡ None
header_at-short file short =
    elim (leb 4 (length file)) as (λ t. leb 4 (length file) ≡ t → header_at file ≡ None) [
      | true ↦ λ e.
          let fits : 4 ≤ length file = leb-true _ _ e in
          ap (λ o. o >>= next) (number_at-front w32 file fits)
          ∙ ap (λ o. o >>= (λ (b : ℕ × List ℕ). behind (documents_in file) b.0 (bytes_at (packed_length (documents_in file) b.0) b.1))) (number_at-short w64 (drop 4 file) (omega (arith, short, length-drop 4 file)))
      | false ↦ λ e. ap (λ o. o >>= next) (number_at-short w32 file (leb-false _ _ e))
    ] refl
  where
    next : ℕ × List ℕ → Option (Header × List ℕ)
    next a = number_at w64 a.1 >>= (λ (b : ℕ × List ℕ). behind a.0 b.0 (bytes_at (packed_length a.0 b.0) b.1))

-- ---- a file without a header

pub table_of-none : (file : List ℕ) → header_at file ≡ None → table_of file ≡ None
unfolding table_of
table_of-none file none = ap (λ o. o >>= (λ (parts : Header × List ℕ). sst_of range parts.1 >>= (λ entries. postings_of parts.0 entries))) none

pub damaged-none : (file : List ℕ) → has_unknown_version file ≡ false → header_at file ≡ None → IsDamaged file
damaged-none file known none = record { no_other_version = known; no_table = table_of-none file none }

no_version : (file : List ℕ) → length file < 4 → has_unknown_version file ≡ false
no_version file short = ap (λ o. is_some ((o >>= (λ (ended : ℕ × List ℕ). Some ended.0)) >>= (λ v. provided (not (is_known v))))) (at_end-none 4 (number_at w32) file short)

pub opens-short : (contents : Option (List ℕ)) (size : ℕ) → HasLength contents size → size < 4 → OpensTold contents (Err Corrupt)
opens-short None size long short = tt
opens-short (Some file) size long short =
    let few : length file < 4 = omega (arith, long, short) in
    damaged-none file (no_version file few) (header_at-short file (omega (arith, few)))
