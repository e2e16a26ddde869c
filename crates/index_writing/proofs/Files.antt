-- The bytes that were made are an index file.
use Rattle.std.proofs.Common.{◌≡◌, ℕ, ◌+◌, ◌-◌, ◌^◌, ◌<◌, ◌≤◌, Bool, true, false, List, [], ◌∷◌, ◌++◌, length, take, drop, Option, Some, None, Result, Ok, Err, refl, sym, ap, subst, ◌∙◌, arith, append_assoc, append-nil, length-append}
use Rattle.std.specs.Prelude.{map, nat_le, is_some, IfOk}
use Rattle.std.specs.Int.{w32, w64, to_le_bytes, from_le_bytes}
use Rattle.std.specs.List.{list_all}
use Rattle.std.specs.declared.ops.Range.{Range}
use Rattle.std.proofs.Math.Seq.{take-append_seam, drop-append_seam, drop-append-add}
use Rattle.std.proofs.lemmas.Bool.{le-leb, leb-true}
use Rattle.std.proofs.lemmas.Nat.{from_le_bytes-to_le_bytes_4, from_le_bytes-to_le_bytes_8}
use Rattle.owned_bytes.specs.Front.{◌>>=◌, provided, number_at, bytes_at}
use Rattle.owned_bytes.specs.Keys.{Key}
use Rattle.owned_bytes.proofs.Pieces.{bytes_at-again, bind_some, provided-true}
use Rattle.tantivy_bitpacker.specs.Packed.{packed, unpacked, FitWidth}
use Rattle.tantivy_bitpacker.proofs.Packing.{unpacked-packed, length-packed}
use Rattle.sstable_values.specs.Codec.{range}
use Rattle.sstable_format.specs.Index.{at_end}
use Rattle.sstable_format.specs.Table.{sst_of}
use Rattle.sstable_format.specs.Version.{version_of}
use Rattle.documents.specs.declared.documents.Doc.{Doc}
use Rattle.documents.specs.Documents.{AreValidDocuments}
use Rattle.documents.specs.Postings.{Postings}
unfoldable use Rattle.documents.specs.Postings.{gather}
use Rattle.index_file.specs.Header.{Header, width_of, packed_length, header_at, numbers_in}
use Rattle.index_file.specs.IndexFile.{is_posting, with_numbers, postings_of, adjoin}
unfoldable use Rattle.index_file.specs.IndexFile.{table_of}
use Rattle.index_writing.specs.Emitting.{numbers_of_all, header_bytes, GainsTable, IsReadyIndex}
unfoldable use Rattle.index_writing.specs.Emitting.{ranged}
use Rattle.index_writing.proofs.Facts.{adjoin-ranged, gathered-some, gathered-postings, gathered-fit}

-- ---- the header is read again

four-again : (n : ℕ) (rest : List ℕ) → n < 2 ^ 32 → number_at w32 (to_le_bytes w32 n ++ rest) ≡ Some (n, rest)
four-again n rest fits =
    ap (λ o. o >>= (λ (piece : List ℕ × List ℕ). Some (from_le_bytes w32 piece.0, piece.1))) (bytes_at-again (to_le_bytes w32 n) rest)
    ∙ ap (λ m. Some (m, rest)) (from_le_bytes-to_le_bytes_4 n fits)

eight-again : (n : ℕ) (rest : List ℕ) → n < 2 ^ 64 → number_at w64 (to_le_bytes w64 n ++ rest) ≡ Some (n, rest)
eight-again n rest fits =
    ap (λ o. o >>= (λ (piece : List ℕ × List ℕ). Some (from_le_bytes w64 piece.0, piece.1))) (bytes_at-again (to_le_bytes w64 n) rest)
    ∙ ap (λ m. Some (m, rest)) (from_le_bytes-to_le_bytes_8 n fits)

abbrev header_of : ℕ → ℕ → List ℕ → Header
header_of documents count bytes = record { documents = documents; count = count; packed = bytes }

header-again : (documents count : ℕ) (bytes table : List ℕ) → documents < 2 ^ 32 → count < 2 ^ 64 → length bytes ≡ packed_length documents count
    → header_at ((header_bytes documents count ++ bytes) ++ table) ≡ Some (header_of documents count bytes, table)
header-again documents count bytes table a b long =
    let apart : (header_bytes documents count ++ bytes) ++ table ≡ to_le_bytes w32 documents ++ (to_le_bytes w64 count ++ (bytes ++ table)) =
    append_assoc (header_bytes documents count) bytes table ∙ append_assoc (to_le_bytes w32 documents) (to_le_bytes w64 count) (bytes ++ table) in
    let third : bytes_at (packed_length documents count) (bytes ++ table) ≡ Some (bytes, table) = ap (λ n. bytes_at n (bytes ++ table)) (sym long) ∙ bytes_at-again bytes table in
    ap header_at apart
    ∙ ap (λ o. o >>= (λ (d : ℕ × List ℕ). number_at w64 d.1 >>= (λ (n : ℕ × List ℕ). bytes_at (packed_length d.0 n.0) n.1 >>= (λ (p : List ℕ × List ℕ). Some (header_of d.0 n.0 p.0, p.1)))))
    (four-again documents (to_le_bytes w64 count ++ (bytes ++ table)) a)
    ∙ ap (λ o. o >>= (λ (n : ℕ × List ℕ). bytes_at (packed_length documents n.0) n.1 >>= (λ (p : List ℕ × List ℕ). Some (header_of documents n.0 p.0, p.1))))
    (eight-again count (bytes ++ table) b)
    ∙ ap (λ o. o >>= (λ (p : List ℕ × List ℕ). Some (header_of documents count p.0, p.1))) third

-- ---- each key has its numbers at its places

with-numbers : (front : List ℕ) (start : ℕ) (ps : List (Key × List ℕ)) → length front ≡ start → map (with_numbers (front ++ numbers_of_all ps)) (ranged start ps) ≡ ps
unfolding ranged
with-numbers front start [] is = refl
with-numbers front start (p ∷ ps) is =
    let numbers = front ++ numbers_of_all (p ∷ ps) in
    let others = numbers_of_all ps in
    let behind : drop start numbers ≡ p.1 ++ others = ap (λ n. drop n numbers) (sym is) ∙ drop-append_seam front (p.1 ++ others) in
    let long : start + length p.1 - start ≡ length p.1 = omega arith in
    let here : take (start + length p.1 - start) (drop start numbers) ≡ p.1 = ap (λ n. take n (drop start numbers)) long ∙ ap (take (length p.1)) behind ∙ take-append_seam p.1 others in
    let next : length (front ++ p.1) ≡ start + length p.1 = length-append front p.1 ∙ ap (λ n. n + length p.1) is in
    let rest : map (with_numbers numbers) (ranged (start + length p.1) ps) ≡ ps = ap (λ ns. map (with_numbers ns) (ranged (start + length p.1) ps)) (sym (append_assoc front p.1 others)) ∙ with-numbers (front ++ p.1) (start + length p.1) ps next in
    ap (λ ns. (p.0, ns) ∷ map (with_numbers numbers) (ranged (start + length p.1) ps)) here ∙ ap (λ ps. (p.0, p.1) ∷ ps) rest

-- ---- the end of a file is that of its table

ends-alike : (front table : List ℕ) (n : ℕ) → n ≤ length table → drop (length (front ++ table) - n) (front ++ table) ≡ drop (length table - n) table
ends-alike front table n fits =
    let more : length (front ++ table) - n ≡ length front + (length table - n) = omega (arith, length-append front table, fits) in
    ap (λ m. drop m (front ++ table)) more ∙ drop-append-add front table (length table - n)

version-long : (table : List ℕ) (v : ℕ) → version_of table ≡ Some v → 4 ≤ length table
version-long table v is =
    let ended = bind_some (at_end 4 (number_at w32) table) (λ ended. Some ended.0) v is in
    let fits = bind_some (provided (nat_le 4 (length table))) (λ _. number_at w32 (drop (length table - 4) table) >>= (λ found. Some (found.0, take (length table - 4) table))) ended.0 ended.1 in
    leb-true _ _ (provided-true _ _ fits.1)

-- the number in the last bytes, where they are enough
ended : Bool → List ℕ → List ℕ → Option ℕ
ended fits last before = (provided fits >>= (λ _. number_at w32 last >>= (λ (found : ℕ × List ℕ). beside found.0 before))) >>= (λ (end : ℕ × List ℕ). Some end.0)
  where
    beside : ℕ → List ℕ → Option (ℕ × List ℕ)
    beside n bytes = Some (n, bytes)

version-ended : (table : List ℕ) → version_of table ≡ ended (nat_le 4 (length table)) (drop (length table - 4) table) (take (length table - 4) table)
unfolding ended
version-ended table = refl

ended-alike : (last a b : List ℕ) → ended true last a ≡ ended true last b
unfolding ended
ended-alike last a b = go (number_at w32 last)
  where
    number : Option (ℕ × List ℕ) → List ℕ → Option ℕ
    number found before = (found >>= (λ (f : ℕ × List ℕ). beside f.0 before)) >>= (λ (end : ℕ × List ℕ). Some end.0)
      where
        beside : ℕ → List ℕ → Option (ℕ × List ℕ)
        beside n bytes = Some (n, bytes)

    go : (found : Option (ℕ × List ℕ)) → number found a ≡ number found b
    go None = refl
    go (Some found) = refl

version-again : (front table : List ℕ) (v : ℕ) → version_of table ≡ Some v → version_of (front ++ table) ≡ Some v
version-again front table v is =
    let long = version-long table v is in
    let all = front ++ table in
    let fits : nat_le 4 (length table) ≡ true = le-leb 4 (length table) long in
    let fits_all : nat_le 4 (length all) ≡ true = le-leb 4 (length all) (omega (arith, long, length-append front table)) in
    version-ended all
    ∙ ap (λ b. ended b (drop (length all - 4) all) (take (length all - 4) all)) fits_all
    ∙ ap (λ last. ended true last (take (length all - 4) all)) (ends-alike front table 4 long)
    ∙ ended-alike (drop (length table - 4) table) (take (length all - 4) all) (take (length table - 4) table)
    ∙ ap (λ b. ended b (drop (length table - 4) table) (take (length table - 4) table)) (sym fits)
    ∙ sym (version-ended table) ∙ is

-- ---- the whole file

-- so many documents, and these entries
abbrev told_by : ℕ → List (Key × List ℕ) → Postings
told_by n ps = record { documents = n; entries = ps }

whole : (docs : List Doc) → Some (told_by (length docs) (gather docs).entries) ≡ Some (gather docs)
unfolding gather
whole docs = refl

tells-by : (file table : List ℕ) (header : Header) (entries : List (Key × Range ℕ)) (postings : Postings)
    → header_at file ≡ Some (header, table) → sst_of range table ≡ Some entries → postings_of header entries ≡ Some postings → table_of file ≡ Some postings
unfolding table_of
tells-by file table header entries postings read told made =
    ap (λ o. o >>= (λ (parts : Header × List ℕ). sst_of range parts.1 >>= (λ entries. postings_of parts.0 entries))) read ∙ ap (λ o. o >>= (λ entries. postings_of header entries)) told ∙ made

pub is-index : (docs : List Doc) (table : List ℕ) → AreValidDocuments docs → length docs ≤ 2 ^ width_of (length docs) → length (numbers_of_all (gather docs).entries) < 2 ^ 64
    → sst_of range table ≡ Some (ranged 0 (gather docs).entries) → version_of table ≡ Some 3
    → IsReadyIndex docs ((header_bytes (length docs) (length (numbers_of_all (gather docs).entries)) ++ packed (width_of (length docs)) (numbers_of_all (gather docs).entries)) ++ table)
is-index docs table valid few small told version =
    let n = length docs in
    let ps = (gather docs).entries in
    let numbers = numbers_of_all ps in
    let bytes = packed (width_of n) numbers in
    let front = header_bytes n (length numbers) ++ bytes in
    let header = header_of n (length numbers) bytes in
    let read : header_at (front ++ table) ≡ Some (header, table) = header-again n (length numbers) bytes table valid.few small (length-packed (width_of n) numbers) in
    let fit : FitWidth (width_of n) numbers = gathered-fit docs (2 ^ width_of n) few in
    let unpacks : numbers_in header ≡ numbers = ap (unpacked (length numbers) (width_of n)) (sym (append-nil bytes)) ∙ unpacked-packed (width_of n) numbers [] fit in
    let placed : map (with_numbers (numbers_in header)) (ranged 0 ps) ≡ ps = ap (λ ns. map (with_numbers ns) (ranged 0 ps)) unpacks ∙ with-numbers [] 0 ps refl in
    let adjoins : adjoin 0 (length numbers) (map (λ (entry : Key × Range ℕ). entry.1) (ranged 0 ps)) ≡ true = adjoin-ranged 0 (length numbers) ps (gathered-some docs) (omega arith) in
    let made : postings_of header (ranged 0 ps) ≡ Some (gather docs) =
    ap (λ found. provided (adjoin 0 (length numbers) (map (λ (entry : Key × Range ℕ). entry.1) (ranged 0 ps))) >>= (λ _. provided (list_all (is_posting n) found) >>= (λ _. Some (told_by n found)))) placed
    ∙ ap (λ b. provided b >>= (λ _. provided (list_all (is_posting n) ps) >>= (λ _. Some (told_by n ps)))) adjoins
    ∙ ap (λ b. provided b >>= (λ _. Some (told_by n ps))) (gathered-postings docs valid)
    ∙ whole docs in
    let tells : table_of (front ++ table) ≡ Some (gather docs) = tells-by (front ++ table) table header (ranged 0 ps) (gather docs) read told made in
    record {
      index = record { valid = valid; table = tells };
      version = version-again front table 3 version;
    }

pub made-index : {E : Type 0} (r : Result (List ℕ) E) (docs : List Doc) (counted first last : List (Key × List ℕ)) (s0 s1 s2 : List ℕ) (documents count width : ℕ)
    → AreValidDocuments docs → length (numbers_of_all (gather docs).entries) < 2 ^ 64 → counted ≡ (gather docs).entries → first ≡ (gather docs).entries → last ≡ (gather docs).entries → documents ≡ length docs
    → count ≡ length (numbers_of_all counted) → width ≡ width_of documents → documents ≤ 2 ^ width → s0 ≡ [] → s1 ≡ s0 ++ header_bytes documents count → s2 ≡ s1 ++ packed width (numbers_of_all first)
    → IfOk r (λ new. GainsTable (ranged 0 last) s2 new) → IfOk r (λ file. IsReadyIndex docs file)
made-index (Err e) docs counted first last s0 s1 s2 documents count width valid small a b c g h i few j k l gains = tt
made-index (Ok new) docs counted first last s0 s1 s2 documents count width valid small a b c g h i few j k l gains =
    let size : count ≡ length (numbers_of_all (gather docs).entries) = h ∙ ap (λ ps. length (numbers_of_all ps)) a in
    let wide : width ≡ width_of (length docs) = i ∙ ap width_of g in
    let head : s1 ≡ header_bytes (length docs) (length (numbers_of_all (gather docs).entries)) = k ∙ ap (λ s. s ++ header_bytes documents count) j ∙ ap (λ n. header_bytes n count) g ∙ ap (header_bytes (length docs)) size in
    let body : s2 ≡ header_bytes (length docs) (length (numbers_of_all (gather docs).entries)) ++ packed (width_of (length docs)) (numbers_of_all (gather docs).entries) =
    l ∙ ap (λ s. s ++ packed width (numbers_of_all first)) head ∙ ap (λ w. header_bytes (length docs) (length (numbers_of_all (gather docs).entries)) ++ packed w (numbers_of_all first)) wide
    ∙ ap (λ ps. header_bytes (length docs) (length (numbers_of_all (gather docs).entries)) ++ packed (width_of (length docs)) (numbers_of_all ps)) b in
    subst (IsReadyIndex docs) (sym (gains.appended ∙ ap (λ s. s ++ gains.table) body))
    (is-index docs gains.table valid (subst (λ n. n ≤ 2 ^ width_of (length docs)) g (subst (λ w. documents ≤ 2 ^ w) wide few)) small
    (gains.told ∙ ap (λ ps. Some (ranged 0 ps)) c) gains.version)
