-- What opening the table of a file tells of the file.
use Rattle.std.proofs.Common.{◌≡◌, ℕ, ◌+◌, ◌-◌, ◌^◌, ◌<◌, ◌≤◌, List, [], length, take, drop, min, Option, Some, None, Ok, Err, true, refl, ap, sym, ◌∙◌, subst, arith, length-take, length-drop, ⊎_elim}
use Rattle.std.proofs.lemmas.List.{take_all}
use Rattle.std.specs.Prelude.{slice_range, unwrap_or, option_map, IfSome}
use Rattle.common_wire.specs.Slices.{Span}
use Rattle.owned_bytes.specs.Front.{◌>>=◌}
use Rattle.owned_bytes.specs.Outside.{HasLength}
use Rattle.sstable_values.specs.Codec.{range}
use Rattle.sstable_format.specs.Table.{sst_of}
use Rattle.tantivy_sstable.specs.Opened.{Opened, entries_in}
use Rattle.sstable_format.specs.Table.{table_blocks, index_part_of}
use Rattle.sstable_format.specs.Version.{version_of}
use Rattle.sstable_format.specs.Refused.{is_compressed_at}
use Rattle.tantivy_sstable.specs.Opening.{OpensAt, FetchesIndex}
use Rattle.tantivy_sstable.specs.Finding.{TellsPlace, TellsPlaceAt}
use Rattle.sstable_format.proofs.Compressed.{compressed-within, compressed-drop, compressed-part as compressed_in_part}
use Rattle.sstable_index.specs.declared.errors.SstError.{SstError}
use Rattle.sstable_index.specs.declared.errors.SstError.TheVariants as tables
use Rattle.index_file.specs.Header.{Header, packed_length}
use Rattle.index_file.specs.IndexFile.{table_of, postings_of}
use Rattle.index_reading.specs.declared.errors.IndexError.{IndexError}
use Rattle.index_reading.specs.declared.errors.IndexError.TheVariants.{Memory, Read, Corrupt, Compressed, Version}
use Rattle.index_reading.specs.Opened.{header_of, postings_in}
use Rattle.index_reading.specs.Errors.{IsReadError, error_of_table}
use Rattle.index_reading.specs.Opening.{Opens, OpensTold, index_part_in}
use Rattle.index_reading.specs.Steps.{ReadsVersion, HasHead, HasTable, header_in}
use Rattle.index_reading.specs.LookUp.{NamesCompressed}
use Rattle.index_reading.proofs.Headers.{header_at-found, header_at-far, header_at-short, damaged-none}
use Rattle.index_reading.proofs.Versions.{version_of-part}

pub slice-whole : (file : List ℕ) (start size : ℕ) → length file ≡ size → slice_range file start size ≡ drop start file
slice-whole file start size long = take_all (size - start) (drop start file) (omega (arith, long, length-drop start file))

-- ---- the file by its table

postings-opened : (file : List ℕ) (documents count start : ℕ) (opened : Opened) → HasTable documents count start file → entries_in range opened file ≡ sst_of range (drop start file)
    → postings_in (record { documents = documents; count = count; dictionary = opened }) file ≡ table_of file
unfolding postings_in table_of
postings-opened file documents count start opened t same =
    ap (λ o. o >>= (λ entries. postings_of (header_of (record { documents = documents; count = count; dictionary = opened }) file) entries)) same
    ∙ sym (ap (λ o. o >>= (λ (parts : Header × List ℕ). sst_of range parts.1 >>= (λ entries. postings_of parts.0 entries))) t.header)

none-by : (file : List ℕ) (documents count start : ℕ) → HasTable documents count start file → sst_of range (drop start file) ≡ None → table_of file ≡ None
unfolding table_of
none-by file documents count start t none =
    ap (λ o. o >>= (λ (parts : Header × List ℕ). sst_of range parts.1 >>= (λ entries. postings_of parts.0 entries))) t.header
    ∙ ap (λ o. o >>= (λ entries. postings_of (header_in documents count file) entries)) none

index_part-by : (file : List ℕ) (documents count start : ℕ) → HasTable documents count start file → index_part_in file ≡ index_part_of (drop start file)
index_part-by file documents count start t = ap (λ o. unwrap_or (option_map (λ (parts : Header × List ℕ). index_part_of parts.1) o) []) t.header

-- ---- the place of a compressed block

pub compressed-part : (file : List ℕ) (start place : ℕ) → length file < 2 ^ 64 → is_compressed_at place (drop start file) ≡ true → is_compressed_at (min (place + start) (2 ^ 64 - 1)) file ≡ true
compressed-part file start place small is =
    let within = compressed-within place (drop start file) is in
    let same : min (place + start) (2 ^ 64 - 1) ≡ start + place = omega (arith, within, small, length-drop start file) in
    ap (λ n. is_compressed_at n file) same ∙ compressed-drop start place file is

-- the same in a part of a file that ends before its end
compressed-slice : (file : List ℕ) (start end place : ℕ) → end < 2 ^ 64 → is_compressed_at place (slice_range file start end) ≡ true → is_compressed_at (min (place + start) (2 ^ 64 - 1)) file ≡ true
compressed-slice file start end place small is =
    let within = compressed-within place (slice_range file start end) is in
    let same : min (place + start) (2 ^ 64 - 1) ≡ start + place = omega (arith, within, small, length-take (end - start) (drop start file)) in
    ap (λ n. is_compressed_at n file) same ∙ compressed_in_part (end - start) start place file is

by_place : (file : List ℕ) (start end : ℕ) (e : SstError) → end < 2 ^ 64 → TellsPlace (slice_range file start end) e → NamesCompressed (Some file) (error_of_table start e)
by_place file start end tables.Memory small tells = tt
by_place file start end tables.Read small tells = tt
by_place file start end tables.Corrupt small tells = tt
by_place file start end (tables.Compressed place) small tells = compressed-slice file start end place small tells
by_place file start end (tables.Version version) small tells = tt

pub names-compressed : (contents : Option (List ℕ)) (span : Span) (start : ℕ) (e : SstError) (error : IndexError) → start ≡ span.start → span.end < 2 ^ 64 → error ≡ error_of_table start e
    → TellsPlaceAt contents span e → NamesCompressed contents error
names-compressed None span start e error begins small is tells = tt
names-compressed (Some file) span start e error begins small is tells =
    subst (NamesCompressed (Some file)) (sym is) (by_place file start span.end e small (subst (λ n. TellsPlace (slice_range file n span.end) e) (sym begins) tells))

-- ---- opening

pub opens-found : (contents : Option (List ℕ)) (documents count start size s : ℕ) (slice : Span) (opened : Opened) → HasLength contents size → s ≡ size → slice.start ≡ start → slice.end ≡ s
    → IfSome contents (HasTable documents count start) → OpensAt range contents slice (Ok opened)
    → OpensTold contents (Ok (record { documents = documents; count = count; dictionary = opened }))
opens-found None documents count start size s slice opened long same begins ends told opens = tt
opens-found (Some file) documents count start size s slice opened long same begins ends t opens =
    let table : slice_range file slice.start slice.end ≡ drop start file = ap (λ n. slice_range file n slice.end) begins ∙ slice-whole file start slice.end (long ∙ sym same ∙ sym ends) in
    record {
      readable = t.version.known;
      postings = postings-opened file documents count start opened t (opens.1 ∙ ap (sst_of range) table);
      blocks = opens.2 ∙ ap (table_blocks range) table ∙ sym (ap (λ o. o >>= (λ (parts : Header × List ℕ). table_blocks range parts.1)) t.header);
    }

refused : (file : List ℕ) (documents count start : ℕ) (table : List ℕ) (e : SstError) → length file < 2 ^ 64 → table ≡ drop start file
    → HasTable documents count start file → OpensAt range (Some file) (record { start = start; end = length file }) (Err e) → Opens file (Err (error_of_table start e))
refused file documents count start table tables.Memory small is t opens = tt
refused file documents count start table tables.Read small is t opens = tt
refused file documents count start table tables.Corrupt small is t opens =
    let same = slice-whole file start (length file) refl in
    record {
      no_other_version = t.version.no_other;
      no_table = none-by file documents count start t (sym (ap (sst_of range) same) ∙ opens.1);
    }
refused file documents count start table (tables.Compressed place) small is t opens =
    let same = slice-whole file start (length file) refl in
    record {
      readable = t.version.known;
      no_table = none-by file documents count start t (sym (ap (sst_of range) same) ∙ opens.1);
      compressed = compressed-part file start place small (sym (ap (is_compressed_at place) same) ∙ opens.2);
    }
refused file documents count start table (tables.Version version) small is t opens =
    let same = slice-whole file start (length file) refl in
    record { told = version_of-part file start version t.fits (sym (ap version_of same) ∙ opens.0); unknown = opens.1 }

pub opens-refused : (contents : Option (List ℕ)) (documents count start size s : ℕ) (slice : Span) (e : SstError) (error : IndexError) → HasLength contents size → s ≡ size → size < 2 ^ 64
    → slice.start ≡ start → slice.end ≡ s → IfSome contents (HasTable documents count start) → OpensAt range contents slice (Err e) → error ≡ error_of_table start e → OpensTold contents (Err error)
opens-refused None documents count start size s slice e error long same small begins ends told opens is = tt
opens-refused (Some file) documents count start size s slice e error long same small begins ends t opens is =
    let at : OpensAt range (Some file) (record { start = start; end = length file }) (Err e) =
    subst (λ (p : ℕ × ℕ). OpensAt range (Some file) (record { start = p.0; end = p.1 }) (Err e)) (λ i. (begins i, (ends ∙ same ∙ sym long) i)) opens in
    subst (λ x. Opens file (Err x)) (sym is) (refused file documents count start (drop start file) e (omega (arith, long, small)) refl t at)

pub fetches-table : (contents : Option (List ℕ)) (documents count start size s before now : ℕ) (slice : Span) → HasLength contents size → s ≡ size → slice.start ≡ start → slice.end ≡ s
    → IfSome contents (HasTable documents count start) → FetchesIndex contents slice before now → IfSome contents (λ file. now ≤ before + (20 + length (index_part_in file)))
fetches-table None documents count start size s before now slice long same begins ends told fetches = tt
fetches-table (Some file) documents count start size s before now slice long same begins ends t fetches =
    let table : slice_range file slice.start slice.end ≡ drop start file = ap (λ n. slice_range file n slice.end) begins ∙ slice-whole file start slice.end (long ∙ sym same ∙ sym ends) in
    subst (λ (part : List ℕ). now ≤ before + (20 + length part)) (ap index_part_of table ∙ sym (index_part-by file documents count start t)) fetches

-- ---- the steps before the table

by_version : (T : Type 0) (file : List ℕ) (e : IndexError) → ReadsVersion {T = T} (Err e) file → Opens file (Err e)
by_version T file Memory told = tt
by_version T file Read told = tt
by_version T file Corrupt told = absurd told
by_version T file (Compressed place) told = absurd told
by_version T file (Version version) told = told

pub opens-version : (T : Type 0) (contents : Option (List ℕ)) (e : IndexError) → IfSome contents (ReadsVersion {T = T} (Err e)) → OpensTold contents (Err e)
opens-version T None e told = tt
opens-version T (Some file) e told = by_version T file e told

pub opens-unread : (contents : Option (List ℕ)) (e : IndexError) → IsReadError e → OpensTold contents (Err e)
opens-unread None e error = tt
opens-unread (Some file) e error = ⊎_elim (λ memory. subst (λ x. Opens file (Err x)) (sym memory) tt) (λ read. subst (λ x. Opens file (Err x)) (sym read) tt) error

pub opens-headless : {T : Type 0} (contents : Option (List ℕ)) (size : ℕ) (x : T) → HasLength contents size → size < 12 → IfSome contents (ReadsVersion (Ok x)) → OpensTold contents (Err Corrupt)
opens-headless None size x long short told = tt
opens-headless (Some file) size x long short version = damaged-none file version.no_other (header_at-short file (omega (arith, long, short)))

pub opens-far : {T : Type 0} (contents : Option (List ℕ)) (size documents count : ℕ) (x : T) → HasLength contents size → 12 ≤ size → size < 12 + packed_length documents count
    → IfSome contents (ReadsVersion (Ok x)) → IfSome contents (HasHead documents count) → OpensTold contents (Err Corrupt)
opens-far None size documents count x long fits far told head = tt
opens-far (Some file) size documents count x long fits far version head =
    damaged-none file version.no_other (header_at-far file documents count head.is_documents head.is_count (omega (arith, long, fits)) (omega (arith, long, far)))

pub has-table : {T : Type 0} (contents : Option (List ℕ)) (size documents count start : ℕ) (x : T) → HasLength contents size → start ≡ 12 + packed_length documents count → start ≤ size
    → IfSome contents (ReadsVersion (Ok x)) → IfSome contents (HasHead documents count) → IfSome contents (HasTable documents count start)
has-table None size documents count start x long begins fits told head = tt
has-table (Some file) size documents count start x long begins fits version head = record {
  version = version;
  header = header_at-found file documents count start head.is_documents head.is_count begins (omega (arith, long, fits));
  fits = omega (arith, long, fits);
}
