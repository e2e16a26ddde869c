-- What the steps of opening a table make of it.
use Rattle.std.proofs.Common.{◌≡◌, ℕ, ◌+◌, ◌-◌, ◌^◌, ◌<◌, ◌≤◌, List, length, take, drop, min, Option, Some, None, Result, Ok, Err, refl, ap, sym, ◌∙◌, subst, arith, ⊎_elim, length-drop, length-take, drop-drop}
use Rattle.std.proofs.lemmas.Bool.{ne_eqb}
use Rattle.std.proofs.lemmas.List.{drop-take, take-take, take_all}
use Rattle.std.specs.Int.{w32}
use Rattle.std.specs.Prelude.{slice_range, is_some, not}
use Rattle.common_wire.specs.Slices.{Span, span_len, part_of}
use Rattle.owned_bytes.specs.Front.{◌>>=◌, provided, number_at}
use Rattle.owned_bytes.specs.Outside.{FileState, IsPart, HasLength, IsRead}
use Rattle.owned_bytes.specs.declared.outside.HandleError.{HandleError}
use Rattle.owned_bytes.specs.declared.outside.HandleError.TheVariants as handle
use Rattle.sstable_values.specs.Codec.{Codec}
use Rattle.sstable_format.specs.Table.{blocks_under, entries_under}
use Rattle.tantivy_sstable.specs.Opened.{Opened}
use Rattle.sstable_format.specs.Version.{is_known}
use Rattle.sstable_format.specs.Table.{index_part_at}
use Rattle.tantivy_sstable.specs.Opening.{table_at, TellsAt, Opens, OpensAt}
use Rattle.sstable_format.specs.Ending.{HasFooter, IsEnding}
use Rattle.sstable_index.specs.Errors.{error_of_handle}
use Rattle.tantivy_sstable.specs.Steps.{ReadsFooter, ReadsIndexAt}
use Rattle.sstable_index.specs.Reading.{ReadsIndex}
use Rattle.sstable_index.specs.Shown.{shown_index}
use Rattle.sstable_index.specs.declared.index.SSTableIndex.{SSTableIndex}
use Rattle.sstable_format.specs.declared.footer.Footer.{Footer}
use Rattle.sstable_index.specs.declared.errors.SstError.{SstError}
use Rattle.sstable_index.specs.declared.errors.SstError.TheVariants.{Memory, Read, Corrupt, Compressed, Version}
use Rattle.sstable_format.proofs.Ends.{at_end-none}
use Rattle.sstable_format.proofs.Endings.{unknown-known, known-known, parts_of-short}
use Rattle.sstable_format.proofs.Parts.{body_of, sst_of-parts_none, found-is, blocks-is}
use Rattle.sstable_index.proofs.Usable.{index-is, no-table, compressed-in}

pub opens-short : {V : Type 0} (codec : Codec V) (contents : Option (List ℕ)) (file : Span) → file.end - file.start < 4 → OpensAt codec contents file (Err Corrupt)
opens-short codec None file short = tt
opens-short codec (Some bytes) file short =
    let table : List ℕ = slice_range bytes file.start file.end in
    let len : length (slice_range bytes file.start file.end) < 4 = omega (arith, short, length-take (file.end - file.start) (drop file.start bytes)) in (
      ap (λ o. is_some ((o >>= (λ (ended : ℕ × List ℕ). Some ended.0)) >>= (λ v. provided (not (is_known v))))) (at_end-none 4 (number_at w32) (slice_range bytes file.start file.end) len),
      sst_of-parts_none codec (slice_range bytes file.start file.end) (parts_of-short (slice_range bytes file.start file.end) (omega (arith, len))),
    )

-- a part of a file's part is a part of the file
pub slice_range-from : (bytes : List ℕ) (start from end : ℕ) → start ≤ from → from ≤ end → drop (from - start) (slice_range bytes start end) ≡ slice_range bytes from end
slice_range-from bytes start from end a b =
    let n : end - start ≡ (from - start) + (end - from) = omega (arith, a, b) in
    let place : start + (from - start) ≡ from = omega (arith, a) in
    ap (λ m. drop (from - start) (take m (drop start bytes))) n ∙ drop-take (from - start) (end - from) (drop start bytes)
    ∙ ap (take (end - from)) (drop-drop (from - start) start bytes ∙ ap (λ m. drop m bytes) place)

pub slice_range-upto : (bytes : List ℕ) (start upto end : ℕ) → start ≤ upto → upto ≤ end → take (upto - start) (slice_range bytes start end) ≡ slice_range bytes start upto
slice_range-upto bytes start upto end a b = take-take (upto - start) (end - start) (drop start bytes) (omega (arith, a, b))

pub length-table : (bytes : List ℕ) (file : Span) → file.start ≤ file.end → file.end ≤ length bytes → length (table_at bytes file) ≡ file.end - file.start
length-table bytes file ordered fits = omega (arith, ordered, fits, length-take (file.end - file.start) (drop file.start bytes), length-drop file.start bytes)

pub ending-of_table : (bytes : List ℕ) (file : Span) (ending : List ℕ) → file.start ≤ file.end → file.end ≤ length bytes
    → ending ≡ slice_range bytes (file.end - min (file.end - file.start) 20) file.end → length ending ≡ min (file.end - file.start) 20
    → drop (file.end - file.start - length ending) (table_at bytes file) ≡ ending
ending-of_table bytes file ending ordered fits is len =
    let place : file.end - file.start - length ending ≡ file.end - min (file.end - file.start) 20 - file.start = omega (arith, ordered, len) in
    ap (λ n. drop n (table_at bytes file)) place
    ∙ slice_range-from bytes file.start (file.end - min (file.end - file.start) 20) file.end (omega (arith, ordered)) (omega (arith, ordered))
    ∙ sym is

-- what the last bytes of a table that were read tell
pub told-of : (state : FileState) (file place : Span) (ending : List ℕ) (k : ℕ) (fact : List ℕ → Type 0) → HasLength state.contents state.size → 4 ≤ span_len file → file.end ≤ state.size
    → k ≡ min (span_len file) 20 → place ≡ part_of file (span_len file - k) (span_len file) → IsRead state place.start place.end ending
    → ((table : List ℕ) → length table ≡ span_len file → IsEnding table ending → fact table) → TellsAt state.contents file fact
told-of state file place ending k fact long room fits is at read all = by state.contents long read.bytes
  where
    len : length ending ≡ min (span_len file) 20
    len = omega (arith, read.len, is, room, ap (λ (s : Span). s.start) at, ap (λ (s : Span). s.end) at)

    by : (contents : Option (List ℕ)) → HasLength contents state.size → IsPart contents place.start place.end ending → TellsAt contents file fact
    by None long part = tt
    by (Some bytes) long part =
        let ordered : file.start ≤ file.end = omega (arith, room) in
        let inside : file.end ≤ length bytes = omega (arith, long, fits) in
        let whole : length (table_at bytes file) ≡ span_len file = length-table bytes file ordered inside in
        let first : place.start ≡ file.end - min (span_len file) 20 = omega (arith, is, room, ap (λ (s : Span). s.start) at) in
        let last : place.end ≡ file.end = omega (arith, room, ap (λ (s : Span). s.end) at) in
        let here = ending-of_table bytes file ending ordered inside (part ∙ ap (λ n. slice_range bytes n place.end) first ∙ ap (λ n. slice_range bytes (file.end - min (span_len file) 20) n) last) len in
        all (table_at bytes file) whole (record {
          room = omega (arith, whole, room);
          len = len ∙ ap (λ n. min n 20) (sym whole);
          last = ap (λ n. drop (n - length ending) (table_at bytes file)) whole ∙ here;
        })

opens-by_footer : {V : Type 0} (codec : Codec V) (bytes table : List ℕ) (e : SstError) → ReadsFooter (Err e) table → Opens codec bytes table (Err e)
opens-by_footer codec bytes table Memory told = tt
opens-by_footer codec bytes table Read told = tt
opens-by_footer codec bytes table Corrupt told = (told.0, sst_of-parts_none codec table told.1)
opens-by_footer codec bytes table (Compressed place) told = absurd told
opens-by_footer codec bytes table (Version version) told = told

pub opens-footer : {V : Type 0} (codec : Codec V) (contents : Option (List ℕ)) (file : Span) (e : SstError) → TellsAt contents file (ReadsFooter (Err e)) → OpensAt codec contents file (Err e)
opens-footer codec None file e told = tt
opens-footer codec (Some bytes) file e told = opens-by_footer codec bytes (table_at bytes file) e told

opens-by_index : {V : Type 0} (codec : Codec V) (bytes table : List ℕ) (footer : Footer) (e : SstError) → HasFooter table footer → length table < 2 ^ 64 → footer.num_terms < 2 ^ 64
    → ReadsIndexAt footer (Err e) table → Opens codec bytes table (Err e)
opens-by_index codec bytes table footer Memory h short few reads = tt
opens-by_index codec bytes table footer Read h short few reads = tt
opens-by_index codec bytes table footer Corrupt h short few reads = (unknown-known table footer.version h.told h.known, no-table codec table footer h short few reads)
opens-by_index codec bytes table footer (Compressed place) h short few reads =
    (known-known table footer.version h.told h.known, no-table codec table footer h short few reads.0, compressed-in table footer place reads.1)
opens-by_index codec bytes table footer (Version version) h short few reads = absurd reads

-- where the index part stands in the file
part-of_table : (bytes : List ℕ) (file : Span) (offset : ℕ) → file.start ≤ file.end → file.end ≤ length bytes → offset + 20 ≤ file.end - file.start
    → slice_range bytes (file.start + offset) (file.end - 20) ≡ drop offset (body_of (table_at bytes file))
part-of_table bytes file offset ordered fits room =
    let body : body_of (table_at bytes file) ≡ slice_range bytes file.start (file.end - 20) =
    ap (λ n. take n (table_at bytes file)) (let n : length (table_at bytes file) - 20 ≡ file.end - 20 - file.start = omega (arith, length-table bytes file ordered fits) in n)
    ∙ slice_range-upto bytes file.start (file.end - 20) file.end (omega (arith, room)) (omega arith) in
    let place : file.start + offset - file.start ≡ offset = omega arith in
    sym (ap (drop offset) body ∙ ap (λ n. drop n (slice_range bytes file.start (file.end - 20))) (sym place)
    ∙ slice_range-from bytes file.start (file.start + offset) (file.end - 20) (omega arith) (omega (arith, room)))

-- what an index part answers where it stands in its table
index-at : (footer : Footer) (result : Result SSTableIndex SstError) (table part : List ℕ) → part ≡ index_part_at footer.index_offset table → ReadsIndex footer part result → ReadsIndexAt footer result table
index-at footer (Ok index) table part is reads = subst (λ (l : List ℕ). ReadsIndex footer l (Ok index)) is reads
index-at footer (Err Memory) table part is reads = tt
index-at footer (Err Read) table part is reads = tt
index-at footer (Err Corrupt) table part is reads = subst (λ (l : List ℕ). ReadsIndex footer l (Err Corrupt)) is reads
index-at footer (Err (Compressed place)) table part is reads = subst (λ (l : List ℕ). ReadsIndex footer l (Err (Compressed place))) is reads
index-at footer (Err (Version version)) table part is reads = absurd reads

pub index-told : (state : FileState) (file place : Span) (part : List ℕ) (footer : Footer) (result : Result SSTableIndex SstError) → HasLength state.contents state.size → file.end ≤ state.size
    → footer.index_offset + 20 ≤ span_len file → place ≡ part_of file footer.index_offset (span_len file - 20) → IsRead state place.start place.end part → ReadsIndex footer part result
    → TellsAt state.contents file (ReadsIndexAt footer result)
index-told state file place part footer result long fits room at read reads = by state.contents long read.bytes
  where
    by : (contents : Option (List ℕ)) → HasLength contents state.size → IsPart contents place.start place.end part → TellsAt contents file (ReadsIndexAt footer result)
    by None long is = tt
    by (Some bytes) long is =
        let ordered : file.start ≤ file.end = omega (arith, room) in
        let last : place.end ≡ file.end - 20 = omega (arith, room, ap (λ (s : Span). s.end) at) in
        let first : place.start ≡ file.start + footer.index_offset = ap (λ (s : Span). s.start) at in
        index-at footer result (table_at bytes file) part
        (is ∙ ap (λ n. slice_range bytes n place.end) first ∙ ap (λ n. slice_range bytes (file.start + footer.index_offset) n) last
        ∙ part-of_table bytes file footer.index_offset ordered (omega (arith, long, fits)) room) reads

pub opens-index : {V : Type 0} (codec : Codec V) (contents : Option (List ℕ)) (file : Span) (footer : Footer) (e : SstError) → file.end < 2 ^ 64 → footer.num_terms < 2 ^ 64
    → TellsAt contents file (ReadsFooter (Ok footer)) → TellsAt contents file (ReadsIndexAt footer (Err e)) → OpensAt codec contents file (Err e)
opens-index codec None file footer e small few told reads = tt
opens-index codec (Some bytes) file footer e small few told reads =
    opens-by_index codec bytes (table_at bytes file) footer e told (omega (arith, small, length-take (file.end - file.start) (drop file.start bytes))) few reads

-- the front of a table stands at the front of its range
front-of_table : (bytes : List ℕ) (file : Span) (offset : ℕ) → file.start ≤ file.end → file.end ≤ length bytes → offset + 20 ≤ file.end - file.start
    → slice_range bytes file.start (file.start + offset) ≡ take offset (body_of (table_at bytes file))
front-of_table bytes file offset ordered fits room =
    let place : file.start + offset - file.start ≡ offset = omega arith in
    sym (take-take offset (length (table_at bytes file) - 20) (table_at bytes file) (omega (arith, room, length-table bytes file ordered fits))
    ∙ ap (λ n. take n (table_at bytes file)) (sym place)
    ∙ slice_range-upto bytes file.start (file.start + offset) file.end (omega arith) (omega (arith, room)))

pub opens-found : {V : Type 0} (codec : Codec V) (contents : Option (List ℕ)) (file front : Span) (footer : Footer) (index : SSTableIndex) (size : ℕ) → HasLength contents size → file.end ≤ size
    → footer.index_offset + 20 ≤ span_len file → TellsAt contents file (ReadsFooter (Ok footer)) → TellsAt contents file (ReadsIndexAt footer (Ok index)) → front ≡ part_of file 0 footer.index_offset
    → OpensAt codec contents file (Ok (record { blocks_range = front; index = shown_index index; num_terms = footer.num_terms }))
opens-found codec None file front footer index size long fits room told reads at = tt
opens-found codec (Some bytes) file front footer index size long fits room told reads at =
    let ordered : file.start ≤ file.end = omega (arith, room) in
    let inside : file.end ≤ length bytes = omega (arith, long, fits) in
    let start : front.start ≡ file.start = omega (arith, ap (λ (s : Span). s.start) at) in
    let end : front.end ≡ file.start + footer.index_offset = ap (λ (s : Span). s.end) at in
    let part : List ℕ = index_part_at footer.index_offset (table_at bytes file) in
    let here : slice_range bytes front.start front.end ≡ take footer.index_offset (body_of (table_at bytes file)) =
    ap (λ n. slice_range bytes n front.end) start ∙ ap (λ n. slice_range bytes file.start n) end ∙ front-of_table bytes file footer.index_offset ordered inside room in (
      known-known (table_at bytes file) footer.version told.told told.known,
      ap (entries_under codec (shown_index index) footer.num_terms) here
          ∙ sym (found-is codec (table_at bytes file) footer (shown_index index) told (index-is footer.version (index_part_at footer.index_offset (table_at bytes file)) (shown_index index) reads.0)),
      ap (blocks_under codec (shown_index index) footer.num_terms) here
          ∙ sym (blocks-is codec (table_at bytes file) footer (shown_index index) told (index-is footer.version (index_part_at footer.index_offset (table_at bytes file)) (shown_index index) reads.0)),
    )

-- a file of these bytes, opened whole
pub opens-whole : {V : Type 0} (codec : Codec V) (contents bytes : List ℕ) (file : Span) (result : Result Opened SstError) → contents ≡ bytes → file.start ≡ 0 → file.end ≡ length contents → OpensAt codec (Some contents) file result → Opens codec bytes bytes result
opens-whole codec contents bytes file result same start end opened =
    let whole : table_at contents file ≡ contents =
    ap (λ n. slice_range contents n file.end) start ∙ ap (λ n. slice_range contents 0 n) end ∙ take_all (length contents - 0) contents (omega arith) in
    subst (λ (l : List ℕ). Opens codec l l result) same (subst (λ (l : List ℕ). Opens codec contents l result) whole opened)

-- a read that failed
pub unread-footer : (contents : Option (List ℕ)) (file : Span) (h : HandleError) (e : SstError) → e ≡ error_of_handle h → TellsAt contents file (ReadsFooter (Err e))
unread-footer None file h e is = tt
unread-footer (Some bytes) file h e is = subst (λ x. ReadsFooter (Err x) (table_at bytes file)) (sym is) (by h)
  where
    by : (h : HandleError) → ReadsFooter (Err (error_of_handle h)) (table_at bytes file)
    by handle.Memory = tt
    by handle.Failed = tt

pub unread-index : (contents : Option (List ℕ)) (file : Span) (footer : Footer) (h : HandleError) (e : SstError) → e ≡ error_of_handle h → TellsAt contents file (ReadsIndexAt footer (Err e))
unread-index None file footer h e is = tt
unread-index (Some bytes) file footer h e is = subst (λ x. ReadsIndexAt footer (Err x) (table_at bytes file)) (sym is) (by h)
  where
    by : (h : HandleError) → ReadsIndexAt footer (Err (error_of_handle h)) (table_at bytes file)
    by handle.Memory = tt
    by handle.Failed = tt
