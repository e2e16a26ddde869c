-- What the part of the packed numbers that was read gives.
use Rattle.std.proofs.Common.{◌≡◌, ℕ, ◌+◌, ◌-◌, ◌*◌, ◌/◌, ◌%◌, ◌≤◌, ⊎_elim, List, length, take, drop, Option, Some, None, Result, Ok, Err, ap, sym, ◌∙◌, subst, arith, length-take, length-drop}
use Rattle.std.specs.Prelude.{slice_range, IfSome}
use Rattle.owned_bytes.specs.Outside.{FileState, IsPart}
use Rattle.owned_bytes.specs.declared.outside.HandleError.{HandleError}
use Rattle.owned_bytes.proofs.FileReads.{reads-as, reads-none, reads-within}
use Rattle.common_wire.specs.Slices.{ReadsPart}
use Rattle.tantivy_bitpacker.specs.Packed.{bytes_for, unpacked_from}
use Rattle.tantivy_bitpacker.proofs.Unpacking.{length-unpacked_from}
use Rattle.index_file.specs.Header.{width_of, packed_length, numbers_in}
use Rattle.index_reading.specs.declared.open.OpenIndex.{OpenIndex}
use Rattle.index_reading.specs.declared.errors.IndexError.{IndexError}
use Rattle.index_reading.specs.declared.errors.IndexError.TheVariants.{Memory, Read, Corrupt, Compressed, Version}
use Rattle.index_reading.specs.Opened.{header_of, AreNumbers}
use Rattle.index_reading.specs.Numbers.{GivesNumbers, GivesPart}
use Rattle.index_reading.specs.Errors.{error_of_handle}
use Rattle.index_reading.specs.LookUp.{GivesPlaces, ArePlaces, ReadsNumbers}
use Rattle.index_reading.proofs.Rising.{few}
use Rattle.index_reading.proofs.Places.{part-read, bytes-split, bytes-few, bytes-within}
use Rattle.index_reading.proofs.Failures.{unread-by}

length-numbers : (index : OpenIndex) (file : List ℕ) → length (numbers_in (header_of index file)) ≡ index.count
length-numbers index file = length-unpacked_from 0 index.count (width_of index.documents) (header_of index file).packed

-- there are no such places
pub gives-none : (contents : Option (List ℕ)) (index : OpenIndex) (start end : ℕ) → (ArePlaces start end index.count index.documents → ⊥) → IfSome contents (GivesPlaces index start end (Err Corrupt))
gives-none None index start end not_places = tt
gives-none (Some file) index start end not_places = λ ordered within numbers.
    let long = length-numbers index file in
    let rest : length (drop start (numbers_in (header_of index file))) ≡ index.count - start = length-drop start (numbers_in (header_of index file)) ∙ ap (λ n. n - start) long in
    let part : length (take (end - start) (drop start (numbers_in (header_of index file)))) ≡ end - start =
    length-take (end - start) (drop start (numbers_in (header_of index file))) ∙ omega (arith, rest, within, long, ordered) in
    not_places (record { ordered = ordered; within = omega (arith, within, long); few = omega (arith, part, few index.documents (take (end - start) (drop start (numbers_in (header_of index file)))) numbers) })

pub gives-unread : (contents : Option (List ℕ)) (index : OpenIndex) (start end : ℕ) (h : HandleError) (e : IndexError) → e ≡ error_of_handle h → IfSome contents (GivesPlaces index start end (Err e))
gives-unread None index start end h e is = tt
gives-unread (Some file) index start end h e is =
    ⊎_elim (λ memory. subst (λ x. GivesPlaces index start end (Err x) file) (sym memory) tt) (λ read. subst (λ x. GivesPlaces index start end (Err x) file) (sym read) tt) (unread-by h e is)

by_values : (documents : ℕ) (numbers values : List ℕ) (start end : ℕ) (result : Result (List ℕ) IndexError) → values ≡ take (end - start) (drop start numbers)
    → GivesNumbers documents values result → GivesPart documents numbers start end result
by_values documents numbers values start end (Ok given) is gives = (gives.0 ∙ is, gives.1)
by_values documents numbers values start end (Err Memory) is gives = tt
by_values documents numbers values start end (Err Read) is gives = absurd gives
by_values documents numbers values start end (Err Corrupt) is gives = λ ordered within proper. gives (subst (AreNumbers documents) (sym is) proper)
by_values documents numbers values start end (Err (Compressed place)) is gives = absurd gives
by_values documents numbers values start end (Err (Version version)) is gives = absurd gives

pub gives-places : (contents : Option (List ℕ)) (index : OpenIndex) (start end count w from to : ℕ) (part bytes : List ℕ) (result : Result (List ℕ) IndexError)
    → ArePlaces start end index.count index.documents → w ≡ width_of index.documents → count ≡ end - start
    → from ≡ 12 + start / 8 * w → to ≡ 12 + start / 8 * w + bytes_for ((start % 8 + count) * w) → IsPart contents from to part → bytes ≡ part
    → GivesNumbers index.documents (unpacked_from (start % 8) count w bytes) result → IfSome contents (GivesPlaces index start end result)
gives-places None index start end count w from to part bytes result places is_w is_count is_from is_to is_part is_bytes gives = tt
gives-places (Some file) index start end count w from to part bytes result places is_w is_count is_from is_to is_part is_bytes gives =
    let place : bytes ≡ slice_range file (12 + start / 8 * w) (12 + start / 8 * w + bytes_for ((start % 8 + count) * w)) = is_bytes ∙ is_part ∙ (λ i. slice_range file (is_from i) (is_to i)) in
    let plen : bytes_for (index.count * w) ≡ packed_length index.documents index.count = ap (λ n. bytes_for (index.count * n)) is_w in
    let read = part-read file bytes index.count (packed_length index.documents index.count) start count w plen (omega (arith, is_count, places.ordered, places.within)) place in
    by_values index.documents (numbers_in (header_of index file)) (unpacked_from (start % 8) count w bytes) start end result
    (read ∙ ap (λ n. take n (drop start (unpacked_from 0 index.count w (header_of index file).packed))) is_count
    ∙ ap (λ n. take (end - start) (drop start (unpacked_from 0 index.count n (header_of index file).packed))) is_w) gives

pub no-read : (documents : ℕ) (values : List ℕ) (result : Result (List ℕ) IndexError) → GivesNumbers documents values result → result ≡ Err Read → ⊥
no-read documents values result gives is = subst (GivesNumbers documents values) is gives

-- ---- the part lies in the packed numbers

pub part-room : (index : OpenIndex) (start end w size : ℕ) → ArePlaces start end index.count index.documents → w ≡ width_of index.documents → 12 + packed_length index.documents index.count ≤ size
    → 12 + bytes_for ((start + (end - start)) * w) ≤ size
part-room index start end w size places is_w room =
    let within = bytes-within (start + (end - start)) index.count w (omega (arith, places.ordered, places.within)) in
    let whole : bytes_for (index.count * w) ≡ packed_length index.documents index.count = ap (λ n. bytes_for (index.count * n)) is_w in
    omega (arith, within, whole, room)

-- what reading it fetches
pub reads-numbers : (index : OpenIndex) (start end w from to : ℕ) (before now : FileState) (P Q : Type 0) → (Q → P) → ArePlaces start end index.count index.documents → w ≡ width_of index.documents → w ≤ 32
    → from ≡ 12 + start / 8 * w → to ≡ 12 + start / 8 * w + bytes_for ((start % 8 + (end - start)) * w) → ReadsPart before now P (to - from) → ReadsNumbers index (end - start) before now Q
reads-numbers index start end w from to before now P Q as_failed places is_w narrow is_from is_to part =
    let within = bytes-within (start + (end - start)) index.count w (omega (arith, places.ordered, places.within)) in
    let whole : bytes_for (index.count * w) ≡ packed_length index.documents index.count = ap (λ n. bytes_for (index.count * n)) is_w in
    let split = bytes-split start (end - start) w in
    let few = bytes-few start (end - start) w narrow in
    let same : bytes_for ((end - start) * w) ≡ bytes_for ((end - start) * width_of index.documents) = ap (λ n. bytes_for ((end - start) * n)) is_w in
    record {
      reads = reads-within before now Q 1 (to - from) 1 (packed_length index.documents index.count) (reads-as before now P Q 1 (to - from) as_failed part.reads) (omega arith) (omega (arith, within, whole, split, is_from, is_to));
      numbers = omega (arith, part.reads.fetched, few, same, is_from, is_to);
    }

-- nothing is read where there are no such places
pub reads-no_numbers : (index : OpenIndex) (count : ℕ) (file : FileState) (P : Type 0) → (P → ⊥) → ReadsNumbers index count file file P
reads-no_numbers index count file P never =
    record { reads = reads-none file P 1 (packed_length index.documents index.count) never; numbers = omega arith }
