-- A read of a part of a file is one of that part as a file.
use Rattle.std.proofs.Common.{◌≡◌, ℕ, ◌+◌, ◌-◌, ◌≤◌, List, take, drop, slice_range, Option, Some, None, refl, arith, ap, sym, ◌∙◌}
use Rattle.std.proofs.lemmas.List.{drop-take, take-take, drop-drop}
use Rattle.owned_bytes.specs.Outside.{FileState, ReadsFile, IsRead, IsPart}
use Rattle.common_wire.specs.Slices.{part_told, part_state}

-- a part of a part
slice_range-part : (start end from to : ℕ) (bytes : List ℕ) → from ≤ to → to ≤ end - start → slice_range (slice_range bytes start end) from to ≡ slice_range bytes (start + from) (start + to)
slice_range-part start end from to bytes ordered within =
    let more = end - start - from in
    let all : end - start ≡ from + more = omega arith in
    let same : start + to - (start + from) ≡ to - from = omega arith in
    ap (λ n. take (to - from) (drop from (take n (drop start bytes)))) all ∙ ap (take (to - from)) (drop-take from more (drop start bytes))
    ∙ take-take (to - from) more (drop from (drop start bytes)) (omega arith) ∙ ap (take (to - from)) (drop-drop from start bytes) ∙ ap (λ n. take n (drop (start + from) bytes)) (sym same)

IsPart-part : (start end from to : ℕ) (told : Option (List ℕ)) (part : List ℕ) → from ≤ to → to ≤ end - start → IsPart told (start + from) (start + to) part → IsPart (part_told start end told) from to part
IsPart-part start end from to None part ordered within is = tt
IsPart-part start end from to (Some bytes) part ordered within is = is ∙ sym (slice_range-part start end from to bytes ordered within)

pub IsRead-part : (start end from to : ℕ) (file : FileState) (part : List ℕ) → from ≤ to → to ≤ end - start → IsRead file (start + from) (start + to) part → IsRead (part_state start end file) from to part
IsRead-part start end from to file part ordered within is = record {
  bytes = IsPart-part start end from to file.contents part ordered within is.bytes;
  len = omega (arith, is.len);
}

pub ReadsFile-part : (start end : ℕ) (before now : FileState) (P : Type 0) (m n k : ℕ) → n ≡ k → ReadsFile before now P m n → ReadsFile (part_state start end before) (part_state start end now) P m k
ReadsFile-part start end before now P m n k same reads = record {
  leaves = record {
    contents = ap (part_told start end) reads.leaves.contents;
    size = refl;
    cause = reads.leaves.cause;
    reads = reads.leaves.reads;
    fetched = reads.leaves.fetched;
  };
  reads = reads.reads;
  fetched = omega (arith, reads.fetched, same);
}
