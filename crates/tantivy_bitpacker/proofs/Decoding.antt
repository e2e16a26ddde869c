-- A range of packed numbers, decoded piece by piece into a list.
use Rattle.std.proofs.Common.{◌≡◌, ℕ, ◌+◌, ◌-◌, ◌*◌, ◌/◌, ◌%◌, ◌<◌, ◌≤◌, List, [], ◌∷◌, ◌++◌, length, take, drop, set, ap, sym, ◌∙◌, arith, append_assoc, append-nil}
use Rattle.std.proofs.lemmas.List.{take_more_set, take_rest, take_all, drop_all}
use Rattle.std.proofs.lemmas.Nat.{mul-le}
use Rattle.tantivy_bitpacker.specs.Packed.{bits_from, unpacked_from}
use Rattle.tantivy_bitpacker.proofs.Unpacking.{unpacked_from-push, unpacked_from-add, unpacked_from-drop}

pub Decoded-begin : (at first width : ℕ) (old bytes : List ℕ) → take (at + 0) old ≡ take at old ++ unpacked_from first 0 width bytes
unfolding unpacked_from
Decoded-begin at first width old bytes = ap (λ n. take n old) (omega arith) ∙ sym (append-nil (take at old))

-- one more number
pub Decoded-more : (at i first width value place : ℕ) (old out bytes : List ℕ) → take (at + i) out ≡ take at old ++ unpacked_from first i width bytes → at + i < length out → place ≡ (first + i) * width
    → value ≡ bits_from place width bytes → take (at + (i + 1)) (set out (at + i) value) ≡ take at old ++ unpacked_from first (i + 1) width bytes
Decoded-more at i first width value place old out bytes so_far room where_it_is is =
    ap (λ n. take n (set out (at + i) value)) (omega arith) ∙ take_more_set out (at + i) value room ∙ ap (λ l. l ++ value ∷ []) so_far ∙ append_assoc (take at old) (unpacked_from first i width bytes) (value ∷ [])
    ∙ ap (λ v. take at old ++ (unpacked_from first i width bytes ++ v ∷ [])) (is ∙ ap (λ p. bits_from p width bytes) where_it_is) ∙ ap (λ l. take at old ++ l) (sym (unpacked_from-push first i width bytes))

-- one more group of eight, which begins with a whole byte
pub Decoded-group : (at group width : ℕ) (old out next bytes : List ℕ) → take (at + 8 * group) out ≡ take at old ++ unpacked_from 0 (8 * group) width bytes
    → take (at + 8 * group + 8) next ≡ take (at + 8 * group) out ++ unpacked_from 0 8 width (take (length bytes - group * width) (drop (group * width) bytes))
    → take (at + 8 * (group + 1)) next ≡ take at old ++ unpacked_from 0 (8 * (group + 1)) width bytes
Decoded-group at group width old out next bytes so_far more =
    let piece : unpacked_from 0 8 width (take (length bytes - group * width) (drop (group * width) bytes)) ≡ unpacked_from (0 + 8 * group) 8 width bytes =
    ap (unpacked_from 0 8 width) (take_rest bytes (group * width)) ∙ unpacked_from-drop group 0 8 width bytes ∙ ap (λ n. unpacked_from n 8 width bytes) (omega arith) in
    ap (λ n. take n next) (omega arith) ∙ more ∙ ap (λ l. l ++ unpacked_from 0 8 width (take (length bytes - group * width) (drop (group * width) bytes))) so_far
    ∙ append_assoc (take at old) (unpacked_from 0 (8 * group) width bytes) (unpacked_from 0 8 width (take (length bytes - group * width) (drop (group * width) bytes)))
    ∙ ap (λ l. take at old ++ (unpacked_from 0 (8 * group) width bytes ++ l)) piece
    ∙ ap (λ l. take at old ++ l) (sym (unpacked_from-add 0 (8 * group) 8 width bytes)) ∙ ap (λ n. take at old ++ unpacked_from 0 n width bytes) (omega arith)

-- groups that begin at a multiple of eight
pub Decoded-groups : (start from groups width : ℕ) (old out bytes rest : List ℕ) → (start + from) % 8 ≡ 0 → rest ≡ drop ((start + from) / 8 * width) bytes
    → take (from + 8 * groups) out ≡ take from old ++ unpacked_from 0 (8 * groups) width rest
    → take (from + 8 * groups) out ≡ take from old ++ unpacked_from (start + from) (from + 8 * groups - from) width bytes
Decoded-groups start from groups width old out bytes rest whole behind is =
    let first : 8 * ((start + from) / 8) + 0 ≡ start + from = omega arith in
    let count : 8 * groups ≡ from + 8 * groups - from = omega arith in
    is ∙ ap (λ bs. take from old ++ unpacked_from 0 (8 * groups) width bs) behind
    ∙ ap (λ l. take from old ++ l) (unpacked_from-drop ((start + from) / 8) 0 (8 * groups) width bytes ∙ ap (λ n. unpacked_from n (8 * groups) width bytes) first)
    ∙ ap (λ n. take from old ++ unpacked_from (start + from) n width bytes) count

-- they begin within the bytes
pub group_begins-within : (first all width bytes : ℕ) → first ≤ all → all * width ≤ 8 * bytes → first / 8 * width ≤ bytes
group_begins-within first all width bytes le within = omega (arith, mul-le (8 * (first / 8)) width all width (omega arith) (omega arith))

pub Decoded-none : (from first width : ℕ) (old bytes : List ℕ) → take from old ≡ take from old ++ unpacked_from first (from - from) width bytes
unfolding unpacked_from
Decoded-none from first width old bytes = let none : 0 ≡ from - from = omega arith in sym (append-nil (take from old)) ∙ ap (λ n. take from old ++ unpacked_from first n width bytes) none

-- two pieces are one
pub Decoded-then : (start from mid to width : ℕ) (old out next bytes : List ℕ) → from ≤ mid → mid ≤ to → take mid out ≡ take from old ++ unpacked_from (start + from) (mid - from) width bytes
    → take to next ≡ take mid out ++ unpacked_from (start + mid) (to - mid) width bytes → take to next ≡ take from old ++ unpacked_from (start + from) (to - from) width bytes
Decoded-then start from mid to width old out next bytes one two first second =
    let middle : start + mid ≡ start + from + (mid - from) = omega arith in
    let all : mid - from + (to - mid) ≡ to - from = omega arith in
    second ∙ ap (λ l. l ++ unpacked_from (start + mid) (to - mid) width bytes) first ∙ append_assoc (take from old) (unpacked_from (start + from) (mid - from) width bytes) (unpacked_from (start + mid) (to - mid) width bytes)
    ∙ ap (λ n. take from old ++ (unpacked_from (start + from) (mid - from) width bytes ++ unpacked_from n (to - mid) width bytes)) middle
    ∙ ap (λ l. take from old ++ l) (sym (unpacked_from-add (start + from) (mid - from) (to - mid) width bytes)) ∙ ap (λ n. take from old ++ unpacked_from (start + from) n width bytes) all

pub Decoded-all : (start width : ℕ) (old out bytes : List ℕ) → take (length out) out ≡ take 0 old ++ unpacked_from (start + 0) (length out - 0) width bytes → out ≡ unpacked_from start (length out) width bytes
Decoded-all start width old out bytes is =
    sym (take_all (length out) out (omega arith)) ∙ is ∙ ap (λ n. unpacked_from n (length out - 0) width bytes) (omega arith) ∙ ap (λ n. unpacked_from start n width bytes) (omega arith)

-- one more number, at its own place
pub Decoded-next : (start from i width value : ℕ) (old out bytes : List ℕ) → from ≤ i → i < length out → take i out ≡ take from old ++ unpacked_from (start + from) (i - from) width bytes → value ≡ bits_from ((start + i) * width) width bytes
    → take (i + 1) (set out i value) ≡ take from old ++ unpacked_from (start + from) (i + 1 - from) width bytes
Decoded-next start from i width value old out bytes le room so_far is =
    let place : start + i ≡ start + from + (i - from) = omega arith in
    let count : i - from + 1 ≡ i + 1 - from = omega arith in
    take_more_set out i value room ∙ ap (λ l. l ++ value ∷ []) so_far ∙ append_assoc (take from old) (unpacked_from (start + from) (i - from) width bytes) (value ∷ [])
    ∙ ap (λ v. take from old ++ (unpacked_from (start + from) (i - from) width bytes ++ v ∷ [])) (is ∙ ap (λ n. bits_from (n * width) width bytes) place)
    ∙ ap (λ l. take from old ++ l) (sym (unpacked_from-push (start + from) (i - from) width bytes)) ∙ ap (λ n. take from old ++ unpacked_from (start + from) n width bytes) count

-- what a whole slice that was lent leaves in its vector
pub lent_whole : (items new : List ℕ) (n : ℕ) → length new ≡ length items → n ≡ length items → take n (new ++ drop (length new) items) ≡ new
lent_whole items new n same whole =
    ap (λ rest. take n (new ++ rest)) (drop_all (length new) items (omega (arith, same))) ∙ ap (take n) (append-nil new) ∙ take_all n new (omega (arith, same, whole))
