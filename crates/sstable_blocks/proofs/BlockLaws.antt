-- Laws of the block at the front of some bytes.
use Rattle.std.proofs.Common.{◌≡◌, ℕ, ◌+◌, ◌-◌, ◌≤◌, List, [], ◌∷◌, length, take, drop, Bool, true, false, cond, Option, Some, None, Ok, Err, refl, ap, sym, ◌∙◌, arith, length-drop, length-take, drop-drop, min}
use Rattle.std.proofs.lemmas.List.{drop-take, take-take}
use Rattle.std.specs.Prelude.{nat_lt, not, ◌==◌}
use Rattle.std.specs.Int.{w32, from_le_bytes}
use Rattle.std.proofs.lemmas.Bool.{ltb-false}
use Rattle.sstable_values.specs.declared.errors.BlockError.{BlockError}
use Rattle.sstable_values.specs.declared.errors.BlockError.TheVariants.{Corrupt, Compressed}
use Rattle.sstable_blocks.specs.Content.{Found, content_after, block_at}

-- a test that found no fault
pub no_fault : (b : Bool) (e : BlockError) (r : Found) (x : Option (List ℕ × List ℕ)) → cond b (Err e) r ≡ Ok x → (b ≡ false) × (r ≡ Ok x)
no_fault true e r x h = absurd cc
no_fault false e r x h = (refl, h)

-- a test that found no end
pub no_end : (b : Bool) (r : Found) (x : List ℕ × List ℕ) → cond b (Ok None) r ≡ Ok (Some x) → (b ≡ false) × (r ≡ Ok (Some x))
no_end true r x h = absurd cc
no_end false r x h = (refl, h)

pub found-is : (x y : List ℕ × List ℕ) → ◌≡◌ {A = Found} (Ok (Some x)) (Ok (Some y)) → x ≡ y
found-is x y h = cc

-- where the content and the rest stand
content-parts : (place len : ℕ) (bytes content rest : List ℕ) → content_after place len bytes ≡ Ok (Some (content, rest))
    → (1 + len ≤ length bytes) × (content ≡ take len (drop 1 bytes)) × (rest ≡ drop len (drop 1 bytes))
content-parts place len [] content rest h = absurd cc
content-parts place len (c ∷ bytes) content rest h =
    let plain = no_fault (c == 1) (Compressed place) _ _ h in
    let zero_byte = no_fault (not (c == 0)) Corrupt _ _ plain.1 in
    let whole = no_fault (nat_lt (length bytes) len) Corrupt _ _ zero_byte.1 in
    let same : (content, rest) ≡ (take len bytes, drop len bytes) = sym (found-is _ _ whole.1) in
    (omega (arith, ltb-false _ _ whole.0), ap (λ (p : List ℕ × List ℕ). p.0) same, ap (λ (p : List ℕ × List ℕ). p.1) same)

pub block-parts : (place : ℕ) (bytes content rest : List ℕ) → block_at place bytes ≡ Ok (Some (content, rest))
    → (5 + length content ≤ length bytes) × (content ≡ take (length content) (drop 5 bytes)) × (rest ≡ drop (5 + length content) bytes)
unfolding block_at
block-parts place bytes content rest h =
    let len = from_le_bytes w32 (take 4 bytes) in
    let some = no_end (length bytes == 0) _ _ h in
    let long = no_fault (nat_lt (length bytes) 4) Corrupt _ _ some.1 in
    let block = no_end (nat_lt len 2) _ _ long.1 in
    let parts = content-parts place (len - 1) (drop 4 bytes) content rest block.1 in
    let enough : 1 + (len - 1) ≤ length bytes - 4 = simp length-drop at parts.0 in
    let fifth : drop 1 (drop 4 bytes) ≡ drop 5 bytes = drop-drop 1 4 bytes in
    let is_content : content ≡ take (len - 1) (drop 5 bytes) = rw fifth at parts.1 in
    let is_rest : rest ≡ drop (len - 1) (drop 5 bytes) = rw fifth at parts.2 in
    let same : length content ≡ len - 1 = ap length is_content ∙ simp (length-take, length-drop) (omega (arith, enough)) in
    (omega (arith, enough, same), rw same is_content, rw same (is_rest ∙ drop-drop (len - 1) 5 bytes))

-- a block lies within the bytes
pub block-within : (bytes content rest : List ℕ) (place next : ℕ) → next ≤ length bytes → block_at place (drop next bytes) ≡ Ok (Some (content, rest))
    → next + (5 + length content) ≤ length bytes
block-within bytes content rest place next h found =
    let parts = block-parts place (drop next bytes) content rest found in
    let within : 5 + length content ≤ length bytes - next = simp length-drop at parts.0 in
    omega (arith, within, h)

-- a reader that goes on to a block
pub goes_on : (bytes content rest : List ℕ) (start next : ℕ) → next ≤ length bytes → block_at (start + next) (drop next bytes) ≡ Ok (Some (content, rest))
    → (block_at (start + next) (drop next bytes) ≡ Ok (Some (take (next + (5 + length content) - (next + 5)) (drop (next + 5) bytes), drop (next + (5 + length content)) bytes)))
    × (next + 5 - (next + 5) ≡ 0)
    × (start + (next + (5 + length content)) ≡ start + next + (5 + length (take (next + (5 + length content) - (next + 5)) (drop (next + 5) bytes))))
goes_on bytes content rest start next h found =
    let parts = block-parts (start + next) (drop next bytes) content rest found in
    let within : 5 + length content ≤ length bytes - next = simp length-drop at parts.0 in
    let len : next + (5 + length content) - (next + 5) ≡ length content = omega arith in
    let is_content : content ≡ take (length content) (drop (next + 5) bytes) = rw (drop-drop 5 next bytes) at parts.1 in
    let is_rest : rest ≡ drop (next + (5 + length content)) bytes = rw (drop-drop (5 + length content) next bytes) at parts.2 in
    let same_len : length (take (length content) (drop (next + 5) bytes)) ≡ length content = ap length (sym is_content) in (
      rw len (found ∙ ap (λ c. Ok (Some (c, rest))) is_content ∙ ap (λ r. Ok (Some (take (length content) (drop (next + 5) bytes), r))) is_rest),
      omega arith,
      rw len (rw same_len (omega arith)),
    )

-- what is left of a block from begin to next, after the bytes up to at
pub unread-is : (begin at next : ℕ) (bytes : List ℕ) → begin ≤ at → at ≤ next → take (next - at) (drop at bytes) ≡ drop (at - begin) (take (next - begin) (drop begin bytes))
unread-is begin at next bytes h k =
    let all : at - begin + (next - at) ≡ next - begin = omega arith in
    let place : begin + (at - begin) ≡ at = omega arith in
    sym (rw (← all) (drop-take (at - begin) (next - at) (drop begin bytes) ∙ ap (take (next - at)) (rw (drop-drop (at - begin) begin bytes, place) refl)))

-- a part of a block from begin to next
pub part-is : (begin next from to : ℕ) (bytes : List ℕ) → from ≤ to → to ≤ length (take (next - begin) (drop begin bytes))
    → take (begin + to - (begin + from)) (drop (begin + from) bytes) ≡ take (to - from) (drop from (take (next - begin) (drop begin bytes)))
part-is begin next from to bytes h k =
    let within : to ≤ min (next - begin) (length bytes - begin) = simp (length-take, length-drop) at k in
    let len : begin + to - (begin + from) ≡ to - from = omega arith in
    let all : from + (next - begin - from) ≡ next - begin = omega (arith, within) in
    let shorter : to - from ≤ next - begin - from = omega (arith, within) in
    rw len (sym (rw (← all) (ap (take (to - from)) (drop-take from (next - begin - from) (drop begin bytes) ∙ ap (take (next - begin - from)) (drop-drop from begin bytes))
    ∙ take-take (to - from) (next - begin - from) (drop (begin + from) bytes) shorter)))
