-- How many bytes the blocks of a list take.
use Rattle.std.proofs.Common.{◌≡◌, ℕ, zero, suc, ◌+◌, ◌-◌, ◌<◌, ◌≤◌, ◌⊎◌, inl, inr, cond, length, refl, ap, ◌∙◌, arith, length-append}
use Rattle.std.proofs.lemmas.Bool.{cases_eq, ne_eqb}
use Rattle.tantivy_stacker.specs.declared.expull.ExpUnrolledLinkedList.{ExpUnrolledLinkedList}
use Rattle.tantivy_stacker.specs.Arena.{Arena, bytes_at}
use Rattle.tantivy_stacker.specs.Lists.{block_size, next_block, IsChain, last_block, full_blocks, block_count, used, IsLaidOut, list_bytes, room_from, room, blocks_room}
use Rattle.tantivy_stacker.proofs.Chains.{block_size-some, last_block-lies, Lies-front, bytes_at-length}
use Rattle.tantivy_stacker.proofs.Lists.{bytes-none, bytes-some, laid-some, none_count, some_count, cases_blocks}

-- the bytes of n full blocks from number b on, and these with an address for each
full_size : ℕ → ℕ → ℕ
full_size b zero = 0
full_size b (suc n) = block_size b + full_size (b + 1) n

chain_room : ℕ → ℕ → ℕ
chain_room b zero = 0
chain_room b (suc n) = block_size b + 4 + chain_room (b + 1) n

chain_room-last : (n b c : ℕ) → c ≡ b + n → chain_room b (suc n) ≡ chain_room b n + (block_size c + 4)
unfolding chain_room
chain_room-last zero b c e = (let same : block_size b ≡ block_size c = ap block_size (omega arith) in omega arith)
chain_room-last (suc n) b c e = (let rest = chain_room-last n (b + 1) c (omega arith) in omega arith)

chain_room-blocks : (n : ℕ) → chain_room 3 n ≡ blocks_room n
unfolding chain_room blocks_room
chain_room-blocks zero = refl
chain_room-blocks (suc n) = (let rest = chain_room-blocks n in let last = chain_room-last n 3 (n + 3) (omega arith) in omega arith)

full_blocks-length : (a : Arena) (n b p : ℕ) → IsChain a b p n → length (full_blocks a b p n) ≡ full_size b n
unfolding full_size IsChain full_blocks
full_blocks-length a zero b p h = refl
full_blocks-length a (suc n) b p h =
    let here = bytes_at-length a p (block_size b) (Lies-front (block_size b) (omega arith) h.0) in
    omega (arith, length-append (bytes_at a p (block_size b)) (full_blocks a (b + 1) (next_block a b p) n), full_blocks-length a n (b + 1) (next_block a b p) h.2)

pub room_from-zero : (f b : ℕ) → room_from f b 0 ≡ 0
unfolding room_from
room_from-zero zero b = refl
room_from-zero (suc f) b = refl

pub room_from-some : (f b x : ℕ) → 1 ≤ x → room_from (suc f) b x ≡ block_size b + 4 + room_from f (b + 1) (x - block_size b)
unfolding room_from
room_from-some f b x h = ap (λ t. cond t 0 (block_size b + 4 + room_from f (b + 1) (x - block_size b))) (ne_eqb x 0 (λ e. absurd (omega arith)))

room-chain : (f n b u : ℕ) → 1 ≤ u → u ≤ block_size (b + n) → full_size b n + u ≤ f → room_from f b (full_size b n + u) ≡ chain_room b (suc n)
unfolding full_size chain_room
room-chain zero n b u one fits fuel = absurd (omega arith)
room-chain (suc f) zero b u one fits fuel =
    let same : block_size (b + 0) ≡ block_size b = ap block_size (omega arith) in
    let whole : 0 + u ≡ u = omega arith in
    let none : u - block_size b ≡ 0 = omega arith in
    ap (room_from (suc f) b) whole ∙ (room_from-some f b u one ∙ ap (λ k. block_size b + 4 + k) (ap (room_from f (b + 1)) none ∙ room_from-zero f (b + 1)))
room-chain (suc f) (suc n) b u one fits fuel =
    let size = block_size-some b in
    let same : block_size (b + suc n) ≡ block_size (b + 1 + n) = ap block_size (omega arith) in
    let less : block_size b + full_size (b + 1) n + u - block_size b ≡ full_size (b + 1) n + u = omega arith in
    let rest = room-chain f n (b + 1) u one (omega arith) (omega arith) in
    room_from-some f b (block_size b + full_size (b + 1) n + u) (omega arith) ∙ ap (λ k. block_size b + 4 + k) (ap (room_from f (b + 1)) less ∙ rest)

room_from-mono : (f g b x y : ℕ) → x ≤ y → x ≤ f → y ≤ g → room_from f b x ≤ room_from g b y
room_from-mono zero g b x y h hf hg = (let none : x ≡ 0 = omega arith in rw (none, room_from-zero 0 b) (omega arith))
room_from-mono (suc f) zero b x y h hf hg = (let none : x ≡ 0 = omega arith in rw (none, room_from-zero (suc f) b) (omega arith))
room_from-mono (suc f) (suc g) b x y h hf hg =
    elim (cases_eq x 0) [
      | inl e ↦ rw (e, room_from-zero (suc f) b) (omega arith)
      | inr ne ↦
          (let size = block_size-some b in
          let rest = room_from-mono f g (b + 1) (x - block_size b) (y - block_size b) (omega arith) (omega arith) (omega arith) in
          let left = room_from-some f b x (omega arith) in
          let right = room_from-some g b y (omega arith) in
          omega arith)
    ]

pub room-mono : (x y : ℕ) → x ≤ y → room x ≤ room y
unfolding room
room-mono x y h = room_from-mono x y 3 x y h (omega arith) (omega arith)

-- the bytes of a list of n + 1 blocks
some_length : (a : Arena) (l : ExpUnrolledLinkedList) (n : ℕ) → l.block_num ≡ n + 3 → IsLaidOut a l → length (list_bytes a l) ≡ full_size 3 n + used l
some_length a l n e h =
    let laid = laid-some a l n e h in
    let lies = last_block-lies a n 3 l.head l.block_num (omega arith) laid.0 in
    let q = last_block a 3 l.head n in
    ap length (bytes-some a l n e) ∙ omega (arith, length-append (full_blocks a 3 l.head n) (bytes_at a q (used l)), full_blocks-length a n 3 l.head laid.0, bytes_at-length a q (used l) (Lies-front (used l) (omega arith) lies))

abbrev InUse : ExpUnrolledLinkedList → Type 0
InUse l = l.remaining_cap ≡ 0 ⊎ l.remaining_cap < block_size l.block_num

none_room : room_from 0 3 0 ≡ blocks_room 0
unfolding room_from blocks_room
none_room = refl

none_more : room_from 0 3 0 < room_from 1 3 1
unfolding room_from
none_more = omega arith

full_size-last : (n b u : ℕ) → u ≡ block_size (b + n) → full_size b n + u ≡ full_size b (suc n)
unfolding full_size
full_size-last zero b u e = (let same : block_size (b + 0) ≡ block_size b = ap block_size (omega arith) in omega arith)
full_size-last (suc n) b u e =
    let same : block_size (b + suc n) ≡ block_size (b + 1 + n) = ap block_size (omega arith) in
    let rest = full_size-last n (b + 1) u (e ∙ same) in
    omega arith

pub room_of_held : (a : Arena) (l : ExpUnrolledLinkedList) → IsLaidOut a l → InUse l → room (length (list_bytes a l)) ≡ blocks_room (block_count l)
unfolding room
room_of_held a l h in_use =
    elim (cases_blocks a l h) [
      | inl e ↦ rw (bytes-none a l e, none_count a l e) (none_room)
      | inr w ↦
          (let n = w.0 in
          let e = w.1 in
          let size = block_size-some l.block_num in
          let some : 1 ≤ used l = elim in_use [ inl none ↦ omega arith | inr less ↦ omega arith ] in
          let number : block_size (3 + n) ≡ block_size l.block_num = ap block_size (omega arith) in
          rw (some_length a l n e h, some_count a l n e) (room-chain (full_size 3 n + used l) n 3 (used l) some (omega arith) (omega arith) ∙ chain_room-blocks (suc n)))
    ]

-- one byte more than a list with no free part takes another block
pub room_of_more : (a : Arena) (l : ExpUnrolledLinkedList) → IsLaidOut a l → l.remaining_cap ≡ 0 → room (length (list_bytes a l)) < room (length (list_bytes a l) + 1)
unfolding room
room_of_more a l h none =
    let held = room_of_held a l h (inl none) in
    elim (cases_blocks a l h) [
      | inl e ↦ rw (bytes-none a l e) (none_more)
      | inr w ↦
          (let n = w.0 in
          let e = w.1 in
          let size = block_size-some l.block_num in
          let number : block_size (3 + n) ≡ block_size l.block_num = ap block_size (omega arith) in
          let count : length (list_bytes a l) ≡ full_size 3 n + used l = some_length a l n e h in
          let whole : full_size 3 n + used l ≡ full_size 3 (suc n) = full_size-last n 3 (used l) (omega arith) in
          let next = room-chain (full_size 3 (suc n) + 1) (suc n) 3 1 (omega arith) (block_size-some (3 + suc n)) (omega arith) in
          let last = chain_room-last (suc n) 3 (3 + suc n) refl in
          let this = chain_room-blocks (suc n) in
          let blocks : blocks_room (block_count l) ≡ blocks_room (suc n) = ap blocks_room (some_count a l n e) in
          let more : room_from (length (list_bytes a l) + 1) 3 (length (list_bytes a l) + 1) ≡ room_from (full_size 3 (suc n) + 1) 3 (full_size 3 (suc n) + 1) = ap (λ k. room_from (k + 1) 3 (k + 1)) (count ∙ whole) in
          omega arith)
    ]
