-- A list while it is read.
use Rattle.std.proofs.Common.{◌≡◌, ℕ, zero, suc, ◌+◌, ◌-◌, ◌%◌, ◌^◌, ◌<◌, ◌≤◌, List, [], ◌++◌, length, refl, sym, ap, subst, ◌∙◌, arith, cond, Result, Ok, Err, OnOk}
use Rattle.std.specs.Result.{is_ok}
use Rattle.std.specs.Int.{w32, from_le_bytes}
use Rattle.std.proofs.lemmas.List.{append-nil, append_assoc}
use Rattle.std.proofs.Math.Nat.{mod-eq_of_lt}
use Rattle.tantivy_stacker.specs.declared.expull.ExpUnrolledLinkedList.{ExpUnrolledLinkedList}
use Rattle.tantivy_stacker.specs.Arena.{Arena, Lies, bytes_at}
use Rattle.tantivy_stacker.specs.Lists.{block_size, next_block, IsChain, last_block, full_blocks, used, IsLaidOut, list_bytes}
use Rattle.tantivy_stacker.proofs.Chains.{Lies-front, Lies-back, last_block-lies}
use Rattle.tantivy_stacker.proofs.Lists.{bytes-none, bytes-some, laid-some, Lies-small}

-- Before block b at address p: the rest of the chain, and what the output holds.
pub record IsReading (a : Arena) (l : ExpUnrolledLinkedList) (b p : ℕ) (before output : List ℕ) : Type 0 where
  pub within : b ≤ l.block_num
  pub first : 3 ≤ b
  pub chain : IsChain a b p (l.block_num - b)
  pub last : last_block a b p (l.block_num - b) ≡ last_block a 3 l.head (l.block_num - 3)
  pub bytes : output ++ full_blocks a b p (l.block_num - b) ≡ before ++ full_blocks a 3 l.head (l.block_num - 3)
  pub kept : (part : List ℕ) × (output ≡ before ++ part)

pub nothing_read : (a : Arena) (l : ExpUnrolledLinkedList) (before : List ℕ) → l.block_num ≡ 2 → before ≡ before ++ list_bytes a l
nothing_read a l before e = sym (append-nil before) ∙ ap (λ zs. before ++ zs) (sym (bytes-none a l e))

module _ (a : Arena) (l : ExpUnrolledLinkedList) (before : List ℕ) (h : IsLaidOut a l) (some : 2 < l.block_num) where
  number : l.block_num ≡ l.block_num - 3 + 3
  number = omega arith

  pub reading_begin : IsReading a l 3 l.head before before
  reading_begin = record { within = omega arith; first = omega arith; chain = (laid-some a l (l.block_num - 3) number h).0; last = refl; bytes = refl; kept = ([], sym (append-nil before)) }

  -- the last block
  pub end_lies : (b p : ℕ) (output : List ℕ) → IsReading a l b p before output → b ≡ l.block_num → Lies a p (used l)
  unfolding last_block
  end_lies b p output s e =
      let none : l.block_num - b ≡ zero = omega arith in
      let lies = last_block-lies a (l.block_num - b) b p l.block_num (omega arith) s.chain in
      let here : last_block a b p (l.block_num - b) ≡ p = ap (last_block a b p) none in
      Lies-front (used l) (omega arith) (subst (λ q. Lies a q (block_size l.block_num + 4)) here lies)

  pub end_bytes : (b p : ℕ) (output : List ℕ) → IsReading a l b p before output → b ≡ l.block_num → output ++ bytes_at a p (used l) ≡ before ++ list_bytes a l
  unfolding last_block full_blocks
  end_bytes b p output s e =
      let none : l.block_num - b ≡ zero = omega arith in
      let here : last_block a b p (l.block_num - b) ≡ p = ap (last_block a b p) none in
      let q = last_block a 3 l.head (l.block_num - 3) in
      let at : p ≡ q = sym here ∙ s.last in
      let all : output ≡ before ++ full_blocks a 3 l.head (l.block_num - 3) = sym (append-nil output) ∙ (ap (λ n. output ++ full_blocks a b p n) (sym none) ∙ s.bytes) in
      ap (λ zs. zs ++ bytes_at a p (used l)) all ∙ (append_assoc before (full_blocks a 3 l.head (l.block_num - 3)) (bytes_at a p (used l)) ∙ ap (λ zs. before ++ zs) (ap (λ r. full_blocks a 3 l.head (l.block_num - 3) ++ bytes_at a r (used l)) at ∙ sym (bytes-some a l (l.block_num - 3) number)))

pub kept_more : (before output : List ℕ) → (part : List ℕ) × (output ≡ before ++ part) → (more : List ℕ) → (part : List ℕ) × (output ++ more ≡ before ++ part)
kept_more before output kept more = (kept.0 ++ more, ap (λ zs. zs ++ more) kept.1 ∙ append_assoc before kept.0 more)

-- a block that is not the last one
module _ (a : Arena) (l : ExpUnrolledLinkedList) (b p : ℕ) (before output : List ℕ) (s : IsReading a l b p before output) (inner : b < l.block_num) where
  hops : l.block_num - b ≡ suc (l.block_num - (b + 1))
  hops = omega arith

  opened : Lies a p (block_size b + 4) × (p + (block_size b + 4) ≤ next_block a b p) × IsChain a (b + 1) (next_block a b p) (l.block_num - (b + 1))
  unfolding IsChain
  opened = subst (IsChain a b p) hops s.chain

  pub block_lies : Lies a p (block_size b)
  block_lies = Lies-front (block_size b) (omega arith) opened.0

  pub link_place : length a.pages ≤ 4096 → (p + block_size b) % 2 ^ 32 ≡ p + block_size b
  link_place few = (let small = Lies-small a p (block_size b + 4) few opened.0 in mod-eq_of_lt (omega arith))

  pub link_lies : (q : ℕ) → length a.pages ≤ 4096 → q ≡ (p + block_size b) % 2 ^ 32 → Lies a q 4
  link_lies q few is = rw (is, link_place few) (Lies-back a p (block_size b) 4 opened.0 (omega arith))

  pub reading_more : (q r : ℕ) → length a.pages ≤ 4096 → q ≡ (p + block_size b) % 2 ^ 32 → r ≡ from_le_bytes w32 (bytes_at a q 4) → IsReading a l (b + 1) r before (output ++ bytes_at a p (block_size b))
  unfolding next_block last_block full_blocks
  reading_more q r few q_is r_is =
      let first = s.first in
      let at : r ≡ next_block a b p = r_is ∙ ap (λ k. from_le_bytes w32 (bytes_at a k 4)) (q_is ∙ link_place few) in
      let rest = l.block_num - (b + 1) in
      let last : last_block a (b + 1) (next_block a b p) rest ≡ last_block a 3 l.head (l.block_num - 3) = ap (last_block a b p) (sym hops) ∙ s.last in
      let bytes : output ++ (bytes_at a p (block_size b) ++ full_blocks a (b + 1) (next_block a b p) rest) ≡ before ++ full_blocks a 3 l.head (l.block_num - 3) = ap (λ n. output ++ full_blocks a b p n) (sym hops) ∙ s.bytes in
      rw at (record {
        within = omega arith;
        first = omega arith;
        chain = opened.2;
        last = last;
        bytes = append_assoc output (bytes_at a p (block_size b)) (full_blocks a (b + 1) (next_block a b p) rest) ∙ bytes;
        kept = kept_more before output s.kept (bytes_at a p (block_size b));
      })

-- what the last append leaves
pub last_read : {E : Type 0} (r : Result (Unit {0}) E) (new output piece all : List ℕ) → new ≡ cond (is_ok r) (output ++ piece) output → output ++ piece ≡ all → OnOk r (new ≡ all)
last_read (Ok x) new output piece all items whole = items ∙ whole
last_read (Err e) new output piece all items whole = tt

pub last_kept : {E : Type 0} (r : Result (Unit {0}) E) (new before output piece : List ℕ) → new ≡ cond (is_ok r) (output ++ piece) output → (part : List ℕ) × (output ≡ before ++ part) → (part : List ℕ) × (new ≡ before ++ part)
last_kept (Ok x) new before output piece items kept = (let more = kept_more before output kept piece in (more.0, items ∙ more.1))
last_kept (Err e) new before output piece items kept = (kept.0, items ∙ kept.1)
