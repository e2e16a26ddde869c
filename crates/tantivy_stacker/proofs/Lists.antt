-- What the steps of a write do to a list.
use Rattle.std.proofs.Common.{◌≡◌, ℕ, suc, ◌+◌, ◌-◌, ◌%◌, ◌^◌, ◌<◌, ◌≤◌, ◌⊎◌, inl, inr, min, false, cond, eqb, List, [], ◌∷◌, ◌++◌, length, take, refl, sym, ap, subst, ◌∙◌, arith}
use Rattle.std.specs.Int.{w32, from_le_bytes}
use Rattle.std.proofs.lemmas.List.{append-nil, append_assoc, length-take-le}
use Rattle.std.proofs.lemmas.List.Elements.{All-nil, All-cons, All-append}
use Rattle.std.proofs.lemmas.Bool.{cases_eq, ne_eqb}
use Rattle.std.proofs.Math.Nat.{pow-le-pow_right, mod-eq_of_lt}
use Rattle.tantivy_stacker.specs.declared.expull.ExpUnrolledLinkedList.{ExpUnrolledLinkedList}
use Rattle.tantivy_stacker.specs.Arena.{Arena, Lies, bytes_at, top, Keeps, HandsOut, Writes}
use Rattle.tantivy_stacker.specs.Lists.{block_size, next_block, IsChain, last_block, full_blocks, block_places, block_count, used, bytes_of, places_of, IsLaidOutBy, list_bytes, list_places, IsLaidOut, free_start, free_end, blocks_room, HasNewBlock, Extends}
use Rattle.tantivy_stacker.proofs.Arena.{Lies-top, Keeps-then, Keeps-wider}
use Rattle.tantivy_stacker.proofs.Chains.{Lies-front, Lies-back, bytes_at-split, Keeps-all, Keeps-fresh, last_block-above, last_block-lies, ChainStays, Chain-kept, Chain-grown}

-- ---- a list of no block, and of n + 1 blocks
module _ (a : Arena) (l : ExpUnrolledLinkedList) (none : l.block_num ≡ 2) where
  pub none_count : block_count l ≡ 0
  none_count = omega arith

  pub bytes-none : list_bytes a l ≡ []
  unfolding list_bytes bytes_of
  bytes-none = ap (bytes_of a l) none_count

  pub places-none : list_places a l ≡ []
  unfolding list_places places_of
  places-none = ap (places_of a l) none_count

pub free-none : (l : ExpUnrolledLinkedList) → l.block_num ≡ 2 → (free_start l ≡ 0) × (free_end l ≡ 0)
free-none l e = (ap (λ k. cond (eqb k 2) 0 l.tail) e, ap (λ k. cond (eqb k 2) 0 (l.tail + (l.remaining_cap + 4))) e)

pub free-some : (l : ExpUnrolledLinkedList) (n : ℕ) → l.block_num ≡ n + 3 → (free_start l ≡ l.tail) × (free_end l ≡ l.tail + (l.remaining_cap + 4))
free-some l n e =
    let off : eqb l.block_num 2 ≡ false = ne_eqb l.block_num 2 (λ is. absurd (omega arith)) in
    (ap (λ b. cond b 0 l.tail) off, ap (λ b. cond b 0 (l.tail + (l.remaining_cap + 4))) off)

module _ (a : Arena) (l : ExpUnrolledLinkedList) (n : ℕ) (some : l.block_num ≡ n + 3) where
  pub some_count : block_count l ≡ suc n
  some_count = omega arith

  pub bytes-some : list_bytes a l ≡ full_blocks a 3 l.head n ++ bytes_at a (last_block a 3 l.head n) (used l)
  unfolding list_bytes bytes_of
  bytes-some = ap (bytes_of a l) some_count

  pub places-some : list_places a l ≡ block_places a 3 l.head n
  unfolding list_places places_of
  places-some = ap (places_of a l) some_count

  pub laid-some : IsLaidOut a l → IsChain a 3 l.head n × (l.tail + l.remaining_cap ≡ last_block a 3 l.head n + block_size l.block_num) × (l.remaining_cap ≤ block_size l.block_num)
  unfolding IsLaidOutBy
  laid-some h = subst (IsLaidOutBy a l) some_count h.laid

  some-laid : IsChain a 3 l.head n → l.tail + l.remaining_cap ≡ last_block a 3 l.head n + block_size l.block_num → l.remaining_cap ≤ block_size l.block_num → IsLaidOut a l
  unfolding IsLaidOutBy
  some-laid chain tail rest = record { counted = omega arith; laid = subst (IsLaidOutBy a l) (sym some_count) (chain, tail, rest) }

-- a list has no block, or n + 1
pub cases_blocks : (a : Arena) (l : ExpUnrolledLinkedList) → IsLaidOut a l → (l.block_num ≡ 2) ⊎ ((n : ℕ) × (l.block_num ≡ n + 3))
cases_blocks a l h =
    let counted = h.counted in
    elim (cases_eq l.block_num 2) [ inl e ↦ inl e | inr ne ↦ inr (l.block_num - 3, omega arith) ]

block_bound : (k : ℕ) → k ≤ 15 → 2 ^ k ≤ 32768
block_bound k h = pow-le-pow_right {n = 2} (omega arith) h

pub block_size-bound : (b : ℕ) → block_size b ≤ 32768
unfolding block_size
block_size-bound b = block_bound (min b 15) (omega arith)

-- ---- what stays of a list where nothing changes but its free part
pub record ListStays (old new : Arena) (l : ExpUnrolledLinkedList) : Type 0 where
  pub laid_out : IsLaidOut new l
  pub bytes : list_bytes new l ≡ list_bytes old l
  pub places : list_places new l ≡ list_places old l

pub none_stays : (a b : Arena) (l : ExpUnrolledLinkedList) → l.block_num ≡ 2 → IsLaidOut a l → ListStays a b l
unfolding IsLaidOutBy
none_stays a b l e h =
    let rest : l.remaining_cap ≡ 0 = subst (IsLaidOutBy a l) (none_count a l e) h.laid in
    record {
      laid_out = record { counted = h.counted; laid = subst (IsLaidOutBy b l) (sym (none_count b l e)) rest };
      bytes = bytes-none b l e ∙ sym (bytes-none a l e);
      places = places-none b l e ∙ sym (places-none a l e);
    }

pub some_stays : (a b : Arena) (l : ExpUnrolledLinkedList) (n : ℕ) → l.block_num ≡ n + 3 → IsLaidOut a l → ChainStays a b 3 l.head n → bytes_at b (last_block a 3 l.head n) (used l) ≡ bytes_at a (last_block a 3 l.head n) (used l) → ListStays a b l
some_stays a b l n e h stays bytes =
    let laid = laid-some a l n e h in
    record {
      laid_out = some-laid b l n e stays.chain (laid.1 ∙ ap (λ q. q + block_size l.block_num) (sym stays.last)) laid.2;
      bytes = bytes-some b l n e ∙ (rw (stays.full, stays.last, bytes) refl ∙ sym (bytes-some a l n e));
      places = places-some b l n e ∙ (stays.places ∙ sym (places-some a l n e));
    }

pub list_kept : (a b : Arena) (l : ExpUnrolledLinkedList) → IsLaidOut a l → Keeps a b (free_start l) (free_end l) → ListStays a b l
list_kept a b l h keeps =
    elim (cases_blocks a l h) [
      | inl e ↦ none_stays a b l e h
      | inr w ↦
          (let n = w.0 in
          let e = w.1 in
          let laid = laid-some a l n e h in
          let tail = laid.1 in
          let rest = laid.2 in
          let free = free-some l n e in
          let start = free.0 in
          let q = last_block a 3 l.head n in
          let lies = last_block-lies a n 3 l.head l.block_num (omega arith) laid.0 in
          let bytes = keeps.reads q (used l) (Lies-front (used l) (omega arith) lies) (inl (omega arith)) in
          some_stays a b l n e h (Chain-kept a b (free_start l) (free_end l) keeps n 3 l.head laid.0 (omega arith)) bytes)
    ]

free_join : {s t u e f g : ℕ} → (s ≤ t) × (f ≤ e) → (t ≤ u) × (g ≤ f) → (s ≤ u) × (g ≤ e)
free_join h k = let low = h.0 in let high = h.1 in let low' = k.0 in let high' = k.1 in (omega arith, omega arith)

-- ---- extending by nothing, and one extension after the other
pub Extends-refl : (a : Arena) (l : ExpUnrolledLinkedList) → IsLaidOut a l → Extends a a l l []
Extends-refl a l h = record {
  laid_out = h;
  bytes = sym (append-nil (list_bytes a l));
  places = ([], sym (append-nil (list_places a l)), All-nil _);
  keeps = record { limit = refl; lies = λ p n g. g; reads = λ p n g apart. refl };
  free = inl (omega arith, omega arith);
  end = omega arith;
  spends = refl;
  full = λ k m g. g;
}

pub Extends-then : {a b c : Arena} {l m o : ExpUnrolledLinkedList} {xs ys : List ℕ} → Extends a b l m xs → Extends b c m o ys → Extends a c l o (xs ++ ys)
Extends-then {a} {b} {c} {l} {m} {o} {xs} {ys} f g =
    let rising = f.end in
    let rising' = g.end in
    let spends = f.spends in
    let spends' = g.spends in
    record {
      laid_out = g.laid_out;
      bytes = g.bytes ∙ (ap (λ zs. zs ++ ys) f.bytes ∙ append_assoc (list_bytes a l) xs ys);
      places = (
        f.places.0 ++ g.places.0,
        g.places.1 ∙ (ap (λ zs. zs ++ g.places.0) f.places.1 ∙ append_assoc (list_places a l) f.places.0 g.places.0),
        All-append (λ (r : ℕ × ℕ). top a ≤ r.0) f.places.0 g.places.0 f.places.2 (λ k d h. (let up = g.places.2 k d h in omega arith)),
      );
      keeps = elim f.free [
        | inl inside ↦ Keeps-then f.keeps (Keeps-wider (free_start l) (free_end l) inside.0 inside.1 g.keeps)
        | inr above ↦ Keeps-fresh f.keeps g.keeps above
      ];
      free = elim f.free [
        | inl inside ↦ elim g.free [ inl further ↦ inl (free_join inside further) | inr above ↦ inr (omega arith) ]
        | inr above ↦ elim g.free [ inl further ↦ inr (omega (arith, further.0)) | inr higher ↦ inr (omega arith) ]
      ];
      end = omega arith;
      spends = omega arith;
      full = λ k h full. g.full k h (f.full k h full);
    }

-- ---- one block more
blocks_room-more : (l m : ExpUnrolledLinkedList) → 2 ≤ l.block_num → m.block_num ≡ l.block_num + 1 → blocks_room (block_count m) ≡ blocks_room (block_count l) + (block_size m.block_num + 4)
unfolding blocks_room
blocks_room-more l m counted next =
    let count : block_count m ≡ suc (block_count l) = omega arith in
    let number : block_count l + 3 ≡ m.block_num = omega arith in
    ap blocks_room count ∙ ap (λ b. blocks_room (block_count l) + (block_size b + 4)) number

unused : (m : ExpUnrolledLinkedList) (a : Arena) (p : ℕ) → m.remaining_cap ≡ block_size m.block_num → bytes_at a p (used m) ≡ []
unfolding bytes_at
unused m a p e =
    let none : used m ≡ 0 = omega arith in
    ap (bytes_at a p) none

pub first_block : (a b : Arena) (l m : ExpUnrolledLinkedList) (r : ℕ) → l.block_num ≡ 2 → HasNewBlock l m r r → HandsOut a b r (block_size m.block_num + 4) → Extends a b l m []
unfolding IsChain last_block full_blocks block_places
first_block a b l m r none new out =
    let three : m.block_num ≡ 0 + 3 = (let e = new.number in omega arith) in
    let lies = out.lies in
    let up = out.fresh in
    let spends = out.spends in
    let end = out.end in
    let head = new.head in
    let tail = new.tail in
    let rest = new.rest in
    let start = free-some m 0 three in
    let small = block_size-bound m.block_num in
    let room = blocks_room-more l m (omega arith) new.number in
    let number : block_size m.block_num ≡ block_size 3 = ap block_size (three) in
    let at : Lies b m.head (block_size 3 + 4) = subst (λ p. Lies b p (block_size 3 + 4)) (sym head) (subst (λ k. Lies b r (k + 4)) number lies) in
    record {
      laid_out = some-laid b m 0 three at (omega arith) (omega arith);
      bytes = bytes-some b m 0 three ∙ (unused m b m.head rest ∙ (sym (bytes-none a l none) ∙ sym (append-nil (list_bytes a l))));
      places = ((m.head, block_size 3 + 4) ∷ [], places-some b m 0 three ∙ sym (ap (λ zs. zs ++ (m.head, block_size 3 + 4) ∷ []) (places-none a l none)), All-cons (λ (r : ℕ × ℕ). top a ≤ r.0) (m.head, block_size 3 + 4) [] (omega arith) (All-nil _));
      keeps = Keeps-all out.keeps (free_start l) (free_end l);
      free = inr (omega (arith, start.0));
      end = omega arith;
      spends = omega arith;
      full = λ k h full. out.full k (omega arith) full;
    }

pub next_block_added : (a b c : Arena) (l m : ExpUnrolledLinkedList) (r : ℕ) (bs : List ℕ) → IsLaidOut a l → 2 < l.block_num → l.remaining_cap ≡ 0 → HasNewBlock l m l.head r → HandsOut a b r (block_size m.block_num + 4) → Writes b c l.tail bs → length bs ≡ 4 → from_le_bytes w32 bs ≡ r → Extends a c l m []
unfolding next_block
next_block_added a b c l m r bs h some none new out writes four link =
    let n = l.block_num - 3 in
    let e : l.block_num ≡ n + 3 = omega arith in
    let number = new.number in
    let e' : m.block_num ≡ suc n + 3 = omega arith in
    let laid = laid-some a l n e h in
    let tail = laid.1 in
    let q = last_block a 3 l.head n in
    let lies = last_block-lies a n 3 l.head l.block_num (omega arith) laid.0 in
    let below = Lies-top a q (block_size l.block_num + 4) lies in
    let up = out.fresh in
    let end = out.end in
    let end' = writes.end in
    let spends = out.spends in
    let spends' = writes.spends in
    let rest = new.rest in
    let small = block_size-bound m.block_num in
    let keeps : Keeps a c l.tail (l.tail + length bs) = Keeps-then (Keeps-all out.keeps l.tail (l.tail + length bs)) writes.keeps in
    let here : l.tail ≡ q + block_size l.block_num = omega arith in
    let written : bytes_at c (q + block_size l.block_num) 4 ≡ bs = subst (λ p. bytes_at c p 4 ≡ bs) here (subst (λ k. bytes_at c l.tail k ≡ bs) four writes.written) in
    let linked : next_block c l.block_num q ≡ r = ap (from_le_bytes w32) written ∙ link in
    let m_is : m.block_num ≡ l.block_num + 1 = number in
    let placed : Lies c r (block_size (l.block_num + 1) + 4) = subst (λ k. Lies c r (block_size k + 4)) m_is (writes.keeps.lies r (block_size m.block_num + 4) out.lies) in
    let grown = Chain-grown a c l.tail (l.tail + length bs) r keeps n 3 l.head l.block_num (omega arith) laid.0 (omega arith) linked (omega arith) placed in
    let head : l.head ≡ m.head = sym new.head in
    let chain : IsChain c 3 m.head (suc n) = subst (λ p. IsChain c 3 p (suc n)) head grown.chain in
    let last : last_block c 3 m.head (suc n) ≡ r = subst (λ p. last_block c 3 p (suc n) ≡ r) head grown.last in
    let full : full_blocks c 3 m.head (suc n) ≡ full_blocks a 3 l.head n ++ bytes_at a q (block_size l.block_num) = subst (λ p. full_blocks c 3 p (suc n) ≡ full_blocks a 3 l.head n ++ bytes_at a q (block_size l.block_num)) head grown.full in
    let places : block_places c 3 m.head (suc n) ≡ block_places a 3 l.head n ++ (r, block_size (l.block_num + 1) + 4) ∷ [] = subst (λ p. block_places c 3 p (suc n) ≡ block_places a 3 l.head n ++ (r, block_size (l.block_num + 1) + 4) ∷ []) head grown.places in
    let whole : used l ≡ block_size l.block_num = omega arith in
    let start = free-some m (suc n) e' in
    let start' = free-some l n e in
    let room = blocks_room-more l m (omega arith) number in
    let tail' = new.tail in
    record {
      laid_out = some-laid c m (suc n) e' chain (rw last (omega arith)) (omega arith);
      bytes = bytes-some c m (suc n) e' ∙ (ap (λ zs. full_blocks c 3 m.head (suc n) ++ zs) (unused m c (last_block c 3 m.head (suc n)) rest) ∙ ap (λ zs. zs ++ []) (full ∙ (ap (λ k. full_blocks a 3 l.head n ++ bytes_at a q k) (sym whole) ∙ sym (bytes-some a l n e))));
      places = ((r, block_size (l.block_num + 1) + 4) ∷ [], places-some c m (suc n) e' ∙ (places ∙ ap (λ zs. zs ++ (r, block_size (l.block_num + 1) + 4) ∷ []) (sym (places-some a l n e))), All-cons (λ (r : ℕ × ℕ). top a ≤ r.0) (r, block_size (l.block_num + 1) + 4) [] up (All-nil _));
      keeps = Keeps-wider (free_start l) (free_end l) (omega (arith, start'.0)) (omega (arith, start'.1)) keeps;
      free = inr (omega (arith, start.0));
      end = omega arith;
      spends = omega arith;
      full = λ k g full. writes.full k (out.full k (omega arith) full);
    }

-- a list of no block has no free part
filled_none : (a : Arena) (l : ExpUnrolledLinkedList) → l.block_num ≡ 2 → IsLaidOut a l → {n : ℕ} → 1 ≤ n → n ≤ l.remaining_cap → ⊥
unfolding IsLaidOutBy
filled_none a l e h one fits =
    let rest : l.remaining_cap ≡ 0 = subst (IsLaidOutBy a l) (none_count a l e) h.laid in
    omega arith

-- ---- bytes in the free part
pub filled : (a b : Arena) (l m : ExpUnrolledLinkedList) (ys : List ℕ) → IsLaidOut a l → 1 ≤ length ys → length ys ≤ l.remaining_cap → Writes a b l.tail ys → m.block_num ≡ l.block_num → m.head ≡ l.head → m.tail ≡ l.tail + length ys → m.remaining_cap ≡ l.remaining_cap - length ys → Extends a b l m ys
filled a b l m ys h one fits writes number head tail rest =
    elim (cases_blocks a l h) [
      | inl e ↦ absurd (filled_none a l e h one fits)
      | inr w ↦
          (let n = w.0 in
          let e = w.1 in
          let e' : m.block_num ≡ n + 3 = number ∙ e in
          let laid = laid-some a l n e h in
          let tail_is = laid.1 in
          let rest_is = laid.2 in
          let q = last_block a 3 l.head n in
          let free = free-some l n e in
          let free' = free-some m n e' in
          let lies = last_block-lies a n 3 l.head l.block_num (omega arith) laid.0 in
          let keeps = writes.keeps in
          let stays = Chain-kept a b l.tail (l.tail + length ys) keeps n 3 l.head laid.0 (omega arith) in
          let old_part = keeps.reads q (used l) (Lies-front (used l) (omega arith) lies) (inl (omega arith)) in
          let size : block_size m.block_num ≡ block_size l.block_num = ap block_size number in
          let more : used m ≡ used l + length ys = omega arith in
          let there = keeps.lies q (used l + length ys) (Lies-front (used l + length ys) (omega arith) lies) in
          let at : q + used l ≡ l.tail = omega arith in
          let new_part : bytes_at b (q + used l) (length ys) ≡ ys = subst (λ p. bytes_at b p (length ys) ≡ ys) (sym at) writes.written in
          let last : last_block b 3 m.head n ≡ q = ap (λ p. last_block b 3 p n) head ∙ stays.last in
          let full : full_blocks b 3 m.head n ≡ full_blocks a 3 l.head n = ap (λ p. full_blocks b 3 p n) head ∙ stays.full in
          let places : block_places b 3 m.head n ≡ block_places a 3 l.head n = ap (λ p. block_places b 3 p n) head ∙ stays.places in
          let part : bytes_at b (last_block b 3 m.head n) (used m) ≡ bytes_at a q (used l) ++ ys =
          ap (λ p. bytes_at b p (used m)) last ∙ (ap (bytes_at b q) more ∙ (bytes_at-split b q (used l) (length ys) there (omega arith) ∙ rw (old_part, new_part) refl)) in
          let end = writes.end in
          let spends = writes.spends in
          let same_count : block_count m ≡ block_count l = ap (λ k. k - 2) number in
          let same_room : blocks_room (block_count m) ≡ blocks_room (block_count l) = ap blocks_room same_count in
          record {
            laid_out = some-laid b m n e' (subst (λ p. IsChain b 3 p n) (sym head) stays.chain) (rw last (omega arith)) (omega arith);
            bytes = bytes-some b m n e' ∙ (rw (full, part) (sym (append_assoc (full_blocks a 3 l.head n) (bytes_at a q (used l)) ys) ∙ ap (λ zs. zs ++ ys) (sym (bytes-some a l n e))));
            places = ([], places-some b m n e' ∙ (places ∙ (sym (places-some a l n e) ∙ sym (append-nil (list_places a l)))), All-nil _);
            keeps = Keeps-wider (free_start l) (free_end l) (omega (arith, free.0)) (omega (arith, free.1)) keeps;
            free = inl (omega (arith, free.0, free'.0), omega (arith, free.1, free'.1));
            end = omega arith;
            spends = omega arith;
            full = λ k g full. writes.full k full;
          })
    ]

-- ---- places and numbers that the code meets
pub Lies-small : (a : Arena) (p n : ℕ) → length a.pages ≤ 4096 → Lies a p n → p + n ≤ 2 ^ 32
Lies-small a p n few h =
    let on = h.on_page in
    let fits = h.in_page in
    omega arith

pub has_block : (a : Arena) (l : ExpUnrolledLinkedList) → IsLaidOut a l → 1 ≤ l.remaining_cap → 2 < l.block_num
has_block a l h rest =
    elim (cases_blocks a l h) [ inl e ↦ absurd (filled_none a l e h {n = 1} (omega arith) rest) | inr w ↦ (let e = w.1 in omega arith) ]

pub rest_bound : (a : Arena) (l : ExpUnrolledLinkedList) → IsLaidOut a l → l.remaining_cap ≤ block_size l.block_num
unfolding IsLaidOutBy
rest_bound a l h =
    elim (cases_blocks a l h) [
      | inl e ↦ (let rest : l.remaining_cap ≡ 0 = subst (IsLaidOutBy a l) (none_count a l e) h.laid in omega arith)
      | inr w ↦ (laid-some a l w.0 w.1 h).2
    ]

-- the free part and the address behind it
module _ (a : Arena) (l : ExpUnrolledLinkedList) (h : IsLaidOut a l) (some : 2 < l.block_num) where
  pub free_lies : (k : ℕ) → 1 ≤ k → k ≤ l.remaining_cap + 4 → Lies a l.tail k
  free_lies k one fits =
      let n = l.block_num - 3 in
      let e : l.block_num ≡ n + 3 = omega arith in
      let laid = laid-some a l n e h in
      let tail = laid.1 in
      let rest = laid.2 in
      let q = last_block a 3 l.head n in
      let lies = last_block-lies a n 3 l.head l.block_num (omega arith) laid.0 in
      let at : q + used l ≡ l.tail = omega arith in
      subst (λ p. Lies a p k) at (Lies-back a q (used l) k (Lies-front (used l + k) (omega arith) lies) (omega arith))

  pub free_small : length a.pages ≤ 4096 → l.tail + (l.remaining_cap + 4) ≤ 2 ^ 32
  free_small few = Lies-small a l.tail (l.remaining_cap + 4) few (free_lies (l.remaining_cap + 4) (omega arith) (omega arith))

  pub number_small : length a.pages ≤ 4096 → l.block_num + 1 < 2 ^ 32
  number_small few =
      let n = l.block_num - 3 in
      let e : l.block_num ≡ n + 3 = omega arith in
      let laid = laid-some a l n e h in
      let tail = laid.1 in
      let rest = laid.2 in
      let small = free_small few in
      let above = last_block-above a n 3 l.head laid.0 in
      omega arith

pub fill_step : (a b : Arena) (l : ExpUnrolledLinkedList) (buf : List ℕ) (taken tail : ℕ) → IsLaidOut a l → 1 ≤ taken → taken ≤ length buf → taken ≤ l.remaining_cap → length a.pages ≤ 4096 → Writes a b l.tail (take taken buf) → tail ≡ (l.tail + taken) % 2 ^ 32 → Extends a b l (record { remaining_cap = l.remaining_cap - taken; block_num = l.block_num; head = l.head; tail = tail }) (take taken buf)
fill_step a b l buf taken tail h one short fits few writes tail_is =
    let some = has_block a l h (omega arith) in
    let small = free_small a l h some few in
    let count : length (take taken buf) ≡ taken = length-take-le taken buf short in
    let whole : (l.tail + taken) % 2 ^ 32 ≡ l.tail + taken = mod-eq_of_lt (omega arith) in
    filled a b l (record { remaining_cap = l.remaining_cap - taken; block_num = l.block_num; head = l.head; tail = tail }) (take taken buf) h (omega arith) (omega arith) writes refl refl (omega arith) (omega arith)
