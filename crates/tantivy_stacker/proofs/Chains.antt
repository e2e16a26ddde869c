-- Chains of blocks: what they keep while other places change, and how they grow.
use Rattle.std.proofs.Common.{◌≡◌, ℕ, zero, suc, ◌+◌, ◌*◌, ◌/◌, ◌%◌, ◌<◌, ◌≤◌, ◌⊎◌, inl, inr, min, List, [], ◌∷◌, ◌++◌, length, take, drop, refl, sym, ap, subst, ◌∙◌, arith, length-drop}
use Rattle.std.specs.Int.{w32, from_le_bytes}
use Rattle.std.specs.List.{All}
use Rattle.std.proofs.lemmas.List.{append-nil, append_assoc, drop-drop, length-take-le}
use Rattle.std.proofs.Math.Seq.{take-add}
use Rattle.std.proofs.lemmas.Nat.{div-mul-add, mod-mul-add, pow_pos}
use Rattle.tantivy_stacker.specs.Arena.{Arena, page_bytes, page, Lies, bytes_at, top, Keeps}
use Rattle.tantivy_stacker.specs.Lists.{block_size, next_block, IsChain, last_block, full_blocks, block_places, IsApart, KeepsBut}
use Rattle.tantivy_stacker.proofs.Arena.{Lies-top}

-- ---- parts of what lies in an arena
pub Lies-front : {a : Arena} {p n : ℕ} (m : ℕ) → m ≤ n → Lies a p n → Lies a p m
Lies-front m le h =
    let on = h.on_page in
    let out = h.handed_out in
    let fits = h.in_page in
    record { on_page = on; handed_out = omega arith; in_page = omega arith }

module _ (a : Arena) (p i m : ℕ) (h : Lies a p (i + m)) (some : 0 < m) where
  back_page : (p + i) / page_bytes ≡ p / page_bytes
  back_page =
      let fits = h.in_page in
      let is : p / page_bytes * page_bytes + (p % page_bytes + i) ≡ p + i = omega arith in
      rw (← is) (div-mul-add (p / page_bytes) page_bytes (p % page_bytes + i) (omega arith))

  back_place : (p + i) % page_bytes ≡ p % page_bytes + i
  back_place =
      let fits = h.in_page in
      let is : p / page_bytes * page_bytes + (p % page_bytes + i) ≡ p + i = omega arith in
      rw (← is) (mod-mul-add (p / page_bytes) page_bytes (p % page_bytes + i) (omega arith))

  pub Lies-back : Lies a (p + i) m
  Lies-back =
      let on = h.on_page in
      let out = h.handed_out in
      let fits = h.in_page in
      record {
        on_page = rw back_page on;
        handed_out = rw (back_page, back_place) (omega arith);
        in_page = rw back_place (omega arith);
      }

  pub bytes_at-split : bytes_at a p (i + m) ≡ bytes_at a p i ++ bytes_at a (p + i) m
  unfolding bytes_at
  bytes_at-split =
      let o = p % page_bytes in
      let xs = page a (p / page_bytes) in
      rw (back_page, back_place) (take-add i m (drop o xs) ∙ ap (λ ys. take i (drop o xs) ++ take m ys) (drop-drop i o xs))

pub bytes_at-length : (a : Arena) (p n : ℕ) → Lies a p n → length (bytes_at a p n) ≡ n
unfolding bytes_at
bytes_at-length a p n h =
    let out = h.handed_out in
    let o = p % page_bytes in
    let xs = page a (p / page_bytes) in
    length-take-le n (drop o xs) (omega (arith, length-drop o xs))

-- ---- places that a call keeps
pub Keeps-all : {a b : Arena} → Keeps a b 0 0 → (start end : ℕ) → Keeps a b start end
Keeps-all f start end = record { limit = f.limit; lies = f.lies; reads = λ p n h _. f.reads p n h (inr (omega arith)) }

-- what changes at or above the top was not handed out before
pub Keeps-fresh : {a b c : Arena} {start end : ℕ} {s e : ℕ} → Keeps a b start end → Keeps b c s e → top a ≤ s → Keeps a c start end
Keeps-fresh {a} f g above = record {
  limit = g.limit ∙ f.limit;
  lies = λ p n h. g.lies p n (f.lies p n h);
  reads = λ p n h apart.
      let below = Lies-top a p n h in
      g.reads p n (f.lies p n h) (inl (omega arith)) ∙ f.reads p n h apart;
}

-- ---- chains
pub block_size-some : (b : ℕ) → 1 ≤ block_size b
unfolding block_size
block_size-some b = pow_pos (min b 15)

pub last_block-above : (a : Arena) (n b p : ℕ) → IsChain a b p n → p + n * 5 ≤ last_block a b p n
unfolding IsChain last_block
last_block-above a zero b p h = omega arith
last_block-above a (suc n) b p h =
    let rest = last_block-above a n (b + 1) (next_block a b p) h.2 in
    let size = block_size-some b in
    let step = h.1 in
    omega arith

-- the last block lies in the arena
pub last_block-lies : (a : Arena) (n b p c : ℕ) → c ≡ b + n → IsChain a b p n → Lies a (last_block a b p n) (block_size c + 4)
unfolding IsChain last_block
last_block-lies a zero b p c e h = subst (λ k. Lies a p (block_size k + 4)) (omega arith) h
last_block-lies a (suc n) b p c e h = last_block-lies a n (b + 1) (next_block a b p) c (omega arith) h.2

-- What stays of a chain of n blocks and a last one.
pub record ChainStays (old new : Arena) (b p n : ℕ) : Type 0 where
  pub chain : IsChain new b p n
  pub last : last_block new b p n ≡ last_block old b p n
  pub full : full_blocks new b p n ≡ full_blocks old b p n
  pub places : block_places new b p n ≡ block_places old b p n

next_stays : (old new : Arena) (b p : ℕ) → bytes_at new (p + block_size b) 4 ≡ bytes_at old (p + block_size b) 4 → next_block new b p ≡ next_block old b p
unfolding next_block
next_stays old new b p e = ap (from_le_bytes w32) e

-- one block more in front
ChainStays-more : (old new : Arena) (b p n : ℕ) → Lies new p (block_size b + 4) → p + (block_size b + 4) ≤ next_block old b p → next_block new b p ≡ next_block old b p → bytes_at new p (block_size b) ≡ bytes_at old p (block_size b) → ChainStays old new (b + 1) (next_block old b p) n → ChainStays old new b p (suc n)
unfolding IsChain last_block full_blocks block_places
ChainStays-more old new b p n lies step next bytes rest = record {
  chain = rw next (lies, step, rest.chain);
  last = rw next rest.last;
  full = rw (next, bytes) (ap (λ ys. bytes_at old p (block_size b) ++ ys) rest.full);
  places = rw next (ap (λ ys. (p, block_size b + 4) ∷ ys) rest.places);
}

-- a chain stays where nothing changes before its last block
pub Chain-kept : (old new : Arena) (s e : ℕ) → Keeps old new s e → (n b p : ℕ) → IsChain old b p n → last_block old b p n ≤ s → ChainStays old new b p n
unfolding IsChain last_block full_blocks block_places
Chain-kept old new s e keeps zero b p h below = record { chain = keeps.lies p (block_size b + 4) h; last = refl; full = refl; places = refl }
Chain-kept old new s e keeps (suc n) b p h below =
    let above = last_block-above old n (b + 1) (next_block old b p) h.2 in
    let step = h.1 in
    let bytes = keeps.reads p (block_size b) (Lies-front (block_size b) (omega arith) h.0) (inl (omega arith)) in
    let link = keeps.reads (p + block_size b) 4 (Lies-back old p (block_size b) 4 h.0 (omega arith)) (inl (omega arith)) in
    ChainStays-more old new b p n (keeps.lies p (block_size b + 4) h.0) h.1 (next_stays old new b p link) bytes (Chain-kept old new s e keeps n (b + 1) (next_block old b p) h.2 below)

-- One more block at the end.
pub record ChainGrows (old new : Arena) (b p n r c : ℕ) : Type 0 where
  pub chain : IsChain new b p (suc n)
  pub last : last_block new b p (suc n) ≡ r
  pub full : full_blocks new b p (suc n) ≡ full_blocks old b p n ++ bytes_at old (last_block old b p n) (block_size c)
  pub places : block_places new b p (suc n) ≡ block_places old b p n ++ (r, block_size (c + 1) + 4) ∷ []

ChainGrows-more : (old new : Arena) (b p n r c : ℕ) → Lies new p (block_size b + 4) → p + (block_size b + 4) ≤ next_block old b p → next_block new b p ≡ next_block old b p → bytes_at new p (block_size b) ≡ bytes_at old p (block_size b) → ChainGrows old new (b + 1) (next_block old b p) n r c → ChainGrows old new b p (suc n) r c
unfolding IsChain last_block full_blocks block_places
ChainGrows-more old new b p n r c lies step next bytes rest = record {
  chain = rw next (lies, step, rest.chain);
  last = rw next rest.last;
  full = rw (next, bytes) (ap (λ ys. bytes_at old p (block_size b) ++ ys) rest.full ∙ sym (append_assoc (bytes_at old p (block_size b)) (full_blocks old (b + 1) (next_block old b p) n) (bytes_at old (last_block old (b + 1) (next_block old b p) n) (block_size c))));
  places = rw next (ap (λ ys. (p, block_size b + 4) ∷ ys) rest.places);
}

pub Chain-grown : (old new : Arena) (s e r : ℕ) → Keeps old new s e → (n b p c : ℕ) → c ≡ b + n → IsChain old b p n → last_block old b p n + block_size c ≤ s → next_block new c (last_block old b p n) ≡ r → last_block old b p n + (block_size c + 4) ≤ r → Lies new r (block_size (c + 1) + 4) → ChainGrows old new b p n r c
unfolding IsChain last_block full_blocks block_places
Chain-grown old new s e r keeps zero b p c same h below link above lies =
    let is : c ≡ b = omega arith in
    let bytes = keeps.reads p (block_size b) (Lies-front (block_size b) (omega arith) h) (inl (subst (λ k. p + block_size k ≤ s) is below)) in
    let next : next_block new b p ≡ r = subst (λ k. next_block new k p ≡ r) is link in
    record {
      chain = rw next (keeps.lies p (block_size b + 4) h, subst (λ k. p + (block_size k + 4) ≤ r) is above, subst (λ k. Lies new r (block_size (k + 1) + 4)) is lies);
      last = next;
      full = append-nil (bytes_at new p (block_size b)) ∙ (bytes ∙ ap (λ k. bytes_at old p (block_size k)) (sym is));
      places = rw next (ap (λ k. (p, block_size b + 4) ∷ (r, block_size (k + 1) + 4) ∷ []) (sym is));
    }
Chain-grown old new s e r keeps (suc n) b p c same h below link above lies =
    let up = last_block-above old n (b + 1) (next_block old b p) h.2 in
    let step = h.1 in
    let bytes = keeps.reads p (block_size b) (Lies-front (block_size b) (omega arith) h.0) (inl (omega arith)) in
    let here = keeps.reads (p + block_size b) 4 (Lies-back old p (block_size b) 4 h.0 (omega arith)) (inl (omega arith)) in
    ChainGrows-more old new b p n r c (keeps.lies p (block_size b + 4) h.0) h.1 (next_stays old new b p here) bytes (Chain-grown old new s e r keeps n (b + 1) (next_block old b p) c (omega arith) h.2 below link above lies)

-- a part of what lies apart lies apart
pub IsApart-part : (p n q m : ℕ) → p ≤ q → q + m ≤ p + n → (places : List (ℕ × ℕ)) → IsApart p n places → IsApart q m places
IsApart-part p n q m lower upper places h =
    λ k d l. elim (h k d l) [ inl before ↦ inl (omega arith) | inr after ↦ inr (omega arith) ]

-- a chain stays where what changes is apart from its places
pub Chain-apart : (old new : Arena) (places : List (ℕ × ℕ)) → KeepsBut old new places → (n b p : ℕ) → IsChain old b p n → All (λ r. IsApart r.0 r.1 places) (block_places old b p n) → ChainStays old new b p n
unfolding IsChain last_block full_blocks block_places
Chain-apart old new places keeps zero b p h apart = record { chain = keeps.lies p (block_size b + 4) h; last = refl; full = refl; places = refl }
Chain-apart old new places keeps (suc n) b p h apart =
    let bytes = keeps.reads p (block_size b) (Lies-front (block_size b) (omega arith) h.0) (IsApart-part p (block_size b + 4) p (block_size b) (omega arith) (omega arith) places (apart 0 (p, block_size b + 4) (omega arith))) in
    let link = keeps.reads (p + block_size b) 4 (Lies-back old p (block_size b) 4 h.0 (omega arith)) (IsApart-part p (block_size b + 4) (p + block_size b) 4 (omega arith) (omega arith) places (apart 0 (p, block_size b + 4) (omega arith))) in
    ChainStays-more old new b p n (keeps.lies p (block_size b + 4) h.0) h.1 (next_stays old new b p link) bytes (Chain-apart old new places keeps n (b + 1) (next_block old b p) h.2 (λ k d l. apart (suc k) d (omega arith)))

-- what is apart from the places is apart from the last block
pub last_block-place : (a : Arena) (n b p c : ℕ) → c ≡ b + n → (q m : ℕ) → IsApart q m (block_places a b p n) → (q + m ≤ last_block a b p n) ⊎ (last_block a b p n + (block_size c + 4) ≤ q)
unfolding last_block block_places
last_block-place a zero b p c e q m apart =
    let same : block_size b ≡ block_size c = ap block_size (omega arith) in
    elim (apart 0 (p, block_size b + 4) (omega arith)) [ inl below ↦ inl below | inr above ↦ inr (omega arith) ]
last_block-place a (suc n) b p c e q m apart = last_block-place a n (b + 1) (next_block a b p) c (omega arith) q m (λ k d l. apart (suc k) d (omega arith))
