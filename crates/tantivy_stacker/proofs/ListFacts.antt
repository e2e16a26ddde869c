-- The laws of arenas and lists.
use Rattle.std.proofs.Common.{◌≡◌, ℕ, zero, suc, ◌+◌, ◌-◌, ◌*◌, ◌≤◌, inl, inr, min, List, [], refl, sym, ap, subst, ◌∙◌, arith}
use Rattle.std.specs.List.{All}
use Rattle.std.proofs.lemmas.List.Elements.{All-nil, All-cons}
use Rattle.std.proofs.lemmas.Bool.{cases_eq, cases_lt}
use Rattle.std.proofs.Math.Nat.{pow-suc, pow-le-pow_right}
use Rattle.tantivy_stacker.specs.declared.expull.ExpUnrolledLinkedList.{ExpUnrolledLinkedList}
use Rattle.tantivy_stacker.specs.Arena.{Arena, Lies}
use Rattle.tantivy_stacker.specs.Lists.{block_size, next_block, IsChain, last_block, block_places, used, IsLaidOutBy, IsLaidOut, IsEmptyList, list_places, IsApart, KeepsBut, room, room_from, EmptyIsHeld, OthersStay, PlacesLie, LiesBeforeTop, RoomIsBounded, RoomGrows}
use Rattle.tantivy_stacker.proofs.Arena.{Lies-top}
use Rattle.tantivy_stacker.proofs.Chains.{last_block-lies, Lies-front, Chain-apart, IsApart-part}
use Rattle.tantivy_stacker.proofs.Lists.{ListStays, none_stays, some_stays, none_count, bytes-none, places-none, places-some, laid-some, cases_blocks}
use Rattle.tantivy_stacker.proofs.Room.{room-mono, room_from-zero, room_from-some}

pub empty_is_held : EmptyIsHeld
unfolding IsEmptyList IsLaidOutBy
empty_is_held = λ a l e.
    let number = e.1 in
    record {
      held = record { laid_out = record { counted = omega arith; laid = subst (IsLaidOutBy a l) (sym (none_count a l number)) e.0 }; in_use = inl e.0 };
      bytes_are = bytes-none a l number;
      places_are = places-none a l number;
    }

-- the last block is among the places
last_apart : (a : Arena) (changed : List (ℕ × ℕ)) (n b p c : ℕ) → c ≡ b + n → All (λ r. IsApart r.0 r.1 changed) (block_places a b p n) → IsApart (last_block a b p n) (block_size c + 4) changed
unfolding last_block block_places
last_apart a changed zero b p c e apart = subst (λ k. IsApart p (block_size k + 4) changed) (omega arith) (apart 0 (p, block_size b + 4) (omega arith))
last_apart a changed (suc n) b p c e apart = last_apart a changed n (b + 1) (next_block a b p) c (omega arith) (λ k d l. apart (suc k) d (omega arith))

stays : (old new : Arena) (changed : List (ℕ × ℕ)) (l : ExpUnrolledLinkedList) → KeepsBut old new changed → IsLaidOut old l → All (λ r. IsApart r.0 r.1 changed) (list_places old l) → ListStays old new l
stays old new changed l keeps h apart =
    elim (cases_blocks old l h) [
      | inl e ↦ none_stays old new l e h
      | inr w ↦
          (let n = w.0 in
          let e = w.1 in
          let laid = laid-some old l n e h in
          let places = subst (λ rs. All (λ (r : ℕ × ℕ). IsApart r.0 r.1 changed) rs) (places-some old l n e) apart in
          let q = last_block old 3 l.head n in
          let lies = last_block-lies old n 3 l.head l.block_num (omega arith) laid.0 in
          let last = last_apart old changed n 3 l.head l.block_num (omega arith) places in
          let bytes = keeps.reads q (used l) (Lies-front (used l) (omega arith) lies) (IsApart-part q (block_size l.block_num + 4) q (used l) (omega arith) (omega arith) changed last) in
          some_stays old new l n e h (Chain-apart old new changed keeps n 3 l.head laid.0 places) bytes)
    ]

pub others_stay : OthersStay
others_stay = λ old new changed l bytes places keeps h apart.
    let s = stays old new changed l keeps h.held.laid_out (subst (λ rs. All (λ (r : ℕ × ℕ). IsApart r.0 r.1 changed) rs) (sym h.places_are) apart) in
    record {
      held = record { laid_out = s.laid_out; in_use = h.held.in_use };
      bytes_are = s.bytes ∙ h.bytes_are;
      places_are = s.places ∙ h.places_are;
    }

blocks_lie : (a : Arena) (n b p : ℕ) → IsChain a b p n → All (λ (r : ℕ × ℕ). Lies a r.0 r.1) (block_places a b p n)
unfolding IsChain block_places
blocks_lie a zero b p h = All-cons (λ (r : ℕ × ℕ). Lies a r.0 r.1) (p, block_size b + 4) [] h (All-nil _)
blocks_lie a (suc n) b p h = All-cons (λ (r : ℕ × ℕ). Lies a r.0 r.1) (p, block_size b + 4) (block_places a (b + 1) (next_block a b p) n) h.0 (blocks_lie a n (b + 1) (next_block a b p) h.2)

pub places_lie : PlacesLie
places_lie = λ a l bytes places h.
    subst (λ rs. All (λ (r : ℕ × ℕ). Lies a r.0 r.1) rs) h.places_are
    (elim (cases_blocks a l h.held.laid_out) [
      | inl e ↦ subst (λ rs. All (λ (r : ℕ × ℕ). Lies a r.0 r.1) rs) (sym (places-none a l e)) (All-nil _)
      | inr w ↦ subst (λ rs. All (λ (r : ℕ × ℕ). Lies a r.0 r.1) rs) (sym (places-some a l w.0 w.1)) (blocks_lie a w.0 3 l.head (laid-some a l w.0 w.1 h.held.laid_out).0)
    ])

pub lies_before_top : LiesBeforeTop
lies_before_top = Lies-top

pub room_grows : RoomGrows
room_grows = room-mono

-- a block has at most twice the bytes of the one before
doubles : (b : ℕ) → block_size (b + 1) ≤ 2 * block_size b
unfolding block_size
doubles b =
    elim (cases_lt b 15) [
      | inl less ↦
          (let left : min (b + 1) 15 ≡ suc b = omega arith in
          let right : min b 15 ≡ b = omega arith in
          rw (left, right) (omega (arith, pow-suc 2 b)))
      | inr more ↦
          (let left : min (b + 1) 15 ≡ min b 15 = omega arith in
          rw left (omega arith))
    ]

next_big : (b : ℕ) → 8 ≤ block_size b → 8 ≤ block_size (b + 1)
unfolding block_size
next_big b big = (let up = pow-le-pow_right {n = 2} (omega arith) {i = min b 15} {j = min (b + 1) 15} (omega arith) in omega arith)

room_bound : (f b x : ℕ) → 8 ≤ block_size b → x ≤ f → room_from f b x ≤ 3 * x + (block_size b + 4)
room_bound zero b x big h = (let none : x ≡ 0 = omega arith in rw (none, room_from-zero 0 b) (omega arith))
room_bound (suc f) b x big h =
    elim (cases_eq x 0) [
      | inl e ↦ rw (e, room_from-zero (suc f) b) (omega arith)
      | inr ne ↦
          (let here = room_from-some f b x (omega arith) in
          elim (cases_lt (block_size b) x) [
            | inl more ↦
                (let rest = room_bound f (b + 1) (x - block_size b) (next_big b big) (omega arith) in
                let twice = doubles b in
                omega arith)
            | inr fits ↦
                (let none : x - block_size b ≡ 0 = omega arith in
                let rest : room_from f (b + 1) (x - block_size b) ≡ 0 = ap (room_from f (b + 1)) none ∙ room_from-zero f (b + 1) in
                omega arith)
          ])
    ]

first_size : block_size 3 ≡ 8
unfolding block_size
first_size = refl

pub room_is_bounded : RoomIsBounded
unfolding room
room_is_bounded = λ bytes. (let first = first_size in let bound = room_bound bytes 3 bytes (omega arith) (omega arith) in omega arith)
