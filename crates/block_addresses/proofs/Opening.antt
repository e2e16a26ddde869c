-- Metas one after the other, and whether they tell addresses that a table's blocks can have.
use Rattle.std.proofs.Common.{◌≡◌, ◌≢◌, ℕ, zero, suc, ◌*◌, ◌<◌, ◌≤◌, List, [], ◌∷◌, ◌++◌, length, drop, Option, Some, None, Bool, true, false, refl, ap, sym, ◌∙◌, inl, inr, arith, length-drop}
use Rattle.std.specs.Prelude.{◌&&◌, is_some, option_map}
use Rattle.std.proofs.lemmas.Bool.{le-leb, lt-leb, eq-eqb, ne_eqb, cases_lt}
use Rattle.std.proofs.lemmas.List.{drop-drop}
use Rattle.owned_bytes.specs.Front.{◌>>=◌, provided, piece_or_fault, continued, pieces}
unfoldable use Rattle.owned_bytes.specs.Front.{each}
use Rattle.owned_bytes.proofs.Pieces.{pieces-step, bind_some, some_is}
use Rattle.sstable_values.specs.Codec.{Address}
use Rattle.sstable_format.specs.Meta.{Meta, meta_at}
use Rattle.sstable_format.specs.Store.{front_of_metas, addresses_of_meta}
unfoldable use Rattle.sstable_format.specs.Store.{are_filled, joined}
use Rattle.block_addresses.specs.Found.{element_at}
use Rattle.block_addresses.specs.Opened.{told, tells_then, tells_after, ordinal_after, last_ordinal, may_follow, meta_of_group}
unfoldable use Rattle.block_addresses.specs.Opened.{can_follow}
use Rattle.block_addresses.proofs.Metas.{no_metas, front_of_metas-is, metas-shrink, meta_in, meta_at-front, meta_at-short}

-- 36 bytes are a meta, and others follow
pub metas-more : (bytes : List ℕ) → 36 ≤ length bytes → pieces front_of_metas bytes ≡ (pieces front_of_metas (drop 36 bytes) >>= (λ others. Some (meta_in bytes ∷ others.0, others.1)))
metas-more bytes fits =
    pieces-step front_of_metas metas-shrink bytes
    ∙ ap (continued (pieces front_of_metas) bytes) (front_of_metas-is bytes (omega arith) ∙ ap piece_or_fault (meta_at-front bytes fits))

pub metas-short : (bytes : List ℕ) → 0 < length bytes → length bytes < 36 → pieces front_of_metas bytes ≡ None
metas-short bytes some short =
    pieces-step front_of_metas metas-shrink bytes
    ∙ ap (continued (pieces front_of_metas) bytes) (front_of_metas-is bytes some ∙ ap piece_or_fault (meta_at-short bytes short))

nothing : (bytes : List ℕ) → length bytes ≡ 0 → bytes ≡ []
nothing [] none = refl
nothing (b ∷ bytes) none = absurd (omega arith)

pub metas-none : (bytes : List ℕ) → length bytes ≡ 0 → pieces front_of_metas bytes ≡ Some ([], [])
metas-none bytes none = ap (pieces front_of_metas) (nothing bytes none) ∙ no_metas

-- what the first 36 bytes and the others give
pub record Reads (bytes : List ℕ) (m : Meta) (ms : List Meta) (left : List ℕ) : Type 0 where
  pub long : 36 ≤ length bytes
  pub first : meta_in bytes ≡ m
  pub others : pieces front_of_metas (drop 36 bytes) ≡ Some (ms, left)

pair_of : (a b : List Meta × List ℕ) → Some a ≡ Some b → (a.0 ≡ b.0) × (a.1 ≡ b.1)
pair_of a b e = let same : a ≡ b = some_is a b e in (ap (λ (p : List Meta × List ℕ). p.0) same, ap (λ (p : List Meta × List ℕ). p.1) same)

head_is : (m n : Meta) (ms ns : List Meta) → m ∷ ms ≡ n ∷ ns → m ≡ n
head_is m n ms ns e = cc

tail_is : (m n : Meta) (ms ns : List Meta) → m ∷ ms ≡ n ∷ ns → ms ≡ ns
tail_is m n ms ns e = cc

not_empty : (m : Meta) (ms : List Meta) {A : Type 0} → m ∷ ms ≡ [] → A
not_empty m ms e = absurd cc

pub none-read : (bytes left : List ℕ) → pieces front_of_metas bytes ≡ Some ([], left) → length bytes ≡ 0
none-read bytes left e = elim (cases_lt 0 (length bytes)) [
  | inr none ↦ omega (arith, none)
  | inl some ↦ elim (cases_lt (length bytes) 36) [
    | inl short ↦ absurd (let no : None ≡ Some ([], left) = sym (metas-short bytes some short) ∙ e in cc)
    | inr long ↦
        let s = bind_some (pieces front_of_metas (drop 36 bytes)) (λ others. Some (meta_in bytes ∷ others.0, others.1)) ([], left) (sym (metas-more bytes long) ∙ e) in
        not_empty (meta_in bytes) s.0.0 (pair_of _ _ s.2).0
  ]
]

pub some-read : (bytes left : List ℕ) (m : Meta) (ms : List Meta) → pieces front_of_metas bytes ≡ Some (m ∷ ms, left) → Reads bytes m ms left
some-read bytes left m ms e = elim (cases_lt 0 (length bytes)) [
  | inr none ↦ not_empty m ms (pair_of _ _ (sym e ∙ metas-none bytes (omega (arith, none)))).0
  | inl some ↦ elim (cases_lt (length bytes) 36) [
    | inl short ↦ absurd (let no : None ≡ Some (m ∷ ms, left) = sym (metas-short bytes some short) ∙ e in cc)
    | inr long ↦
        let s = bind_some (pieces front_of_metas (drop 36 bytes)) (λ others. Some (meta_in bytes ∷ others.0, others.1)) (m ∷ ms, left) (sym (metas-more bytes long) ∙ e) in
        let same = pair_of _ _ s.2 in
        record {
          long = long;
          first = head_is (meta_in bytes) m s.0.0 ms same.0;
          others = s.1 ∙ ap (λ xs. Some (xs, s.0.1)) (tail_is (meta_in bytes) m s.0.0 ms same.0) ∙ ap (λ rest. Some (ms, rest)) same.1;
        }
  ]
]

-- the meta of a group is the one that was read
pub found-at : (ms : List Meta) (bytes left : List ℕ) (k : ℕ) → pieces front_of_metas bytes ≡ Some (ms, left) → element_at ms k ≡ meta_of_group k bytes
found-at [] bytes left k e =
    let none : length bytes ≡ 0 = none-read bytes left e in
    sym (ap (option_map (λ (found : Meta × List ℕ). found.0)) (meta_at-short (drop (36 * k) bytes) (omega (arith, none, length-drop (36 * k) bytes))))
found-at (m ∷ ms) bytes left zero e =
    let has = some-read bytes left m ms e in
    ap (λ (n : Meta). Some n) (sym has.first) ∙ sym (ap (option_map (λ (found : Meta × List ℕ). found.0)) (meta_at-front bytes has.long))
found-at (m ∷ ms) bytes left (suc k) e =
    let has = some-read bytes left m ms e in
    let next : drop (36 * k) (drop 36 bytes) ≡ drop (36 * suc k) bytes = drop-drop (36 * k) 36 bytes ∙ ap (λ n. drop n bytes) (omega arith) in
    found-at ms (drop 36 bytes) left k has.others ∙ ap (λ rest. option_map (λ (found : Meta × List ℕ). found.0) (meta_at rest)) next

pub metas-length : (ms : List Meta) (bytes left : List ℕ) → pieces front_of_metas bytes ≡ Some (ms, left) → length bytes ≡ 36 * length ms
metas-length [] bytes left e = none-read bytes left e
metas-length (m ∷ ms) bytes left e =
    let has = some-read bytes left m ms e in
    omega (arith, has.long, metas-length ms (drop 36 bytes) left has.others, length-drop 36 bytes)

-- what metas that were read tell
abbrev pub told_of : List ℕ → List Meta → Option (List Address)
told_of packed ms = provided (are_filled ms) >>= (λ _. each (addresses_of_meta packed) ms >>= (λ addresses. Some (joined addresses)))

pub told-none : (bytes packed : List ℕ) → length bytes ≡ 0 → told bytes packed ≡ Some []
unfolding each are_filled joined
told-none bytes packed none = ap (λ o. o >>= (λ (found : List Meta × List ℕ). told_of packed found.0)) (metas-none bytes none)

pub tells-end : (ordinal : ℕ) (bytes packed : List ℕ) → length bytes ≡ 0 → tells_after ordinal bytes packed ≡ true
unfolding can_follow
tells-end ordinal bytes packed none = ap (tells_then (Some ordinal)) (told-none bytes packed none)

pub told-short : (bytes packed : List ℕ) → 0 < length bytes → length bytes < 36 → told bytes packed ≡ None
told-short bytes packed some short = ap (λ o. o >>= (λ (found : List Meta × List ℕ). told_of packed found.0)) (metas-short bytes some short)

told-more : (bytes packed : List ℕ) → 36 ≤ length bytes → told bytes packed ≡ (pieces front_of_metas (drop 36 bytes) >>= (λ others. told_of packed (meta_in bytes ∷ others.0)))
told-more bytes packed long = ap (λ o. o >>= (λ (found : List Meta × List ℕ). told_of packed found.0)) (metas-more bytes long) ∙ by (pieces front_of_metas (drop 36 bytes))
  where
    by : (o : Option (List Meta × List ℕ)) → ((o >>= (λ others. Some (meta_in bytes ∷ others.0, others.1))) >>= (λ (found : List Meta × List ℕ). told_of packed found.0)) ≡ (o >>= (λ others. told_of packed (meta_in bytes ∷ others.0)))
    by None = refl
    by (Some others) = refl

and-assoc : (a b c : Bool) → (a && (b && c)) ≡ ((a && b) && c)
and-assoc true b c = refl
and-assoc false b c = refl

-- addresses one after the other can follow where the later ones can follow the earlier ones
follow-append : (ordinal : ℕ) (xs ys : List Address) → can_follow ordinal (xs ++ ys) ≡ (can_follow ordinal xs && can_follow (last_ordinal ordinal xs) ys)
unfolding can_follow
follow-append ordinal [] ys = refl
follow-append ordinal (x ∷ xs) ys =
    ap (λ t. may_follow ordinal x && t) (follow-append x.first_ordinal xs ys)
    ∙ and-assoc (may_follow ordinal x) (can_follow x.first_ordinal xs) (can_follow (last_ordinal x.first_ordinal xs) ys)

tells-none : (n : Option ℕ) → tells_then n None ≡ false
tells-none None = refl
tells-none (Some n) = refl

tells-joined : (ordinal : ℕ) (first : Option (List Address)) (others : Option (List (List Address))) →
    tells_then (Some ordinal) ((first >>= (λ xs. others >>= (λ lists. Some (xs ∷ lists)))) >>= (λ lists. Some (joined lists))) ≡ tells_then (ordinal_after first ordinal) (others >>= (λ lists. Some (joined lists)))
unfolding joined
tells-joined ordinal None others = refl
tells-joined ordinal (Some xs) None = sym (tells-none (ordinal_after (Some xs) ordinal))
tells-joined ordinal (Some xs) (Some lists) = ap (λ t. is_some (provided t >>= (λ _. Some (xs ++ joined lists)))) (follow-append ordinal xs (joined lists)) ∙ by (can_follow ordinal xs)
  where
    by : (s : Bool) → is_some (provided (s && can_follow (last_ordinal ordinal xs) (joined lists)) >>= (λ _. Some (xs ++ joined lists)))
        ≡ tells_then ((provided s >>= (λ _. Some xs)) >>= (λ addresses. Some (last_ordinal ordinal addresses))) (Some (joined lists))
    by false = refl
    by true = again (can_follow (last_ordinal ordinal xs) (joined lists))
      where
        again : (t : Bool) → is_some (provided t >>= (λ _. Some (xs ++ joined lists))) ≡ is_some (provided t >>= (λ _. Some (joined lists)))
        again true = refl
        again false = refl

tells-filled : (packed : List ℕ) (m : Meta) (ms : List Meta) (ordinal : ℕ) → are_filled (m ∷ ms) ≡ are_filled ms
    → tells_then (Some ordinal) (told_of packed (m ∷ ms)) ≡ tells_then (ordinal_after (addresses_of_meta packed m) ordinal) (told_of packed ms)
unfolding each
tells-filled packed m ms ordinal same =
    ap (λ t. tells_then (Some ordinal) (provided t >>= (λ _. each (addresses_of_meta packed) (m ∷ ms) >>= (λ lists. Some (joined lists))))) same ∙ by (are_filled ms)
  where
    by : (t : Bool) → tells_then (Some ordinal) (provided t >>= (λ _. each (addresses_of_meta packed) (m ∷ ms) >>= (λ lists. Some (joined lists))))
        ≡ tells_then (ordinal_after (addresses_of_meta packed m) ordinal) (provided t >>= (λ _. each (addresses_of_meta packed) ms >>= (λ lists. Some (joined lists))))
    by true = tells-joined ordinal (addresses_of_meta packed m) (each (addresses_of_meta packed) ms)
    by false = sym (tells-none (ordinal_after (addresses_of_meta packed m) ordinal))

filled-same : (bytes : List ℕ) (m : Meta) (ms : List Meta) (left : List ℕ) → 36 ≤ length bytes → pieces front_of_metas (drop 36 bytes) ≡ Some (ms, left)
    → m.block_count ≤ 128 → (36 < length bytes → 128 ≤ m.block_count) → are_filled (m ∷ ms) ≡ are_filled ms
unfolding are_filled
filled-same bytes m [] left long read few full = le-leb m.block_count 128 few
filled-same bytes m (n ∷ ms) left long read few full =
    let more : 36 ≤ length (drop 36 bytes) = (some-read (drop 36 bytes) left n ms read).long in
    let is : m.block_count ≡ 128 = omega (arith, few, full (omega (arith, more, length-drop 36 bytes))) in
    ap (λ t. t && are_filled (n ∷ ms)) (eq-eqb m.block_count 128 is)

-- a meta that speaks of as many blocks as it must, and those behind it
pub tells-next : (ordinal : ℕ) (bytes packed : List ℕ) → 36 ≤ length bytes → (meta_in bytes).block_count ≤ 128 → (36 < length bytes → 128 ≤ (meta_in bytes).block_count)
    → tells_after ordinal bytes packed ≡ tells_then (ordinal_after (addresses_of_meta packed (meta_in bytes)) ordinal) (told (drop 36 bytes) packed)
tells-next ordinal bytes packed long few full = ap (tells_then (Some ordinal)) (told-more bytes packed long) ∙ by (pieces front_of_metas (drop 36 bytes)) refl
  where
    by : (o : Option (List Meta × List ℕ)) → pieces front_of_metas (drop 36 bytes) ≡ o → tells_then (Some ordinal) (o >>= (λ others. told_of packed (meta_in bytes ∷ others.0)))
        ≡ tells_then (ordinal_after (addresses_of_meta packed (meta_in bytes)) ordinal) (o >>= (λ (found : List Meta × List ℕ). told_of packed found.0))
    by None is = sym (tells-none (ordinal_after (addresses_of_meta packed (meta_in bytes)) ordinal))
    by (Some (ms, left)) is = tells-filled packed (meta_in bytes) ms ordinal (filled-same bytes (meta_in bytes) ms left long is few full)

unfilled : (bytes : List ℕ) (m : Meta) (ms : List Meta) (left : List ℕ) → 36 ≤ length bytes → pieces front_of_metas (drop 36 bytes) ≡ Some (ms, left)
    → m.block_count ≢ 128 → (m.block_count < 128 → 36 < length bytes) → are_filled (m ∷ ms) ≡ false
unfolding are_filled
unfilled bytes m [] left long read other more =
    let none : length (drop 36 bytes) ≡ 0 = none-read (drop 36 bytes) left read in
    lt-leb m.block_count 128 (elim (cases_lt m.block_count 128) [
      | inl low ↦ absurd (omega (arith, none, more low, length-drop 36 bytes))
      | inr high ↦ elim (cases_lt 128 m.block_count) [ inl above ↦ above | inr not_above ↦ absurd (other (omega (arith, high, not_above))) ]
    ])
unfilled bytes m (n ∷ ms) left long read other more = ap (λ t. t && are_filled (n ∷ ms)) (ne_eqb m.block_count 128 other)

-- one that doesn't
pub tells-unfilled : (ordinal : ℕ) (bytes packed : List ℕ) → 36 ≤ length bytes → (meta_in bytes).block_count ≢ 128 → ((meta_in bytes).block_count < 128 → 36 < length bytes)
    → tells_after ordinal bytes packed ≡ false
tells-unfilled ordinal bytes packed long other more = ap (tells_then (Some ordinal)) (told-more bytes packed long) ∙ by (pieces front_of_metas (drop 36 bytes)) refl
  where
    by : (o : Option (List Meta × List ℕ)) → pieces front_of_metas (drop 36 bytes) ≡ o → tells_then (Some ordinal) (o >>= (λ others. told_of packed (meta_in bytes ∷ others.0))) ≡ false
    by None is = refl
    by (Some (ms, left)) is =
        ap (λ t. tells_then (Some ordinal) (provided t >>= (λ _. each (addresses_of_meta packed) (meta_in bytes ∷ ms) >>= (λ lists. Some (joined lists))))) (unfilled bytes (meta_in bytes) ms left long is other more)
