-- Single addresses of an open store, and how many there are.
use Rattle.std.proofs.Common.{◌≡◌, ℕ, zero, suc, ◌+◌, ◌-◌, ◌*◌, ◌/◌, ◌%◌, ◌<◌, ◌≤◌, List, [], ◌∷◌, ◌++◌, length, take, drop, get_or, Option, Some, None, Bool, true, false, refl, ap, sym, ◌∙◌, arith, length-append, subst}
use Rattle.std.specs.Prelude.{nat_le, ◌&&◌, ◌==◌, is_some, option_map, IfSome}
use Rattle.std.specs.Int.{w64, from_le_bytes}
use Rattle.std.proofs.lemmas.Bool.{lt-leb, leb-true, eqb-true, false≢true}
use Rattle.owned_bytes.specs.Front.{◌>>=◌, provided, number_at, bytes_at, pieces}
unfoldable use Rattle.owned_bytes.specs.Front.{each}
use Rattle.owned_bytes.proofs.Pieces.{bind_some, some_is, bytes_at-front, provided-true}
use Rattle.sstable_values.specs.Codec.{Address}
use Rattle.sstable_format.specs.Meta.{Meta}
use Rattle.sstable_format.specs.Store.{front_of_metas, start_of, ordinal_of, address_of, addresses_of_meta, are_bits, numbers_from}
unfoldable use Rattle.sstable_format.specs.Store.{are_filled, joined, store_of}
use Rattle.block_addresses.specs.Found.{element_at}
use Rattle.block_addresses.specs.Opened.{passing, told, fits_address, fits_u64, rises_from, may_follow, can_index, opened, tells_after, tells_then, meta_of_group, ordinals_of, HasBits}
unfoldable use Rattle.block_addresses.specs.Opened.{can_follow}
use Rattle.block_addresses.proofs.Passing.{both_true, HasBits-from}
use Rattle.block_addresses.proofs.Elements.{element_at-store, parts-of, none-of, list-of, each-length}
use Rattle.block_addresses.proofs.Opening.{found-at, metas-length}

-- what was read of metas and packed data
pub record Decoded (metas packed : List ℕ) (found : List Address) : Type 0 where
  pub ms : List Meta
  pub left : List ℕ
  pub lists : List (List Address)
  pub read : pieces front_of_metas metas ≡ Some (ms, left)
  pub filled : are_filled ms ≡ true
  pub each_is : each (addresses_of_meta packed) ms ≡ Some lists
  pub is : joined lists ≡ found

pub decoded : (metas packed : List ℕ) (found : List Address) → told metas packed ≡ Some found → Decoded metas packed found
decoded metas packed found e =
    let one = bind_some (pieces front_of_metas metas) (λ (read : List Meta × List ℕ). provided (are_filled read.0) >>= (λ _. each (addresses_of_meta packed) read.0 >>= (λ lists. Some (joined lists)))) found e in
    let two = bind_some (provided (are_filled one.0.0)) (λ _. each (addresses_of_meta packed) one.0.0 >>= (λ lists. Some (joined lists))) found one.2 in
    let three = bind_some (each (addresses_of_meta packed) one.0.0) (λ lists. Some (joined lists)) found two.2 in
    record { ms = one.0.0; left = one.0.1; lists = three.0; read = one.1; filled = provided-true _ two.0 two.1; each_is = three.1; is = some_is _ _ three.2 }

-- the address in a meta, by its place there
abbrev pub address_within : List ℕ → ℕ → Option Meta → Option Address
address_within packed j found = found >>= (λ m. provided (nat_le (j + 1) m.block_count) >>= (λ _. address_of m (drop m.data_offset packed) j))

-- one address stands in its meta
pub element-told : (metas packed : List ℕ) (found : List Address) (i : ℕ) → Decoded metas packed found → element_at found i ≡ address_within packed (i % 128) (meta_of_group (i / 128) metas)
element-told metas packed found i has =
    ap (λ xs. element_at xs i) (sym has.is) ∙ element_at-store packed has.ms has.lists i has.filled has.each_is ∙ ap (address_within packed (i % 128)) (found-at has.ms metas has.left (i / 128) has.read)

element-some : {A B : Type 0} (f : A → Option B) (xs : List A) (ys : List B) (k : ℕ) (x : A) → each f xs ≡ Some ys → element_at xs k ≡ Some x → (y : B) × (f x ≡ Some y)
element-some f [] ys k x e is = absurd cc
element-some f (z ∷ xs) ys zero x e is = let parts = parts-of f z xs ys e in (parts.first, ap f (sym (some_is z x is)) ∙ parts.of_first)
element-some f (z ∷ xs) ys (suc k) x e is = let parts = parts-of f z xs ys e in element-some f xs parts.others k x parts.of_others is

-- the bits of each meta can be read
pub bits-told : (metas packed : List ℕ) (found : List Address) (k : ℕ) (m : Meta) → Decoded metas packed found → meta_of_group k metas ≡ Some m → HasBits m
bits-told metas packed found k m has is =
    let one = element-some (addresses_of_meta packed) has.ms has.lists k m has.each_is (found-at has.ms metas has.left k has.read ∙ is) in
    let two = bind_some (provided (are_bits m.range_bits && are_bits m.ordinal_bits)) (λ _. each (address_of m (drop m.data_offset packed)) (numbers_from 0 m.block_count)) one.0 one.1 in
    HasBits-from m (provided-true _ two.0 two.1)

follow-fits : (ordinal : ℕ) (xs : List Address) (i : ℕ) (a : Address) → can_follow ordinal xs ≡ true → element_at xs i ≡ Some a → fits_address a ≡ true
unfolding can_follow
follow-fits ordinal [] i a follow is = absurd cc
follow-fits ordinal (x ∷ xs) zero a follow is =
    let first = both_true (may_follow ordinal x) (can_follow x.first_ordinal xs) follow in
    ap fits_address (sym (some_is x a is)) ∙ (both_true (fits_address x) (rises_from ordinal x) first.0).0
follow-fits ordinal (x ∷ xs) (suc i) a follow is = follow-fits x.first_ordinal xs i a (both_true (may_follow ordinal x) (can_follow x.first_ordinal xs) follow).1 is

-- the addresses of an open store have numbers of 64 bits
pub passing-told : (found : List Address) (i : ℕ) (one : Option Address) → can_follow 0 found ≡ true → element_at found i ≡ one → passing fits_address one ≡ element_at found i
passing-told found i None follow is = sym is
passing-told found i (Some a) follow is = ap (λ t. provided t >>= (λ _. Some a)) (follow-fits 0 found i a follow is) ∙ sym is

pub element-none : {A : Type 0} (xs : List A) (i : ℕ) → element_at xs i ≡ None → length xs ≤ i
element-none [] i e = omega arith
element-none (x ∷ xs) zero e = absurd cc
element-none (x ∷ xs) (suc i) e = let least : length xs ≤ i = element-none xs i e in omega (arith, least)

-- the ordinal of one address
pub ordinal-at : (xs : List Address) (i : ℕ) (a : Address) → element_at xs i ≡ Some a → a.first_ordinal ≡ get_or (ordinals_of xs) i 0
ordinal-at [] i a e = absurd cc
ordinal-at (x ∷ xs) zero a e = ap (λ (y : Address). y.first_ordinal) (sym (some_is x a e))
ordinal-at (x ∷ xs) (suc i) a e = ordinal-at xs i a e

first-least : (ordinal : ℕ) (xs : List Address) (i : ℕ) → can_follow ordinal xs ≡ true → i < length xs → ordinal ≤ get_or (ordinals_of xs) i 0
unfolding can_follow
first-least ordinal [] i follow below = absurd (omega arith)
first-least ordinal (x ∷ xs) zero follow below =
    let all = both_true (may_follow ordinal x) (can_follow x.first_ordinal xs) follow in
    let rises = both_true (nat_le x.start x.end) (nat_le ordinal x.first_ordinal) (both_true (fits_address x) (rises_from ordinal x) all.0).1 in
    leb-true ordinal x.first_ordinal rises.1
first-least ordinal (x ∷ xs) (suc i) follow below =
    let all = both_true (may_follow ordinal x) (can_follow x.first_ordinal xs) follow in
    let rises = both_true (nat_le x.start x.end) (nat_le ordinal x.first_ordinal) (both_true (fits_address x) (rises_from ordinal x) all.0).1 in
    let least : ordinal ≤ x.first_ordinal = leb-true ordinal x.first_ordinal rises.1 in
    let next : x.first_ordinal ≤ get_or (ordinals_of xs) i 0 = first-least x.first_ordinal xs i all.1 (omega arith) in
    omega (arith, least, next)

-- ordinals don't fall
pub ordinals-rise : (ordinal : ℕ) (xs : List Address) (i j : ℕ) → can_follow ordinal xs ≡ true → i ≤ j → j < length xs → get_or (ordinals_of xs) i 0 ≤ get_or (ordinals_of xs) j 0
unfolding can_follow
ordinals-rise ordinal [] i j follow ordered below = absurd (omega arith)
ordinals-rise ordinal (x ∷ xs) zero zero follow ordered below = omega arith
ordinals-rise ordinal (x ∷ xs) zero (suc j) follow ordered below = first-least x.first_ordinal xs j (both_true (may_follow ordinal x) (can_follow x.first_ordinal xs) follow).1 (omega arith)
ordinals-rise ordinal (x ∷ xs) (suc i) zero follow ordered below = absurd (omega arith)
ordinals-rise ordinal (x ∷ xs) (suc i) (suc j) follow ordered below = ordinals-rise x.first_ordinal xs i j (both_true (may_follow ordinal x) (can_follow x.first_ordinal xs) follow).1 (omega arith) (omega arith)

length-told : (packed : List ℕ) (m : Meta) (xs : List Address) → addresses_of_meta packed m ≡ Some xs → length xs ≡ m.block_count
length-told packed m xs e = each-length (address_of m (drop m.data_offset packed)) 0 m.block_count xs (list-of m packed xs e)

-- how many addresses the metas tell
length-joined : (packed : List ℕ) (ms : List Meta) (lists : List (List Address)) (n : ℕ) (last : Meta) → are_filled ms ≡ true → each (addresses_of_meta packed) ms ≡ Some lists → length ms ≡ suc n → element_at ms n ≡ Some last
    → (length (joined lists) ≡ n * 128 + last.block_count) × (last.block_count ≤ 128)
unfolding are_filled joined
length-joined packed [] lists n last filled e long at = absurd (omega arith)
length-joined packed (m ∷ []) lists zero last filled e long at =
    let parts = parts-of (addresses_of_meta packed) m [] lists e in
    let whole : joined lists ≡ parts.first ++ [] = ap joined (sym parts.is) ∙ ap (λ ls. parts.first ++ joined ls) (sym (none-of (addresses_of_meta packed) parts.others parts.of_others)) in
    let one : length parts.first ≡ m.block_count = length-told packed m parts.first parts.of_first in
    let same : m.block_count ≡ last.block_count = ap (λ (x : Meta). x.block_count) (some_is m last at) in
    (omega (arith, ap length whole, length-append parts.first [], one, same), omega (arith, same, leb-true m.block_count 128 filled))
length-joined packed (m ∷ []) lists (suc n) last filled e long at = absurd (omega arith)
length-joined packed (m ∷ next ∷ ms) lists zero last filled e long at = absurd (omega arith)
length-joined packed (m ∷ next ∷ ms) lists (suc n) last filled e long at =
    let parts = parts-of (addresses_of_meta packed) m (next ∷ ms) lists e in
    let both = both_true (m.block_count == 128) (are_filled (next ∷ ms)) filled in
    let full : m.block_count ≡ 128 = eqb-true m.block_count 128 both.0 in
    let one : length parts.first ≡ m.block_count = length-told packed m parts.first parts.of_first in
    let others = length-joined packed (next ∷ ms) parts.others n last both.1 parts.of_others (omega arith) at in
    (omega (arith, ap (λ ls. length (joined ls)) (sym parts.is), length-append parts.first (joined parts.others), one, full, others.0), others.1)

no_lists : (packed : List ℕ) (ms : List Meta) (lists : List (List Address)) → each (addresses_of_meta packed) ms ≡ Some lists → length ms ≡ 0 → length (joined lists) ≡ 0
unfolding joined
no_lists packed [] lists e none = ap (λ ls. length (joined ls)) (sym (none-of (addresses_of_meta packed) lists e))
no_lists packed (m ∷ ms) lists e none = absurd (omega arith)

-- how many addresses there are, by the number of metas and the last of them
pub count-none : (metas packed : List ℕ) (found : List Address) → Decoded metas packed found → length metas / 36 ≡ 0 → length found ≡ 0
count-none metas packed found has none = ap length (sym has.is) ∙ no_lists packed has.ms has.lists has.each_is (omega (arith, metas-length has.ms metas has.left has.read, none))

pub count-some : (metas packed : List ℕ) (found : List Address) (last : Meta) → Decoded metas packed found → 0 < length metas / 36 → meta_of_group (length metas / 36 - 1) metas ≡ Some last
    → (length found ≡ (length metas / 36 - 1) * 128 + last.block_count) × (last.block_count ≤ 128)
count-some metas packed found last has some is =
    let long : length metas ≡ 36 * length has.ms = metas-length has.ms metas has.left has.read in
    let n : ℕ = length metas / 36 - 1 in
    let at : element_at has.ms n ≡ Some last = found-at has.ms metas has.left n has.read ∙ is in
    let all = length-joined packed has.ms has.lists n last has.filled has.each_is (omega (arith, long, some)) at in
    (ap length (sym has.is) ∙ all.0, all.1)

-- there is a last meta
pub count-found : (metas packed : List ℕ) (found : List Address) → Decoded metas packed found → 0 < length metas / 36 → meta_of_group (length metas / 36 - 1) metas ≡ None → ⊥
count-found metas packed found has some none =
    let long : length metas ≡ 36 * length has.ms = metas-length has.ms metas has.left has.read in
    let few : length has.ms ≤ length metas / 36 - 1 = element-none has.ms (length metas / 36 - 1) (found-at has.ms metas has.left (length metas / 36 - 1) has.read ∙ none) in
    omega (arith, long, few, some)

pub count-least : (metas packed : List ℕ) (found : List Address) → Decoded metas packed found → 0 < length metas / 36 → (length metas / 36 - 1) * 128 ≤ length found
count-least metas packed found has some = by (meta_of_group (length metas / 36 - 1) metas) refl
  where
    by : (o : Option Meta) → meta_of_group (length metas / 36 - 1) metas ≡ o → (length metas / 36 - 1) * 128 ≤ length found
    by None e = absurd (count-found metas packed found has some e)
    by (Some last) e = omega (arith, (count-some metas packed found last has some e).0)

-- an open store's addresses, and that a table's blocks can have them
pub record Found (metas packed : List ℕ) : Type 0 where
  pub found : List Address
  pub is_told : told metas packed ≡ Some found
  pub follow : can_follow 0 found ≡ true

pub tells-found : (metas packed : List ℕ) → tells_after 0 metas packed ≡ true → Found metas packed
tells-found metas packed tells = by (told metas packed) refl tells
  where
    follows : (b : Bool) (xs : List Address) → is_some (provided b >>= (λ _. Some xs)) ≡ true → b ≡ true
    follows true xs e = refl
    follows false xs e = e

    by : (o : Option (List Address)) → told metas packed ≡ o → tells_then (Some 0) o ≡ true → Found metas packed
    by None is t = absurd (false≢true t)
    by (Some xs) is t = record { found = xs; is_told = is; follow = follows (can_follow 0 xs) xs t }

-- what can't be told, or what a table's blocks can't have
pub index-none : (found : Option (List Address)) → tells_then (Some 0) found ≡ false → passing can_index found ≡ None
index-none None e = refl
index-none (Some xs) e = by (can_follow 0 xs) (fits_u64 (length xs)) e
  where
    by : (s t : Bool) → is_some (provided s >>= (λ _. Some xs)) ≡ false → (provided (s && t) >>= (λ _. Some xs)) ≡ None
    by true t e = absurd (false≢true (sym e))
    by false t e = refl

-- what a table's blocks can have, if their number has 64 bits
pub index-found : (found : List Address) → can_follow 0 found ≡ true → passing can_index (Some found) ≡ (provided (fits_u64 (length found)) >>= (λ _. Some found))
index-found found follow = ap (λ t. provided (t && fits_u64 (length found)) >>= (λ _. Some found)) follow

counted : (b : Bool) (n count : ℕ) → Some count ≡ (provided b >>= (λ _. Some n)) → (b ≡ true) × (n ≡ count)
counted true n count e = (refl, sym (some_is count n e))
counted false n count e = absurd cc

uncounted : (b : Bool) (n : ℕ) → None ≡ (provided b >>= (λ _. Some n)) → b ≡ false
uncounted true n e = absurd cc
uncounted false n e = refl

pub index-counted : (found : List Address) (count : ℕ) → can_follow 0 found ≡ true → Some count ≡ passing fits_u64 (Some (length found)) → (passing can_index (Some found) ≡ Some found) × (length found ≡ count)
index-counted found count follow is =
    let has = counted (fits_u64 (length found)) (length found) count is in
    (index-found found follow ∙ ap (λ t. provided t >>= (λ _. Some found)) has.0, has.1)

pub index-uncounted : (found : List Address) → can_follow 0 found ≡ true → None ≡ passing fits_u64 (Some (length found)) → passing can_index (Some found) ≡ None
index-uncounted found follow is = index-found found follow ∙ ap (λ t. provided t >>= (λ _. Some found)) (uncounted (fits_u64 (length found)) (length found) is)

store_of-told : (bytes : List ℕ) → store_of bytes ≡ (number_at w64 bytes >>= (λ len. bytes_at len.0 len.1 >>= (λ parts. told parts.0 parts.1)))
unfolding store_of
store_of-told bytes = refl

bytes_at-none : (n : ℕ) (bytes : List ℕ) → length bytes < n → bytes_at n bytes ≡ None
bytes_at-none n bytes short =
    let found : List ℕ × List ℕ = (take n bytes, drop n bytes) in
    ap (λ t. provided t >>= (λ _. Some found)) (lt-leb n (length bytes) short)

pub opened-short : (bytes : List ℕ) → length bytes < 8 → opened bytes ≡ None
opened-short bytes short =
    ap (passing can_index) (store_of-told bytes
    ∙ ap (λ o. (o >>= (λ (piece : List ℕ × List ℕ). Some (from_le_bytes w64 piece.0, piece.1))) >>= (λ (len : ℕ × List ℕ). bytes_at len.0 len.1 >>= (λ parts. told parts.0 parts.1)))
    (bytes_at-none 8 bytes short))

opened-len : (bytes : List ℕ) → 8 ≤ length bytes → store_of bytes ≡ (bytes_at (from_le_bytes w64 (take 8 bytes)) (drop 8 bytes) >>= (λ parts. told parts.0 parts.1))
opened-len bytes long =
    store_of-told bytes
    ∙ ap (λ o. (o >>= (λ piece. Some (from_le_bytes w64 piece.0, piece.1))) >>= (λ (len : ℕ × List ℕ). bytes_at len.0 len.1 >>= (λ parts. told parts.0 parts.1))) (bytes_at-front 8 bytes long)

pub opened-cut : (bytes : List ℕ) → 8 ≤ length bytes → length (drop 8 bytes) < from_le_bytes w64 (take 8 bytes) → opened bytes ≡ None
opened-cut bytes long cut =
    let n : ℕ = from_le_bytes w64 (take 8 bytes) in
    ap (passing can_index) (opened-len bytes long
    ∙ ap (λ o. o >>= (λ (parts : List ℕ × List ℕ). told parts.0 parts.1)) (bytes_at-none n (drop 8 bytes) cut))

pub opened-is : (bytes metas packed : List ℕ) → 8 ≤ length bytes → from_le_bytes w64 (take 8 bytes) ≤ length (drop 8 bytes) → metas ≡ take (from_le_bytes w64 (take 8 bytes)) (drop 8 bytes)
    → packed ≡ drop (from_le_bytes w64 (take 8 bytes)) (drop 8 bytes) → opened bytes ≡ passing can_index (told metas packed)
opened-is bytes metas packed long fits front back =
    let n : ℕ = from_le_bytes w64 (take 8 bytes) in
    ap (passing can_index) (opened-len bytes long ∙ ap (λ o. o >>= (λ (parts : List ℕ × List ℕ). told parts.0 parts.1)) (bytes_at-front n (drop 8 bytes) fits)
    ∙ ap (λ xs. told xs (drop n (drop 8 bytes))) (sym front) ∙ ap (λ xs. told metas xs) (sym back))

ordinal_is : (start end n : ℕ) (a : Address) → Some (record { start = start; end = end; first_ordinal = n }) ≡ Some a → n ≡ a.first_ordinal
ordinal_is start end n a e = ap (λ (b : Address). b.first_ordinal) (some_is (record { start = start; end = end; first_ordinal = n }) a e)

-- the ordinal of a block that a store has
pub ordinal-told : (metas packed : List ℕ) (found : List Address) (i : ℕ) (m : Meta) → Decoded metas packed found → can_follow 0 found ≡ true → i < length found → meta_of_group (i / 128) metas ≡ Some m
    → passing fits_u64 (ordinal_of m (drop m.data_offset packed) (i % 128)) ≡ Some (get_or (ordinals_of found) i 0)
ordinal-told metas packed found i m has follow below is = by (element_at found i) refl
  where
    by : (o : Option Address) → element_at found i ≡ o → passing fits_u64 (ordinal_of m (drop m.data_offset packed) (i % 128)) ≡ Some (get_or (ordinals_of found) i 0)
    by None e = absurd (let past : length found ≤ i = element-none found i e in omega (arith, past, below))
    by (Some a) e =
        let part : List ℕ = drop m.data_offset packed in
        let j : ℕ = i % 128 in
        let at : (provided (nat_le (j + 1) m.block_count) >>= (λ _. address_of m part j)) ≡ Some a = ap (address_within packed j) (sym is) ∙ sym (element-told metas packed found i has) ∙ e in
        let one = bind_some (provided (nat_le (j + 1) m.block_count)) (λ _. address_of m part j) a at in
        let two = bind_some (start_of m part j) (λ start. start_of m part (j + 1) >>= (λ end. ordinal_of m part j >>= (λ n. Some (record { start = start; end = end; first_ordinal = n })))) a one.2 in
        let three = bind_some (start_of m part (j + 1)) (λ end. ordinal_of m part j >>= (λ n. Some (record { start = two.0; end = end; first_ordinal = n }))) a two.2 in
        let four = bind_some (ordinal_of m part j) (λ n. Some (record { start = two.0; end = three.0; first_ordinal = n })) a three.2 in
        let same : four.0 ≡ a.first_ordinal = ordinal_is two.0 three.0 four.0 a four.2 in
        let fits : fits_u64 a.first_ordinal ≡ true = (both_true (fits_u64 a.end) (fits_u64 a.first_ordinal) (both_true (fits_u64 a.start) (fits_u64 a.end && fits_u64 a.first_ordinal) (follow-fits 0 found i a follow e)).1).1 in
        ap (passing fits_u64) (four.1 ∙ ap (λ n. Some n) same) ∙ ap (λ t. provided t >>= (λ _. Some a.first_ordinal)) fits ∙ ap (λ n. Some n) (ordinal-at found i a e)

-- a block that a store has stands in a meta
pub meta-told : (metas packed : List ℕ) (found : List Address) (i : ℕ) → Decoded metas packed found → i < length found → meta_of_group (i / 128) metas ≡ None → ⊥
meta-told metas packed found i has below none =
    let past : length found ≤ i = element-none found i (element-told metas packed found i has ∙ ap (address_within packed (i % 128)) none) in
    omega (arith, past, below)

-- what is opened is what the store holds
pub opened-holds : (bytes : List ℕ) (found : List Address) → opened bytes ≡ Some found → store_of bytes ≡ Some found
opened-holds bytes found e = by (store_of bytes) refl e
  where
    kept : (b : Bool) (xs : List Address) → (provided b >>= (λ _. Some xs)) ≡ Some found → Some xs ≡ Some found
    kept true xs is = is
    kept false xs is = absurd cc

    by : (o : Option (List Address)) → store_of bytes ≡ o → passing can_index o ≡ Some found → store_of bytes ≡ Some found
    by None is e = absurd cc
    by (Some xs) is e = is ∙ kept (can_index xs) xs e

follow-ordered : (ordinal : ℕ) (xs : List Address) (i : ℕ) (a : Address) → can_follow ordinal xs ≡ true → element_at xs i ≡ Some a → a.start ≤ a.end
unfolding can_follow
follow-ordered ordinal [] i a follow is = absurd cc
follow-ordered ordinal (x ∷ xs) zero a follow is =
    let first = both_true (may_follow ordinal x) (can_follow x.first_ordinal xs) follow in
    let rises = both_true (nat_le x.start x.end) (nat_le ordinal x.first_ordinal) (both_true (fits_address x) (rises_from ordinal x) first.0).1 in
    let P : Address → Type 0 = λ y. y.start ≤ y.end in
    subst P (some_is x a is) (leb-true x.start x.end rises.0)
follow-ordered ordinal (x ∷ xs) (suc i) a follow is = follow-ordered x.first_ordinal xs i a (both_true (may_follow ordinal x) (can_follow x.first_ordinal xs) follow).1 is

-- no range of an open store runs backwards
pub ordered-told : (result : Option Address) (found : List Address) (i : ℕ) → can_follow 0 found ≡ true → result ≡ element_at found i → IfSome result (λ addr. addr.start ≤ addr.end)
ordered-told None found i follow is = tt
ordered-told (Some addr) found i follow is = follow-ordered 0 found i addr follow (sym is)
