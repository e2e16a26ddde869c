-- What a builder's fields show, before and after a call.
use Rattle.std.proofs.Common.{◌≡◌, ℕ, suc, ◌+◌, ◌-◌, ◌<◌, ◌≤◌, List, [], ◌∷◌, ◌++◌, length, map, take, drop, get_or, true, ◌&&◌, append-nil, refl, ap, sym, subst, ◌∙◌, arith, length-append}
use Rattle.std.specs.List.{flat_map, zip}
use Rattle.std.specs.declared.ops.Range.{Range}
use Rattle.std.proofs.lemmas.Bool.{and_parts, and_from, eqb-true}
use Rattle.std.proofs.lemmas.List.{map-append, length-map}
use Rattle.std.proofs.lemmas.Grind.{flat_map-append}
use Rattle.std.proofs.Math.Seq.{take-append_seam, drop-append_seam, get_or-append_seam}
use Rattle.owned_bytes.specs.Keys.{Key}
use Rattle.sstable_values.specs.Codec.{Address, last_is}
use Rattle.sstable_blocks.specs.Writing.{keys_in}
use Rattle.sstable_format.specs.Index.{IndexEntry}
use Rattle.block_addresses.specs.Shortened.{shortened}
unfoldable use Rattle.block_addresses.specs.Written.{addresses_between}
unfoldable use Rattle.sstable_index.specs.Building.{adjoin}
use Rattle.sstable_index.specs.Building.{is_block, comes_next, address_of, addresses_in, starts_of, MayComeNext, with_last_key_shortened}
unfoldable use Rattle.sstable_index.specs.Built.{keys_at, places_from}
use Rattle.sstable_index.specs.Built.{built, IsBuilt}

-- keys one after the other
abbrev pub area_of : List Key → List ℕ
area_of keys = flat_map (λ key. key) keys

-- ---- the fields of some entries show them

pub keys_at-again : (place : ℕ) (keys : List Key) → keys_at (places_from place keys) (area_of keys) ≡ keys
unfolding keys_at places_from
keys_at-again place [] = refl
keys_at-again place (key ∷ []) = ap (λ k. k ∷ []) (append-nil key)
keys_at-again place (key ∷ next ∷ keys) =
    let n : place + length key - place ≡ length key = omega arith in
    ap (λ m. take m (key ++ area_of (next ∷ keys)) ∷ keys_at (places_from (place + length key) (next ∷ keys)) (drop m (key ++ area_of (next ∷ keys)))) n
    ∙ ap (λ k. k ∷ keys_at (places_from (place + length key) (next ∷ keys)) (drop (length key) (key ++ area_of (next ∷ keys)))) (take-append_seam key (area_of (next ∷ keys)))
    ∙ ap (λ area. key ∷ keys_at (places_from (place + length key) (next ∷ keys)) area) (drop-append_seam key (area_of (next ∷ keys)))
    ∙ ap (λ ks. key ∷ ks) (keys_at-again (place + length key) (next ∷ keys))

pub adjoin-next : (address next : Address) (addresses : List Address) → adjoin (address ∷ next ∷ addresses) ≡ true → (comes_next address next ≡ true) × (adjoin (next ∷ addresses) ≡ true)
unfolding adjoin
adjoin-next address next addresses e =
    let first = and_parts (is_block address) (comes_next address next && adjoin (next ∷ addresses)) e in
    and_parts (comes_next address next) (adjoin (next ∷ addresses)) first.1

pub addresses-again : (addresses : List Address) → adjoin addresses ≡ true → addresses_between (starts_of addresses) (map (λ address. address.first_ordinal) addresses) ≡ addresses
unfolding addresses_between
addresses-again [] e = refl
addresses-again (address ∷ []) e = refl
addresses-again (address ∷ next ∷ addresses) e =
    let parts = adjoin-next address next addresses e in
    let same : address.end ≡ next.start = eqb-true _ _ (and_parts _ _ parts.0).0 in
    ap (λ start. address ∷ addresses_between (start ∷ map (λ (block : Address). block.end) (next ∷ addresses)) (map (λ (a : Address). a.first_ordinal) (next ∷ addresses))) same
    ∙ ap (λ others. address ∷ others) (addresses-again (next ∷ addresses) parts.1)

pub zip-again : (entries : List IndexEntry) → zip (keys_in entries) (addresses_in entries) ≡ entries
zip-again [] = refl
zip-again (entry ∷ entries) = ap (λ others. entry ∷ others) (zip-again entries)

pub built-is : (area places starts ordinals : List ℕ) (entries : List IndexEntry) → IsBuilt area places starts ordinals entries → built area places starts ordinals ≡ entries
built-is area places starts ordinals entries is =
    let keys : keys_at places area ≡ keys_in entries = ap (λ ps. keys_at ps area) is.begun ∙ ap (λ a. keys_at (places_from 0 (keys_in entries)) a) is.keys ∙ keys_at-again 0 (keys_in entries) in
    let addresses : addresses_between starts ordinals ≡ addresses_in entries =
    ap (λ ss. addresses_between ss ordinals) is.ranges ∙ ap (λ os. addresses_between (starts_of (addresses_in entries)) os) is.positions ∙ addresses-again (addresses_in entries) is.adjoining in
    ap (λ ks. zip ks (addresses_between starts ordinals)) keys ∙ ap (λ bs. zip (keys_in entries) bs) addresses ∙ zip-again entries

pub built-again : (area places starts ordinals : List ℕ) (entries : List IndexEntry) → IsBuilt area places starts ordinals entries → IsBuilt area places starts ordinals (built area places starts ordinals)
built-again area places starts ordinals entries is = subst (λ es. IsBuilt area places starts ordinals es) (sym (built-is area places starts ordinals entries is)) is

-- what fields show when they are the same as those of some entries
pub built-as : (area places starts ordinals area' places' starts' ordinals' : List ℕ) (entries : List IndexEntry) → IsBuilt area places starts ordinals entries
    → area' ≡ area → places' ≡ places → starts' ≡ starts → ordinals' ≡ ordinals → IsBuilt area' places' starts' ordinals' entries
built-as area places starts ordinals area' places' starts' ordinals' entries is a p s o =
    record { keys = a ∙ is.keys; begun = p ∙ is.begun; ranges = s ∙ is.ranges; positions = o ∙ is.positions; adjoining = is.adjoining }

-- ---- no entry

pub built-none : (area places starts ordinals : List ℕ) → area ≡ [] → places ≡ [] → starts ≡ [] → ordinals ≡ [] → IsBuilt area places starts ordinals []
unfolding places_from adjoin
built-none area places starts ordinals a p s o = record { keys = a; begun = p; ranges = s; positions = o; adjoining = refl }

-- ---- one more entry

pub places-more : (place : ℕ) (keys : List Key) (key : Key) → places_from place (keys ++ key ∷ []) ≡ places_from place keys ++ (place + length (area_of keys)) ∷ []
unfolding places_from
places-more place [] key = ap (λ n. n ∷ []) (omega arith)
places-more place (first ∷ keys) key =
    let n : place + length first + length (area_of keys) ≡ place + length (area_of (first ∷ keys)) = omega (arith, length-append first (area_of keys)) in
    ap (λ ps. place ∷ ps) (places-more (place + length first) keys key ∙ ap (λ m. places_from (place + length first) keys ++ m ∷ []) n)

pub places-next : (keys : List Key) (key : Key) → places_from 0 (keys ++ key ∷ []) ≡ places_from 0 keys ++ length (area_of keys) ∷ []
places-next keys key =
    let n : 0 + length (area_of keys) ≡ length (area_of keys) = omega arith in
    places-more 0 keys key ∙ ap (λ m. places_from 0 keys ++ m ∷ []) n

pub area-more : (keys : List Key) (key : Key) → area_of (keys ++ key ∷ []) ≡ area_of keys ++ key
area-more keys key = flat_map-append (λ k. k) keys (key ∷ []) ∙ ap (λ bytes. area_of keys ++ bytes) (append-nil key)

starts-more : (addresses : List Address) (address : Address) → 0 < length addresses → starts_of (addresses ++ address ∷ []) ≡ starts_of addresses ++ address.end ∷ []
starts-more [] address some = absurd (omega arith)
starts-more (first ∷ addresses) address some = ap (λ ends. first.start ∷ ends) (map-append (λ (block : Address). block.end) (first ∷ addresses) (address ∷ []))

starts-some : (addresses : List Address) → 0 < length addresses → 0 < length (starts_of addresses)
starts-some [] some = absurd (omega arith)
starts-some (first ∷ addresses) some = omega arith

adjoin-more : (addresses : List Address) (address : Address) → adjoin addresses ≡ true → is_block address ≡ true → last_is (λ before. comes_next before address) addresses ≡ true → adjoin (addresses ++ address ∷ []) ≡ true
unfolding adjoin
adjoin-more [] address e fits next = fits
adjoin-more (first ∷ []) address e fits next = and_from (is_block first) (comes_next first address && is_block address) e (and_from (comes_next first address) (is_block address) next fits)
adjoin-more (first ∷ second ∷ addresses) address e fits next =
    let parts = and_parts (is_block first) (comes_next first second && adjoin (second ∷ addresses)) e in
    let inner = and_parts (comes_next first second) (adjoin (second ∷ addresses)) parts.1 in
    and_from (is_block first) (comes_next first second && adjoin ((second ∷ addresses) ++ address ∷ [])) parts.0
    (and_from (comes_next first second) (adjoin ((second ∷ addresses) ++ address ∷ [])) inner.0 (adjoin-more (second ∷ addresses) address inner.1 fits next))

starts-after : (addresses : List Address) (address : Address) (starts starts' : List ℕ) → starts ≡ starts_of addresses → (starts ≡ [] → starts' ≡ address.start ∷ address.end ∷ [])
    → (0 < length starts → starts' ≡ starts ++ address.end ∷ []) → starts' ≡ starts_of (addresses ++ address ∷ [])
starts-after [] address starts starts' is first later = first is
starts-after (before ∷ addresses) address starts starts' is first later =
    let some : 0 < length (starts_of (before ∷ addresses)) = starts-some (before ∷ addresses) (omega arith) in
    later (omega (arith, some, ap length is)) ∙ ap (λ ss. ss ++ address.end ∷ []) is ∙ sym (starts-more (before ∷ addresses) address (omega arith))

pub built-more : (area places starts ordinals area' places' starts' ordinals' : List ℕ) (entries : List IndexEntry) (key : Key) (range : Range ℕ) (first_ordinal : ℕ)
    → IsBuilt area places starts ordinals entries → MayComeNext entries range first_ordinal
    → area' ≡ area ++ key → places' ≡ places ++ length area ∷ [] → (starts ≡ [] → starts' ≡ range.start ∷ range.end ∷ []) → (0 < length starts → starts' ≡ starts ++ range.end ∷ []) → ordinals' ≡ ordinals ++ first_ordinal ∷ []
    → IsBuilt area' places' starts' ordinals' (entries ++ (key, address_of range first_ordinal) ∷ [])
built-more area places starts ordinals area' places' starts' ordinals' entries key range first_ordinal is may a p first later o =
    let address = address_of range first_ordinal in
    let keys : keys_in (entries ++ (key, address) ∷ []) ≡ keys_in entries ++ key ∷ [] = map-append (λ (e : IndexEntry). e.0) entries ((key, address) ∷ []) in
    let addresses : addresses_in (entries ++ (key, address) ∷ []) ≡ addresses_in entries ++ address ∷ [] = map-append (λ (e : IndexEntry). e.1) entries ((key, address) ∷ []) in
    record {
      keys = a ∙ ap (λ bytes. bytes ++ key) is.keys ∙ sym (area-more (keys_in entries) key) ∙ ap area_of (sym keys);
      begun = p ∙ ap (λ ps. ps ++ length area ∷ []) is.begun ∙ ap (λ bytes. places_from 0 (keys_in entries) ++ length bytes ∷ []) is.keys ∙ sym (places-next (keys_in entries) key) ∙ ap (places_from 0) (sym keys);
      ranges = starts-after (addresses_in entries) address starts starts' is.ranges first later ∙ ap starts_of (sym addresses);
      positions = o ∙ ap (λ os. os ++ first_ordinal ∷ []) is.positions ∙ sym (map-append (λ (block : Address). block.first_ordinal) (addresses_in entries) (address ∷ [])) ∙ ap (λ bs. map (λ (block : Address). block.first_ordinal) bs) (sym addresses);
      adjoining = ap adjoin addresses ∙ adjoin-more (addresses_in entries) address is.adjoining may.fits may.next;
    }

-- as many places as blocks
pub places-count : (place : ℕ) (keys : List Key) → length (places_from place keys) ≡ length keys
unfolding places_from
places-count place [] = refl
places-count place (key ∷ keys) = ap suc (places-count (place + length key) keys)

pub same-count : (area places starts ordinals : List ℕ) (entries : List IndexEntry) → IsBuilt area places starts ordinals entries → (length places ≡ length entries) × (length ordinals ≡ length entries)
same-count area places starts ordinals entries is = (
  ap length is.begun ∙ places-count 0 (keys_in entries) ∙ length-map entries (λ (e : IndexEntry). e.0),
  ap length is.positions ∙ length-map (addresses_in entries) (λ (block : Address). block.first_ordinal) ∙ length-map entries (λ (e : IndexEntry). e.1),
)

-- ---- the last key is shortened

with_last-behind : (front : List IndexEntry) (last : IndexEntry) (next : Key) → with_last_key_shortened (front ++ last ∷ []) next ≡ front ++ (shortened last.0 next, last.1) ∷ []
with_last-behind [] last next = refl
with_last-behind (entry ∷ []) last next = refl
with_last-behind (entry ∷ other ∷ front) last next = ap (λ es. entry ∷ es) (with_last-behind (other ∷ front) last next)

split_last : (entry : IndexEntry) (entries : List IndexEntry) → (front : List IndexEntry) × (last : IndexEntry) × (entry ∷ entries ≡ front ++ last ∷ [])
split_last entry [] = ([], entry, refl)
split_last entry (next ∷ entries) =
    let others = split_last next entries in
    (entry ∷ others.0, others.1, ap (λ es. entry ∷ es) others.2)

shorter-behind : (area places starts ordinals area' : List ℕ) (front : List IndexEntry) (last : IndexEntry) (start : ℕ) (next : Key) → IsBuilt area places starts ordinals (front ++ last ∷ [])
    → start ≡ get_or places (length places - 1) 0 → area' ≡ take start area ++ shortened (drop start area) next
    → (start ≤ length area) × IsBuilt area' places starts ordinals (front ++ (shortened last.0 next, last.1) ∷ [])
shorter-behind area places starts ordinals area' front last start next is at shorter =
    let key = shortened last.0 next in
    let before = area_of (keys_in front) in
    let keys : (k : Key) → keys_in (front ++ (k, last.1) ∷ []) ≡ keys_in front ++ k ∷ [] = λ k. map-append (λ (e : IndexEntry). e.0) front ((k, last.1) ∷ []) in
    let addresses : (k : Key) → addresses_in (front ++ (k, last.1) ∷ []) ≡ addresses_in front ++ last.1 ∷ [] = λ k. map-append (λ (e : IndexEntry). e.1) front ((k, last.1) ∷ []) in
    let whole : area ≡ before ++ last.0 = is.keys ∙ ap area_of (keys last.0) ∙ area-more (keys_in front) last.0 in
    let begun : (k : Key) → places_from 0 (keys_in (front ++ (k, last.1) ∷ [])) ≡ places_from 0 (keys_in front) ++ length before ∷ [] = λ k. ap (places_from 0) (keys k) ∙ places-next (keys_in front) k in
    let ps : places ≡ places_from 0 (keys_in front) ++ length before ∷ [] = is.begun ∙ begun last.0 in
    let count : length places - 1 ≡ length (places_from 0 (keys_in front)) = omega (arith, ap length ps, length-append (places_from 0 (keys_in front)) (length before ∷ [])) in
    let place : start ≡ length before = at ∙ ap (λ n. get_or places n 0) count ∙ ap (λ xs. get_or xs (length (places_from 0 (keys_in front))) 0) ps ∙ get_or-append_seam (places_from 0 (keys_in front)) (length before) [] 0 in
    let kept : take start area ≡ before = ap (λ n. take n area) place ∙ ap (take (length before)) whole ∙ take-append_seam before last.0 in
    let left : drop start area ≡ last.0 = ap (λ n. drop n area) place ∙ ap (drop (length before)) whole ∙ drop-append_seam before last.0 in (
      omega (arith, place, ap length whole, length-append before last.0),
      record {
        keys = shorter ∙ ap (λ bytes. bytes ++ shortened (drop start area) next) kept ∙ ap (λ k. before ++ shortened k next) left ∙ sym (area-more (keys_in front) key) ∙ ap area_of (sym (keys key));
        begun = ps ∙ sym (begun key);
        ranges = is.ranges ∙ ap starts_of (addresses last.0 ∙ sym (addresses key));
        positions = is.positions ∙ ap (λ bs. map (λ (block : Address). block.first_ordinal) bs) (addresses last.0 ∙ sym (addresses key));
        adjoining = ap adjoin (addresses key ∙ sym (addresses last.0)) ∙ is.adjoining;
      },
    )

pub built-shorter : (area places starts ordinals area' : List ℕ) (entries : List IndexEntry) (start : ℕ) (next : Key) → IsBuilt area places starts ordinals entries → 0 < length places
    → start ≡ get_or places (length places - 1) 0 → area' ≡ take start area ++ shortened (drop start area) next
    → (start ≤ length area) × IsBuilt area' places starts ordinals (with_last_key_shortened entries next)
unfolding places_from
built-shorter area places starts ordinals area' [] start next is some at shorter = absurd (omega (arith, some, ap length is.begun))
built-shorter area places starts ordinals area' (entry ∷ entries) start next is some at shorter =
    let split = split_last entry entries in
    let found = shorter-behind area places starts ordinals area' split.0 split.1 start next (subst (λ es. IsBuilt area places starts ordinals es) split.2 is) at shorter in
    let same : split.0 ++ (shortened split.1.0 next, split.1.1) ∷ [] ≡ with_last_key_shortened (entry ∷ entries) next =
    sym (with_last-behind split.0 split.1 next) ∙ ap (λ es. with_last_key_shortened es next) (sym split.2) in
    (found.0, subst (λ es. IsBuilt area' places starts ordinals es) same found.1)

-- without keys there is no entry
pub none-built : (area places starts ordinals : List ℕ) (entries : List IndexEntry) (next : Key) → IsBuilt area places starts ordinals entries → length places ≡ 0 → entries ≡ with_last_key_shortened entries next
unfolding places_from
none-built area places starts ordinals [] next is none = refl
none-built area places starts ordinals (entry ∷ entries) next is none = absurd (omega (arith, none, ap length is.begun))
