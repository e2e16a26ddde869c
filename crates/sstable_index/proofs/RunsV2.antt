-- Runs of the blocks of an index of version 2, entry by entry.
use Rattle.std.proofs.Common.{◌≡◌, ◌≢◌, ℕ, zero, suc, ◌+◌, ◌-◌, ◌*◌, ◌/◌, ◌%◌, ◌<◌, ◌≤◌, List, [], ◌∷◌, ◌++◌, length, drop, get_or, Bool, true, false, ◌&&◌, Option, Some, None, Result, Ok, Err, append_assoc, append-nil, refl, ap, sym, subst, ◌∙◌, inl, inr, arith, length-append, length-drop}
use Rattle.std.specs.Prelude.{unwrap_or, nat_lt, nat_le, IfErr, OnSome, if◌then◌else◌}
use Rattle.std.specs.List.{flat_map}
use Rattle.std.specs.Result.{IsErr, IsErrAnd}
use Rattle.std.specs.Io.KnownBytes.{Appends}
use Rattle.std.specs.declared.ops.Range.{Range}
use Rattle.std.proofs.lemmas.Bool.{and_parts, and_from, false≢true, cases_lt}
use Rattle.std.proofs.lemmas.List.{map-append, length-map, drop_all}
use Rattle.std.proofs.lemmas.List.Elements.{All-get_or}
use Rattle.std.proofs.lemmas.Grind.{flat_map-append}
use Rattle.owned_bytes.specs.Front.{◌>>=◌, pieces, continued}
use Rattle.owned_bytes.specs.Keys.{Key, is_below, shared}
unfoldable use Rattle.owned_bytes.specs.Keys.{is_rising}
use Rattle.owned_bytes.proofs.Pieces.{some_is, pieces-step}
use Rattle.sstable_values.specs.Vint.{vint}
unfoldable use Rattle.sstable_values.specs.Vint.{groups}
use Rattle.sstable_values.specs.declared.errors.ValueError.{ValueError}
use Rattle.sstable_values.specs.declared.errors.ValueError.TheVariants as values
use Rattle.sstable_values.specs.Writes.{RefusesValue}
use Rattle.sstable_values.specs.Values.{Values, Listed, Gains}
use Rattle.sstable_values.specs.Codec.{Address, last_is, comes_after, first_start, no_values}
unfoldable use Rattle.sstable_values.specs.Codec.{index, addresses}
use Rattle.sstable_blocks.specs.declared.errors.DeltaError.{DeltaError}
use Rattle.sstable_blocks.specs.declared.errors.DeltaError.TheVariants.{BlockTooLong}
use Rattle.sstable_blocks.specs.Content.{block}
use Rattle.sstable_blocks.specs.Delta.{Delta}
use Rattle.sstable_blocks.specs.Block.{delta, delta_between}
unfoldable use Rattle.sstable_blocks.specs.Block.{deltas_between}
use Rattle.sstable_blocks.specs.Run.{Block, last_key, may_follow, front_of_blocks, entries_of}
unfoldable use Rattle.sstable_blocks.specs.Run.{whole_run_of, blocks_after}
use Rattle.sstable_blocks.specs.Writing.{WriterState, content, keys_in, IsOpen, IsNext, AddsEntry, AddsToRun, WritesBlock, KeepsBlock, Flushes, with_delta, default_block_len, length_limit}
use Rattle.sstable_blocks.proofs.RunLaws.{blocks-shrink, front-none}
use Rattle.sstable_format.specs.Index.{IndexEntry}
unfoldable use Rattle.sstable_index.specs.Building.{adjoin}
use Rattle.sstable_index.specs.declared.write_errors.SstWriteError.{SstWriteError}
use Rattle.sstable_index.specs.declared.write_errors.SstWriteError.TheVariants as errors
use Rattle.sstable_index.specs.Errors.{error_of_value}
use Rattle.sstable_index.specs.Building.{is_block, comes_next, addresses_in, are_rising}
use Rattle.sstable_index.specs.BuildingV2.{AreShort, longest_key, HasWritten, IsRunOf}
use Rattle.sstable_index.proofs.Builds.{adjoin-next}

-- ---- parts of lists that rise or adjoin

rising-tail : (key : Key) (keys : List Key) → is_rising (key ∷ keys) ≡ true → is_rising keys ≡ true
unfolding is_rising
rising-tail key [] e = refl
rising-tail key (next ∷ keys) e = (and_parts (is_below key next) (is_rising (next ∷ keys)) e).1

rising-back : (front keys : List Key) → is_rising (front ++ keys) ≡ true → is_rising keys ≡ true
rising-back [] keys e = e
rising-back (key ∷ front) keys e = rising-back front keys (rising-tail key (front ++ keys) e)

rising-front : (keys back : List Key) → is_rising (keys ++ back) ≡ true → is_rising keys ≡ true
unfolding is_rising
rising-front [] back e = refl
rising-front (key ∷ []) back e = refl
rising-front (key ∷ next ∷ keys) back e =
    let parts = and_parts (is_below key next) (is_rising ((next ∷ keys) ++ back)) e in
    and_from (is_below key next) (is_rising (next ∷ keys)) parts.0 (rising-front (next ∷ keys) back parts.1)

keys-append : (xs ys : List IndexEntry) → keys_in (xs ++ ys) ≡ keys_in xs ++ keys_in ys
keys-append xs ys = map-append (λ (e : IndexEntry). e.0) xs ys

addresses-append : (xs ys : List IndexEntry) → addresses_in (xs ++ ys) ≡ addresses_in xs ++ addresses_in ys
addresses-append xs ys = map-append (λ (e : IndexEntry). e.1) xs ys

-- entries that rise follow those before them
follows : (front : List IndexEntry) (entry : IndexEntry) (back : List IndexEntry) → are_rising (front ++ entry ∷ back) ≡ true → may_follow (last_key front) (entry ∷ back) ≡ true
unfolding is_rising
follows [] entry back e = refl
follows (first ∷ []) entry back e = (and_parts (is_below first.0 entry.0) (is_rising (keys_in (entry ∷ back))) e).0
follows (first ∷ next ∷ front) entry back e = follows (next ∷ front) entry back (and_parts (is_below first.0 next.0) (is_rising (keys_in ((next ∷ front) ++ entry ∷ back))) e).1

pub follows-some : (front opened back : List IndexEntry) → 0 < length opened → are_rising (front ++ (opened ++ back)) ≡ true → may_follow (last_key front) opened ≡ true
follows-some front [] back some e = absurd (omega (arith, some))
follows-some front (entry ∷ opened) back some e =
    let rising : are_rising (front ++ entry ∷ opened) ≡ true =
    rising-front (keys_in (front ++ entry ∷ opened)) (keys_in back) (ap is_rising (sym (keys-append (front ++ entry ∷ opened) back) ∙ ap keys_in (append_assoc front (entry ∷ opened) back)) ∙ e) in
    follows front entry opened rising

adjoin-back : (front back : List Address) → adjoin (front ++ back) ≡ true → adjoin back ≡ true
unfolding adjoin
adjoin-back [] back e = e
adjoin-back (address ∷ []) [] e = refl
adjoin-back (address ∷ []) (next ∷ back) e = (adjoin-next address next back e).1
adjoin-back (address ∷ next ∷ front) back e = adjoin-back (next ∷ front) back (adjoin-next address next (front ++ back) e).1

next-after : (before address : Address) → comes_next before address ≡ true → comes_after address before ≡ true
next-after before address e =
    let parts = and_parts _ (nat_le before.first_ordinal address.first_ordinal && nat_le address.first_ordinal (before.first_ordinal + 4294967296)) e in
    let bounds = and_parts (nat_le before.first_ordinal address.first_ordinal) (nat_le address.first_ordinal (before.first_ordinal + 4294967296)) parts.1 in
    and_from _ (nat_le before.first_ordinal address.first_ordinal) parts.0 bounds.0

first-is_block : (address : Address) (back : List Address) → adjoin (address ∷ back) ≡ true → is_block address ≡ true
unfolding adjoin
first-is_block address [] e = e
first-is_block address (next ∷ back) e = (and_parts (is_block address) (comes_next address next && adjoin (next ∷ back)) e).0

last-accepts : (front : List Address) (address : Address) (back : List Address) → adjoin (front ++ address ∷ back) ≡ true → last_is (comes_after address) front ≡ true
last-accepts [] address back e = refl
last-accepts (before ∷ []) address back e = next-after before address (adjoin-next before address back e).0
last-accepts (before ∷ next ∷ front) address back e = last-accepts (next ∷ front) address back (adjoin-next before next (front ++ address ∷ back) e).1

pub accepts-next : (front opened : List Address) (address : Address) (back : List Address) → adjoin (front ++ (opened ++ address ∷ back)) ≡ true → index.accepts (Listed opened) address ≡ true
unfolding index
accepts-next front opened address back e =
    let inner = adjoin-back front (opened ++ address ∷ back) e in
    let fits = first-is_block address back (adjoin-back opened (address ∷ back) inner) in
    and_from (nat_le address.start address.end) _ (and_parts (nat_le address.start address.end) _ fits).0 (last-accepts opened address back inner)

-- ---- how long a block is

groups-short : (k n : ℕ) → length (groups k n) ≤ k
unfolding groups
groups-short zero n = omega arith
groups-short (suc k) n = by (nat_lt n 128) (groups-short k (n / 128))
  where
    by : (t : Bool) → length (groups k (n / 128)) ≤ k → length (if t then n ∷ [] else (128 + n % 128) ∷ groups k (n / 128)) ≤ suc k
    by true short = omega arith
    by false short = omega (arith, short)

vint-short : (n : ℕ) → length (vint n) ≤ 10
unfolding vint
vint-short n = groups-short 10 n

addresses-short : (ordinal : ℕ) (blocks : List Address) → length (addresses ordinal blocks) ≤ 20 * length blocks
unfolding addresses
addresses-short ordinal [] = omega arith
addresses-short ordinal (address ∷ blocks) =
    let first = vint-short (address.end - address.start) in
    let second = vint-short (address.first_ordinal - ordinal) in
    let others = addresses-short address.first_ordinal blocks in
    let whole : addresses ordinal (address ∷ blocks) ≡ (vint (address.end - address.start) ++ vint (address.first_ordinal - ordinal)) ++ addresses address.first_ordinal blocks = refl in
    omega (arith, ap length whole, first, second, others, length-append (vint (address.end - address.start) ++ vint (address.first_ordinal - ordinal)) (addresses address.first_ordinal blocks), length-append (vint (address.end - address.start)) (vint (address.first_ordinal - ordinal)))

spelled-short : (blocks : List Address) → length (index.spelled (Listed blocks)) ≤ 20 + 20 * length blocks
unfolding index
spelled-short blocks =
    let first = vint-short (length blocks) in
    let second = vint-short (first_start blocks) in
    let others = addresses-short 0 blocks in
    let whole : index.spelled (Listed blocks) ≡ (vint (length blocks) ++ vint (first_start blocks)) ++ addresses 0 blocks = refl in
    omega (arith, ap length whole, first, second, others, length-append (vint (length blocks) ++ vint (first_start blocks)) (addresses 0 blocks), length-append (vint (length blocks)) (vint (first_start blocks)))

delta-size : (d : Delta) → (0 < length (delta d)) × (length (delta d) ≤ 21 + length d.suffix)
delta-size d = by (nat_lt d.keep 16 && nat_lt (length d.suffix) 16)
  where
    by : (t : Bool) → (0 < length ((if t then (d.keep + 16 * length d.suffix) ∷ [] else 1 ∷ (vint d.keep ++ vint (length d.suffix))) ++ d.suffix))
        × (length ((if t then (d.keep + 16 * length d.suffix) ∷ [] else 1 ∷ (vint d.keep ++ vint (length d.suffix))) ++ d.suffix) ≤ 21 + length d.suffix)
    by true = (omega arith, omega arith)
    by false =
        let first = vint-short d.keep in
        let second = vint-short (length d.suffix) in
        (omega arith, omega (arith, first, second, length-append (vint d.keep) (vint (length d.suffix)), length-append (1 ∷ (vint d.keep ++ vint (length d.suffix))) d.suffix))

deltas-fit : (before : Key) (keys : List Key) → length keys ≤ length (flat_map delta (deltas_between before keys))
unfolding deltas_between
deltas-fit before [] = omega arith
deltas-fit before (key ∷ keys) =
    let here = (delta-size (delta_between before key)).0 in
    let others = deltas-fit key keys in
    omega (arith, here, others, length-append (delta (delta_between before key)) (flat_map delta (deltas_between key keys)))

-- an open block has no more entries than bytes of deltas
pub entries-fit : {W : Type 0} (state : WriterState W Address) (opened : List IndexEntry) → IsOpen state opened → length opened ≤ length state.deltas
entries-fit state opened is = omega (arith, deltas-fit [] (keys_in opened), ap length is.spelled, length-map opened (λ (entry : IndexEntry). entry.0))

-- no block is too long whose deltas are few
pub not_long : {W : Type 0} (state : WriterState W Address) (opened : List IndexEntry) → IsOpen state opened → state.values ≡ Listed (addresses_in opened) → length state.deltas ≤ 100000 → length (content index state) + 1 < length_limit
not_long state opened is stored small =
    let spelled = spelled-short (addresses_in opened) in
    let count = entries-fit state opened is in
    let same : length (content index state) ≡ length (index.spelled (Listed (addresses_in opened))) + length state.deltas =
    length-append (index.spelled state.values) state.deltas ∙ ap (λ vs. length (index.spelled vs) + length state.deltas) stored in
    omega (arith, same, spelled, count, small, length-map opened (λ (entry : IndexEntry). entry.1))

-- ---- one more entry

-- the entry at a place, and those behind it
pub record IsEntry (entries : List IndexEntry) (i : ℕ) (entry : IndexEntry) : Type 0 where
  pub here : drop i entries ≡ entry ∷ drop (i + 1) entries
  pub key : get_or (keys_in entries) i [] ≡ entry.0
  pub address : drop i (addresses_in entries) ≡ entry.1 ∷ drop (i + 1) (addresses_in entries)

entry-found : (entries : List IndexEntry) (i : ℕ) → i < length entries
    → (entry : IndexEntry) × (drop i entries ≡ entry ∷ drop (suc i) entries) × (get_or (keys_in entries) i [] ≡ entry.0) × (drop i (addresses_in entries) ≡ entry.1 ∷ drop (suc i) (addresses_in entries))
entry-found [] i within = absurd (omega (arith, within))
entry-found (entry ∷ entries) zero within = (entry, refl, refl, refl)
entry-found (entry ∷ entries) (suc i) within = entry-found entries i (omega (arith, within))

pub entry-at : (entries : List IndexEntry) (i : ℕ) → i < length entries → (entry : IndexEntry) × IsEntry entries i entry
entry-at entries i within =
    let found = entry-found entries i within in
    let n : suc i ≡ i + 1 = omega arith in (
      found.0,
      record {
        here = found.1 ∙ ap (λ m. found.0 ∷ drop m entries) n;
        key = found.2;
        address = found.3 ∙ ap (λ m. found.0.1 ∷ drop m (addresses_in entries)) n;
      },
    )

heads : (a b : Address) (xs ys : List Address) → a ∷ xs ≡ b ∷ ys → a ≡ b
heads a b xs ys e = cc

-- What is to come for a writer: the next entry, behind those of the open block.
pub record IsToCome {W : Type 0} (entries : List IndexEntry) (i : ℕ) (last : Key) (state : WriterState W Address) (key : Key) (address : Address) : Type 0 where
  pub has : HasWritten entries i last state
  pub place : entries_of has.blocks ++ (has.opened ++ (key, address) ∷ drop (i + 1) entries) ≡ entries
  pub next : (keep : ℕ) (suffix : List ℕ) → keep ≡ shared last key → suffix ≡ drop keep key → IsNext has.opened keep suffix key
  pub accepted : index.accepts state.values address ≡ true
  pub follow : may_follow (last_key (entries_of has.blocks)) (has.opened ++ (key, address) ∷ []) ≡ true
  pub short : length key ≤ longest_key

pub to_come : {W : Type 0} (entries : List IndexEntry) (i : ℕ) (last : Key) (state : WriterState W Address) (key : Key) (address : Address) → HasWritten entries i last state → i < length entries → are_rising entries ≡ true → AreShort entries
    → adjoin (addresses_in entries) ≡ true → key ≡ get_or (keys_in entries) i [] → drop i (addresses_in entries) ≡ address ∷ drop (i + 1) (addresses_in entries) → IsToCome entries i last state key address
to_come {W} entries i last state key address has within rising short adjoining key_is address_is =
    let (entry, at) = entry-at entries i within in
    let front = entries_of has.blocks in
    let back = drop (i + 1) entries in
    let is_key : key ≡ entry.0 = key_is ∙ at.key in
    let is_address : address ≡ entry.1 = heads _ _ _ _ (sym address_is ∙ at.address) in
    let same : (key, address) ≡ entry = ap (λ k. (k, address)) is_key ∙ ap (λ a. (entry.0, a)) is_address in
    let place : front ++ (has.opened ++ (key, address) ∷ back) ≡ entries = ap (λ e. front ++ (has.opened ++ e ∷ back)) same ∙ ap (λ es. front ++ (has.opened ++ es)) (sym at.here) ∙ has.all in
    let all_rise : are_rising (front ++ (has.opened ++ (key, address) ∷ back)) ≡ true = ap are_rising place ∙ rising in
    let opened_rise : is_rising (keys_in has.opened ++ key ∷ []) ≡ true =
    rising-front (keys_in has.opened ++ key ∷ []) (keys_in back) (
    ap is_rising (append_assoc (keys_in has.opened) (key ∷ []) (keys_in back) ∙ sym (keys-append has.opened ((key, address) ∷ back)))
    ∙ rising-back (keys_in front) (keys_in (has.opened ++ (key, address) ∷ back)) (ap is_rising (sym (keys-append front (has.opened ++ (key, address) ∷ back))) ∙ all_rise)) in
    let addresses_is : addresses_in front ++ (addresses_in has.opened ++ address ∷ addresses_in back) ≡ addresses_in entries =
    ap (λ as'. addresses_in front ++ as') (sym (addresses-append has.opened ((key, address) ∷ back))) ∙ sym (addresses-append front (has.opened ++ (key, address) ∷ back)) ∙ ap addresses_in place in
    record {
      has = has;
      place = place;
      next = λ keep suffix kept adds. record { rising = opened_rise; keep_all = kept ∙ ap (λ k. shared k key) (sym has.last_opened); adds = adds };
      accepted = ap (λ vs. index.accepts vs address) has.stored ∙ accepts-next (addresses_in front) (addresses_in has.opened) address (addresses_in back) (ap adjoin addresses_is ∙ adjoining);
      follow = follows-some front (has.opened ++ (key, address) ∷ []) back (omega (arith, length-append has.opened ((key, address) ∷ [])))
          (ap (λ es. are_rising (front ++ es)) (append_assoc has.opened ((key, address) ∷ []) back) ∙ all_rise);
      short = subst (λ k. length k ≤ longest_key) (sym key_is) (All-get_or (λ k. length k ≤ longest_key) (keys_in entries) i [] (omega (arith, within, length-map entries (λ (e : IndexEntry). e.0))) short);
    }

-- The entry is in the open block.
pub record IsAdded {W : Type 0} (entries : List IndexEntry) (i : ℕ) (last : Key) (old state : WriterState W Address) (key : Key) (address : Address) : Type 0 where
  pub come : IsToCome entries i last old key address
  pub opened : IsOpen state (come.has.opened ++ (key, address) ∷ [])
  pub stored : state.values ≡ Listed (addresses_in (come.has.opened ++ (key, address) ∷ []))
  pub bounded : length state.deltas ≤ 70000
  pub written : state.written ≡ old.written
  pub block_len : state.block_len ≡ old.block_len

gains-listed : (old new : Values Address) (opened : List Address) (address : Address) → old ≡ Listed opened → Gains old address new → new ≡ Listed (opened ++ address ∷ [])
gains-listed old new opened address is gains = subst (λ vs. Gains vs address new) is gains

pub added : {W : Type 0} (entries : List IndexEntry) (i : ℕ) (last : Key) (old new : WriterState W Address) (key : Key) (address : Address) (keep : ℕ) (suffix : List ℕ) → IsToCome entries i last old key address
    → keep ≡ shared last key → suffix ≡ drop keep key → AddsEntry old new keep suffix address → new.deltas ≡ (with_delta old keep suffix).deltas → Gains old.values address new.values
    → new ≡ record old { deltas = new.deltas; values = new.values } → IsAdded entries i last old new key address
added {W} entries i last old new key address keep suffix come kept adds adds_entry deltas gains others =
    let size = (delta-size (record { keep = keep; suffix = suffix })).1 in
    record {
      come = come;
      opened = adds_entry come.has.opened key come.has.open_block (come.next keep suffix kept adds);
      stored = gains-listed old.values new.values (addresses_in come.has.opened) address come.has.stored gains ∙ ap Listed (sym (addresses-append come.has.opened ((key, address) ∷ [])));
      bounded = omega (arith, ap length deltas, length-append old.deltas (delta (record { keep = keep; suffix = suffix })), come.has.small, size, ap length adds, length-drop keep key, come.short);
      written = ap (λ (s : WriterState W Address). s.written) others;
      block_len = ap (λ (s : WriterState W Address). s.block_len) others;
    }

last-of : (opened : List IndexEntry) (key : Key) (address : Address) → unwrap_or (last_key (opened ++ (key, address) ∷ [])) [] ≡ key
last-of [] key address = refl
last-of (entry ∷ []) key address = refl
last-of (entry ∷ next ∷ opened) key address = last-of (next ∷ opened) key address

-- the block isn't closed
pub goes_on : {W : Type 0} (entries : List IndexEntry) (i : ℕ) (last : Key) (old middle new : WriterState W Address) (key : Key) (address : Address) → IsAdded entries i last old middle key address → new ≡ middle
    → length middle.deltas ≤ middle.block_len → HasWritten entries (i + 1) key new
goes_on {W} entries i last old middle new key address is same few = subst (λ s. HasWritten entries (i + 1) key s) (sym same) (record {
  bytes = is.come.has.bytes;
  blocks = is.come.has.blocks;
  opened = is.come.has.opened ++ (key, address) ∷ [];
  told = is.written ∙ is.come.has.told;
  run = is.come.has.run;
  all = ap (λ es. entries_of is.come.has.blocks ++ es) (append_assoc is.come.has.opened ((key, address) ∷ []) (drop (i + 1) entries)) ∙ is.come.place;
  open_block = is.opened;
  last_opened = last-of is.come.has.opened key address;
  stored = is.stored;
  small = omega (arith, few, is.block_len, is.come.has.same_len);
  same_len = is.block_len ∙ is.come.has.same_len;
})

-- what a sink in memory tells grows by what is appended
told-more : (old new : Option (List ℕ)) (bytes more : List ℕ) → old ≡ Some bytes → Appends old new more → new ≡ Some (bytes ++ more)
told-more None new bytes more told all = absurd cc
told-more (Some xs) None bytes more told all = absurd all
told-more (Some xs) (Some ys) bytes more told all = ap Some (all ∙ ap (λ bs. bs ++ more) (some_is _ _ told))

same-index : record index { goes_on = true } ≡ index
unfolding index
same-index = refl

entries-more : (blocks : List (Block Address)) (one : Block Address) → entries_of (blocks ++ one ∷ []) ≡ entries_of blocks ++ one.entries
entries-more blocks one = flat_map-append (λ (b : Block Address). b.entries) blocks (one ∷ []) ∙ ap (λ es. entries_of blocks ++ es) (append-nil one.entries)

run-after : {W : Type 0} (state : WriterState W Address) (bytes : List ℕ) (blocks : List (Block Address)) (opened : List IndexEntry) → AddsToRun index state → IsOpen state opened
    → whole_run_of index bytes ≡ Some (record { blocks = blocks; rest = [] }) → may_follow (last_key (entries_of blocks)) opened ≡ true
    → whole_run_of index (bytes ++ block (content index state)) ≡ Some (record { blocks = blocks ++ record { content = content index state; entries = opened } ∷ []; rest = [] })
run-after state bytes blocks opened adds is run follow =
    ap (λ codec. whole_run_of codec (bytes ++ block (content index state))) (sym same-index)
    ∙ adds true bytes blocks opened is (ap (λ codec. whole_run_of codec bytes) same-index ∙ run) follow

no_values-index : no_values index ≡ Listed []
unfolding index
no_values-index = refl

-- the block is closed
pub closed : {W : Type 0} (entries : List IndexEntry) (i : ℕ) (last : Key) (old middle new : WriterState W Address) (key : Key) (address : Address) (range : Range ℕ) → IsAdded entries i last old middle key address
    → WritesBlock index middle new range → AddsToRun index middle → IsOpen new [] → HasWritten entries (i + 1) [] new
closed {W} entries i last old middle new key address range is writes adds empty =
    let opened = is.come.has.opened ++ (key, address) ∷ [] in
    let one : Block Address = record { content = content index middle; entries = opened } in
    record {
      bytes = is.come.has.bytes ++ block (content index middle);
      blocks = is.come.has.blocks ++ one ∷ [];
      opened = [];
      told = told-more middle.written new.written is.come.has.bytes (block (content index middle)) (is.written ∙ is.come.has.told) writes.appended;
      run = run-after middle is.come.has.bytes is.come.has.blocks opened adds is.opened is.come.has.run is.come.follow;
      all = ap (λ es. es ++ drop (i + 1) entries) (entries-more is.come.has.blocks one) ∙ append_assoc (entries_of is.come.has.blocks) opened (drop (i + 1) entries)
          ∙ ap (λ es. entries_of is.come.has.blocks ++ es) (append_assoc is.come.has.opened ((key, address) ∷ []) (drop (i + 1) entries)) ∙ is.come.place;
      open_block = empty;
      last_opened = refl;
      stored = writes.no_value ∙ no_values-index;
      small = omega (arith, ap length writes.no_delta);
      same_len = writes.same_len ∙ is.block_len ∙ is.come.has.same_len;
    }

-- no block is too long
pub not-long : {W : Type 0} (state new : WriterState W Address) (opened : List IndexEntry) (e : DeltaError) → IsOpen state opened → state.values ≡ Listed (addresses_in opened) → length state.deltas ≤ 70000 → KeepsBlock index state new e → e ≢ BlockTooLong
not-long state new opened e is stored small keeps long = omega (arith, keeps.too_long long, not_long state opened is stored (omega (arith, small)))

-- ---- the last block, and the end

opened-none : {W : Type 0} (state : WriterState W Address) (opened : List IndexEntry) → IsOpen state opened → state.deltas ≡ [] → opened ≡ []
opened-none state [] is none = refl
opened-none state (entry ∷ opened) is none = absurd (omega (arith, entries-fit state (entry ∷ opened) is, ap length none))

pub run-ended : {W : Type 0} (entries : List IndexEntry) (i : ℕ) (last : Key) (state : WriterState W Address) → HasWritten entries i last state → length entries ≤ i → state.deltas ≡ []
    → (bytes : List ℕ) × (state.written ≡ Some bytes) × IsRunOf entries bytes
run-ended entries i last state has past none =
    let empty = opened-none state has.opened has.open_block none in (
      has.bytes,
      has.told,
      (
        has.blocks,
        has.run,
        sym (append-nil (entries_of has.blocks)) ∙ ap (λ es. entries_of has.blocks ++ es) (sym (ap (λ os. os ++ drop i entries) empty ∙ drop_all i entries past)) ∙ has.all,
      ),
    )

none-between : flat_map delta (deltas_between [] []) ≡ []
unfolding deltas_between
none-between = refl

some-opened : {W : Type 0} (state : WriterState W Address) (opened : List IndexEntry) → IsOpen state opened → state.deltas ≢ [] → 0 < length opened
some-opened state [] is some = absurd (some (is.spelled ∙ none-between))
some-opened state (entry ∷ opened) is some = omega arith

pub run-closed : {W : Type 0} (entries : List IndexEntry) (i : ℕ) (last : Key) (state new : WriterState W Address) (range : Range ℕ) → HasWritten entries i last state → length entries ≤ i → are_rising entries ≡ true
    → WritesBlock index state new range → AddsToRun index state → (bytes : List ℕ) × (new.written ≡ Some bytes) × IsRunOf entries bytes
run-closed entries i last state new range has past rising writes adds =
    let opened = has.opened in
    let one : Block Address = record { content = content index state; entries = opened } in
    let whole : entries_of has.blocks ++ opened ≡ entries =
    ap (λ es. entries_of has.blocks ++ es) (sym (ap (λ es. opened ++ es) (drop_all i entries past) ∙ append-nil opened)) ∙ has.all in
    let some : 0 < length opened = some-opened state opened has.open_block writes.some in
    let follow : may_follow (last_key (entries_of has.blocks)) opened ≡ true =
    follows-some (entries_of has.blocks) opened [] some (ap (λ es. are_rising (entries_of has.blocks ++ es)) (append-nil opened) ∙ ap are_rising whole ∙ rising) in (
      has.bytes ++ block (content index state),
      told-more state.written new.written has.bytes (block (content index state)) has.told writes.appended,
      (has.blocks ++ one ∷ [], run-after state has.bytes has.blocks opened adds has.open_block has.run follow, entries-more has.blocks one ∙ whole),
    )

-- ---- what the calls answer

abbrev the_none : Result (Option (Range ℕ)) DeltaError
the_none = Ok None

not_none : (range : Range ℕ) → Ok (Some range) ≡ the_none → ⊥
not_none range e = cc

not_ok : (e : DeltaError) → Err e ≡ the_none → ⊥
not_ok e same = cc

pub after-none : {W : Type 0} (entries : List IndexEntry) (i : ℕ) (last : Key) (old middle new : WriterState W Address) (key : Key) (address : Address) (r : Option (Range ℕ)) → IsAdded entries i last old middle key address → r ≡ None
    → (middle.block_len < length middle.deltas → Flushes index middle new (Ok r)) → (length middle.deltas ≤ middle.block_len → (Ok r ≡ the_none) × (new ≡ middle)) → HasWritten entries (i + 1) key new
after-none entries i last old middle new key address (Some range) is none due not_due = absurd cc
after-none entries i last old middle new key address None is none due not_due = elim (cases_lt middle.block_len (length middle.deltas)) [
  | inl long ↦ absurd (omega (arith, long, ap length (due long).0))
  | inr few ↦ goes_on entries i last old middle new key address is (not_due few).1 few
]

pub after-some : {W : Type 0} (entries : List IndexEntry) (i : ℕ) (last : Key) (old middle new : WriterState W Address) (key : Key) (address : Address) (r : Option (Range ℕ)) (range : Range ℕ) → IsAdded entries i last old middle key address → r ≡ Some range
    → (middle.block_len < length middle.deltas → Flushes index middle new (Ok r)) → (length middle.deltas ≤ middle.block_len → (Ok r ≡ the_none) × (new ≡ middle))
    → OnSome r (AddsToRun index middle) → OnSome r (IsOpen new []) → HasWritten entries (i + 1) [] new
after-some entries i last old middle new key address None range is some due not_due adds empty = absurd cc
after-some entries i last old middle new key address (Some found) range is some due not_due adds empty = elim (cases_lt middle.block_len (length middle.deltas)) [
  | inl long ↦ closed entries i last old middle new key address found is (due long) adds empty
  | inr few ↦ absurd (not_none found (not_due few).0)
]

pub after-err : {W : Type 0} (entries : List IndexEntry) (i : ℕ) (last : Key) (old middle new : WriterState W Address) (key : Key) (address : Address) (e : DeltaError) → IsAdded entries i last old middle key address
    → (middle.block_len < length middle.deltas → Flushes index middle new (Err e)) → (length middle.deltas ≤ middle.block_len → (Err e ≡ the_none) × (new ≡ middle)) → e ≢ BlockTooLong
after-err entries i last old middle new key address e is due not_due = elim (cases_lt middle.block_len (length middle.deltas)) [
  | inl long ↦ not-long middle new (is.come.has.opened ++ (key, address) ∷ []) e is.opened is.stored is.bounded (due long)
  | inr few ↦ absurd (not_ok e (not_due few).0)
]

pub memory_only : {T : Type 0} (r : Result T SstWriteError) (held : Values Address) (address : Address) (e : ValueError) → IsErr r × IsErrAnd r (λ x. x ≡ error_of_value e) → RefusesValue index held address e → index.accepts held address ≡ true
    → IfErr r (λ x. x ≡ errors.Memory)
memory_only (Ok x) held address e given refused accepted = tt
memory_only (Err x) held address values.Memory given refused accepted = given.1
memory_only (Err x) held address values.Refused given refused accepted = absurd (false≢true (sym refused ∙ accepted))

run-none : whole_run_of index [] ≡ Some (record { blocks = []; rest = [] })
unfolding whole_run_of blocks_after
run-none =
    ap (λ o. o >>= (λ (contents : List (List ℕ) × List ℕ). blocks_after index None contents.0 >>= (λ bs. Some (record { blocks = bs; rest = contents.1 }))))
    (pieces-step front_of_blocks blocks-shrink [] ∙ ap (continued (pieces front_of_blocks) []) front-none)

pub begun : {W : Type 0} (entries : List IndexEntry) (state : WriterState W Address) → state.written ≡ Some [] → state.deltas ≡ [] → state.values ≡ no_values index → state.block_len ≡ default_block_len → IsOpen state [] → HasWritten entries 0 [] state
begun entries state told none no_value len empty = record {
  bytes = [];
  blocks = [];
  opened = [];
  told = told;
  run = run-none;
  all = refl;
  open_block = empty;
  last_opened = refl;
  stored = no_value ∙ no_values-index;
  small = omega (arith, ap length none);
  same_len = len;
}

sink-is : (entries : List IndexEntry) (sink bytes : List ℕ) → Some sink ≡ Some bytes → IsRunOf entries bytes → IsRunOf entries sink
sink-is entries sink bytes e run = subst (λ bs. IsRunOf entries bs) (sym (some_is _ _ e)) run

pub finished : {W : Type 0} (entries : List IndexEntry) (i : ℕ) (last : Key) (state new : WriterState W Address) (r : Option (Range ℕ)) (sink : List ℕ) → HasWritten entries i last state → length entries ≤ i → are_rising entries ≡ true
    → Flushes index state new (Ok r) → OnSome r (AddsToRun index state) → Some sink ≡ new.written → IsRunOf entries sink
finished entries i last state new None sink has past rising flushed adds told =
    let found = run-ended entries i last state has past flushed.0 in
    sink-is entries sink found.0 (told ∙ ap (λ (s : WriterState _ Address). s.written) flushed.1 ∙ found.1) found.2
finished entries i last state new (Some range) sink has past rising flushed adds told =
    let found = run-closed entries i last state new range has past rising flushed adds in
    sink-is entries sink found.0 (told ∙ found.1) found.2

pub finish-err : {W : Type 0} (entries : List IndexEntry) (i : ℕ) (last : Key) (state new : WriterState W Address) (e : DeltaError) → HasWritten entries i last state → KeepsBlock index state new e → e ≢ BlockTooLong
finish-err entries i last state new e has keeps = not-long state new has.opened e has.open_block has.stored (omega (arith, has.small)) keeps
