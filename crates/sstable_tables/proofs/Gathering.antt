-- A writer, before and after one more entry of its open block.
use Rattle.std.proofs.Common.{◌≡◌, ℕ, ◌+◌, ◌-◌, ◌*◌, ◌^◌, ◌<◌, ◌≤◌, List, [], ◌∷◌, ◌++◌, length, drop, Bool, true, false, ◌&&◌, ◌||◌, Option, Some, None, refl, ap, sym, ◌∙◌, subst, arith, eqb, length-append}
use Rattle.std.specs.Prelude.{unwrap_or, nat_lt, if◌then◌else◌}
use Rattle.std.specs.List.{flat_map}
use Rattle.std.proofs.lemmas.Bool.{and_parts, and_from, ne_eqb, lt-ltb, ltb-true, ltb-false}
use Rattle.std.proofs.lemmas.List.{map-append, length-map}
use Rattle.owned_bytes.specs.Keys.{Key, is_below, shared}
unfoldable use Rattle.owned_bytes.specs.Keys.{is_rising}
use Rattle.owned_bytes.specs.Reader.{give}
use Rattle.sstable_values.specs.Vint.{vint}
use Rattle.sstable_values.specs.Values.{Values, Listed, Gains}
use Rattle.sstable_values.specs.Codec.{Codec, everywhere_or_none, no_values}
use Rattle.sstable_values.specs.Writes.{RefusesValue}
use Rattle.sstable_values.specs.declared.errors.ValueError.{ValueError}
use Rattle.sstable_values.specs.declared.errors.ValueError.TheVariants as values
use Rattle.sstable_blocks.specs.Delta.{Delta}
use Rattle.sstable_blocks.specs.Block.{delta, delta_between}
unfoldable use Rattle.sstable_blocks.specs.Block.{deltas_between, paired, block_of}
use Rattle.sstable_blocks.specs.Run.{last_key}
use Rattle.sstable_blocks.specs.Writing.{WriterState, keys_in, IsOpen, AddsEntry, default_block_len}
use Rattle.sstable_blocks.proofs.WritingLaws.{block_written}
use Rattle.sstable_format.specs.Index.{IndexEntry}
use Rattle.sstable_index.specs.Errors.{error_of_value}
use Rattle.sstable_index.specs.Building.{with_last_key_shortened}
use Rattle.sstable_index.specs.declared.write_errors.SstWriteError.{SstWriteError}
use Rattle.sstable_tables.specs.Making.{Begins, Adds, IsTaken, Refuses, may_come, values_by, deltas_of, HasSmallBlocks}
use Rattle.sstable_tables.specs.Made.{open_entries, last_inserted, ends_below, MayStart, made, Stands, IsMaking}
unfoldable use Rattle.sstable_tables.specs.Made.{entries_by}
use Rattle.sstable_tables.proofs.IndexLaws.{IndexNext, index-next}
use Rattle.sstable_tables.proofs.Blocks.{closed-same, closed-none}

pub delta-some : (d : Delta) → 0 < length (delta d)
delta-some d = elim (nat_lt d.keep 16 && nat_lt (length d.suffix) 16) as (λ b. 0 < length ((if b then (d.keep + 16 * length d.suffix) ∷ [] else 1 ∷ (vint d.keep ++ vint (length d.suffix))) ++ d.suffix)) [
  | true ↦ omega arith
  | false ↦ omega arith
]

-- each delta takes a byte
deltas-fit : (before : Key) (keys : List Key) → length keys ≤ length (flat_map delta (deltas_between before keys))
unfolding deltas_between
deltas-fit before [] = omega arith
deltas-fit before (key ∷ keys) =
    let here = delta-some (delta_between before key) in
    let others = deltas-fit key keys in
    omega (arith, here, others, length-append (delta (delta_between before key)) (flat_map delta (deltas_between key keys)))

-- the open block has no more entries than bytes of deltas
pub entries-fit : {W V : Type 0} (state : WriterState W V) (entries : List (Key × V)) → IsOpen state entries → length entries ≤ length state.deltas
entries-fit state entries is = omega (arith, deltas-fit [] (keys_in entries), ap length is.spelled, length-map entries (λ (entry : Key × _). entry.0))

-- a codec of no bytes, which has these values
holding : {V : Type 0} → Values V → Codec V
holding values = record { values_of = give values; spelled = λ _. []; accepts = λ _ _. true; everywhere = None; goes_on = false }

-- the entries of an open block are found in its bytes
open-found : {W V : Type 0} (state : WriterState W V) (deltas : List ℕ) (entries : List (Key × V)) → state.deltas ≡ deltas → IsOpen state entries → length deltas < 2 ^ 64 → entries_by state.values deltas ≡ Some entries
unfolding entries_by deltas_between paired block_of holding
open-found state [] [] same is short = is.paired
open-found state [] (entry ∷ entries) same is short =
    let some = delta-some (delta_between [] entry.0) in
    let whole = length-append (delta (delta_between [] entry.0)) (flat_map delta (deltas_between entry.0 (keys_in entries))) in
    absurd (omega (arith, some, whole, ap length (sym same ∙ is.spelled)))
open-found state (b ∷ deltas) entries same is short =
    ap (λ bytes. block_of (holding state.values) [] bytes) (sym same)
    ∙ block_written (holding state.values) state entries [] is (λ none. absurd (omega (arith, ap length (sym same ∙ none)))) (omega (arith, ap length same, short)) (λ rest. refl)

pub open-is : {W V : Type 0} (state : WriterState W V) (entries : List (Key × V)) → IsOpen state entries → length state.deltas < 2 ^ 64 → open_entries state ≡ entries
open-is state entries is short = ap (λ found. unwrap_or found []) (open-found state state.deltas entries refl is short)

pub open-again : {W V : Type 0} (state : WriterState W V) (entries : List (Key × V)) → IsOpen state entries → length state.deltas < 2 ^ 64 → IsOpen state (open_entries state)
open-again state entries is short = subst (λ es. IsOpen state es) (sym (open-is state entries is short)) is

-- ---- a new writer

pub none-by : {V : Type 0} (everywhere : Option V) → everywhere_or_none everywhere ≡ values_by everywhere []
none-by None = refl
none-by (Some value) = refl

pub open-none : {W V : Type 0} (state : WriterState W V) → IsOpen state [] → (state.deltas ≡ []) × (open_entries state ≡ [])
unfolding deltas_between
open-none state is = let none : state.deltas ≡ [] = is.spelled in (none, open-is state [] is (omega (arith, ap length none)))

pub making-none : {W V : Type 0} (codec : Codec V) (written : W → Option (List ℕ)) (faults : W → ℕ) (state : WriterState W V) → IsOpen state [] → state.values ≡ no_values codec → state.counted ≡ 0
    → state.written ≡ written state.sink → state.faults ≡ faults state.sink → IsMaking codec written faults state [] [] 0 0 None
unfolding is_rising
making-none codec written faults state is no_value counted told failed =
    let none = open-none state is in
    let same = none.1 in
    record {
      told = told;
      failed = failed;
      final = tt;
      stands = λ ready. record {
        open_block = subst (λ es. IsOpen state es) (sym same) is;
        values = no_value ∙ none-by codec.everywhere ∙ ap (values_by codec.everywhere) (sym same);
        fits = omega (arith, ap length none.0);
        count = omega (arith, ap length same);
        last = ap last_key same;
        small = omega (arith, counted);
        few = omega arith;
        rising = refl;
        below = refl;
        last_block = λ e. refl;
        next_block = tt;
      };
    }

pub begins-none : {W V : Type 0} (codec : Codec V) (state : WriterState W V) (previous : Key) (sink : W) → IsOpen state [] → state.sink ≡ sink → state.counted ≡ 0 → state.block_len ≡ default_block_len
    → Begins (made codec state [] previous 0 0 None) sink
begins-none codec state previous sink is same counted len = record {
  closed = closed-none codec state counted;
  gathered = (open-none state is).1;
  last = refl;
  count = refl;
  block_len = len;
  ready = refl;
  index = refl;
  counted = counted;
  same_sink = same;
}

pub small-none : {W V : Type 0} (codec : Codec V) (state : WriterState W V) (previous : Key) (sink : W) → IsOpen state [] → state.counted ≡ 0 → HasSmallBlocks (made codec state [] previous 0 0 None)
unfolding deltas_between
small-none codec state previous sink is counted =
    let none : length (deltas_of (open_entries state)) ≡ 0 = ap (λ es. length (deltas_of es)) (open-none state is).1 in
    record { blocks = []; closed = closed-none codec state counted; small = tt; open_small = omega (arith, none) }

-- ---- one more entry

-- a key above the last one goes on rising keys
pub rising-more : {V : Type 0} (entries : List (Key × V)) (key : Key) (v : V) → is_rising (keys_in entries) ≡ true → may_come (last_key entries) key ≡ true → is_rising (keys_in entries ++ key ∷ []) ≡ true
unfolding is_rising
rising-more [] key v rising comes = refl
rising-more (entry ∷ []) key v rising comes = and_from (is_below entry.0 key) (is_rising (key ∷ [])) comes refl
rising-more (entry ∷ next ∷ entries) key v rising comes =
    let parts = and_parts (is_below entry.0 next.0) (is_rising (keys_in (next ∷ entries))) rising in
    and_from (is_below entry.0 next.0) (is_rising (keys_in (next ∷ entries) ++ key ∷ [])) parts.0 (rising-more (next ∷ entries) key v parts.1 comes)

pub last-more : {V : Type 0} (entries : List (Key × V)) (key : Key) (v : V) → last_key (entries ++ (key, v) ∷ []) ≡ Some key
last-more [] key v = refl
last-more (entry ∷ []) key v = refl
last-more (entry ∷ next ∷ entries) key v = last-more (next ∷ entries) key v

-- the test that a writer makes
pub comes-by : (n : ℕ) (previous key : Key) → (eqb n 0 || is_below previous key) ≡ may_come (last_inserted n previous) key
comes-by n previous key = elim (eqb n 0) as (λ b. (b || is_below previous key) ≡ may_come (if b then None else Some previous) key) [ true ↦ refl | false ↦ refl ]

pub last_inserted-some : (n : ℕ) (key : Key) → 0 < n → last_inserted n key ≡ Some key
last_inserted-some n key some = ap (λ b. if b then None else Some key) (ne_eqb n 0 (λ none. absurd (omega (arith, some, none))))

-- the values after one more
gains-by : {V : Type 0} (everywhere : Option V) (entries : List (Key × V)) (values new : Values V) (key : Key) (v : V) → values ≡ values_by everywhere entries → Gains values v new → new ≡ values_by everywhere (entries ++ (key, v) ∷ [])
gains-by {V} everywhere entries values new key v is gains = by everywhere (subst (λ vs. Gains vs v new) is gains)
  where
    by : (everywhere : Option V) → Gains (values_by everywhere entries) v new → new ≡ values_by everywhere (entries ++ (key, v) ∷ [])
    by None gains = gains ∙ ap Listed (sym (map-append (λ (entry : Key × V). entry.1) entries ((key, v) ∷ [])))
    by (Some value) gains = gains.0

pub keys-more : {V : Type 0} (entries : List (Key × V)) (key : Key) (v : V) → keys_in (entries ++ (key, v) ∷ []) ≡ keys_in entries ++ key ∷ []
keys-more entries key v = map-append (λ entry. entry.0) entries ((key, v) ∷ [])

-- an entry was written to the open block
pub record Writes {W V : Type 0} (old new : WriterState W V) (index index' : List IndexEntry) (previous key : Key) (n m first keep : ℕ) (begun : Bool) (suffix : List ℕ) (v : V) : Type 0 where
  pub begins : begun ≡ nat_lt first n
  pub comes : may_come (last_inserted n previous) key ≡ true
  pub kept : keep ≡ shared (if begun then previous else []) key
  pub adds : suffix ≡ drop keep key
  pub opened : AddsEntry old new keep suffix v
  pub fits : length new.deltas < 2 ^ 64
  pub gains : Gains old.values v new.values
  pub others : new ≡ record old { deltas = new.deltas; values = new.values }
  pub count : m ≡ n + 1
  pub few : n < 2 ^ 64 - 1
  pub shortens : index' ≡ (if begun then index else with_last_key_shortened index key)

last-begun : (found : Option Key) (begun : Bool) (first n : ℕ) (previous : Key) → begun ≡ nat_lt first n → found ≡ (if nat_lt first n then Some previous else None) → found ≡ (if begun then Some previous else None)
last-begun found begun first n previous same is = is ∙ ap (λ b. if b then Some previous else None) (sym same)

-- a key that comes after the last one that was inserted comes after the last one of the open block
follows-by : (begun : Bool) (found : Option Key) (previous key : Key) (first n : ℕ) → found ≡ (if begun then Some previous else None) → begun ≡ nat_lt first n → may_come (last_inserted n previous) key ≡ true → may_come found key ≡ true
follows-by false found previous key first n is same comes = ap (λ f. may_come f key) is
follows-by true found previous key first n is same comes =
    let some : first < n = ltb-true first n (sym same) in
    ap (λ f. may_come f key) is ∙ ap (λ l. may_come l key) (sym (last_inserted-some n previous (omega (arith, some)))) ∙ comes

kept-by : (begun : Bool) (found : Option Key) (previous : Key) → found ≡ (if begun then Some previous else None) → (if begun then previous else []) ≡ unwrap_or found []
kept-by false found previous is = ap (λ f. unwrap_or f []) (sym is)
kept-by true found previous is = ap (λ f. unwrap_or f []) (sym is)

opened-more : {W V : Type 0} (codec : Codec V) (old new : WriterState W V) (index index' : List IndexEntry) (previous key : Key) (n m first keep : ℕ) (begun : Bool) (suffix : List ℕ) (v : V)
    → Stands codec old index previous n first → Writes old new index index' previous key n m first keep begun suffix v → IsOpen new (open_entries old ++ (key, v) ∷ [])
opened-more codec old new index index' previous key n m first keep begun suffix v is w =
    let found = last-begun (last_key (open_entries old)) begun first n previous w.begins is.last in
    w.opened (open_entries old) key is.open_block (record {
      rising = rising-more (open_entries old) key v is.open_block.rising (follows-by begun (last_key (open_entries old)) previous key first n found w.begins w.comes);
      keep_all = w.kept ∙ ap (λ k. shared k key) (kept-by begun (last_key (open_entries old)) previous found);
      adds = w.adds;
    })

pub gathers : {W V : Type 0} (codec : Codec V) (old new : WriterState W V) (index index' : List IndexEntry) (previous key : Key) (n m first keep : ℕ) (begun : Bool) (suffix : List ℕ) (v : V)
    → Stands codec old index previous n first → Writes old new index index' previous key n m first keep begun suffix v → open_entries new ≡ open_entries old ++ (key, v) ∷ []
gathers codec old new index index' previous key n m first keep begun suffix v is w =
    open-is new (open_entries old ++ (key, v) ∷ []) (opened-more codec old new index index' previous key n m first keep begun suffix v is w) w.fits

next-is : {W V : Type 0} (codec : Codec V) (old new : WriterState W V) (index index' : List IndexEntry) (previous key : Key) (n m first keep : ℕ) (begun : Bool) (suffix : List ℕ) (v : V)
    → Stands codec old index previous n first → Writes old new index index' previous key n m first keep begun suffix v → IndexNext index index' (open_entries old) key v
next-is codec old new index index' previous key n m first keep begun suffix v is w =
    index-next begun index index' (open_entries old) previous key (last_inserted n previous) v w.shortens (last-begun (last_key (open_entries old)) begun first n previous w.begins is.last)
    (λ no. let late : n ≤ first = ltb-false first n (sym w.begins ∙ no) in is.last_block (omega (arith, late, is.count)))
    w.comes is.rising is.below

stands-more : {W V : Type 0} (codec : Codec V) (old new : WriterState W V) (index index' : List IndexEntry) (previous key : Key) (n m first keep : ℕ) (begun : Bool) (suffix : List ℕ) (v : V)
    → Stands codec old index previous n first → Writes old new index index' previous key n m first keep begun suffix v → Stands codec new index' key m first
stands-more codec old new index index' previous key n m first keep begun suffix v is w =
    let opened = opened-more codec old new index index' previous key n m first keep begun suffix v is w in
    let more = gathers codec old new index index' previous key n m first keep begun suffix v is w in
    let next = next-is codec old new index index' previous key n m first keep begun suffix v is w in
    let counted : new.counted ≡ old.counted = ap (λ (s : WriterState _ _). s.counted) w.others in
    let size = length-append (open_entries old) ((key, v) ∷ []) in
    record {
      open_block = open-again new (open_entries old ++ (key, v) ∷ []) opened w.fits;
      values = gains-by codec.everywhere (open_entries old) old.values new.values key v is.values w.gains ∙ ap (values_by codec.everywhere) (sym more);
      fits = w.fits;
      count = omega (arith, w.count, is.count, ap length more, size);
      last = ap last_key more ∙ last-more (open_entries old) key v ∙ sym (ap (λ b. if b then Some key else None) (lt-ltb first m (omega (arith, w.count, is.count))));
      small = omega (arith, counted, is.small);
      few = omega (arith, w.count, w.few);
      rising = next.rising;
      below = ap (ends_below index') more ∙ next.below;
      last_block = λ e. absurd (omega (arith, e, w.count, is.count));
      next_block = next.starts new.counted first (subst (λ c. MayStart index c first) (sym counted) is.next_block);
    }

-- a writer stands well after one more entry
pub making-more : {W V : Type 0} (codec : Codec V) (written : W → Option (List ℕ)) (faults : W → ℕ) (old new : WriterState W V) (index index' : List IndexEntry) (previous key next : Key) (n m first keep : ℕ) (begun : Bool) (refusal : Option SstWriteError) (suffix : List ℕ) (v : V)
    → IsMaking codec written faults old index previous n first refusal → refusal ≡ None → Writes old new index index' previous key n m first keep begun suffix v → next ≡ key → IsMaking codec written faults new index' next m first refusal
making-more codec written faults old new index index' previous key next n m first keep begun refusal suffix v is ready w same = record {
  told = ap (λ (s : WriterState _ _). s.written) w.others ∙ is.told ∙ ap (λ (s : WriterState _ _). written s.sink) (sym w.others);
  failed = ap (λ (s : WriterState _ _). s.faults) w.others ∙ is.failed ∙ ap (λ (s : WriterState _ _). faults s.sink) (sym w.others);
  final = is.final;
  stands = λ r. subst (λ k. Stands codec new index' k m first) (sym same) (stands-more codec old new index index' previous key n m first keep begun suffix v (is.stands ready) w);
}

-- what a writer shows then
pub adds-more : {W V : Type 0} (codec : Codec V) (written : W → Option (List ℕ)) (faults : W → ℕ) (old new : WriterState W V) (index index' : List IndexEntry) (previous key next : Key) (n m first keep : ℕ) (begun : Bool) (refusal : Option SstWriteError) (suffix : List ℕ) (v : V)
    → IsMaking codec written faults old index previous n first refusal → refusal ≡ None → Writes old new index index' previous key n m first keep begun suffix v → next ≡ key
    → Adds (made codec old index previous n first refusal) (made codec new index' next m first refusal) key v
adds-more codec written faults old new index index' previous key next n m first keep begun refusal suffix v is ready w same =
    let stands = is.stands ready in
    let more = gathers codec old new index index' previous key n m first keep begun suffix v stands w in
    let opened = opened-more codec old new index index' previous key n m first keep begun suffix v stands w in
    let next_index = next-is codec old new index index' previous key n m first keep begun suffix v stands w in
    let adds : Adds (made codec old index previous n first refusal) (made codec new index' key m first refusal) key v = record {
      gathered = more;
      last = last_inserted-some m key (omega (arith, w.count));
      count = w.count;
      index = next_index.before;
      closed = closed-same codec old new index index' first w.others next_index.points next_index.reached;
      fits = omega (arith, ap length opened.spelled, ap (λ es. length (deltas_of es)) more, w.fits);
      others = ap (λ (s : WriterState _ _). record (made codec new index' key m first refusal) { block_len = s.block_len; counted = s.counted; sink = s.sink }) w.others;
    } in
    subst (λ k. Adds (made codec old index previous n first refusal) (made codec new index' k m first refusal) key v) (sym same) adds

-- the codec took no value, or had no memory
pub refuses-value : {W V : Type 0} (codec : Codec V) (written : W → Option (List ℕ)) (faults : W → ℕ) (old : WriterState W V) (index : List IndexEntry) (previous key : Key) (n first : ℕ) (refusal : Option SstWriteError) (v : V) (e : ValueError)
    → IsMaking codec written faults old index previous n first refusal → refusal ≡ None → may_come (last_inserted n previous) key ≡ true → RefusesValue codec old.values v e → Refuses codec (made codec old index previous n first refusal) key v (error_of_value e)
refuses-value codec written faults old index previous key n first refusal v values.Memory is ready comes refuses = (ready, comes)
refuses-value codec written faults old index previous key n first refusal v values.Refused is ready comes refuses = (ready, comes, ap (λ vs. codec.accepts vs v) (sym (is.stands ready).values) ∙ refuses)

-- the entry was taken
pub is-taken : {W V : Type 0} (codec : Codec V) (written : W → Option (List ℕ)) (faults : W → ℕ) (old : WriterState W V) (index : List IndexEntry) (previous key : Key) (n first : ℕ) (refusal : Option SstWriteError) (v : V)
    → IsMaking codec written faults old index previous n first refusal → refusal ≡ None → may_come (last_inserted n previous) key ≡ true → codec.accepts old.values v ≡ true → IsTaken codec (made codec old index previous n first refusal) key v
is-taken codec written faults old index previous key n first refusal v is ready comes taken = record { ready = ready; after = comes; accepted = ap (λ vs. codec.accepts vs v) (sym (is.stands ready).values) ∙ taken }

pub not_some : {A : Type 0} (o : Option A) → ((x : A) → ¬ (o ≡ Some x)) → o ≡ None
not_some None h = refl
not_some (Some x) h = absurd (h x refl)
