-- A writer, before and after its open block is closed.
use Rattle.std.proofs.Common.{◌≡◌, ◌≢◌, ℕ, ◌+◌, ◌-◌, ◌^◌, ◌<◌, ◌≤◌, List, [], ◌∷◌, ◌++◌, length, min, true, false, Option, Some, None, Ok, Err, inr, refl, ap, sym, ◌∙◌, subst, arith, length-append, append-nil}
use Rattle.std.specs.Prelude.{unwrap_or, nat_lt, nat_le, ◌==◌, if◌then◌else◌, IfSome}
use Rattle.std.specs.List.{flat_map}
use Rattle.std.specs.Io.KnownBytes.{Appends}
use Rattle.std.specs.declared.ops.Range.{Range}
use Rattle.std.proofs.lemmas.Bool.{and_from, eq-eqb, le-leb, lt-ltb, le-ltb, ltb-true, ltb-false, false≢true}
use Rattle.owned_bytes.specs.Keys.{Key}
unfoldable use Rattle.owned_bytes.specs.Keys.{is_rising}
use Rattle.owned_bytes.specs.Outside.{AppendsPrefix}
use Rattle.owned_bytes.proofs.InTurn.{AppendsPrefix-all}
use Rattle.sstable_values.specs.Codec.{Codec, last_is}
use Rattle.sstable_blocks.specs.Block.{delta}
unfoldable use Rattle.sstable_blocks.specs.Block.{deltas_between}
use Rattle.sstable_blocks.specs.Content.{block}
use Rattle.sstable_blocks.specs.Run.{Block, last_key, entries_of}
use Rattle.sstable_blocks.specs.Writing.{WriterState, keys_in, IsOpen, AddsToRun, WritesBlock, KeepsBlock, content}
use Rattle.sstable_blocks.specs.declared.errors.DeltaError.{DeltaError}
use Rattle.sstable_blocks.specs.declared.errors.DeltaError.TheVariants as deltas
use Rattle.sstable_format.specs.Index.{IndexEntry}
use Rattle.sstable_index.specs.Building.{MayComeNext, longest_block, most_keys, address_of, is_block, comes_next, addresses_in}
use Rattle.sstable_index.specs.Errors.{error_of_delta}
use Rattle.sstable_index.specs.declared.write_errors.SstWriteError.{SstWriteError}
use Rattle.sstable_index.specs.declared.write_errors.SstWriteError.TheVariants.{Memory, BlockTooLong, Spent}
use Rattle.sstable_tables.specs.Making.{Making, values_by, content_of, deltas_of, if_any, open_block, bytes_of, next_address, is_due, Closes, FailsToClose, Closing}
use Rattle.sstable_tables.specs.Made.{open_entries, last_inserted, ends_below, MayStart, made, Stands, IsMaking, refusal_by, closed_now, AreBlocks}
unfoldable use Rattle.sstable_tables.specs.Made.{closed_blocks}
use Rattle.sstable_tables.proofs.IndexLaws.{ends-none, last-comes, starts-more, length-block}
use Rattle.sstable_tables.proofs.Blocks.{Before, told-parts, told-built, if_some, before-more, bytes-closed, last-index}
use Rattle.sstable_tables.proofs.Gathering.{entries-fit, open-none, none-by, rising-more, keys-more, last_inserted-some}

pub open-one : {A B : Type 0} (xs : List A) (one : B) → xs ≢ [] → if_any xs one ≡ one ∷ []
open-one [] one some = absurd (some refl)
open-one (x ∷ xs) one some = refl

-- the content of the open block, by its entries
pub content-same : {W V : Type 0} (codec : Codec V) (state : WriterState W V) (index : List IndexEntry) (previous : Key) (n first : ℕ) (refusal : Option SstWriteError) → Stands codec state index previous n first → content_of codec (made codec state index previous n first refusal) ≡ content codec state
content-same codec state index previous n first refusal is =
    ap (λ vs. codec.spelled vs ++ deltas_of (open_entries state)) (sym is.values) ∙ ap (λ ds. codec.spelled state.values ++ ds) (sym is.open_block.spelled)

-- an open block has an entry where it has a delta
pub some-entry : {W V : Type 0} (state : WriterState W V) → IsOpen state (open_entries state) → state.deltas ≢ [] → open_entries state ≢ []
unfolding deltas_between
some-entry state is some = λ none. some (is.spelled ∙ ap (λ es. flat_map delta (deltas_between [] (keys_in es))) none)

pub open_block-is : {W V : Type 0} (codec : Codec V) (state : WriterState W V) (index : List IndexEntry) (previous : Key) (n first : ℕ) (refusal : Option SstWriteError) → Stands codec state index previous n first → state.deltas ≢ []
    → open_block codec (made codec state index previous n first refusal) ≡ record { content = content codec state; entries = open_entries state } ∷ []
open_block-is codec state index previous n first refusal is some =
    open-one (open_entries state) _ (some-entry state is.open_block some) ∙ ap (λ c. record { content = c; entries = open_entries state } ∷ []) (content-same codec state index previous n first refusal is)

pub bytes-open : {W V : Type 0} (codec : Codec V) (state : WriterState W V) (index : List IndexEntry) (previous : Key) (n first : ℕ) (refusal : Option SstWriteError) → Stands codec state index previous n first → state.deltas ≢ []
    → bytes_of (open_block codec (made codec state index previous n first refusal)) ≡ block (content codec state)
bytes-open codec state index previous n first refusal is some = ap bytes_of (open_block-is codec state index previous n first refusal is some) ∙ append-nil (block (content codec state))

-- the open block is due by the bytes of its deltas
due-is : {W V : Type 0} (codec : Codec V) (state : WriterState W V) (index : List IndexEntry) (previous : Key) (n first : ℕ) (refusal : Option SstWriteError) → Stands codec state index previous n first
    → is_due (made codec state index previous n first refusal) ≡ nat_lt state.block_len (length state.deltas)
due-is codec state index previous n first refusal is = ap (λ ds. nat_lt state.block_len (length ds)) (sym is.open_block.spelled)

pub lt-of : (n m : ℕ) → ¬ (m ≤ n) → n < m
lt-of n m h = elim (nat_lt n m) as (λ b. nat_lt n m ≡ b → n < m) [ true ↦ λ t. ltb-true _ _ t | false ↦ λ t. absurd (h (ltb-false _ _ t)) ] refl

-- An open block was written out, and its entry added to the index.
pub record Wrote {W V : Type 0} (codec : Codec V) (old new : WriterState W V) (index index' : List IndexEntry) (previous : Key) (first : ℕ) (place : Range ℕ) : Type 0 where
  pub writes : WritesBlock codec old new place
  pub adds : AddsToRun codec old
  pub next : IsOpen new []
  pub small : place.end + 4 < 2 ^ 64
  pub index_is : index' ≡ index ++ (previous, record { start = place.start; end = place.end; first_ordinal = first }) ∷ []

-- the count of bytes doesn't stand still
exact : {W V : Type 0} (codec : Codec V) (old new : WriterState W V) (index index' : List IndexEntry) (previous : Key) (first : ℕ) (place : Range ℕ) → Wrote codec old new index index' previous first place
    → new.counted ≡ old.counted + length (block (content codec old))
exact codec old new index index' previous first place w =
    let there : place.end ≡ new.counted = ap (λ (r : Range ℕ). r.end) w.writes.place in
    omega (arith, w.writes.count, w.small, there)

grown : {W V : Type 0} (codec : Codec V) (old new : WriterState W V) (index index' : List IndexEntry) (previous : Key) (first : ℕ) (place : Range ℕ) → Wrote codec old new index index' previous first place
    → index' ≡ index ++ (previous, record { start = old.counted; end = new.counted; first_ordinal = first }) ∷ []
grown codec old new index index' previous first place w =
    w.index_is ∙ ap (λ (r : Range ℕ). index ++ (previous, record { start = r.start; end = r.end; first_ordinal = first }) ∷ []) w.writes.place

length-some : {A : Type 0} (xs : List A) → xs ≢ [] → 0 < length xs
length-some [] some = absurd (some refl)
length-some (x ∷ xs) some = omega arith

-- the last entry of an open block that has one
last-open : {W V : Type 0} (codec : Codec V) (state : WriterState W V) (index : List IndexEntry) (previous : Key) (n first : ℕ) → Stands codec state index previous n first → open_entries state ≢ []
    → last_key (open_entries state) ≡ Some previous
last-open codec state index previous n first is some =
    is.last ∙ ap (λ b. if b then Some previous else None) (lt-ltb first n (let more = length-some (open_entries state) some in omega (arith, is.count, more)))

-- a block may come next in the index, where it was written out
pub may-come : {W V : Type 0} (codec : Codec V) (old new : WriterState W V) (index : List IndexEntry) (previous : Key) (n first : ℕ) (place : Range ℕ) → Stands codec old index previous n first → WritesBlock codec old new place
    → MayComeNext index place first
may-come codec old new index previous n first place is writes = record { fits = fits; next = by index is.next_block }
  where
    start : place.start ≡ old.counted
    start = ap (λ (r : Range ℕ). r.start) writes.place

    end : place.end ≡ min (old.counted + length (block (content codec old))) (2 ^ 64 - 1)
    end = ap (λ (r : Range ℕ). r.end) writes.place ∙ writes.count

    ordered : place.start ≤ place.end
    ordered = omega (arith, start, end, is.small)

    short : place.end ≤ place.start + longest_block
    short = let long = length-block (content codec old) in omega (arith, start, end, long, writes.short)

    fits : is_block (address_of place first) ≡ true
    fits = and_from (nat_le place.start place.end) (nat_le place.end (place.start + longest_block)) (le-leb _ _ ordered) (le-leb _ _ short)

    by : (index : List IndexEntry) → MayStart index old.counted first → last_is (λ before. comes_next before (address_of place first)) (addresses_in index) ≡ true
    by [] may = refl
    by (entry ∷ []) may =
        and_from (entry.1.end == place.start) _ (eq-eqb _ _ (omega (arith, start, may.0)))
        (and_from (nat_le entry.1.first_ordinal first) (nat_le first (entry.1.first_ordinal + most_keys)) (le-leb _ _ may.1) (le-leb _ _ may.2))
    by (entry ∷ next ∷ entries) may = by (next ∷ entries) may

-- a writer stands well after its block was closed
stands-closed : {W V : Type 0} (codec : Codec V) (old new : WriterState W V) (index index' : List IndexEntry) (previous : Key) (n first : ℕ) (place : Range ℕ) → Stands codec old index previous n first
    → Wrote codec old new index index' previous first place → Stands codec new index' previous n n
stands-closed codec old new index index' previous n first place is w =
    let none = open-none new w.next in
    let some = some-entry old is.open_block w.writes.some in
    let last = last-open codec old index previous n first is some in
    let more = length-some (open_entries old) some in
    let there : place.end ≡ new.counted = ap (λ (r : Range ℕ). r.end) w.writes.place in
    let fit = entries-fit old (open_entries old) is.open_block in
    let bytes = length-append (codec.spelled old.values) old.deltas in
    let entry : IndexEntry = (previous, record { start = place.start; end = place.end; first_ordinal = first }) in
    record {
      open_block = subst (λ es. IsOpen new es) (sym none.1) w.next;
      values = w.writes.no_value ∙ none-by codec.everywhere ∙ ap (values_by codec.everywhere) (sym none.1);
      fits = omega (arith, ap length none.0);
      count = omega (arith, ap length none.1);
      last = ap last_key none.1 ∙ sym (ap (λ b. if b then Some previous else None) (le-ltb n n (omega arith)));
      small = omega (arith, w.small, there);
      few = is.few;
      rising = ap (λ i. is_rising (keys_in i)) w.index_is ∙ ap is_rising (keys-more index previous entry.1)
          ∙ rising-more index previous entry.1 is.rising (last-comes index previous (open_entries old) is.below is.open_block.rising last);
      below = ap (ends_below index') none.1 ∙ ends-none _ index';
      last_block = λ e. ap last_key w.index_is ∙ last-index index entry ∙ sym (last_inserted-some n previous (omega (arith, is.count, more)));
      next_block = subst (λ i. MayStart i new.counted n) (sym w.index_is)
          (starts-more index entry new.counted n (sym there) (omega (arith, is.count)) (omega (arith, is.count, fit, w.writes.short, bytes)));
    }

pub making-closed : {W V : Type 0} (codec : Codec V) (written : W → Option (List ℕ)) (faults : W → ℕ) (old new : WriterState W V) (index index' : List IndexEntry) (previous : Key) (n first : ℕ) (refusal : Option SstWriteError) (place : Range ℕ)
    → IsMaking codec written faults old index previous n first refusal → refusal ≡ None → new.written ≡ written new.sink → new.faults ≡ faults new.sink → Wrote codec old new index index' previous first place
    → IsMaking codec written faults new index' previous n n refusal
making-closed codec written faults old new index index' previous n first refusal place is ready told failed w = record {
  told = told;
  failed = failed;
  final = is.final;
  stands = λ r. stands-closed codec old new index index' previous n first place (is.stands ready) w;
}

-- what a writer shows after its block was closed
closes-by : {W V : Type 0} (codec : Codec V) (written : W → Option (List ℕ)) (old new : WriterState W V) (index index' : List IndexEntry) (previous : Key) (n first : ℕ) (refusal : Option SstWriteError) (place : Range ℕ)
    → Stands codec old index previous n first → old.written ≡ written old.sink → new.written ≡ written new.sink → Wrote codec old new index index' previous first place
    → Closes codec written (made codec old index previous n first refusal) (made codec new index' previous n n refusal)
closes-by {W} {V} codec written old new index index' previous n first refusal place is told told' w =
    let w' : Making W V = made codec old index previous n first refusal in
    let bytes = bytes-open codec old index previous n first refusal is w.writes.some in
    let some = some-entry old is.open_block w.writes.some in
    let more = length-some (open_entries old) some in
    let last = last-open codec old index previous n first is some in
    let counts = exact codec old new index index' previous first place w in
    let one : Block V = record { content = content codec old; entries = open_entries old } in
    let none = (open-none new w.next).1 in
    let grows = grown codec old new index index' previous first place w in
    let ended : new.counted ≡ old.counted + length (bytes_of (open_block codec w')) = counts ∙ ap (λ bs. old.counted + length bs) (sym bytes) in
    let position : first ≡ n - length (open_entries old) = omega (arith, is.count) in
    record {
      short = λ long. omega (arith, long.1, w.writes.short, ap length (content-same codec old index previous n first refusal is));
      appended = subst (λ bs. Appends (written old.sink) (written new.sink) bs) (sym bytes) (subst (λ a. Appends a (written new.sink) (block (content codec old))) told (subst (λ b. Appends old.written b (block (content codec old))) told' w.writes.appended));
      counted = ended;
      index = grows ∙ ap (λ k. index ++ (k, record { start = old.counted; end = new.counted; first_ordinal = first }) ∷ []) (ap (λ o. unwrap_or o []) (sym (last_inserted-some n previous (omega (arith, is.count, more)))))
          ∙ ap (λ e. index ++ (unwrap_or (last_inserted n previous) [], record { start = old.counted; end = e; first_ordinal = first }) ∷ []) ended
          ∙ ap (λ f. index ++ (unwrap_or (last_inserted n previous) [], record { start = old.counted; end = old.counted + length (bytes_of (open_block codec w')); first_ordinal = f }) ∷ []) position
          ∙ ap (λ es. index ++ es) (sym (open-one (open_entries old) (unwrap_or (last_inserted n previous) [], next_address codec w') some));
      closed = if_some (written old.sink) (λ all tells. if_some (closed_blocks codec old index first) (λ blocks found.
          let t = told-parts codec old index first blocks found in
          let grown_is = before-more codec old index new.counted n first previous blocks (open_entries old) t.before w.adds is.open_block some is.below last counts is.count in
          told-built codec new index' n (blocks ++ one ∷ []) (record {
            bytes = bytes-closed old new blocks one all t.bytes (told ∙ tells) w.writes.appended counts;
            before = subst (λ i. Before codec i new.counted n (blocks ++ one ∷ [])) (sym grows) grown_is;
          })
          ∙ ap (λ bs. Some (blocks ++ bs)) (sym (open_block-is codec old index previous n first refusal is w.writes.some))));
      gathered = none;
      others = ap (λ len. record (made codec new index' previous n n refusal) { block_len = len }) w.writes.same_len;
    }

-- the open block was closed
pub closes-one : {W V : Type 0} (codec : Codec V) (written : W → Option (List ℕ)) (faults : W → ℕ) (old new : WriterState W V) (index index' : List IndexEntry) (previous : Key) (n first : ℕ) (refusal : Option SstWriteError) (place : Range ℕ)
    → IsMaking codec written faults old index previous n first refusal → refusal ≡ None → new.written ≡ written new.sink → ¬ (length old.deltas ≤ old.block_len) → Wrote codec old new index index' previous first place
    → Closing codec written (made codec old index previous n first refusal) (made codec new index' previous n n refusal) (Ok tt)
closes-one codec written faults old new index index' previous n first refusal place is ready told long w =
    let stands = is.stands ready in
    let due = due-is codec old index previous n first refusal stands ∙ lt-ltb _ _ (lt-of _ _ long) in
    (ready, (λ yes. closes-by codec written old new index index' previous n first refusal place stands is.told told w, λ no. absurd (false≢true (sym no ∙ due))))

-- and it stands behind the other blocks
pub blocks-grown : {W V : Type 0} (codec : Codec V) (written : W → Option (List ℕ)) (faults : W → ℕ) (old new : WriterState W V) (index index' : List IndexEntry) (previous : Key) (n first : ℕ) (refusal : Option SstWriteError) (place : Range ℕ)
    → IsMaking codec written faults old index previous n first refusal → refusal ≡ None → ¬ (length old.deltas ≤ old.block_len) → Wrote codec old new index index' previous first place
    → IfSome (made codec old index previous n first refusal).closed (λ blocks. AreBlocks codec (made codec new index' previous n n refusal) (blocks ++ closed_now codec (made codec old index previous n first refusal)))
blocks-grown {W} {V} codec written faults old new index index' previous n first refusal place is ready long w =
    if_some (closed_blocks codec old index first) (λ blocks found.
    let stands = is.stands ready in
    let t = told-parts codec old index first blocks found in
    let some = some-entry old stands.open_block w.writes.some in
    let last = last-open codec old index previous n first stands some in
    let counts = exact codec old new index index' previous first place w in
    let grows = grown codec old new index index' previous first place w in
    let none = (open-none new w.next).1 in
    let all = before-more codec old index new.counted n first previous blocks (open_entries old) t.before w.adds stands.open_block some stands.below last counts stands.count in
    let b = subst (λ i. Before codec i new.counted n (blocks ++ record { content = content codec old; entries = open_entries old } ∷ [])) (sym grows) all in
    let now : closed_now codec (made codec old index previous n first refusal) ≡ record { content = content codec old; entries = open_entries old } ∷ [] =
    ap (λ d. if d then open_block codec (made codec old index previous n first refusal) else []) (due-is codec old index previous n first refusal stands ∙ lt-ltb _ _ (lt-of _ _ long))
    ∙ open_block-is codec old index previous n first refusal stands w.writes.some in
    subst (λ bs. AreBlocks codec (made codec new index' previous n n refusal) (blocks ++ bs)) (sym now)
    (record { run = b.run; points = b.points; size = b.size; count = omega (arith, b.count, ap length none) }))

-- no block was closed
same-state : {W V : Type 0} (codec : Codec V) (old new : WriterState W V) → (old.block_len < length old.deltas → (old.deltas ≡ []) × (new ≡ old)) → (length old.deltas ≤ old.block_len → new ≡ old) → (new ≡ old) × (nat_lt old.block_len (length old.deltas) ≡ false)
same-state codec old new due not_due = elim (nat_lt old.block_len (length old.deltas)) as (λ b. nat_lt old.block_len (length old.deltas) ≡ b → (new ≡ old) × (b ≡ false)) [
  | true ↦ λ t. let long = ltb-true _ _ t in absurd (omega (arith, long, ap length (due long).0))
  | false ↦ λ t. (not_due (ltb-false _ _ t), refl)
] refl

pub closes-none : {W V : Type 0} (codec : Codec V) (written : W → Option (List ℕ)) (faults : W → ℕ) (old new : WriterState W V) (index : List IndexEntry) (previous : Key) (n first : ℕ) (refusal : Option SstWriteError)
    → IsMaking codec written faults old index previous n first refusal → refusal ≡ None → (old.block_len < length old.deltas → (old.deltas ≡ []) × (new ≡ old)) → (length old.deltas ≤ old.block_len → new ≡ old)
    → Closing codec written (made codec old index previous n first refusal) (made codec new index previous n first refusal) (Ok tt)
closes-none codec written faults old new index previous n first refusal is ready due not_due =
    let same = same-state codec old new due not_due in
    (ready, (λ yes. absurd (false≢true (sym same.1 ∙ sym (due-is codec old index previous n first refusal (is.stands ready)) ∙ yes)), λ no. ap (λ s. made codec s index previous n first refusal) same.0))

pub blocks-kept : {W V : Type 0} (codec : Codec V) (written : W → Option (List ℕ)) (faults : W → ℕ) (old new : WriterState W V) (index : List IndexEntry) (previous : Key) (n first : ℕ) (refusal : Option SstWriteError)
    → IsMaking codec written faults old index previous n first refusal → refusal ≡ None → (old.block_len < length old.deltas → (old.deltas ≡ []) × (new ≡ old)) → (length old.deltas ≤ old.block_len → new ≡ old)
    → IfSome (made codec old index previous n first refusal).closed (λ blocks. AreBlocks codec (made codec new index previous n first refusal) (blocks ++ closed_now codec (made codec old index previous n first refusal)))
blocks-kept codec written faults old new index previous n first refusal is ready due not_due =
    if_some (closed_blocks codec old index first) (λ blocks found.
    let same = same-state codec old new due not_due in
    let stands = is.stands ready in
    let t = told-parts codec old index first blocks found in
    let now : closed_now codec (made codec old index previous n first refusal) ≡ [] =
    ap (λ d. if d then open_block codec (made codec old index previous n first refusal) else []) (due-is codec old index previous n first refusal stands ∙ same.1) in
    let here : AreBlocks codec (made codec old index previous n first refusal) blocks = record { run = t.before.run; points = t.before.points; size = t.before.size; count = omega (arith, stands.count, t.before.count) } in
    subst (λ s. AreBlocks codec (made codec s index previous n first refusal) (blocks ++ closed_now codec (made codec old index previous n first refusal))) (sym same.0)
    (subst (λ bs. AreBlocks codec (made codec old index previous n first refusal) bs) (sym (ap (λ bs. blocks ++ bs) now ∙ append-nil blocks)) here))

prefix-of : (old new : Option (List ℕ)) (more : List ℕ) → Appends old new more → AppendsPrefix old new more
prefix-of old new more appends = subst (AppendsPrefix old new) (append-nil more) (AppendsPrefix-all old new more [] appends)

-- a block was written out, and there was no memory for its place
pub closes-spent : {W V : Type 0} (codec : Codec V) (written : W → Option (List ℕ)) (faults : W → ℕ) (old new : WriterState W V) (index index' : List IndexEntry) (previous : Key) (n first : ℕ) (refusal : Option SstWriteError) (place : Range ℕ)
    → IsMaking codec written faults old index previous n first refusal → refusal ≡ None → new.written ≡ written new.sink → ¬ (length old.deltas ≤ old.block_len) → WritesBlock codec old new place
    → Closing codec written (made codec old index previous n first refusal) (made codec new index' previous n n (Some Spent)) (Err Memory)
closes-spent codec written faults old new index index' previous n first refusal place is ready told long writes =
    let stands = is.stands ready in
    let due = due-is codec old index previous n first refusal stands ∙ lt-ltb _ _ (lt-of _ _ long) in
    let bytes = bytes-open codec old index previous n first refusal stands writes.some in
    let prefix : AppendsPrefix (written old.sink) (written new.sink) (block (content codec old)) =
    subst (λ a. AppendsPrefix a (written new.sink) (block (content codec old))) is.told (subst (λ b. AppendsPrefix old.written b (block (content codec old))) told (prefix-of old.written new.written (block (content codec old)) writes.appended)) in
    inr (ready, (due, (refl, subst (λ bs. AppendsPrefix (written old.sink) (written new.sink) bs) (sym bytes) prefix)))

fails-by : {W V : Type 0} (codec : Codec V) (written : W → Option (List ℕ)) (old new : WriterState W V) (index : List IndexEntry) (previous : Key) (n first : ℕ) (refusal : Option SstWriteError) (e : DeltaError) → Stands codec old index previous n first
    → old.written ≡ written old.sink → new.written ≡ written new.sink → KeepsBlock codec old new e
    → FailsToClose codec written (made codec old index previous n first refusal) (made codec new index previous n first (Some (refusal_by (error_of_delta e)))) (error_of_delta e)
fails-by {W} {V} codec written old new index previous n first refusal e is told told' keeps = by e keeps
  where
    prefix : (e : DeltaError) → KeepsBlock codec old new e → AppendsPrefix (written old.sink) (written new.sink) (bytes_of (open_block codec (made codec old index previous n first refusal)))
    prefix e keeps = subst (λ bs. AppendsPrefix (written old.sink) (written new.sink) bs) (sym (bytes-open codec old index previous n first refusal is keeps.some))
        (subst (λ a. AppendsPrefix a (written new.sink) (block (content codec old))) told (subst (λ b. AppendsPrefix old.written b (block (content codec old))) told' keeps.prefix))

    by : (e : DeltaError) → KeepsBlock codec old new e → FailsToClose codec written (made codec old index previous n first refusal) (made codec new index previous n first (Some (refusal_by (error_of_delta e)))) (error_of_delta e)
    by deltas.Memory keeps = (refl, prefix deltas.Memory keeps)
    by deltas.Write keeps = (refl, prefix deltas.Write keeps, λ long. omega (arith, long.1, keeps.short refl, ap length (content-same codec old index previous n first refusal is)))
    by deltas.BlockTooLong keeps = (
      (some-entry old is.open_block keeps.some, omega (arith, keeps.too_long refl, ap length (content-same codec old index previous n first refusal is))),
      ap (λ s. made codec s index previous n first (Some BlockTooLong)) (keeps.nothing refl),
    )

-- a block was to be closed, and was not
pub closes-not : {W V : Type 0} (codec : Codec V) (written : W → Option (List ℕ)) (faults : W → ℕ) (old new : WriterState W V) (index : List IndexEntry) (previous : Key) (n first : ℕ) (refusal : Option SstWriteError) (e : DeltaError) (error final : SstWriteError)
    → IsMaking codec written faults old index previous n first refusal → refusal ≡ None → new.written ≡ written new.sink → ¬ (length old.deltas ≤ old.block_len) → (old.block_len < length old.deltas → KeepsBlock codec old new e)
    → error ≡ error_of_delta e → final ≡ refusal_by error
    → Closing codec written (made codec old index previous n first refusal) (made codec new index previous n first (Some final)) (Err error)
closes-not codec written faults old new index previous n first refusal e error final is ready told long due same refuses =
    let stands = is.stands ready in
    let yes = due-is codec old index previous n first refusal stands ∙ lt-ltb _ _ (lt-of _ _ long) in
    let fails = fails-by codec written old new index previous n first refusal e stands is.told told (due (lt-of _ _ long)) in
    inr (
      ready,
      (
        yes,
        subst (λ f. FailsToClose codec written (made codec old index previous n first refusal) (made codec new index previous n first (Some f)) error) (sym refuses)
            (subst (λ x. FailsToClose codec written (made codec old index previous n first refusal) (made codec new index previous n first (Some (refusal_by x))) x) (sym same) fails),
      ),
    )

-- another length asked of blocks
pub made-len : {W V : Type 0} (codec : Codec V) (old new : WriterState W V) (index : List IndexEntry) (previous : Key) (n first : ℕ) (refusal : Option SstWriteError) (len : ℕ) → new ≡ record old { block_len = len }
    → made codec new index previous n first refusal ≡ record (made codec old index previous n first refusal) { block_len = len }
unfolding closed_blocks
made-len codec old new index previous n first refusal len same = ap (λ s. made codec s index previous n first refusal) same

-- the entries of the open block
pub entries-open : {W V : Type 0} (codec : Codec V) (w : Making W V) → entries_of (open_block codec w) ≡ w.gathered
entries-open {W} {V} codec w = by w.gathered
  where
    by : (es : List (Key × V)) → entries_of (if_any es (record { content = content_of codec w; entries = es })) ≡ es
    by [] = refl
    by (e ∷ es) = append-nil (e ∷ es)
