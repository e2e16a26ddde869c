-- A finished table has the entries that were inserted.
use Rattle.std.proofs.Common.{◌≡◌, ◌≢◌, ℕ, ◌+◌, ◌-◌, ◌^◌, ◌<◌, ◌≤◌, List, [], ◌∷◌, ◌++◌, length, take, drop, Bool, true, false, ◌&&◌, Option, Some, None, Result, Ok, Err, inl, inr, refl, ap, sym, ◌∙◌, subst, arith, length-append, append_assoc, append-nil}
use Rattle.std.specs.Prelude.{nat_lt, ◌==◌, if◌then◌else◌, unwrap_or, IfSome, IfOk, IfErr}
use Rattle.std.specs.List.{flat_map}
use Rattle.std.specs.Io.KnownBytes.{Appends, Keeps}
use Rattle.std.proofs.KnownBytes.{Appends-trans}
use Rattle.std.proofs.lemmas.Bool.{eq-eqb, and_from, lt-ltb, le-leb, false≢true}
use Rattle.std.proofs.lemmas.List.{take_at, drop_at}
use Rattle.std.proofs.lemmas.Nat.{from_le_bytes-to_le_bytes_8}
use Rattle.owned_bytes.specs.Front.{◌>>=◌, provided, pieces}
use Rattle.owned_bytes.specs.Keys.{Key}
use Rattle.owned_bytes.specs.Outside.{AppendsPrefix, WritesAll}
use Rattle.owned_bytes.proofs.InTurn.{AppendsPrefix-first, AppendsPrefix-second}
use Rattle.owned_bytes.proofs.Pieces.{pieces-step, pieces-extended, with_front, bind_some, some_is}
use Rattle.sstable_values.specs.Codec.{Codec}
use Rattle.sstable_blocks.specs.Block.{delta, delta_between}
unfoldable use Rattle.sstable_blocks.specs.Block.{deltas_between}
unfoldable use Rattle.sstable_blocks.specs.Content.{block_at}
use Rattle.sstable_blocks.specs.Run.{Block, Run, front_of_blocks, entries_of}
unfoldable use Rattle.sstable_blocks.specs.Run.{blocks_after, whole_run_of}
use Rattle.sstable_blocks.specs.Writing.{WriterState, keys_in}
use Rattle.sstable_blocks.proofs.RunLaws.{blocks-shrink, blocks-extend}
use Rattle.sstable_format.specs.Index.{IndexEntry, Index, index_of_version, is_zeros}
use Rattle.sstable_format.specs.Table.{keeping_nothing, blocks_of, blocks_under, sst_of, table_blocks, indexes}
unfoldable use Rattle.sstable_format.specs.Table.{places_from, points_to}
use Rattle.sstable_format.specs.Version.{version_of}
use Rattle.sstable_format.specs.Ending.{IsEnding, HasFooter}
use Rattle.sstable_format.specs.declared.footer.Footer as code
use Rattle.sstable_format.proofs.Endings.{footer-by}
use Rattle.sstable_format.proofs.Parts.{body_of, found-is, blocks-is}
use Rattle.sstable_index.specs.Building.{index_part, index_of, are_rising, Serializes}
use Rattle.sstable_index.specs.declared.write_errors.Unfinished.{Unfinished}
use Rattle.sstable_index.specs.declared.write_errors.SstWriteError.{SstWriteError}
use Rattle.sstable_index.specs.declared.write_errors.SstWriteError.TheVariants.{Memory, Write, Unsorted, ValueRefused, BlockTooLong, Spent}
use Rattle.sstable_tables.specs.Making.{Making, deltas_of, content_of, if_any, open_block, bytes_of, next_address, whole_index, is_due, IsTooLong, FailsToClose, Closing, table_end, ending, IsTable, StopsTable, Finishing, IsSinkError, handed, AreLast}
use Rattle.sstable_tables.specs.Made.{footer, IsRefusal, made, IsMaking, closed_now, AreBlocks}
use Rattle.sstable_tables.proofs.IndexLaws.{as_many}
use Rattle.sstable_tables.proofs.Blocks.{if_some, of_some, are-last, bytes-both, entries-both}
use Rattle.sstable_tables.proofs.Gathering.{delta-some}
use Rattle.sstable_tables.proofs.Closing.{made-len, entries-open}

abbrev zeros : List ℕ
zeros = 0 ∷ 0 ∷ 0 ∷ 0 ∷ []

-- four zero bytes end the blocks
zeros-end : pieces front_of_blocks zeros ≡ Some ([], zeros)
unfolding block_at
zeros-end = pieces-step front_of_blocks blocks-shrink zeros

as_run : {V : Type 0} → Codec V → List (List ℕ) × List ℕ → Option (Run V)
as_run codec found = blocks_after codec None found.0 >>= (λ blocks. Some (record { blocks = blocks; rest = found.1 }))

-- a run that ends with the bytes, and then four zero bytes
run-then_zeros : {V : Type 0} (codec : Codec V) (bytes : List ℕ) (blocks : List (Block V)) → whole_run_of codec bytes ≡ Some (record { blocks = blocks; rest = [] }) → whole_run_of codec (bytes ++ zeros) ≡ Some (record { blocks = blocks; rest = zeros })
unfolding whole_run_of as_run
run-then_zeros codec bytes blocks run =
    let cut = bind_some (pieces front_of_blocks bytes) (as_run codec) (record { blocks = blocks; rest = [] }) run in
    let read = bind_some (blocks_after codec None cut.0.0) (λ bs. Some (record { blocks = bs; rest = cut.0.1 })) (record { blocks = blocks; rest = [] }) cut.2 in
    let same : record { blocks = read.0; rest = cut.0.1 } ≡ record { blocks = blocks; rest = [] } = some_is _ _ read.2 in
    let same_blocks : read.0 ≡ blocks = ap (λ (r : Run _). r.blocks) same in
    let ends : cut.0.1 ≡ [] = ap (λ (r : Run _). r.rest) same in
    let whole : pieces front_of_blocks bytes ≡ Some (cut.0.0, []) = cut.1 ∙ ap (λ rest. Some (cut.0.0, rest)) ends in
    let more : pieces front_of_blocks (bytes ++ zeros) ≡ Some (cut.0.0 ++ [], zeros) =
    pieces-extended front_of_blocks blocks-shrink blocks-extend bytes zeros cut.0.0 whole ∙ ap (with_front cut.0.0) zeros-end in
    ap (λ o. o >>= as_run codec) (more ∙ ap (λ xs. Some (xs, zeros)) (append-nil cut.0.0))
    ∙ ap (λ o. o >>= (λ bs. Some (record { blocks = bs; rest = zeros }))) (read.1 ∙ ap Some same_blocks)

blocks-then_zeros : {V : Type 0} (codec : Codec V) (bytes : List ℕ) (blocks : List (Block V)) → whole_run_of (keeping_nothing codec) bytes ≡ Some (record { blocks = blocks; rest = [] }) → blocks_of codec (bytes ++ zeros) ≡ Some blocks
unfolding blocks_of
blocks-then_zeros codec bytes blocks run =
    ap (λ o. o >>= (λ (run : Run _). provided (is_zeros 4 run.rest) >>= (λ _. Some run.blocks))) (run-then_zeros (keeping_nothing codec) bytes blocks run)

-- ---- the parts of a table

-- the table before its footer
abbrev before_foot : List ℕ → List ℕ → List ℕ
before_foot bs part = bs ++ (zeros ++ part)

abbrev whole : List ℕ → List ℕ → ℕ → List ℕ
whole bs part count = bs ++ (zeros ++ (part ++ footer (length bs + 4) count))

abbrev told_footer : List ℕ → ℕ → code.Footer
told_footer bs count = record { index_offset = length bs + 4; num_terms = count; version = 3 }

whole-split : (bs part : List ℕ) (count : ℕ) → whole bs part count ≡ before_foot bs part ++ footer (length bs + 4) count
whole-split bs part count = sym (append_assoc bs (zeros ++ part) (footer (length bs + 4) count))

length-before : (bs part : List ℕ) → length (before_foot bs part) ≡ length bs + 4 + length part
length-before bs part = omega (arith, length-append bs (zeros ++ part))

length-whole : (bs part : List ℕ) (count : ℕ) → length (whole bs part count) ≡ length bs + length part + 24
length-whole bs part count = omega (arith, ap length (whole-split bs part count), length-append (before_foot bs part) (footer (length bs + 4) count), length-before bs part)

last-whole : (bs part : List ℕ) (count : ℕ) → drop (length (whole bs part count) - 20) (whole bs part count) ≡ footer (length bs + 4) count
last-whole bs part count =
    ap (drop (length (whole bs part count) - 20)) (whole-split bs part count)
    ∙ drop_at (before_foot bs part) (footer (length bs + 4) count) (length (whole bs part count) - 20) (omega (arith, length-whole bs part count, length-before bs part))

body-whole : (bs part : List ℕ) (count : ℕ) → body_of (whole bs part count) ≡ before_foot bs part
body-whole bs part count =
    ap (take (length (whole bs part count) - 20)) (whole-split bs part count)
    ∙ take_at (before_foot bs part) (footer (length bs + 4) count) (length (whole bs part count) - 20) (omega (arith, length-whole bs part count, length-before bs part))

ending-whole : (bs part : List ℕ) (count : ℕ) → IsEnding (whole bs part count) (footer (length bs + 4) count)
ending-whole bs part count = record {
  room = omega (arith, length-whole bs part count);
  len = omega (arith, length-whole bs part count);
  last = last-whole bs part count;
}

has-footer : (bs part : List ℕ) (count : ℕ) → length bs + 4 < 2 ^ 64 → count < 2 ^ 64 → HasFooter (whole bs part count) (told_footer bs count)
has-footer bs part count short few =
    footer-by (whole bs part count) (footer (length bs + 4) count) (told_footer bs count) 3 (ending-whole bs part count) refl (omega (arith, length-whole bs part count))
    refl
    (sym (from_le_bytes-to_le_bytes_8 (length bs + 4) short)) (sym (from_le_bytes-to_le_bytes_8 count few)) refl
    (omega (arith, length-whole bs part count))

front-of_body : (bs part : List ℕ) (count : ℕ) → take (length bs + 4) (body_of (whole bs part count)) ≡ bs ++ zeros
front-of_body bs part count =
    ap (take (length bs + 4)) (body-whole bs part count ∙ sym (append_assoc bs zeros part))
    ∙ take_at (bs ++ zeros) part (length bs + 4) (length-append bs zeros)

part-of_body : (bs part : List ℕ) (count : ℕ) → part ≡ drop (length bs + 4) (body_of (whole bs part count))
part-of_body bs part count = sym (
    ap (drop (length bs + 4)) (body-whole bs part count ∙ sym (append_assoc bs zeros part))
    ∙ drop_at (bs ++ zeros) part (length bs + 4) (length-append bs zeros))

-- a table of these blocks, with this index
blocks-whole : {V : Type 0} (codec : Codec V) (bs part : List ℕ) (index : Index) (blocks : List (Block V)) (count : ℕ) → blocks_of codec (bs ++ zeros) ≡ Some blocks → count ≡ length (entries_of blocks) → indexes index blocks ≡ true
    → blocks_under codec index count (take (length bs + 4) (body_of (whole bs part count))) ≡ Some blocks
unfolding blocks_under
blocks-whole codec bs part index blocks count found counted points =
    ap (λ front. blocks_under codec index count front) (front-of_body bs part count)
    ∙ ap (λ o. o >>= (λ blocks. provided (count == length (entries_of blocks) && indexes index blocks) >>= (λ _. Some blocks))) found
    ∙ ap (λ t. provided t >>= (λ _. Some blocks)) (and_from (count == length (entries_of blocks)) (indexes index blocks) (eq-eqb count (length (entries_of blocks)) counted) points)

told-whole : {V : Type 0} (codec : Codec V) (bs part : List ℕ) (index : Index) (blocks : List (Block V)) (count : ℕ) → length bs + 4 < 2 ^ 64 → count < 2 ^ 64 → index_of_version 3 part ≡ Some index
    → blocks_of codec (bs ++ zeros) ≡ Some blocks → count ≡ length (entries_of blocks) → indexes index blocks ≡ true
    → (table_blocks codec (whole bs part count) ≡ Some blocks) × (sst_of codec (whole bs part count) ≡ Some (entries_of blocks))
told-whole codec bs part index blocks count short few told found counted points =
    let foot = has-footer bs part count short few in
    let is : index_of_version 3 (drop (length bs + 4) (body_of (whole bs part count))) ≡ Some index = ap (index_of_version 3) (sym (part-of_body bs part count)) ∙ told in
    let under = blocks-whole codec bs part index blocks count found counted points in (
      blocks-is codec (whole bs part count) (told_footer bs count) index foot is ∙ under,
      found-is codec (whole bs part count) (told_footer bs count) index foot is ∙ ap (λ o. o >>= (λ blocks. Some (entries_of blocks))) under,
    )

-- what the index part tells is the index of the blocks
indexes-told : {V : Type 0} (index : List IndexEntry) (blocks : List (Block V)) → points_to index blocks (places_from 0 0 blocks) ≡ true → indexes (index_of index) blocks ≡ true
indexes-told [] blocks points = le-leb (length blocks) 1 (let many = as_many [] blocks _ points in omega (arith, many))
indexes-told (entry ∷ []) blocks points = le-leb (length blocks) 1 (let many = as_many (entry ∷ []) blocks _ points in omega (arith, many))
indexes-told (entry ∷ next ∷ entries) blocks points = points

-- A table of these blocks.
record Tells {V : Type 0} (codec : Codec V) (blocks : List (Block V)) (table : List ℕ) : Type 0 where
  told : sst_of codec table ≡ Some (entries_of blocks)
  in_blocks : table_blocks codec table ≡ Some blocks
  version : version_of table ≡ Some 3

tells-whole : {W V : Type 0} (codec : Codec V) (last : Making W V) (blocks : List (Block V)) → AreBlocks codec last blocks → last.gathered ≡ [] → last.counted + 4 < 2 ^ 64 → last.count < 2 ^ 64
    → index_of_version 3 (index_part last.index) ≡ Some (index_of last.index) → Tells codec blocks (bytes_of blocks ++ table_end last.index (last.counted + 4) last.count)
tells-whole {W} {V} codec last blocks are none small few told =
    let bs = bytes_of blocks in
    let part = index_part last.index in
    let short : length bs + 4 < 2 ^ 64 = omega (arith, are.size, small) in
    let count : last.count ≡ length (entries_of blocks) = omega (arith, are.count, ap length none) in
    let facts = told-whole codec bs part (index_of last.index) blocks last.count short few told (blocks-then_zeros codec bs blocks are.run) count (indexes-told last.index blocks are.points) in
    let it : Tells codec blocks (whole bs part last.count) = record {
      told = facts.1;
      in_blocks = facts.0;
      version = (has-footer bs part last.count short few).told;
    } in
    subst (λ n. Tells codec blocks (bs ++ table_end last.index (n + 4) last.count)) (sym are.size) it

-- ---- closing the last block

-- a writer whose open block is due if it has an entry
abbrev due_always : {W V : Type 0} → Making W V → Making W V
due_always w = record w { block_len = 0 }

-- entries take bytes
first-takes : {V : Type 0} (entries : List (Key × V)) → entries ≢ [] → 0 < length (deltas_of entries)
unfolding deltas_between
first-takes [] some = absurd (some refl)
first-takes (entry ∷ entries) some =
    let more = delta-some (delta_between [] entry.0) in
    let rest = length-append (delta (delta_between [] entry.0)) (flat_map delta (deltas_between entry.0 (keys_in entries))) in
    omega (arith, more, rest)

none-takes : {W V : Type 0} (w : Making W V) → w.gathered ≡ [] → is_due (due_always w) ≡ false
unfolding deltas_between
none-takes w none = ap (λ es. nat_lt 0 (length (deltas_of es))) none

-- The last block was closed, if there is one.
pub record Ended {W V : Type 0} (codec : Codec V) (told : W → Option (List ℕ)) (w last : Making W V) : Type 0 where
  pub ready : w.refusal ≡ None
  pub still : last.refusal ≡ None
  pub short : ¬ IsTooLong codec w
  pub appended : Appends (told w.sink) (told last.sink) (bytes_of (open_block codec w))
  pub counted : last.counted ≡ w.counted + length (bytes_of (open_block codec w))
  pub index : last.index ≡ whole_index codec w
  pub count : last.count ≡ w.count
  pub gathered : last.gathered ≡ []
  pub now : closed_now codec (due_always w) ≡ open_block codec w

appends-none : (a : Option (List ℕ)) → Appends a a []
appends-none None = tt
appends-none (Some xs) = sym (append-nil xs)

ended-by : {W V : Type 0} (codec : Codec V) (told : W → Option (List ℕ)) (w last : Making W V) → Closing codec told (due_always w) last (Ok tt) → Ended codec told w last
ended-by {W} {V} codec told w last closing = by (is_due (due_always w)) refl
  where
    by : (due : Bool) → is_due (due_always w) ≡ due → Ended codec told w last
    by true due =
        let closes = closing.1.0 due in
        record {
          ready = closing.0;
          still = ap (λ (m : Making W V). m.refusal) closes.others ∙ closing.0;
          short = closes.short;
          appended = closes.appended;
          counted = closes.counted;
          index = closes.index;
          count = ap (λ (m : Making W V). m.count) closes.others;
          gathered = closes.gathered;
          now = ap (λ d. if d then open_block codec w else []) due;
        }
    by false stays =
        let same : last ≡ due_always w = closing.1.1 stays in
        let none : w.gathered ≡ [] = none-of w.gathered (λ some. absurd (false≢true (sym stays ∙ lt-ltb _ _ (first-takes w.gathered some)))) in
        let no_block : open_block codec w ≡ [] = ap (λ es. if_any es (record { content = content_of codec w; entries = w.gathered })) none in
        record {
          ready = closing.0;
          still = ap (λ (m : Making W V). m.refusal) same ∙ closing.0;
          short = λ long. long.0 none;
          appended = subst (λ bs. Appends (told w.sink) (told last.sink) (bytes_of bs)) (sym no_block) (subst (λ (m : Making W V). Appends (told w.sink) (told m.sink) []) (sym same) (appends-none (told w.sink)));
          counted = let size = ap (λ bs. length (bytes_of bs)) no_block in omega (arith, ap (λ (m : Making W V). m.counted) same, size);
          index = ap (λ (m : Making W V). m.index) same ∙ sym (append-nil w.index) ∙ ap (λ es. w.index ++ es) (sym (ap (λ es. if_any es (unwrap_or w.last [], next_address codec w)) none));
          count = ap (λ (m : Making W V). m.count) same;
          gathered = ap (λ (m : Making W V). m.gathered) same ∙ none;
          now = ap (λ d. if d then open_block codec w else []) stays ∙ sym no_block;
        }
      where
        none-of : {A : Type 0} (xs : List A) → ¬ (xs ≢ []) → xs ≡ []
        none-of [] h = refl
        none-of (x ∷ xs) h = absurd (h (λ e. absurd (omega (arith, ap length e))))

end-same : {W V : Type 0} (codec : Codec V) (told : W → Option (List ℕ)) (w last : Making W V) → Ended codec told w last
    → table_end last.index (last.counted + 4) last.count ≡ table_end (whole_index codec w) ((next_address codec w).end + 4) w.count
end-same codec told w last e =
    ap (λ i. table_end i (last.counted + 4) last.count) e.index ∙ ap (λ n. table_end (whole_index codec w) (n + 4) last.count) e.counted ∙ ap (table_end (whole_index codec w) ((next_address codec w).end + 4)) e.count

-- a table of the closed blocks and then the last one
is-table : {W V : Type 0} (codec : Codec V) (told : W → Option (List ℕ)) (w last : Making W V) (blocks : List (Block V)) → Ended codec told w last → AreBlocks codec last (blocks ++ closed_now codec (due_always w)) → last.counted + 4 < 2 ^ 64 → last.count < 2 ^ 64
    → index_of_version 3 (index_part last.index) ≡ Some (index_of last.index) → IsTable codec w blocks (bytes_of blocks ++ ending codec w)
is-table {W} {V} codec told w last blocks e are small few told_is =
    let all : List (Block V) = blocks ++ open_block codec w in
    let are' : AreBlocks codec last all = subst (λ bs. AreBlocks codec last (blocks ++ bs)) e.now are in
    let tells = tells-whole codec last all are' e.gathered small few told_is in
    let same : bytes_of all ++ table_end last.index (last.counted + 4) last.count ≡ bytes_of blocks ++ ending codec w =
    ap (λ end. bytes_of all ++ end) (end-same codec told w last e)
    ∙ ap (λ bs. bs ++ table_end (whole_index codec w) ((next_address codec w).end + 4) w.count) (bytes-both blocks (open_block codec w))
    ∙ append_assoc (bytes_of blocks) (bytes_of (open_block codec w)) (table_end (whole_index codec w) ((next_address codec w).end + 4) w.count) in
    let t : Tells codec all (bytes_of blocks ++ ending codec w) = subst (λ bs. Tells codec all bs) same tells in
    record {
      told = t.told ∙ ap Some (entries-both blocks (open_block codec w) ∙ ap (λ es. entries_of blocks ++ es) (entries-open codec w));
      blocks = t.in_blocks;
      version = t.version;
    }

sink-error : {W V : Type 0} (codec : Codec V) (w : Making W V) (old new : Option (List ℕ)) (error : SstWriteError) → IsSinkError error → w.refusal ≡ None → ¬ IsTooLong codec w → AppendsPrefix old new (ending codec w) → StopsTable codec w old new error
sink-error codec w old new error (inl e) ready short prefix = subst (λ x. StopsTable codec w old new x) (sym e) (ready, prefix)
sink-error codec w old new error (inr e) ready short prefix = subst (λ x. StopsTable codec w old new x) (sym e) (ready, prefix, short)

-- what finishing did, once the last block was closed
finish-by : {W V : Type 0} (codec : Codec V) (told : W → Option (List ℕ)) (w last : Making W V) (before : Option (List ℕ)) (index : List IndexEntry) (counted count : ℕ) (result : Result W (Unfinished W SstWriteError))
    → Closing codec told (due_always w) last (Ok tt) → IfSome w.closed (λ blocks. AreBlocks codec last (blocks ++ closed_now codec (due_always w)))
    → IfSome w.closed (AreLast (told w.sink) w.counted)
    → last.counted + 4 < 2 ^ 64 → last.count < 2 ^ 64 → before ≡ told last.sink → index ≡ last.index → counted ≡ last.counted → count ≡ last.count
    → WritesAll before (told (handed result)) result (table_end index (counted + 4) count)
    → IfOk result (λ sink. index_of_version 3 (index_part index) ≡ Some (index_of index)) → IfErr result (λ unfinished. IsSinkError unfinished.error) → Finishing codec told w result
finish-by {W} {V} codec told w last before index counted count result closing are behind small few b i c n writes index_is error =
    by result (subst (λ x. WritesAll x (told (handed result)) result (table_end last.index (last.counted + 4) last.count)) b (subst (λ bs. WritesAll before (told (handed result)) result bs) same_end writes)) (subst (λ x. IfOk result (λ sink. index_of_version 3 (index_part x) ≡ Some (index_of x))) i index_is) error
  where
    e : Ended codec told w last
    e = ended-by codec told w last closing

    same_end : table_end index (counted + 4) count ≡ table_end last.index (last.counted + 4) last.count
    same_end = ap (λ x. table_end x (counted + 4) count) i ∙ ap (λ x. table_end last.index (x + 4) count) c ∙ ap (table_end last.index (last.counted + 4)) n

    by : (result : Result W (Unfinished W SstWriteError)) → WritesAll (told last.sink) (told (handed result)) result (table_end last.index (last.counted + 4) last.count) → IfOk result (λ sink. index_of_version 3 (index_part last.index) ≡ Some (index_of last.index))
        → IfErr result (λ unfinished. IsSinkError unfinished.error) → Finishing codec told w result
    by (Ok sink) writes told_is error = record {
      ready = e.ready;
      short = e.short;
      appended = Appends-trans (told w.sink) (told last.sink) (told sink) (bytes_of (open_block codec w)) (table_end (whole_index codec w) ((next_address codec w).end + 4) w.count) e.appended
          (subst (λ bs. Appends (told last.sink) (told sink) bs) (end-same codec told w last e) writes);
      behind = behind;
      table = if_some w.closed (λ blocks is. is-table codec told w last blocks e (of_some (λ bs. AreBlocks codec last (bs ++ closed_now codec (due_always w))) w.closed blocks is are) small few told_is);
    }
    by (Err unfinished) writes told_is error =
        sink-error codec w (told w.sink) (told unfinished.sink) unfinished.error error e.ready e.short
        (AppendsPrefix-second (told w.sink) (told last.sink) (told unfinished.sink) (bytes_of (open_block codec w)) (table_end (whole_index codec w) ((next_address codec w).end + 4) w.count) e.appended
        (subst (λ bs. AppendsPrefix (told last.sink) (told unfinished.sink) bs) (end-same codec told w last e) writes))

keeps-same : (a b : Option (List ℕ)) → b ≡ a → Keeps a b
keeps-same None b e = tt
keeps-same (Some xs) None e = absurd cc
keeps-same (Some xs) (Some ys) e = some_is ys xs e

-- the last block was not closed
stop-by : {W V : Type 0} (codec : Codec V) (told : W → Option (List ℕ)) (w last : Making W V) (now : Option (List ℕ)) (error : SstWriteError) → IsRefusal w.refusal → Closing codec told (due_always w) last (Err error) → now ≡ told last.sink
    → StopsTable codec w (told w.sink) now error
stop-by {W} {V} codec told w last now error final (inl refused) same =
    let kept : Keeps (told w.sink) now = keeps-same (told w.sink) now (same ∙ ap (λ (m : Making W V). told m.sink) refused.1) in
    by error (subst IsRefusal refused.0 final) refused.0 kept
  where
    by : (e : SstWriteError) → IsRefusal (Some e) → w.refusal ≡ Some e → Keeps (told w.sink) now → StopsTable codec w (told w.sink) now e
    by Memory final is kept = absurd final
    by Write final is kept = absurd final
    by Unsorted final is kept = absurd final
    by ValueRefused final is kept = absurd final
    by BlockTooLong final is kept = (inl is, kept)
    by Spent final is kept = (is, kept)
stop-by {W} {V} codec told w last now error final (inr closing) same = by error closing.1.1
  where
    by : (e : SstWriteError) → FailsToClose codec told (due_always w) last e → StopsTable codec w (told w.sink) now e
    by Memory fails = (
      closing.0,
      AppendsPrefix-first (told w.sink) now (bytes_of (open_block codec w)) (table_end (whole_index codec w) ((next_address codec w).end + 4) w.count)
          (subst (λ x. AppendsPrefix (told w.sink) x (bytes_of (open_block codec w))) (sym same) fails.1),
    )
    by Write fails = (
      closing.0,
      AppendsPrefix-first (told w.sink) now (bytes_of (open_block codec w)) (table_end (whole_index codec w) ((next_address codec w).end + 4) w.count)
          (subst (λ x. AppendsPrefix (told w.sink) x (bytes_of (open_block codec w))) (sym same) fails.1),
      fails.2,
    )
    by Unsorted fails = absurd fails
    by ValueRefused fails = absurd fails
    by BlockTooLong fails = (inr (closing.0, fails.0), keeps-same (told w.sink) now (same ∙ ap (λ (m : Making W V). told m.sink) fails.1))
    by Spent fails = absurd fails

-- the same, by how the writer stands
pub finish-made : {W V : Type 0} (codec : Codec V) (told : W → Option (List ℕ)) (faults : W → ℕ) (state new : WriterState W V) (index : List IndexEntry) (previous : Key) (n first : ℕ) (refusal : Option SstWriteError) (last : Making W V)
    (before : Option (List ℕ)) (index' : List IndexEntry) (counted count : ℕ) (result : Result W (Unfinished W SstWriteError))
    → IsMaking codec told faults state index previous n first refusal → new ≡ record state { block_len = 0 }
    → Closing codec told (made codec new index previous n first refusal) last (Ok tt)
    → IfSome (made codec new index previous n first refusal).closed (λ blocks. AreBlocks codec last (blocks ++ closed_now codec (made codec new index previous n first refusal)))
    → (last.refusal ≡ None → last.counted + 4 < 2 ^ 64) → (last.refusal ≡ None → last.count < 2 ^ 64) → before ≡ told last.sink → index' ≡ last.index → counted ≡ last.counted → count ≡ last.count
    → WritesAll before (told (handed result)) result (table_end index' (counted + 4) count)
    → IfOk result (λ sink. index_of_version 3 (index_part index') ≡ Some (index_of index')) → IfErr result (λ unfinished. IsSinkError unfinished.error)
    → Finishing codec told (made codec state index previous n first refusal) result
finish-made {W} {V} codec told faults state new index previous n first refusal last before index' counted count result is len closing are fits few b i c m writes index_is error =
    let w : Making W V = made codec state index previous n first refusal in
    let same : made codec new index previous n first refusal ≡ due_always w = made-len codec state new index previous n first refusal 0 len in
    let closing' = subst (λ x. Closing codec told x last (Ok tt)) same closing in
    let are' = subst (λ (x : Making W V). IfSome x.closed (λ blocks. AreBlocks codec last (blocks ++ closed_now codec x))) same are in
    let e = ended-by codec told w last closing' in
    finish-by codec told w last before index' counted count result closing' are' (are-last codec told state index first is.told) (fits e.still) (few e.still) b i c m writes index_is error

pub stop-made : {W V : Type 0} (codec : Codec V) (told : W → Option (List ℕ)) (faults : W → ℕ) (state new : WriterState W V) (index : List IndexEntry) (previous : Key) (n first : ℕ) (refusal : Option SstWriteError) (last : Making W V) (now : Option (List ℕ)) (error : SstWriteError)
    → IsMaking codec told faults state index previous n first refusal → new ≡ record state { block_len = 0 }
    → Closing codec told (made codec new index previous n first refusal) last (Err error) → now ≡ told last.sink
    → StopsTable codec (made codec state index previous n first refusal) (told state.sink) now error
stop-made {W} {V} codec told faults state new index previous n first refusal last now error is len closing same =
    let w : Making W V = made codec state index previous n first refusal in
    stop-by codec told w last now error is.final (subst (λ x. Closing codec told x last (Err error)) (made-len codec state new index previous n first refusal 0 len) closing) same

-- ---- the index part

-- what was appended of it
pub index-bytes : (entries : List IndexEntry) (old new : Option (List ℕ)) (result : Result ℕ SstWriteError) → Serializes entries old new result → are_rising entries ≡ true → WritesAll old new result (index_part entries)
index-bytes entries old new (Ok len) s rising = s.appended
index-bytes entries old new (Err Memory) s rising = s.front
index-bytes entries old new (Err Write) s rising = s.front
index-bytes entries old new (Err Unsorted) s rising = absurd (false≢true (sym s.0 ∙ rising))
index-bytes entries old new (Err ValueRefused) s rising = absurd s
index-bytes entries old new (Err BlockTooLong) s rising = absurd s
index-bytes entries old new (Err Spent) s rising = absurd s

-- its keys rise, so a sink failed or there was no memory
pub index-error : (entries : List IndexEntry) (old new : Option (List ℕ)) (e : SstWriteError) → Serializes entries old new (Err e) → are_rising entries ≡ true → IsSinkError e
index-error entries old new Memory s rising = inl refl
index-error entries old new Write s rising = inr refl
index-error entries old new Unsorted s rising = absurd (false≢true (sym s.0 ∙ rising))
index-error entries old new ValueRefused s rising = absurd s
index-error entries old new BlockTooLong s rising = absurd s
index-error entries old new Spent s rising = absurd s
