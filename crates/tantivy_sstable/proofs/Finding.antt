-- What a look-up in the entries of a table finds.
use Rattle.std.proofs.Common.{◌≡◌, ℕ, List, [], Option, Some, None, Result, Ok, Err, refl, ap, sym, ◌∙◌, inl, inr}
use Rattle.std.specs.Prelude.{slice_range}
use Rattle.owned_bytes.specs.Keys.{Key}
use Rattle.sstable_values.specs.Codec.{Codec}
unfoldable use Rattle.sstable_blocks.specs.Block.{keys_after, keys_of, paired, block_of}
unfoldable use Rattle.sstable_blocks.specs.Run.{blocks_after, whole_run_of, run_of}
use Rattle.sstable_format.specs.Index.{Entries}
use Rattle.sstable_format.specs.Table.{entries_under}
unfoldable use Rattle.sstable_format.specs.Table.{points_to, places_from, blocks_of, blocks_under}
unfoldable use Rattle.sstable_format.specs.Entries.{value_at}
use Rattle.owned_bytes.specs.Outside.{IsPart}
use Rattle.tantivy_sstable.specs.Opened.{Opened, entries_told}
use Rattle.tantivy_sstable.specs.Finding.{Finds, FindsTold}
use Rattle.owned_bytes.specs.declared.outside.HandleError.{HandleError}
use Rattle.owned_bytes.specs.declared.outside.HandleError.TheVariants as handle
use Rattle.sstable_index.specs.Errors.{error_of_handle}
use Rattle.sstable_index.specs.declared.errors.SstError.{SstError}
use Rattle.sstable_format.proofs.Keeping.{run_of-table, entries-none}

pub finds-none : {V W : Type 0} (shown : W → V) (codec : Codec V) (count : ℕ) (part : List ℕ) (key : Key) (told : Option (List (Key × V))) → told ≡ entries_under codec (Entries []) count part → FindsTold shown told key (Ok None)
unfolding value_at
finds-none shown codec count part key None is = tt
finds-none shown codec count part key (Some entries) is = sym (ap (value_at key) (entries-none codec count part entries (sym is)))

-- what was found in the blocks was found in the table
pub finds-told : {V W : Type 0} (shown : W → V) (key : Key) (told : Option (List (Key × V))) (result : Result (Option W) SstError) → ((entries : List (Key × V)) → told ≡ Some entries → Finds shown entries key result) → FindsTold shown told key result
finds-told shown key None result all = tt
finds-told shown key (Some entries) (Ok found) all = all entries refl
finds-told shown key (Some entries) (Err error) all = inl (all entries refl)

-- a table without index entries has no value at any key
pub finds-v2 : {V W : Type 0} (shown : W → V) (codec : Codec V) (opened : Opened) (contents : Option (List ℕ)) (key : Key) → opened.index ≡ Entries [] → FindsTold shown (entries_told codec opened contents) key (Ok None)
finds-v2 shown codec opened None key none = tt
finds-v2 shown codec opened (Some bytes) key none =
    finds-none shown codec opened.num_terms (slice_range bytes opened.blocks_range.start opened.blocks_range.end) key (entries_told codec opened (Some bytes))
    (ap (λ i. entries_under codec i opened.num_terms (slice_range bytes opened.blocks_range.start opened.blocks_range.end)) none)

-- what a look-up in the bytes of the blocks answers of the table
pub finds-in : {V W : Type 0} (shown : W → V) (codec : Codec V) (opened : Opened) (contents : Option (List ℕ)) (start end : ℕ) (blocks : List ℕ) (key : Key) (result : Result (Option W) SstError)
    → start ≡ opened.blocks_range.start → end ≡ opened.blocks_range.end → IsPart contents start end blocks → ((entries : List (Key × V)) → run_of codec blocks ≡ Some entries → Finds shown entries key result)
    → FindsTold shown (entries_told codec opened contents) key result
finds-in shown codec opened None start end blocks key result a b part all = tt
finds-in shown codec opened (Some bytes) start end blocks key result a b part all =
    let here : blocks ≡ slice_range bytes opened.blocks_range.start opened.blocks_range.end = part ∙ ap (λ n. slice_range bytes n end) a ∙ ap (λ n. slice_range bytes opened.blocks_range.start n) b in
    finds-told shown key (entries_told codec opened (Some bytes)) result
    (λ entries is. all entries (ap (run_of codec) here ∙ run_of-table codec opened.index opened.num_terms (slice_range bytes opened.blocks_range.start opened.blocks_range.end) entries is))

-- a read that failed finds nothing
pub finds-unread : {V W : Type 0} (shown : W → V) (codec : Codec V) (opened : Opened) (contents : Option (List ℕ)) (key : Key) (h : HandleError) (e : SstError) → e ≡ error_of_handle h → FindsTold shown (entries_told codec opened contents) key (Err e)
finds-unread {V} shown codec opened contents key h e is = by (entries_told codec opened contents) h is
  where
    by : (told : Option (List (Key × V))) (h : HandleError) → e ≡ error_of_handle h → FindsTold shown told key (Err e)
    by None h is = tt
    by (Some entries) handle.Memory is = inl is
    by (Some entries) handle.Failed is = inr is
