-- How a run of blocks of an index of version 2 is read.
use Rattle.std.proofs.Common.{◌≡◌, ℕ, ◌+◌, ◌<◌, ◌≤◌, List, [], ◌∷◌, ◌++◌, length, drop, Bool, true, false, Option, Some, None, Ok, Err, Result, refl, ap, sym, subst, ◌∙◌, arith, append-nil, append_assoc, length-drop, drop-drop}
use Rattle.std.specs.Prelude.{unwrap_or, option_map}
use Rattle.std.proofs.lemmas.List.{map-append}
use Rattle.owned_bytes.specs.Front.{◌>>=◌, provided, Front, End, Piece, Fault, continued, pieces}
use Rattle.owned_bytes.specs.Keys.{Key}
use Rattle.owned_bytes.proofs.Pieces.{pieces-step, bind_some, some_is}
use Rattle.sstable_values.specs.declared.errors.BlockError.{BlockError}
use Rattle.sstable_values.specs.declared.errors.BlockError.TheVariants as blocks
use Rattle.sstable_values.specs.Codec.{Address}
unfoldable use Rattle.sstable_values.specs.Codec.{index}
use Rattle.sstable_blocks.specs.Content.{Found, head_len, block_at}
use Rattle.sstable_blocks.specs.Block.{block_of}
use Rattle.sstable_blocks.specs.Run.{Block, block_or_end, front_of_blocks, last_key, may_follow, key_before, entries_of}
unfoldable use Rattle.sstable_blocks.specs.Run.{blocks_after}
use Rattle.sstable_blocks.specs.BlockReader.{State, behind, unread, before_bytes, ReadsBlock}
unfoldable use Rattle.sstable_blocks.specs.BlockReader.{onto_bytes}
use Rattle.sstable_blocks.specs.Writing.{keys_in}
use Rattle.sstable_blocks.proofs.BlockLaws.{block-parts}
use Rattle.sstable_blocks.proofs.RunLaws.{front-placed, blocks-shrink, block_of-some}
use Rattle.sstable_format.specs.Index.{IndexEntry}
use Rattle.sstable_format.specs.Refused.{is_compressed_at}
use Rattle.sstable_index.specs.declared.load_errors.LoadError.{LoadError}
use Rattle.sstable_index.specs.declared.load_errors.LoadError.TheVariants as loading
use Rattle.sstable_index.specs.Errors.{load_error_of_block}
use Rattle.sstable_index.specs.Building.{addresses_in}
use Rattle.sstable_index.specs.Loaded.{last_of}
use Rattle.sstable_index.specs.ReadingV2.{entries_behind, AddsEntries, DamagedOnly, run_left, with_run_left, HasRead, RunIs, IsNoRun}
use Rattle.sstable_index.proofs.CompressedBlocks.{found-compressed}

-- ---- the run that is left

abbrev Left : Type 0
Left = Option (List IndexEntry × List ℕ)

-- entries, and then those of a run
abbrev behind_entries : List IndexEntry → List IndexEntry × List ℕ → Left
behind_entries entries run = Some (entries ++ run.0, run.1)

-- the run of these blocks
abbrev as_run : List ℕ → List (Block Address) → Left
as_run rest blocks = Some (entries_of blocks, rest)

-- a block's entries, and then the run behind it
abbrev with_block : List ℕ → List IndexEntry → Left
with_block rest entries = run_left (last_key entries) rest >>= behind_entries entries

abbrev contents_of : List (List ℕ) × List ℕ → Option Key → Left
contents_of found before = blocks_after index before found.0 >>= as_run found.1

nothing-left : (o : Option (List IndexEntry)) → None ≡ (o >>= (λ entries. None >>= behind_entries entries))
nothing-left None = refl
nothing-left (Some entries) = refl

block-then : (content : List ℕ) (entries : List IndexEntry) (rest : List ℕ) (o : Option (List (Block Address)))
    → (o >>= (λ others. Some (record { content = content; entries = entries } ∷ others)) >>= as_run rest)
    ≡ (o >>= as_run rest >>= behind_entries entries)
block-then content entries rest None = refl
block-then content entries rest (Some blocks) = refl

follows-then : (content : List ℕ) (entries : List IndexEntry) (found : List (List ℕ) × List ℕ) (t : Bool)
    → (provided t >>= (λ _. blocks_after index (last_key entries) found.0 >>= (λ others. Some (record { content = content; entries = entries } ∷ others))) >>= as_run found.1)
    ≡ (provided t >>= (λ _. Some entries) >>= (λ es. contents_of found (last_key es) >>= behind_entries es))
follows-then content entries found true = block-then content entries found.1 (blocks_after index (last_key entries) found.0)
follows-then content entries found false = refl

entries-then : (before : Option Key) (content : List ℕ) (found : List (List ℕ) × List ℕ) (o : Option (List IndexEntry))
    → (o >>= (λ entries. provided (may_follow before entries) >>= (λ _. blocks_after index (last_key entries) found.0 >>= (λ others. Some (record { content = content; entries = entries } ∷ others)))) >>= as_run found.1)
    ≡ (o >>= (λ entries. provided (may_follow before entries) >>= (λ _. Some entries)) >>= (λ es. contents_of found (last_key es) >>= behind_entries es))
entries-then before content found None = refl
entries-then before content found (Some entries) = follows-then content entries found (may_follow before entries)

-- a block's content, and then those behind it
abbrev with_content : List ℕ → List (List ℕ) × List ℕ → Option (List (List ℕ) × List ℕ)
with_content content found = Some (content ∷ found.0, found.1)

contents-then : (before : Option Key) (content rest : List ℕ) (o : Option (List (List ℕ) × List ℕ)) → pieces front_of_blocks rest ≡ o
    → (o >>= with_content content >>= (λ (found : List (List ℕ) × List ℕ). contents_of found before)) ≡ (entries_behind before content >>= with_block rest)
unfolding blocks_after index
contents-then before content rest None is =
    nothing-left (entries_behind before content)
    ∙ ap (λ (o : Option (List (List ℕ) × List ℕ)). entries_behind before content >>= (λ es. o >>= (λ found. contents_of found (last_key es)) >>= behind_entries es)) (sym is)
contents-then before content rest (Some found) is =
    entries-then before content found (block_of index (unwrap_or before []) content)
    ∙ ap (λ (o : Option (List (List ℕ) × List ℕ)). entries_behind before content >>= (λ es. o >>= (λ found. contents_of found (last_key es)) >>= behind_entries es)) (sym is)

front-is : (place : ℕ) (bytes : List ℕ) (found : Found) → block_at place bytes ≡ found → front_of_blocks bytes ≡ block_or_end found
front-is place bytes found is = front-placed 0 place bytes ∙ ap block_or_end is

run-next : (before : Option Key) (place : ℕ) (bytes content rest : List ℕ) → block_at place bytes ≡ Ok (Some (content, rest)) → run_left before bytes ≡ (entries_behind before content >>= with_block rest)
run-next before place bytes content rest is =
    ap (λ (o : Option (List (List ℕ) × List ℕ)). o >>= (λ found. contents_of found before))
    (pieces-step front_of_blocks blocks-shrink bytes ∙ ap (continued (pieces front_of_blocks) bytes) (front-is place bytes (Ok (Some (content, rest))) is))
    ∙ contents-then before content rest (pieces front_of_blocks rest) refl

run-end : (before : Option Key) (place : ℕ) (bytes : List ℕ) → block_at place bytes ≡ Ok None → run_left before bytes ≡ Some ([], bytes)
unfolding blocks_after
run-end before place bytes is =
    ap (λ (o : Option (List (List ℕ) × List ℕ)). o >>= (λ found. contents_of found before))
    (pieces-step front_of_blocks blocks-shrink bytes ∙ ap (continued (pieces front_of_blocks) bytes) (front-is place bytes (Ok None) is))

run-fault : (before : Option Key) (place : ℕ) (bytes : List ℕ) (e : BlockError) → block_at place bytes ≡ Err e → run_left before bytes ≡ None
run-fault before place bytes e is =
    ap (λ (o : Option (List (List ℕ) × List ℕ)). o >>= (λ found. contents_of found before))
    (pieces-step front_of_blocks blocks-shrink bytes ∙ ap (continued (pieces front_of_blocks) bytes) (front-is place bytes (Err e) is))

-- ---- the entries so far, and those that are left

last-keys : (entries : List IndexEntry) → last_of (keys_in entries) ≡ last_key entries
last-keys [] = refl
last-keys (entry ∷ []) = refl
last-keys (entry ∷ next ∷ entries) = last-keys (next ∷ entries)

last-behind : (front : List IndexEntry) (entries : List IndexEntry) → 0 < length entries → last_key (front ++ entries) ≡ last_key entries
last-behind [] entries some = refl
last-behind (entry ∷ []) [] some = absurd (omega (arith, some))
last-behind (entry ∷ []) (next ∷ entries) some = refl
last-behind (entry ∷ next ∷ front) entries some = last-behind (next ∷ front) entries some

some-entries : (before : Option Key) (content : List ℕ) (entries : List IndexEntry) → entries_behind before content ≡ Some entries → 0 < length entries
some-entries before content entries e =
    let found = bind_some (block_of index (unwrap_or before []) content) (λ es. provided (may_follow before es) >>= (λ _. Some es)) entries e in
    let test = bind_some (provided (may_follow before found.0)) (λ _. Some found.0) entries found.2 in
    omega (arith, block_of-some index (unwrap_or before []) content found.0 found.1, ap length (some_is _ entries test.2))

abbrev joined : List IndexEntry → Left → Left
joined entries left = option_map (λ (run : List IndexEntry × List ℕ). (entries ++ run.0, run.1)) left

join-block : (front entries : List IndexEntry) (o : Left) → joined front (o >>= behind_entries entries) ≡ joined (front ++ entries) o
join-block front entries None = refl
join-block front entries (Some run) = ap (λ (es : List IndexEntry). Some (es, run.1)) (sym (append_assoc front entries run.0))

join-none : (o : Left) → joined [] o ≡ o
join-none None = refl
join-none (Some run) = refl

-- Where a reader is in its one slice, and what was read.
pub record IsReading (bytes : List ℕ) (keys : List Key) (addresses : List Address) (end : ℕ) (state : State) : Type 0 where
  pub has : HasRead bytes keys addresses end state.rest
  pub alone : state.more ≡ []
  pub at : state.place ≡ end

pub reading-begins : (bytes : List ℕ) (keys : List Key) (addresses : List Address) (state : State) → keys ≡ [] → addresses ≡ [] → state ≡ before_bytes bytes 0 → IsReading bytes keys addresses 0 state
reading-begins bytes keys addresses state no_keys no_addresses is = subst (λ s. IsReading bytes keys addresses 0 s) (sym is) (record {
  has = record { entries = []; keys_are = no_keys; addresses_are = no_addresses; left = join-none (run_left None bytes); within = omega arith; rest_is = refl };
  alone = refl;
  at = refl;
})

-- behind its block it is where it was
record IsBehind (state : State) : Type 0 where
  rest : (behind state).rest ≡ state.rest
  place : (behind state).place ≡ state.place
  more : (behind state).more ≡ []

behind-one : (state : State) → state.more ≡ [] → IsBehind state
unfolding onto_bytes
behind-one state alone = record {
  rest = ap (λ slices. (onto_bytes state.rest state.place slices state.ordinal).rest) alone;
  place = ap (λ slices. (onto_bytes state.rest state.place slices state.ordinal).place) alone;
  more = ap (λ slices. (onto_bytes state.rest state.place slices state.ordinal).more) alone;
}

found-here : (bytes : List ℕ) (keys : List Key) (addresses : List Address) (end : ℕ) (state : State) (found : Found) → IsReading bytes keys addresses end state → block_at (behind state).place (behind state).rest ≡ found
    → block_at end state.rest ≡ found
found-here bytes keys addresses end state found is e =
    let one = behind-one state is.alone in
    sym (ap (λ n. block_at n (behind state).rest) (one.place ∙ is.at) ∙ ap (block_at end) one.rest) ∙ e

-- a block's entries were added
pub reading-more : (bytes content : List ℕ) (keys keys' : List Key) (addresses addresses' : List Address) (end end' : ℕ) (old new : State) → IsReading bytes keys addresses end old → ReadsBlock (behind old) new (Ok true)
    → content ≡ unread new → AddsEntries content keys keys' addresses addresses' → end' ≡ end + (5 + length content) → IsReading bytes keys' addresses' end' new
reading-more bytes content keys keys' addresses addresses' end end' old new is reads same adds moved =
    let has = is.has in
    let one = behind-one old is.alone in
    let block : content ≡ new.block = same ∙ ap (λ n. drop n new.block) reads.1 in
    let found : block_at end old.rest ≡ Ok (Some (content, new.rest)) = found-here bytes keys addresses end old _ is reads.0 ∙ ap (λ (b : List ℕ). Ok (Some (b, new.rest))) (sym block) in
    let parts = block-parts end old.rest content new.rest found in
    let room : length old.rest + end ≡ length bytes = omega (arith, ap length has.rest_is, length-drop end bytes, has.within) in
    let before : last_of (keys_in has.entries) ≡ last_of keys = ap last_of (sym has.keys_are) in
    let some = some-entries (last_of keys) content adds.entries adds.found in
    let last : last_of (keys_in (has.entries ++ adds.entries)) ≡ last_key adds.entries = last-keys (has.entries ++ adds.entries) ∙ last-behind has.entries adds.entries some in
    let next : run_left (last_of keys) old.rest ≡ with_block new.rest adds.entries = run-next (last_of keys) end old.rest content new.rest found ∙ ap (λ o. o >>= with_block new.rest) adds.found in
    record {
      has = record {
        entries = has.entries ++ adds.entries;
        keys_are = adds.keys ∙ ap (λ ks. ks ++ keys_in adds.entries) has.keys_are ∙ sym (map-append (λ (e : IndexEntry). e.0) has.entries adds.entries);
        addresses_are = adds.addresses ∙ ap (λ places. places ++ addresses_in adds.entries) has.addresses_are ∙ sym (map-append (λ (e : IndexEntry). e.1) has.entries adds.entries);
        left =
            ap (λ b. joined (has.entries ++ adds.entries) (run_left b new.rest)) last ∙ sym (join-block has.entries adds.entries (run_left (last_key adds.entries) new.rest))
            ∙ ap (joined has.entries) (sym next) ∙ ap (λ b. joined has.entries (run_left b old.rest)) (sym before) ∙ has.left;
        within = omega (arith, moved, parts.0, room);
        rest_is = parts.2 ∙ ap (drop (5 + length content)) has.rest_is ∙ drop-drop (5 + length content) end bytes ∙ ap (λ n. drop n bytes) (let n : end + (5 + length content) ≡ end' = omega (arith, moved) in n);
      };
      alone = reads.3 ∙ one.more;
      at = omega (arith, reads.2, one.place, is.at, moved, ap length block);
    }

-- the run ends
pub reading-ends : (bytes : List ℕ) (keys : List Key) (addresses : List Address) (end : ℕ) (old new : State) → IsReading bytes keys addresses end old → ReadsBlock (behind old) new (Ok false) → RunIs bytes keys addresses end
reading-ends bytes keys addresses end old new is reads =
    let has = is.has in
    let ends : run_left (last_of (keys_in has.entries)) old.rest ≡ Some ([], old.rest) = run-end (last_of (keys_in has.entries)) end old.rest (found-here bytes keys addresses end old _ is reads.0) in
    record {
      entries = has.entries;
      keys_are = has.keys_are;
      addresses_are = has.addresses_are;
      run = sym has.left ∙ ap (joined has.entries) ends ∙ ap (λ (es : List IndexEntry). Some (es, old.rest)) (append-nil has.entries) ∙ ap (λ (bs : List ℕ). Some (has.entries, bs)) has.rest_is;
      within = has.within;
    }

-- what is left is no run
no-run : (bytes : List ℕ) (keys : List Key) (addresses : List Address) (end : ℕ) (rest : List ℕ) → HasRead bytes keys addresses end rest → run_left (last_of keys) rest ≡ None → run_left None bytes ≡ None
no-run bytes keys addresses end rest has none = sym has.left ∙ ap (λ b. joined has.entries (run_left b rest)) (ap last_of (sym has.keys_are)) ∙ ap (joined has.entries) none

fault-is : (bytes : List ℕ) (end : ℕ) (rest : List ℕ) (e : BlockError) → rest ≡ drop end bytes → block_at end rest ≡ Err e → run_left None bytes ≡ None → IsNoRun bytes (load_error_of_block e)
fault-is bytes end rest blocks.Memory is found none = tt
fault-is bytes end rest blocks.Corrupt is found none = none
fault-is bytes end rest (blocks.Compressed place) is found none =
    let here = found-compressed end place rest found in
    (none, ap (λ n. is_compressed_at n bytes) (sym here.0) ∙ ap (is_compressed_at 0) (sym is) ∙ here.1)

-- a block is damaged
pub reading-fault : (bytes : List ℕ) (keys : List Key) (addresses : List Address) (end : ℕ) (old new : State) (e : BlockError) (error : LoadError) → IsReading bytes keys addresses end old → ReadsBlock (behind old) new (Err e)
    → error ≡ load_error_of_block e → IsNoRun bytes error
reading-fault bytes keys addresses end old new e error is reads same =
    let found = found-here bytes keys addresses end old _ is reads.0 in
    subst (λ x. IsNoRun bytes x) (sym same) (fault-is bytes end old.rest e is.has.rest_is found (no-run bytes keys addresses end old.rest is.has (run-fault (last_of keys) end old.rest e found)))

-- a block's entries are damaged
pub reading-block_fault : (bytes content : List ℕ) (keys : List Key) (addresses : List Address) (end : ℕ) (old new : State) (error : LoadError) → IsReading bytes keys addresses end old → ReadsBlock (behind old) new (Ok true)
    → content ≡ unread new → DamagedOnly error (entries_behind (last_of keys) content ≡ None) → IsNoRun bytes error
reading-block_fault bytes content keys addresses end old new loading.Memory is reads same damaged = tt
reading-block_fault bytes content keys addresses end old new (loading.Corrupt damage) is reads same damaged =
    let block : content ≡ new.block = same ∙ ap (λ n. drop n new.block) reads.1 in
    let found : block_at end old.rest ≡ Ok (Some (content, new.rest)) = found-here bytes keys addresses end old _ is reads.0 ∙ ap (λ (b : List ℕ). Ok (Some (b, new.rest))) (sym block) in
    no-run bytes keys addresses end old.rest is.has (run-next (last_of keys) end old.rest content new.rest found ∙ ap (λ o. o >>= with_block new.rest) damaged)
reading-block_fault bytes content keys addresses end old new (loading.Compressed place) is reads same damaged = absurd damaged
