-- What an index part of version 2 tells, by the run that was read.
use Rattle.std.proofs.Common.{◌≡◌, ◌≢◌, ℕ, ◌-◌, ◌≤◌, ◌<◌, ◌+◌, ◌^◌, List, [], ◌∷◌, length, take, drop, get_or, Bool, true, false, ◌||◌, ◌&&◌, Option, Some, None, Err, refl, ap, sym, subst, ◌∙◌, arith}
use Rattle.std.specs.Prelude.{nat_le, nat_lt}
use Rattle.std.specs.List.{zip}
use Rattle.std.proofs.lemmas.Bool.{and_parts, and_from, le-leb, lt-leb, lt-ltb}
use Rattle.std.proofs.lemmas.List.{drop_more, drop_all, length-map}
use Rattle.owned_bytes.specs.Front.{◌>>=◌, provided, pieces}
use Rattle.owned_bytes.specs.Keys.{Key, is_rising}
use Rattle.owned_bytes.proofs.Pieces.{some_is}
use Rattle.sstable_values.specs.Codec.{Address, index}
use Rattle.sstable_blocks.specs.Run.{Block, Run, front_of_blocks, blocks_after, entries_of}
unfoldable use Rattle.sstable_blocks.specs.Run.{whole_run_of}
use Rattle.sstable_blocks.specs.Writing.{keys_in}
use Rattle.sstable_format.specs.Index.{IndexEntry, Index, Entries, is_zeros, index_of_version}
unfoldable use Rattle.sstable_format.specs.Index.{index_v2_of}
use Rattle.sstable_format.proofs.IndexParts.{index-v2}
use Rattle.block_addresses.specs.Opened.{passing, can_index, may_follow, fits_u64, fits_address, rises_from}
unfoldable use Rattle.block_addresses.specs.Opened.{can_follow}
use Rattle.sstable_index.specs.declared.load_errors.LoadError.{LoadError}
use Rattle.sstable_index.specs.declared.load_errors.LoadError.TheVariants as loading
use Rattle.sstable_index.specs.Building.{addresses_in}
use Rattle.sstable_index.specs.Usable.{can_have, is_usable, usable_index}
use Rattle.sstable_index.specs.Loaded.{AreTied}
use Rattle.sstable_index.specs.ReadingV2.{run_left, RunIs, IsNoRun}
use Rattle.sstable_index.specs.Reading.{LoadsV2}
use Rattle.sstable_index.proofs.Builds.{zip-again}
use Rattle.sstable_index.proofs.InOrder.{in-order, keys-zip, addresses-zip}

-- the index of a run, where nothing else than four zero bytes stands behind it
abbrev index_with : Option (List IndexEntry × List ℕ) → Option Index
index_with run = run >>= (λ run. provided (is_zeros 0 run.1 || is_zeros 4 run.1) >>= (λ _. Some (Entries run.0)))

run-as : (rest : List ℕ) (o : Option (List (Block Address)))
    → (o >>= (λ (blocks : List (Block Address)). let run : Run Address = record { blocks = blocks; rest = rest } in Some run) >>= (λ (run : Run Address). provided (is_zeros 0 run.rest || is_zeros 4 run.rest) >>= (λ _. Some (Entries (entries_of run.blocks)))))
    ≡ index_with (o >>= (λ (blocks : List (Block Address)). let run : List IndexEntry × List ℕ = (entries_of blocks, rest) in Some run))
run-as rest None = refl
run-as rest (Some blocks) = refl

pieces-as : (o : Option (List (List ℕ) × List ℕ))
    → (o >>= (λ (contents : List (List ℕ) × List ℕ). blocks_after index None contents.0 >>= (λ (blocks : List (Block Address)). let run : Run Address = record { blocks = blocks; rest = contents.1 } in Some run))
    >>= (λ (run : Run Address). provided (is_zeros 0 run.rest || is_zeros 4 run.rest) >>= (λ _. Some (Entries (entries_of run.blocks)))))
    ≡ index_with (o >>= (λ (contents : List (List ℕ) × List ℕ). blocks_after index None contents.0 >>= (λ (blocks : List (Block Address)). let run : List IndexEntry × List ℕ = (entries_of blocks, contents.1) in Some run)))
pieces-as None = refl
pieces-as (Some contents) = run-as contents.1 (blocks_after index None contents.0)

v2-is : (bytes : List ℕ) → index_v2_of bytes ≡ index_with (run_left None bytes)
unfolding index_v2_of whole_run_of
v2-is bytes = pieces-as (pieces front_of_blocks bytes)

pub v2-none : (bytes : List ℕ) → run_left None bytes ≡ None → usable_index 2 bytes ≡ None
v2-none bytes none = ap (passing is_usable) (v2-is bytes ∙ ap index_with none)

-- a run that was read, and what stands behind it
v2-run : (bytes : List ℕ) (keys : List Key) (addresses : List Address) (end : ℕ) (is : RunIs bytes keys addresses end) (t : Bool) → (is_zeros 0 (drop end bytes) || is_zeros 4 (drop end bytes)) ≡ t
    → usable_index 2 bytes ≡ passing is_usable (provided t >>= (λ _. Some (Entries is.entries)))
v2-run bytes keys addresses end is t ends =
    ap (passing is_usable) (v2-is bytes ∙ ap index_with is.run ∙ ap (λ b. provided b >>= (λ _. Some (Entries is.entries))) ends)

pub v2-cut : (bytes : List ℕ) (keys : List Key) (addresses : List Address) (end : ℕ) (is : RunIs bytes keys addresses end) → (is_zeros 0 (drop end bytes) || is_zeros 4 (drop end bytes)) ≡ false → usable_index 2 bytes ≡ None
v2-cut bytes keys addresses end is ends = v2-run bytes keys addresses end is false ends

pub v2-unusable : (bytes : List ℕ) (keys : List Key) (addresses : List Address) (end : ℕ) (is : RunIs bytes keys addresses end) → can_index addresses ≡ false → usable_index 2 bytes ≡ None
v2-unusable bytes keys addresses end is bad = by (is_zeros 0 (drop end bytes) || is_zeros 4 (drop end bytes)) refl
  where
    bad_entries : can_have is.entries ≡ false
    bad_entries = ap can_index (sym is.addresses_are) ∙ bad

    by : (t : Bool) → (is_zeros 0 (drop end bytes) || is_zeros 4 (drop end bytes)) ≡ t → usable_index 2 bytes ≡ None
    by true e = v2-run bytes keys addresses end is true e ∙ ap (λ t. provided t >>= (λ _. Some (Entries is.entries))) (ap can_index (sym is.addresses_are) ∙ bad)
    by false e = v2-run bytes keys addresses end is false e

pub v2-usable : (bytes : List ℕ) (keys : List Key) (addresses : List Address) (end : ℕ) (is : RunIs bytes keys addresses end) → (is_zeros 0 (drop end bytes) || is_zeros 4 (drop end bytes)) ≡ true → can_index addresses ≡ true
    → usable_index 2 bytes ≡ Some (Entries (zip keys addresses))
v2-usable bytes keys addresses end is ends good =
    v2-run bytes keys addresses end is true ends ∙ ap (λ t. provided t >>= (λ _. Some (Entries is.entries))) (ap can_index (sym is.addresses_are) ∙ good)
    ∙ ap (λ es. Some (Entries es)) (sym (zip-again is.entries) ∙ ap (λ ks. zip ks (addresses_in is.entries)) (sym is.keys_are) ∙ ap (zip keys) (sym is.addresses_are))

-- ---- addresses that are looked at one after the other

follow-next : (addresses : List Address) (ordinal i : ℕ) (a : Address) → i < length addresses → a ≡ get_or addresses i a → can_follow ordinal (drop i addresses) ≡ (may_follow ordinal a && can_follow a.first_ordinal (drop (i + 1) addresses))
unfolding can_follow
follow-next addresses ordinal i a within is = ap (can_follow ordinal) (drop_more addresses i a within ∙ ap (λ x. x ∷ drop (i + 1) addresses) (sym is))

pub follow-not : (addresses : List Address) (ordinal i : ℕ) (a : Address) → i < length addresses → a ≡ get_or addresses i a → may_follow ordinal a ≡ false → can_follow ordinal (drop i addresses) ≡ can_follow 0 addresses → false ≡ can_index addresses
follow-not addresses ordinal i a within is bad all =
    sym (ap (λ t. t && fits_u64 (length addresses)) (sym all ∙ follow-next addresses ordinal i a within is ∙ ap (λ t. t && can_follow a.first_ordinal (drop (i + 1) addresses)) bad))

pub follow-more : (addresses : List Address) (ordinal i next : ℕ) (a : Address) → i < length addresses → a ≡ get_or addresses i a → may_follow ordinal a ≡ true → next ≡ a.first_ordinal → can_follow ordinal (drop i addresses) ≡ can_follow 0 addresses
    → can_follow next (drop (i + 1) addresses) ≡ can_follow 0 addresses
follow-more addresses ordinal i next a within is good same all =
    ap (λ n. can_follow n (drop (i + 1) addresses)) same ∙ sym (follow-next addresses ordinal i a within is ∙ ap (λ t. t && can_follow a.first_ordinal (drop (i + 1) addresses)) good) ∙ all

pub follow-all : (addresses : List Address) (ordinal i : ℕ) → length addresses ≤ i → length addresses < 2 ^ 64 → can_follow ordinal (drop i addresses) ≡ can_follow 0 addresses → true ≡ can_index addresses
unfolding can_follow
follow-all addresses ordinal i past few all =
    sym (and_from (can_follow 0 addresses) (fits_u64 (length addresses)) (sym all ∙ ap (can_follow ordinal) (drop_all i addresses past)) (lt-ltb _ _ few))

-- ---- what is seen of an index

pub tied-run : (bytes : List ℕ) (keys : List Key) (addresses : List Address) (end : ℕ) (is : RunIs bytes keys addresses end) → usable_index 2 bytes ≡ Some (Entries (zip keys addresses)) → AreTied keys addresses
tied-run bytes keys addresses end is usable =
    let ordered = in-order 2 bytes (zip keys addresses) usable in
    let count : length keys ≡ length addresses = ap length is.keys_are ∙ length-map is.entries (λ (e : IndexEntry). e.0) ∙ sym (ap length is.addresses_are ∙ length-map is.entries (λ (e : IndexEntry). e.1)) in
    record {
      counted = count;
      rising = ap is_rising (sym (keys-zip keys addresses count)) ∙ ordered.keys;
      possible = ap can_index (sym (addresses-zip keys addresses count)) ∙ ordered.addresses;
    }

pub no-run-loads : (bytes : List ℕ) (error : LoadError) → IsNoRun bytes error → LoadsV2 bytes (Err error)
no-run-loads bytes loading.Memory h = tt
no-run-loads bytes (loading.Corrupt damage) h = v2-none bytes h
no-run-loads bytes (loading.Compressed place) h = (v2-none bytes h.0, h.1)
