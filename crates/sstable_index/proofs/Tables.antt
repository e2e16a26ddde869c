-- An index that a table has can be used.
use Rattle.std.proofs.Common.{◌≡◌, ℕ, zero, suc, ◌+◌, ◌^◌, ◌<◌, ◌≤◌, List, [], ◌∷◌, ◌++◌, length, Bool, true, false, ◌&&◌, Option, Some, None, refl, ap, sym, ◌∙◌, arith, length-append, take}
use Rattle.std.specs.Prelude.{◌==◌, nat_lt, nat_le}
use Rattle.std.proofs.lemmas.Bool.{and_parts, and_from, eqb-true, le-leb, lt-ltb, false≢true}
use Rattle.owned_bytes.specs.Front.{◌>>=◌, provided, Front, End, Piece, Fault, continued, pieces}
use Rattle.owned_bytes.proofs.Pieces.{bind_some, some_is, pieces-step, provided-true}
use Rattle.sstable_values.specs.Codec.{Codec, Address}
use Rattle.sstable_blocks.specs.Run.{Block, front_of_blocks, last_key, may_follow, key_before, entries_of}
use Rattle.sstable_blocks.specs.Block.{block_of}
unfoldable use Rattle.sstable_blocks.specs.Run.{blocks_after, whole_run_of}
use Rattle.sstable_blocks.proofs.RunLaws.{blocks-shrink, found-piece, block-split}
use Rattle.sstable_format.specs.Index.{IndexEntry, Entries, is_zeros}
use Rattle.sstable_format.specs.Table.{same_address, reaches, stays_below_next, keeping_nothing, indexes}
unfoldable use Rattle.sstable_format.specs.Table.{places_from, points_to, blocks_of, blocks_under}
use Rattle.block_addresses.specs.Opened.{fits_u64, fits_address, rises_from, may_follow as may_be_next, can_index}
unfoldable use Rattle.block_addresses.specs.Opened.{can_follow}
use Rattle.sstable_index.specs.Building.{addresses_in}
use Rattle.sstable_index.specs.Usable.{can_have}
use Rattle.sstable_index.specs.Laws.{TablesCanHave}

-- how many bytes blocks with these contents have
total : List (List ℕ) → ℕ
total [] = 0
total (content ∷ contents) = 5 + length content + total contents

-- how many bytes these blocks have
pub size : {V : Type 0} → List (Block V) → ℕ
size [] = 0
size (block ∷ blocks) = 5 + length block.content + size blocks

-- blocks take no more bytes than there are
total-front : (n : ℕ) (bytes : List ℕ) (front : Front (List ℕ)) → front_of_blocks bytes ≡ front → (found : List (List ℕ) × List ℕ) → continued (pieces front_of_blocks) bytes front ≡ Some found
    → ((rest : List ℕ) (others : List (List ℕ) × List ℕ) → length rest < length bytes → pieces front_of_blocks rest ≡ Some others → total others.0 ≤ length rest) → total found.0 ≤ length bytes
unfolding total
total-front n bytes End at found e less =
    let none : [] ≡ found.0 = ap (λ (p : List (List ℕ) × List ℕ). p.0) (some_is _ found e) in
    omega (arith, ap total (sym none))
total-front n bytes (Piece content rest) at found e less =
    let step = bind_some (pieces front_of_blocks rest) (λ others. Some (content ∷ others.0, others.1)) found e in
    let is = block-split 0 bytes content rest (found-piece 0 bytes content rest at) in
    let len : length bytes ≡ length (take 4 bytes) + (1 + (length content + length rest)) = ap length is.parts ∙ simp length-append (omega arith) in
    let others = less rest step.0 (omega (arith, len)) step.1 in
    let all : content ∷ step.0.0 ≡ found.0 = ap (λ (p : List (List ℕ) × List ℕ). p.0) (some_is _ found step.2) in
    omega (arith, ap total (sym all), others, len, is.word)
total-front n bytes Fault at found e less = absurd cc

total-upto : (n : ℕ) (bytes : List ℕ) (found : List (List ℕ) × List ℕ) → length bytes ≤ n → pieces front_of_blocks bytes ≡ Some found → total found.0 ≤ length bytes
total-upto zero bytes found fits e =
    total-front 0 bytes (front_of_blocks bytes) refl found (sym (pieces-step front_of_blocks blocks-shrink bytes) ∙ e) (λ rest others less h. absurd (omega (arith, less, fits)))
total-upto (suc n) bytes found fits e =
    total-front n bytes (front_of_blocks bytes) refl found (sym (pieces-step front_of_blocks blocks-shrink bytes) ∙ e) (λ rest others less h. total-upto n rest others (omega (arith, less, fits)) h)

size-total : {V : Type 0} (codec : Codec V) (before : _) (contents : List (List ℕ)) (blocks : List (Block V)) → blocks_after codec before contents ≡ Some blocks → size blocks ≡ total contents
unfolding blocks_after size total
size-total codec before [] blocks e = ap size (sym (some_is [] blocks e))
size-total {V} codec before (content ∷ contents) blocks e =
    let first = bind_some (block_of codec (key_before codec before) content) (λ entries. provided (may_follow before entries) >>= (λ _. blocks_after codec (last_key entries) contents >>= (λ others. Some (record { content = content; entries = entries } ∷ others)))) blocks e in
    let second = bind_some (provided (may_follow before first.0)) (λ _. blocks_after codec (last_key first.0) contents >>= (λ others. Some (record { content = content; entries = first.0 } ∷ others))) blocks first.2 in
    let third = bind_some (blocks_after codec (last_key first.0) contents) (λ others. Some (record { content = content; entries = first.0 } ∷ others)) blocks second.2 in
    let others = size-total codec (last_key first.0) contents third.0 third.1 in
    let all = some_is _ blocks third.2 in
    ap size (sym all) ∙ ap (λ n. 5 + length content + n) others

-- the blocks before an index part, and how many bytes they take
pub blocks-size : {V : Type 0} (codec : Codec V) (front : List ℕ) (blocks : List (Block V)) → blocks_of codec front ≡ Some blocks → size blocks ≤ length front
unfolding blocks_of whole_run_of
blocks-size {V} codec front blocks e =
    let run = bind_some (whole_run_of (keeping_nothing codec) front) (λ run. provided (is_zeros 4 run.rest) >>= (λ _. Some run.blocks)) blocks e in
    let test = bind_some (provided (is_zeros 4 run.0.rest)) (λ _. Some run.0.blocks) blocks run.2 in
    let contents = bind_some (pieces front_of_blocks front) (λ contents. blocks_after (keeping_nothing codec) None contents.0 >>= (λ found. Some (record { blocks = found; rest = contents.1 }))) run.0 run.1 in
    let found = bind_some (blocks_after (keeping_nothing codec) None contents.0.0) (λ found. Some (record { blocks = found; rest = contents.0.1 })) run.0 contents.2 in
    let same : found.0 ≡ blocks = ap (λ (r : _). r.blocks) (some_is _ run.0 found.2) ∙ some_is _ blocks test.2 in
    omega (arith, ap size (sym same), size-total (keeping_nothing codec) None contents.0.0 found.0 found.1, total-upto (length front) front contents.0 (omega arith) contents.1)

-- the addresses of an index of blocks are such as blocks can have
can_follow-places : {V : Type 0} (entries : List IndexEntry) (blocks : List (Block V)) (start ordinal before : ℕ) → points_to entries blocks (places_from start ordinal blocks) ≡ true
    → start + size blocks < 2 ^ 64 → ordinal + length (entries_of blocks) < 2 ^ 64 → before ≤ ordinal → can_follow before (addresses_in entries) ≡ true
unfolding points_to places_from can_follow size
can_follow-places [] [] start ordinal before e far many low = refl
can_follow-places [] (block ∷ blocks) start ordinal before e far many low = absurd (false≢true e)
can_follow-places (entry ∷ entries) [] start ordinal before e far many low = absurd (false≢true e)
can_follow-places {V} (entry ∷ entries) (block ∷ blocks) start ordinal before e far many low =
    let place : Address = record { start = start; end = start + 5 + length block.content; first_ordinal = ordinal } in
    let rest = and_parts (same_address entry.1 place && reaches (last_key block.entries) entry.0 && stays_below_next entry.0 blocks) (points_to entries blocks (places_from (start + 5 + length block.content) (ordinal + length block.entries) blocks)) e in
    let below = and_parts (same_address entry.1 place && reaches (last_key block.entries) entry.0) (stays_below_next entry.0 blocks) rest.0 in
    let same = and_parts (same_address entry.1 place) (reaches (last_key block.entries) entry.0) below.0 in
    let both = and_parts (entry.1.start == start && entry.1.end == start + 5 + length block.content) (entry.1.first_ordinal == ordinal) same.0 in
    let range = and_parts (entry.1.start == start) (entry.1.end == start + 5 + length block.content) both.0 in
    let is_start : entry.1.start ≡ start = eqb-true _ _ range.0 in
    let is_end : entry.1.end ≡ start + 5 + length block.content = eqb-true _ _ range.1 in
    let is_ordinal : entry.1.first_ordinal ≡ ordinal = eqb-true _ _ both.1 in
    let more : length (entries_of (block ∷ blocks)) ≡ length block.entries + length (entries_of blocks) = length-append block.entries (entries_of blocks) in
    let fits : fits_address entry.1 ≡ true =
    and_from (fits_u64 entry.1.start) (fits_u64 entry.1.end && fits_u64 entry.1.first_ordinal) (lt-ltb _ _ (omega (arith, is_start, far)))
    (and_from (fits_u64 entry.1.end) (fits_u64 entry.1.first_ordinal) (lt-ltb _ _ (omega (arith, is_end, far))) (lt-ltb _ _ (omega (arith, is_ordinal, many)))) in
    let rises : rises_from before entry.1 ≡ true =
    and_from (nat_le entry.1.start entry.1.end) (nat_le before entry.1.first_ordinal) (le-leb _ _ (omega (arith, is_start, is_end))) (le-leb _ _ (omega (arith, is_ordinal, low))) in
    and_from (may_be_next before entry.1) (can_follow entry.1.first_ordinal (addresses_in entries)) (and_from (fits_address entry.1) (rises_from before entry.1) fits rises)
    (can_follow-places entries blocks (start + 5 + length block.content) (ordinal + length block.entries) entry.1.first_ordinal rest.1 (omega (arith, far)) (omega (arith, many, more)) (omega (arith, is_ordinal)))

-- each block has an entry, and takes five bytes and more
few-entries : {V : Type 0} (entries : List IndexEntry) (blocks : List (Block V)) (places : List Address) → points_to entries blocks places ≡ true → length (addresses_in entries) ≤ size blocks
unfolding points_to size
few-entries [] blocks places e = omega arith
few-entries (entry ∷ entries) [] places e = absurd (false≢true e)
few-entries (entry ∷ entries) (block ∷ blocks) [] e = absurd (false≢true e)
few-entries (entry ∷ entries) (block ∷ blocks) (place ∷ places) e =
    let rest = and_parts (same_address entry.1 place && reaches (last_key block.entries) entry.0 && stays_below_next entry.0 blocks) (points_to entries blocks places) e in
    omega (arith, few-entries entries blocks places rest.1)

pub tables-can-have : {V : Type 0} (codec : Codec V) → TablesCanHave codec
unfolding blocks_under
tables-can-have codec entries count front blocks e short many =
    let found = bind_some (blocks_of codec front) (λ blocks. provided (count == length (entries_of blocks) && indexes (Entries entries) blocks) >>= (λ _. Some blocks)) blocks e in
    let test = bind_some (provided (count == length (entries_of found.0) && indexes (Entries entries) found.0)) (λ _. Some found.0) blocks found.2 in
    let holds = and_parts (count == length (entries_of found.0)) (points_to entries found.0 (places_from 0 0 found.0)) (provided-true _ _ test.1) in
    let counted : count ≡ length (entries_of found.0) = eqb-true _ _ holds.0 in
    let small : size found.0 ≤ length front = blocks-size codec front found.0 found.1 in
    and_from (can_follow 0 (addresses_in entries)) (fits_u64 (length (addresses_in entries)))
    (can_follow-places entries found.0 0 0 0 holds.1 (omega (arith, small, short)) (omega (arith, counted, many)) (omega arith))
    (lt-ltb _ _ (omega (arith, few-entries entries found.0 (places_from 0 0 found.0) holds.1, small, short)))
