-- How a table is made.
use Rattle.std.specs.Prelude.{◌≡◌, ◌≢◌, ◌⊎◌, ℕ, ◌+◌, ◌-◌, ◌^◌, ◌<◌, ◌≤◌, List, [], ◌∷◌, ◌++◌, length, take, drop, map, option_map, replicate, unwrap_or, Bool, true, false, nat_lt, Option, Some, None, Result, Ok, Err, IsTrue, IfSome}
use Rattle.std.specs.Int.{w32, w64, to_le_bytes}
use Rattle.std.specs.List.{flat_map, AllByRecursion}
use Rattle.std.specs.Io.KnownBytes.{Appends, Keeps}
use Rattle.owned_bytes.specs.Keys.{Key, is_below}
use Rattle.owned_bytes.specs.Outside.{AppendsPrefix}
use Rattle.sstable_values.specs.Values.{Values, Listed, Everywhere}
use Rattle.sstable_values.specs.Codec.{Codec, Address}
use Rattle.sstable_blocks.specs.Block.{delta, deltas_between}
use Rattle.sstable_blocks.specs.Content.{block}
use Rattle.sstable_blocks.specs.Run.{Block, entries_of}
use Rattle.sstable_blocks.specs.Writing.{keys_in, default_block_len, length_limit}
use Rattle.sstable_format.specs.Version.{version_of}
use Rattle.sstable_format.specs.Index.{IndexEntry}
use Rattle.sstable_format.specs.Table.{sst_of, table_blocks}
use Rattle.sstable_index.specs.Building.{with_last_key_shortened, index_part}
use Rattle.sstable_index.specs.declared.write_errors.Unfinished.{Unfinished}
use Rattle.sstable_index.specs.declared.write_errors.SstWriteError.{SstWriteError}
use Rattle.sstable_index.specs.declared.write_errors.SstWriteError.TheVariants.{Memory, Write, Unsorted, ValueRefused, BlockTooLong, Spent}

-- What a writer of tables shows.
pub record Making (W V : Type 0) : Type 0 where
  -- the blocks that were written out, where they are told
  pub closed : Option (List (Block V))
  -- the entries of the open block
  pub gathered : List (Key × V)
  -- the key that was inserted last, where there is one
  pub last : Option Key
  -- how many entries were inserted
  pub count : ℕ
  -- a block is closed once it has more bytes of deltas than this
  pub block_len : ℕ
  -- what each later call answers, once a block was not written out
  pub refusal : Option SstWriteError
  -- a key and the address of each block that was written out, and how many bytes these blocks have
  pub index : List IndexEntry
  pub counted : ℕ
  -- what the table is appended to
  pub sink : W

-- the list inserted so far: the entries of the closed blocks, and then those of the open one
abbrev pub inserted : {W V : Type 0} → Making W V → Option (List (Key × V))
inserted w = option_map (λ blocks. entries_of blocks ++ w.gathered) w.closed

-- Nothing was inserted yet.
pub record Begins {W V : Type 0} (w : Making W V) (sink : W) : Type 0 where
  pub closed : w.closed ≡ Some []
  pub gathered : w.gathered ≡ []
  pub last : w.last ≡ None
  pub count : w.count ≡ 0
  pub block_len : w.block_len ≡ default_block_len
  pub ready : w.refusal ≡ None
  pub index : w.index ≡ []
  pub counted : w.counted ≡ 0
  pub same_sink : w.sink ≡ sink

-- a key may come after the last one
abbrev pub may_come : Option Key → Key → Bool
may_come None key = true
may_come (Some last) key = is_below last key

-- the values of entries: one for each, or the one that stands everywhere
abbrev pub values_by : {V : Type 0} → Option V → List (Key × V) → Values V
values_by None entries = Listed (map (λ entry. entry.1) entries)
values_by (Some value) entries = Everywhere value

-- the values of the open block
abbrev pub gathered_values : {W V : Type 0} → Codec V → Making W V → Values V
gathered_values codec w = values_by codec.everywhere w.gathered

-- the deltas that entries are written as
abbrev pub deltas_of : {V : Type 0} → List (Key × V) → List ℕ
deltas_of entries = flat_map delta (deltas_between [] (keys_in entries))

-- the content of the open block
abbrev pub content_of : {W V : Type 0} → Codec V → Making W V → List ℕ
content_of codec w = codec.spelled (gathered_values codec w) ++ deltas_of w.gathered

-- there is an open block, and it is too long to be written
abbrev pub IsTooLong : {W V : Type 0} → Codec V → Making W V → Type 0
IsTooLong codec w = (w.gathered ≢ []) × (length_limit ≤ length (content_of codec w) + 1)

-- what is made of a list that has an element
abbrev pub if_any : {A B : Type 0} → List A → B → List B
if_any [] made = []
if_any (x ∷ xs) made = made ∷ []

-- the open block, where it has an entry
abbrev pub open_block : {W V : Type 0} → Codec V → Making W V → List (Block V)
open_block codec w = if_any w.gathered (record { content = content_of codec w; entries = w.gathered })

-- the bytes of blocks
abbrev pub bytes_of : {V : Type 0} → List (Block V) → List ℕ
bytes_of blocks = flat_map (λ each. block each.content) blocks

-- the last n bytes
abbrev pub last_bytes : ℕ → List ℕ → List ℕ
last_bytes n bytes = drop (length bytes - n) bytes

-- where the open block will stand
abbrev pub next_address : {W V : Type 0} → Codec V → Making W V → Address
next_address codec w = record {
  start = w.counted;
  end = w.counted + length (bytes_of (open_block codec w));
  first_ordinal = w.count - length w.gathered;
}

-- the index, with the open block where it has an entry
abbrev pub whole_index : {W V : Type 0} → Codec V → Making W V → List IndexEntry
whole_index codec w = w.index ++ if_any w.gathered (unwrap_or w.last [], next_address codec w)

-- ---- inserting

-- The entry may be added: the writer is ready, the key comes after every key that was inserted, and the codec accepts the
-- value after those of the open block.
pub record IsTaken {W V : Type 0} (codec : Codec V) (w : Making W V) (key : Key) (v : V) : Type 0 where
  pub ready : w.refusal ≡ None
  pub after : IsTrue (may_come w.last key)
  pub accepted : IsTrue (codec.accepts (gathered_values codec w) v)

-- the first key of a block shortens the key of the block before it
abbrev pub index_before : {V : Type 0} → List (Key × V) → List IndexEntry → Key → List IndexEntry
index_before [] index key = with_last_key_shortened index key
index_before (entry ∷ entries) index key = index

-- An entry was added to the open block.
pub record Adds {W V : Type 0} (old new : Making W V) (key : Key) (v : V) : Type 0 where
  pub gathered : new.gathered ≡ old.gathered ++ (key, v) ∷ []
  pub last : new.last ≡ Some key
  pub count : new.count ≡ old.count + 1
  pub index : new.index ≡ index_before old.gathered old.index key
  pub closed : IfSome old.closed (λ blocks. new.closed ≡ Some blocks)
  pub fits : length (deltas_of new.gathered) < 2 ^ 64
  pub others : new ≡ record old { closed = new.closed; gathered = new.gathered; last = new.last; count = new.count; index = new.index }

-- Why an entry isn't added. What is looked at first gives the reason.
abbrev pub Refuses : {W V : Type 0} → Codec V → Making W V → Key → V → SstWriteError → Type 0
Refuses codec w key v Memory = (w.refusal ≡ None) × IsTrue (may_come w.last key)
Refuses codec w key v Write = ⊥
Refuses codec w key v Unsorted = (w.refusal ≡ None) × (may_come w.last key ≡ false)
Refuses codec w key v ValueRefused =
    (w.refusal ≡ None) × IsTrue (may_come w.last key) × (codec.accepts (gathered_values codec w) v ≡ false)
Refuses codec w key v BlockTooLong = w.refusal ≡ Some BlockTooLong
Refuses codec w key v Spent = w.refusal ≡ Some Spent

-- the open block is to be closed
abbrev pub is_due : {W V : Type 0} → Making W V → Bool
is_due w = nat_lt w.block_len (length (deltas_of w.gathered))

-- The open block was written out, and the next one is empty. The sink tells its bytes by `told`.
pub record Closes {W V : Type 0} (codec : Codec V) (told : W → Option (List ℕ)) (old new : Making W V) : Type 0 where
  pub short : ¬ IsTooLong codec old
  pub appended : Appends (told old.sink) (told new.sink) (bytes_of (open_block codec old))
  pub counted : new.counted ≡ old.counted + length (bytes_of (open_block codec old))
  pub index : new.index ≡ whole_index codec old
  pub closed : IfSome (told old.sink) (λ bytes. IfSome old.closed (λ blocks. new.closed ≡ Some (blocks ++ open_block codec old)))
  pub gathered : new.gathered ≡ []
  pub others : new ≡ record old { closed = new.closed; gathered = new.gathered; index = new.index; counted = new.counted; sink = new.sink }

-- Why the open block was not written out, or only a prefix of it was. Each later call is refused.
abbrev pub FailsToClose : {W V : Type 0} → Codec V → (W → Option (List ℕ)) → Making W V → Making W V → SstWriteError → Type 0
FailsToClose codec told old new Memory =
    (new.refusal ≡ Some Spent) × AppendsPrefix (told old.sink) (told new.sink) (bytes_of (open_block codec old))
FailsToClose codec told old new Write =
    (new.refusal ≡ Some Spent) × AppendsPrefix (told old.sink) (told new.sink) (bytes_of (open_block codec old)) × ¬ IsTooLong codec old
FailsToClose codec told old new Unsorted = ⊥
FailsToClose codec told old new ValueRefused = ⊥
FailsToClose codec told old new BlockTooLong = IsTooLong codec old × (new ≡ record old { refusal = Some BlockTooLong })
FailsToClose codec told old new Spent = ⊥

-- What a call did that closes the open block where it is due.
abbrev pub ClosesIfDue : {W V : Type 0} → Codec V → (W → Option (List ℕ)) → Making W V → Making W V → Result (Unit {0}) SstWriteError → Type 0
ClosesIfDue codec told old new (Ok _) = (is_due old ≡ true → Closes codec told old new) × (is_due old ≡ false → new ≡ old)
ClosesIfDue codec told old new (Err e) = (is_due old ≡ true) × FailsToClose codec told old new e

-- The same, unless an earlier call failed to close it.
abbrev pub Closing : {W V : Type 0} → Codec V → (W → Option (List ℕ)) → Making W V → Making W V → Result (Unit {0}) SstWriteError → Type 0
Closing codec told old new (Ok x) = (old.refusal ≡ None) × ClosesIfDue codec told old new (Ok x)
Closing codec told old new (Err e) =
    ((old.refusal ≡ Some e) × (new ≡ old)) ⊎ ((old.refusal ≡ None) × ClosesIfDue codec told old new (Err e))

-- An entry was added, and then the open block closed where it was due.
pub record Inserts {W V : Type 0} (codec : Codec V) (told : W → Option (List ℕ)) (old new : Making W V) (key : Key) (v : V) (result : Result (Unit {0}) SstWriteError) : Type 0 where
  pub taken : IsTaken codec old key v
  pub between : Making W V
  pub added : Adds old between key v
  pub closes : ClosesIfDue codec told between new result

-- What an insertion did: an entry was added and the open block closed where it was due, or nothing changed for this
-- reason.
abbrev pub Inserting : {W V : Type 0} → Codec V → (W → Option (List ℕ)) → Making W V → Making W V → Key → V → Result (Unit {0}) SstWriteError → Type 0
Inserting codec told old new key v (Ok x) = Inserts codec told old new key v (Ok x)
Inserting codec told old new key v (Err e) = (Refuses codec old key v e × (new ≡ old)) ⊎ Inserts codec told old new key v (Err e)

-- The same of a writer that closes no block.
abbrev pub Gathering : {W V : Type 0} → Codec V → Making W V → Making W V → Key → V → Result (Unit {0}) SstWriteError → Type 0
Gathering codec old new key v (Ok _) = IsTaken codec old key v × Adds old new key v
Gathering codec old new key v (Err e) = Refuses codec old key v e × (new ≡ old)

-- the greatest block length: no open block in memory is due by it
abbrev pub greatest_len : ℕ
greatest_len = 2 ^ 64 - 1

-- Where the sink tells its bytes, the list inserted so far has one more entry.
abbrev pub Lengthens : {W V : Type 0} → (W → Option (List ℕ)) → Making W V → Making W V → Key → V → Type 0
Lengthens told old new key v =
    IfSome (told old.sink) (λ bytes. IfSome (inserted old) (λ entries. inserted new ≡ Some (entries ++ (key, v) ∷ [])))

-- Where the sink tells its bytes, the list inserted so far stays.
abbrev pub KeepsList : {W V : Type 0} → (W → Option (List ℕ)) → Making W V → Making W V → Type 0
KeepsList told old new = IfSome (told old.sink) (λ bytes. IfSome (inserted old) (λ entries. inserted new ≡ Some entries))

-- the entries but for the last one
abbrev pub but_last : {V : Type 0} → List (Key × V) → List (Key × V)
but_last entries = take (length entries - 1) entries

-- Each block that was closed has at most as many bytes of deltas before its last one as the block length says, and the
-- open block is not due.
pub record HasSmallBlocks {W V : Type 0} (w : Making W V) : Type 0 where
  pub blocks : List (Block V)
  pub closed : w.closed ≡ Some blocks
  pub small : AllByRecursion (λ each. length (deltas_of (but_last each.entries)) ≤ w.block_len) blocks
  pub open_small : length (deltas_of w.gathered) ≤ w.block_len

-- Where the sink tells its bytes, blocks stay small.
abbrev pub KeepsBlocksSmall : {W V : Type 0} → (W → Option (List ℕ)) → Making W V → Making W V → Type 0
KeepsBlocksSmall told old new = IfSome (told old.sink) (λ bytes. HasSmallBlocks old → HasSmallBlocks new)

-- ---- a key that waits for its value

-- a key that may be inserted
abbrev pub IsNextKey : {W V : Type 0} → Making W V → Key → Type 0
IsNextKey w key = (w.refusal ≡ None) × IsTrue (may_come w.last key)

-- Why a key isn't staged. What is looked at first gives the reason.
abbrev pub RefusesKey : {W V : Type 0} → Making W V → Key → SstWriteError → Type 0
RefusesKey w key Memory = IsNextKey w key
RefusesKey w key Write = ⊥
RefusesKey w key Unsorted = (w.refusal ≡ None) × (may_come w.last key ≡ false)
RefusesKey w key ValueRefused = ⊥
RefusesKey w key BlockTooLong = w.refusal ≡ Some BlockTooLong
RefusesKey w key Spent = w.refusal ≡ Some Spent

-- ---- finishing

-- the end of a table: four zero bytes, the index part and the footer
abbrev pub table_end : List IndexEntry → ℕ → ℕ → List ℕ
table_end index index_offset count =
    replicate 4 0 ++ (index_part index ++ (to_le_bytes w64 index_offset ++ (to_le_bytes w64 count ++ to_le_bytes w32 3)))

-- the bytes that finishing a table appends
abbrev pub ending : {W V : Type 0} → Codec V → Making W V → List ℕ
ending codec w = bytes_of (open_block codec w) ++ table_end (whole_index codec w) ((next_address codec w).end + 4) w.count

-- A table of version 3, of these blocks and then the open one.
pub record IsTable {W V : Type 0} (codec : Codec V) (w : Making W V) (closed : List (Block V)) (table : List ℕ) : Type 0 where
  pub told : sst_of codec table ≡ Some (entries_of closed ++ w.gathered)
  pub blocks : table_blocks codec table ≡ Some (closed ++ open_block codec w)
  pub version : version_of table ≡ Some 3

-- where bytes are told, the last ones, as many as were counted, are those of the blocks
abbrev pub AreLast : {V : Type 0} → Option (List ℕ) → ℕ → List (Block V) → Type 0
AreLast told counted blocks = IfSome told (λ bytes. last_bytes counted bytes ≡ bytes_of blocks)

-- The end of a table was appended. The blocks that were closed stand before it, and with them it is the whole table.
pub record AppendsTable {W V : Type 0} (codec : Codec V) (w : Making W V) (old new : Option (List ℕ)) : Type 0 where
  pub ready : w.refusal ≡ None
  pub short : ¬ IsTooLong codec w
  pub appended : Appends old new (ending codec w)
  pub behind : IfSome w.closed (AreLast old w.counted)
  pub table : IfSome w.closed (λ blocks. IsTable codec w blocks (bytes_of blocks ++ ending codec w))

-- why a table isn't finished, and what of its end was appended
abbrev pub StopsTable : {W V : Type 0} → Codec V → Making W V → Option (List ℕ) → Option (List ℕ) → SstWriteError → Type 0
StopsTable codec w old new Memory = (w.refusal ≡ None) × AppendsPrefix old new (ending codec w)
StopsTable codec w old new Write = (w.refusal ≡ None) × AppendsPrefix old new (ending codec w) × ¬ IsTooLong codec w
StopsTable codec w old new Unsorted = ⊥
StopsTable codec w old new ValueRefused = ⊥
StopsTable codec w old new BlockTooLong =
    ((w.refusal ≡ Some BlockTooLong) ⊎ ((w.refusal ≡ None) × IsTooLong codec w)) × Keeps old new
StopsTable codec w old new Spent = (w.refusal ≡ Some Spent) × Keeps old new

-- what finishing a table did, by what the sink tells
abbrev pub Finishing : {W V : Type 0} → Codec V → (W → Option (List ℕ)) → Making W V → Result W (Unfinished W SstWriteError) → Type 0
Finishing codec told w (Ok sink) = AppendsTable codec w (told w.sink) (told sink)
Finishing codec told w (Err unfinished) = StopsTable codec w (told w.sink) (told unfinished.sink) unfinished.error

-- a sink failed, or had no memory
abbrev pub IsSinkError : SstWriteError → Type 0
IsSinkError error = (error ≡ Memory) ⊎ (error ≡ Write)

-- the sink that is handed back
abbrev pub handed : {W E : Type 0} → Result W (Unfinished W E) → W
handed (Ok sink) = sink
handed (Err unfinished) = unfinished.sink

-- a table isn't finished for this reason
abbrev pub StopsBy : {W E : Type 0} → Result W (Unfinished W E) → E → Type 0
StopsBy (Ok sink) error = ⊥
StopsBy (Err unfinished) error = unfinished.error ≡ error
