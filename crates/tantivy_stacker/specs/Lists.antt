-- Byte lists in an arena: a chain of blocks, each of twice as many bytes as the one before, up to 32,768.
use Rattle.std.specs.Prelude.{◌≡◌, ℕ, zero, suc, ◌+◌, ◌-◌, ◌*◌, ◌^◌, ◌<◌, ◌≤◌, ◌==◌, ◌⊎◌, min, List, [], ◌∷◌, ◌++◌, length, take, drop, if◌then◌else◌, Result, OnOk, OnErr, IfErr}
use Rattle.std.specs.Int.{w16, w32, to_le_bytes, from_le_bytes}
use Rattle.std.specs.List.{All}
use Rattle.tantivy_stacker.specs.declared.expull.ExpUnrolledLinkedList.{ExpUnrolledLinkedList}
use Rattle.tantivy_stacker.specs.declared.error.ArenaError.{ArenaError}
use Rattle.tantivy_stacker.specs.declared.error.ArenaError.TheVariants.{ArenaFull}
use Rattle.tantivy_stacker.specs.Arena.{Arena, Lies, bytes_at, top, spent, StaysFull, IsAtLimitFrom, Keeps}

-- the number of the first block of a list, which holds 8 bytes
abbrev pub first_block : ℕ
first_block = 3

-- the bytes that a block holds: twice as many as the one before, up to 32,768
unfoldable pub block_size : ℕ → ℕ
block_size b = 2 ^ min b 15

-- the bytes of the largest block, with the address behind them: the most that a list asks for at once
abbrev pub largest_block : ℕ
largest_block = 32772

-- a list as an item: its 14 bytes, and the list that bytes are read as
abbrev pub list_item : ExpUnrolledLinkedList → List ℕ
list_item l = to_le_bytes w16 l.remaining_cap ++ (to_le_bytes w32 l.block_num ++ (to_le_bytes w32 l.head ++ to_le_bytes w32 l.tail))

abbrev pub list_of_item : List ℕ → ExpUnrolledLinkedList
list_of_item bs =
    record {
      remaining_cap = from_le_bytes w16 (take 2 bs);
      block_num = from_le_bytes w32 (take 4 (drop 2 bs));
      head = from_le_bytes w32 (take 4 (drop 6 bs));
      tail = from_le_bytes w32 (take 4 (drop 10 bs));
    }

-- the address that stands behind the bytes of block b at address p: that of the next block
unfoldable pub next_block : Arena → ℕ → ℕ → ℕ
next_block a b p = from_le_bytes w32 (bytes_at a (p + block_size b) 4)

-- From block b at address p on n blocks lead to a last one. Each lies in the arena, before the next one.
unfoldable pub IsChain : Arena → ℕ → ℕ → ℕ → Type 0
IsChain a b p zero = Lies a p (block_size b + 4)
IsChain a b p (suc n) = Lies a p (block_size b + 4) × (p + (block_size b + 4) ≤ next_block a b p) × IsChain a (b + 1) (next_block a b p) n

-- the address of the last block
unfoldable pub last_block : Arena → ℕ → ℕ → ℕ → ℕ
last_block a b p zero = p
last_block a b p (suc n) = last_block a (b + 1) (next_block a b p) n

-- the bytes of the n full blocks before it
unfoldable pub full_blocks : Arena → ℕ → ℕ → ℕ → List ℕ
full_blocks a b p zero = []
full_blocks a b p (suc n) = bytes_at a p (block_size b) ++ full_blocks a (b + 1) (next_block a b p) n

-- the places of all of them: the address and the length of each block with the address behind it
unfoldable pub block_places : Arena → ℕ → ℕ → ℕ → List (ℕ × ℕ)
block_places a b p zero = (p, block_size b + 4) ∷ []
block_places a b p (suc n) = (p, block_size b + 4) ∷ block_places a (b + 1) (next_block a b p) n

-- how many blocks a list has
abbrev pub block_count : ExpUnrolledLinkedList → ℕ
block_count l = l.block_num - 2

-- how many bytes of its last block are in use
abbrev pub used : ExpUnrolledLinkedList → ℕ
used l = block_size l.block_num - l.remaining_cap

-- a list of so many blocks: its bytes
unfoldable pub bytes_of : Arena → ExpUnrolledLinkedList → ℕ → List ℕ
bytes_of a l zero = []
bytes_of a l (suc n) = full_blocks a first_block l.head n ++ bytes_at a (last_block a first_block l.head n) (used l)

-- its places
unfoldable pub places_of : Arena → ExpUnrolledLinkedList → ℕ → List (ℕ × ℕ)
places_of a l zero = []
places_of a l (suc n) = block_places a first_block l.head n

-- The arena has its blocks, and its tail is where the bytes in use end. What is not in use may be the whole last block.
unfoldable pub IsLaidOutBy : Arena → ExpUnrolledLinkedList → ℕ → Type 0
IsLaidOutBy a l zero = l.remaining_cap ≡ 0
IsLaidOutBy a l (suc n) = IsChain a first_block l.head n × (l.tail + l.remaining_cap ≡ last_block a first_block l.head n + block_size l.block_num) × (l.remaining_cap ≤ block_size l.block_num)

-- a list of no block
unfoldable pub IsEmptyList : ExpUnrolledLinkedList → Type 0
IsEmptyList l = (l.remaining_cap ≡ 0) × (l.block_num ≡ 2)

-- the bytes of a list
unfoldable pub list_bytes : Arena → ExpUnrolledLinkedList → List ℕ
list_bytes a l = bytes_of a l (block_count l)

-- how many they are
abbrev pub list_length : Arena → ExpUnrolledLinkedList → ℕ
list_length a l = length (list_bytes a l)

-- the places of a list: the address and the length of each block with the address behind it
unfoldable pub list_places : Arena → ExpUnrolledLinkedList → List (ℕ × ℕ)
list_places a l = places_of a l (block_count l)

pub record IsLaidOut (a : Arena) (l : ExpUnrolledLinkedList) : Type 0 where
  pub counted : 2 ≤ l.block_num
  pub laid : IsLaidOutBy a l (block_count l)

-- The arena holds the list, as a call on the list left it.
pub record IsHeld (a : Arena) (l : ExpUnrolledLinkedList) : Type 0 where
  pub laid_out : IsLaidOut a l
  pub in_use : l.remaining_cap ≡ 0 ⊎ l.remaining_cap < block_size l.block_num

-- The n bytes from p on lie outside of these places.
abbrev pub IsApart : ℕ → ℕ → List (ℕ × ℕ) → Type 0
IsApart p n places = All (λ r. (p + n ≤ r.0) ⊎ (r.0 + r.1 ≤ p)) places

-- The page limit stays, what was handed out stays so, and reads as before but for these places.
pub record KeepsBut (old new : Arena) (places : List (ℕ × ℕ)) : Type 0 where
  pub limit : new.limit ≡ old.limit
  pub lies : (p n : ℕ) → Lies old p n → Lies new p n
  pub reads : (p n : ℕ) → Lies old p n → IsApart p n places → bytes_at new p n ≡ bytes_at old p n

-- where the part of the last block that is not in use begins, and where it ends with the address behind it
abbrev pub free_start : ExpUnrolledLinkedList → ℕ
free_start l = if l.block_num == 2 then 0 else l.tail

abbrev pub free_end : ExpUnrolledLinkedList → ℕ
free_end l = if l.block_num == 2 then 0 else l.tail + (l.remaining_cap + 4)

-- the bytes of the blocks from number b on that so many bytes take, each with its address; there are at most so many blocks
unfoldable pub room_from : ℕ → ℕ → ℕ → ℕ
room_from zero b bytes = 0
room_from (suc blocks) b bytes = if bytes == 0 then 0 else block_size b + 4 + room_from blocks (b + 1) (bytes - block_size b)

-- the bytes of the blocks that a list of so many bytes takes, with an address for each
unfoldable pub room : ℕ → ℕ
room bytes = room_from bytes first_block bytes

-- the bytes of so many blocks of a list, with an address for each
unfoldable pub blocks_room : ℕ → ℕ
blocks_room zero = 0
blocks_room (suc n) = blocks_room n + (block_size (n + first_block) + 4)

-- The fields of a list after a block at r was added, with `front` as the first one.
pub record HasNewBlock (l m : ExpUnrolledLinkedList) (front r : ℕ) : Type 0 where
  pub number : m.block_num ≡ l.block_num + 1
  pub rest : m.remaining_cap ≡ block_size m.block_num
  pub head : m.head ≡ front
  pub tail : m.tail ≡ r

-- A list of an arena was extended by these bytes.
pub record Extends (old new : Arena) (l m : ExpUnrolledLinkedList) (bs : List ℕ) : Type 0 where
  pub laid_out : IsLaidOut new m
  pub bytes : list_bytes new m ≡ list_bytes old l ++ bs
  pub places : (fresh : List (ℕ × ℕ)) × (list_places new m ≡ list_places old l ++ fresh) × All (λ r. top old ≤ r.0) fresh
  pub keeps : Keeps old new (free_start l) (free_end l)
  pub free : ((free_start l ≤ free_start m) × (free_end m ≤ free_end l)) ⊎ (top old ≤ free_start m)
  pub end : top old ≤ top new
  pub spends : spent new + blocks_room (block_count l) ≡ spent old + blocks_room (block_count m)
  pub full : StaysFull largest_block old new

-- What a write to a list leaves of the arena, whether it ended well or not.
pub record ListWrite (old new : Arena) (l m : ExpUnrolledLinkedList) : Type 0 where
  -- the arena holds the list
  pub held : IsHeld new m
  -- its places are those that it had, and places that no earlier call handed out
  pub places : (fresh : List (ℕ × ℕ)) × (list_places new m ≡ list_places old l ++ fresh) × All (λ r. top old ≤ r.0) fresh
  -- all other places are as they were
  pub others : KeepsBut old new (list_places old l)
  pub end : top old ≤ top new
  pub full : StaysFull largest_block old new

-- A call was to append these bytes to a list.
pub record Appends {A : Type 0} (old new : Arena) (l m : ExpUnrolledLinkedList) (bs : List ℕ) (result : Result A ArenaError) : Type 0 where
  -- on Ok they stand behind the bytes that the list had
  pub bytes : OnOk result (list_bytes new m ≡ list_bytes old l ++ bs)
  -- after an error the list is as it was, with the same bytes
  pub unchanged : OnErr result (m ≡ l)
  pub same : OnErr result (list_bytes new m ≡ list_bytes old l)
  -- the arena holds the list, and all other places are as they were
  pub write : ListWrite old new l m
  -- as many bytes were handed out as the list needs more, at most
  pub space : spent new + room (list_length old l) ≤ spent old + room (list_length old l + length bs)
  -- an error comes only where the list needs a block more
  pub needed : OnErr result (room (list_length old l) < room (list_length old l + length bs))
  pub at_limit : IfErr result (λ e. e ≡ ArenaFull → IsAtLimitFrom largest_block new)

-- An arena holds a list with these bytes, in these places.
pub record Holds (a : Arena) (l : ExpUnrolledLinkedList) (bytes : List ℕ) (places : List (ℕ × ℕ)) : Type 0 where
  pub held : IsHeld a l
  pub bytes_are : list_bytes a l ≡ bytes
  pub places_are : list_places a l ≡ places

-- Any arena holds the empty list: no bytes, in no places.
abbrev pub EmptyIsHeld : Type 0
EmptyIsHeld = (a : Arena) (l : ExpUnrolledLinkedList) → IsEmptyList l → Holds a l [] []

-- A list whose places are apart from those that changed is held as before, with its bytes and in its places.
abbrev pub OthersStay : Type 0
OthersStay =
    (old new : Arena) (changed : List (ℕ × ℕ)) (l : ExpUnrolledLinkedList) (bytes : List ℕ) (places : List (ℕ × ℕ)) →
    KeepsBut old new changed → Holds old l bytes places → All (λ r. IsApart r.0 r.1 changed) places → Holds new l bytes places

-- The places of a list were handed out.
abbrev pub PlacesLie : Type 0
PlacesLie = (a : Arena) (l : ExpUnrolledLinkedList) (bytes : List ℕ) (places : List (ℕ × ℕ)) → Holds a l bytes places → All (λ r. Lies a r.0 r.1) places

-- What was handed out lies before the top.
abbrev pub LiesBeforeTop : Type 0
LiesBeforeTop = (a : Arena) (p n : ℕ) → Lies a p n → p + n ≤ top a

-- A list of so many bytes takes at most three times as many, and twelve.
abbrev pub RoomIsBounded : Type 0
RoomIsBounded = (bytes : ℕ) → room bytes ≤ 3 * bytes + 12

-- More bytes take no less.
abbrev pub RoomGrows : Type 0
RoomGrows = (fewer more : ℕ) → fewer ≤ more → room fewer ≤ room more
