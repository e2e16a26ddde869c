-- The pages of an arena, the places that it handed out, and what a call does to them.
use Rattle.std.specs.Prelude.{◌≡◌, ℕ, ◌+◌, ◌-◌, ◌*◌, ◌/◌, ◌%◌, ◌<◌, ◌≤◌, ◌⊎◌, List, [], ◌∷◌, ◌++◌, length, take, drop, slice_index_or, slice_set, Bool, replicate, nat_le, if◌then◌else◌}
use Rattle.std.specs.List.{sum_by}

-- the bytes of a page, 1 MiB
abbrev pub page_bytes : ℕ
page_bytes = 1048576

-- the most pages that an arena may have
abbrev pub most_pages : ℕ
most_pages = 4096

-- the address that no space has
abbrev pub null_address : ℕ
null_address = 4294967295

-- An arena: how many pages it may have, and the bytes that were handed out on each page.
pub record Arena : Type 0 where
  pub limit : ℕ
  pub pages : List (List ℕ)

-- a new arena of at most so many pages: it has one, of which nothing was handed out
abbrev pub new_arena : ℕ → Arena
new_arena most = record { limit = most; pages = [] ∷ [] }

-- the handed-out bytes of page i
abbrev pub page : Arena → ℕ → List ℕ
page a i = slice_index_or a.pages i []

-- the number of the last page
abbrev pub last_page : Arena → ℕ
last_page a = length a.pages - 1

-- The n bytes from address p on lie in the handed-out part of one page.
pub record Lies (a : Arena) (p n : ℕ) : Type 0 where
  pub on_page : p / page_bytes < length a.pages
  pub handed_out : p % page_bytes + n ≤ length (page a (p / page_bytes))
  pub in_page : p % page_bytes + n ≤ page_bytes

-- the n bytes from address p on
unfoldable pub bytes_at : Arena → ℕ → ℕ → List ℕ
bytes_at a p n = take n (drop (p % page_bytes) (page a (p / page_bytes)))

-- the first address that was not handed out, nor lies before one that was
unfoldable pub top : Arena → ℕ
top a = last_page a * page_bytes + length (page a (last_page a))

-- all bytes that were handed out
unfoldable pub spent : Arena → ℕ
spent a = sum_by length a.pages

-- Every page but the last has at least all but m of its bytes handed out.
unfoldable pub IsFull : Arena → ℕ → Type 0
IsFull a m = (i : ℕ) → i < last_page a → page_bytes ≤ length (page a i) + m

-- However full the closed pages were, but for m bytes each and m at least n, they are as full afterwards.
abbrev pub StaysFull : ℕ → Arena → Arena → Type 0
StaysFull n old new = (m : ℕ) → n ≤ m → IsFull old m → IsFull new m

-- the last page has room for n bytes
abbrev pub has_room : Arena → ℕ → Bool
has_room a n = nat_le (length (page a (last_page a)) + n) page_bytes

-- where the next n bytes are handed out: on the last page where it has room, else at the front of a new page
unfoldable pub next_place : Arena → ℕ → ℕ
next_place a n = if has_room a n then top a else length a.pages * page_bytes

-- the arena once it has handed out n more bytes, which are 0
unfoldable pub with_space : Arena → ℕ → Arena
with_space a n =
    record {
      limit = a.limit;
      pages =
          if has_room a n then slice_set a.pages (last_page a) (page a (last_page a) ++ replicate n 0) else a.pages ++ replicate n 0 ∷ [];
    }

-- The last page has no room for n bytes and the pages stand at the limit, or the place would be the null address.
abbrev pub HasNoSpace : Arena → ℕ → Type 0
HasNoSpace a n = ((page_bytes < length (page a (last_page a)) + n) × (length a.pages ≡ a.limit)) ⊎ (next_place a n ≡ null_address)

-- a page with these bytes from a place on
abbrev pub put_on_page : List ℕ → ℕ → List ℕ → List ℕ
put_on_page bytes place new = take place bytes ++ (new ++ drop (place + length new) bytes)

-- the arena with these bytes from address p on
unfoldable pub put : Arena → ℕ → List ℕ → Arena
put a p new =
    record { limit = a.limit; pages = slice_set a.pages (p / page_bytes) (put_on_page (page a (p / page_bytes)) (p % page_bytes) new) }

-- the arena with these bytes from address p on, as far as what was handed out on the page goes
unfoldable pub with_slice : Arena → ℕ → List ℕ → Arena
with_slice a p new =
    record {
      limit = a.limit;
      pages =
          slice_set a.pages (p / page_bytes) (take (length (page a (p / page_bytes))) (put_on_page (page a (p / page_bytes)) (p % page_bytes) new));
    }

-- What was handed out stays so, and reads as before but for the places from `start` up to `end`.
pub record Keeps (old new : Arena) (start end : ℕ) : Type 0 where
  pub limit : new.limit ≡ old.limit
  pub lies : (p n : ℕ) → Lies old p n → Lies new p n
  pub reads : (p n : ℕ) → Lies old p n → (p + n ≤ start) ⊎ (end ≤ p) → bytes_at new p n ≡ bytes_at old p n

-- A call handed out the n places from address p on, and left the bytes that were handed out before.
pub record HandsOut (old new : Arena) (p n : ℕ) : Type 0 where
  pub fresh : top old ≤ p
  pub lies : Lies new p n
  pub end : top new ≡ p + n
  pub spends : spent new ≡ spent old + n
  pub keeps : Keeps old new 0 0
  pub full : StaysFull n old new

-- The pages stand at the limit, and the last one has at least all but m of its bytes handed out.
pub record IsAtLimit (a : Arena) (m : ℕ) : Type 0 where
  pub pages : length a.pages ≡ a.limit
  pub last : page_bytes ≤ length (page a (last_page a)) + m

-- That holds for each m from n on.
abbrev pub IsAtLimitFrom : ℕ → Arena → Type 0
IsAtLimitFrom n a = (m : ℕ) → n ≤ m → IsAtLimit a m

-- An arena that stands at its limit, each page but for m bytes handed out, has handed out that much for each page that it may have.
abbrev pub FullIsSpent : Type 0
FullIsSpent = (a : Arena) (m : ℕ) → IsFull a m → IsAtLimit a m → a.limit * page_bytes ≤ spent a + a.limit * m

-- A call wrote bs from address p on, and nothing else.
pub record Writes (old new : Arena) (p : ℕ) (bs : List ℕ) : Type 0 where
  pub written : bytes_at new p (length bs) ≡ bs
  pub keeps : Keeps old new p (p + length bs)
  pub end : top new ≡ top old
  pub spends : spent new ≡ spent old
  pub full : (m : ℕ) → IsFull old m → IsFull new m
