-- The blocks that a writer wrote out, and what agrees with them.
use Rattle.std.proofs.Common.{◌≡◌, ◌≢◌, ℕ, ◌+◌, ◌-◌, List, [], ◌∷◌, ◌++◌, length, drop, Bool, true, false, ◌&&◌, Option, Some, None, refl, ap, sym, ◌∙◌, subst, arith, length-append, append-nil}
use Rattle.std.specs.Prelude.{option_map, nat_eq, ◌==◌, if◌then◌else◌, IfSome, bytes_eq, not}
use Rattle.std.specs.Cmp.Lexicographic.{bytes_decides, nat_list_eq_equiv}
use Rattle.std.specs.Io.KnownBytes.{Appends}
use Rattle.std.proofs.lemmas.Bool.{and_parts, and_from, ne_eqb, eq-eqb, eqb-true}
use Rattle.std.proofs.lemmas.List.{drop-append-le}
use Rattle.std.proofs.lemmas.Grind.{flat_map-append}
use Rattle.owned_bytes.specs.Front.{◌>>=◌, provided, continued, pieces}
use Rattle.owned_bytes.specs.Keys.{Key}
use Rattle.owned_bytes.proofs.Pieces.{pieces-step, bind_some, some_is}
use Rattle.sstable_values.proofs.RisingLaws.{provided-true}
use Rattle.sstable_values.specs.Codec.{Codec, Address}
use Rattle.sstable_blocks.specs.Content.{block}
use Rattle.sstable_blocks.specs.Run.{Block, Run, front_of_blocks, last_key, entries_of}
unfoldable use Rattle.sstable_blocks.specs.Run.{blocks_after, whole_run_of}
use Rattle.sstable_blocks.specs.Writing.{WriterState, IsOpen, AddsToRun, content}
use Rattle.sstable_blocks.proofs.RunLaws.{blocks-shrink, front-none}
use Rattle.sstable_format.specs.Index.{IndexEntry}
use Rattle.sstable_format.specs.Table.{keeping_nothing, same_address, reaches}
unfoldable use Rattle.sstable_format.specs.Table.{places_from, points_to}
use Rattle.sstable_tables.specs.Making.{bytes_of, last_bytes, AreLast}
use Rattle.sstable_tables.specs.Made.{closed_bytes, is_reached, agree, ends_below}
unfoldable use Rattle.sstable_tables.specs.Made.{closed_blocks}
use Rattle.sstable_tables.proofs.IndexLaws.{points-more, places-more, bytes-more, length-block, follows-index, no_block, below-not-itself}

pub if_some : {A : Type 0} {P : A → Type 0} (o : Option A) → ((x : A) → o ≡ Some x → P x) → IfSome o P
if_some None p = tt
if_some (Some x) p = p x refl

pub of_some : {A : Type 0} (P : A → Type 0) (o : Option A) (x : A) → o ≡ Some x → IfSome o P → P x
of_some P None x e p = absurd cc
of_some P (Some y) x e p = subst P (some_is y x e) p

-- These blocks are a run, with this index, so many bytes and so many entries.
pub record Before {V : Type 0} (codec : Codec V) (index : List IndexEntry) (counted first : ℕ) (blocks : List (Block V)) : Type 0 where
  pub run : whole_run_of (keeping_nothing codec) (bytes_of blocks) ≡ Some (record { blocks = blocks; rest = [] })
  pub points : points_to index blocks (places_from 0 0 blocks) ≡ true
  pub size : counted ≡ length (bytes_of blocks)
  pub count : first ≡ length (entries_of blocks)
  pub reached : is_reached (last_key (entries_of blocks)) (last_key index) ≡ true

-- the blocks that were written out are told
pub record Told {W V : Type 0} (codec : Codec V) (state : WriterState W V) (index : List IndexEntry) (first : ℕ) (blocks : List (Block V)) : Type 0 where
  pub bytes : closed_bytes state ≡ Some (bytes_of blocks)
  pub before : Before codec index state.counted first blocks

if_agree : {V : Type 0} → List IndexEntry → ℕ → ℕ → List ℕ → Run V → Option (List (Block V))
if_agree index counted first bytes run = provided (length run.rest == 0) >>= (λ _. provided (agree index counted first bytes run.blocks) >>= (λ _. Some run.blocks))

in_bytes : {V : Type 0} → Codec V → List IndexEntry → ℕ → ℕ → List ℕ → Option (List (Block V))
in_bytes codec index counted first bytes = whole_run_of (keeping_nothing codec) bytes >>= if_agree index counted first bytes

none_left : (bytes : List ℕ) → nat_eq (length bytes) 0 ≡ true → bytes ≡ []
none_left [] h = refl
none_left (b ∷ bytes) h = absurd (omega (arith, eqb-true _ _ h))

pub told-parts : {W V : Type 0} (codec : Codec V) (state : WriterState W V) (index : List IndexEntry) (first : ℕ) (blocks : List (Block V)) → closed_blocks codec state index first ≡ Some blocks → Told codec state index first blocks
unfolding closed_blocks if_agree in_bytes
told-parts codec state index first blocks is =
    let bytes = bind_some (closed_bytes state) (in_bytes codec index state.counted first) blocks is in
    let run = bind_some (whole_run_of (keeping_nothing codec) bytes.0) (if_agree index state.counted first bytes.0) blocks bytes.2 in
    let filled = bind_some (provided (length run.0.rest == 0)) (λ _. provided (agree index state.counted first bytes.0 run.0.blocks) >>= (λ _. Some run.0.blocks)) blocks run.2 in
    let test = bind_some (provided (agree index state.counted first bytes.0 run.0.blocks)) (λ _. Some run.0.blocks) blocks filled.2 in
    let same : run.0.blocks ≡ blocks = some_is _ _ test.2 in
    let agrees : agree index state.counted first bytes.0 blocks ≡ true = subst (λ bs. agree index state.counted first bytes.0 bs ≡ true) same (provided-true _ _ test.1) in
    let a = and_parts (state.counted == length bytes.0) _ agrees in
    let b = and_parts (bytes_eq bytes.0 (bytes_of blocks)) _ a.1 in
    let c = and_parts (points_to index blocks (places_from 0 0 blocks)) _ b.1 in
    let d = and_parts (first == length (entries_of blocks)) _ c.1 in
    let bytes_are : bytes.0 ≡ bytes_of blocks = (bytes_decides bytes.0 (bytes_of blocks)).0 b.0 in
    let whole : whole_run_of (keeping_nothing codec) bytes.0 ≡ Some (record { blocks = blocks; rest = [] }) =
    run.1 ∙ ap (λ bs. Some (record { blocks = bs; rest = run.0.rest })) same ∙ ap (λ rest. Some (record { blocks = blocks; rest = rest })) (none_left run.0.rest (provided-true _ _ filled.1)) in
    record {
      bytes = bytes.1 ∙ ap Some bytes_are;
      before = record {
        run = ap (whole_run_of (keeping_nothing codec)) (sym bytes_are) ∙ whole;
        points = c.0;
        size = eqb-true _ _ a.0 ∙ ap length bytes_are;
        count = eqb-true _ _ d.0;
        reached = d.1;
      };
    }

pub told-built : {W V : Type 0} (codec : Codec V) (state : WriterState W V) (index : List IndexEntry) (first : ℕ) (blocks : List (Block V)) → Told codec state index first blocks → closed_blocks codec state index first ≡ Some blocks
unfolding closed_blocks if_agree in_bytes
told-built codec state index first blocks t =
    let b = t.before in
    let agrees : agree index state.counted first (bytes_of blocks) blocks ≡ true =
    and_from (state.counted == length (bytes_of blocks)) _ (eq-eqb _ _ b.size)
    (and_from (bytes_eq (bytes_of blocks) (bytes_of blocks)) _ (nat_list_eq_equiv.refl (bytes_of blocks))
    (and_from (points_to index blocks (places_from 0 0 blocks)) _ b.points
    (and_from (first == length (entries_of blocks)) _ (eq-eqb _ _ b.count) b.reached))) in
    ap (λ o. o >>= in_bytes codec index state.counted first) t.bytes
    ∙ ap (λ o. o >>= if_agree index state.counted first (bytes_of blocks)) b.run
    ∙ ap (λ t. provided t >>= (λ _. Some blocks)) agrees

no_run : {V : Type 0} (codec : Codec V) → whole_run_of codec [] ≡ Some (record { blocks = []; rest = [] })
unfolding whole_run_of blocks_after
no_run codec = ap (λ o. o >>= (λ (contents : List (List ℕ) × List ℕ). blocks_after codec None contents.0 >>= (λ blocks. Some (record { blocks = blocks; rest = contents.1 })))) (pieces-step front_of_blocks blocks-shrink [] ∙ ap (continued (pieces front_of_blocks) []) front-none)

-- no block was written out yet
pub closed-none : {W V : Type 0} (codec : Codec V) (state : WriterState W V) → state.counted ≡ 0 → closed_blocks codec state [] 0 ≡ Some []
unfolding points_to places_from
closed-none codec state none = told-built codec state [] 0 [] (record {
  bytes = ap (λ n. if n == 0 then Some [] else option_map (last_bytes n) state.written) none;
  before = record { run = no_run (keeping_nothing codec); points = refl; size = none; count = refl; reached = refl };
})

-- the blocks that were written out stay when an entry is added
pub closed-same : {W V : Type 0} (codec : Codec V) (old new : WriterState W V) (index index' : List IndexEntry) (first : ℕ) → new ≡ record old { deltas = new.deltas; values = new.values }
    → ((blocks : List (Block V)) (places : List Address) → points_to index blocks places ≡ true → points_to index' blocks places ≡ true)
    → ((last : Option Key) → is_reached last (last_key index) ≡ true → is_reached last (last_key index') ≡ true)
    → IfSome (closed_blocks codec old index first) (λ blocks. closed_blocks codec new index' first ≡ Some blocks)
closed-same codec old new index index' first others points reached =
    if_some (closed_blocks codec old index first) (λ blocks is.
    let t = told-parts codec old index first blocks is in
    told-built codec new index' first blocks (record {
      bytes = ap closed_bytes others ∙ t.bytes;
      before = record {
        run = t.before.run;
        points = points blocks (places_from 0 0 blocks) t.before.points;
        size = ap (λ (s : WriterState _ _). s.counted) others ∙ t.before.size;
        count = t.before.count;
        reached = reached (last_key (entries_of blocks)) t.before.reached;
      };
    }))

-- ---- one more block

pub entries-more : {V : Type 0} (blocks : List (Block V)) (one : Block V) → entries_of (blocks ++ one ∷ []) ≡ entries_of blocks ++ one.entries
entries-more {V} blocks one = flat_map-append (λ (b : Block V). b.entries) blocks (one ∷ []) ∙ ap (λ es. entries_of blocks ++ es) (append-nil one.entries)

last-behind : {V : Type 0} (front entries : List (Key × V)) (last : Key) → last_key entries ≡ Some last → last_key (front ++ entries) ≡ Some last
last-behind [] entries last is = is
last-behind (x ∷ []) [] last is = absurd cc
last-behind (x ∷ []) (y ∷ entries) last is = is
last-behind (x ∷ y ∷ front) entries last is = last-behind (y ∷ front) entries last is

pub last-index : (index : List IndexEntry) (entry : IndexEntry) → last_key (index ++ entry ∷ []) ≡ Some entry.0
last-index [] entry = refl
last-index (e ∷ []) entry = refl
last-index (e ∷ f ∷ index) entry = last-index (f ∷ index) entry

-- the open block behind the others
pub before-more : {W V : Type 0} (codec : Codec V) (state : WriterState W V) (index : List IndexEntry) (counted' n first : ℕ) (previous : Key) (blocks : List (Block V)) (entries : List (Key × V))
    → Before codec index state.counted first blocks → AddsToRun codec state → IsOpen state entries → entries ≢ [] → ends_below index entries ≡ true → last_key entries ≡ Some previous
    → counted' ≡ state.counted + length (block (content codec state)) → n ≡ first + length entries
    → Before codec (index ++ (previous, record { start = state.counted; end = counted'; first_ordinal = first }) ∷ []) counted' n (blocks ++ record { content = content codec state; entries = entries } ∷ [])
before-more {W} {V} codec state index counted' n first previous blocks entries b adds is some ends last counted count =
    let one : Block V = record { content = content codec state; entries = entries } in
    let entry : IndexEntry = (previous, record { start = state.counted; end = counted'; first_ordinal = first }) in
    let bytes = bytes-more blocks one in
    let follows = follows-index (last_key (entries_of blocks)) index entries
    (λ none. ap (λ bs. last_key (entries_of bs)) (no_block index blocks (places_from 0 0 blocks) b.points none)) b.reached ends some in
    let place : Address = record { start = 0 + length (bytes_of blocks); end = 0 + length (bytes_of blocks) + 5 + length one.content; first_ordinal = 0 + length (entries_of blocks) } in
    let long = length-block (content codec state) in
    let there : same_address entry.1 place ≡ true =
    and_from ((state.counted == 0 + length (bytes_of blocks)) && (counted' == 0 + length (bytes_of blocks) + 5 + length one.content)) (first == 0 + length (entries_of blocks))
    (and_from (state.counted == 0 + length (bytes_of blocks)) (counted' == 0 + length (bytes_of blocks) + 5 + length one.content) (eq-eqb _ _ (omega (arith, b.size))) (eq-eqb _ _ (omega (arith, b.size, counted, long))))
    (eq-eqb _ _ (omega (arith, b.count))) in
    let from : reaches (last_key entries) previous ≡ true = ap (λ l. reaches l previous) last ∙ ap not (below-not-itself previous) in
    let all = entries-more blocks one in
    record {
      run = ap (whole_run_of (keeping_nothing codec)) bytes ∙ adds false (bytes_of blocks) blocks entries is b.run follows;
      points = ap (points_to (index ++ entry ∷ []) (blocks ++ one ∷ [])) (places-more 0 0 blocks one) ∙ points-more index blocks (places_from 0 0 blocks) entry one place b.points ends there from;
      size = omega (arith, counted, b.size, ap length bytes, length-append (bytes_of blocks) (block (content codec state)));
      count = omega (arith, count, b.count, ap length all, length-append (entries_of blocks) entries);
      reached = ap (λ l. is_reached (last_key (entries_of (blocks ++ one ∷ []))) l) (last-index index entry)
          ∙ ap (λ l. reaches l previous) (ap last_key all ∙ last-behind (entries_of blocks) entries previous last) ∙ ap not (below-not-itself previous);
    }

all_dropped : (bytes : List ℕ) → last_bytes 0 bytes ≡ []
all_dropped bytes = ap (λ n. drop n bytes) (let same : length bytes - 0 ≡ length bytes = omega arith in same) ∙ drop-all bytes
  where
    drop-all : (bytes : List ℕ) → drop (length bytes) bytes ≡ []
    drop-all [] = refl
    drop-all (b ∷ bytes) = drop-all bytes

-- where a sink tells its bytes, those of the blocks are its last
pub bytes-last : {W V : Type 0} (state : WriterState W V) (bytes all : List ℕ) → closed_bytes state ≡ Some bytes → state.written ≡ Some all → last_bytes state.counted all ≡ bytes
bytes-last state bytes all is told = by (state.counted == 0) refl
  where
    by : (t : Bool) → (state.counted == 0) ≡ t → last_bytes state.counted all ≡ bytes
    by true none =
        let zero : state.counted ≡ 0 = eqb-true _ _ none in
        ap (λ n. last_bytes n all) zero ∙ all_dropped all
        ∙ some_is _ _ (sym (ap (λ t. if t then Some [] else option_map (last_bytes state.counted) state.written) none) ∙ is)
    by false some =
        some_is _ _ (sym (ap (option_map (last_bytes state.counted)) told) ∙ sym (ap (λ t. if t then Some [] else option_map (last_bytes state.counted) state.written) some) ∙ is)

last_bytes-more : (n m : ℕ) (bytes more : List ℕ) → m ≡ n + length more → last_bytes m (bytes ++ more) ≡ last_bytes n bytes ++ more
last_bytes-more n m bytes more e =
    let size = length-append bytes more in
    let same : length (bytes ++ more) - m ≡ length bytes - n = omega (arith, size, e) in
    ap (λ k. drop k (bytes ++ more)) same ∙ drop-append-le (length bytes - n) bytes more (omega arith)

pub appends-some : (old new : Option (List ℕ)) (more bytes : List ℕ) → Appends old new more → old ≡ Some bytes → new ≡ Some (bytes ++ more)
appends-some None new more bytes appends is = absurd cc
appends-some (Some xs) None more bytes appends is = absurd appends
appends-some (Some xs) (Some ys) more bytes appends is = ap Some (appends ∙ ap (λ b. b ++ more) (some_is xs bytes is))

-- the bytes of the blocks, after one more
pub bytes-closed : {W V : Type 0} (old new : WriterState W V) (blocks : List (Block V)) (one : Block V) (all : List ℕ) → closed_bytes old ≡ Some (bytes_of blocks) → old.written ≡ Some all → Appends old.written new.written (block one.content)
    → new.counted ≡ old.counted + length (block one.content) → closed_bytes new ≡ Some (bytes_of (blocks ++ one ∷ []))
bytes-closed old new blocks one all is told appends counted =
    let long = length-block one.content in
    ap (λ t. if t then Some [] else option_map (last_bytes new.counted) new.written) (ne_eqb new.counted 0 (λ none. absurd (omega (arith, none, counted, long))))
    ∙ ap (option_map (last_bytes new.counted)) (appends-some old.written new.written (block one.content) all appends told)
    ∙ ap Some (last_bytes-more old.counted new.counted all (block one.content) counted)
    ∙ ap (λ bs. Some (bs ++ block one.content)) (bytes-last old (bytes_of blocks) all is told)
    ∙ ap Some (sym (bytes-more blocks one))

-- where the blocks are told, they are the last bytes of the sink
pub are-last : {W V : Type 0} (codec : Codec V) (written : W → Option (List ℕ)) (state : WriterState W V) (index : List IndexEntry) (first : ℕ) → state.written ≡ written state.sink
    → IfSome (closed_blocks codec state index first) (AreLast (written state.sink) state.counted)
are-last codec written state index first told =
    if_some (closed_blocks codec state index first) (λ blocks found.
    let t = told-parts codec state index first blocks found in
    if_some (written state.sink) (λ bytes tells. bytes-last state (bytes_of blocks) bytes t.bytes (told ∙ tells)))

-- the bytes of blocks, and then of others
pub bytes-both : {V : Type 0} (front back : List (Block V)) → bytes_of (front ++ back) ≡ bytes_of front ++ bytes_of back
bytes-both {V} front back = flat_map-append (λ (b : Block V). block b.content) front back

pub entries-both : {V : Type 0} (front back : List (Block V)) → entries_of (front ++ back) ≡ entries_of front ++ entries_of back
entries-both {V} front back = flat_map-append (λ (b : Block V). b.entries) front back
