-- An index that grows with the blocks, and how it ends before the open block.
use Rattle.std.proofs.Common.{◌≡◌, ◌≢◌, ℕ, ◌+◌, ◌≤◌, List, [], ◌∷◌, ◌++◌, length, Bool, true, false, ◌&&◌, Option, Some, None, refl, ap, sym, ◌∙◌, arith, length-append, append-nil, append_assoc, subst}
use Rattle.std.specs.Prelude.{not, if◌then◌else◌}
use Rattle.std.specs.Ordering.{nat_cmp, ordering_reverse}
use Rattle.std.specs.Cmp.Lexicographic.{slice_cmp}
use Rattle.std.specs.declared.cmp.Ordering.{Ordering}
use Rattle.std.specs.declared.cmp.Ordering.TheVariants.{Less, Equal, Greater}
use Rattle.std.proofs.lemmas.Cmp.{nat_list_cmp_total}
use Rattle.std.proofs.lemmas.Bool.{and_parts, and_from, false≢true}
use Rattle.owned_bytes.specs.Keys.{Key, is_below, is_less}
use Rattle.owned_bytes.proofs.Pieces.{some_is}
unfoldable use Rattle.owned_bytes.specs.Keys.{is_rising}
use Rattle.sstable_values.specs.Codec.{Address}
use Rattle.sstable_blocks.specs.Content.{block}
use Rattle.sstable_blocks.specs.Run.{Block, last_key, may_follow, entries_of}
use Rattle.sstable_blocks.specs.Writing.{keys_in}
use Rattle.sstable_format.specs.Index.{IndexEntry}
use Rattle.sstable_format.specs.Table.{same_address, reaches, is_below_first, stays_below_next}
unfoldable use Rattle.sstable_format.specs.Table.{places_from, points_to}
use Rattle.block_addresses.specs.Shortened.{shortened}
use Rattle.block_addresses.proofs.Shortening.{shortened-between}
use Rattle.sstable_index.specs.Building.{with_last_key_shortened, most_keys}
use Rattle.sstable_tables.specs.Making.{may_come, bytes_of, index_before}
use Rattle.sstable_tables.specs.Made.{ends_below, is_reached, MayStart}

less-of : (o : Ordering) → is_less o ≡ true → o ≡ Less
less-of Less h = refl
less-of Equal h = absurd (false≢true h)
less-of Greater h = absurd (false≢true h)

-- no key is below itself
pub below-not-itself : (a : Key) → is_below a a ≡ false
below-not-itself a = by (slice_cmp nat_cmp a a) (nat_list_cmp_total.antisymm a a)
  where
    by : (o : Ordering) → o ≡ ordering_reverse o → is_less o ≡ false
    by Less h = absurd cc
    by Equal h = refl
    by Greater h = refl

reverse-less : (a b : Key) → slice_cmp nat_cmp a b ≡ Less → slice_cmp nat_cmp b a ≡ Greater
reverse-less a b h = nat_list_cmp_total.antisymm b a ∙ ap ordering_reverse h

reverse-greater : (a b : Key) → slice_cmp nat_cmp a b ≡ Greater → slice_cmp nat_cmp b a ≡ Less
reverse-greater a b h = nat_list_cmp_total.antisymm b a ∙ ap ordering_reverse h

-- a key that isn't below a key which isn't below a third isn't below that one
pub not-below-trans : (a b c : Key) → is_below a b ≡ false → is_below b c ≡ false → is_below a c ≡ false
not-below-trans a b c ab bc = by (slice_cmp nat_cmp a c) refl (slice_cmp nat_cmp c b) refl
  where
    by : (o : Ordering) → slice_cmp nat_cmp a c ≡ o → (p : Ordering) → slice_cmp nat_cmp c b ≡ p → is_below a c ≡ false
    by Equal h p k = ap is_less h
    by Greater h p k = ap is_less h
    by Less h Less k = absurd (false≢true (sym ab ∙ ap is_less (nat_list_cmp_total.trans a c b h k)))
    by Less h Equal k = absurd (false≢true (sym ab ∙ ap is_less (reverse-greater b a (sym (nat_list_cmp_total.congr c b a k) ∙ reverse-less a c h))))
    by Less h Greater k = absurd (false≢true (sym bc ∙ ap is_less (reverse-greater c b k)))

pub not-true : (b : Bool) → not b ≡ true → b ≡ false
not-true true h = absurd (false≢true h)
not-true false h = refl

-- a key that isn't below one above a third is above that third
pub below-trans_not : (a b c : Key) → is_below a b ≡ true → is_below c b ≡ false → is_below a c ≡ true
below-trans_not a b c ab cb = by (is_below a c) refl
  where
    by : (t : Bool) → is_below a c ≡ t → is_below a c ≡ true
    by true e = e
    by false e = absurd (false≢true (sym (not-below-trans a c b e cb) ∙ ab))

-- a key that isn't above one below a third is below that third
pub not-trans_below : (a b c : Key) → is_below b a ≡ false → is_below b c ≡ true → is_below a c ≡ true
not-trans_below a b c ba bc = by (is_below a c) refl
  where
    by : (t : Bool) → is_below a c ≡ t → is_below a c ≡ true
    by true e = e
    by false e = absurd (false≢true (sym (not-below-trans b a c ba e) ∙ bc))

pub below-trans : (a b c : Key) → is_below a b ≡ true → is_below b c ≡ true → is_below a c ≡ true
below-trans a b c ab bc = ap is_less (nat_list_cmp_total.trans a b c (less-of (slice_cmp nat_cmp a b) ab) (less-of (slice_cmp nat_cmp b c) bc))

-- the parts of `points_to` at an entry
record Points {V : Type 0} (entry : IndexEntry) (entries : List IndexEntry) (block : Block V) (blocks : List (Block V)) (place : Address) (places : List Address) : Type 0 where
  there : same_address entry.1 place ≡ true
  from : reaches (last_key block.entries) entry.0 ≡ true
  below : stays_below_next entry.0 blocks ≡ true
  others : points_to entries blocks places ≡ true

points-parts : {V : Type 0} (entry : IndexEntry) (entries : List IndexEntry) (block : Block V) (blocks : List (Block V)) (place : Address) (places : List Address) → points_to (entry ∷ entries) (block ∷ blocks) (place ∷ places) ≡ true → Points entry entries block blocks place places
unfolding points_to
points-parts entry entries block blocks place places h =
    let a = and_parts (same_address entry.1 place && reaches (last_key block.entries) entry.0 && stays_below_next entry.0 blocks) (points_to entries blocks places) h in
    let b = and_parts (same_address entry.1 place && reaches (last_key block.entries) entry.0) (stays_below_next entry.0 blocks) a.0 in
    let c = and_parts (same_address entry.1 place) (reaches (last_key block.entries) entry.0) b.0 in
    record { there = c.0; from = c.1; below = b.1; others = a.1 }

points-built : {V : Type 0} (entry : IndexEntry) (entries : List IndexEntry) (block : Block V) (blocks : List (Block V)) (place : Address) (places : List Address) → Points entry entries block blocks place places → points_to (entry ∷ entries) (block ∷ blocks) (place ∷ places) ≡ true
unfolding points_to
points-built entry entries block blocks place places p =
    and_from (same_address entry.1 place && reaches (last_key block.entries) entry.0 && stays_below_next entry.0 blocks) (points_to entries blocks places)
    (and_from (same_address entry.1 place && reaches (last_key block.entries) entry.0) (stays_below_next entry.0 blocks)
    (and_from (same_address entry.1 place) (reaches (last_key block.entries) entry.0) p.there p.from) p.below) p.others

-- one more block, with its entry
pub points-more : {V : Type 0} (entries : List IndexEntry) (blocks : List (Block V)) (places : List Address) (entry : IndexEntry) (block : Block V) (place : Address)
    → points_to entries blocks places ≡ true → ends_below entries block.entries ≡ true → same_address entry.1 place ≡ true → reaches (last_key block.entries) entry.0 ≡ true
    → points_to (entries ++ entry ∷ []) (blocks ++ block ∷ []) (places ++ place ∷ []) ≡ true
unfolding points_to
points-more [] [] [] entry block place points ends there from = points-built entry [] block [] place [] (record { there = there; from = from; below = refl; others = refl })
points-more [] [] (p ∷ places) entry block place points ends there from = absurd (false≢true points)
points-more [] (b ∷ blocks) places entry block place points ends there from = absurd (false≢true points)
points-more (e ∷ entries) [] places entry block place points ends there from = absurd (false≢true points)
points-more (e ∷ entries) (b ∷ blocks) [] entry block place points ends there from = absurd (false≢true points)
points-more (e ∷ []) (b ∷ []) (p ∷ places) entry block place points ends there from =
    let q = points-parts e [] b [] p places points in
    points-built e (entry ∷ []) b (block ∷ []) p (places ++ place ∷ []) (record { there = q.there; from = q.from; below = ends; others = points-more [] [] places entry block place q.others refl there from })
points-more (e ∷ []) (b ∷ c ∷ blocks) (p ∷ places) entry block place points ends there from =
    let q = points-parts e [] b (c ∷ blocks) p places points in absurd (false≢true q.others)
points-more (e ∷ f ∷ entries) (b ∷ []) (p ∷ places) entry block place points ends there from =
    let q = points-parts e (f ∷ entries) b [] p places points in absurd (false≢true q.others)
points-more (e ∷ f ∷ entries) (b ∷ c ∷ blocks) (p ∷ places) entry block place points ends there from =
    let q = points-parts e (f ∷ entries) b (c ∷ blocks) p places points in
    points-built e (f ∷ entries ++ entry ∷ []) b (c ∷ blocks ++ block ∷ []) p (places ++ place ∷ []) (record { there = q.there; from = q.from; below = q.below; others = points-more (f ∷ entries) (c ∷ blocks) places entry block place q.others ends there from })

-- the bytes of one more block
pub bytes-more : {V : Type 0} (blocks : List (Block V)) (one : Block V) → bytes_of (blocks ++ one ∷ []) ≡ bytes_of blocks ++ block one.content
bytes-more [] one = append-nil (block one.content)
bytes-more (b ∷ blocks) one = ap (λ bs. block b.content ++ bs) (bytes-more blocks one) ∙ sym (append_assoc (block b.content) (bytes_of blocks) (block one.content))

pub length-block : (content : List ℕ) → length (block content) ≡ 5 + length content
length-block content = omega arith

-- the place of one more block
pub places-more : {V : Type 0} (start ordinal : ℕ) (blocks : List (Block V)) (one : Block V)
    → places_from start ordinal (blocks ++ one ∷ [])
    ≡ places_from start ordinal blocks ++ record { start = start + length (bytes_of blocks); end = start + length (bytes_of blocks) + 5 + length one.content; first_ordinal = ordinal + length (entries_of blocks) } ∷ []
unfolding places_from
places-more start ordinal [] one =
    let same : start ≡ start + 0 = omega arith in
    ap (λ n. record { start = start; end = start + 5 + length one.content; first_ordinal = n } ∷ []) (let same : ordinal ≡ ordinal + 0 = omega arith in same)
    ∙ ap (λ s. record { start = s; end = s + 5 + length one.content; first_ordinal = ordinal + 0 } ∷ []) same
places-more start ordinal (b ∷ blocks) one =
    let size = length-append b.entries (entries_of blocks) in
    let bytes = length-append (block b.content) (bytes_of blocks) in
    let long = length-block b.content in
    let same : ordinal + length b.entries + length (entries_of blocks) ≡ ordinal + length (entries_of (b ∷ blocks)) = omega (arith, size) in
    let there : start + 5 + length b.content + length (bytes_of blocks) ≡ start + length (bytes_of (b ∷ blocks)) = omega (arith, bytes, long) in
    let here : Address = record { start = start; end = start + 5 + length b.content; first_ordinal = ordinal } in
    let others : List Address = places_from (start + 5 + length b.content) (ordinal + length b.entries) blocks in
    ap (λ ps. here ∷ ps) (places-more (start + 5 + length b.content) (ordinal + length b.entries) blocks one)
    ∙ ap (λ n. here ∷ (others ++ record { start = start + 5 + length b.content + length (bytes_of blocks); end = start + 5 + length b.content + length (bytes_of blocks) + 5 + length one.content; first_ordinal = n } ∷ [])) same
    ∙ ap (λ s. here ∷ (others ++ record { start = s; end = s + 5 + length one.content; first_ordinal = ordinal + length (entries_of (b ∷ blocks)) } ∷ [])) there

-- the last key is still one from its block's last key on
pub reaches-more : (last : Option Key) (key shorter : Key) → reaches last key ≡ true → is_below shorter key ≡ false → reaches last shorter ≡ true
reaches-more None key shorter reach below = refl
reaches-more (Some last) key shorter reach below = ap not (not-below-trans shorter key last below (not-true (is_below key last) reach))

-- ---- the last key is shortened before a key that it is below

pub points-shorter : {V W : Type 0} (index : List IndexEntry) (blocks : List (Block V)) (places : List Address) (next : Key) (v : W) → ends_below index ((next, v) ∷ []) ≡ true
    → points_to index blocks places ≡ true → points_to (with_last_key_shortened index next) blocks places ≡ true
unfolding points_to
points-shorter [] blocks places next v ends points = points
points-shorter (e ∷ []) [] places next v ends points = absurd (false≢true points)
points-shorter (e ∷ f ∷ entries) [] places next v ends points = absurd (false≢true points)
points-shorter (e ∷ []) (b ∷ blocks) [] next v ends points = absurd (false≢true points)
points-shorter (e ∷ f ∷ entries) (b ∷ blocks) [] next v ends points = absurd (false≢true points)
points-shorter (e ∷ []) (b ∷ []) (p ∷ places) next v ends points =
    let q = points-parts e [] b [] p places points in
    points-built (shortened e.0 next, e.1) [] b [] p places (record { there = q.there; from = reaches-more (last_key b.entries) e.0 (shortened e.0 next) q.from (shortened-between e.0 next ends).reaches; below = refl; others = q.others })
points-shorter (e ∷ []) (b ∷ c ∷ blocks) (p ∷ places) next v ends points =
    let q = points-parts e [] b (c ∷ blocks) p places points in absurd (false≢true q.others)
points-shorter (e ∷ f ∷ entries) (b ∷ []) (p ∷ places) next v ends points =
    let q = points-parts e (f ∷ entries) b [] p places points in absurd (false≢true q.others)
points-shorter (e ∷ f ∷ entries) (b ∷ c ∷ blocks) (p ∷ places) next v ends points =
    let q = points-parts e (f ∷ entries) b (c ∷ blocks) p places points in
    points-built e (with_last_key_shortened (f ∷ entries) next) b (c ∷ blocks) p places (record { there = q.there; from = q.from; below = q.below; others = points-shorter (f ∷ entries) (c ∷ blocks) places next v ends q.others })

ends-shorter : {W : Type 0} (index : List IndexEntry) (next : Key) (v : W) → ends_below index ((next, v) ∷ []) ≡ true → ends_below (with_last_key_shortened index next) ((next, v) ∷ []) ≡ true
ends-shorter [] next v ends = refl
ends-shorter (e ∷ []) next v ends = (shortened-between e.0 next ends).stays_below
ends-shorter (e ∷ f ∷ []) next v ends = ends-shorter (f ∷ []) next v ends
ends-shorter (e ∷ f ∷ g ∷ index) next v ends = ends-shorter (f ∷ g ∷ index) next v ends

rising-shorter : {W : Type 0} (index : List IndexEntry) (next : Key) (v : W) → ends_below index ((next, v) ∷ []) ≡ true → is_rising (keys_in index) ≡ true → is_rising (keys_in (with_last_key_shortened index next)) ≡ true
unfolding is_rising
rising-shorter [] next v ends rising = refl
rising-shorter (e ∷ []) next v ends rising = refl
rising-shorter (e ∷ f ∷ []) next v ends rising =
    let parts = and_parts (is_below e.0 f.0) (is_rising (f.0 ∷ [])) rising in
    and_from (is_below e.0 (shortened f.0 next)) (is_rising (shortened f.0 next ∷ [])) (below-trans_not e.0 f.0 (shortened f.0 next) parts.0 (shortened-between f.0 next ends).reaches) refl
rising-shorter (e ∷ f ∷ g ∷ index) next v ends rising =
    let parts = and_parts (is_below e.0 f.0) (is_rising (keys_in (f ∷ g ∷ index))) rising in
    and_from (is_below e.0 f.0) (is_rising (keys_in (with_last_key_shortened (f ∷ g ∷ index) next))) parts.0 (rising-shorter (f ∷ g ∷ index) next v ends parts.1)

starts-shorter : (index : List IndexEntry) (next : Key) (start first : ℕ) → MayStart index start first → MayStart (with_last_key_shortened index next) start first
starts-shorter [] next start first may = may
starts-shorter (e ∷ []) next start first may = may
starts-shorter (e ∷ f ∷ []) next start first may = may
starts-shorter (e ∷ f ∷ g ∷ index) next start first may = starts-shorter (f ∷ g ∷ index) next start first may

reached-shorter : {W : Type 0} (last : Option Key) (index : List IndexEntry) (next : Key) (v : W) → ends_below index ((next, v) ∷ []) ≡ true → is_reached last (last_key index) ≡ true → is_reached last (last_key (with_last_key_shortened index next)) ≡ true
reached-shorter last [] next v ends reached = reached
reached-shorter last (e ∷ []) next v ends reached = reaches-more last e.0 (shortened e.0 next) reached (shortened-between e.0 next ends).reaches
reached-shorter last (e ∷ f ∷ []) next v ends reached = reached-shorter last (f ∷ []) next v ends reached
reached-shorter last (e ∷ f ∷ g ∷ index) next v ends reached = reached-shorter last (f ∷ g ∷ index) next v ends reached

-- ---- an entry comes behind the blocks

-- a list without a last key is empty
pub none_last : {V : Type 0} (entries : List (Key × V)) → last_key entries ≡ None → entries ≡ []
none_last [] h = refl
none_last (entry ∷ []) h = absurd cc
none_last (entry ∷ next ∷ entries) h = let e = none_last (next ∷ entries) h in absurd (omega (arith, ap length e))

pub some_last : {V : Type 0} (entries : List (Key × V)) (key : Key) → last_key entries ≡ Some key → entries ≢ []
some_last [] key h = absurd cc
some_last (entry ∷ entries) key h = λ none. absurd (omega (arith, ap length none))

ends-by : {V : Type 0} (index : List IndexEntry) (last : Option Key) (key : Key) (v : V) → last_key index ≡ last → may_come last key ≡ true → ends_below index ((key, v) ∷ []) ≡ true
ends-by [] last key v is comes = refl
ends-by (entry ∷ []) last key v is comes = ap (λ l. may_come l key) is ∙ comes
ends-by (entry ∷ next ∷ index) last key v is comes = ends-by (next ∷ index) last key v is comes

ends-longer : {V : Type 0} (index : List IndexEntry) (entries more : List (Key × V)) → entries ≢ [] → ends_below index entries ≡ true → ends_below index (entries ++ more) ≡ true
ends-longer index [] more some ends = absurd (some refl)
ends-longer [] (entry ∷ entries) more some ends = refl
ends-longer (e ∷ []) (entry ∷ entries) more some ends = ends
ends-longer (e ∷ f ∷ index) (entry ∷ entries) more some ends = ends-longer (f ∷ index) (entry ∷ entries) more some ends

-- What is known of the index when an entry comes behind these of the open block.
pub record IndexNext {V : Type 0} (index index' : List IndexEntry) (entries : List (Key × V)) (key : Key) (v : V) : Type 0 where
  pub before : index' ≡ index_before entries index key
  pub rising : is_rising (keys_in index') ≡ true
  pub below : ends_below index' (entries ++ (key, v) ∷ []) ≡ true
  pub starts : (start first : ℕ) → MayStart index start first → MayStart index' start first
  pub points : (blocks : List (Block V)) (places : List Address) → points_to index blocks places ≡ true → points_to index' blocks places ≡ true
  pub reached : (last : Option Key) → is_reached last (last_key index) ≡ true → is_reached last (last_key index') ≡ true

same-before : {V : Type 0} (index : List IndexEntry) (entries : List (Key × V)) (key : Key) → entries ≢ [] → index ≡ index_before entries index key
same-before index [] key some = absurd (some refl)
same-before index (entry ∷ entries) key some = refl

index-same : {V : Type 0} (index : List IndexEntry) (entries : List (Key × V)) (key : Key) (v : V) → entries ≢ [] → is_rising (keys_in index) ≡ true → ends_below index entries ≡ true → IndexNext index index entries key v
index-same index entries key v some rising below = record {
  before = same-before index entries key some;
  rising = rising;
  below = ends-longer index entries ((key, v) ∷ []) some below;
  starts = λ start first may. may;
  points = λ blocks places points. points;
  reached = λ last reached. reached;
}

index-shorter : {V : Type 0} (index : List IndexEntry) (key : Key) (v : V) → is_rising (keys_in index) ≡ true → ends_below index ((key, v) ∷ []) ≡ true → IndexNext index (with_last_key_shortened index key) [] key v
index-shorter index key v rising ends = record {
  before = refl;
  rising = rising-shorter index key v ends rising;
  below = ends-shorter index key v ends;
  starts = starts-shorter index key;
  points = λ blocks places points. points-shorter index blocks places key v ends points;
  reached = λ last reached. reached-shorter last index key v ends reached;
}

pub index-next : {V : Type 0} (begun : Bool) (index index' : List IndexEntry) (entries : List (Key × V)) (previous key : Key) (last : Option Key) (v : V) → index' ≡ (if begun then index else with_last_key_shortened index key)
    → last_key entries ≡ (if begun then Some previous else None) → (begun ≡ false → last_key index ≡ last) → may_come last key ≡ true → is_rising (keys_in index) ≡ true → ends_below index entries ≡ true
    → IndexNext index index' entries key v
index-next true index index' entries previous key last v is begins last_is comes rising below =
    subst (λ i. IndexNext index i entries key v) (sym is) (index-same index entries key v (some_last entries previous begins) rising below)
index-next false index index' entries previous key last v is begins last_is comes rising below =
    subst (λ es. IndexNext index index' es key v) (sym (none_last entries begins))
    (subst (λ i. IndexNext index i [] key v) (sym is) (index-shorter index key v rising (ends-by index last key v (last_is refl) comes)))

-- ---- the open block is closed

-- entries that come after the last index key come after the last key of the blocks
pub follows-index : {V : Type 0} (last : Option Key) (index : List IndexEntry) (entries : List (Key × V)) → (index ≡ [] → last ≡ None) → is_reached last (last_key index) ≡ true → ends_below index entries ≡ true → entries ≢ []
    → may_follow last entries ≡ true
follows-index last index [] none reached ends some = absurd (some refl)
follows-index None index (entry ∷ entries) none reached ends some = refl
follows-index (Some last) [] (entry ∷ entries) none reached ends some = absurd (let e : Some last ≡ None = none refl in cc)
follows-index (Some last) (e ∷ []) (entry ∷ entries) none reached ends some = not-trans_below last e.0 entry.0 (not-true (is_below e.0 last) reached) ends
follows-index (Some last) (e ∷ f ∷ index) (entry ∷ entries) none reached ends some =
    follows-index (Some last) (f ∷ index) (entry ∷ entries) (λ no. absurd (omega (arith, ap length no))) reached ends some

-- no block without an index entry
pub no_block : {V : Type 0} (index : List IndexEntry) (blocks : List (Block V)) (places : List Address) → points_to index blocks places ≡ true → index ≡ [] → blocks ≡ []
unfolding points_to
no_block [] [] places points none = refl
no_block [] (b ∷ blocks) places points none = absurd (false≢true points)
no_block (e ∷ index) blocks places points none = absurd (omega (arith, ap length none))

-- as many blocks as index entries
pub as_many : {V : Type 0} (index : List IndexEntry) (blocks : List (Block V)) (places : List Address) → points_to index blocks places ≡ true → length blocks ≡ length index
unfolding points_to
as_many [] [] places points = refl
as_many [] (b ∷ blocks) places points = absurd (false≢true points)
as_many (e ∷ index) [] places points = absurd (false≢true points)
as_many (e ∷ index) (b ∷ blocks) [] points = absurd (false≢true points)
as_many (e ∷ index) (b ∷ blocks) (p ∷ places) points = let others = as_many index blocks places (points-parts e index b blocks p places points).others in omega (arith, others)

pub ends-none : (V : Type 0) (index : List IndexEntry) → ends_below {V = V} index [] ≡ true
ends-none V [] = refl
ends-none V (e ∷ []) = refl
ends-none V (e ∷ f ∷ index) = ends-none V (f ∷ index)

-- a key below the first of rising entries is below the last
below-last : {V : Type 0} (key last : Key) (entries : List (Key × V)) → is_below_first key entries ≡ true → is_rising (keys_in entries) ≡ true → last_key entries ≡ Some last → is_below key last ≡ true
unfolding is_rising
below-last key last [] below rising is = absurd cc
below-last key last (entry ∷ []) below rising is = ap (is_below key) (sym (some_is entry.0 last is)) ∙ below
below-last key last (entry ∷ next ∷ entries) below rising is =
    let parts = and_parts (is_below entry.0 next.0) (is_rising (keys_in (next ∷ entries))) rising in
    below-last key last (next ∷ entries) (below-trans key entry.0 next.0 below parts.0) parts.1 is

-- the last key of the open block may come behind the index
pub last-comes : {V : Type 0} (index : List IndexEntry) (last : Key) (entries : List (Key × V)) → ends_below index entries ≡ true → is_rising (keys_in entries) ≡ true → last_key entries ≡ Some last → may_come (last_key index) last ≡ true
last-comes [] last entries ends rising is = refl
last-comes (e ∷ []) last entries ends rising is = below-last e.0 last entries ends rising is
last-comes (e ∷ f ∷ index) last entries ends rising is = last-comes (f ∷ index) last entries ends rising is

pub starts-more : (index : List IndexEntry) (entry : IndexEntry) (start first : ℕ) → start ≡ entry.1.end → entry.1.first_ordinal ≤ first → first ≤ entry.1.first_ordinal + most_keys → MayStart (index ++ entry ∷ []) start first
starts-more [] entry start first there rises few = (there, rises, few)
starts-more (e ∷ []) entry start first there rises few = (there, rises, few)
starts-more (e ∷ f ∷ index) entry start first there rises few = starts-more (f ∷ index) entry start first there rises few
