-- The keys of a run rise.
use Rattle.std.proofs.Common.{◌≡◌, ℕ, ◌<◌, List, [], ◌∷◌, ◌++◌, length, map, Option, Some, None, Bool, true, false, ◌||◌, refl, ap, sym, ◌∙◌, arith, eqb}
use Rattle.std.proofs.lemmas.Bool.{and_parts, and_from, eqb-true}
use Rattle.std.specs.List.{zip}
use Rattle.owned_bytes.specs.Front.{◌>>=◌, provided, pieces}
use Rattle.owned_bytes.specs.Keys.{Key, is_below, shared}
unfoldable use Rattle.owned_bytes.specs.Keys.{is_rising}
use Rattle.owned_bytes.proofs.Pieces.{bind_some, some_is}
use Rattle.sstable_values.specs.Codec.{Codec}
use Rattle.sstable_values.specs.Values.{Values, Listed, Everywhere}
use Rattle.sstable_blocks.specs.Delta.{Delta}
use Rattle.sstable_blocks.specs.Block.{front_of_deltas, key_after}
unfoldable use Rattle.sstable_blocks.specs.Block.{keys_after, keys_of, paired, block_of}
use Rattle.sstable_blocks.specs.Run.{Block, front_of_blocks, last_key, may_follow, key_before, entries_of}
unfoldable use Rattle.sstable_blocks.specs.Run.{blocks_after, whole_run_of, run_of}
use Rattle.sstable_blocks.proofs.RunLaws.{block_of-some}

provided-true : (b : Bool) (x : Unit {0}) → provided b ≡ Some x → b ≡ true
provided-true true x e = refl
provided-true false x e = absurd cc

keys : {V : Type 0} → List (Key × V) → List Key
keys entries = map (λ entry. entry.0) entries

keys_after-rising : (before : Key) (deltas : List Delta) (found : List Key) → keys_after before deltas ≡ Some found → is_rising (before ∷ found) ≡ true
unfolding keys_after is_rising
keys_after-rising before [] found e = ap (λ ks. is_rising (before ∷ ks)) (sym (some_is [] found e))
keys_after-rising before (delta ∷ deltas) found e =
    let first = bind_some (provided (eqb delta.keep (shared before (key_after before delta)))) (λ _. provided (is_below before (key_after before delta)) >>= (λ _. keys_after (key_after before delta) deltas >>= (λ others. Some (key_after before delta ∷ others)))) found e in
    let second = bind_some (provided (is_below before (key_after before delta))) (λ _. keys_after (key_after before delta) deltas >>= (λ others. Some (key_after before delta ∷ others))) found first.2 in
    let third = bind_some (keys_after (key_after before delta) deltas) (λ others. Some (key_after before delta ∷ others)) found second.2 in
    ap (λ ks. is_rising (before ∷ ks)) (sym (some_is _ found third.2))
    ∙ and_from (is_below before (key_after before delta)) (is_rising (key_after before delta ∷ third.0)) (provided-true _ _ second.1) (keys_after-rising (key_after before delta) deltas third.0 third.1)

keys_of-rising : (before : Key) (deltas : List Delta) (found : List Key) → keys_of before deltas ≡ Some found → is_rising found ≡ true
unfolding keys_of
keys_of-rising before [] found e = absurd cc
keys_of-rising before (delta ∷ deltas) found e =
    let first = bind_some (provided (eqb delta.keep 0 || eqb delta.keep (shared before (key_after before delta)))) (λ _. keys_after (key_after before delta) deltas >>= (λ others. Some (key_after before delta ∷ others))) found e in
    let second = bind_some (keys_after (key_after before delta) deltas) (λ others. Some (key_after before delta ∷ others)) found first.2 in
    ap is_rising (sym (some_is _ found second.2)) ∙ keys_after-rising (key_after before delta) deltas second.0 second.1

keys-everywhere : {V : Type 0} (ks : List Key) (value : V) → keys (map (λ key. (key, value)) ks) ≡ ks
unfolding keys
keys-everywhere [] value = refl
keys-everywhere (k ∷ ks) value = ap (λ rest. k ∷ rest) (keys-everywhere ks value)

keys-zip : {V : Type 0} (ks : List Key) (values : List V) → length ks ≡ length values → keys (zip ks values) ≡ ks
unfolding keys
keys-zip [] values e = refl
keys-zip (k ∷ ks) [] e = absurd (omega (arith, e))
keys-zip (k ∷ ks) (v ∷ values) e = ap (λ rest. k ∷ rest) (keys-zip ks values (omega (arith, e)))

keys-paired : {V : Type 0} (ks : List Key) (values : Values V) (entries : List (Key × V)) → paired ks values ≡ Some entries → keys entries ≡ ks
unfolding paired
keys-paired ks (Everywhere value) entries e = ap keys (sym (some_is _ entries e)) ∙ keys-everywhere ks value
keys-paired ks (Listed values) entries e =
    let first = bind_some (provided (eqb (length ks) (length values))) (λ _. Some (zip ks values)) entries e in
    ap keys (sym (some_is _ entries first.2)) ∙ keys-zip ks values (eqb-true _ _ (provided-true _ _ first.1))

block_of-rising : {V : Type 0} (codec : Codec V) (before : Key) (content : List ℕ) (entries : List (Key × V)) → block_of codec before content ≡ Some entries → is_rising (keys entries) ≡ true
unfolding block_of
block_of-rising codec before content entries e =
    let values = bind_some (codec.values_of content) (λ values. pieces front_of_deltas values.1 >>= (λ deltas. keys_of before deltas.0 >>= (λ ks. paired ks values.0))) entries e in
    let deltas = bind_some (pieces front_of_deltas values.0.1) (λ deltas. keys_of before deltas.0 >>= (λ ks. paired ks values.0.0)) entries values.2 in
    let ks = bind_some (keys_of before deltas.0.0) (λ ks. paired ks values.0.0) entries deltas.2 in
    ap is_rising (keys-paired ks.0 values.0.0 entries ks.2) ∙ keys_of-rising before deltas.0.0 ks.0 ks.1

-- the keys rise, and come after the one before, where there is one
rises : {V : Type 0} → Option Key → List (Key × V) → Bool
rises None entries = is_rising (keys entries)
rises (Some before) entries = is_rising (before ∷ keys entries)

rises-first : {V : Type 0} (before : Option Key) (entries : List (Key × V)) → is_rising (keys entries) ≡ true → may_follow before entries ≡ true → rises before entries ≡ true
unfolding rises keys is_rising
rises-first None entries rising follows = rising
rises-first (Some before) [] rising follows = refl
rises-first (Some before) (entry ∷ entries) rising follows = and_from (is_below before entry.0) (is_rising (entry.0 ∷ keys entries)) follows rising

rises-append : {V : Type 0} (entry : Key × V) (xs ys : List (Key × V)) → is_rising (entry.0 ∷ keys xs) ≡ true → rises (last_key (entry ∷ xs)) ys ≡ true → is_rising (entry.0 ∷ keys (xs ++ ys)) ≡ true
unfolding rises keys is_rising
rises-append entry [] ys a b = b
rises-append entry (next ∷ xs) ys a b =
    let parts = and_parts (is_below entry.0 next.0) (is_rising (next.0 ∷ keys xs)) a in
    and_from (is_below entry.0 next.0) (is_rising (next.0 ∷ keys (xs ++ ys))) parts.0 (rises-append next xs ys parts.1 b)

rises-more : {V : Type 0} (before : Option Key) (xs ys : List (Key × V)) → 0 < length xs → rises before xs ≡ true → rises (last_key xs) ys ≡ true → rises before (xs ++ ys) ≡ true
unfolding rises keys is_rising
rises-more before [] ys some a b = absurd (omega (arith, some))
rises-more None (entry ∷ xs) ys some a b = rises-append entry xs ys a b
rises-more (Some before) (entry ∷ xs) ys some a b =
    let parts = and_parts (is_below before entry.0) (is_rising (entry.0 ∷ keys xs)) a in
    and_from (is_below before entry.0) (is_rising (entry.0 ∷ keys (xs ++ ys))) parts.0 (rises-append entry xs ys parts.1 b)

rises-none : (V : Type 0) (before : Option Key) → rises {V = V} before [] ≡ true
unfolding rises keys is_rising
rises-none V None = refl
rises-none V (Some key) = refl

blocks_after-rising : {V : Type 0} (codec : Codec V) (before : Option Key) (contents : List (List ℕ)) (blocks : List (Block V)) → blocks_after codec before contents ≡ Some blocks → rises before (entries_of blocks) ≡ true
unfolding blocks_after
blocks_after-rising codec before [] blocks e = ap (λ bs. rises before (entries_of bs)) (sym (some_is [] blocks e)) ∙ rises-none _ before
blocks_after-rising codec before (content ∷ contents) blocks e =
    let first = bind_some (block_of codec (key_before codec before) content) (λ entries. provided (may_follow before entries) >>= (λ _. blocks_after codec (last_key entries) contents >>= (λ others. Some (record { content = content; entries = entries } ∷ others)))) blocks e in
    let second = bind_some (provided (may_follow before first.0)) (λ _. blocks_after codec (last_key first.0) contents >>= (λ others. Some (record { content = content; entries = first.0 } ∷ others))) blocks first.2 in
    let third = bind_some (blocks_after codec (last_key first.0) contents) (λ others. Some (record { content = content; entries = first.0 } ∷ others)) blocks second.2 in
    ap (λ bs. rises before (entries_of bs)) (sym (some_is _ blocks third.2))
    ∙ rises-more before first.0 (entries_of third.0) (block_of-some codec (key_before codec before) content first.0 first.1)
    (rises-first before first.0 (block_of-rising codec (key_before codec before) content first.0 first.1) (provided-true _ _ second.1))
    (blocks_after-rising codec (last_key first.0) contents third.0 third.1)

pub run_of-rising : {V : Type 0} (codec : Codec V) (bytes : List ℕ) (entries : List (Key × V)) → run_of codec bytes ≡ Some entries → is_rising (map (λ entry. entry.0) entries) ≡ true
unfolding run_of whole_run_of rises keys
run_of-rising codec bytes entries e =
    let run = bind_some (whole_run_of codec bytes) (λ run. Some (entries_of run.blocks)) entries e in
    let contents = bind_some (pieces front_of_blocks bytes) (λ contents. blocks_after codec None contents.0 >>= (λ blocks. Some (record { blocks = blocks; rest = contents.1 }))) run.0 run.1 in
    let blocks = bind_some (blocks_after codec None contents.0.0) (λ blocks. Some (record { blocks = blocks; rest = contents.0.1 })) run.0 contents.2 in
    ap (λ es. is_rising (map (λ (entry : Key × _). entry.0) es)) (sym (some_is _ entries run.2) ∙ ap (λ (r : _). entries_of r.blocks) (sym (some_is _ run.0 blocks.2)))
    ∙ blocks_after-rising codec None contents.0.0 blocks.0 blocks.1
