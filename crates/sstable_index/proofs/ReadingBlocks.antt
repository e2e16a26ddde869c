-- How the blocks of an index of version 2 are read.
use Rattle.std.proofs.Common.{◌≡◌, ◌≢◌, ℕ, zero, suc, ◌+◌, ◌-◌, ◌<◌, ◌≤◌, List, [], ◌∷◌, ◌++◌, length, take, drop, Bool, true, false, Option, Some, None, refl, ap, sym, subst, ◌∙◌, arith, append-nil, append_assoc, length-append}
use Rattle.std.specs.Prelude.{unwrap_or, option_map, is_none, slice_get, ◌==◌}
use Rattle.std.specs.List.{zip}
use Rattle.std.proofs.lemmas.List.{drop_more, drop_all}
use Rattle.std.proofs.lemmas.Option.{get_or_from_slice_get}
use Rattle.std.proofs.lemmas.Bool.{eqb-true, eq-eqb, ne_eqb}
use Rattle.owned_bytes.specs.Front.{◌>>=◌, provided, pieces}
use Rattle.owned_bytes.specs.Keys.{Key}
use Rattle.owned_bytes.proofs.Pieces.{some_is, bind_some}
use Rattle.sstable_values.specs.declared.errors.BlockError.{BlockError}
use Rattle.sstable_values.specs.declared.errors.BlockError.TheVariants as blocks
use Rattle.sstable_values.specs.Values.{Values, Listed}
use Rattle.sstable_values.specs.Codec.{Address, index}
use Rattle.sstable_values.specs.Reads.{CorruptOnly}
use Rattle.sstable_blocks.specs.Delta.{Delta}
use Rattle.sstable_blocks.specs.Block.{front_of_deltas, keys_of}
unfoldable use Rattle.sstable_blocks.specs.Block.{paired, block_of}
use Rattle.sstable_blocks.specs.Run.{may_follow}
use Rattle.sstable_blocks.specs.Writing.{keys_in}
use Rattle.sstable_format.specs.Index.{IndexEntry}
use Rattle.sstable_index.specs.declared.load_errors.LoadError.{LoadError}
use Rattle.sstable_index.specs.declared.load_errors.LoadError.TheVariants.{Memory, Corrupt, Compressed}
use Rattle.sstable_index.specs.Errors.{load_error_of_block}
use Rattle.sstable_index.specs.Building.{addresses_in}
use Rattle.sstable_index.specs.Loaded.{last_of}
use Rattle.sstable_index.specs.ReadingV2.{are_behind, keys_left, with_keys_left, entries_behind, AddsEntries, DamagedOnly}
use Rattle.sstable_index.proofs.InOrder.{keys-zip, addresses-zip}

-- ---- errors

pub damaged-map : (e : LoadError) (P Q : Type 0) → (P → Q) → DamagedOnly e P → DamagedOnly e Q
damaged-map Memory P Q f h = h
damaged-map (Corrupt damage) P Q f h = f h
damaged-map (Compressed place) P Q f h = h

-- ---- one block

-- what becomes of its values
abbrev block_with : Option Key → Option (Values Address × List ℕ) → Option (List IndexEntry)
block_with before values =
    values >>= (λ values. pieces front_of_deltas values.1 >>= (λ deltas. keys_of (unwrap_or before []) deltas.0 >>= (λ keys. paired keys values.0)))
    >>= (λ entries. provided (may_follow before entries) >>= (λ _. Some entries))

entries-with : (before : Option Key) (content : List ℕ) → entries_behind before content ≡ block_with before (index.values_of content)
unfolding block_of
entries-with before content = refl

no-values : (before : Option Key) (content : List ℕ) → index.values_of content ≡ None → entries_behind before content ≡ None
no-values before content none = entries-with before content ∙ ap (block_with before) none

pub load-fault : (e : BlockError) (error : LoadError) (before : Option Key) (content : List ℕ) → error ≡ load_error_of_block e → CorruptOnly e (index.values_of content ≡ None) → DamagedOnly error (entries_behind before content ≡ None)
load-fault blocks.Memory error before content is h = subst (λ x. DamagedOnly x (entries_behind before content ≡ None)) (sym is) tt
load-fault blocks.Corrupt error before content is h = subst (λ x. DamagedOnly x (entries_behind before content ≡ None)) (sym is) (no-values before content h)
load-fault (blocks.Compressed place) error before content is h = absurd h

follows-zip : (before : Option Key) (keys : List Key) (values : List Address) → length keys ≡ length values → may_follow before (zip keys values) ≡ are_behind before keys
follows-zip None [] [] e = refl
follows-zip (Some key) [] [] e = refl
follows-zip before [] (v ∷ values) e = absurd (omega (arith, e))
follows-zip before (key ∷ keys) [] e = absurd (omega (arith, e))
follows-zip None (key ∷ keys) (v ∷ values) e = refl
follows-zip (Some before) (key ∷ keys) (v ∷ values) e = refl

-- the values are paired with the keys
abbrev pub with_values : List Address → List Key → Option (List IndexEntry)
with_values values keys = provided (length keys == length values) >>= (λ _. Some (zip keys values))

pairs-same : (before : Option Key) (keys : List Key) (values : List Address) (t u : Bool) → (length keys == length values) ≡ t → may_follow before (zip keys values) ≡ u → (t ≡ true → are_behind before keys ≡ u)
    → (with_values values keys >>= (λ entries. provided (may_follow before entries) >>= (λ _. Some entries))) ≡ (provided (are_behind before keys) >>= (λ _. Some keys) >>= with_values values)
pairs-same before keys values true u e f g =
    ap (λ t. provided t >>= (λ _. Some (zip keys values)) >>= (λ entries. provided (may_follow before entries) >>= (λ _. Some entries))) e
    ∙ ap (λ t. provided t >>= (λ _. Some (zip keys values))) f ∙ both u ∙ ap (λ t. provided t >>= (λ _. Some keys) >>= with_values values) (sym (g refl))
  where
    both : (u : Bool) → (provided u >>= (λ _. Some (zip keys values))) ≡ (provided u >>= (λ _. Some keys) >>= with_values values)
    both true = ap (λ t. provided t >>= (λ _. Some (zip keys values))) (sym e)
    both false = refl
pairs-same before keys values false u e f g =
    ap (λ t. provided t >>= (λ _. Some (zip keys values)) >>= (λ entries. provided (may_follow before entries) >>= (λ _. Some entries))) e ∙ none (are_behind before keys)
  where
    none : (u : Bool) → None ≡ (provided u >>= (λ _. Some keys) >>= with_values values)
    none true = ap (λ t. provided t >>= (λ _. Some (zip keys values))) (sym e)
    none false = refl

pairs-follow : (before : Option Key) (keys : List Key) (values : List Address) → (with_values values keys >>= (λ entries. provided (may_follow before entries) >>= (λ _. Some entries)))
    ≡ (provided (are_behind before keys) >>= (λ _. Some keys) >>= with_values values)
pairs-follow before keys values = pairs-same before keys values (length keys == length values) (may_follow before (zip keys values)) refl refl (λ e. sym (follows-zip before keys values (eqb-true _ _ e)))

-- the keys of a block's deltas, paired with its values
keys-follow : (before : Option Key) (values : List Address) (o : Option (List Key))
    → (o >>= with_values values >>= (λ entries. provided (may_follow before entries) >>= (λ _. Some entries))) ≡ (o >>= (λ keys. provided (are_behind before keys) >>= (λ _. Some keys)) >>= with_values values)
keys-follow before values None = refl
keys-follow before values (Some keys) = pairs-follow before keys values

deltas-follow : (before : Option Key) (values : List Address) (o : Option (List Delta × List ℕ))
    → (o >>= (λ (deltas : List Delta × List ℕ). keys_of (unwrap_or before []) deltas.0 >>= with_values values) >>= (λ entries. provided (may_follow before entries) >>= (λ _. Some entries)))
    ≡ (o >>= (λ (deltas : List Delta × List ℕ). keys_of (unwrap_or before []) deltas.0 >>= (λ keys. provided (are_behind before keys) >>= (λ _. Some keys))) >>= with_values values)
deltas-follow before values None = refl
deltas-follow before values (Some deltas) = keys-follow before values (keys_of (unwrap_or before []) deltas.0)

-- a block whose values were read
pub entries-of : (before : Option Key) (content deltas : List ℕ) (values : List Address) → index.values_of content ≡ Some (Listed values, deltas) → entries_behind before content ≡ (keys_left true before deltas >>= with_values values)
unfolding block_of paired
entries-of before content deltas values found =
    ap (λ (o : Option (Values Address × List ℕ)). o >>= (λ values. pieces front_of_deltas values.1 >>= (λ deltas. keys_of (unwrap_or before []) deltas.0 >>= (λ keys. paired keys values.0)))
    >>= (λ entries. provided (may_follow before entries) >>= (λ _. Some entries))) found
    ∙ deltas-follow before values (pieces front_of_deltas deltas)

-- ---- a block that was read

left-found : (keys keys' : List Key) (o : Option (List Key)) → option_map (λ (others : List Key). keys ++ others) o ≡ Some keys' → (others : List Key) × (o ≡ Some others) × (keys' ≡ keys ++ others)
left-found keys keys' None e = absurd cc
left-found keys keys' (Some others) e = (others, refl, sym (some_is _ keys' e))

left-lost : (keys : List Key) (o : Option (List Key)) → option_map (λ (others : List Key). keys ++ others) o ≡ None → o ≡ None
left-lost keys None e = refl
left-lost keys (Some others) e = absurd cc

-- its deltas are none
pub keys-fault : (keys : List Key) (content deltas : List ℕ) (values : List Address) → index.values_of content ≡ Some (Listed values, deltas) → with_keys_left true keys deltas ≡ None → entries_behind (last_of keys) content ≡ None
keys-fault keys content deltas values found none = entries-of (last_of keys) content deltas values found ∙ ap (λ o. o >>= with_values values) (left-lost keys (keys_left true (last_of keys) deltas) none)

-- it has so many keys, and another number of values
pub count-fault : (keys keys' : List Key) (content deltas : List ℕ) (values : List Address) → index.values_of content ≡ Some (Listed values, deltas) → with_keys_left true keys deltas ≡ Some keys'
    → length keys' - length keys ≢ length values → entries_behind (last_of keys) content ≡ None
count-fault keys keys' content deltas values found read apart =
    let others = left-found keys keys' (keys_left true (last_of keys) deltas) read in
    entries-of (last_of keys) content deltas values found ∙ ap (λ o. o >>= with_values values) others.1
    ∙ ap (λ t. provided t >>= (λ _. Some (zip others.0 values))) (ne_eqb (length others.0) (length values) (λ e. apart (omega (arith, e, ap length others.2, length-append keys others.0))))

pub block-read : (keys keys' : List Key) (content deltas : List ℕ) (values addresses addresses' : List Address) → index.values_of content ≡ Some (Listed values, deltas) → with_keys_left true keys deltas ≡ Some keys'
    → length keys' - length keys ≡ length values → addresses' ≡ addresses ++ values → AddsEntries content keys keys' addresses addresses'
block-read keys keys' content deltas values addresses addresses' found read count added =
    let others = left-found keys keys' (keys_left true (last_of keys) deltas) read in
    let same : length others.0 ≡ length values = omega (arith, count, ap length others.2, length-append keys others.0) in
    record {
      entries = zip others.0 values;
      found = entries-of (last_of keys) content deltas values found ∙ ap (λ o. o >>= with_values values) others.1 ∙ ap (λ t. provided t >>= (λ _. Some (zip others.0 values))) (eq-eqb (length others.0) (length values) same);
      keys = others.2 ∙ ap (λ ks. keys ++ ks) (sym (keys-zip others.0 values same));
      addresses = added ∙ ap (λ vs. addresses ++ vs) (sym (addresses-zip others.0 values same));
    }

-- ---- the places of a block

value-within : (values : List Address) (i : ℕ) (a : Address) → slice_get values i ≡ Some a → i < length values
value-within [] i a e = absurd cc
value-within (v ∷ values) zero a e = omega arith
value-within (v ∷ values) (suc i) a e = omega (arith, value-within values i a e)

next-value : (values : List Address) (i : ℕ) (a : Address) → slice_get values i ≡ Some a → drop i values ≡ a ∷ drop (i + 1) values
next-value values i a e = drop_more values i a (value-within values i a e) ∙ ap (λ x. x ∷ drop (i + 1) values) (get_or_from_slice_get values i a a e)

pub value-added : (so_far so_far' values all : List Address) (i : ℕ) (a : Address) → so_far' ≡ so_far ++ a ∷ [] → slice_get values i ≡ Some a → so_far ++ drop i values ≡ all → so_far' ++ drop (i + 1) values ≡ all
value-added so_far so_far' values all i a is got left =
    ap (λ xs. xs ++ drop (i + 1) values) is ∙ append_assoc so_far (a ∷ []) (drop (i + 1) values) ∙ ap (λ xs. so_far ++ xs) (sym (next-value values i a got)) ∙ left

pub values-added : (so_far values all : List Address) (i : ℕ) → length values ≤ i → so_far ++ drop i values ≡ all → so_far ≡ all
values-added so_far values all i past left = sym (append-nil so_far) ∙ ap (λ xs. so_far ++ xs) (sym (drop_all i values past)) ∙ left
