-- A reader of entries gives the entries of the run, in order.
use Rattle.std.proofs.Common.{◌≡◌, ℕ, zero, suc, ◌+◌, ◌<◌, List, [], ◌∷◌, ◌++◌, length, take, drop, map, Bool, true, false, cond, Option, Some, None, Ok, refl, ap, sym, ◌∙◌, subst, inl, inr, arith, drop-drop}
use Rattle.std.specs.Prelude.{unwrap_or, slice_get, nat_eq, ◌==◌, ◌||◌, ◌⊎◌}
use Rattle.std.specs.List.{zip}
use Rattle.std.proofs.lemmas.Bool.{eqb-true, eq-eqb}
use Rattle.owned_bytes.specs.Front.{◌>>=◌, provided, Front, End, Piece, Fault, piece_or_fault, continued, pieces}
use Rattle.owned_bytes.specs.Keys.{Key, shared, is_below}
use Rattle.owned_bytes.proofs.Pieces.{pieces-step, bind_some, some_is}
use Rattle.sstable_values.specs.Values.{Values, Listed, Everywhere, value_at, values_from}
use Rattle.sstable_values.specs.Codec.{Codec, everywhere_or_none}
use Rattle.sstable_blocks.specs.Delta.{Delta, delta_at}
use Rattle.sstable_blocks.specs.Block.{front_of_deltas, key_after, keys_after, keys_of, paired, block_of}
use Rattle.sstable_blocks.specs.Run.{front_of_blocks, last_key, may_follow, key_before, Block, Run, blocks_after, whole_run_of, entries_of, run_of}
use Rattle.sstable_blocks.specs.Entries.{Entry, Walk, IsFresh, entry_at, Step, to_entry, within_block, to_first, to_block, onward, step, last_or, entries_left, TakesFirst}
use Rattle.sstable_values.proofs.RisingLaws.{provided-true}
use Rattle.sstable_blocks.proofs.DeltaLaws.{deltas-shrink}
use Rattle.sstable_blocks.proofs.RunLaws.{blocks-shrink, found-piece, found-end}

-- A value for the first key, and those of the other keys from the next place on.
record FirstValue {V : Type 0} (key : Key) (keys : List Key) (given : ℕ) (values : Values V) (here : List (Key × V)) : Type 0 where
  value : V
  others : List (Key × V)
  is : here ≡ (key, value) ∷ others
  at : value_at values given ≡ Some value
  left : paired keys (values_from (given + 1) values) ≡ Some others

slice_get-drop : {V : Type 0} (values : List V) (n : ℕ) (v : V) (vs : List V) → drop n values ≡ v ∷ vs → slice_get values n ≡ Some v
slice_get-drop [] zero v vs e = absurd cc
slice_get-drop [] (suc n) v vs e = absurd cc
slice_get-drop (x ∷ values) zero v vs e = let same : x ≡ v = cc in ap Some same
slice_get-drop (x ∷ values) (suc n) v vs e = slice_get-drop values n v vs e

first_value : {V : Type 0} (key : Key) (keys : List Key) (given : ℕ) (values : Values V) (here : List (Key × V)) → paired (key ∷ keys) (values_from given values) ≡ Some here → FirstValue key keys given values here
unfolding paired
first_value key keys given (Everywhere value) here e =
    record { value = value; others = map (λ k. (k, value)) keys; is = sym (some_is _ _ e); at = refl; left = refl }
first_value {V} key keys given (Listed values) here e = by_list (drop given values) refl e
  where
    by_list : (vs : List V) → drop given values ≡ vs → (provided (nat_eq (length (key ∷ keys)) (length vs)) >>= (λ _. Some (zip (key ∷ keys) vs))) ≡ Some here → FirstValue key keys given (Listed values) here
    by_list vs same paired_up = by_shape vs same (bind_some (provided (nat_eq (length (key ∷ keys)) (length vs))) (λ _. Some (zip (key ∷ keys) vs)) here paired_up)
      where
        by_shape : (vs : List V) → drop given values ≡ vs → (x : Unit {0}) × (provided (nat_eq (length (key ∷ keys)) (length vs)) ≡ Some x) × (Some (zip (key ∷ keys) vs) ≡ Some here) → FirstValue key keys given (Listed values) here
        by_shape [] same test = let none : length (key ∷ keys) ≡ 0 = eqb-true _ _ (provided-true _ _ test.1) in absurd (omega arith)
        by_shape (v ∷ vs) same test =
            let enough : length (key ∷ keys) ≡ length (v ∷ vs) = eqb-true _ _ (provided-true _ _ test.1) in
            let next : drop (given + 1) values ≡ vs = sym (drop-drop 1 given values) ∙ ap (drop 1) same in
            record {
              value = v;
              others = zip keys vs;
              is = sym (some_is _ _ test.2);
              at = slice_get-drop values given v vs same;
              left = ap (λ (ws : List V). provided (nat_eq (length keys) (length ws)) >>= (λ _. Some (zip keys ws))) next
                  ∙ ap (λ t. provided t >>= (λ _. Some (zip keys vs))) (eq-eqb (length keys) (length vs) (omega arith));
            }

-- no key has no entry
none_paired : {V : Type 0} (values : Values V) (here : List (Key × V)) → paired [] values ≡ Some here → here ≡ []
unfolding paired
none_paired (Everywhere value) here e = sym (some_is _ _ e)
none_paired (Listed values) here e = let test = bind_some (provided (nat_eq 0 (length values))) (λ _. Some []) here e in sym (some_is _ _ test.2)

-- The first of the deltas, and the others.
record FirstDelta (bytes : List ℕ) (ds : List Delta) (rest : List ℕ) : Type 0 where
  first : Delta
  others : List Delta
  left : List ℕ
  is : ds ≡ first ∷ others
  at : delta_at bytes ≡ Some (first, left)
  after : pieces front_of_deltas left ≡ Some (others, rest)

list_parts : {A : Type 0} (x y : List A × List ℕ) → Some x ≡ Some y → (x.0 ≡ y.0) × (x.1 ≡ y.1)
list_parts x y e = let same : x ≡ y = some_is x y e in (ap (λ p. p.0) same, ap (λ p. p.1) same)

first_of_bytes : (b : ℕ) (bytes : List ℕ) (ds : List Delta) (rest : List ℕ) → pieces front_of_deltas (b ∷ bytes) ≡ Some (ds, rest) → FirstDelta (b ∷ bytes) ds rest
first_of_bytes b bytes ds rest e = by_found (delta_at (b ∷ bytes)) refl (sym (pieces-step front_of_deltas deltas-shrink (b ∷ bytes)) ∙ e)
  where
    by_found : (found : Option (Delta × List ℕ)) → delta_at (b ∷ bytes) ≡ found → continued (pieces front_of_deltas) (b ∷ bytes) (piece_or_fault found) ≡ Some (ds, rest) → FirstDelta (b ∷ bytes) ds rest
    by_found None at e = absurd cc
    by_found (Some found) at e =
        let step = bind_some (pieces front_of_deltas found.1) (λ others. Some (found.0 ∷ others.0, others.1)) (ds, rest) e in
        let same = list_parts _ _ step.2 in
        record {
          first = found.0;
          others = step.0.0;
          left = found.1;
          is = sym same.0;
          at = at;
          after = step.1 ∙ ap (λ end. Some (step.0.0, end)) same.1;
        }

no_deltas : pieces front_of_deltas [] ≡ Some ([], [])
no_deltas = pieces-step front_of_deltas deltas-shrink []

first_delta : (bytes : List ℕ) (ds : List Delta) (rest : List ℕ) → pieces front_of_deltas bytes ≡ Some (ds, rest) → 0 < length ds → FirstDelta bytes ds rest
first_delta [] ds rest e some = let none = (list_parts ([], []) (ds, rest) (sym no_deltas ∙ e)).0 in absurd (omega (arith, ap length none, some))
first_delta (b ∷ bytes) ds rest e some = first_of_bytes b bytes ds rest e

-- The first of the keys after a key, and the others.
record FirstKey (before : Key) (first : Delta) (others : List Delta) (keys : List Key) : Type 0 where
  after : List Key
  is : keys ≡ key_after before first ∷ after
  keeps : first.keep ≡ shared before (key_after before first)
  left : keys_after (key_after before first) others ≡ Some after

first_key : (before : Key) (first : Delta) (others : List Delta) (keys : List Key) → keys_after before (first ∷ others) ≡ Some keys → FirstKey before first others keys
unfolding keys_after
first_key before first others keys e =
    let key = key_after before first in
    let kept = bind_some (provided (first.keep == shared before key)) (λ _. provided (is_below before key) >>= (λ _. keys_after key others >>= (λ after. Some (key ∷ after)))) keys e in
    let below = bind_some (provided (is_below before key)) (λ _. keys_after key others >>= (λ after. Some (key ∷ after))) keys kept.2 in
    let after = bind_some (keys_after key others) (λ after. Some (key ∷ after)) keys below.2 in
    record {
      after = after.0;
      is = sym (some_is _ _ after.2);
      keeps = eqb-true _ _ (provided-true _ _ kept.1);
      left = after.1;
    }

-- The parts of what is left.
record Parts {V : Type 0} (codec : Codec V) (before : Option Key) (walk : Walk V) (entries : List (Key × V)) : Type 0 where
  ds : List Delta
  after : List ℕ
  deltas : pieces front_of_deltas walk.deltas ≡ Some (ds, after)
  keys : List Key
  made : keys_after (unwrap_or before []) ds ≡ Some keys
  here : List (Key × V)
  pairs : paired keys (values_from walk.given walk.values) ≡ Some here
  contents : List (List ℕ)
  end : List ℕ
  cut : pieces front_of_blocks walk.rest ≡ Some (contents, end)
  blocks : List (Block V)
  run : blocks_after codec (last_or before here) contents ≡ Some blocks
  all : entries ≡ here ++ entries_of blocks

after_contents : {V : Type 0} → Codec V → Option Key → List (Key × V) → List (List ℕ) × List ℕ → Option (List (Key × V))
after_contents codec before here contents = blocks_after codec (last_or before here) contents.0 >>= (λ blocks. Some (here ++ entries_of blocks))

after_here : {V : Type 0} → Codec V → Option Key → List ℕ → List (Key × V) → Option (List (Key × V))
after_here codec before rest here = pieces front_of_blocks rest >>= after_contents codec before here

after_deltas : {V : Type 0} → Codec V → Option Key → Walk V → List Delta × List ℕ → Option (List (Key × V))
after_deltas codec before walk deltas = keys_after (unwrap_or before []) deltas.0 >>= (λ keys. paired keys (values_from walk.given walk.values) >>= after_here codec before walk.rest)

parts_of : {V : Type 0} (codec : Codec V) (before : Option Key) (walk : Walk V) (entries : List (Key × V)) → entries_left codec before walk ≡ Some entries → Parts codec before walk entries
unfolding entries_left after_contents after_here after_deltas
parts_of codec before walk entries e =
    let deltas = bind_some (pieces front_of_deltas walk.deltas) (after_deltas codec before walk) entries e in
    let keys = bind_some (keys_after (unwrap_or before []) deltas.0.0) (λ keys. paired keys (values_from walk.given walk.values) >>= after_here codec before walk.rest) entries deltas.2 in
    let here = bind_some (paired keys.0 (values_from walk.given walk.values)) (after_here codec before walk.rest) entries keys.2 in
    let contents = bind_some (pieces front_of_blocks walk.rest) (after_contents codec before here.0) entries here.2 in
    let blocks = bind_some (blocks_after codec (last_or before here.0) contents.0.0) (λ blocks. Some (here.0 ++ entries_of blocks)) entries contents.2 in
    record {
      ds = deltas.0.0;
      after = deltas.0.1;
      deltas = deltas.1;
      keys = keys.0;
      made = keys.1;
      here = here.0;
      pairs = here.1;
      contents = contents.0.0;
      end = contents.0.1;
      cut = contents.1;
      blocks = blocks.0;
      run = blocks.1;
      all = sym (some_is _ _ blocks.2);
    }

of_parts : {V : Type 0} (codec : Codec V) (before : Option Key) (walk : Walk V) (entries : List (Key × V)) → Parts codec before walk entries → entries_left codec before walk ≡ Some entries
unfolding entries_left after_contents after_here after_deltas
of_parts codec before walk entries p =
    ap (λ o. o >>= after_deltas codec before walk) p.deltas
    ∙ ap (λ o. o >>= (λ keys. paired keys (values_from walk.given walk.values) >>= after_here codec before walk.rest)) p.made
    ∙ ap (λ o. o >>= after_here codec before walk.rest) p.pairs
    ∙ ap (λ o. o >>= after_contents codec before p.here) p.cut
    ∙ ap (λ o. o >>= (λ blocks. Some (p.here ++ entries_of blocks))) p.run
    ∙ ap Some (sym p.all)

-- A step to the first of the entries.
record Moves {V : Type 0} (codec : Codec V) (before : Option Key) (entries : List (Key × V)) (found : Step V) : Type 0 where
  new : Walk V
  is : found ≡ Ok (Some new)
  takes : TakesFirst codec before entries new

last_key-first : {V : Type 0} (key : Key) (v : V) (others : List (Key × V)) → last_key ((key, v) ∷ others) ≡ last_or (Some key) others
last_key-first key v [] = refl
last_key-first key v (entry ∷ others) = refl

-- A step within a block, whose first key is made of the key before.
moves_within : {V : Type 0} (codec : Codec V) (before : Option Key) (walk : Walk V) (entries : List (Key × V)) (ds : List Delta) (after : List ℕ) (key : Key) (keys : List Key) (here : List (Key × V))
    (contents : List (List ℕ)) (end : List ℕ) (blocks : List (Block V)) (d : FirstDelta walk.deltas ds after) (v : FirstValue key keys walk.given walk.values here)
    → keys_after key d.others ≡ Some keys → key_after (unwrap_or before []) d.first ≡ key
    → (d.first.keep ≡ 0) ⊎ (d.first.keep ≡ shared (unwrap_or before []) key)
    → pieces front_of_blocks walk.rest ≡ Some (contents, end) → blocks_after codec (last_key here) contents ≡ Some blocks → entries ≡ here ++ entries_of blocks
    → Moves codec before entries (within_block walk)
moves_within {V} codec before walk entries ds after key keys here contents end blocks d v others made keeps cut run all =
    let entry : Entry V = record { delta = d.first; value = v.value } in
    let new : Walk V = record walk { current = Some entry; given = walk.given + 1; deltas = d.left } in
    let found : entry_at walk.values walk.given walk.deltas ≡ Some (entry, d.left) =
    ap (λ o. o >>= (λ f. value_at walk.values walk.given >>= (λ x. Some (record { delta = f.0; value = x }, f.1)))) d.at
    ∙ ap (λ o. o >>= (λ x. Some (record { delta = d.first; value = x }, d.left))) v.at in
    let last : last_key here ≡ last_or (Some key) v.others = ap last_key v.is ∙ last_key-first key v.value v.others in
    record {
      new = new;
      is = ap (to_entry walk) found;
      takes = record {
        entry = entry;
        key = key;
        others = v.others ++ entries_of blocks;
        first = all ∙ ap (λ hs. hs ++ entries_of blocks) v.is;
        current = refl;
        made = made;
        keeps = keeps;
        left = of_parts codec (Some key) new (v.others ++ entries_of blocks) (record {
          ds = d.others;
          after = after;
          deltas = d.after;
          keys = keys;
          made = others;
          here = v.others;
          pairs = v.left;
          contents = contents;
          end = end;
          cut = cut;
          blocks = blocks;
          run = ap (λ k. blocks_after codec k contents) (sym last) ∙ run;
          all = refl;
        });
      };
    }

-- The first key of a block, and the others.
record FirstOf (before : Key) (first : Delta) (others : List Delta) (keys : List Key) : Type 0 where
  after : List Key
  is : keys ≡ key_after before first ∷ after
  keeps : (first.keep == 0 || first.keep == shared before (key_after before first)) ≡ true
  left : keys_after (key_after before first) others ≡ Some after

first_of_block : (before : Key) (first : Delta) (others : List Delta) (keys : List Key) → keys_of before (first ∷ others) ≡ Some keys → FirstOf before first others keys
unfolding keys_of
first_of_block before first others keys e =
    let key = key_after before first in
    let kept = bind_some (provided (first.keep == 0 || first.keep == shared before key)) (λ _. keys_after key others >>= (λ after. Some (key ∷ after))) keys e in
    let after = bind_some (keys_after key others) (λ after. Some (key ∷ after)) keys kept.2 in
    record {
      after = after.0;
      is = sym (some_is _ _ after.2);
      keeps = provided-true _ _ kept.1;
      left = after.1;
    }

-- What a block's first key keeps of the key before it.
keeps_one : (keep all : ℕ) → (keep == 0 || keep == all) ≡ true → (keep ≡ 0) ⊎ (keep ≡ all)
keeps_one keep all e = by_test (nat_eq keep 0) refl e
  where
    by_test : (none : Bool) → nat_eq keep 0 ≡ none → (none || nat_eq keep all) ≡ true → (keep ≡ 0) ⊎ (keep ≡ all)
    by_test true t e = inl (eqb-true _ _ t)
    by_test false t e = inr (eqb-true _ _ e)

-- It is made of the last key before, whether the codec goes on from that or not.
first_made : {V : Type 0} (codec : Codec V) (before : Option Key) (first : Delta)
    → (first.keep == 0 || first.keep == shared (key_before codec before) (key_after (key_before codec before) first)) ≡ true
    → (key_after (unwrap_or before []) first ≡ key_after (key_before codec before) first) × ((first.keep ≡ 0) ⊎ (first.keep ≡ shared (unwrap_or before []) (key_after (key_before codec before) first)))
first_made codec before first keeps = by_form codec.goes_on keeps
  where
    by_form : (goes_on : Bool) → (first.keep == 0 || first.keep == shared (cond goes_on (unwrap_or before []) []) (key_after (cond goes_on (unwrap_or before []) []) first)) ≡ true
        → (key_after (unwrap_or before []) first ≡ key_after (cond goes_on (unwrap_or before []) []) first) × ((first.keep ≡ 0) ⊎ (first.keep ≡ shared (unwrap_or before []) (key_after (cond goes_on (unwrap_or before []) []) first)))
    by_form true e = (refl, keeps_one first.keep (shared (unwrap_or before []) (key_after (unwrap_or before []) first)) e)
    by_form false e =
        let none : first.keep ≡ 0 = elim (keeps_one first.keep 0 e) [ inl z ↦ z | inr z ↦ z ] in
        (ap (λ n. take n (unwrap_or before []) ++ first.suffix) none ∙ ap (λ n. take n [] ++ first.suffix) (sym none), inl none)

-- What a step finds of the entries that are left: there is none, or it takes the first.
pub data Outcome {V : Type 0} (codec : Codec V) (before : Option Key) (entries : List (Key × V)) (walk : Walk V) : Type 0 where
  Ended : entries ≡ [] → step codec walk ≡ Ok None → Outcome codec before entries walk
  Moved : (new : Walk V) → step codec walk ≡ Ok (Some new) → TakesFirst codec before entries new → Outcome codec before entries walk

-- the blocks that follow, and the one at their front
record NextBlock {V : Type 0} (codec : Codec V) (before : Option Key) (rest : List ℕ) (contents : List (List ℕ)) (end : List ℕ) (blocks : List (Block V)) : Type 0 where
  content : List ℕ
  after : List ℕ
  others : List (List ℕ)
  at : front_of_blocks rest ≡ Piece content after
  cut : pieces front_of_blocks after ≡ Some (others, end)
  here : List (Key × V)
  block : block_of codec (key_before codec before) content ≡ Some here
  following : List (Block V)
  run : blocks_after codec (last_key here) others ≡ Some following
  all : blocks ≡ record { content = content; entries = here } ∷ following

-- no block, or one at the front
data Blocks {V : Type 0} (codec : Codec V) (before : Option Key) (rest : List ℕ) (contents : List (List ℕ)) (end : List ℕ) (blocks : List (Block V)) : Type 0 where
  NoBlock : front_of_blocks rest ≡ End → blocks ≡ [] → Blocks codec before rest contents end blocks
  OneBlock : NextBlock codec before rest contents end blocks → Blocks codec before rest contents end blocks

next_blocks : {V : Type 0} (codec : Codec V) (before : Option Key) (rest : List ℕ) (contents : List (List ℕ)) (end : List ℕ) (blocks : List (Block V))
    → pieces front_of_blocks rest ≡ Some (contents, end) → blocks_after codec before contents ≡ Some blocks → Blocks codec before rest contents end blocks
unfolding blocks_after
next_blocks {V} codec before rest contents end blocks cut run = by_front (front_of_blocks rest) refl (sym (pieces-step front_of_blocks blocks-shrink rest) ∙ cut)
  where
    parts : {A : Type 0} (x y : List A × List ℕ) → Some x ≡ Some y → (x.0 ≡ y.0) × (x.1 ≡ y.1)
    parts x y e = list_parts x y e

    by_front : (front : Front (List ℕ)) → front_of_blocks rest ≡ front → continued (pieces front_of_blocks) rest front ≡ Some (contents, end) → Blocks codec before rest contents end blocks
    by_front End at e =
        let none : contents ≡ [] = sym (parts ([], rest) (contents, end) e).0 in
        let run' : blocks_after codec before [] ≡ Some blocks = rw none at run in
        NoBlock at (sym (some_is _ _ run'))
    by_front Fault at e = absurd cc
    by_front (Piece content after) at e =
        let step = bind_some (pieces front_of_blocks after) (λ others. Some (content ∷ others.0, others.1)) (contents, end) e in
        let same = parts _ _ step.2 in
        let run' : blocks_after codec before (content ∷ step.0.0) ≡ Some blocks = ap (blocks_after codec before) same.0 ∙ run in
        let block = bind_some (block_of codec (key_before codec before) content) (λ here. provided (may_follow before here) >>= (λ _. blocks_after codec (last_key here) step.0.0 >>= (λ others. Some (record { content = content; entries = here } ∷ others)))) blocks run' in
        let follows = bind_some (provided (may_follow before block.0)) (λ _. blocks_after codec (last_key block.0) step.0.0 >>= (λ others. Some (record { content = content; entries = block.0 } ∷ others))) blocks block.2 in
        let others = bind_some (blocks_after codec (last_key block.0) step.0.0) (λ others. Some (record { content = content; entries = block.0 } ∷ others)) blocks follows.2 in
        OneBlock (record {
          content = content;
          after = after;
          others = step.0.0;
          at = at;
          cut = step.1 ∙ ap (λ e. Some (step.0.0, e)) same.1;
          here = block.0;
          block = block.1;
          following = others.0;
          run = others.1;
          all = sym (some_is _ _ others.2);
        })

values_from-none : {V : Type 0} (values : Values V) → values_from 0 values ≡ values
values_from-none (Listed values) = refl
values_from-none (Everywhere value) = refl

-- a block with no delta has no keys
keys_of-none : (before : Key) → keys_of before [] ≡ None
unfolding keys_of
keys_of-none before = refl

-- A step to the first entry of a block.
moves_to_block : {V : Type 0} (codec : Codec V) (before : Option Key) (walk : Walk V) (entries : List (Key × V)) (contents : List (List ℕ)) (end : List ℕ) (blocks : List (Block V))
    → (b : NextBlock codec before walk.rest contents end blocks) → entries ≡ entries_of blocks
    → Moves codec before entries (to_first (record walk { rest = b.after; place = walk.place + (5 + length b.content) }) (codec.values_of b.content))
unfolding block_of
moves_to_block {V} codec before walk entries contents end blocks b all =
    let p = key_before codec before in
    let values = bind_some (codec.values_of b.content) (λ values. pieces front_of_deltas values.1 >>= (λ deltas. keys_of p deltas.0 >>= (λ keys. paired keys values.0))) b.here b.block in
    let deltas = bind_some (pieces front_of_deltas values.0.1) (λ deltas. keys_of p deltas.0 >>= (λ keys. paired keys values.0.0)) b.here values.2 in
    let keys = bind_some (keys_of p deltas.0.0) (λ keys. paired keys values.0.0) b.here deltas.2 in
    let d = first_delta values.0.1 deltas.0.0 deltas.0.1 deltas.1 (some_delta p deltas.0.0 keys.0 keys.1) in
    let k = first_of_block p d.first d.others keys.0 (ap (keys_of p) (sym d.is) ∙ keys.1) in
    let key = key_after p d.first in
    let pairs : paired (key ∷ k.after) (values_from 0 values.0.0) ≡ Some b.here = ap (paired (key ∷ k.after)) (values_from-none values.0.0) ∙ ap (λ ks. paired ks values.0.0) (sym k.is) ∙ keys.2 in
    let v = first_value key k.after 0 values.0.0 b.here pairs in
    let made = first_made codec before d.first k.keeps in
    let entered : Walk V = record walk { rest = b.after; place = walk.place + (5 + length b.content); values = values.0.0; given = 0; deltas = values.0.1 } in
    let moves = moves_within codec before entered entries deltas.0.0 deltas.0.1 key k.after b.here b.others end b.following d v k.left made.0 made.1 b.cut b.run (all ∙ ap entries_of b.all) in
    record {
      new = moves.new;
      is = ap (to_first (record walk { rest = b.after; place = walk.place + (5 + length b.content) })) values.1 ∙ moves.is;
      takes = moves.takes;
    }
  where
    some_delta : (p : Key) (ds : List Delta) (keys : List Key) → keys_of p ds ≡ Some keys → 0 < length ds
    some_delta p [] keys e = let n = keys_of-none p in absurd cc
    some_delta p (d ∷ ds) keys e = omega arith

keys_after-none : (before : Key) → keys_after before [] ≡ Some []
unfolding keys_after
keys_after-none before = refl

-- What a step finds.
pub outcome : {V : Type 0} (codec : Codec V) (before : Option Key) (walk : Walk V) (entries : List (Key × V)) → entries_left codec before walk ≡ Some entries → Outcome codec before entries walk
outcome {V} codec before walk entries e = by_deltas walk.deltas refl
  where
    p : Parts codec before walk entries
    p = parts_of codec before walk entries e

    onward_is : (bytes : List ℕ) → walk.deltas ≡ bytes → step codec walk ≡ onward codec walk bytes
    onward_is bytes same = ap (onward codec walk) same

    nothing_here : walk.deltas ≡ [] → p.here ≡ []
    nothing_here same =
        let ds : [] ≡ p.ds = (list_parts ([], []) (p.ds, p.after) (sym no_deltas ∙ ap (pieces front_of_deltas) (sym same) ∙ p.deltas)).0 in
        let keys : [] ≡ p.keys = some_is _ _ (sym (keys_after-none (unwrap_or before [])) ∙ ap (keys_after (unwrap_or before [])) ds ∙ p.made) in
        none_paired (values_from walk.given walk.values) p.here (ap (λ ks. paired ks (values_from walk.given walk.values)) keys ∙ p.pairs)

    by_blocks : walk.deltas ≡ [] → entries ≡ entries_of p.blocks → Blocks codec before walk.rest p.contents p.end p.blocks → Outcome codec before entries walk
    by_blocks same all (NoBlock at none) = Ended (all ∙ ap entries_of none) (onward_is [] same ∙ ap (to_block codec walk) (found-end walk.place walk.rest at))
    by_blocks same all (OneBlock b) =
        let m = moves_to_block codec before walk entries p.contents p.end p.blocks b all in
        Moved m.new (onward_is [] same ∙ ap (to_block codec walk) (found-piece walk.place walk.rest b.content b.after b.at) ∙ m.is) m.takes

    by_deltas : (bytes : List ℕ) → walk.deltas ≡ bytes → Outcome codec before entries walk
    by_deltas [] same =
        let none = nothing_here same in
        let run : blocks_after codec before p.contents ≡ Some p.blocks = ap (λ (h : List (Key × V)). blocks_after codec (last_or before h) p.contents) (sym none) ∙ p.run in
        by_blocks same (p.all ∙ ap (λ h. h ++ entries_of p.blocks) none) (next_blocks codec before walk.rest p.contents p.end p.blocks p.cut run)
    by_deltas (b ∷ bytes) same =
        let d = subst (λ bs. FirstDelta bs p.ds p.after) (sym same) (first_of_bytes b bytes p.ds p.after (ap (pieces front_of_deltas) (sym same) ∙ p.deltas)) in
        let k = first_key (unwrap_or before []) d.first d.others p.keys (ap (keys_after (unwrap_or before [])) (sym d.is) ∙ p.made) in
        let key = key_after (unwrap_or before []) d.first in
        let v = first_value key k.after walk.given walk.values p.here (ap (λ ks. paired ks (values_from walk.given walk.values)) (sym k.is) ∙ p.pairs) in
        let last : last_key p.here ≡ last_or before p.here = ap last_key v.is ∙ sym (ap (last_or before) v.is) in
        let run : blocks_after codec (last_key p.here) p.contents ≡ Some p.blocks = ap (λ l. blocks_after codec l p.contents) last ∙ p.run in
        let m = moves_within codec before walk entries p.ds p.after key k.after p.here p.contents p.end p.blocks d v k.left refl (inr k.keeps) p.cut run p.all in
        Moved m.new (onward_is (b ∷ bytes) same ∙ m.is) m.takes

pub step-is : {V : Type 0} (x y : Walk V) → ◌≡◌ {A = Step V} (Ok (Some x)) (Ok (Some y)) → x ≡ y
step-is x y e = cc

none_pairs : {V : Type 0} (one : Option V) → paired [] (values_from 0 (everywhere_or_none one)) ≡ Some []
unfolding paired
none_pairs None = refl
none_pairs (Some value) = refl

-- What is left of a reader that gave nothing yet is the run of its bytes.
pub fresh_left : {V : Type 0} (codec : Codec V) (walk : Walk V) (bytes : List ℕ) (start : ℕ) → IsFresh codec walk bytes start → entries_left codec None walk ≡ run_of codec bytes
unfolding entries_left run_of whole_run_of after_contents after_here after_deltas
fresh_left {V} codec walk bytes start f =
    ap (λ ds. pieces front_of_deltas ds >>= after_deltas codec None walk) f.no_delta
    ∙ ap (λ o. o >>= after_deltas codec None walk) no_deltas
    ∙ ap (λ o. o >>= (λ keys. paired keys (values_from walk.given walk.values) >>= after_here codec None walk.rest)) (keys_after-none [])
    ∙ ap (λ n. paired [] (values_from n walk.values) >>= after_here codec None walk.rest) f.none_given
    ∙ ap (λ vs. paired [] (values_from 0 vs) >>= after_here codec None walk.rest) f.no_value
    ∙ ap (λ o. o >>= after_here codec None walk.rest) (none_pairs codec.everywhere)
    ∙ ap (λ (rest : List ℕ). pieces front_of_blocks rest >>= after_contents codec None []) f.bytes
    ∙ by_contents (pieces front_of_blocks bytes)
  where
    by_blocks : (rest : List ℕ) (found : Option (List (Block V))) → (found >>= (λ blocks. Some (entries_of blocks))) ≡ ((found >>= (λ blocks. Some (record { blocks = blocks; rest = rest }))) >>= (λ (run : Run V). Some (entries_of run.blocks)))
    by_blocks rest None = refl
    by_blocks rest (Some blocks) = refl

    by_contents : (found : Option (List (List ℕ) × List ℕ)) → (found >>= after_contents codec None []) ≡ ((found >>= (λ contents. blocks_after codec None contents.0 >>= (λ blocks. Some (record { blocks = blocks; rest = contents.1 })))) >>= (λ (run : Run V). Some (entries_of run.blocks)))
    by_contents None = refl
    by_contents (Some contents) = by_blocks contents.1 (blocks_after codec None contents.0)

-- What is left where the values of the block are used up and other bytes follow: the run of these, after no key.
pub slice_left : {V : Type 0} (codec : Codec V) (walk : Walk V) (bytes : List ℕ) → walk.deltas ≡ [] → paired [] (values_from walk.given walk.values) ≡ Some [] → walk.rest ≡ bytes
    → entries_left codec None walk ≡ run_of codec bytes
unfolding entries_left run_of whole_run_of after_contents after_here after_deltas
slice_left {V} codec walk bytes no_delta used is =
    ap (λ ds. pieces front_of_deltas ds >>= after_deltas codec None walk) no_delta
    ∙ ap (λ o. o >>= after_deltas codec None walk) no_deltas
    ∙ ap (λ o. o >>= (λ keys. paired keys (values_from walk.given walk.values) >>= after_here codec None walk.rest)) (keys_after-none [])
    ∙ ap (λ o. o >>= after_here codec None walk.rest) used
    ∙ ap (λ (rest : List ℕ). pieces front_of_blocks rest >>= after_contents codec None []) is
    ∙ by_contents (pieces front_of_blocks bytes)
  where
    by_blocks : (rest : List ℕ) (found : Option (List (Block V))) → (found >>= (λ blocks. Some (entries_of blocks))) ≡ ((found >>= (λ blocks. Some (record { blocks = blocks; rest = rest }))) >>= (λ (run : Run V). Some (entries_of run.blocks)))
    by_blocks rest None = refl
    by_blocks rest (Some blocks) = refl

    by_contents : (found : Option (List (List ℕ) × List ℕ)) → (found >>= after_contents codec None []) ≡ ((found >>= (λ contents. blocks_after codec None contents.0 >>= (λ blocks. Some (record { blocks = blocks; rest = contents.1 })))) >>= (λ (run : Run V). Some (entries_of run.blocks)))
    by_contents None = refl
    by_contents (Some contents) = by_blocks contents.1 (blocks_after codec None contents.0)

-- Where entries are left, at the end of a block its values are used up.
pub values_used : {V : Type 0} (codec : Codec V) (before : Option Key) (walk : Walk V) (entries : List (Key × V)) → entries_left codec before walk ≡ Some entries → walk.deltas ≡ [] → paired [] (values_from walk.given walk.values) ≡ Some []
values_used codec before walk entries e same =
    let p = parts_of codec before walk entries e in
    let ds : [] ≡ p.ds = (list_parts ([], []) (p.ds, p.after) (sym no_deltas ∙ ap (pieces front_of_deltas) (sym same) ∙ p.deltas)).0 in
    let keys : [] ≡ p.keys = some_is _ _ (sym (keys_after-none (unwrap_or before [])) ∙ ap (keys_after (unwrap_or before [])) ds ∙ p.made) in
    let pairs : paired [] (values_from walk.given walk.values) ≡ Some p.here = ap (λ ks. paired ks (values_from walk.given walk.values)) keys ∙ p.pairs in
    pairs ∙ ap Some (none_paired (values_from walk.given walk.values) p.here pairs)
