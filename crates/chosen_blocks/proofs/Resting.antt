-- What is left of the chosen blocks, block by block.
use Rattle.std.proofs.Common.{◌≡◌, ℕ, suc, ◌+◌, ◌<◌, ◌≤◌, List, [], ◌∷◌, length, drop, Bool, true, false, cond, Option, Some, None, refl, ap, sym, ◌∙◌, subst, arith, rules, zero, add-one}
use Rattle.std.specs.Prelude.{slice_get, option_map, IfSome}
use Rattle.std.specs.Iterator.{MakesProgress, item_count}
use Rattle.std.proofs.lemmas.Bool.{cond-true, cond-false}
use Rattle.std.proofs.lemmas.List.{drop_all}
use Rattle.std.proofs.lemmas.Option.{get_or_from_slice_get, slice_get_within}
use Rattle.std.proofs.Math.Seq.{drop-cons}
use Rattle.owned_bytes.specs.Keys.{Key}
use Rattle.fst_map.specs.Automaton.{Machine}
use Rattle.fst_map.specs.Within.{may_take_within}
use Rattle.chosen_blocks.specs.Chosen.{IndexOf, key_before}
unfoldable use Rattle.chosen_blocks.specs.Chosen.{chosen_from}
use Rattle.chosen_blocks.specs.Blocks.{rest_from, TellsNeeded, IsFound}

-- the block at a number, and those behind it
dropped : {A : Type 0} (index : IndexOf A) (number : ℕ) (block : Key × A) → slice_get index number ≡ Some block → drop number index ≡ block ∷ drop (suc number) index
dropped index number block at =
    drop-cons index number block (slice_get_within index number block at) ∙ ap (λ b. b ∷ drop (suc number) index) (get_or_from_slice_get index number block block at)

rest-step : {S A : Type 0} (machine : Machine S) (index : IndexOf A) (number : ℕ) (block : Key × A) → slice_get index number ≡ Some block
    → rest_from machine index number ≡ cond (may_take_within machine (key_before None index number) block.0) ((number, block.1) ∷ rest_from machine index (number + 1)) (rest_from machine index (number + 1))
unfolding chosen_from
rest-step {S} {A} machine index number block at =
    ap (chosen_from test number before) (dropped index number block at)
    ∙ ap (λ rest. cond (test before block.0) ((number, block.1) ∷ rest) rest) (sym next)
  where
    test : Option Key → Key → Bool
    test = may_take_within machine

    before : Option Key
    before = key_before None index number

    next : rest_from machine index (number + 1) ≡ chosen_from (may_take_within machine) (number + 1) (Some block.0) (drop (suc number) index)
    next =
        ap (λ n. chosen_from (may_take_within machine) (number + 1) (key_before None index n) (drop n index)) (add-one number)
        ∙ ap (λ key. chosen_from (may_take_within machine) (number + 1) key (drop (suc number) index)) (ap (option_map (λ (b : Key × A). b.0)) at)

at_block : {A : Type 0} (index : IndexOf A) (number : ℕ) → number < length index → (block : Key × A) × (slice_get index number ≡ Some block)
at_block [] number within = absurd (omega arith)
at_block (block ∷ index) zero within = (block, refl)
at_block (block ∷ index) (suc number) within = at_block index number (omega arith)

-- a block that isn't needed
pub rest-on : {S A : Type 0} (machine : Machine S) (index : IndexOf A) (from number : ℕ) (answer : Bool) → number < length index → TellsNeeded machine index number answer → answer ≡ false
    → rest_from machine index from ≡ rest_from machine index number → rest_from machine index from ≡ rest_from machine index (number + 1)
rest-on {S} {A} machine index from number answer within tells is so_far =
    let here = at_block index number within in
    let told = subst (λ (o : Option (Key × A)). IfSome o (λ block. answer ≡ may_take_within machine (key_before None index number) block.0)) here.1 tells in
    so_far ∙ rest-step machine index number here.0 here.1
    ∙ cond-false (may_take_within machine (key_before None index number) here.0.0) ((number, here.0.1) ∷ rest_from machine index (number + 1)) (rest_from machine index (number + 1)) (sym told ∙ is)

-- a block that is needed
pub rest-found : {S A : Type 0} (machine : Machine S) (index : IndexOf A) (from number : ℕ) (answer : Bool) → number < length index → TellsNeeded machine index number answer → answer ≡ true
    → rest_from machine index from ≡ rest_from machine index number → IsFound machine index from number
rest-found {S} {A} machine index from number answer within tells is so_far =
    let here = at_block index number within in
    let told = subst (λ (o : Option (Key × A)). IfSome o (λ block. answer ≡ may_take_within machine (key_before None index number) block.0)) here.1 tells in
    record {
      within = within;
      first = subst (λ (o : Option (Key × A)). IfSome o (λ block. rest_from machine index from ≡ (number, block.1) ∷ rest_from machine index (number + 1))) (sym here.1)
          (so_far ∙ rest-step machine index number here.0 here.1
          ∙ cond-true (may_take_within machine (key_before None index number) here.0.0) ((number, here.0.1) ∷ rest_from machine index (number + 1)) (rest_from machine index (number + 1)) (sym told ∙ is));
    }

-- behind the last block nothing is left
pub rest-end : {S A : Type 0} (machine : Machine S) (index : IndexOf A) (number : ℕ) → length index ≤ number → rest_from machine index number ≡ []
unfolding chosen_from
rest-end machine index number past = ap (chosen_from (may_take_within machine) number (key_before None index number)) (drop_all number index past)

-- the first of the blocks that are left, at its address
pub rest-taken : {S A : Type 0} (machine : Machine S) (index : IndexOf A) (from number : ℕ) (address : A) → IsFound machine index from number → IfSome (slice_get index number) (λ block. address ≡ block.1)
    → rest_from machine index from ≡ (number, address) ∷ rest_from machine index (number + 1)
rest-taken {S} {A} machine index from number address found is =
    let here = at_block index number found.within in
    let first = subst (λ (o : Option (Key × A)). IfSome o (λ block. rest_from machine index from ≡ (number, block.1) ∷ rest_from machine index (number + 1))) here.1 found.first in
    let told = subst (λ (o : Option (Key × A)). IfSome o (λ block. address ≡ block.1)) here.1 is in
    first ∙ ap (λ a. (number, a) ∷ rest_from machine index (number + 1)) (sym told)

-- one fewer is left then
pub goes : {X : Type 0} (can : List X → Type 0) (old new : List X) (x : X) → can new → old ≡ x ∷ new → MakesProgress can (item_count (λ (left : List X). left)) old (Some x) new
goes {X} can old new x may e =
    subst (λ (o : List X). MakesProgress can (item_count (λ (left : List X). left)) o (Some x) new) (sym e)
    (record { on = λ finite. (may, search rules, search rules); keeps = may; rests = λ finite. tt })
