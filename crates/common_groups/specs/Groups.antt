-- What the calls on groups take from their source, and which items are of a group.
use Rattle.std.specs.Prelude.{◌≡◌, ◌+◌, ◌≤◌, Bool, true, false, List, [], ◌++◌, Option, None, MatchBool, MatchOption, ⊤, option_to_list}
use Rattle.std.specs.Option.{option_map, option_len}
use Rattle.std.specs.Iterator.{Yields, Count, IsFinite, size, count_map, count_unless, ActsAsAt}
use Rattle.std.specs.Borrow.{Bor}
use denote.Param.Members.{Mut}
use Rattle.common_groups.specs.declared.groups.GroupByIterator.{GroupByIterator}

-- calls of the source gave these items, and None where it has ended since
abbrev pub ReadFrom : {I A : Type 0} → (I → Option A → I → Type 0) → Bool → I → List A → Bool → I → Type 0
ReadFrom steps true i xs ended j = (xs ≡ []) × (ended ≡ true) × (i ≡ j)
ReadFrom {I} steps false i xs ended j = (u : I) × Yields steps i xs u × MatchBool ended (steps u None j) (u ≡ j)

module _ {I F K A : Type 0} where
  abbrev pub source : GroupByIterator I F K A → I
  source s = s.items

  -- the source has given None, and is called no more
  abbrev pub has_ended : GroupByIterator I F K A → Bool
  has_ended s = s.ended

  abbrev pub key_of : GroupByIterator I F K A → F
  key_of s = s.key

  -- the item that was read already, with its key
  abbrev pub held : GroupByIterator I F K A → Option (K × A)
  held s = s.held

  abbrev pub held_key : GroupByIterator I F K A → Option K
  held_key s = option_map (λ p. p.0) (held s)

  abbrev pub held_items : GroupByIterator I F K A → List A
  held_items s = option_to_list (option_map (λ p. p.1) (held s))

  -- it is known which item is next, or that there is none
  abbrev pub IsReady : GroupByIterator I F K A → Type 0
  IsReady s = MatchOption (held s) (has_ended s ≡ true) (λ p. ⊤)

  -- nothing is left
  abbrev pub IsOver : GroupByIterator I F K A → Type 0
  IsOver s = MatchOption (held s) (has_ended s ≡ true) (λ p. ⊥)

  -- the group of this key has ended: nothing is left, or the next item has another key
  abbrev pub GroupIsOver : (K → K → Bool) → K → GroupByIterator I F K A → Type 0
  GroupIsOver eq k s = MatchOption (held s) (has_ended s ≡ true) (λ p. eq k p.0 ≡ false)

  -- the key function gives what h gives, and gave the key of the item that was read already
  pub record KeysAre (g : Mut F (Bor A × Unit {0}) K) (h : A → K) (s : GroupByIterator I F K A) : Type 0 where
    pub acts : ActsAsAt g (key_of s) h
    pub held_is : MatchOption (held s) ⊤ (λ p. p.0 ≡ h p.1)

  -- From one state to another these items were given, in the order of the source and none left out.
  pub record Gives (steps : I → Option A → I → Type 0) (s : GroupByIterator I F K A) (xs : List A) (t : GroupByIterator I F K A) : Type 0 where
    pub read : List A
    pub reads : ReadFrom steps (has_ended s) (source s) read (has_ended t) (source t)
    pub given : held_items s ++ read ≡ xs ++ held_items t

  module _ (can : I → Type 0) (callable : F → Type 0) where
    -- its source and its key function may be called
    pub record CanRead (s : GroupByIterator I F K A) : Type 0 where
      pub next : has_ended s ≡ false → can (source s)
      pub key : callable (key_of s)

  -- how many items are left at most
  abbrev pub items_left : (I → Count) → GroupByIterator I F K A → Count
  items_left left s = count_map (λ n. n + option_len (held s)) (count_unless (has_ended s) (left (source s)))

  -- no more items are left than before
  abbrev pub KeepsLeft : (I → Count) → GroupByIterator I F K A → GroupByIterator I F K A → Type 0
  KeepsLeft left s t = IsFinite (items_left left s) → IsFinite (items_left left t) × (size (items_left left t) ≤ size (items_left left s))

  -- without the item that was read already
  abbrev pub without_held : GroupByIterator I F K A → GroupByIterator I F K A
  without_held s = record s { held = None }

  module _ (can : I → Type 0) (callable : F → Type 0) (left : I → Count) (steps : I → Option A → I → Type 0) (g : Mut F (Bor A × Unit {0}) K) where
    -- The next item is read and held, and r is its key, or None where no item is left. Nothing is given, and where it is
    -- known already what is next, nothing is read.
    pub record Fills (s : GroupByIterator I F K A) (r : Option K) (t : GroupByIterator I F K A) : Type 0 where
      pub can_read : CanRead can callable t
      pub gives : Gives steps s [] t
      pub keys : (h : A → K) → KeysAre g h s → KeysAre g h t
      pub key : held_key t ≡ r
      pub ready : IsReady t
      pub stays : IsReady s → t ≡ s
      pub kept : KeepsLeft left s t

    -- no item is left: reading found none
    abbrev pub IsLast : GroupByIterator I F K A → Type 0
    IsLast s = (t : GroupByIterator I F K A) × Fills s None t
