-- Runs of equal keys, and groups that are each read to their end.
use Rattle.std.specs.Prelude.{◌≡◌, Bool, true, false, List, [], ◌∷◌, ◌++◌, Option, None, Some, ⊤}
use Rattle.std.specs.List.{All}
use Rattle.std.specs.Iterator.{Count, Drains}
use Rattle.std.specs.Borrow.{Bor}
use denote.Param.Members.{Mut}
use Rattle.common_groups.specs.declared.groups.GroupByIterator.{GroupByIterator}
use Rattle.common_groups.specs.Groups.{IsOver, KeysAre, Gives, Fills, IsLast, held, has_ended, source}
use Rattle.common_groups.specs.Steps.{CallsGroup}

-- the items of groups, one after the other
abbrev pub all_items : {K A : Type 0} → List (K × List A) → List A
all_items [] = []
all_items (g ∷ gs) = g.1 ++ all_items gs

module _ {K A : Type 0} (eq : K → K → Bool) (h : A → K) where
  -- one item at least, whose key is k, and all others' keys are equal to it
  abbrev pub IsRun : K → List A → Type 0
  IsRun k [] = ⊥
  IsRun k (x ∷ xs) = (h x ≡ k) × All (λ y. eq k (h y) ≡ true) xs

  -- the next group has another key
  abbrev pub IsLongest : K → List (K × List A) → Type 0
  IsLongest k [] = ⊤
  IsLongest k (g ∷ gs) = eq k g.0 ≡ false

  -- Each group is a run of items with equal keys, and the one after it has another key: they are the maximal runs.
  abbrev pub AreRuns : List (K × List A) → Type 0
  AreRuns [] = ⊤
  AreRuns (g ∷ gs) = IsRun g.0 g.1 × IsLongest g.0 gs × AreRuns gs

module _ {I F K A : Type 0} (steps : I → Option A → I → Type 0) where
  -- these items were given until the source had no more
  abbrev pub GivesAll : GroupByIterator I F K A → List A → Type 0
  GivesAll s xs = (t : GroupByIterator I F K A) × Gives steps s xs t × IsOver t

  -- where nothing was read before, what is given until the source has no more is what the source gives
  abbrev pub GivesItsSource : GroupByIterator I F K A → Type 0
  GivesItsSource s = (xs : List A) → held s ≡ None → has_ended s ≡ false → GivesAll s xs → Drains steps (source s) xs

module _ {I F K A : Type 0} (steps : I → Option A → I → Type 0) (g : Mut F (Bor A × Unit {0}) K) (eq : K → K → Bool) where
  -- the group of this key was read to its end, and gave these items
  abbrev pub ReadsGroup : K → GroupByIterator I F K A → List A → GroupByIterator I F K A → Type 0
  ReadsGroup k s [] t = CallsGroup steps g eq k s None t
  ReadsGroup k s (x ∷ xs) t = (u : GroupByIterator I F K A) × CallsGroup steps g eq k s (Some x) u × ReadsGroup k u xs t

module _ {I F K A : Type 0} (can : I → Type 0) (callable : F → Type 0) (left : I → Count) (steps : I → Option A → I → Type 0) (g : Mut F (Bor A × Unit {0}) K) (eq : K → K → Bool) where
  -- each group was read to its end, until there was none: these were their keys and items
  abbrev pub ReadsGroups : GroupByIterator I F K A → List (K × List A) → Type 0
  ReadsGroups s [] = IsLast can callable left steps g s
  ReadsGroups s (group ∷ gs) = (t u : GroupByIterator I F K A) × Fills can callable left steps g s (Some group.0) t × ReadsGroup steps g eq group.0 t group.1 u × ReadsGroups u gs

  -- Where the key depends on the item alone, groups that are each read to their end, until there is none, are the maximal
  -- runs, and their items are all that were given.
  abbrev pub GroupsAreRuns : GroupByIterator I F K A → Type 0
  GroupsAreRuns s = (gs : List (K × List A)) (h : A → K) → KeysAre g h s → ReadsGroups s gs → AreRuns eq h gs × GivesAll steps s (all_items gs)
