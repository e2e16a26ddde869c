-- The calls on the items of a group.
use Rattle.std.specs.Prelude.{◌≡◌, Bool, true, Option, None, Some, IfSome, IfNone, option_to_list}
use Rattle.std.specs.Iterator.{Count}
use Rattle.std.specs.Borrow.{Bor, MutBor, GName}
use denote.Param.Members.{Mut}
use Rattle.common_groups.specs.declared.groups.GroupByIterator.{GroupByIterator}
use Rattle.common_groups.specs.declared.groups.GroupIterator.{GroupIterator}
use Rattle.common_groups.specs.Groups.{GroupIsOver, KeysAre, Gives, Fills, CanRead, items_left}

module _ {I F K A : Type 0} (steps : I → Option A → I → Type 0) (g : Mut F (Bor A × Unit {0}) K) (eq : K → K → Bool) where
  -- A call on the group of this key gives the next item of the source where its key is the group's, and else None, then and for good.
  pub record CallsGroup (k : K) (s : GroupByIterator I F K A) (r : Option A) (t : GroupByIterator I F K A) : Type 0 where
    pub gives : Gives steps s (option_to_list r) t
    pub keys : (h : A → K) → KeysAre g h s → KeysAre g h t
    pub of_group : (h : A → K) → KeysAre g h s → IfSome r (λ x. eq k (h x) ≡ true)
    pub over : IfNone r (GroupIsOver eq k t)
    pub stays : GroupIsOver eq k s → (r ≡ None) × (t ≡ s)

module _ {I F K A : Type 0} where
  -- the groups that a group is one of
  abbrev pub groups_ref : GroupIterator I F K A → MutBor (GroupByIterator I F K A)
  groups_ref s = s.groups

  abbrev pub groups_name : K × GroupIterator I F K A → GName
  groups_name p = (groups_ref p.1).ghost_name

  abbrev pub groups : GroupIterator I F K A → GroupByIterator I F K A
  groups s = (groups_ref s).now

  abbrev pub group_key : GroupIterator I F K A → K
  group_key s = s.key

  module _ (can : I → Type 0) (callable : F → Type 0) (left : I → Count) (steps : I → Option A → I → Type 0) (g : Mut F (Bor A × Unit {0}) K) where
    -- a key and the group of it: the next item is read and held, and has this key
    abbrev pub Begins : GroupByIterator I F K A → K × GroupIterator I F K A → Type 0
    Begins s p = Fills can callable left steps g s (Some p.0) (groups p.1)

  abbrev pub group_can : (I → Type 0) → (F → Type 0) → GroupIterator I F K A → Type 0
  group_can can callable s = CanRead can callable (groups s)

  abbrev pub group_left : (I → Count) → GroupIterator I F K A → Count
  group_left left s = items_left left (groups s)

  module _ (steps : I → Option A → I → Type 0) (g : Mut F (Bor A × Unit {0}) K) (eq : K → K → Bool) where
    pub record group_steps (s : GroupIterator I F K A) (r : Option A) (t : GroupIterator I F K A) : Type 0 where
      pub same_reference : (groups_ref t).ghost_name ≡ (groups_ref s).ghost_name
      pub key : group_key t ≡ group_key s
      pub call : CallsGroup steps g eq (group_key s) (groups s) r (groups t)
