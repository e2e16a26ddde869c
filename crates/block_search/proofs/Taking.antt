-- A step to the first of the entries that were to come.
use Rattle.std.proofs.Common.{◌≡◌, ℕ, List, [], ◌∷◌, unwrap_or, Bool, true, false, Option, Some, Ok, ap, ◌∙◌, subst}
use Rattle.std.specs.Prelude.{◌⊎◌, IfSome}
use Rattle.owned_bytes.specs.Keys.{Key, shared}
use Rattle.sstable_values.specs.Codec.{Codec}
use Rattle.sstable_blocks.specs.Block.{key_after}
use Rattle.sstable_blocks.specs.Entries.{Entry}
unfoldable use Rattle.sstable_blocks.specs.Entries.{entries_left}
use Rattle.sstable_blocks.specs.Slices.{Sliced, unless_final, entries_here, GivesFirst, GivesHere, Stays}

-- A call took the first of these entries, and the others are still to come.
pub record Taken {V : Type 0} (codec : Codec V) (before : Option Key) (entries : List (Key × V)) (new : Sliced V) : Type 0 where
  pub entry : Entry V
  pub key : Key
  pub others : List (Key × V)
  pub first : entries ≡ (key, entry.value) ∷ others
  pub current : new.walk.current ≡ Some entry
  pub made : key_after (unwrap_or before []) entry.delta ≡ key
  pub keeps : (entry.delta.keep ≡ 0) ⊎ (entry.delta.keep ≡ shared (unwrap_or before []) key)
  pub one : new.more ≡ []
  pub left : entries_here codec (Some key) new ≡ Some others

pub taken : {V : Type 0} (codec : Codec V) (before : Option Key) (entries : List (Key × V)) (old new : Sliced V) (more : Bool) → more ≡ true → GivesHere codec old new (Ok more) → Stays new (Ok more)
    → old.more ≡ [] → entries_here codec before old ≡ Some entries → Taken codec before entries new
taken codec before entries old new more is gives stays one left =
    let g = subst (λ (b : Bool). GivesFirst codec before entries new (Ok b)) is (gives before entries one left) in
    let s = subst (λ (b : Bool). Stays new (Ok b)) is stays in
    record {
      entry = g.0.entry;
      key = g.0.key;
      others = g.0.others;
      first = g.0.first;
      current = g.0.current;
      made = g.0.made;
      keeps = g.0.keeps;
      one = g.1;
      left = ap (λ o. unless_final o (entries_left codec (Some g.0.key) new.walk)) s.1 ∙ g.0.left;
    }

-- none was left
pub ended : {V : Type 0} (codec : Codec V) (before : Option Key) (entries : List (Key × V)) (old new : Sliced V) (more : Bool) → more ≡ false → GivesHere codec old new (Ok more)
    → old.more ≡ [] → entries_here codec before old ≡ Some entries → entries ≡ []
ended codec before entries old new more is gives one left =
    subst (λ (b : Bool). GivesFirst codec before entries new (Ok b)) is (gives before entries one left)

-- what the current entry tells of a number of bytes kept, and of the bytes added
pub kept-is : {V : Type 0} (current : Option (Entry V)) (entry : Entry V) (keep : ℕ) → current ≡ Some entry → IfSome current (λ entry. keep ≡ entry.delta.keep) → keep ≡ entry.delta.keep
kept-is current entry keep is told = subst (λ (o : Option (Entry _)). IfSome o (λ entry. keep ≡ entry.delta.keep)) is told

pub added-is : {V : Type 0} (current : Option (Entry V)) (entry : Entry V) (suffix : List ℕ) → current ≡ Some entry → IfSome current (λ entry. suffix ≡ entry.delta.suffix) → suffix ≡ entry.delta.suffix
added-is current entry suffix is told = subst (λ (o : Option (Entry _)). IfSome o (λ entry. suffix ≡ entry.delta.suffix)) is told
