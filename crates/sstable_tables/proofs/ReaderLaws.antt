-- What a reader of tables shows after a step of its reader of entries.
use Rattle.std.proofs.Common.{◌≡◌, ℕ, List, ◌∷◌, ◌++◌, take, Some, Ok, Bool, true, false, ap, sym, ◌∙◌, subst}
use Rattle.std.specs.Prelude.{IfSome}
use Rattle.owned_bytes.specs.Keys.{Key}
use Rattle.sstable_values.specs.Codec.{Codec}
use Rattle.sstable_blocks.specs.Entries.{Entry}
unfoldable use Rattle.sstable_blocks.specs.Entries.{entries_left}
use Rattle.sstable_blocks.specs.Slices.{Sliced, unless_final, GivesHere, Stays}
use Rattle.sstable_tables.specs.Reading.{Reads, GivesNext, unless_lost}

-- what is shown by where the reader of entries stands and the key
abbrev shown : {V : Type 0} → Sliced V → Key → Reads V
shown stands key = record { stands = stands; key = key }

gives-true : {V : Type 0} (codec : Codec V) (old new : Sliced V) (key made : Key) (keep : ℕ) (suffix : List ℕ) → GivesHere codec old new (Ok true) → Stays new (Ok true)
    → IfSome new.walk.current (λ entry. keep ≡ entry.delta.keep) → IfSome new.walk.current (λ entry. suffix ≡ entry.delta.suffix) → made ≡ take keep key ++ suffix → GivesNext codec (shown old key) (shown new made) (Ok true)
gives-true codec old new key made keep suffix gives stays keeps adds is = λ entries has.
    let t = gives has.before entries has.one has.left in
    let same_keep : keep ≡ t.0.entry.delta.keep = subst (λ o. IfSome o (λ (entry : Entry _). keep ≡ entry.delta.keep)) t.0.current keeps in
    let same_suffix : suffix ≡ t.0.entry.delta.suffix = subst (λ o. IfSome o (λ (entry : Entry _). suffix ≡ entry.delta.suffix)) t.0.current adds in
    let same_key : made ≡ t.0.key =
    is ∙ ap (λ n. take n key ++ suffix) same_keep ∙ ap (λ bs. take t.0.entry.delta.keep key ++ bs) same_suffix
    ∙ ap (λ k. take t.0.entry.delta.keep k ++ t.0.entry.delta.suffix) (sym has.key) ∙ t.0.made in
    record {
      value = t.0.entry.value;
      others = t.0.others;
      delta = t.0.entry.delta;
      first = t.0.first ∙ ap (λ k. (k, t.0.entry.value) ∷ t.0.others) (sym same_key);
      current = t.0.current;
      left = record {
        before = Some t.0.key;
        key = sym same_key;
        one = t.1;
        left = ap (λ o. unless_final o (entries_left codec (Some t.0.key) new.walk)) stays.1 ∙ t.0.left;
      };
    }

-- the same of a reader that lost no key
pub gives-entry : {V : Type 0} (codec : Codec V) (old new : Sliced V) (key made : Key) (keep : ℕ) (suffix : List ℕ) (lost : Bool) → lost ≡ false → GivesHere codec old new (Ok true) → Stays new (Ok true)
    → IfSome new.walk.current (λ entry. keep ≡ entry.delta.keep) → IfSome new.walk.current (λ entry. suffix ≡ entry.delta.suffix) → made ≡ take keep key ++ suffix
    → GivesNext codec (shown (unless_lost lost old) key) (shown (unless_lost lost new) made) (Ok true)
gives-entry codec old new key made keep suffix lost whole gives stays keeps adds is =
    subst (λ l. GivesNext codec (shown (unless_lost l old) key) (shown (unless_lost l new) made) (Ok true)) (sym whole) (gives-true codec old new key made keep suffix gives stays keeps adds is)
