-- A walk to an entry of a number.
use Rattle.std.proofs.Common.{◌≡◌, ℕ, ◌+◌, ◌-◌, ◌<◌, ◌≤◌, List, [], ◌∷◌, ◌++◌, length, take, unwrap_or, Bool, true, false, Option, Some, Ok, refl, ap, sym, ◌∙◌, subst, arith, append_assoc, append-nil, length-append}
use Rattle.std.specs.Prelude.{IfSome}
use Rattle.owned_bytes.specs.Keys.{Key}
use Rattle.sstable_values.specs.Codec.{Codec}
use Rattle.sstable_blocks.specs.Slices.{Sliced, entries_here, GivesHere, Stays}
use Rattle.block_search.specs.ByNumber.{Reaches}
use Rattle.block_search.proofs.Taking.{Taken, taken, ended, kept-is, added-is}

-- So many entries are still to be passed, behind this key.
pub record Skips {V : Type 0} (codec : Codec V) (now : Sliced V) (before number : ℕ) (key : Key) (entries : List (Key × V)) : Type 0 where
  pub last : Option Key
  pub skipped : List (Key × V)
  pub rest : List (Key × V)
  pub last_is : unwrap_or last [] ≡ key
  pub parts : entries ≡ skipped ++ rest
  pub counted : length skipped + before ≡ number
  pub one : now.more ≡ []
  pub left : entries_here codec last now ≡ Some rest

pub skips-begin : {V : Type 0} (codec : Codec V) (now : Sliced V) (number : ℕ) (last : Option Key) (key : Key) (entries : List (Key × V)) → unwrap_or last [] ≡ key → now.more ≡ [] → entries_here codec last now ≡ Some entries
    → Skips codec now number number key entries
skips-begin codec now number last key entries is one left = record { last = last; skipped = []; rest = entries; last_is = is; parts = refl; counted = omega arith; one = one; left = left }

-- the next entry, and its key
pub record Passed {V : Type 0} (codec : Codec V) (new : Sliced V) (before number : ℕ) (key : Key) (entries : List (Key × V)) : Type 0 where
  pub skipped : List (Key × V)
  pub counted : length skipped + before ≡ number
  pub last : Option Key
  pub rest : List (Key × V)
  pub parts : entries ≡ skipped ++ rest
  pub taken : Taken codec last rest new
  pub key_is : taken.key ≡ key

pub passed : {V : Type 0} (codec : Codec V) (old new : Sliced V) (before number : ℕ) (key : Key) (entries : List (Key × V)) (more : Bool) → (s : Skips codec old before number key entries) → more ≡ true → GivesHere codec old new (Ok more)
    → Stays new (Ok more) → (made : Key) × Passed codec new before number made entries
passed codec old new before number key entries more s is gives stays =
    let t = taken codec s.last s.rest old new more is gives stays s.one s.left in
    (t.key, record { skipped = s.skipped; counted = s.counted; last = s.last; rest = s.rest; parts = s.parts; taken = t; key_is = refl })

-- the same with the key that was built
pub passed-key : {V : Type 0} (codec : Codec V) (old new : Sliced V) (before number : ℕ) (key made : Key) (entries : List (Key × V)) (more : Bool) (keep : ℕ) (suffix : List ℕ) → (s : Skips codec old before number key entries) → more ≡ true
    → GivesHere codec old new (Ok more) → Stays new (Ok more) → IfSome new.walk.current (λ entry. keep ≡ entry.delta.keep) → IfSome new.walk.current (λ entry. suffix ≡ entry.delta.suffix)
    → made ≡ take keep key ++ suffix → Passed codec new before number made entries
passed-key codec old new before number key made entries more keep suffix s is gives stays kept added built =
    let t = taken codec s.last s.rest old new more is gives stays s.one s.left in
    let is_keep : keep ≡ t.entry.delta.keep = kept-is new.walk.current t.entry keep t.current kept in
    let is_suffix : suffix ≡ t.entry.delta.suffix = added-is new.walk.current t.entry suffix t.current added in
    let same : made ≡ t.key =
    built ∙ ap (λ n. take n key ++ suffix) is_keep ∙ ap (λ x. take t.entry.delta.keep key ++ x) is_suffix
    ∙ ap (λ k. take t.entry.delta.keep k ++ t.entry.delta.suffix) (sym s.last_is) ∙ t.made in
    record { skipped = s.skipped; counted = s.counted; last = s.last; rest = s.rest; parts = s.parts; taken = t; key_is = sym same }

pub passed-more : {V : Type 0} (codec : Codec V) (new : Sliced V) (before number : ℕ) (key : Key) (entries : List (Key × V)) → Passed codec new before number key entries → 0 < before → Skips codec new (before - 1) number key entries
passed-more {V} codec new before number key entries p some =
    let t = p.taken in
    let this : List (Key × V) = (t.key, t.entry.value) ∷ [] in
    let len : length (p.skipped ++ this) ≡ length p.skipped + 1 = length-append p.skipped this in
    let counted : length p.skipped + before ≡ number = p.counted in
    record {
      last = Some t.key;
      skipped = p.skipped ++ this;
      rest = t.others;
      last_is = p.key_is;
      parts = p.parts ∙ ap (λ es. p.skipped ++ es) t.first ∙ sym (append_assoc p.skipped this t.others);
      counted = omega (arith, len, counted, some);
      one = t.one;
      left = t.left;
    }

pub passed-here : {V : Type 0} (codec : Codec V) (new : Sliced V) (before number : ℕ) (key : Key) (entries : List (Key × V)) → Passed codec new before number key entries → before ≡ 0 → Reaches codec entries number key new
passed-here codec new before number key entries p none =
    let t = p.taken in
    let counted : length p.skipped + before ≡ number = p.counted in
    subst (λ (k : Key). Reaches codec entries number k new) p.key_is (record {
      skipped = p.skipped;
      entry = t.entry;
      others = t.others;
      parts = p.parts ∙ ap (λ es. p.skipped ++ es) t.first;
      counted = omega (arith, counted, none);
      current = t.current;
      one = t.one;
      left = t.left;
    })

pub skips-end : {V : Type 0} (codec : Codec V) (old new : Sliced V) (before number : ℕ) (key : Key) (entries : List (Key × V)) (more : Bool) → Skips codec old before number key entries → more ≡ false → GivesHere codec old new (Ok more)
    → length entries ≤ number
skips-end codec old new before number key entries more s is gives =
    let all : entries ≡ s.skipped = s.parts ∙ ap (λ es. s.skipped ++ es) (ended codec s.last s.rest old new more is gives s.one s.left) ∙ append-nil s.skipped in
    let len : length entries ≡ length s.skipped = ap length all in
    let counted : length s.skipped + before ≡ number = s.counted in
    omega (arith, len, counted)
