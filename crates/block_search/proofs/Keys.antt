-- A look-up by a comparator, which sees no key.
use Rattle.std.proofs.Common.{◌≡◌, ℕ, ◌+◌, List, [], ◌∷◌, ◌++◌, take, unwrap_or, Bool, true, false, Option, Some, None, Ok, refl, ap, sym, ◌∙◌, subst, inl, inr, append_assoc, length-append}
use Rattle.std.specs.Prelude.{◌⊎◌, IfSome}
use Rattle.std.specs.Ordering.{ordering_reverse}
use Rattle.std.specs.declared.cmp.Ordering.{Ordering}
use Rattle.std.specs.declared.cmp.Ordering.TheVariants.{Less, Equal, Greater}
use Rattle.std.proofs.lemmas.Bool.{and_parts, and_from}
use Rattle.std.proofs.lemmas.Cmp.{nat_list_cmp_total}
use Rattle.std.proofs.lemmas.List.Elements.{All-append, All-cons, All-nil}
use Rattle.std.proofs.lemmas.Map.Lookups.{exact_bytes}
use Rattle.owned_bytes.specs.Keys.{Key, is_below, is_less, shared}
unfoldable use Rattle.owned_bytes.specs.Keys.{is_rising}
use Rattle.sstable_values.specs.Codec.{Codec}
use Rattle.sstable_blocks.specs.Entries.{Entry}
use Rattle.sstable_blocks.specs.Slices.{Sliced, entries_here, GivesHere, Stays}
use Rattle.sstable_blocks.specs.Comparing.{order, key_from, ComesNext, Follows, Compares, ComparesNext}
use Rattle.block_search.specs.ByKey.{keys_in, HasBelow, IsMissingAt, AtEntryOf}
use Rattle.block_search.proofs.Taking.{Taken, taken, ended, kept-is, added-is}

-- a key, where there is one, and then others
abbrev pub behind_last : Option Key → List Key → List Key
behind_last None keys = keys
behind_last (Some key) keys = key ∷ keys

-- So many entries were given, all with keys below the target, and the others are still to come.
pub record Still {V : Type 0} (codec : Codec V) (now : Sliced V) (matched : ℕ) (target : Key) (count : ℕ) (entries : List (Key × V)) : Type 0 where
  pub last : Option Key
  pub rest : List (Key × V)
  pub has : HasBelow target count rest entries
  pub one : now.more ≡ []
  pub left : entries_here codec last now ≡ Some rest
  pub rising : is_rising (behind_last last (keys_in rest)) ≡ true
  pub follows : Follows matched target (unwrap_or last [])

pub still-begin : {V : Type 0} (codec : Codec V) (now : Sliced V) (matched : ℕ) (target : Key) (entries : List (Key × V)) → Follows matched target [] → now.more ≡ [] → entries_here codec None now ≡ Some entries
    → is_rising (keys_in entries) ≡ true → Still codec now matched target 0 entries
still-begin codec now matched target entries follows one left rising = record {
  last = None;
  rest = entries;
  has = record { below = []; parts = refl; counted = refl; under = All-nil (λ entry. is_below entry.0 target ≡ true) };
  one = one;
  left = left;
  rising = rising;
  follows = follows;
}

-- the next key comes after the last one
comes-next : (last : Option Key) (keep : ℕ) (suffix key : List ℕ) (keys : List Key) → key_from (unwrap_or last []) keep suffix ≡ key → (keep ≡ 0) ⊎ (keep ≡ shared (unwrap_or last []) key)
    → is_rising (behind_last last (key ∷ keys)) ≡ true → ComesNext (unwrap_or last []) keep suffix
unfolding is_rising
comes-next last keep suffix key keys made (inl zero) rising = inl zero
comes-next None keep suffix key keys made (inr all) rising = inl all
comes-next (Some before) keep suffix key keys made (inr all) rising =
    inr (record { above = ap (is_below before) made ∙ (and_parts (is_below before key) (is_rising (key ∷ keys)) rising).0; keeps = all ∙ ap (shared before) (sym made) })

rising-behind : (last : Option Key) (key : Key) (keys : List Key) → is_rising (behind_last last (key ∷ keys)) ≡ true → is_rising (key ∷ keys) ≡ true
unfolding is_rising
rising-behind None key keys e = e
rising-behind (Some before) key keys e = (and_parts (is_below before key) (is_rising (key ∷ keys)) e).1

-- the next entry was compared
pub record Looked {V : Type 0} (codec : Codec V) (new : Sliced V) (target : Key) (count : ℕ) (entries : List (Key × V)) (answer : Ordering) (matched : ℕ) : Type 0 where
  pub entry : Entry V
  pub key : Key
  pub others : List (Key × V)
  pub has : HasBelow target count ((key, entry.value) ∷ others) entries
  pub current : new.walk.current ≡ Some entry
  pub one : new.more ≡ []
  pub left : entries_here codec (Some key) new ≡ Some others
  pub rising : is_rising (key ∷ keys_in others) ≡ true
  pub compared : Compares target key answer matched

has-same : {V : Type 0} (target : Key) (count : ℕ) (rest new entries : List (Key × V)) → HasBelow target count rest entries → rest ≡ new → HasBelow target count new entries
has-same target count rest new entries has is = record { below = has.below; parts = has.parts ∙ ap (λ es. has.below ++ es) is; counted = has.counted; under = has.under }

looked : {V : Type 0} (codec : Codec V) (old new : Sliced V) (target : Key) (count : ℕ) (entries : List (Key × V)) (matched after keep : ℕ) (suffix : List ℕ) (answer : Ordering)
    → (s : Still codec old matched target count entries) → (t : Taken codec s.last s.rest new) → keep ≡ t.entry.delta.keep → suffix ≡ t.entry.delta.suffix
    → ComparesNext matched after target keep suffix answer → Looked codec new target count entries answer after
looked codec old new target count entries matched after keep suffix answer s t is_keep is_suffix compared =
    let made : key_from (unwrap_or s.last []) keep suffix ≡ t.key = ap (λ n. take n (unwrap_or s.last []) ++ suffix) is_keep ∙ ap (λ x. take t.entry.delta.keep (unwrap_or s.last []) ++ x) is_suffix ∙ t.made in
    let keeps : (keep ≡ 0) ⊎ (keep ≡ shared (unwrap_or s.last []) t.key) = subst (λ n. (n ≡ 0) ⊎ (n ≡ shared (unwrap_or s.last []) t.key)) (sym is_keep) t.keeps in
    let rising : is_rising (behind_last s.last (t.key ∷ keys_in t.others)) ≡ true = ap (λ es. is_rising (behind_last s.last (keys_in es))) (sym t.first) ∙ s.rising in
    record {
      entry = t.entry;
      key = t.key;
      others = t.others;
      has = has-same target count s.rest ((t.key, t.entry.value) ∷ t.others) entries s.has t.first;
      current = t.current;
      one = t.one;
      left = t.left;
      rising = rising-behind s.last t.key (keys_in t.others) rising;
      compared = subst (λ k. Compares target k answer after) made (compared (unwrap_or s.last []) s.follows (comes-next s.last keep suffix t.key (keys_in t.others) made keeps rising));
    }

-- the same of what the calls say
pub looked-at : {V : Type 0} (codec : Codec V) (old new : Sliced V) (target : Key) (count : ℕ) (entries : List (Key × V)) (matched after keep : ℕ) (suffix : List ℕ) (answer : Ordering) (more : Bool)
    → Still codec old matched target count entries → more ≡ true → GivesHere codec old new (Ok more) → Stays new (Ok more)
    → IfSome new.walk.current (λ entry. keep ≡ entry.delta.keep) → IfSome new.walk.current (λ entry. suffix ≡ entry.delta.suffix)
    → ComparesNext matched after target keep suffix answer → Looked codec new target count entries answer after
looked-at codec old new target count entries matched after keep suffix answer more s is gives stays kept added compared =
    let t = taken codec s.last s.rest old new more is gives stays s.one s.left in
    looked codec old new target count entries matched after keep suffix answer s t (kept-is new.walk.current t.entry keep t.current kept) (added-is new.walk.current t.entry suffix t.current added) compared

pub looked-less : {V : Type 0} (codec : Codec V) (new : Sliced V) (target : Key) (count : ℕ) (entries : List (Key × V)) (matched : ℕ) → Looked codec new target count entries Less matched
    → Still codec new matched target (count + 1) entries
looked-less {V} codec new target count entries matched l =
    let this : List (Key × V) = (l.key, l.entry.value) ∷ [] in
    let below : is_below l.key target ≡ true = ap is_less (sym l.compared.right) in
    record {
      last = Some l.key;
      rest = l.others;
      has = record {
        below = l.has.below ++ this;
        parts = l.has.parts ∙ sym (append_assoc l.has.below this l.others);
        counted = length-append l.has.below this ∙ ap (λ n. n + 1) l.has.counted;
        under = All-append (λ entry. is_below entry.0 target ≡ true) l.has.below this l.has.under
            (All-cons (λ entry. is_below entry.0 target ≡ true) (l.key, l.entry.value) [] below (All-nil (λ entry. is_below entry.0 target ≡ true)));
      };
      one = l.one;
      left = l.left;
      rising = l.rising;
      follows = l.compared.follows (λ e. cc);
    }

pub looked-equal : {V : Type 0} (codec : Codec V) (new : Sliced V) (target : Key) (count : ℕ) (entries : List (Key × V)) (matched : ℕ) → Looked codec new target count entries Equal matched → AtEntryOf target count entries new
looked-equal codec new target count entries matched l =
    let same : l.key ≡ target = exact_bytes l.key target (sym l.compared.right) in
    (l.entry, l.current, (l.others, subst (λ (k : Key). HasBelow target count ((k, l.entry.value) ∷ l.others) entries) same l.has))

pub looked-greater : {V : Type 0} (codec : Codec V) (new : Sliced V) (target : Key) (count : ℕ) (entries : List (Key × V)) (matched : ℕ) → Looked codec new target count entries Greater matched → IsMissingAt target count entries
unfolding is_rising
looked-greater codec new target count entries matched l =
    let above : order target l.key ≡ Less = nat_list_cmp_total.antisymm target l.key ∙ ap ordering_reverse (sym l.compared.right) in
    ((l.key, l.entry.value) ∷ l.others, l.has, and_from (is_below target l.key) (is_rising (l.key ∷ keys_in l.others)) (ap is_less above) l.rising)

alone : (key : Key) → is_rising (key ∷ []) ≡ true
unfolding is_rising
alone key = refl

pub still-end : {V : Type 0} (codec : Codec V) (old new : Sliced V) (matched : ℕ) (target : Key) (count : ℕ) (entries : List (Key × V)) (more : Bool) → Still codec old matched target count entries → more ≡ false
    → GivesHere codec old new (Ok more) → IsMissingAt target count entries
still-end codec old new matched target count entries more s is gives =
    ([], has-same target count s.rest [] entries s.has (ended codec s.last s.rest old new more is gives s.one s.left), alone target)
