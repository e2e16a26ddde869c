-- Steps from one entry to the next, and which entries are looked for.
use Rattle.std.proofs.Common.{◌≡◌, ℕ, ◌+◌, ◌^◌, ◌<◌, List, [], ◌∷◌, ◌++◌, map, take, unwrap_or, Bool, true, false, Option, Some, None, refl, ap, sym, ◌∙◌, subst, arith, ◌⊎◌}
use Rattle.std.specs.Prelude.{◌&&◌, not, Ok, IfSome, SomeIff}
use Rattle.std.proofs.lemmas.Bool.{and_parts, cond-true, cond-false, true≢false}
use Rattle.std.proofs.lemmas.Cmp.{nat_list_cmp_total}
use Rattle.std.specs.declared.cmp.Ordering.{Ordering}
use Rattle.std.specs.declared.cmp.Ordering.TheVariants.{Less, Equal, Greater}
use Rattle.std.specs.declared.ops.Bound.{Bound}
use Rattle.std.specs.declared.ops.Bound.TheVariants.{Included, Excluded, Unbounded}
use Rattle.owned_bytes.specs.Keys.{Key, is_below, is_less, shared}
unfoldable use Rattle.owned_bytes.specs.Keys.{is_rising}
use Rattle.fst_map.specs.Automaton.{Machine, takes}
use Rattle.sstable_blocks.specs.Placed.{Placed}
use Rattle.sstable_blocks.specs.Entries.{Entry}
use Rattle.sstable_blocks.specs.Slices.{Sliced, TakesPlaced, position, entries_over}
use Rattle.sstable_streams.specs.Between.{is_above_lower, is_below_upper}
use Rattle.sstable_streams.specs.Knowing.{Known, Knows, LooksForSame, ComesBehind, is_behind, next_key, is_chosen}
use Rattle.sstable_streams.specs.Streams.{Place, Current, HasLeft, IsLeft, IsTaken, key_of, wanted, rises_behind, shown_entry}
unfoldable use Rattle.sstable_streams.specs.Streams.{chosen}
use Rattle.sstable_streams.specs.Steps.{next_of, current_of, IsNext, StepsTo}

-- the first of keys that rise lies behind the last one, and the others rise from there on
risen : (last : Option Key) (key : Key) (keys : List Key) → rises_behind last (key ∷ keys) ≡ true → (is_behind last key ≡ true) × (is_rising (key ∷ keys) ≡ true)
unfolding is_rising
risen None key keys e = (refl, e)
risen (Some last) key keys e = and_parts (is_below last key) (is_rising (key ∷ keys)) e

-- the position after one that was taken
next-is : (ord : ℕ) (next : Option ℕ) → ord < 2 ^ 64 → SomeIff next (ord + 1 < 2 ^ 64) (ord + 1) → next_of next ≡ ord + 1
next-is ord (Some n) small h = grind (arith, small, h)
next-is ord None small h = grind (arith, small, h)

-- A step that read the first entry, took its position, went to its key, and counted on.
pub steps : {V S : Type 0} (place : Place V S) (known : Known S) (last : Option Key) (entries : List (Placed V)) (new taken : Sliced V) (ord keep : ℕ) (suffix : List ℕ) (after : Option ℕ)
    → HasLeft place last entries → TakesPlaced place.codec last place.next entries new → taken ≡ record new { ordinal = None } → ord ≡ position new.ordinal place.next
    → IfSome taken.walk.current (λ entry. keep ≡ entry.delta.keep) → IfSome taken.walk.current (λ entry. suffix ≡ entry.delta.suffix)
    → ((before : Option Key) → Knows place.known (unwrap_or before []) → ComesBehind before keep suffix → Knows known (next_key before keep suffix)) → SomeIff after (ord + 1 < 2 ^ 64) (ord + 1)
    → IsNext entries (current_of ord known.kept taken.walk.current) (record { codec = place.codec; known = known; reader = taken; next = next_of after })
steps {V} {S} place known last entries new taken ord keep suffix after has t is_taken is_ord kept added follows counted =
    let is_current : taken.walk.current ≡ Some t.entry = ap (λ (s : Sliced V). s.walk.current) is_taken ∙ t.current in
    let is_keep : keep ≡ t.entry.delta.keep = subst (λ (o : Option (Entry V)). IfSome o (λ entry. keep ≡ entry.delta.keep)) is_current kept in
    let is_suffix : suffix ≡ t.entry.delta.suffix = subst (λ (o : Option (Entry V)). IfSome o (λ entry. suffix ≡ entry.delta.suffix)) is_current added in
    let is_key : next_key last keep suffix ≡ t.key =
    ap (λ n. take n (unwrap_or last []) ++ suffix) is_keep ∙ ap (λ s. take t.entry.delta.keep (unwrap_or last []) ++ s) is_suffix ∙ t.made in
    let up = risen last t.key (map key_of t.others) (ap (λ ps. rises_behind last (map key_of ps)) (sym t.first) ∙ has.rising) in
    let comes : ComesBehind last keep suffix = record {
      above = ap (is_behind last) is_key ∙ up.0;
      keeps = subst (λ (key : Key). (keep ≡ 0) ⊎ (keep ≡ shared (unwrap_or last []) key)) (sym is_key) (subst (λ (n : ℕ). (n ≡ 0) ⊎ (n ≡ shared (unwrap_or last []) t.key)) (sym is_keep) t.keeps);
    } in
    let small : ord < 2 ^ 64 = subst (λ n. n < 2 ^ 64) (sym is_ord) t.small in
    let is_next : next_of after ≡ position new.ordinal place.next + 1 = next-is ord after small counted ∙ ap (λ n. n + 1) is_ord in
    record {
      entry = (position new.ordinal place.next, (t.key, t.entry.value));
      others = t.others;
      first = t.first;
      current = ap (current_of ord known.kept) is_current ∙ ap (λ (n : ℕ). Some (shown_entry known.kept (n, (t.key, t.entry.value)))) is_ord;
      left = record {
        knows = subst (Knows known) is_key (follows last has.knows comes);
        left = ap (λ n. entries_over place.codec (Some t.key) n taken) is_next ∙ ap (entries_over place.codec (Some t.key) (position new.ordinal place.next + 1)) is_taken ∙ t.left;
        rising = up.1;
      };
    }

less-is : (o : Ordering) → is_less o ≡ true → o ≡ Less
less-is Less e = refl
less-is Equal e = absurd cc
less-is Greater e = absurd cc

below-trans : (a b c : Key) → is_below a b ≡ true → is_below b c ≡ true → is_below a c ≡ true
below-trans a b c e f = ap is_less (nat_list_cmp_total.trans a b c (less-is _ e) (less-is _ f))

not-false : (b : Bool) → not b ≡ false → b ≡ true
not-false true e = refl
not-false false e = absurd (true≢false e)

not-true : (b : Bool) → (b ≡ true → ⊥) → b ≡ false
not-true true h = absurd (h refl)
not-true false h = refl

-- what comes after a key above the upper bound is above it too
above-next : (upper : Bound Key) (a b : Key) → is_below_upper upper a ≡ false → is_below a b ≡ true → is_below_upper upper b ≡ false
above-next (Included bound) a b out rises = ap not (below-trans bound a b (not-false _ out) rises)
above-next (Excluded bound) a b out rises = not-true (is_below b bound) (λ under. true≢false (sym (below-trans a b bound rises under) ∙ out))
above-next Unbounded a b out rises = absurd (true≢false out)

out-right : (x y z : Bool) → y ≡ false → (x && (y && z)) ≡ false
out-right true y z e = ap (λ b. b && z) e
out-right false y z e = refl

chosen-skip : {S V : Type 0} (lower upper : Bound Key) (m : Machine S) (entry : Placed V) (entries : List (Placed V)) → is_chosen lower upper m (key_of entry) ≡ false → chosen lower upper m (entry ∷ entries) ≡ chosen lower upper m entries
unfolding chosen
chosen-skip lower upper m entry entries e = cond-false (is_chosen lower upper m (key_of entry)) (entry ∷ chosen lower upper m entries) (chosen lower upper m entries) e

chosen-first : {S V : Type 0} (lower upper : Bound Key) (m : Machine S) (entry : Placed V) (entries : List (Placed V)) → is_chosen lower upper m (key_of entry) ≡ true → chosen lower upper m (entry ∷ entries) ≡ entry ∷ chosen lower upper m entries
unfolding chosen
chosen-first lower upper m entry entries e = cond-true (is_chosen lower upper m (key_of entry)) (entry ∷ chosen lower upper m entries) (chosen lower upper m entries) e

pub chosen-none : {S V : Type 0} (lower upper : Bound Key) (m : Machine S) → chosen {S = S} {V = V} lower upper m [] ≡ []
unfolding chosen
chosen-none lower upper m = refl

-- from a key above the upper bound on none is chosen
chosen-above : {S V : Type 0} (lower upper : Bound Key) (m : Machine S) (entry : Placed V) (entries : List (Placed V)) → is_below_upper upper (key_of entry) ≡ false → is_rising (key_of entry ∷ map key_of entries) ≡ true → chosen lower upper m (entry ∷ entries) ≡ []
unfolding is_rising
chosen-above {S} {V} lower upper m entry [] out rising =
    chosen-skip lower upper m entry [] (out-right (is_above_lower lower (key_of entry)) _ _ out) ∙ chosen-none {S = S} {V = V} lower upper m
chosen-above lower upper m entry (next ∷ entries) out rising =
    let both = and_parts (is_below (key_of entry) (key_of next)) (is_rising (key_of next ∷ map key_of entries)) rising in
    chosen-skip lower upper m entry (next ∷ entries) (out-right (is_above_lower lower (key_of entry)) _ _ out)
    ∙ chosen-above lower upper m next entries (above-next upper (key_of entry) (key_of next) out both.0) both.1

same-wanted : {V S : Type 0} (old new : Known S) (entries : List (Placed V)) → LooksForSame old new → wanted old entries ≡ wanted new entries
same-wanted old new entries same =
    sym (ap (λ l. chosen l new.upper.bound new.machine entries) same.same_lower ∙ ap (λ u. chosen old.lower.bound u new.machine entries) same.same_upper ∙ ap (λ m. chosen old.lower.bound old.upper.bound m entries) same.same_machine)

-- An entry was read: of it and the others, these are looked for.
record Read {V S : Type 0} (place : Place V S) (now : Option (Current V)) (rest : List (Placed V)) : Type 0 where
  pub entry : Placed V
  pub others : List (Placed V)
  pub is_current : now ≡ Some (shown_entry place.known.kept entry)
  pub has : HasLeft place (Some (key_of entry)) others
  pub all : rest ≡ wanted place.known (entry ∷ others)

-- what a step does, whatever is left
abbrev pub DoesStep : {V S : Type 0} → Place V S → Place V S → Option (Current V) → Bool → Type 0
DoesStep {V} old new now more = (last : Option Key) (entries : List (Placed V)) → HasLeft old last entries → StepsTo entries now new (Ok more)

read : {V S : Type 0} (old new : Place V S) (now : Option (Current V)) (rest : List (Placed V)) (more : Bool) → more ≡ true → DoesStep old new now more → LooksForSame old.known new.known → IsLeft old rest → Read new now rest
read {V} {S} old new now rest more test does same left =
    let n : IsNext left.entries now new = subst (λ (b : Bool). StepsTo left.entries now new (Ok b)) test (does left.last left.entries left.has) in
    record {
      entry = n.entry;
      others = n.others;
      is_current = n.current;
      has = n.left;
      all = left.are ∙ same-wanted old.known new.known left.entries same ∙ ap (wanted new.known) n.first;
    }

-- What a search does with what a step gave it: at the end, above the upper bound, at an entry that is looked for, and at
-- another one.
pub seek-end : {V S : Type 0} (old new : Place V S) (now : Option (Current V)) (rest : List (Placed V)) (more : Bool) → more ≡ false → DoesStep old new now more → IsLeft old rest → rest ≡ []
seek-end {V} {S} old new now rest more test does left =
    let none : left.entries ≡ [] = subst (λ (b : Bool). StepsTo left.entries now new (Ok b)) test (does left.last left.entries left.has) in
    left.are ∙ ap (wanted old.known) none ∙ chosen-none {S = S} {V = V} old.known.lower.bound old.known.upper.bound old.known.machine

pub seek-above : {V S : Type 0} (old new : Place V S) (now : Option (Current V)) (rest : List (Placed V)) (more under : Bool) → more ≡ true → DoesStep old new now more → LooksForSame old.known new.known
    → ((key : Key) → Knows new.known key → under ≡ is_below_upper new.known.upper.bound key) → under ≡ false → IsLeft old rest → rest ≡ []
seek-above old new now rest more under test does same tells out left =
    let r = read old new now rest more test does same left in
    r.all ∙ chosen-above new.known.lower.bound new.known.upper.bound new.known.machine r.entry r.others (sym (tells (key_of r.entry) r.has.knows) ∙ out) r.has.rising

chosen-is : (above under takes taken : Bool) → under ≡ true → taken ≡ (above && takes) → (above && (under && takes)) ≡ taken
chosen-is above under takes taken e f = ap (λ b. above && (b && takes)) e ∙ sym f

pub seek-found : {V S : Type 0} (old new : Place V S) (now : Option (Current V)) (rest : List (Placed V)) (more under taken : Bool) → more ≡ true → DoesStep old new now more → LooksForSame old.known new.known
    → ((key : Key) → Knows new.known key → under ≡ is_below_upper new.known.upper.bound key) → under ≡ true
    → ((key : Key) → Knows new.known key → taken ≡ (is_above_lower new.known.lower.bound key && takes new.known.machine key)) → taken ≡ true
    → IsLeft old rest → IsTaken (IsLeft new) now rest
seek-found old new now rest more under taken test does same tells within tells_taken is left =
    let r = read old new now rest more test does same left in
    let key = key_of r.entry in
    let chosen_is = chosen-is (is_above_lower new.known.lower.bound key) (is_below_upper new.known.upper.bound key) (takes new.known.machine key) taken (sym (tells key r.has.knows) ∙ within) (tells_taken key r.has.knows) ∙ is in
    record {
      entry = r.entry;
      others = wanted new.known r.others;
      kept = new.known.kept;
      first = r.all ∙ chosen-first new.known.lower.bound new.known.upper.bound new.known.machine r.entry r.others chosen_is;
      current = r.is_current;
      tracked = r.has.knows.tracked;
      left = record { last = Some key; entries = r.others; has = r.has; are = refl };
    }

pub seek-on : {V S : Type 0} (old new : Place V S) (now : Option (Current V)) (rest : List (Placed V)) (more under taken : Bool) → more ≡ true → DoesStep old new now more → LooksForSame old.known new.known
    → ((key : Key) → Knows new.known key → under ≡ is_below_upper new.known.upper.bound key) → under ≡ true
    → ((key : Key) → Knows new.known key → taken ≡ (is_above_lower new.known.lower.bound key && takes new.known.machine key)) → taken ≡ false
    → IsLeft old rest → IsLeft new rest
seek-on old new now rest more under taken test does same tells within tells_taken is left =
    let r = read old new now rest more test does same left in
    let key = key_of r.entry in
    let chosen_is = chosen-is (is_above_lower new.known.lower.bound key) (is_below_upper new.known.upper.bound key) (takes new.known.machine key) taken (sym (tells key r.has.knows) ∙ within) (tells_taken key r.has.knows) ∙ is in
    record {
      last = Some key;
      entries = r.others;
      has = r.has;
      are = r.all ∙ chosen-skip new.known.lower.bound new.known.upper.bound new.known.machine r.entry r.others chosen_is;
    }
