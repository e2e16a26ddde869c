-- What a comparator answers is the order of the key.
use Rattle.std.proofs.Common.{◌≡◌, ◌≢◌, inl, inr, ℕ, ◌+◌, ◌<◌, ◌≤◌, List, [], ◌∷◌, ◌++◌, length, take, drop, Bool, true, false, refl, ap, sym, ◌∙◌, subst, arith, append-nil, length-drop, ◌-◌}
use Rattle.std.specs.Prelude.{nat_eq}
use Rattle.std.specs.Ordering.{nat_cmp, ordering_then, ordering_index}
use Rattle.std.proofs.lemmas.List.{take_all}
use Rattle.std.specs.declared.cmp.Ordering.{Ordering}
use Rattle.std.specs.declared.cmp.Ordering.TheVariants.{Less, Equal, Greater}
use Rattle.std.proofs.lemmas.List.Sums.{common_prefix_len-le}
use Rattle.owned_bytes.specs.Keys.{Key, shared, is_below, is_less}
use Rattle.sstable_blocks.specs.Comparing.{order, key_from, Rises, ComesNext, Follows, Compares}
use Rattle.sstable_blocks.proofs.OrderLaws.{decided, compared-behind, order-append, shared-append}

-- A key whose first bytes are those that another key shares with the target: what follows them decides.
pub compares-behind : (target last suffix : Key) (matched more : ℕ) (answer : Ordering) → matched ≡ shared last target → more ≡ shared suffix (drop matched target) → answer ≡ order suffix (drop matched target)
    → Compares target (key_from last matched suffix) answer (matched + more)
compares-behind target last suffix matched more answer is behind decides =
    let at : (order (key_from last matched suffix) target ≡ order suffix (drop matched target)) × (shared (key_from last matched suffix) target ≡ matched + shared suffix (drop matched target)) =
    subst (λ m. (order (key_from last m suffix) target ≡ order suffix (drop m target)) × (shared (key_from last m suffix) target ≡ m + shared suffix (drop m target))) (sym is) (compared-behind target last suffix) in
    record {
      right = decides ∙ sym at.0;
      follows = λ n. record { bytes = omega (arith, behind, at.1); under = λ e. n (decides ∙ sym at.0 ∙ e) };
    }

-- no more bytes are shared than there are
pub matched-within : (target last : Key) (matched : ℕ) → matched ≡ shared last target → matched ≤ length target
matched-within target last matched is = omega (arith, is, (common_prefix_len-le nat_eq last target).1)

-- where the next key shares more with the last one than that with the target, it differs from the target at the same place
pub compares-below : (target last suffix : Key) (matched keep : ℕ) → Follows matched target last → ComesNext last keep suffix → keep ≢ 0 → matched < keep → Compares target (key_from last keep suffix) Less matched
compares-below target last suffix matched keep follows (inl zero) some h = absurd (some zero)
compares-below target last suffix matched keep follows (inr rises) some h =
    let is = (decided last (key_from last keep suffix) target rises.above follows.under).longer (omega (arith, follows.bytes, rises.keeps)) in
    record { right = sym is.0; follows = λ n. record { bytes = follows.bytes ∙ sym is.1; under = λ e. absurd (let wrong : Less ≡ Greater = sym is.0 ∙ e in cc) } }

-- where it shares less, it lies above the target
pub compares-above : (target last suffix : Key) (matched keep after : ℕ) → Follows matched target last → ComesNext last keep suffix → keep ≢ 0 → keep < matched → Compares target (key_from last keep suffix) Greater after
compares-above target last suffix matched keep after follows (inl zero) some h = absurd (some zero)
compares-above target last suffix matched keep after follows (inr rises) some h =
    let is = (decided last (key_from last keep suffix) target rises.above follows.under).shorter (omega (arith, follows.bytes, rises.keeps)) in
    record { right = sym is; follows = λ n. absurd (n refl) }

-- What begins with a key above the target lies above it.
above-append : (prefix suffix target : Key) → order prefix target ≡ Greater → order (prefix ++ suffix) target ≡ Greater
above-append [] suffix [] e = absurd cc
above-append [] suffix (y ∷ target) e = absurd cc
above-append (x ∷ prefix) suffix [] e = refl
above-append (x ∷ prefix) suffix (y ∷ target) e = by_byte (nat_cmp x y) e (above-append prefix suffix target)
  where
    by_byte : (o : Ordering) → ordering_then o (order prefix target) ≡ Greater → (order prefix target ≡ Greater → order (prefix ++ suffix) target ≡ Greater) → ordering_then o (order (prefix ++ suffix) target) ≡ Greater
    by_byte Less e behind = e
    by_byte Equal e behind = behind e
    by_byte Greater e behind = refl

pub compares-above_prefix : (target prefix suffix : Key) (answer : Ordering) (matched : ℕ) → ((last : Key) → 0 ≡ shared last target → Compares target (key_from last 0 prefix) answer matched) → answer ≡ Greater
    → Compares target (prefix ++ suffix) answer matched
compares-above_prefix target prefix suffix answer matched compared is =
    record { right = is ∙ sym (above-append prefix suffix target (sym (compared [] refl).right ∙ is)); follows = λ n. absurd (n is) }

pub compares-prefix : (target prefix suffix : Key) (answer : Ordering) (matched : ℕ) → ((last : Key) → 0 ≡ shared last target → Compares target (key_from last 0 prefix) answer matched) → length suffix ≡ 0
    → Compares target (prefix ++ suffix) answer matched
compares-prefix target prefix suffix answer matched compared none =
    subst (λ key. Compares target key answer matched) (sym (ap (λ s. prefix ++ s) (is_none suffix none) ∙ append-nil prefix)) (compared [] refl)
  where
    is_none : (xs : Key) → length xs ≡ 0 → xs ≡ []
    is_none [] e = refl
    is_none (x ∷ xs) e = absurd (omega arith)

-- what begins with a key and goes on rises above it
rises-more : (prefix suffix : Key) → 0 < length suffix → order prefix (prefix ++ suffix) ≡ Less
rises-more prefix [] some = absurd (omega arith)
rises-more prefix (x ∷ suffix) some = ap (λ p. order p (prefix ++ x ∷ suffix)) (sym (append-nil prefix)) ∙ order-append prefix [] (x ∷ suffix)

rises-whole : (prefix suffix : Key) → 0 < length suffix → Rises prefix (length prefix) suffix
rises-whole prefix suffix some =
    let whole : key_from prefix (length prefix) suffix ≡ prefix ++ suffix = ap (λ p. p ++ suffix) (take_all (length prefix) prefix (omega arith)) in
    record {
      above = ap (is_below prefix) whole ∙ ap is_less (rises-more prefix suffix some);
      keeps = omega (arith, ap (shared prefix) whole, ap (λ p. shared p (prefix ++ suffix)) (append-nil prefix), shared-append prefix [] suffix);
    }

pub compares-whole : (target prefix suffix : Key) (first answer : Ordering) (matched after : ℕ) → ((last : Key) → 0 ≡ shared last target → Compares target (key_from last 0 prefix) first matched) → first ≢ Greater → 0 < length suffix
    → ((last : Key) → Follows matched target last → ComesNext last (length prefix) suffix → Compares target (key_from last (length prefix) suffix) answer after) → Compares target (prefix ++ suffix) answer after
compares-whole target prefix suffix first answer matched after begun under some compared =
    subst (λ p. Compares target (p ++ suffix) answer after) (take_all (length prefix) prefix (omega arith))
    (compared prefix ((begun [] refl).follows under) (inr (rises-whole prefix suffix some)))

-- the value of `&bytes[n..]`
pub rest_is : (n : ℕ) (bytes : List ℕ) → take (length bytes - n) (drop n bytes) ≡ drop n bytes
rest_is n bytes = take_all (length bytes - n) (drop n bytes) (simp length-drop (omega arith))

-- what a test for Greater tells
pub greater-tested : (o : Ordering) (b : Bool) → b ≡ nat_eq (ordering_index o) 2 → b ≡ true → o ≡ Greater
greater-tested Less b e h = absurd cc
greater-tested Equal b e h = absurd cc
greater-tested Greater b e h = refl

pub not_greater-tested : (o : Ordering) (b : Bool) → b ≡ nat_eq (ordering_index o) 2 → b ≡ false → o ≢ Greater
not_greater-tested Less b e h same = cc
not_greater-tested Equal b e h same = cc
not_greater-tested Greater b e h same = cc
