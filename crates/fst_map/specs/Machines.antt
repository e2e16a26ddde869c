-- The laws of the four machines, for their `impl`s. A reader of contracts may skip them.
use Rattle.std.proofs.Common.{◌≡◌, ℕ, List, [], ◌∷◌, ◌++◌, true, false, ◌||◌, Option, Some, None, refl, ap, sym, ◌∙◌, ⊎_elim, arith}
use Rattle.std.proofs.lemmas.Bool.{false≢true, true≢false, or_parts, or_cases, or_from, or_left, or_right}
use Rattle.std.proofs.lemmas.Bool.Decides.{nat_tests}
use Rattle.fst_map.specs.Automaton.{Machine, after, takes, AreBytes, IsLawful, always, is_read, prefix_accept, exact, prefixed, joint}

pub after-append : {S : Type 0} (machine : Machine S) (state : S) (front back : List ℕ) → after machine state (front ++ back) ≡ after machine (after machine state front) back
after-append machine state [] back = refl
after-append machine state (b ∷ front) back = after-append machine (machine.accept state b) front back

-- it keeps its word from this state on
abbrev pub KeepsWord : {S : Type 0} → Machine S → S → Type 0
KeepsWord machine state = (bytes : List ℕ) → AreBytes bytes →
    (machine.can_match state ≡ false → machine.is_match (after machine state bytes) ≡ false)
    × (machine.will_always_match state ≡ true → machine.is_match (after machine state bytes) ≡ true)

-- a machine that keeps its word from every state on is lawful
pub lawful-everywhere : {S : Type 0} (machine : Machine S) → ((state : S) → KeepsWord machine state) → IsLawful machine
lawful-everywhere machine keeps front back a b =
    let together = ap machine.is_match (after-append machine machine.start front back) in
    let here = keeps (after machine machine.start front) back b in
    (λ e. together ∙ here.0 e, λ e. together ∙ here.1 e)

pub always-lawful : IsLawful always
always-lawful front back a b = (λ e. absurd (true≢false e), λ e. refl)

pub exact-none : (key bytes : List ℕ) → after (exact key) None bytes ≡ None
exact-none key [] = refl
exact-none key (b ∷ bytes) = exact-none key bytes

exact-keeps : (key : List ℕ) (state : Option ℕ) → KeepsWord (exact key) state
exact-keeps key None bytes are = (λ e. ap (is_read key) (exact-none key bytes), λ e. absurd (false≢true e))
exact-keeps key (Some place) bytes are = (λ e. absurd (true≢false e), λ e. absurd (false≢true e))

pub exact-lawful : (key : List ℕ) → IsLawful (exact key)
exact-lawful key = lawful-everywhere (exact key) (exact-keeps key)

pub prefixed-none : (prefix bytes : List ℕ) → after (prefixed prefix) None bytes ≡ None
prefixed-none prefix [] = refl
prefixed-none prefix (b ∷ bytes) = prefixed-none prefix bytes

-- past the prefix the place stays
pub prefixed-some : (prefix bytes : List ℕ) (place : ℕ) → is_read prefix (Some place) ≡ true → after (prefixed prefix) (Some place) bytes ≡ Some place
prefixed-some prefix [] place e = refl
prefixed-some prefix (b ∷ bytes) place e =
    let stays : prefix_accept prefix (Some place) b ≡ Some place = grind (arith, nat_tests) in
    ap (λ state. after (prefixed prefix) state bytes) stays ∙ prefixed-some prefix bytes place e

prefixed-keeps : (prefix : List ℕ) (state : Option ℕ) → KeepsWord (prefixed prefix) state
prefixed-keeps prefix None bytes are = (λ e. ap (is_read prefix) (prefixed-none prefix bytes), λ e. absurd (false≢true e))
prefixed-keeps prefix (Some place) bytes are =
    (λ e. absurd (true≢false e), λ e. ap (is_read prefix) (prefixed-some prefix bytes place e) ∙ e)

pub prefixed-lawful : (prefix : List ℕ) → IsLawful (prefixed prefix)
prefixed-lawful prefix = lawful-everywhere (prefixed prefix) (prefixed-keeps prefix)

pub joint-after : {S T : Type 0} (one : Machine S) (other : Machine T) (s : S) (t : T) (bytes : List ℕ) → after (joint one other) (s, t) bytes ≡ (after one s bytes, after other t bytes)
joint-after one other s t [] = refl
joint-after one other s t (b ∷ bytes) = joint-after one other (one.accept s b) (other.accept t b) bytes

pub joint-matches : {S T : Type 0} (one : Machine S) (other : Machine T) (s : S) (t : T) (bytes : List ℕ) → (joint one other).is_match (after (joint one other) (s, t) bytes) ≡ (one.is_match (after one s bytes) || other.is_match (after other t bytes))
joint-matches one other s t bytes = ap (joint one other).is_match (joint-after one other s t bytes)

pub joint-lawful : {S T : Type 0} (one : Machine S) (other : Machine T) → IsLawful one → IsLawful other → IsLawful (joint one other)
joint-lawful one other l m front back a b = (
  λ e. let parts = or_parts (one.can_match (after one one.start front)) (other.can_match (after other other.start front)) (sym (ap (joint one other).can_match reached) ∙ e) in
      matches ∙ or_from (takes one (front ++ back)) (takes other (front ++ back)) ((l front back a b).0 parts.0) ((m front back a b).0 parts.1),
  λ e. matches ∙
      ⊎_elim (λ p. or_left (takes one (front ++ back)) (takes other (front ++ back)) ((l front back a b).1 p)) (λ p. or_right (takes one (front ++ back)) (takes other (front ++ back)) ((m front back a b).1 p))
      (or_cases (one.will_always_match (after one one.start front)) (other.will_always_match (after other other.start front)) (sym (ap (joint one other).will_always_match reached) ∙ e)),
)
  where
    reached : after (joint one other) (joint one other).start front ≡ (after one one.start front, after other other.start front)
    reached = joint-after one other one.start other.start front

    matches : takes (joint one other) (front ++ back) ≡ (takes one (front ++ back) || takes other (front ++ back))
    matches = joint-matches one other one.start other.start (front ++ back)
