-- The states of a machine along a key, as its front stays and bytes come after it.
use Rattle.std.proofs.Common.{◌≡◌, ℕ, zero, suc, ◌+◌, ◌-◌, ◌<◌, ◌≤◌, List, [], ◌∷◌, ◌++◌, length, take, Option, Some, None, refl, ap, sym, ◌∙◌, subst, arith, add-one}
use Rattle.std.specs.Prelude.{slice_get, get_or}
use Rattle.std.proofs.lemmas.List.{append_assoc, append-nil, take_all}
use Rattle.std.proofs.Math.Seq.{take-suc}
use Rattle.fst_map.specs.Automaton.{Machine, after}
use Rattle.sstable_streams.specs.States.{states_along, states_of}

some_is : {A : Type 0} (x y : A) → Some x ≡ Some y → x ≡ y
some_is x y e = cc

pub states-take : {S : Type 0} (m : Machine S) (s : S) (n : ℕ) (key : List ℕ) → take (suc n) (states_along m s key) ≡ states_along m s (take n key)
states-take m s zero [] = refl
states-take m s zero (b ∷ bytes) = refl
states-take m s (suc n) [] = refl
states-take m s (suc n) (b ∷ bytes) = ap (λ r. s ∷ r) (states-take m (m.accept s b) n bytes)

pub states-push : {S : Type 0} (m : Machine S) (s : S) (bytes : List ℕ) (b : ℕ) → states_along m s (bytes ++ b ∷ []) ≡ states_along m s bytes ++ after m s (bytes ++ b ∷ []) ∷ []
states-push m s [] b = refl
states-push m s (c ∷ bytes) b = ap (λ r. s ∷ r) (states-push m (m.accept s c) bytes b)

pub after-push : {S : Type 0} (m : Machine S) (s : S) (bytes : List ℕ) (b : ℕ) → after m s (bytes ++ b ∷ []) ≡ m.accept (after m s bytes) b
after-push m s [] b = refl
after-push m s (c ∷ bytes) b = after-push m (m.accept s c) bytes b

pub length-states : {S : Type 0} (m : Machine S) (s : S) (bytes : List ℕ) → length (states_along m s bytes) ≡ suc (length bytes)
length-states m s [] = refl
length-states m s (b ∷ bytes) = ap (λ n. suc n) (length-states m (m.accept s b) bytes)

states-at_end : {S : Type 0} (m : Machine S) (s : S) (bytes : List ℕ) → slice_get (states_along m s bytes) (length bytes) ≡ Some (after m s bytes)
states-at_end m s [] = refl
states-at_end m s (b ∷ bytes) = states-at_end m (m.accept s b) bytes

-- the last state
pub states-last : {S : Type 0} (m : Machine S) (s : S) (bytes : List ℕ) → slice_get (states_along m s bytes) (length (states_along m s bytes) - 1) ≡ Some (after m s bytes)
states-last m s bytes =
    let at : length (states_along m s bytes) - 1 ≡ length bytes = omega (arith, length-states m s bytes) in
    ap (slice_get (states_along m s bytes)) at ∙ states-at_end m s bytes

-- the states along a front of the key
pub states-front : {S : Type 0} (m : Machine S) (keep : ℕ) (key : List ℕ) (states : List S) → states ≡ states_of m key → take (keep + 1) states ≡ states_of m (take keep key)
states-front m keep key states e = ap (take (keep + 1)) e ∙ ap (λ n. take n (states_of m key)) (add-one keep) ∙ states-take m m.start keep key

-- Along what the key keeps and a part of the suffix: the states, and the last of them.
pub record Along {S : Type 0} (m : Machine S) (key : List ℕ) (states : List S) (state : S) : Type 0 where
  pub all : states ≡ states_of m key
  pub last : state ≡ after m m.start key

pub along-more : {S : Type 0} (m : Machine S) (front suffix : List ℕ) (i : ℕ) (old new : List S) (state next : S) → Along m (front ++ take i suffix) old state → i < length suffix
    → next ≡ m.accept state (get_or suffix i 0) → new ≡ old ++ next ∷ [] → Along m (front ++ take (i + 1) suffix) new next
along-more m front suffix i old new state next a within is_next is_new =
    let key : front ++ take (i + 1) suffix ≡ (front ++ take i suffix) ++ get_or suffix i 0 ∷ [] =
    ap (λ n. front ++ take n suffix) (add-one i) ∙ ap (λ t. front ++ t) (take-suc suffix i 0 within) ∙ sym (append_assoc front (take i suffix) (get_or suffix i 0 ∷ [])) in
    let at : next ≡ after m m.start ((front ++ take i suffix) ++ get_or suffix i 0 ∷ []) =
    is_next ∙ ap (λ s. m.accept s (get_or suffix i 0)) a.last ∙ sym (after-push m m.start (front ++ take i suffix) (get_or suffix i 0)) in
    record {
      all = is_new ∙ ap (λ s. s ++ next ∷ []) a.all ∙ ap (λ s. states_of m (front ++ take i suffix) ++ s ∷ []) at ∙ sym (states-push m m.start (front ++ take i suffix) (get_or suffix i 0)) ∙ ap (states_of m) (sym key);
      last = at ∙ ap (after m m.start) (sym key);
    }

pub along-begin : {S : Type 0} (m : Machine S) (keep : ℕ) (key suffix : List ℕ) (old new : List S) (state : S) → new ≡ take (keep + 1) old → ((k : List ℕ) → new ≡ states_of m k → state ≡ after m m.start k) → old ≡ states_of m key → Along m (take keep key ++ take 0 suffix) new state
along-begin m keep key suffix old new state cut last e =
    let front : new ≡ states_of m (take keep key) = cut ∙ states-front m keep key old e in
    subst (λ k. Along m k new state) (sym (append-nil (take keep key))) (record { all = front; last = last (take keep key) front })

pub along-end : {S : Type 0} (m : Machine S) (front suffix : List ℕ) (i : ℕ) (states : List S) (state : S) → Along m (front ++ take i suffix) states state → length suffix ≤ i → states ≡ states_of m (front ++ suffix)
along-end m front suffix i states state a whole = a.all ∙ ap (λ t. states_of m (front ++ t)) (take_all i suffix whole)

-- what was found at the end of the states along a key
pub last-is : {S : Type 0} (m : Machine S) (states : List S) (found : S) (key : List ℕ) → Some found ≡ slice_get states (length states - 1) → states ≡ states_of m key → found ≡ after m m.start key
last-is m states found key at e = some_is found (after m m.start key) (at ∙ ap (λ s. slice_get s (length s - 1)) e ∙ states-last m m.start key)

pub last-none : {S : Type 0} (m : Machine S) (states : List S) (key : List ℕ) → None ≡ slice_get states (length states - 1) → states ≡ states_of m key → ⊥
last-none m states key at e = let none : None ≡ Some (after m m.start key) = at ∙ ap (λ s. slice_get s (length s - 1)) e ∙ states-last m m.start key in cc
