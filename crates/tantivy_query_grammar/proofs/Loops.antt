-- The loops of the parser, one turn at a time.
use Rattle.std.proofs.Common.{◌≡◌, ◌∙◌, sym, ap, refl, ℕ, Bool, true, false, zero, suc, ◌+◌, ◌-◌, ◌<◌, List, [], ◌∷◌, ◌++◌, length, append_assoc, append-nil, arith}
use Rattle.query_tree.specs.Reader.{Outcome, Found, Failed, Deep, Reader, and_then, pure, joined_up_to, repeated_up_to, one, skip}
use Rattle.tantivy_query_grammar.specs.Gives.{with_front, with_list}

pub joined_stops : (n : ℕ) (p : Reader (List ℕ)) (text : List ℕ) → p text ≡ Failed → joined_up_to n p text ≡ Found [] text
unfolding joined_up_to
joined_stops zero p text h = refl
joined_stops (suc n) p text h = rw h

front_twice : (front first : List ℕ) (o : Outcome (List ℕ)) → with_front front (and_then o (λ others. pure (first ++ others))) ≡ with_front (front ++ first) o
unfolding with_front
front_twice front first (Found others rest) = ap (λ t. Found t rest) (sym (append_assoc front first others))
front_twice front first Failed = refl
front_twice front first Deep = refl

pub joined_goes_on : (n : ℕ) (p : Reader (List ℕ)) (front text first rest : List ℕ) → p text ≡ Found first rest
    → with_front front (joined_up_to (suc n) p text) ≡ with_front (front ++ first) (joined_up_to n p rest)
unfolding joined_up_to
joined_goes_on n p front text first rest h = rw h (front_twice front first (joined_up_to n p rest))

-- the turn i of n
pub joined_turn : (n i : ℕ) (p : Reader (List ℕ)) (front text first rest : List ℕ) → i < n → p text ≡ Found first rest
    → with_front front (joined_up_to (n - i) p text) ≡ with_front (front ++ first) (joined_up_to (n - (i + 1)) p rest)
joined_turn n i p front text first rest lt h =
    let e : n - i ≡ suc (n - (i + 1)) = omega arith in
    ap (λ k. with_front front (joined_up_to k p text)) e ∙ joined_goes_on (n - (i + 1)) p front text first rest h

pub front_stops : (n : ℕ) (p : Reader (List ℕ)) (front text : List ℕ) → p text ≡ Failed → with_front front (joined_up_to n p text) ≡ Found front text
unfolding with_front
front_stops n p front text h = ap (with_front front) (joined_stops n p text h) ∙ (ap (λ t. Found t text) (append-nil front))

pub front_ends : (n i : ℕ) (p : Reader (List ℕ)) (front text : List ℕ) → n ≡ i → with_front front (joined_up_to (n - i) p text) ≡ Found front text
unfolding with_front joined_up_to
front_ends n i p front text h =
    let e : n - i ≡ zero = omega arith in
    ap (λ k. with_front front (joined_up_to k p text)) e ∙ ap (λ t. Found t text) (append-nil front)

-- what the first character is, where one is read
pub skip_goes_on : (test : ℕ → Bool) (text : List ℕ) (c : ℕ) (rest : List ℕ) → one test text ≡ Found c rest → skip test text ≡ skip test rest
unfolding one skip
skip_goes_on test [] c rest h = cc
skip_goes_on test (x ∷ xs) c rest h =
    let either : (b : Bool) → test x ≡ b → skip test (x ∷ xs) ≡ skip test rest =
    λ b. elim b as (λ v. test x ≡ v → skip test (x ∷ xs) ≡ skip test rest) [
      | true ↦ λ e. let h' : Found x xs ≡ Found c rest = rw e at h in rw e (let same : xs ≡ rest = cc in ap (skip test) same)
      | false ↦ λ e. let h' : Failed ≡ Found c rest = rw e at h in cc
    ]
    in either (test x) refl

pub skip_stops : (test : ℕ → Bool) (text : List ℕ) → one test text ≡ Failed → skip test text ≡ text
unfolding one skip
skip_stops test [] h = refl
skip_stops test (x ∷ xs) h =
    let either : (b : Bool) → test x ≡ b → skip test (x ∷ xs) ≡ x ∷ xs =
    λ b. elim b as (λ v. test x ≡ v → skip test (x ∷ xs) ≡ x ∷ xs) [
      | true ↦ λ e. let h' : Found x xs ≡ Failed = rw e at h in cc
      | false ↦ λ e. rw e
    ]
    in either (test x) refl

pub one_shortens : (test : ℕ → Bool) (text : List ℕ) (c : ℕ) (rest : List ℕ) → one test text ≡ Found c rest → length rest < length text
unfolding one
one_shortens test [] c rest h = cc
one_shortens test (x ∷ xs) c rest h =
    let either : (b : Bool) → test x ≡ b → length rest < length (x ∷ xs) =
    λ b. elim b as (λ v. test x ≡ v → length rest < length (x ∷ xs)) [
      | true ↦ λ e. let h' : Found x xs ≡ Found c rest = rw e at h in let same : xs ≡ rest = cc in omega (arith, ap length same)
      | false ↦ λ e. let h' : Failed ≡ Found c rest = rw e at h in cc
    ]
    in either (test x) refl

-- ---- the same for a list

list_twice : {A : Type 0} (front : List A) (first : A) (o : Outcome (List A)) → with_list front (and_then o (λ others. pure (first ∷ others))) ≡ with_list (front ++ first ∷ []) o
unfolding with_list
list_twice front first (Found others rest) = ap (λ t. Found t rest) (sym (append_assoc front (first ∷ []) others))
list_twice front first Failed = refl
list_twice front first Deep = refl

list_goes_on : {A : Type 0} (n : ℕ) (p : Reader A) (front : List A) (text : List ℕ) (first : A) (rest : List ℕ) → p text ≡ Found first rest
    → with_list front (repeated_up_to (suc n) p text) ≡ with_list (front ++ first ∷ []) (repeated_up_to n p rest)
unfolding repeated_up_to
list_goes_on n p front text first rest h = rw h (list_twice front first (repeated_up_to n p rest))

pub listed_turn : {A : Type 0} (n i : ℕ) (p : Reader A) (front : List A) (text : List ℕ) (first : A) (rest : List ℕ) → i < n → p text ≡ Found first rest
    → with_list front (repeated_up_to (n - i) p text) ≡ with_list (front ++ first ∷ []) (repeated_up_to (n - (i + 1)) p rest)
listed_turn n i p front text first rest lt h =
    let e : n - i ≡ suc (n - (i + 1)) = omega arith in
    ap (λ k. with_list front (repeated_up_to k p text)) e ∙ list_goes_on (n - (i + 1)) p front text first rest h

repeated_stops : {A : Type 0} (n : ℕ) (p : Reader A) (text : List ℕ) → p text ≡ Failed → repeated_up_to n p text ≡ Found [] text
unfolding repeated_up_to
repeated_stops zero p text h = refl
repeated_stops (suc n) p text h = rw h

pub list_stops : {A : Type 0} (n : ℕ) (p : Reader A) (front : List A) (text : List ℕ) → p text ≡ Failed → with_list front (repeated_up_to n p text) ≡ Found front text
unfolding with_list
list_stops n p front text h = ap (with_list front) (repeated_stops n p text h) ∙ (ap (λ t. Found t text) (append-nil front))

pub list_ends : {A : Type 0} (n i : ℕ) (p : Reader A) (front : List A) (text : List ℕ) → n ≡ i → with_list front (repeated_up_to (n - i) p text) ≡ Found front text
unfolding with_list repeated_up_to
list_ends n i p front text h =
    let e : n - i ≡ zero = omega arith in
    ap (λ k. with_list front (repeated_up_to k p text)) e ∙ ap (λ t. Found t text) (append-nil front)

-- too deep at a turn is too deep
pub list_deep : {A : Type 0} (n i : ℕ) (p : Reader A) (front : List A) (text : List ℕ) → i < n → p text ≡ Deep → with_list front (repeated_up_to (n - i) p text) ≡ Deep
unfolding with_list repeated_up_to
list_deep n i p front text lt h =
    let e : n - i ≡ suc (n - (i + 1)) = omega arith in
    ap (λ k. with_list front (repeated_up_to k p text)) e ∙ rw h
