-- What the sets of a clause, added one after the other, tell of one document.
use Rattle.std.proofs.Common.{◌≡◌, ◌∙◌, sym, ap, refl, ℕ, ◌<◌, Bool, true, false, not, ◌&&◌, ◌||◌, ◌==◌, List, [], ◌∷◌, ◌++◌, length, Option, Some, None, option_map, is_some}
use Rattle.std.specs.Prelude.{if◌then◌else◌, unwrap_or}
use Rattle.std.specs.List.{list_all}
use Rattle.std.specs.FinSet.{empty, contains}
use Rattle.std.proofs.Math.Dec.{eqb-suc-zero}
use Rattle.std.proofs.lemmas.Bool.{lt-ltb}
use Rattle.common_bitset.specs.Numbers.{Numbers, below}
use Rattle.common_bitset.specs.Laws.Sets.{contains_below, contains_union, contains_intersection, contains_difference, contains_empty}
use Rattle.document_sets.specs.Joined.{Joined, met, united, chosen, joined_elements}
use Rattle.query_tree.specs.declared.tree.Occur.{Occur}
use Rattle.query_tree.specs.declared.tree.Occur.TheVariants.{Should, Must, MustNot}
use Rattle.printed_queries.specs.Satisfies.{satisfies_clause, satisfies_mixed, answers, is_must, is_must_not, is_optional, all, any}
use Rattle.term_search.specs.Members.{Marks, marks_at, marks_from, marks_of, and_then, or_else, with_mark, all_if_any, any_if_any}

-- ---- one set more

pub contains_met : (i : ℕ) (first : Option Numbers) (second : Numbers) → contains (met first second) i ≡ and_then (option_map (λ s. contains s i) first) (contains second i)
contains_met i None second = refl
contains_met i (Some first) second = contains_intersection first second i

pub contains_united : (i : ℕ) (first : Option Numbers) (second : Numbers) → contains (united first second) i ≡ or_else (option_map (λ s. contains s i) first) (contains second i)
contains_united i None second = refl
contains_united i (Some first) second = contains_union first second i

and_assoc : (a b c : Bool) → (a && (b && c)) ≡ ((a && b) && c)
and_assoc true b c = refl
and_assoc false b c = refl

or_assoc : (a b c : Bool) → (a || (b || c)) ≡ ((a || b) || c)
or_assoc true b c = refl
or_assoc false b c = refl

and_true : (b : Bool) → (b && true) ≡ b
and_true true = refl
and_true false = refl

and_false : (b : Bool) → (b && false) ≡ false
and_false true = refl
and_false false = refl

or_false : (b : Bool) → (b || false) ≡ b
or_false true = refl
or_false false = refl

and_swap : (a b : Bool) → (a && b) ≡ (b && a)
and_swap true b = sym (and_true b)
and_swap false b = sym (and_false b)

all-more : (bs : List Bool) (b : Bool) → all (bs ++ b ∷ []) ≡ (all bs && b)
all-more [] b = and_true b
all-more (c ∷ bs) b = ap (λ x. c && x) (all-more bs b) ∙ and_assoc c (all bs) b

any-more : (bs : List Bool) (b : Bool) → any (bs ++ b ∷ []) ≡ (any bs || b)
any-more [] b = or_false b
any-more (c ∷ bs) b = ap (λ x. c || x) (any-more bs b) ∙ or_assoc c (any bs) b

all_if_any-more : (bs : List Bool) (b : Bool) → all_if_any (bs ++ b ∷ []) ≡ Some (and_then (all_if_any bs) b)
all_if_any-more [] b = ap (λ (x : Bool). Some x) (and_true b)
all_if_any-more (c ∷ bs) b = ap (λ (x : Bool). Some x) (all-more (c ∷ bs) b)

any_if_any-more : (bs : List Bool) (b : Bool) → any_if_any (bs ++ b ∷ []) ≡ Some (or_else (any_if_any bs) b)
any_if_any-more [] b = ap (λ (x : Bool). Some x) (or_false b)
any_if_any-more (c ∷ bs) b = ap (λ (x : Bool). Some x) (any-more (c ∷ bs) b)

-- ---- the answers of one mark, with one pair more

abbrev one_if : Bool → Bool → List Bool
one_if true b = b ∷ []
one_if false b = []

abbrev Pairs : Type 0
Pairs = List (Option Occur × Bool)

answers-more : (test : Option Occur → Bool) (pairs : Pairs) (mark : Option Occur) (b : Bool) → answers test (pairs ++ (mark, b) ∷ []) ≡ answers test pairs ++ one_if (test mark) b
answers-more test [] mark b = by (test mark) refl
  where
    by : (t : Bool) → test mark ≡ t → answers test ((mark, b) ∷ []) ≡ one_if (test mark) b
    by true e = rw e refl
    by false e = rw e refl
answers-more test (p ∷ pairs) mark b = by (answers-more test pairs mark b) (test p.0) refl
  where
    by : answers test (pairs ++ (mark, b) ∷ []) ≡ answers test pairs ++ one_if (test mark) b → (t : Bool) → test p.0 ≡ t
        → answers test ((p ∷ pairs) ++ (mark, b) ∷ []) ≡ answers test (p ∷ pairs) ++ one_if (test mark) b
    by more true e = rw e (ap (λ bs. p.1 ∷ bs) more)
    by more false e = rw e more

nothing : {A : Type 0} (ys : List A) → ys ++ [] ≡ ys
nothing [] = refl
nothing (y ∷ ys) = ap (λ zs. y ∷ zs) (nothing ys)

three : (a b c d e f : List Bool) → a ≡ b → c ≡ d → e ≡ f → marks_from a c e ≡ marks_from b d f
three a b c d e f p q r = ap (λ x. marks_from x c e) p ∙ ap (λ x. marks_from b x e) q ∙ ap (λ x. marks_from b d x) r

-- the marks of one pair more
pub marks-more : (pairs : Pairs) (mark : Option Occur) (b : Bool) → marks_of (pairs ++ (mark, b) ∷ []) ≡ with_mark (marks_of pairs) mark b
marks-more pairs (Some Must) b =
    three _ _ _ _ _ _ (answers-more is_must pairs (Some Must) b) (answers-more is_must_not pairs (Some Must) b ∙ nothing _) (answers-more is_optional pairs (Some Must) b ∙ nothing _)
    ∙ ap (λ (x : Option Bool). record (marks_of pairs) { required = x }) (all_if_any-more (answers is_must pairs) b)
marks-more pairs (Some MustNot) b =
    three _ _ _ _ _ _ (answers-more is_must pairs (Some MustNot) b ∙ nothing _) (answers-more is_must_not pairs (Some MustNot) b) (answers-more is_optional pairs (Some MustNot) b ∙ nothing _)
    ∙ ap (λ (x : Option Bool). record (marks_of pairs) { excluded = x }) (any_if_any-more (answers is_must_not pairs) b)
marks-more pairs (Some Should) b =
    three _ _ _ _ _ _ (answers-more is_must pairs (Some Should) b ∙ nothing _) (answers-more is_must_not pairs (Some Should) b ∙ nothing _) (answers-more is_optional pairs (Some Should) b)
    ∙ ap (λ (x : Option Bool). record (marks_of pairs) { offered = x }) (any_if_any-more (answers is_optional pairs) b)
marks-more pairs None b =
    three _ _ _ _ _ _ (answers-more is_must pairs None b ∙ nothing _) (answers-more is_must_not pairs None b ∙ nothing _) (answers-more is_optional pairs None b)
    ∙ ap (λ (x : Option Bool). record (marks_of pairs) { offered = x }) (any_if_any-more (answers is_optional pairs) b)

-- ---- a set that is joined

with_same_mark : (marks : Marks) (mark other : Option Occur) (b : Bool) (new : Marks) → mark ≡ other → new ≡ with_mark marks other b → new ≡ with_mark marks mark b
with_same_mark marks mark other b new same is = is ∙ ap (λ m. with_mark marks m b) (sym same)

pub joins_must : (i : ℕ) (old new : Joined) (occur : Occur) (s : Numbers) → occur ≡ Must → new ≡ record old { required = Some (met old.required s) }
    → marks_at i new ≡ with_mark (marks_at i old) (Some occur) (contains s i)
joins_must i old new occur s is next = with_same_mark (marks_at i old) (Some occur) (Some Must) (contains s i) _ (ap (λ (m : Occur). Some m) is)
    (ap (λ (j : Joined). marks_at i j) next ∙ ap (λ (b : Bool). record (marks_at i old) { required = Some b }) (contains_met i old.required s))

pub joins_must_not : (i : ℕ) (old new : Joined) (occur : Occur) (s : Numbers) → occur ≡ MustNot → new ≡ record old { excluded = Some (united old.excluded s) }
    → marks_at i new ≡ with_mark (marks_at i old) (Some occur) (contains s i)
joins_must_not i old new occur s is next = with_same_mark (marks_at i old) (Some occur) (Some MustNot) (contains s i) _ (ap (λ (m : Occur). Some m) is)
    (ap (λ (j : Joined). marks_at i j) next ∙ ap (λ (b : Bool). record (marks_at i old) { excluded = Some b }) (contains_united i old.excluded s))

pub joins_should : (i : ℕ) (old new : Joined) (occur : Occur) (s : Numbers) → occur ≡ Should → new ≡ record old { offered = Some (united old.offered s) }
    → marks_at i new ≡ with_mark (marks_at i old) (Some occur) (contains s i)
joins_should i old new occur s is next = with_same_mark (marks_at i old) (Some occur) (Some Should) (contains s i) _ (ap (λ (m : Occur). Some m) is)
    (ap (λ (j : Joined). marks_at i j) next ∙ ap (λ (b : Bool). record (marks_at i old) { offered = Some b }) (contains_united i old.offered s))

pub joins_unmarked : (i : ℕ) (old new : Joined) (mark : Option Occur) (s : Numbers) → mark ≡ None → new ≡ record old { offered = Some (united old.offered s) }
    → marks_at i new ≡ with_mark (marks_at i old) mark (contains s i)
joins_unmarked i old new mark s is next = with_same_mark (marks_at i old) mark None (contains s i) _ is
    (ap (λ (j : Joined). marks_at i j) next ∙ ap (λ (b : Bool). record (marks_at i old) { offered = Some b }) (contains_united i old.offered s))

-- ---- the set of a clause

abbrev pub verdict : Marks → Bool
verdict m = unwrap_or m.required (unwrap_or m.offered (is_some m.excluded)) && not (unwrap_or m.excluded false)

contains_chosen : (n i : ℕ) (r o x : Option Numbers) → i < n
    → contains (unwrap_or r (unwrap_or o (if is_some x then below n else empty))) i
    ≡ unwrap_or (option_map (λ s. contains s i) r) (unwrap_or (option_map (λ s. contains s i) o) (is_some (option_map (λ s. contains s i) x)))
contains_chosen n i (Some r) o x h = refl
contains_chosen n i None (Some o) x h = refl
contains_chosen n i None None (Some x) h = contains_below n i ∙ lt-ltb i n h
contains_chosen n i None None None h = contains_empty i

contains_excluded : (i : ℕ) (x : Option Numbers) → contains (unwrap_or x empty) i ≡ unwrap_or (option_map (λ s. contains s i) x) false
contains_excluded i None = contains_empty i
contains_excluded i (Some x) = refl

pub contains_joined : (i : ℕ) (j : Joined) → i < j.documents → contains (joined_elements j) i ≡ verdict (marks_at i j)
contains_joined i j h =
    contains_difference (chosen j) (unwrap_or j.excluded empty) i
    ∙ ap (λ b. b && not (contains (unwrap_or j.excluded empty) i)) (contains_chosen j.documents i j.required j.offered j.excluded h)
    ∙ ap (λ b. unwrap_or (marks_at i j).required (unwrap_or (marks_at i j).offered (is_some (marks_at i j).excluded)) && not b) (contains_excluded i j.excluded)

-- ---- what a clause means

any-if : (bs : List Bool) → unwrap_or (any_if_any bs) false ≡ any bs
any-if [] = refl
any-if (b ∷ bs) = refl

abbrev mixed : List Bool → List Bool → List Bool → Bool
mixed musts nots optionals = all musts && not (any nots) && (not (length musts == 0) || any optionals)

with_musts : (m : Bool) (ms ns os : List Bool) → verdict (marks_from (m ∷ ms) ns os) ≡ mixed (m ∷ ms) ns os
with_musts m ms ns os =
    ap (λ b. all (m ∷ ms) && not b) (any-if ns) ∙ sym (and_true (all (m ∷ ms) && not (any ns)))
    ∙ ap (λ b. (all (m ∷ ms) && not (any ns)) && (not b || any os)) (sym (eqb-suc-zero (length ms)))

with_optionals : (ns : List Bool) (o : Bool) (os : List Bool) → verdict (marks_from [] ns (o ∷ os)) ≡ mixed [] ns (o ∷ os)
with_optionals ns o os = ap (λ b. any (o ∷ os) && not b) (any-if ns) ∙ and_swap (any (o ∷ os)) (not (any ns))

only_nots : (b : Bool) (ns : List Bool) → verdict (marks_from [] (b ∷ ns) []) ≡ not (any (b ∷ ns))
only_nots b ns = refl

-- no pair must be, and none is optional
all_nots : (pairs : Pairs) → list_all (λ one. is_must_not one.0) pairs ≡ ((length (answers is_must pairs) == 0) && (length (answers is_optional pairs) == 0))
all_nots [] = refl
all_nots ((Some Must, b) ∷ pairs) = ap (λ x. x && (length (answers is_optional pairs) == 0)) (sym (eqb-suc-zero (length (answers is_must pairs))))
all_nots ((Some MustNot, b) ∷ pairs) = all_nots pairs
all_nots ((Some Should, b) ∷ pairs) = sym (ap (λ x. (length (answers is_must pairs) == 0) && x) (eqb-suc-zero (length (answers is_optional pairs))) ∙ and_false (length (answers is_must pairs) == 0))
all_nots ((None, b) ∷ pairs) = sym (ap (λ x. (length (answers is_must pairs) == 0) && x) (eqb-suc-zero (length (answers is_optional pairs))) ∙ and_false (length (answers is_must pairs) == 0))

abbrev by_marks : List Bool → List Bool → List Bool → Bool
by_marks ms ns os = if (length ms == 0) && (length os == 0) then not (any ns) else mixed ms ns os

optional_verdict : (ms ns : List Bool) (o : Bool) (os : List Bool) → verdict (marks_from ms ns (o ∷ os)) ≡ by_marks ms ns (o ∷ os)
optional_verdict ms ns o os =
    either ms ∙ sym (ap (λ b. if (length ms == 0) && b then not (any ns) else mixed ms ns (o ∷ os)) (eqb-suc-zero (length os))
    ∙ ap (λ b. if b then not (any ns) else mixed ms ns (o ∷ os)) (and_false (length ms == 0)))
  where
    either : (ms : List Bool) → verdict (marks_from ms ns (o ∷ os)) ≡ mixed ms ns (o ∷ os)
    either [] = with_optionals ns o os
    either (m ∷ ms) = with_musts m ms ns (o ∷ os)

must_verdict : (m : Bool) (ms ns os : List Bool) → verdict (marks_from (m ∷ ms) ns os) ≡ by_marks (m ∷ ms) ns os
must_verdict m ms ns os = with_musts m ms ns os ∙ sym (ap (λ b. if b && (length os == 0) then not (any ns) else mixed (m ∷ ms) ns os) (eqb-suc-zero (length ms)))

not_verdict : (ms : List Bool) (n : Bool) (ns os : List Bool) → verdict (marks_from ms (n ∷ ns) os) ≡ by_marks ms (n ∷ ns) os
not_verdict [] n ns [] = only_nots n ns
not_verdict [] n ns (o ∷ os) = optional_verdict [] (n ∷ ns) o os
not_verdict (m ∷ ms) n ns os = must_verdict m ms (n ∷ ns) os

clause_is : (p : Option Occur × Bool) (pairs : Pairs) → satisfies_clause (p ∷ pairs) ≡ by_marks (answers is_must (p ∷ pairs)) (answers is_must_not (p ∷ pairs)) (answers is_optional (p ∷ pairs))
unfolding satisfies_clause
clause_is p pairs = ap (λ b. if b then not (any (answers is_must_not (p ∷ pairs))) else satisfies_mixed (p ∷ pairs)) (all_nots (p ∷ pairs))

pub verdict-clause : (pairs : Pairs) → verdict (marks_of pairs) ≡ satisfies_clause pairs
unfolding satisfies_clause
verdict-clause [] = refl
verdict-clause ((Some Must, b) ∷ pairs) = must_verdict b (answers is_must pairs) (answers is_must_not pairs) (answers is_optional pairs) ∙ sym (clause_is (Some Must, b) pairs)
verdict-clause ((Some MustNot, b) ∷ pairs) = not_verdict (answers is_must pairs) b (answers is_must_not pairs) (answers is_optional pairs) ∙ sym (clause_is (Some MustNot, b) pairs)
verdict-clause ((Some Should, b) ∷ pairs) = optional_verdict (answers is_must pairs) (answers is_must_not pairs) b (answers is_optional pairs) ∙ sym (clause_is (Some Should, b) pairs)
verdict-clause ((None, b) ∷ pairs) = optional_verdict (answers is_must pairs) (answers is_must_not pairs) b (answers is_optional pairs) ∙ sym (clause_is (None, b) pairs)
