-- What the derived comparison of trees answers: whether they are equal by parts.
use Rattle.std.proofs.Common.{◌≡◌, ◌∙◌, sym, ap, refl, ℕ, Bool, true, false, ◌&&◌, ◌==◌, List, [], ◌∷◌, Option, Some, None}
use Rattle.std.specs.Option.{option_eq}
use Rattle.std.specs.Cmp.{IsEquivalence}
use Rattle.std.proofs.lemmas.Bool.{and_parts, false≢true}
use Rattle.std.proofs.lemmas.Bool.Decides.{Decides-eqb}
use mathlib.Core.Bool.{beq}
use lib.Pointwise.{pointwise}
use Rattle.query_tree.specs.declared.tree.Occur.{Occur}
use Rattle.query_tree.specs.declared.tree.Occur.TheVariants as occur
use Rattle.query_tree.specs.declared.tree.Delimiter.{Delimiter}
use Rattle.query_tree.specs.declared.tree.Delimiter.TheVariants as delimiter
use Rattle.query_tree.specs.Decimals.{Digits}
use Rattle.query_tree.specs.declared.tree.UserInputLiteral.{UserInputLiteral}
use Rattle.query_tree.specs.declared.tree.UserInputBound.{UserInputBound}
use Rattle.query_tree.specs.declared.tree.UserInputBound.TheVariants as bound
use Rattle.query_tree.specs.declared.tree.UserInputLeaf.{UserInputLeaf}
use Rattle.query_tree.specs.declared.tree.UserInputLeaf.TheVariants as leaf
use Rattle.query_tree.specs.declared.tree.UserInputAst.{UserInputAst}
use Rattle.query_tree.specs.declared.tree.UserInputAst.TheVariants as tree
use Rattle.query_tree.specs.declared.tree.UserInputAst.TheVariants.{outs-Leaf, outs-Clause, outs-Boost}
use Rattle.query_tree.specs.contracts.tree.OccurPartialEq.TheImpl as occurs
use Rattle.query_tree.specs.contracts.tree.DelimiterPartialEq.TheImpl as delimiters
use Rattle.query_tree.specs.contracts.decimal.DecimalPartialEq.TheImpl as decimals
use Rattle.query_tree.specs.contracts.tree.UserInputLiteralPartialEq.TheImpl as literals
use Rattle.query_tree.specs.contracts.tree.UserInputBoundPartialEq.TheImpl as bounds
use Rattle.query_tree.specs.contracts.tree.UserInputLeafPartialEq.TheImpl as leaves
use Rattle.query_tree.specs.contracts.tree.UserInputAstPartialEq.TheImpl as trees
use Rattle.query_tree.specs.contracts.tree.UserInputAstPartialEq.TheImpl.Laws as laws
use Rattle.query_tree.specs.contracts.tree.UserInputAstEq.TheImpl.Laws as equivalence
use Rattle.std.specs.Prelude.{filter, not}
use Rattle.indexmap.specs.IndexSet.{insert_all}
use Rattle.query_tree.proofs.Repeats.{TellsApart, first_ones, filter_same, kept_once}
use Rattle.query_tree.specs.Rewriting.{same_tree, same_pair, same_occur, without_repeats}
use Rattle.query_tree.proofs.Plain.{Plain, Plains, clause, boost, end, next, tree_of, pairs_of}
use Rattle.query_tree.proofs.Plain as plain
use Rattle.query_tree.proofs.Equality.{plain_of, tree-plain, same_tree-Decides}

text_reads : (a b : List ℕ) → pointwise (λ x y. x == y) a b ≡ true → a ≡ b
text_reads [] [] h = refl
text_reads [] (y ∷ ys) h = cc
text_reads (x ∷ xs) [] h = cc
text_reads (x ∷ xs) (y ∷ ys) h =
    let parts = and_parts (x == y) (pointwise (λ u v. u == v) xs ys) h in
    ap (λ z. z ∷ xs) ((Decides-eqb x y).0 parts.0) ∙ ap (λ zs. y ∷ zs) (text_reads xs ys parts.1)

texts_read : (a b : List (List ℕ)) → pointwise (pointwise (λ x y. x == y)) a b ≡ true → a ≡ b
texts_read [] [] h = refl
texts_read [] (y ∷ ys) h = cc
texts_read (x ∷ xs) [] h = cc
texts_read (x ∷ xs) (y ∷ ys) h =
    let parts = and_parts (pointwise (λ u v. u == v) x y) (pointwise (pointwise (λ u v. u == v)) xs ys) h in
    ap (λ z. z ∷ xs) (text_reads x y parts.0) ∙ ap (λ zs. y ∷ zs) (texts_read xs ys parts.1)

field_reads : (a b : Option (List ℕ)) → option_eq (pointwise (λ x y. x == y)) a b ≡ true → a ≡ b
field_reads None None h = refl
field_reads (Some a) (Some b) h = ap (λ x. Some x) (text_reads a b h)
field_reads None (Some b) h = cc
field_reads (Some a) None h = cc

mark_reads : (a b : Option Occur) → option_eq occurs.ghosts.eq a b ≡ true → a ≡ b
mark_reads None None h = refl
mark_reads (Some occur.Should) (Some occur.Should) h = refl
mark_reads (Some occur.Must) (Some occur.Must) h = refl
mark_reads (Some occur.MustNot) (Some occur.MustNot) h = refl
mark_reads a b h = cc

delimiter_reads : (a b : Delimiter) → delimiters.ghosts.eq a b ≡ true → a ≡ b
delimiter_reads delimiter.SingleQuotes delimiter.SingleQuotes h = refl
delimiter_reads delimiter.DoubleQuotes delimiter.DoubleQuotes h = refl
delimiter_reads delimiter.None delimiter.None h = refl
delimiter_reads a b h = cc

bound_reads : (a b : UserInputBound) → bounds.ghosts.eq a b ≡ true → a ≡ b
bound_reads (bound.Inclusive a) (bound.Inclusive b) h = ap bound.Inclusive (text_reads a b h)
bound_reads (bound.Exclusive a) (bound.Exclusive b) h = ap bound.Exclusive (text_reads a b h)
bound_reads bound.Unbounded bound.Unbounded h = refl
bound_reads a b h = cc

made : Option (List ℕ) → List ℕ → Delimiter → ℕ → Bool → UserInputLiteral
made f p d s x = record { field_name = f; phrase = p; delimiter = d; slop = s; prefix = x }

bool_reads : (a b : Bool) → beq a b ≡ true → a ≡ b
bool_reads true true h = refl
bool_reads false false h = refl
bool_reads true false h = cc
bool_reads false true h = cc

literal_reads : (a b : UserInputLiteral) → literals.ghosts.eq a b ≡ true → a ≡ b
unfolding made
literal_reads a b h =
    let one = and_parts (option_eq (pointwise (λ x y. x == y)) a.field_name b.field_name) (pointwise (λ x y. x == y) a.phrase b.phrase && (delimiters.ghosts.eq a.delimiter b.delimiter && (a.slop == b.slop && beq a.prefix b.prefix))) h in
    let two = and_parts (pointwise (λ x y. x == y) a.phrase b.phrase) (delimiters.ghosts.eq a.delimiter b.delimiter && (a.slop == b.slop && beq a.prefix b.prefix)) one.1 in
    let three = and_parts (delimiters.ghosts.eq a.delimiter b.delimiter) (a.slop == b.slop && beq a.prefix b.prefix) two.1 in
    let four = and_parts (a.slop == b.slop) (beq a.prefix b.prefix) three.1 in
    ap (λ f. made f a.phrase a.delimiter a.slop a.prefix) (field_reads a.field_name b.field_name one.0)
    ∙ ap (λ p. made b.field_name p a.delimiter a.slop a.prefix) (text_reads a.phrase b.phrase two.0)
    ∙ ap (λ d. made b.field_name b.phrase d a.slop a.prefix) (delimiter_reads a.delimiter b.delimiter three.0)
    ∙ ap (λ s. made b.field_name b.phrase b.delimiter s a.prefix) ((Decides-eqb a.slop b.slop).0 four.0)
    ∙ ap (λ x. made b.field_name b.phrase b.delimiter b.slop x) (bool_reads a.prefix b.prefix four.1)

pub leaf_reads : (a b : UserInputLeaf) → leaves.ghosts.eq a b ≡ true → a ≡ b
leaf_reads (leaf.Literal a) (leaf.Literal b) h = ap leaf.Literal (literal_reads a b h)
leaf_reads leaf.All leaf.All h = refl
leaf_reads (leaf.Range f a b) (leaf.Range g c d) h =
    let parts = and_parts (option_eq (pointwise (λ x y. x == y)) f g) (bounds.ghosts.eq a c && bounds.ghosts.eq b d) h in
    let more = and_parts (bounds.ghosts.eq a c) (bounds.ghosts.eq b d) parts.1 in
    ap (λ x. leaf.Range x a b) (field_reads f g parts.0) ∙ ap (λ x. leaf.Range g x b) (bound_reads a c more.0) ∙ ap (λ x. leaf.Range g c x) (bound_reads b d more.1)
leaf_reads (leaf.Set f a) (leaf.Set g b) h =
    let parts = and_parts (option_eq (pointwise (λ x y. x == y)) f g) (pointwise (pointwise (λ x y. x == y)) a b) h in
    ap (λ x. leaf.Set x a) (field_reads f g parts.0) ∙ ap (λ x. leaf.Set g x) (texts_read a b parts.1)
leaf_reads (leaf.Exists f) (leaf.Exists g) h = ap leaf.Exists (text_reads f g h)
leaf_reads (leaf.Regex f a) (leaf.Regex g b) h =
    let parts = and_parts (option_eq (pointwise (λ x y. x == y)) f g) (pointwise (λ x y. x == y) a b) h in
    ap (λ x. leaf.Regex x a) (field_reads f g parts.0) ∙ ap (λ x. leaf.Regex g x) (text_reads a b parts.1)
leaf_reads a b h = cc

pub decimal_reads : (a b : Digits) → decimals.ghosts.eq a b ≡ true → a ≡ b
decimal_reads a b h =
    let parts = and_parts (pointwise (λ x y. x == y) a.whole b.whole) (pointwise (λ x y. x == y) a.fraction b.fraction) h in
    let from : List ℕ → List ℕ → Digits = λ w f. record { whole = w; fraction = f } in
    ap (λ w. from w a.fraction) (text_reads a.whole b.whole parts.0) ∙ ap (λ f. from b.whole f) (text_reads a.fraction b.fraction parts.1)

-- ---- each pair of variants

eq : UserInputAst → UserInputAst → Bool
eq = trees.ghosts.eq

leaf_leaf : (a b : UserInputLeaf) → trees.ghosts.eq (tree.Leaf a) (tree.Leaf b) ≡ leaves.ghosts.eq a b
leaf_leaf a b = laws.is (tree.Leaf a) (tree.Leaf b) ∙ simp outs-Leaf

leaf_clause : (a : UserInputLeaf) (b : List (Option Occur × UserInputAst)) → trees.ghosts.eq (tree.Leaf a) (tree.Clause b) ≡ false
leaf_clause a b = laws.is (tree.Leaf a) (tree.Clause b) ∙ simp (outs-Leaf, outs-Clause)

leaf_boost : (a : UserInputLeaf) (b : UserInputAst) (n : Digits) → trees.ghosts.eq (tree.Leaf a) (tree.Boost b n) ≡ false
leaf_boost a b n = laws.is (tree.Leaf a) (tree.Boost b n) ∙ simp (outs-Leaf, outs-Boost)

clause_leaf : (a : List (Option Occur × UserInputAst)) (b : UserInputLeaf) → trees.ghosts.eq (tree.Clause a) (tree.Leaf b) ≡ false
clause_leaf a b = laws.is (tree.Clause a) (tree.Leaf b) ∙ simp (outs-Leaf, outs-Clause)

clause_boost : (a : List (Option Occur × UserInputAst)) (b : UserInputAst) (n : Digits) → trees.ghosts.eq (tree.Clause a) (tree.Boost b n) ≡ false
clause_boost a b n = laws.is (tree.Clause a) (tree.Boost b n) ∙ simp (outs-Clause, outs-Boost)

boost_leaf : (a : UserInputAst) (n : Digits) (b : UserInputLeaf) → trees.ghosts.eq (tree.Boost a n) (tree.Leaf b) ≡ false
boost_leaf a n b = laws.is (tree.Boost a n) (tree.Leaf b) ∙ simp (outs-Leaf, outs-Boost)

boost_clause : (a : UserInputAst) (n : Digits) (b : List (Option Occur × UserInputAst)) → trees.ghosts.eq (tree.Boost a n) (tree.Clause b) ≡ false
boost_clause a n b = laws.is (tree.Boost a n) (tree.Clause b) ∙ simp (outs-Clause, outs-Boost)

pub boost_boost : (a b : UserInputAst) (n m : Digits) → trees.ghosts.eq (tree.Boost a n) (tree.Boost b m) ≡ trees.ghosts.eq a b && decimals.ghosts.eq n m
boost_boost a b n m = laws.is (tree.Boost a n) (tree.Boost b m) ∙ simp outs-Boost

abbrev pub pair_eq : Option Occur × UserInputAst → Option Occur × UserInputAst → Bool
pair_eq x y = option_eq occurs.ghosts.eq x.0 y.0 && trees.ghosts.eq x.1 y.1

pub clause_clause : (a b : List (Option Occur × UserInputAst)) → trees.ghosts.eq (tree.Clause a) (tree.Clause b) ≡ pointwise pair_eq a b
clause_clause a b = laws.is (tree.Clause a) (tree.Clause b) ∙ simp outs-Clause

-- ---- trees

mutual
  plain_reads : (t u : Plain) → trees.ghosts.eq (tree_of t) (tree_of u) ≡ true → t ≡ u
  plain_reads (clause ps) (clause qs) h = ap clause (plains_read ps qs (sym (clause_clause (pairs_of ps) (pairs_of qs)) ∙ h))
  plain_reads (boost t d) (boost u e) h =
      let parts = and_parts (trees.ghosts.eq (tree_of t) (tree_of u)) (decimals.ghosts.eq d e) (sym (boost_boost (tree_of t) (tree_of u) d e) ∙ h) in
      ap (λ x. boost x d) (plain_reads t u parts.0) ∙ ap (λ x. boost u x) (decimal_reads d e parts.1)
  plain_reads (plain.leaf a) (plain.leaf b) h = ap plain.leaf (leaf_reads a b (sym (leaf_leaf a b) ∙ h))
  plain_reads (clause ps) (boost u e) h = absurd (false≢true (sym (clause_boost (pairs_of ps) (tree_of u) e) ∙ h))
  plain_reads (clause ps) (plain.leaf b) h = absurd (false≢true (sym (clause_leaf (pairs_of ps) b) ∙ h))
  plain_reads (boost t d) (clause qs) h = absurd (false≢true (sym (boost_clause (tree_of t) d (pairs_of qs)) ∙ h))
  plain_reads (boost t d) (plain.leaf b) h = absurd (false≢true (sym (boost_leaf (tree_of t) d b) ∙ h))
  plain_reads (plain.leaf a) (clause qs) h = absurd (false≢true (sym (leaf_clause a (pairs_of qs)) ∙ h))
  plain_reads (plain.leaf a) (boost u e) h = absurd (false≢true (sym (leaf_boost a (tree_of u) e) ∙ h))

  plains_read : (ps qs : Plains) → pointwise pair_eq (pairs_of ps) (pairs_of qs) ≡ true → ps ≡ qs
  plains_read end end h = refl
  plains_read end (next n u qs) h = cc
  plains_read (next m t ps) end h = cc
  plains_read (next m t ps) (next n u qs) h =
      let parts = and_parts (option_eq occurs.ghosts.eq m n && trees.ghosts.eq (tree_of t) (tree_of u)) (pointwise pair_eq (pairs_of ps) (pairs_of qs)) h in
      let front = and_parts (option_eq occurs.ghosts.eq m n) (trees.ghosts.eq (tree_of t) (tree_of u)) parts.0 in
      ap (λ x. next x t ps) (mark_reads m n front.0) ∙ ap (λ x. next n x ps) (plain_reads t u front.1) ∙ ap (λ x. next n u x) (plains_read ps qs parts.1)

tree_reads : (a b : UserInputAst) → trees.ghosts.eq a b ≡ true → a ≡ b
tree_reads a b h =
    let same : trees.ghosts.eq (tree_of (plain_of a)) (tree_of (plain_of b)) ≡ true = ap (λ x. trees.ghosts.eq x (tree_of (plain_of b))) (tree-plain a) ∙ ap (trees.ghosts.eq a) (tree-plain b) ∙ h in
    sym (tree-plain a) ∙ ap tree_of (plain_reads (plain_of a) (plain_of b) same) ∙ tree-plain b

tree_self : (a : UserInputAst) → trees.ghosts.eq a a ≡ true
tree_self a = let h : IsEquivalence trees.ghosts.eq = equivalence.laws-law in h.refl a

-- two tests that are each true exactly at equal values
one_test : (p q : Bool) → (p ≡ true → q ≡ true) → (q ≡ true → p ≡ true) → p ≡ q
one_test true q f g = sym (f refl)
one_test false true f g = g refl
one_test false false f g = refl

pub tree_eq : (a b : UserInputAst) → trees.ghosts.eq a b ≡ same_tree a b
tree_eq a b =
    one_test (trees.ghosts.eq a b) (same_tree a b)
    (λ h. (same_tree-Decides a b).1 (tree_reads a b h))
    (λ h. ap (trees.ghosts.eq a) (sym ((same_tree-Decides a b).0 h)) ∙ tree_self a)

mark_eq : (a b : Option Occur) → option_eq occurs.ghosts.eq a b ≡ same_occur a b
mark_eq None None = refl
mark_eq (Some occur.Should) (Some occur.Should) = refl
mark_eq (Some occur.Must) (Some occur.Must) = refl
mark_eq (Some occur.MustNot) (Some occur.MustNot) = refl
mark_eq a b = refl

pub pair_eq_is : (x y : Option Occur × UserInputAst) → pair_eq x y ≡ same_pair x y
pair_eq_is x y = ap (λ b. b && trees.ghosts.eq x.1 y.1) (mark_eq x.0 y.0) ∙ ap (λ b. same_occur x.0 y.0 && b) (tree_eq x.1 y.1)

-- ---- equal pairs kept once

mark_self : (m : Option Occur) → option_eq occurs.ghosts.eq m m ≡ true
mark_self None = refl
mark_self (Some occur.Should) = refl
mark_self (Some occur.Must) = refl
mark_self (Some occur.MustNot) = refl

pub tells_apart : TellsApart pair_eq
tells_apart = record {
  reads = λ x y h.
      let parts = and_parts (option_eq occurs.ghosts.eq x.0 y.0) (trees.ghosts.eq x.1 y.1) h in
      ap (λ m. (m, x.1)) (mark_reads x.0 y.0 parts.0) ∙ ap (λ u. (y.0, u)) (tree_reads x.1 y.1 parts.1);
  self = λ x. pair_self x.0 x.1;
}
  where
    pair_self : (m : Option Occur) (u : UserInputAst) → pair_eq (m, u) (m, u) ≡ true
    pair_self m u = ap (λ b. b && trees.ghosts.eq u u) (mark_self m) ∙ tree_self u

without : (xs : List (Option Occur × UserInputAst)) → first_ones pair_eq xs ≡ without_repeats xs
unfolding without_repeats
without [] = refl
without (x ∷ xs) = ap (λ ys. x ∷ ys) (filter_same (λ y. not (pair_eq x y)) (λ y. not (same_pair x y)) (λ y. ap not (pair_eq_is x y)) (first_ones pair_eq xs) ∙ ap (filter (λ y. not (same_pair x y))) (without xs))

pub inserted : (xs : List (Option Occur × UserInputAst)) → insert_all pair_eq [] xs ≡ without_repeats xs
inserted xs = kept_once pair_eq tells_apart xs ∙ without xs
