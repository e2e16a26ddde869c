-- The test of equality of trees is equality.
use Rattle.std.proofs.Common.{◌≡◌, ◌∙◌, sym, ap, subst, refl, ℕ, Bool, true, false, ◌&&◌, ◌==◌, List, [], ◌∷◌, map, Option, Some, None}
use Rattle.std.specs.Str.{bytes_eq}
use Rattle.std.specs.Bool.{Decides}
use Rattle.std.proofs.lemmas.Slice.Eq.{bytes_eq-Decides}
use Rattle.std.proofs.lemmas.Bool.Decides.{Decides-eqb}
use Rattle.std.proofs.lemmas.Bool.{and_parts, and_from}
use Rattle.query_tree.specs.declared.tree.Occur.{Occur}
use Rattle.query_tree.specs.declared.tree.Occur.TheVariants as occur
use Rattle.query_tree.specs.declared.tree.Delimiter.{Delimiter}
use Rattle.query_tree.specs.declared.tree.Delimiter.TheVariants as delimiter
use Rattle.query_tree.specs.Decimals.{Digits}
use Rattle.query_tree.specs.declared.tree.UserInputLiteral.{UserInputLiteral}
use Rattle.query_tree.specs.declared.tree.UserInputBound.{UserInputBound}
use Rattle.query_tree.specs.declared.tree.UserInputBound.TheVariants.{Inclusive, Exclusive, Unbounded}
use Rattle.query_tree.specs.declared.tree.UserInputLeaf.{UserInputLeaf}
use Rattle.query_tree.specs.declared.tree.UserInputLeaf.TheVariants as leaf
use Rattle.query_tree.specs.declared.tree.UserInputAst.{UserInputAst, fold-UserInputAst, fold-roll-UserInputAst, ind-UserInputAst, roll-UserInputAst, map-UserInputAst}
use Rattle.query_tree.specs.declared.tree.UserInputAst.TheVariants as tree
use Rattle.query_tree.specs.declared.tree.UserInputAst.TheVariants.{rolls-Clause, rolls-Boost, rolls-Leaf}
use Rattle.query_tree.specs.declared.tree.UserInputAst.TheOpen as layer
use Rattle.query_tree.specs.declared.tree.UserInputAst.TheOpen.{UserInputAst-F}
use Rattle.query_tree.specs.Rewriting.{same_occur, same_delimiter, same_bool, same_field, same_bound, same_texts, same_literal, same_leaf, same_decimal, same_tree}
use Rattle.query_tree.proofs.Plain.{cons2, Plain, Plains, clause, boost, end, next, tree_of, pairs_of, same, all_same, same_is}
use Rattle.query_tree.proofs.Plain as plain

text_is : (a b : List ℕ) → bytes_eq a b ≡ true → a ≡ b
text_is a b = (bytes_eq-Decides a b).0

text_self : (a : List ℕ) → bytes_eq a a ≡ true
text_self a = (bytes_eq-Decides a a).1 refl

occur_is : (a b : Option Occur) → same_occur a b ≡ true → a ≡ b
occur_is None None h = refl
occur_is (Some occur.Should) (Some occur.Should) h = refl
occur_is (Some occur.Must) (Some occur.Must) h = refl
occur_is (Some occur.MustNot) (Some occur.MustNot) h = refl
occur_is a b h = cc

occur_self : (a : Option Occur) → same_occur a a ≡ true
occur_self None = refl
occur_self (Some occur.Should) = refl
occur_self (Some occur.Must) = refl
occur_self (Some occur.MustNot) = refl

delimiter_is : (a b : Delimiter) → same_delimiter a b ≡ true → a ≡ b
delimiter_is delimiter.SingleQuotes delimiter.SingleQuotes h = refl
delimiter_is delimiter.DoubleQuotes delimiter.DoubleQuotes h = refl
delimiter_is delimiter.None delimiter.None h = refl
delimiter_is a b h = cc

delimiter_self : (a : Delimiter) → same_delimiter a a ≡ true
delimiter_self delimiter.SingleQuotes = refl
delimiter_self delimiter.DoubleQuotes = refl
delimiter_self delimiter.None = refl

bool_is : (a b : Bool) → same_bool a b ≡ true → a ≡ b
bool_is true true h = refl
bool_is false false h = refl
bool_is a b h = cc

bool_self : (a : Bool) → same_bool a a ≡ true
bool_self true = refl
bool_self false = refl

field_is : (a b : Option (List ℕ)) → same_field a b ≡ true → a ≡ b
field_is None None h = refl
field_is (Some a) (Some b) h = ap (λ x. Some x) (text_is a b h)
field_is None (Some b) h = cc
field_is (Some a) None h = cc

field_self : (a : Option (List ℕ)) → same_field a a ≡ true
field_self None = refl
field_self (Some a) = text_self a

bound_is : (a b : UserInputBound) → same_bound a b ≡ true → a ≡ b
bound_is (Inclusive a) (Inclusive b) h = ap Inclusive (text_is a b h)
bound_is (Exclusive a) (Exclusive b) h = ap Exclusive (text_is a b h)
bound_is Unbounded Unbounded h = refl
bound_is a b h = cc

bound_self : (a : UserInputBound) → same_bound a a ≡ true
bound_self (Inclusive a) = text_self a
bound_self (Exclusive a) = text_self a
bound_self Unbounded = refl

texts_are : (a b : List (List ℕ)) → same_texts a b ≡ true → a ≡ b
texts_are [] [] h = refl
texts_are (a ∷ as') (b ∷ bs) h =
    let both = and_parts (bytes_eq a b) (same_texts as' bs) h in
    ap (λ x. x ∷ as') (text_is a b both.0) ∙ ap (λ xs. b ∷ xs) (texts_are as' bs both.1)
texts_are [] (b ∷ bs) h = cc
texts_are (a ∷ as') [] h = cc

texts_self : (a : List (List ℕ)) → same_texts a a ≡ true
texts_self [] = refl
texts_self (a ∷ as') = and_from _ _ (text_self a) (texts_self as')

made : Option (List ℕ) → List ℕ → Delimiter → ℕ → Bool → UserInputLiteral
made f p d s x = record { field_name = f; phrase = p; delimiter = d; slop = s; prefix = x }

literal_is : (a b : UserInputLiteral) → same_literal a b ≡ true → a ≡ b
unfolding made
literal_is a b h =
    let parts = and_parts (same_field a.field_name b.field_name && bytes_eq a.phrase b.phrase) (same_delimiter a.delimiter b.delimiter && (a.slop == b.slop && same_bool a.prefix b.prefix)) h in
    let front = and_parts (same_field a.field_name b.field_name) (bytes_eq a.phrase b.phrase) parts.0 in
    let back = and_parts (same_delimiter a.delimiter b.delimiter) (a.slop == b.slop && same_bool a.prefix b.prefix) parts.1 in
    let last = and_parts (a.slop == b.slop) (same_bool a.prefix b.prefix) back.1 in
    ap (λ f. made f a.phrase a.delimiter a.slop a.prefix) (field_is a.field_name b.field_name front.0)
    ∙ ap (λ p. made b.field_name p a.delimiter a.slop a.prefix) (text_is a.phrase b.phrase front.1)
    ∙ ap (λ d. made b.field_name b.phrase d a.slop a.prefix) (delimiter_is a.delimiter b.delimiter back.0)
    ∙ ap (λ s. made b.field_name b.phrase b.delimiter s a.prefix) ((Decides-eqb a.slop b.slop).0 last.0)
    ∙ ap (λ x. made b.field_name b.phrase b.delimiter b.slop x) (bool_is a.prefix b.prefix last.1)

literal_self : (a : UserInputLiteral) → same_literal a a ≡ true
literal_self a = and_from _ _ (and_from _ _ (field_self a.field_name) (text_self a.phrase)) (and_from _ _ (delimiter_self a.delimiter) (and_from _ _ ((Decides-eqb a.slop a.slop).1 refl) (bool_self a.prefix)))

leaf_is : (a b : UserInputLeaf) → same_leaf a b ≡ true → a ≡ b
unfolding same_leaf
leaf_is (leaf.Literal a) (leaf.Literal b) h = ap leaf.Literal (literal_is a b h)
leaf_is leaf.All leaf.All h = refl
leaf_is (leaf.Range f a b) (leaf.Range g c d) h =
    let parts = and_parts (same_field f g) (same_bound a c && same_bound b d) h in
    let bounds = and_parts (same_bound a c) (same_bound b d) parts.1 in
    ap (λ x. leaf.Range x a b) (field_is f g parts.0) ∙ ap (λ x. leaf.Range g x b) (bound_is a c bounds.0) ∙ ap (λ x. leaf.Range g c x) (bound_is b d bounds.1)
leaf_is (leaf.Set f a) (leaf.Set g b) h =
    let parts = and_parts (same_field f g) (same_texts a b) h in
    ap (λ x. leaf.Set x a) (field_is f g parts.0) ∙ ap (λ x. leaf.Set g x) (texts_are a b parts.1)
leaf_is (leaf.Exists f) (leaf.Exists g) h = ap leaf.Exists (text_is f g h)
leaf_is (leaf.Regex f a) (leaf.Regex g b) h =
    let parts = and_parts (same_field f g) (bytes_eq a b) h in
    ap (λ x. leaf.Regex x a) (field_is f g parts.0) ∙ ap (λ x. leaf.Regex g x) (text_is a b parts.1)
leaf_is a b h = cc

leaf_self : (a : UserInputLeaf) → same_leaf a a ≡ true
unfolding same_leaf
leaf_self (leaf.Literal a) = literal_self a
leaf_self leaf.All = refl
leaf_self (leaf.Range f a b) = and_from _ _ (field_self f) (and_from _ _ (bound_self a) (bound_self b))
leaf_self (leaf.Set f a) = and_from _ _ (field_self f) (texts_self a)
leaf_self (leaf.Exists f) = text_self f
leaf_self (leaf.Regex f a) = and_from _ _ (field_self f) (text_self a)

decimal_is : (a b : Digits) → same_decimal a b ≡ true → a ≡ b
decimal_is a b h =
    let parts = and_parts (bytes_eq a.whole b.whole) (bytes_eq a.fraction b.fraction) h in
    let from : List ℕ → List ℕ → Digits = λ w f. record { whole = w; fraction = f } in
    ap (λ w. from w a.fraction) (text_is a.whole b.whole parts.0) ∙ ap (λ f. from b.whole f) (text_is a.fraction b.fraction parts.1)

decimal_self : (a : Digits) → same_decimal a a ≡ true
decimal_self a = and_from _ _ (text_self a.whole) (text_self a.fraction)

mutual
  same_reads : (t u : Plain) → same t u ≡ true → t ≡ u
  same_reads (clause ps) (clause qs) h = ap clause (all_same_reads ps qs h)
  same_reads (boost t d) (boost u e) h =
      let parts = and_parts (same t u) (same_decimal d e) h in
      ap (λ x. boost x d) (same_reads t u parts.0) ∙ ap (λ x. boost u x) (decimal_is d e parts.1)
  same_reads (plain.leaf a) (plain.leaf b) h = ap plain.leaf (leaf_is a b h)
  same_reads t u h = cc

  all_same_reads : (ps qs : Plains) → all_same ps qs ≡ true → ps ≡ qs
  all_same_reads end end h = refl
  all_same_reads (next m t ps) (next n u qs) h =
      let parts = and_parts (same_occur m n && same t u) (all_same ps qs) h in
      let front = and_parts (same_occur m n) (same t u) parts.0 in
      ap (λ x. next x t ps) (occur_is m n front.0) ∙ ap (λ x. next n x ps) (same_reads t u front.1) ∙ ap (λ x. next n u x) (all_same_reads ps qs parts.1)
  all_same_reads ps qs h = cc

mutual
  same_self : (t : Plain) → same t t ≡ true
  same_self (clause ps) = all_same_self ps
  same_self (boost t d) = and_from _ _ (same_self t) (decimal_self d)
  same_self (plain.leaf a) = leaf_self a

  all_same_self : (ps : Plains) → all_same ps ps ≡ true
  all_same_self end = refl
  all_same_self (next m t ps) = and_from _ _ (and_from _ _ (occur_self m) (same_self t)) (all_same_self ps)

-- ---- each tree is the tree of a plain one

abbrev plains_of : List (Option Occur × Plain) → Plains
plains_of [] = end
plains_of (p ∷ ps) = next p.0 p.1 (plains_of ps)

abbrev plain_layer : UserInputAst-F Plain → Plain
plain_layer (layer.Clause pairs) = clause (plains_of pairs)
plain_layer (layer.Boost t d) = boost t d
plain_layer (layer.Leaf l) = plain.leaf l

unfoldable pub plain_of : UserInputAst → Plain
plain_of = fold-UserInputAst Plain plain_layer

IsPlain : UserInputAst → Type 0
IsPlain t = tree_of (plain_of t) ≡ t

pairs_back : {S : Type 0} (value : S → UserInputAst) (is : (s : S) → IsPlain (value s)) (es : List (Option Occur × S))
    → pairs_of (plains_of (map (λ (p : Option Occur × UserInputAst). (p.0, plain_of p.1)) (map (λ (e : Option Occur × S). (e.0, value e.1)) es))) ≡ map (λ (e : Option Occur × S). (e.0, value e.1)) es
unfolding IsPlain
pairs_back value is [] = refl
pairs_back value is (e ∷ es) = cons2 (is e.1) (pairs_back value is es)

layer_plain : {S : Type 0} (value : S → UserInputAst) (is : (s : S) → IsPlain (value s)) (y : UserInputAst-F S) → IsPlain (roll-UserInputAst (map-UserInputAst S UserInputAst value y))
unfolding IsPlain plain_of
layer_plain value is (layer.Clause es) =
    let pairs : List (Option Occur × UserInputAst) = map (λ e. (e.0, value e.1)) es in
    ap tree_of (fold-roll-UserInputAst _ _ (layer.Clause pairs)) ∙ ap tree.Clause (pairs_back value is es) ∙ sym (rolls-Clause pairs)
layer_plain value is (layer.Boost s d) = ap tree_of (fold-roll-UserInputAst _ _ (layer.Boost (value s) d)) ∙ ap (λ t. tree.Boost t d) (is s) ∙ sym (rolls-Boost (value s) d)
layer_plain value is (layer.Leaf l) = ap tree_of (fold-roll-UserInputAst _ _ (layer.Leaf l)) ∙ sym (rolls-Leaf l)

is_plain : (t : UserInputAst) → IsPlain t
is_plain = ind-UserInputAst IsPlain (λ x y h. subst (λ z. IsPlain (roll-UserInputAst z)) h (layer_plain (λ e. e.0) (λ e. e.1) y))

pub tree-plain : (t : UserInputAst) → tree_of (plain_of t) ≡ t
unfolding IsPlain
tree-plain t = is_plain t

pub same_tree-self : (t : UserInputAst) → same_tree t t ≡ true
unfolding IsPlain
same_tree-self t = ap (λ x. same_tree x x) (sym (is_plain t)) ∙ same_is (plain_of t) (plain_of t) ∙ same_self (plain_of t)

same_tree-reads : (a b : UserInputAst) → same_tree a b ≡ true → a ≡ b
unfolding IsPlain
same_tree-reads a b h =
    let same_plain : same (plain_of a) (plain_of b) ≡ true = sym (same_is (plain_of a) (plain_of b)) ∙ ap (λ x. same_tree x (tree_of (plain_of b))) (is_plain a) ∙ ap (same_tree a) (is_plain b) ∙ h in
    sym (is_plain a) ∙ ap tree_of (same_reads (plain_of a) (plain_of b) same_plain) ∙ is_plain b

pub same_tree-Decides : (a b : UserInputAst) → Decides (same_tree a b) (a ≡ b)
same_tree-Decides a b = (same_tree-reads a b, λ e. ap (same_tree a) (sym e) ∙ same_tree-self a)
