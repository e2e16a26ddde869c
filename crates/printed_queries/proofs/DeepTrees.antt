-- The text of an expression that opens more levels than are left.
use Rattle.std.proofs.Common.{◌≡◌, ◌∙◌, ap, refl, subst, ℕ, zero, suc, max, ◌≤◌, ◌<◌, true, List, [], ◌∷◌, ◌++◌, append_assoc, append-nil, arith, Option, Some, None, ◌⊎◌, inl, inr}
use Rattle.std.proofs.lemmas.Bool.{cases_lt}
use Rattle.std.specs.Prelude.{codes}
use Rattle.query_tree.specs.Characters.{is_space, opening, closing}
use Rattle.query_tree.specs.Reader.{Deep, Reader, skip, tag, one}
use Rattle.query_tree.specs.Grammar.{leaf, ast, enclosed_leaf, enclosed_tree, leaf_enclosing, parenthesized, star_alone, negation, query, max_levels}
use Rattle.query_tree.specs.declared.item.Operand.{Operand}
use Rattle.query_tree.specs.declared.item.Operand.TheVariants as operand
use Rattle.query_tree.specs.declared.item.Item.{Item}
use Rattle.query_tree.specs.Printing.{Expression, Term, Prefix, Range, Set, Exists, Not, And, Or, printed, in_parentheses, under_and, under_not, depth, depth_under_and, depth_under_not}
use Rattle.query_tree.proofs.Levels.{leaf_is, tree_too_deep, leaf_too_deep}
use Rattle.printed_queries.specs.Meaning.{is_plain}
use Rattle.printed_queries.proofs.Joined.{items, conjuncts}
use Rattle.printed_queries.proofs.Fields.{split_and}
use Rattle.printed_queries.proofs.Chains.{Ends, at_closing, Begins, begins_append, unspaced_begun, Reached, too_deep, after, after-too_deep, StartsDeep, leaf_deep, joint, joint_deep, joint_ends, tree_deep, Follows, Starts}
use Rattle.printed_queries.proofs.Trees.{Read, read, disjunction, conjunction, starts_moved, both_text, chained_under_and, begins_under_and, begins_under_not, begins_parentheses}

parenthesized_deep : (inner_tree inner_leaf : Reader _) (text : List ℕ) → inner_tree text ≡ Deep → leaf_enclosing inner_tree inner_leaf (opening ∷ text) ≡ Deep
unfolding leaf_enclosing parenthesized one
parenthesized_deep inner_tree inner_leaf text deep = rw deep

negation_deep : (inner_tree inner_leaf : Reader _) (text : List ℕ) → skip is_space text ≡ text → inner_leaf text ≡ Deep → leaf_enclosing inner_tree inner_leaf (78 ∷ 79 ∷ 84 ∷ 32 ∷ text) ≡ Deep
unfolding leaf_enclosing parenthesized star_alone negation tag one is_space skip
negation_deep inner_tree inner_leaf text unspaced deep = rw (unspaced, deep)

-- whatever is alone
abbrev DeepAlone : ℕ → List ℕ → Type 0
DeepAlone n text = (levels : ℕ) (tail : List ℕ) → levels < n → Ends tail → leaf levels (text ++ tail) ≡ Deep

abbrev DeepChained : ℕ → List ℕ → Type 0
DeepChained n text = (levels : ℕ) (before : Option Operand) (tail : List ℕ) → levels < n → Ends tail → StartsDeep (leaf levels) before (text ++ tail)

parentheses_deep : (n : ℕ) (text : List ℕ) → Begins text → DeepChained n text → DeepAlone (suc n) (in_parentheses text)
unfolding enclosed_tree
parentheses_deep n text begun deep zero tail h ends = leaf_is 0 (in_parentheses text ++ tail) ∙ parenthesized_deep (enclosed_tree 0) (enclosed_leaf 0) ((text ++ closing ∷ []) ++ tail) (tree_too_deep ((text ++ closing ∷ []) ++ tail))
parentheses_deep n text begun deep (suc levels) tail h ends =
    leaf_is (suc levels) (in_parentheses text ++ tail)
    ∙ parenthesized_deep (enclosed_tree (suc levels)) (enclosed_leaf (suc levels)) ((text ++ closing ∷ []) ++ tail)
    (ap (ast levels) (append_assoc text (closing ∷ []) tail) ∙ tree_deep (leaf levels) (text ++ closing ∷ tail) (begins_append text (closing ∷ tail) begun) (deep levels None (closing ∷ tail) (omega arith) (at_closing tail).4))

not_deep : (n : ℕ) (text : List ℕ) → Begins text → DeepAlone n text → DeepAlone (suc n) (codes "NOT " ++ text)
unfolding enclosed_leaf
not_deep n text begun deep zero tail h ends =
    leaf_is 0 ((codes "NOT " ++ text) ++ tail) ∙ negation_deep (enclosed_tree 0) (enclosed_leaf 0) (text ++ tail) (unspaced_begun (text ++ tail) (begins_append text tail begun)) (leaf_too_deep (text ++ tail))
not_deep n text begun deep (suc levels) tail h ends =
    leaf_is (suc levels) ((codes "NOT " ++ text) ++ tail)
    ∙ negation_deep (enclosed_tree (suc levels)) (enclosed_leaf (suc levels)) (text ++ tail) (unspaced_begun (text ++ tail) (begins_append text tail begun)) (deep levels tail (omega arith) ends)

alone_deep : (n : ℕ) (text : List ℕ) → Begins text → DeepAlone n text → DeepChained n text
alone_deep n text begun deep levels before tail h ends = leaf_deep (leaf levels) before text tail begun (deep levels tail h ends)

both_deep : (by : Operand) (left right joint_text : List ℕ) (first : Option Operand → List Item) (m n : ℕ) → Begins right → ((text : List ℕ) → (joint_text ++ text) ≡ 32 ∷ joint by text)
    → ((levels : ℕ) (before : Option Operand) (tail : List ℕ) (reached : Reached) → m ≤ levels → Follows (leaf levels) tail reached
    → Starts (leaf levels) before (left ++ tail) (after (first before) reached))
    → DeepChained m left → DeepChained n right → DeepChained (max m n) (left ++ (joint_text ++ right))
both_deep by left right joint_text first m n begun is_joint reads_left deep_left deep_right levels before tail h ends =
    subst (λ t. StartsDeep (leaf levels) before t) (both_text by left right joint_text tail is_joint) (either (cases_lt levels m))
  where
    either : (levels < m) ⊎ (m ≤ levels) → StartsDeep (leaf levels) before (left ++ (32 ∷ joint by (right ++ tail)))
    either (inl less) = deep_left levels before (32 ∷ joint by (right ++ tail)) less (joint_ends by (right ++ tail))
    either (inr more) =
        let follows : Follows (leaf levels) (32 ∷ joint by (right ++ tail)) too_deep =
        joint_deep (leaf levels) by (right ++ tail) (begins_append right tail begun) (deep_right levels (Some by) tail (omega arith) ends) in
        let text : List ℕ = left ++ (32 ∷ joint by (right ++ tail)) in
        inr (starts_moved levels before text text (after (first before) too_deep) too_deep refl (after-too_deep (first before)) (reads_left levels before (32 ∷ joint by (right ++ tail)) too_deep more follows))

record DeepRead (e : Expression) : Type 0 where
  alone : DeepAlone (depth_under_not e (depth e)) (under_not e (printed e))
  chained : DeepChained (depth e) (printed e)

deep_under_and : (e : Expression) → DeepRead e → DeepChained (depth_under_and e (depth e)) (under_and e (printed e))
deep_under_and (Or a b) deep = alone_deep (suc (depth (Or a b))) (in_parentheses (printed (Or a b))) (begins_parentheses (printed (Or a b))) deep.alone
deep_under_and (And a b) deep = deep.chained
deep_under_and (Not a) deep = deep.chained
deep_under_and (Term f t) deep = deep.chained
deep_under_and (Prefix f t) deep = deep.chained
deep_under_and (Range f l u) deep = deep.chained
deep_under_and (Set f ts) deep = deep.chained
deep_under_and (Exists f) deep = deep.chained

-- nothing opens a level
never_deep : (text : List ℕ) → DeepAlone 0 text
never_deep text levels tail h ends = absurd (omega arith)

never_chained : (text : List ℕ) → DeepChained 0 text
never_chained text levels before tail h ends = absurd (omega arith)

deep_read : (e : Expression) → is_plain e ≡ true → DeepRead e
unfolding is_plain printed depth
deep_read (Term f t) plain = record { alone = never_deep _; chained = never_chained _ }
deep_read (Prefix f t) plain = record { alone = never_deep _; chained = never_chained _ }
deep_read (Range f l u) plain = record { alone = never_deep _; chained = never_chained _ }
deep_read (Set f ts) plain = record { alone = never_deep _; chained = never_chained _ }
deep_read (Exists f) plain = record { alone = never_deep _; chained = never_chained _ }
deep_read (Not e) plain =
    let inner : Read e = read e plain in
    let whole : Read (Not e) = read (Not e) plain in
    let alone = not_deep (depth_under_not e (depth e)) (under_not e (printed e)) (begins_under_not e inner.begins) (deep_read e plain).alone in
    record { alone = alone; chained = alone_deep (suc (depth_under_not e (depth e))) (codes "NOT " ++ under_not e (printed e)) whole.begins alone }
deep_read (And a b) plain =
    let parts = split_and (is_plain a) (is_plain b) plain in
    let left : Read a = read a parts.0 in
    let right : Read b = read b parts.1 in
    let whole : Read (And a b) = read (And a b) plain in
    let chained : DeepChained (depth (And a b)) (printed (And a b)) =
    both_deep operand.And (under_and a (printed a)) (under_and b (printed b)) (codes " AND ") (λ before. conjuncts before (conjunction a (disjunction a))) (depth_under_and a (depth a)) (depth_under_and b (depth b))
    (begins_under_and b right.begins) (λ text. refl) (chained_under_and a left) (deep_under_and a (deep_read a parts.0)) (deep_under_and b (deep_read b parts.1)) in
    record { alone = parentheses_deep (depth (And a b)) (printed (And a b)) whole.begins chained; chained = chained }
deep_read (Or a b) plain =
    let parts = split_and (is_plain a) (is_plain b) plain in
    let left : Read a = read a parts.0 in
    let right : Read b = read b parts.1 in
    let whole : Read (Or a b) = read (Or a b) plain in
    let chained : DeepChained (depth (Or a b)) (printed (Or a b)) =
    both_deep operand.Or (printed a) (printed b) (codes " OR ") (λ before. items before (disjunction a)) (depth a) (depth b) right.begins (λ text. refl) left.chained
    (deep_read a parts.0).chained (deep_read b parts.1).chained in
    record { alone = parentheses_deep (depth (Or a b)) (printed (Or a b)) whole.begins chained; chained = chained }

query_deep : (text : List ℕ) → skip is_space text ≡ text → ast max_levels text ≡ Deep → query text ≡ Deep
unfolding query
query_deep text unspaced deep = rw (unspaced, deep)

pub query_too_deep : (e : Expression) → is_plain e ≡ true → max_levels < depth e → query (printed e) ≡ Deep
query_too_deep e plain h =
    let reads : Read e = read e plain in
    query_deep (printed e) (unspaced_begun (printed e) reads.begins)
    (tree_deep (leaf max_levels) (printed e) reads.begins
    (subst (λ t. StartsDeep (leaf max_levels) None t) (append-nil (printed e)) ((deep_read e plain).chained max_levels None [] h tt)))
