-- The tree of a printed expression, and its text read again.
use Rattle.std.proofs.Common.{◌≡◌, ◌∙◌, sym, ap, refl, subst, ℕ, zero, suc, max, ◌≤◌, Bool, true, false, not, ◌&&◌, ◌==◌, true≢false, List, [], ◌∷◌, ◌++◌, map, append_assoc, append-nil, arith, Option, Some, None}
use Rattle.std.specs.Prelude.{encode_utf8_all, codes}
use Rattle.query_tree.specs.Aggregation.{negated}
use Rattle.query_tree.specs.Characters.{is_space, is_special, minus, plus, backslash, colon, opening, closing, star}
use Rattle.query_tree.specs.Reader.{Found, Failed, skip, end}
use Rattle.query_tree.specs.Grammar.{leaf, ast, enclosed_leaf, enclosed_tree, query, max_levels, bare_leaf}
use Rattle.query_tree.specs.Rewriting.{leaf_under_field}
use Rattle.query_tree.specs.declared.tree.UserInputLeaf.{UserInputLeaf}
use Rattle.query_tree.specs.declared.tree.UserInputLeaf.TheVariants as leaves
use Rattle.query_tree.specs.declared.tree.UserInputAst.{UserInputAst}
use Rattle.query_tree.specs.declared.tree.UserInputAst.TheVariants as tree
use Rattle.query_tree.specs.declared.item.Operand.{Operand}
use Rattle.query_tree.specs.declared.item.Operand.TheVariants as operand
use Rattle.query_tree.specs.declared.item.Item.{Item}
use Rattle.query_tree.specs.Printing.{Bound, Expression, Term, Prefix, Range, Set, Exists, Not, And, Or, printed, printed_field, printed_text, printed_elements, printed_lower, printed_upper, in_parentheses, under_and, under_not, depth, depth_under_and, depth_under_not, escaped}
use Rattle.query_tree.proofs.Levels.{leaf_is}
use Rattle.printed_queries.specs.Meaning.{is_plain, is_plain_field, is_plain_bound, are_plain_characters, is_plain_character, bytes_of}
use Rattle.printed_queries.proofs.Joined.{Conjunction, Disjunction, with, conjuncts, items, items-with, conjuncts-with, joined, joined_is}
use Rattle.printed_queries.proofs.Fields.{escapes, split_and, opposite, differs, unspaced, plus_special}
use Rattle.printed_queries.proofs.Chains.{Ends, at_end, at_closing, Begins, begins_append, unspaced_begun, Reached, ended, after, after-append, after-ended, Follows, Starts, leaf_starts, joint, joint_follows, end_follows, tree_again}
use Rattle.printed_queries.proofs.Bounds.{range_again, range_unspaced}
use Rattle.printed_queries.proofs.Leaves.{literal, term_again, prefix_again, exists_again, set_again, field_leaf, parenthesized_again, negation_again, no_leaf_at_end, no_leaf_at_closing}

-- ---- the trees that an expression joins

abbrev pub one_tree : UserInputAst → Disjunction
one_tree t = ((t, []), [])

-- an Or in parentheses is one tree of a conjunction
abbrev pub conjunction : Expression → Disjunction → Conjunction
conjunction (Or a b) d = (joined d, [])
conjunction e d = d.0

-- the leaf as it stands without its field
abbrev pub leaf_with : List ℕ → UserInputLeaf → Disjunction
leaf_with field found = one_tree (tree.Leaf (leaf_under_field (encode_utf8_all field) found))

abbrev pub disjunction : Expression → Disjunction
disjunction (Term field text) = leaf_with field (literal (encode_utf8_all text) false)
disjunction (Prefix field text) = leaf_with field (literal (encode_utf8_all text) true)
disjunction (Range field lower upper) = leaf_with field (leaves.Range None (bytes_of lower) (bytes_of upper))
disjunction (Set field texts) = leaf_with field (leaves.Set None (map encode_utf8_all texts))
disjunction (Exists field) = leaf_with field leaves.All
disjunction (Not e) = one_tree (negated (joined (disjunction e)))
disjunction (And a b) = (with (conjunction a (disjunction a)) (conjunction b (disjunction b)), [])
disjunction (Or a b) = with (disjunction a) (disjunction b)

abbrev pub tree_of_expression : Expression → UserInputAst
tree_of_expression e = joined (disjunction e)

-- ---- reading

pub record Read (e : Expression) : Type 0 where
  pub begins : Begins (printed e)
  -- alone, or in parentheses where it joins trees
  pub alone : (levels : ℕ) (tail : List ℕ) → depth_under_not e (depth e) ≤ levels → Ends tail → leaf levels (under_not e (printed e) ++ tail) ≡ Found (tree_of_expression e) tail
  -- with items that follow
  pub chained : (levels : ℕ) (before : Option Operand) (tail : List ℕ) (reached : Reached) → depth e ≤ levels → Follows (leaf levels) tail reached
      → Starts (leaf levels) before (printed e ++ tail) (after (items before (disjunction e)) reached)

pub starts_moved : (levels : ℕ) (before : Option Operand) (text text' : List ℕ) (reached reached' : Reached) → text ≡ text' → reached ≡ reached'
    → Starts (leaf levels) before text reached → Starts (leaf levels) before text' reached'
starts_moved levels before text text' reached reached' e f starts =
    subst (λ t. Starts (leaf levels) before t reached') e (subst (λ (r : Reached). Starts (leaf levels) before text r) f starts)

-- in parentheses
in_parentheses_again : (levels : ℕ) (text tail : List ℕ) (d : Disjunction) → Begins text → Starts (leaf levels) None (text ++ closing ∷ tail) (ended (items None d) (closing ∷ tail))
    → leaf (suc levels) (in_parentheses text ++ tail) ≡ Found (joined d) tail
unfolding enclosed_tree
in_parentheses_again levels text tail d begun starts =
    let whole : in_parentheses text ++ tail ≡ opening ∷ (text ++ closing ∷ tail) = ap (λ t. opening ∷ t) (append_assoc text (closing ∷ []) tail) in
    let reads : ast levels (text ++ closing ∷ tail) ≡ Found (joined d) (closing ∷ tail) =
    tree_again (leaf levels) (text ++ closing ∷ tail) (ended (items None d) (closing ∷ tail)) (begins_append text (closing ∷ tail) begun) starts
    ∙ ap (λ t. Found t (skip is_space (closing ∷ tail))) (joined_is d) ∙ ap (Found (joined d)) (at_closing tail).1 in
    ap (leaf (suc levels)) whole ∙ leaf_is (suc levels) (opening ∷ (text ++ closing ∷ tail))
    ∙ parenthesized_again (enclosed_tree (suc levels)) (enclosed_leaf (suc levels)) text tail (joined d) reads

no_leaf_closing : (levels : ℕ) (tail : List ℕ) → leaf levels (closing ∷ tail) ≡ Failed
no_leaf_closing levels tail = leaf_is levels (closing ∷ tail) ∙ no_leaf_at_closing (enclosed_tree levels) (enclosed_leaf levels) tail

no_leaf_end : (levels : ℕ) → leaf levels [] ≡ Failed
no_leaf_end levels = leaf_is levels [] ∙ no_leaf_at_end (enclosed_tree levels) (enclosed_leaf levels)

-- what is read with items behind it is read in parentheses
alone_again : (levels n : ℕ) (text tail : List ℕ) (d : Disjunction) → suc n ≤ levels → Begins text
    → ((levels : ℕ) (before : Option Operand) (tail : List ℕ) (reached : Reached) → n ≤ levels → Follows (leaf levels) tail reached
    → Starts (leaf levels) before (text ++ tail) (after (items before d) reached))
    → leaf levels (in_parentheses text ++ tail) ≡ Found (joined d) tail
alone_again zero n text tail d h begun chained = absurd (omega arith)
alone_again (suc levels) n text tail d h begun chained =
    let starts : Starts (leaf levels) None (text ++ closing ∷ tail) (after (items None d) (ended [] (closing ∷ tail))) =
    chained levels None (closing ∷ tail) (ended [] (closing ∷ tail)) (omega arith) (end_follows (leaf levels) (closing ∷ tail) (at_closing tail) (no_leaf_closing levels tail)) in
    in_parentheses_again levels text tail d begun
    (starts_moved levels None (text ++ closing ∷ tail) (text ++ closing ∷ tail) (after (items None d) (ended [] (closing ∷ tail))) (ended (items None d) (closing ∷ tail)) refl (after-ended (items None d) (closing ∷ tail)) starts)

-- after NOT
negated_again : (levels : ℕ) (text tail : List ℕ) (found : UserInputAst) → Begins text → leaf levels (text ++ tail) ≡ Found found tail
    → leaf (suc levels) ((78 ∷ 79 ∷ 84 ∷ 32 ∷ text) ++ tail) ≡ Found (negated found) tail
unfolding enclosed_leaf
negated_again levels text tail found begun reads =
    leaf_is (suc levels) (78 ∷ 79 ∷ 84 ∷ 32 ∷ (text ++ tail))
    ∙ negation_again (enclosed_tree (suc levels)) (enclosed_leaf (suc levels)) (text ++ tail) tail found (unspaced_begun (text ++ tail) (begins_append text tail begun)) reads

-- a field's text
field_text : (field body tail : List ℕ) → (printed_field field ++ body) ++ tail ≡ escapes field ++ colon ∷ (body ++ tail)
field_text field body tail = append_assoc (printed_field field) body tail ∙ append_assoc (escapes field) (colon ∷ []) (body ++ tail)

leaf_again : (levels : ℕ) (field body tail : List ℕ) (found : UserInputLeaf) → is_plain_field field ≡ true → skip is_space (body ++ tail) ≡ body ++ tail → bare_leaf (body ++ tail) ≡ Found found tail
    → leaf levels ((printed_field field ++ body) ++ tail) ≡ Found (tree.Leaf (leaf_under_field (encode_utf8_all field) found)) tail
leaf_again levels field body tail found plain unspaced reads =
    ap (leaf levels) (field_text field body tail) ∙ leaf_is levels (escapes field ++ colon ∷ (body ++ tail))
    ∙ field_leaf (enclosed_tree levels) (enclosed_leaf levels) field (body ++ tail) tail found plain unspaced reads

-- ---- what a printed expression begins with

begins_piece : (c : ℕ) → c == minus ≡ false → is_plain_character c ≡ true → Begins (escaped (is_special c) c)
unfolding is_space
begins_piece c other plain =
    let by : (b : Bool) → is_special c ≡ b → Begins (escaped b c) =
    λ b. elim b as (λ v. is_special c ≡ v → Begins (escaped v c)) [
      | true ↦ λ e. record { head = backslash; more = c ∷ []; is = refl; not_space = refl; not_minus = refl; not_plus = refl }
      | false ↦ λ e. record { head = c; more = []; is = refl; not_space = unspaced c e plain; not_minus = other; not_plus = differs is_special c plus e plus_special }
    ] in by (is_special c) refl

begins_field : (field body : List ℕ) → is_plain_field field ≡ true → Begins (printed_field field ++ body)
unfolding is_plain_field
begins_field [] body plain = absurd (true≢false (sym plain))
begins_field (c ∷ cs) body plain =
    let parts = split_and (not (c == minus)) (are_plain_characters (c ∷ cs)) plain in
    let first = split_and (is_plain_character c) (are_plain_characters cs) parts.1 in
    begins_append (printed_field (c ∷ cs)) body
    (begins_append (escapes (c ∷ cs)) (colon ∷ [])
    (begins_append (escaped (is_special c) c) (escapes cs) (begins_piece c (opposite (c == minus) parts.0) first.0)))

begins_not : (text : List ℕ) → Begins (78 ∷ 79 ∷ 84 ∷ 32 ∷ text)
unfolding is_space
begins_not text = record { head = 78; more = 79 ∷ 84 ∷ 32 ∷ text; is = refl; not_space = refl; not_minus = refl; not_plus = refl }

pub begins_parentheses : (text : List ℕ) → Begins (in_parentheses text)
unfolding is_space
begins_parentheses text = record { head = opening; more = text ++ closing ∷ []; is = refl; not_space = refl; not_minus = refl; not_plus = refl }

-- ---- every plain expression is read

quote_unspaced : (t : List ℕ) → skip is_space (34 ∷ t) ≡ 34 ∷ t
unfolding skip is_space
quote_unspaced t = refl

star_unspaced : (t : List ℕ) → skip is_space (42 ∷ t) ≡ 42 ∷ t
unfolding skip is_space
star_unspaced t = refl

letter_unspaced : (t : List ℕ) → skip is_space (73 ∷ t) ≡ 73 ∷ t
unfolding skip is_space
letter_unspaced t = refl

-- one that is a tree alone
chained_alone : (text : List ℕ) (t : UserInputAst) (depth : ℕ) → Begins text
    → ((levels : ℕ) (tail : List ℕ) → depth ≤ levels → Ends tail → leaf levels (text ++ tail) ≡ Found t tail)
    → (levels : ℕ) (before : Option Operand) (tail : List ℕ) (reached : Reached) → depth ≤ levels → Follows (leaf levels) tail reached
    → Starts (leaf levels) before (text ++ tail) (after (items before (one_tree t)) reached)
chained_alone text t depth begun reads levels before tail reached h follows =
    leaf_starts (leaf levels) before text tail t reached begun (reads levels tail h follows.ends) follows

term_alone : (field text : List ℕ) → is_plain_field field ≡ true → (levels : ℕ) (tail : List ℕ) → 0 ≤ levels → Ends tail
    → leaf levels ((printed_field field ++ printed_text text) ++ tail) ≡ Found (tree.Leaf (leaf_under_field (encode_utf8_all field) (literal (encode_utf8_all text) false))) tail
term_alone field text plain levels tail h ends =
    leaf_again levels field (printed_text text) tail (literal (encode_utf8_all text) false) plain (quote_unspaced _) (term_again text tail ends)

prefix_alone : (field text : List ℕ) → is_plain_field field ≡ true → (levels : ℕ) (tail : List ℕ) → 0 ≤ levels → Ends tail
    → leaf levels ((printed_field field ++ (printed_text text ++ codes "*")) ++ tail) ≡ Found (tree.Leaf (leaf_under_field (encode_utf8_all field) (literal (encode_utf8_all text) true))) tail
prefix_alone field text plain levels tail h ends =
    leaf_again levels field (printed_text text ++ star ∷ []) tail (literal (encode_utf8_all text) true) plain (quote_unspaced _)
    (ap bare_leaf (append_assoc (printed_text text) (star ∷ []) tail) ∙ prefix_again text tail)

exists_alone : (field : List ℕ) → is_plain_field field ≡ true → (levels : ℕ) (tail : List ℕ) → 0 ≤ levels → Ends tail
    → leaf levels ((printed_field field ++ codes "*") ++ tail) ≡ Found (tree.Leaf (leaf_under_field (encode_utf8_all field) leaves.All)) tail
exists_alone field plain levels tail h ends =
    leaf_again levels field (star ∷ []) tail leaves.All plain (star_unspaced tail) (exists_again tail ends)

set_alone : (field : List ℕ) (texts : List (List ℕ)) → is_plain_field field ≡ true → (levels : ℕ) (tail : List ℕ) → 0 ≤ levels → Ends tail
    → leaf levels ((printed_field field ++ (codes "IN [" ++ (printed_elements texts ++ codes "]"))) ++ tail) ≡ Found (tree.Leaf (leaf_under_field (encode_utf8_all field) (leaves.Set None (map encode_utf8_all texts)))) tail
set_alone field texts plain levels tail h ends =
    leaf_again levels field (codes "IN [" ++ (printed_elements texts ++ codes "]")) tail (leaves.Set None (map encode_utf8_all texts)) plain (letter_unspaced _)
    (ap (λ t. bare_leaf (73 ∷ 78 ∷ 32 ∷ 91 ∷ t)) (append_assoc (printed_elements texts) (93 ∷ []) tail) ∙ set_again texts tail)

range_alone : (field : List ℕ) (lower upper : Bound) → is_plain_field field ≡ true → is_plain_bound lower ≡ true → is_plain_bound upper ≡ true → (levels : ℕ) (tail : List ℕ) → 0 ≤ levels → Ends tail
    → leaf levels ((printed_field field ++ (printed_lower lower ++ (codes " TO " ++ printed_upper upper))) ++ tail) ≡ Found (tree.Leaf (leaf_under_field (encode_utf8_all field) (leaves.Range None (bytes_of lower) (bytes_of upper)))) tail
range_alone field lower upper plain plain_lower plain_upper levels tail h ends =
    leaf_again levels field (printed_lower lower ++ (codes " TO " ++ printed_upper upper)) tail (leaves.Range None (bytes_of lower) (bytes_of upper)) plain
    (range_unspaced lower (codes " TO " ++ printed_upper upper) tail) (range_again lower upper tail plain_lower plain_upper)

not_alone : (text : List ℕ) (t : UserInputAst) (n : ℕ) → Begins text
    → ((levels : ℕ) (tail : List ℕ) → n ≤ levels → Ends tail → leaf levels (text ++ tail) ≡ Found t tail)
    → (levels : ℕ) (tail : List ℕ) → suc n ≤ levels → Ends tail → leaf levels ((codes "NOT " ++ text) ++ tail) ≡ Found (negated t) tail
not_alone text t n begun reads zero tail h ends = absurd (omega arith)
not_alone text t n begun reads (suc levels) tail h ends = negated_again levels text tail t begun (reads levels tail (omega arith) ends)

pub begins_under_not : (e : Expression) → Begins (printed e) → Begins (under_not e (printed e))
begins_under_not (Or a b) begun = begins_parentheses (printed (Or a b))
begins_under_not (And a b) begun = begins_parentheses (printed (And a b))
begins_under_not (Term f t) begun = begun
begins_under_not (Prefix f t) begun = begun
begins_under_not (Range f l u) begun = begun
begins_under_not (Set f ts) begun = begun
begins_under_not (Exists f) begun = begun
begins_under_not (Not e) begun = begun

pub begins_under_and : (e : Expression) → Begins (printed e) → Begins (under_and e (printed e))
begins_under_and (Or a b) begun = begins_parentheses (printed (Or a b))
begins_under_and (And a b) begun = begun
begins_under_and (Term f t) begun = begun
begins_under_and (Prefix f t) begun = begun
begins_under_and (Range f l u) begun = begun
begins_under_and (Set f ts) begun = begun
begins_under_and (Exists f) begun = begun
begins_under_and (Not e) begun = begun

-- what is read of a side of an And
abbrev pub Chained : Expression → Type 0
Chained e = (levels : ℕ) (before : Option Operand) (tail : List ℕ) (reached : Reached) → depth_under_and e (depth e) ≤ levels → Follows (leaf levels) tail reached
    → Starts (leaf levels) before (under_and e (printed e) ++ tail) (after (conjuncts before (conjunction e (disjunction e))) reached)

pub chained_under_and : (e : Expression) → Read e → Chained e
chained_under_and (Or a b) reads = λ levels before tail reached h follows.
    leaf_starts (leaf levels) before (in_parentheses (printed (Or a b))) tail (tree_of_expression (Or a b)) reached (begins_parentheses (printed (Or a b))) (reads.alone levels tail h follows.ends) follows
chained_under_and (And a b) reads = λ levels before tail reached h follows.
    let all : List Item = conjuncts before (conjunction (And a b) (disjunction (And a b))) in
    starts_moved levels before (printed (And a b) ++ tail) (printed (And a b) ++ tail) (after (all ++ []) reached) (after all reached) refl (ap (λ is. after is reached) (append-nil all)) (reads.chained levels before tail reached h follows)
chained_under_and (Term f t) reads = reads.chained
chained_under_and (Prefix f t) reads = reads.chained
chained_under_and (Range f l u) reads = reads.chained
chained_under_and (Set f ts) reads = reads.chained
chained_under_and (Exists f) reads = reads.chained
chained_under_and (Not e) reads = reads.chained

pub both_text : (by : Operand) (left right joint_text tail : List ℕ) → ((text : List ℕ) → (joint_text ++ text) ≡ 32 ∷ joint by text)
    → left ++ (32 ∷ joint by (right ++ tail)) ≡ (left ++ (joint_text ++ right)) ++ tail
both_text by left right joint_text tail is_joint =
    ap (λ t. left ++ t) (sym (append_assoc joint_text right tail ∙ is_joint (right ++ tail))) ∙ sym (append_assoc left (joint_text ++ right) tail)

-- one after the other
chained_both : (by : Operand) (left right joint_text : List ℕ) (first second all : Option Operand → List Item) (m n : ℕ) → Begins right
    → ((text : List ℕ) → (joint_text ++ text) ≡ 32 ∷ joint by text)
    → ((before : Option Operand) → first before ++ second (Some by) ≡ all before)
    → ((levels : ℕ) (before : Option Operand) (tail : List ℕ) (reached : Reached) → m ≤ levels → Follows (leaf levels) tail reached
    → Starts (leaf levels) before (left ++ tail) (after (first before) reached))
    → ((levels : ℕ) (before : Option Operand) (tail : List ℕ) (reached : Reached) → n ≤ levels → Follows (leaf levels) tail reached
    → Starts (leaf levels) before (right ++ tail) (after (second before) reached))
    → (levels : ℕ) (before : Option Operand) (tail : List ℕ) (reached : Reached) → max m n ≤ levels → Follows (leaf levels) tail reached
    → Starts (leaf levels) before ((left ++ (joint_text ++ right)) ++ tail) (after (all before) reached)
chained_both by left right joint_text first second all m n begun is_joint whole reads_left reads_right levels before tail reached h follows =
    let right_starts : Starts (leaf levels) (Some by) (right ++ tail) (after (second (Some by)) reached) = reads_right levels (Some by) tail reached (omega arith) follows in
    let right_follows : Follows (leaf levels) (32 ∷ joint by (right ++ tail)) (after (second (Some by)) reached) =
    joint_follows (leaf levels) by (right ++ tail) (after (second (Some by)) reached) (begins_append right tail begun) right_starts in
    starts_moved levels before (left ++ (32 ∷ joint by (right ++ tail))) ((left ++ (joint_text ++ right)) ++ tail) (after (first before) (after (second (Some by)) reached)) (after (all before) reached)
    (both_text by left right joint_text tail is_joint)
    (sym (after-append (first before) (second (Some by)) reached) ∙ ap (λ is. after is reached) (whole before))
    (reads_left levels before (32 ∷ joint by (right ++ tail)) (after (second (Some by)) reached) (omega arith) right_follows)

and_items : (a b : Conjunction) (before : Option Operand) → conjuncts before a ++ conjuncts (Some operand.And) b ≡ items before (with a b, [])
and_items a b before = sym (append-nil (conjuncts before (with a b)) ∙ conjuncts-with before a b)

pub read : (e : Expression) → is_plain e ≡ true → Read e
unfolding is_plain printed depth
read (Term f t) plain = let begun : Begins (printed_field f ++ printed_text t) = begins_field f (printed_text t) plain in
    record { begins = begun; alone = term_alone f t plain; chained = chained_alone _ _ 0 begun (term_alone f t plain) }
read (Prefix f t) plain = let begun : Begins (printed_field f ++ (printed_text t ++ codes "*")) = begins_field f (printed_text t ++ codes "*") plain in
    record { begins = begun; alone = prefix_alone f t plain; chained = chained_alone _ _ 0 begun (prefix_alone f t plain) }
read (Range f l u) plain =
    let parts = split_and (is_plain_field f) (is_plain_bound l && is_plain_bound u) plain in
    let bounds = split_and (is_plain_bound l) (is_plain_bound u) parts.1 in
    let begun : Begins (printed_field f ++ (printed_lower l ++ (codes " TO " ++ printed_upper u))) = begins_field f (printed_lower l ++ (codes " TO " ++ printed_upper u)) parts.0 in
    record { begins = begun; alone = range_alone f l u parts.0 bounds.0 bounds.1; chained = chained_alone _ _ 0 begun (range_alone f l u parts.0 bounds.0 bounds.1) }
read (Set f ts) plain = let begun : Begins (printed_field f ++ (codes "IN [" ++ (printed_elements ts ++ codes "]"))) = begins_field f (codes "IN [" ++ (printed_elements ts ++ codes "]")) plain in
    record { begins = begun; alone = set_alone f ts plain; chained = chained_alone _ _ 0 begun (set_alone f ts plain) }
read (Exists f) plain = let begun : Begins (printed_field f ++ codes "*") = begins_field f (codes "*") plain in
    record { begins = begun; alone = exists_alone f plain; chained = chained_alone _ _ 0 begun (exists_alone f plain) }
read (Not e) plain =
    let inner : Read e = read e plain in
    let begun : Begins (codes "NOT " ++ under_not e (printed e)) = begins_not (under_not e (printed e)) in
    let alone = not_alone (under_not e (printed e)) (tree_of_expression e) (depth_under_not e (depth e)) (begins_under_not e inner.begins) inner.alone in
    record { begins = begun; alone = alone; chained = chained_alone _ _ (suc (depth_under_not e (depth e))) begun alone }
read (And a b) plain =
    let parts = split_and (is_plain a) (is_plain b) plain in
    let left : Read a = read a parts.0 in
    let right : Read b = read b parts.1 in
    let begun : Begins (printed (And a b)) = begins_append (under_and a (printed a)) (codes " AND " ++ under_and b (printed b)) (begins_under_and a left.begins) in
    let chained : (levels : ℕ) (before : Option Operand) (tail : List ℕ) (reached : Reached) → depth (And a b) ≤ levels → Follows (leaf levels) tail reached
    → Starts (leaf levels) before (printed (And a b) ++ tail) (after (items before (disjunction (And a b))) reached) =
    chained_both operand.And (under_and a (printed a)) (under_and b (printed b)) (codes " AND ") (λ before. conjuncts before (conjunction a (disjunction a))) (λ before. conjuncts before (conjunction b (disjunction b)))
    (λ before. items before (disjunction (And a b))) (depth_under_and a (depth a)) (depth_under_and b (depth b)) (begins_under_and b right.begins) (λ text. refl)
    (and_items (conjunction a (disjunction a)) (conjunction b (disjunction b))) (chained_under_and a left) (chained_under_and b right) in
    record { begins = begun; alone = λ levels tail h ends. alone_again levels (depth (And a b)) (printed (And a b)) tail (disjunction (And a b)) h begun chained; chained = chained }
read (Or a b) plain =
    let parts = split_and (is_plain a) (is_plain b) plain in
    let left : Read a = read a parts.0 in
    let right : Read b = read b parts.1 in
    let begun : Begins (printed (Or a b)) = begins_append (printed a) (codes " OR " ++ printed b) left.begins in
    let chained : (levels : ℕ) (before : Option Operand) (tail : List ℕ) (reached : Reached) → depth (Or a b) ≤ levels → Follows (leaf levels) tail reached
    → Starts (leaf levels) before (printed (Or a b) ++ tail) (after (items before (disjunction (Or a b))) reached) =
    chained_both operand.Or (printed a) (printed b) (codes " OR ") (λ before. items before (disjunction a)) (λ before. items before (disjunction b))
    (λ before. items before (disjunction (Or a b))) (depth a) (depth b) right.begins (λ text. refl)
    (λ before. sym (items-with before (disjunction a) (disjunction b))) left.chained right.chained in
    record { begins = begun; alone = λ levels tail h ends. alone_again levels (depth (Or a b)) (printed (Or a b)) tail (disjunction (Or a b)) h begun chained; chained = chained }

-- ---- the whole query

read_whole : (text : List ℕ) (t : UserInputAst) → skip is_space text ≡ text → ast max_levels text ≡ Found t [] → query text ≡ Found t []
unfolding query end
read_whole text t unspaced reads = rw (unspaced, reads)

pub query_again : (e : Expression) → is_plain e ≡ true → depth e ≤ max_levels → query (printed e) ≡ Found (tree_of_expression e) []
query_again e plain h =
    let reads : Read e = read e plain in
    let d : Disjunction = disjunction e in
    let starts : Starts (leaf max_levels) None (printed e) (ended (items None d) []) =
    starts_moved max_levels None (printed e ++ []) (printed e) (after (items None d) (ended [] [])) (ended (items None d) []) (append-nil (printed e)) (after-ended (items None d) [])
    (reads.chained max_levels None [] (ended [] []) h (end_follows (leaf max_levels) [] at_end (no_leaf_end max_levels))) in
    read_whole (printed e) (tree_of_expression e) (unspaced_begun (printed e) reads.begins)
    (tree_again (leaf max_levels) (printed e) (ended (items None d) []) reads.begins starts ∙ ap (λ t. Found t (skip is_space [])) (joined_is d) ∙ ap (Found (joined d)) at_end.1)
