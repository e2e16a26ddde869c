-- Items joined by AND and OR are read again, one after another.
use Rattle.std.proofs.Common.{◌≡◌, ◌∙◌, sym, ap, refl, ℕ, zero, suc, ◌+◌, ◌≤◌, ◌<◌, Bool, true, false, cond, ◌==◌, List, [], ◌∷◌, ◌++◌, length, length-append, arith, Option, Some, None, ◌⊎◌, inl, inr}
use Rattle.query_tree.specs.Characters.{is_space, is_after_star, is_escaped, minus, plus}
use Rattle.query_tree.specs.Reader.{Outcome, Found, Failed, Deep, Reader, ◌or◌, pure, one, skip, tag, repeated_up_to}
use Rattle.query_tree.specs.Grammar.{item_after, next_item, next_items, ast_of_leaves, mark, operand, boost, boosted}
use Rattle.query_tree.specs.declared.tree.UserInputAst.{UserInputAst}
use Rattle.query_tree.specs.declared.item.Operand.{Operand}
use Rattle.query_tree.specs.declared.item.Operand.TheVariants.{And, Or}
use Rattle.query_tree.specs.declared.item.Item.{Item}
use Rattle.printed_queries.proofs.Joined.{item, aggregate}

-- what ends a leaf: the end of the text, or a character that belongs to no leaf
abbrev pub Ends : List ℕ → Type 0
Ends [] = Unit {0}
Ends (c ∷ cs) = (c == 94 ≡ false) × (c == 42 ≡ false) × (c == 126 ≡ false) × (is_after_star c ≡ true)

-- what an item begins with
pub record Begins (text : List ℕ) : Type 0 where
  pub head : ℕ
  pub more : List ℕ
  pub is : text ≡ head ∷ more
  pub not_space : is_space head ≡ false
  pub not_minus : head == minus ≡ false
  pub not_plus : head == plus ≡ false

pub begins_append : (a b : List ℕ) → Begins a → Begins (a ++ b)
begins_append a b begun = record {
  head = begun.head;
  more = begun.more ++ b;
  is = ap (λ t. t ++ b) begun.is;
  not_space = begun.not_space;
  not_minus = begun.not_minus;
  not_plus = begun.not_plus;
}

skip_begun : (c : ℕ) (cs : List ℕ) → is_space c ≡ false → skip is_space (c ∷ cs) ≡ c ∷ cs
unfolding skip
skip_begun c cs h = rw h

pub unspaced_begun : (text : List ℕ) → Begins text → skip is_space text ≡ text
unspaced_begun text begun = ap (skip is_space) begun.is ∙ skip_begun begun.head begun.more begun.not_space ∙ sym begun.is

no_mark : (c : ℕ) (cs : List ℕ) → c == minus ≡ false → c == plus ≡ false → mark (c ∷ cs) ≡ Failed
unfolding mark one
no_mark c cs h k = rw (h, k)

pub unmarked_begun : (text : List ℕ) → Begins text → mark text ≡ Failed
unmarked_begun text begun = ap mark begun.is ∙ no_mark begun.head begun.more begun.not_minus begun.not_plus

pub skip_shorter : (test : ℕ → Bool) (text : List ℕ) → length (skip test text) ≤ length text
unfolding skip
skip_shorter test [] = omega arith
skip_shorter test (c ∷ cs) = either (test c) (skip_shorter test cs)
  where
    either : (b : Bool) → length (skip test cs) ≤ length cs → length (cond b (skip test cs) (c ∷ cs)) ≤ suc (length cs)
    either true h = omega arith
    either false h = omega arith

-- Where the items end, and the text that is left there; or a level too many.
pub data Reached : Type 0 where
  ended : List Item → List ℕ → Reached
  too_deep : Reached

abbrev pub outcome : Reached → Outcome (List Item)
outcome (ended found rest) = Found found rest
outcome too_deep = Deep

abbrev pub with_first : Item → Reached → Reached
with_first first (ended found rest) = ended (first ∷ found) rest
with_first first too_deep = too_deep

abbrev pub after : List Item → Reached → Reached
after [] reached = reached
after (first ∷ others) reached = with_first first (after others reached)

pub after-append : (a b : List Item) (x : Reached) → after (a ++ b) x ≡ after a (after b x)
after-append [] b x = refl
after-append (i ∷ is) b x = ap (with_first i) (after-append is b x)

pub after-ended : (is : List Item) (rest : List ℕ) → after is (ended [] rest) ≡ ended is rest
after-ended [] rest = refl
after-ended (i ∷ is) rest = ap (with_first i) (after-ended is rest)

pub after-too_deep : (is : List Item) → after is too_deep ≡ too_deep
after-too_deep [] = refl
after-too_deep (i ∷ is) = ap (with_first i) (after-too_deep is)

module _ (leaf : Reader UserInputAst) where
  -- The items that follow an item are read, up to there.
  pub record Follows (text : List ℕ) (reached : Reached) : Type 0 where
    pub ends : Ends text
    pub repeats : (m : ℕ) → length (skip is_space text) ≤ m → repeated_up_to m (next_item leaf) (skip is_space text) ≡ outcome reached
    pub goes_on : (next_items leaf or pure []) text ≡ outcome reached

  -- A text starts with items, the first after the operand.
  pub record Starts (before : Option Operand) (text : List ℕ) (reached : Reached) : Type 0 where
    pub first : Item
    pub left : List ℕ
    pub more : Reached
    pub reads : item_after leaf before text ≡ Found first left
    pub shorter : length left < length text
    pub all_is : reached ≡ with_first first more
    pub follows : Follows left more

no_boost : (tail : List ℕ) → Ends tail → boost tail ≡ Failed
unfolding boost one
no_boost [] h = refl
no_boost (c ∷ cs) h = rw h.0

item_read : (leaf : Reader UserInputAst) (before : Option Operand) (text tail : List ℕ) (t : UserInputAst) → leaf text ≡ Found t tail → mark text ≡ Failed → boost tail ≡ Failed
    → item_after leaf before text ≡ Found (item before t) tail
unfolding item_after boosted
item_read leaf before text tail t reads unmarked unboosted = rw (unmarked, reads, unboosted)

pub leaf_starts : (leaf : Reader UserInputAst) (before : Option Operand) (u tail : List ℕ) (t : UserInputAst) (reached : Reached)
    → Begins u → leaf (u ++ tail) ≡ Found t tail → Follows leaf tail reached → Starts leaf before (u ++ tail) (with_first (item before t) reached)
leaf_starts leaf before u tail t reached begun reads follows = record {
  first = item before t;
  left = tail;
  more = reached;
  reads = item_read leaf before (u ++ tail) tail t reads (unmarked_begun (u ++ tail) (begins_append u tail begun)) (no_boost tail follows.ends);
  shorter =
      (let one_more : length (u ++ tail) ≡ suc (length (begun.more ++ tail)) = ap (λ t. length (t ++ tail)) begun.is in
      let parts : length (begun.more ++ tail) ≡ length begun.more + length tail = length-append begun.more tail in omega arith);
  all_is = refl;
  follows = follows;
}

abbrev pub joint : Operand → List ℕ → List ℕ
joint Or text = 79 ∷ 82 ∷ 32 ∷ text
joint And text = 65 ∷ 78 ∷ 68 ∷ 32 ∷ text

operand_read : (by : Operand) (text : List ℕ) → operand (joint by text) ≡ Found by text
unfolding operand tag one
operand_read Or text = refl
operand_read And text = refl

next_read : (leaf : Reader UserInputAst) (by : Operand) (text left : List ℕ) (first : Item) → skip is_space text ≡ text → item_after leaf (Some by) text ≡ Found first left
    → next_item leaf (joint by text) ≡ Found first (skip is_space left)
unfolding next_item
next_read leaf by text left first unspaced reads = rw (operand_read by text, unspaced, reads)

one_more_read : (leaf : Reader UserInputAst) (m : ℕ) (text : List ℕ) (first : Item) (left : List ℕ) (more : Reached) → next_item leaf text ≡ Found first left
    → repeated_up_to m (next_item leaf) left ≡ outcome more → repeated_up_to (suc m) (next_item leaf) text ≡ outcome (with_first first more)
unfolding repeated_up_to
one_more_read leaf m text first left (ended found rest) next more = rw (next, more)
one_more_read leaf m text first left too_deep next more = rw (next, more)

pub joint_ends : (by : Operand) (text : List ℕ) → Ends (32 ∷ joint by text)
unfolding is_after_star is_space
joint_ends by text = (refl, refl, refl, refl)

joint_unspaced : (by : Operand) (text : List ℕ) → skip is_space (32 ∷ joint by text) ≡ joint by text
unfolding skip is_space
joint_unspaced Or text = refl
joint_unspaced And text = refl

joint_longer : (by : Operand) (text : List ℕ) → length text < length (joint by text)
joint_longer Or text = omega arith
joint_longer And text = omega arith

joint_items : (leaf : Reader UserInputAst) (by : Operand) (text left : List ℕ) (first : Item) (more : Reached) → next_item leaf (joint by text) ≡ Found first left
    → repeated_up_to (length left) (next_item leaf) left ≡ outcome more → (next_items leaf or pure []) (32 ∷ joint by text) ≡ outcome (with_first first more)
unfolding next_items one skip is_space
joint_items leaf Or text left first (ended found rest) next more = rw (next, more)
joint_items leaf And text left first (ended found rest) next more = rw (next, more)
joint_items leaf Or text left first too_deep next more = rw (next, more)
joint_items leaf And text left first too_deep next more = rw (next, more)

pub joint_follows : (leaf : Reader UserInputAst) (by : Operand) (text : List ℕ) (reached : Reached) → Begins text → Starts leaf (Some by) text reached
    → Follows leaf (32 ∷ joint by text) reached
joint_follows leaf by text reached begun starts =
    let next : next_item leaf (joint by text) ≡ Found starts.first (skip is_space starts.left) = next_read leaf by text starts.left starts.first (unspaced_begun text begun) starts.reads in
    record {
      ends = joint_ends by text;
      repeats = λ m h. turn m (moved (joint_unspaced by text) h) next;
      goes_on = joint_items leaf by text (skip is_space starts.left) starts.first starts.more next (starts.follows.repeats (length (skip is_space starts.left)) (omega arith))
          ∙ ap outcome (sym starts.all_is);
    }
  where
    moved : {a b : List ℕ} {m : ℕ} → a ≡ b → length a ≤ m → length b ≤ m
    moved {a = a} {b = b} {m = m} e h = rw (← e) h

    turn : (m : ℕ) → length (joint by text) ≤ m → next_item leaf (joint by text) ≡ Found starts.first (skip is_space starts.left)
        → repeated_up_to m (next_item leaf) (skip is_space (32 ∷ joint by text)) ≡ outcome reached
    turn zero h next = (let long = joint_longer by text in absurd (omega arith))
    turn (suc m) h next =
        let long = joint_longer by text in
        let short = skip_shorter is_space starts.left in
        let smaller = starts.shorter in
        ap (λ t. repeated_up_to (suc m) (next_item leaf) t) (joint_unspaced by text)
        ∙ one_more_read leaf m (joint by text) starts.first (skip is_space starts.left) starts.more next (starts.follows.repeats m (omega arith))
        ∙ ap outcome (sym starts.all_is)

-- ---- the end of a tree

abbrev pub AtEnd : List ℕ → Type 0
AtEnd text = (operand text ≡ Failed) × (skip is_space text ≡ text) × (mark text ≡ Failed) × (one is_space text ≡ Failed) × Ends text

pub at_end : AtEnd []
unfolding operand tag one skip mark
at_end = (refl, refl, refl, refl, tt)

pub at_closing : (t : List ℕ) → AtEnd (41 ∷ t)
unfolding operand tag one skip is_space mark is_after_star is_escaped
at_closing t = (refl, refl, refl, refl, (refl, refl, refl, refl))

no_next : (leaf : Reader UserInputAst) (text : List ℕ) → AtEnd text → leaf text ≡ Failed → next_item leaf text ≡ Failed
unfolding next_item item_after
no_next leaf text h no_leaf =
    let o = h.0 in let s = h.1 in let k = h.2 in
    rw (o, s, k, no_leaf)

none_repeated : (leaf : Reader UserInputAst) (m : ℕ) (text : List ℕ) → next_item leaf text ≡ Failed → repeated_up_to m (next_item leaf) text ≡ Found [] text
unfolding repeated_up_to
none_repeated leaf zero text h = refl
none_repeated leaf (suc m) text h = rw h

none_go_on : (leaf : Reader UserInputAst) (text : List ℕ) → one is_space text ≡ Failed → (next_items leaf or pure []) text ≡ Found [] text
unfolding next_items
none_go_on leaf text h = rw h

pub end_follows : (leaf : Reader UserInputAst) (text : List ℕ) → AtEnd text → leaf text ≡ Failed → Follows leaf text (ended [] text)
end_follows leaf text h no_leaf = record {
  ends = h.4;
  repeats = λ m k. ap (λ t. repeated_up_to m (next_item leaf) t) h.1 ∙ none_repeated leaf m text (no_next leaf text h no_leaf);
  goes_on = none_go_on leaf text h.3;
}

abbrev pub tree_outcome : Reached → Outcome UserInputAst
tree_outcome (ended found rest) = Found (aggregate found) (skip is_space rest)
tree_outcome too_deep = Deep

tree_read : (leaf : Reader UserInputAst) (text left : List ℕ) (first : Item) (more : Reached) → skip is_space text ≡ text
    → item_after leaf None text ≡ Found first left → (next_items leaf or pure []) left ≡ outcome more → ast_of_leaves leaf text ≡ tree_outcome (with_first first more)
unfolding ast_of_leaves
tree_read leaf text left first (ended found rest) unspaced reads goes_on = rw (unspaced, reads, goes_on)
tree_read leaf text left first too_deep unspaced reads goes_on = rw (unspaced, reads, goes_on)

pub tree_again : (leaf : Reader UserInputAst) (text : List ℕ) (reached : Reached) → Begins text → Starts leaf None text reached → ast_of_leaves leaf text ≡ tree_outcome reached
tree_again leaf text reached begun starts =
    tree_read leaf text starts.left starts.first starts.more (unspaced_begun text begun) starts.reads starts.follows.goes_on ∙ ap tree_outcome (sym starts.all_is)

-- ---- a level too many

-- the first item opens it, or one that follows
abbrev pub StartsDeep : Reader UserInputAst → Option Operand → List ℕ → Type 0
StartsDeep leaf before text = (item_after leaf before text ≡ Deep) ⊎ Starts leaf before text too_deep

item_deep : (leaf : Reader UserInputAst) (before : Option Operand) (text : List ℕ) → leaf text ≡ Deep → mark text ≡ Failed → item_after leaf before text ≡ Deep
unfolding item_after
item_deep leaf before text deep unmarked = rw (unmarked, deep)

pub leaf_deep : (leaf : Reader UserInputAst) (before : Option Operand) (u tail : List ℕ) → Begins u → leaf (u ++ tail) ≡ Deep → StartsDeep leaf before (u ++ tail)
leaf_deep leaf before u tail begun deep = inl (item_deep leaf before (u ++ tail) deep (unmarked_begun (u ++ tail) (begins_append u tail begun)))

next_deep : (leaf : Reader UserInputAst) (by : Operand) (text : List ℕ) → skip is_space text ≡ text → item_after leaf (Some by) text ≡ Deep → next_item leaf (joint by text) ≡ Deep
unfolding next_item
next_deep leaf by text unspaced deep = rw (operand_read by text, unspaced, deep)

deep_repeats : (leaf : Reader UserInputAst) (by : Operand) (m : ℕ) (text : List ℕ) → length (joint by text) ≤ m → next_item leaf (joint by text) ≡ Deep → repeated_up_to m (next_item leaf) (joint by text) ≡ Deep
unfolding repeated_up_to
deep_repeats leaf by zero text h deep = (let long = joint_longer by text in absurd (omega arith))
deep_repeats leaf by (suc m) text h deep = rw deep

deep_goes_on : (leaf : Reader UserInputAst) (by : Operand) (text : List ℕ) → next_item leaf (joint by text) ≡ Deep → (next_items leaf or pure []) (32 ∷ joint by text) ≡ Deep
unfolding next_items one skip is_space
deep_goes_on leaf Or text deep = rw deep
deep_goes_on leaf And text deep = rw deep

pub joint_deep : (leaf : Reader UserInputAst) (by : Operand) (text : List ℕ) → Begins text → StartsDeep leaf (Some by) text → Follows leaf (32 ∷ joint by text) too_deep
joint_deep leaf by text begun (inl deep) =
    let next : next_item leaf (joint by text) ≡ Deep = next_deep leaf by text (unspaced_begun text begun) deep in
    record {
      ends = joint_ends by text;
      repeats = λ m h. ap (λ t. repeated_up_to m (next_item leaf) t) (joint_unspaced by text) ∙ deep_repeats leaf by m text (moved (joint_unspaced by text) h) next;
      goes_on = deep_goes_on leaf by text next;
    }
  where
    moved : {a b : List ℕ} {m : ℕ} → a ≡ b → length a ≤ m → length b ≤ m
    moved {a = a} {b = b} {m = m} e h = rw (← e) h
joint_deep leaf by text begun (inr starts) = joint_follows leaf by text too_deep begun starts

tree_deep_first : (leaf : Reader UserInputAst) (text : List ℕ) → skip is_space text ≡ text → item_after leaf None text ≡ Deep → ast_of_leaves leaf text ≡ Deep
unfolding ast_of_leaves
tree_deep_first leaf text unspaced deep = rw (unspaced, deep)

pub tree_deep : (leaf : Reader UserInputAst) (text : List ℕ) → Begins text → StartsDeep leaf None text → ast_of_leaves leaf text ≡ Deep
tree_deep leaf text begun (inl deep) = tree_deep_first leaf text (unspaced_begun text begun) deep
tree_deep leaf text begun (inr starts) = tree_again leaf text too_deep begun starts
